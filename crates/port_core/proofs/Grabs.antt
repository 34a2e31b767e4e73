-- The elements of a connection: those that were pushed are grabbed once each, in their order.
use Rattle.std.proofs.Common.{◌≡◌, ◌≤◌, List, [], ◌∷◌, ◌++◌, length, Option, Some, None, refl, sym, ◌∙◌, ap, append_assoc, append-nil, arith}
use Rattle.elem_core.specs.Tree.{Tree}
use Rattle.port_core.specs.Connection.{ConnStep, quiet, pulled, ready, pushed, Connection, unasked}
use Rattle.port_core.specs.PortRules.{Move, pull, on_pull, push, on_push, grab, complete, fail, cancel, on_cancel, on_finish, on_fail, Allowed, after_move}
use Rattle.port_core.specs.Runs.{AllowedRun, led, pushed_in, grabbed_in}

-- the element that waits to be grabbed or is on its way
abbrev held_by : ConnStep → Option Tree → List Tree
held_by quiet None = []
held_by quiet (Some e) = e ∷ []
held_by pulled g = []
held_by ready g = []
held_by (pushed e) g = e ∷ []

-- an element waits only where nobody pulled
abbrev Fits : ConnStep → Option Tree → Type 0
Fits quiet g = Unit {0}
Fits pulled g = g ≡ None
Fits ready g = g ≡ None
Fits (pushed e) g = g ≡ None

abbrev one_pushed : Move → List Tree
one_pushed m = pushed_in (m ∷ [])

abbrev one_grabbed : Move → List Tree
one_grabbed m = grabbed_in (m ∷ [])

few : (s : ConnStep) (g : Option Tree) → length (held_by s g) ≤ 1
few quiet None = omega arith
few quiet (Some e) = omega arith
few pulled g = omega arith
few ready g = omega arith
few (pushed e) g = omega arith

fits_none : (s : ConnStep) (g : Option Tree) → Fits s g → (s ≡ quiet → ⊥) → g ≡ None
fits_none quiet g f n = absurd (n refl)
fits_none pulled g f n = f
fits_none ready g f n = f
fits_none (pushed e) g f n = f

-- an element that waits is there where nobody pulled
fits_some : (s : ConnStep) (g : Option Tree) (e : Tree) → Fits s g → g ≡ Some e → s ≡ quiet
fits_some quiet g e f i = refl
fits_some pulled g e f i = cc
fits_some ready g e f i = cc
fits_some (pushed t) g e f i = cc

pub fits_next : (m : Move) (p : Connection) → Fits p.step p.to_grab → Allowed m p → Fits (after_move m p).step (after_move m p).to_grab
fits_next pull p f a = a.1.1
fits_next on_pull p f a = fits_none p.step p.to_grab f (λ e. cc)
fits_next (push t) p f a = fits_none p.step p.to_grab f (λ e. cc)
fits_next (on_push t) p f a = tt
fits_next (grab t) p f a = rw (fits_some p.step p.to_grab t f a) tt
fits_next complete p f a = f
fits_next (fail c) p f a = f
fits_next cancel p f a = f
fits_next on_cancel p f a = f
fits_next on_finish p f a = f
fits_next (on_fail c) p f a = f

-- one move
held_next : (m : Move) (p : Connection) → Fits p.step p.to_grab → Allowed m p → held_by p.step p.to_grab ++ one_pushed m ≡ one_grabbed m ++ held_by (after_move m p).step (after_move m p).to_grab
held_next pull p f a = rw (a.1.0, a.1.1) refl
held_next on_pull p f a = rw a.1 refl
held_next (push t) p f a = rw a.1 refl
held_next (on_push t) p f a = rw a.1 refl
held_next (grab t) p f a = rw (fits_some p.step p.to_grab t f a, a) refl
held_next complete p f a = append-nil _
held_next (fail c) p f a = append-nil _
held_next cancel p f a = append-nil _
held_next on_cancel p f a = append-nil _
held_next on_finish p f a = append-nil _
held_next (on_fail c) p f a = append-nil _

pushed_first : (m : Move) (ms : List Move) → pushed_in (m ∷ ms) ≡ one_pushed m ++ pushed_in ms
pushed_first pull ms = refl
pushed_first on_pull ms = refl
pushed_first (push t) ms = refl
pushed_first (on_push t) ms = refl
pushed_first (grab t) ms = refl
pushed_first complete ms = refl
pushed_first (fail c) ms = refl
pushed_first cancel ms = refl
pushed_first on_cancel ms = refl
pushed_first on_finish ms = refl
pushed_first (on_fail c) ms = refl

grabbed_first : (m : Move) (ms : List Move) → grabbed_in (m ∷ ms) ≡ one_grabbed m ++ grabbed_in ms
grabbed_first pull ms = refl
grabbed_first on_pull ms = refl
grabbed_first (push t) ms = refl
grabbed_first (on_push t) ms = refl
grabbed_first (grab t) ms = refl
grabbed_first complete ms = refl
grabbed_first (fail c) ms = refl
grabbed_first cancel ms = refl
grabbed_first on_cancel ms = refl
grabbed_first on_finish ms = refl
grabbed_first (on_fail c) ms = refl

-- what is at the connection and what is pushed are what is grabbed and what is at the connection then
held_led : (ms : List Move) (p : Connection) → Fits p.step p.to_grab → AllowedRun p ms → held_by p.step p.to_grab ++ pushed_in ms ≡ grabbed_in ms ++ held_by (led p ms).step (led p ms).to_grab
held_led [] p f run = append-nil _
held_led (m ∷ ms) p f run =
    let h = held_by p.step p.to_grab in
    let k = held_by (after_move m p).step (after_move m p).to_grab in
    let l = held_by (led (after_move m p) ms).step (led (after_move m p) ms).to_grab in
    let now : k ++ pushed_in ms ≡ grabbed_in ms ++ l = held_led ms (after_move m p) (fits_next m p f run.0) run.1 in
    ap (λ (x : List Tree). h ++ x) (pushed_first m ms)
    ∙ sym (append_assoc h (one_pushed m) (pushed_in ms))
    ∙ ap (λ (x : List Tree). x ++ pushed_in ms) (held_next m p f run.0)
    ∙ append_assoc (one_grabbed m) k (pushed_in ms)
    ∙ ap (λ (x : List Tree). one_grabbed m ++ x) now
    ∙ sym (append_assoc (one_grabbed m) (grabbed_in ms) l)
    ∙ ap (λ (x : List Tree). x ++ l) (sym (grabbed_first m ms))

pub grabbed_once : (ms : List Move) → AllowedRun unasked ms → (left : List Tree) × ((pushed_in ms ≡ grabbed_in ms ++ left) × (length left ≤ 1))
grabbed_once ms run = (held_by (led unasked ms).step (led unasked ms).to_grab, (held_led ms unasked tt run, few (led unasked ms).step (led unasked ms).to_grab))
