-- From the step contract to the residual law, for every machine.
use Rattle.std.specs.Prelude.{◌==◌, MatchBool}
use Rattle.std.proofs.Common.{◌≡◌, ℕ, Bool, true, false, IsTrue, inl, inr, List, [], ◌∷◌, Option, None, Some, ◌++◌, refl, sym, ap, ◌∙◌, append_assoc, append-nil}
use Rattle.elem_core.specs.Tree.{Tree}
use Rattle.elem_core.specs.declared.why.Cause.{Cause}
use Rattle.stream_model.specs.Outlook.{unended, failed}
use Rattle.stream_model.specs.Machine.{State, going, done, broken, Run, Finish, adds, refuses, Machine, Given, is_going, feed_at, close_at, close, led_by}
use Rattle.elem_core.specs.declared.item.Item.{Item}
use Rattle.elem_core.specs.declared.item.Item.TheVariants as item
use Rattle.stage_core.specs.Held.{told, told_of, Held, owing, shut, sealed_by, sealed_at, failed_at, after, heard, whole, gives}
use Rattle.port_core.specs.Call.{Call, starts, pulls, arrives, cancels}
use Rattle.stage_core.specs.Turn.{Emits, DropsAtEnd, DropsAtFailure, Turn, Residual, TurnAt, ResidualAt}
use Rattle.stage_core.proofs.Told.{told-append, told-end}

-- the outputs g before those of x
abbrev pub before : {S : Type 0} → List Tree → Run S Tree → Run S Tree
before g x = record { gave = g ++ x.gave; state = x.state }

module _ {S : Type 0} (m : Machine S Tree) where
  feed_behind : (g h : List Tree) (st : State S) (t : Tree) → feed_at m (g ++ h) st t ≡ before g (feed_at m h st t)
  feed_behind g h (going s) t = ap (λ (x : List Tree). record { gave = x; state = (m.step s t).state }) (append_assoc g h (m.step s t).gave)
  feed_behind g h done t = refl
  feed_behind g h (broken c) t = refl

  sealed_by_behind : (g h : List Tree) (f : Finish Tree) → sealed_by m (g ++ h) f ≡ before g (sealed_by m h f)
  sealed_by_behind g h (adds o) = ap (λ (x : List Tree). record { gave = x; state = done }) (append_assoc g h o)
  sealed_by_behind g h (refuses c) = refl

  sealed_behind : (g h : List Tree) (st : State S) → sealed_at m (g ++ h) st ≡ before g (sealed_at m h st)
  sealed_behind g h (going s) = sealed_by_behind g h (m.finish s)
  sealed_behind g h done = refl
  sealed_behind g h (broken c) = refl

  failed_behind : (g h : List Tree) (st : State S) (c : Cause) → failed_at m (g ++ h) st c ≡ before g (failed_at m h st c)
  failed_behind g h (going s) c = refl
  failed_behind g h done c = refl
  failed_behind g h (broken d) c = refl

  pub after_behind : (g : List Tree) (x : Run S Tree) (i : Item) → after m (before g x) i ≡ before g (after m x i)
  after_behind g x (item.Elem t) = feed_behind g x.gave x.state t
  after_behind g x item.Ended = sealed_behind g x.gave x.state
  after_behind g x (item.Failed c) = failed_behind g x.gave x.state c

  pub heard_behind : (g : List Tree) (x : Run S Tree) (items : List Item) → heard m (before g x) items ≡ before g (heard m x items)
  heard_behind g x [] = refl
  heard_behind g x (i ∷ items) = ap (λ (y : Run S Tree). heard m y items) (after_behind g x i) ∙ heard_behind g (after m x i) items

  close_behind : (g h : List Tree) (st : State S) → close_at m (g ++ h) st unended ≡ led_by g (close_at m h st unended)
  close_behind g h (going s) = refl
  close_behind g h done = refl
  close_behind g h (broken c) = refl

  -- outputs that are held stand before all that is given later
  pub whole_behind : (g : List Tree) (x : Run S Tree) (items : List Item) → whole m (before g x) items ≡ told g unended ++ whole m x items
  whole_behind g x items =
      ap (λ (y : Run S Tree). told_of (close m y unended)) (heard_behind g x items)
      ∙ ap (λ (y : Given Tree). told_of y) (close_behind g (heard m x items).gave (heard m x items).state)
      ∙ told-append g (close m (heard m x items) unended).list (close m (heard m x items) unended).end

  -- a machine that has stopped hears no more
  after_stopped : (g : List Tree) (st : State S) (i : Item) → is_going st ≡ false → after m (record { gave = g; state = st }) i ≡ record { gave = g; state = st }
  after_stopped g (going s) i h = cc
  after_stopped g done (item.Elem t) h = refl
  after_stopped g done item.Ended h = refl
  after_stopped g done (item.Failed c) h = refl
  after_stopped g (broken d) (item.Elem t) h = refl
  after_stopped g (broken d) item.Ended h = refl
  after_stopped g (broken d) (item.Failed c) h = refl

  pub heard_stopped : (x : Run S Tree) (items : List Item) → is_going x.state ≡ false → heard m x items ≡ x
  heard_stopped x [] h = refl
  heard_stopped x (i ∷ items) h =
      ap (λ (y : Run S Tree). heard m y items) (after_stopped x.gave x.state i h) ∙ heard_stopped x items h

  nothing_before : (z : Run S Tree) → whole m z ≡ whole m (record { gave = [] ++ z.gave; state = z.state })
  nothing_before z = refl

  -- what went out, and then what is given from now on, is what was owed
  pub emitted : (y : Run S Tree) (out : List Item) (new : Held S) → Emits m y out new → (rest : List Item) → whole m y rest ≡ out ++ gives m new rest
  emitted y out shut h rest =
      ap (λ (x : Run S Tree). told_of (close m x unended)) (heard_stopped y rest h.0)
      ∙ sym h.1
      ∙ sym (append-nil out)
  emitted y out (owing z) h rest =
      let bare : Run S Tree = record { gave = []; state = y.state } in
      let one : whole m y rest ≡ told y.gave unended ++ whole m bare rest =
      ap (λ (g : List Tree). whole m (record { gave = g; state = y.state }) rest) (sym (append-nil y.gave)) ∙ whole_behind y.gave bare rest in
      let two : whole m z rest ≡ told z.gave unended ++ whole m bare rest =
      ap (λ (g : List Tree). whole m (record { gave = g; state = z.state }) rest) (sym (append-nil z.gave))
      ∙ whole_behind z.gave (record { gave = []; state = z.state }) rest
      ∙ ap (λ (st : State S). told z.gave unended ++ whole m (record { gave = []; state = st }) rest) h.1 in
      one
      ∙ ap (λ (is : List Item). is ++ whole m bare rest) h.0
      ∙ append_assoc out (told z.gave unended) (whole m bare rest)
      ∙ ap (λ (is : List Item). out ++ is) (sym two)

  -- ---- the residual law of a handler

  drops_at_end : (x : Run S Tree) (out : List Item) (new : Held S) → DropsAtEnd m x out new → (rest : List Item)
      → gives m (owing x) (item.Ended ∷ rest) ≡ told x.gave unended ++ (out ++ gives m new rest)
  drops_at_end x out new (s, (c, (at, (refusal, (early, (is, over)))))) rest =
      let y : after m x item.Ended ≡ record { gave = x.gave; state = broken c } =
      ap (sealed_at m x.gave) at ∙ ap (sealed_by m x.gave) refusal in
      ap (λ (r : Run S Tree). whole m r rest) y
      ∙ ap (λ (r : Run S Tree). told_of (close m r unended)) (heard_stopped (record { gave = x.gave; state = broken c }) rest refl)
      ∙ told-end x.gave (failed c)
      ∙ ap (λ (is : List Item). told x.gave unended ++ is) (rw (is, over) refl)

  drops_at_failure_at : (g : List Tree) (st : State S) (c : Cause) → IsTrue (is_going st) → failed_at m g st c ≡ record { gave = g; state = broken c }
  drops_at_failure_at g (going s) c h = refl
  drops_at_failure_at g done c h = cc
  drops_at_failure_at g (broken d) c h = cc

  drops_at_failure : (x : Run S Tree) (c : Cause) (out : List Item) (new : Held S) → DropsAtFailure m x c out new → (rest : List Item)
      → gives m (owing x) (item.Failed c ∷ rest) ≡ told x.gave unended ++ (out ++ gives m new rest)
  drops_at_failure x c out new ((on, drop), (is, over)) rest =
      ap (λ (r : Run S Tree). whole m r rest) (drops_at_failure_at x.gave x.state c on)
      ∙ ap (λ (r : Run S Tree). told_of (close m r unended)) (heard_stopped (record { gave = x.gave; state = broken c }) rest refl)
      ∙ told-end x.gave (failed c)
      ∙ ap (λ (is : List Item). told x.gave unended ++ is) (rw (is, over) refl)

  -- bridge (a): the step contract is the residual law, for every rest and every end
  pub turn_residual : (x : Run S Tree) (brought : Option Item) (out : List Item) (new : Held S) → Turn m x brought out new → Residual m x brought out new
  turn_residual x None out new h = record { lost = []; may = refl; same = λ rest. emitted x out new h rest }
  turn_residual x (Some (item.Elem t)) out new h = record { lost = []; may = refl; same = λ rest. emitted (after m x (item.Elem t)) out new h.0 rest }
  turn_residual x (Some item.Ended) out new (inl h) = record { lost = []; may = inl refl; same = λ rest. emitted (after m x item.Ended) out new h rest }
  turn_residual x (Some item.Ended) out new (inr h) = record { lost = x.gave; may = inr (refl, (h.1.1.1.1.0.0, (h.0, (h.1.0, (h.1.1.0, h.1.1.1.0))))); same = λ rest. drops_at_end x out new h rest }
  turn_residual x (Some (item.Failed c)) out new (inl h) = record { lost = []; may = inl refl; same = λ rest. emitted (after m x (item.Failed c)) out new h rest }
  turn_residual x (Some (item.Failed c)) out new (inr h) = record { lost = x.gave; may = inr (refl, h.0.1); same = λ rest. drops_at_failure x c out new h rest }

  -- the same by call, to be named by a handler's clause
  by_test : (b : Bool) (x : Run S Tree) (out : List Item) (new : Held S) → MatchBool b ((out ≡ []) × (new ≡ shut)) (Turn m x None out new) → MatchBool b (out ≡ []) (Residual m x None out new)
  by_test true x out new h = h.0
  by_test false x out new h = turn_residual x None out new h

  pub residual_at : (j : ℕ) (call : Call) (old new : Held S) (out : List Item) → TurnAt m j call old out new → ResidualAt m j call old out new
  residual_at j starts (owing x) new out h = turn_residual x None out new h
  residual_at j (pulls k) (owing x) new out h = turn_residual x None out new h
  residual_at j (arrives i b) (owing x) new out h = turn_residual x (Some b) out new h
  residual_at j (cancels k) (owing x) new out h = by_test (k == j) x out new h
  residual_at j starts shut new out h = h.0
  residual_at j (pulls k) shut new out h = h.0
  residual_at j (arrives i b) shut new out h = h.0
  residual_at j (cancels k) shut new out h = h.0
