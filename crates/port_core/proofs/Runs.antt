-- What holds over the runs of the table of port rules.
use Rattle.std.proofs.Common.{◌≡◌, Bool, true, false, ◌⊎◌, inl, inr, List, [], ◌∷◌, ◌++◌, None, refl, sym, ◌∙◌}
use Rattle.std.specs.List.{list_any}
use Rattle.elem_core.specs.Tree.{Tree}
use Rattle.port_core.specs.Connection.{quiet, pulled, ready, pushed, Connection}
use Rattle.port_core.specs.PortRules.{Move, pull, on_pull, push, on_push, grab, complete, fail, cancel, on_cancel, on_finish, on_fail, IsOpen, Allowed, after_move}
use Rattle.port_core.specs.Decoding.{is_idle, is_ready}
use Rattle.port_core.specs.Runs.{AllowedRun, is_on_pull, is_on_push, is_grab, is_closing, is_ending}

is_one : (b : Bool) → (b ≡ true) ⊎ (b ≡ false)
is_one true = inl refl
is_one false = inr refl

-- Where a fact of the connection stays until a move of one sort comes, and it refuses the last move, a move of that sort came.
pub until : (Q : Connection → Type 0) (sort : Move → Bool) → ((m : Move) (p : Connection) → sort m ≡ false → Q p → Allowed m p → Q (after_move m p))
    → (last : Move) → ((p : Connection) → Q p → Allowed last p → ⊥) → (ms : List Move) (p : Connection) → Q p → AllowedRun p (ms ++ last ∷ []) → list_any sort ms ≡ true
until Q sort keeps last clash [] p q run = absurd (clash p q run.0)
until Q sort keeps last clash (m ∷ ms) p q run =
    elim (is_one (sort m)) [
      | inl is ↦ rw is refl
      | inr not_is ↦ rw not_is (until Q sort keeps last clash ms (after_move m p) (keeps m p not_is q run.0) run.1)
    ]

-- the output may not push, until a pull comes
unready_stays : (m : Move) (p : Connection) → is_on_pull m ≡ false → is_ready p.step ≡ false → Allowed m p → is_ready (after_move m p).step ≡ false
unready_stays pull p n q a = refl
unready_stays on_pull p n q a = cc
unready_stays (push e) p n q a = refl
unready_stays (on_push e) p n q a = refl
unready_stays (grab e) p n q a = q
unready_stays complete p n q a = q
unready_stays (fail c) p n q a = q
unready_stays cancel p n q a = q
unready_stays on_cancel p n q a = q
unready_stays on_finish p n q a = q
unready_stays (on_fail c) p n q a = q

unready_refuses : (e : Tree) (p : Connection) → is_ready p.step ≡ false → Allowed (push e) p → ⊥
unready_refuses e p q a = let b : is_ready ready ≡ false = rw a.1 at q in cc

pub push_after_pull : (p : Connection) (ms : List Move) (e : Tree) → is_ready p.step ≡ false → AllowedRun p (ms ++ push e ∷ []) → list_any is_on_pull ms ≡ true
push_after_pull p ms e q run = until (λ (r : Connection). is_ready r.step ≡ false) is_on_pull unready_stays (push e) (unready_refuses e) ms p q run

-- no move opens a side again
-- Where a fact of the connection stays whatever comes, and it refuses the last move, that move does not come.
pub forever : (Q : Connection → Type 0) → ((m : Move) (p : Connection) → Q p → Q (after_move m p)) → (last : Move) → ((p : Connection) → Q p → Allowed last p → ⊥) → (ms : List Move) (p : Connection) → Q p → AllowedRun p (ms ++ last ∷ []) → ⊥
forever Q keeps last clash [] p q run = clash p q run.0
forever Q keeps last clash (m ∷ ms) p q run = forever Q keeps last clash ms (after_move m p) (keeps m p q) run.1

in_stays : (m : Move) (p : Connection) → p.in_closed ≡ true → (after_move m p).in_closed ≡ true
in_stays pull p q = q
in_stays on_pull p q = q
in_stays (push e) p q = q
in_stays (on_push e) p q = q
in_stays (grab e) p q = q
in_stays complete p q = q
in_stays (fail c) p q = q
in_stays cancel p q = refl
in_stays on_cancel p q = q
in_stays on_finish p q = refl
in_stays (on_fail c) p q = refl

out_stays : (m : Move) (p : Connection) → p.out_closed ≡ true → (after_move m p).out_closed ≡ true
out_stays pull p q = q
out_stays on_pull p q = q
out_stays (push e) p q = q
out_stays (on_push e) p q = q
out_stays (grab e) p q = q
out_stays complete p q = refl
out_stays (fail c) p q = refl
out_stays cancel p q = q
out_stays on_cancel p q = refl
out_stays on_finish p q = q
out_stays (on_fail c) p q = q

-- what needs both sides open does not come once a side is closed
pub closed_for_good : (last : Move) → ((p : Connection) → Allowed last p → IsOpen p) → (m : Move) (p : Connection) (ms : List Move) → is_closing m ≡ true → AllowedRun p (m ∷ (ms ++ last ∷ [])) → ⊥
closed_for_good last opens pull p ms e run = cc
closed_for_good last opens on_pull p ms e run = cc
closed_for_good last opens (push t) p ms e run = cc
closed_for_good last opens (on_push t) p ms e run = cc
closed_for_good last opens (grab t) p ms e run = cc
closed_for_good last opens complete p ms e run = forever (λ (r : Connection). r.out_closed ≡ true) out_stays last (λ r q a. let f = (opens r a).1 in cc) ms (after_move complete p) refl run.1
closed_for_good last opens (fail c) p ms e run = forever (λ (r : Connection). r.out_closed ≡ true) out_stays last (λ r q a. let f = (opens r a).1 in cc) ms (after_move (fail c) p) refl run.1
closed_for_good last opens cancel p ms e run = forever (λ (r : Connection). r.in_closed ≡ true) in_stays last (λ r q a. let f = (opens r a).0 in cc) ms (after_move cancel p) refl run.1
closed_for_good last opens on_cancel p ms e run = forever (λ (r : Connection). r.out_closed ≡ true) out_stays last (λ r q a. let f = (opens r a).1 in cc) ms (after_move on_cancel p) refl run.1
closed_for_good last opens on_finish p ms e run = forever (λ (r : Connection). r.in_closed ≡ true) in_stays last (λ r q a. let f = (opens r a).0 in cc) ms (after_move on_finish p) refl run.1
closed_for_good last opens (on_fail c) p ms e run = forever (λ (r : Connection). r.in_closed ≡ true) in_stays last (λ r q a. let f = (opens r a).0 in cc) ms (after_move (on_fail c) p) refl run.1

-- the input may not ask, until it grabs
busy_stays : (m : Move) (p : Connection) → is_grab m ≡ false → is_idle p.step p.to_grab ≡ false → Allowed m p → is_idle (after_move m p).step (after_move m p).to_grab ≡ false
busy_stays pull p n q a = refl
busy_stays on_pull p n q a = refl
busy_stays (push e) p n q a = refl
busy_stays (on_push e) p n q a = refl
busy_stays (grab e) p n q a = cc
busy_stays complete p n q a = q
busy_stays (fail c) p n q a = q
busy_stays cancel p n q a = q
busy_stays on_cancel p n q a = q
busy_stays on_finish p n q a = q
busy_stays (on_fail c) p n q a = q

busy_refuses : (p : Connection) → is_idle p.step p.to_grab ≡ false → Allowed pull p → ⊥
busy_refuses p q a = let b : is_idle quiet None ≡ false = rw (a.1.0, a.1.1) at q in cc

pub pull_after_grab : (p : Connection) (ms : List Move) → is_idle p.step p.to_grab ≡ false → AllowedRun p (ms ++ pull ∷ []) → list_any is_grab ms ≡ true
pull_after_grab p ms q run = until (λ (r : Connection). is_idle r.step r.to_grab ≡ false) is_grab busy_stays pull busy_refuses ms p q run

-- a pull is outstanding, until an element comes
asked_stays : (m : Move) (p : Connection) → is_on_push m ≡ false → (p.step ≡ quiet → ⊥) → Allowed m p → (after_move m p).step ≡ quiet → ⊥
asked_stays pull p n q a = λ e. cc
asked_stays on_pull p n q a = λ e. cc
asked_stays (push t) p n q a = λ e. cc
asked_stays (on_push t) p n q a = cc
asked_stays (grab t) p n q a = q
asked_stays complete p n q a = q
asked_stays (fail c) p n q a = q
asked_stays cancel p n q a = q
asked_stays on_cancel p n q a = q
asked_stays on_finish p n q a = q
asked_stays (on_fail c) p n q a = q

pub pull_after_push : (p : Connection) (ms : List Move) → (p.step ≡ quiet → ⊥) → AllowedRun p (ms ++ pull ∷ []) → list_any is_on_push ms ≡ true
pull_after_push p ms q run = until (λ (r : Connection). r.step ≡ quiet → ⊥) is_on_push asked_stays pull (λ r n a. n a.1.0) ms p q run

-- an element is on its way, until it comes
moving_stays : (e : Tree) (m : Move) (p : Connection) → is_on_push m ≡ false → p.step ≡ pushed e → Allowed m p → (after_move m p).step ≡ pushed e
moving_stays e pull p n q a = let b : quiet ≡ pushed e = sym a.1.0 ∙ q in cc
moving_stays e on_pull p n q a = let b : pulled ≡ pushed e = sym a.1 ∙ q in cc
moving_stays e (push t) p n q a = let b : ready ≡ pushed e = sym a.1 ∙ q in cc
moving_stays e (on_push t) p n q a = cc
moving_stays e (grab t) p n q a = q
moving_stays e complete p n q a = q
moving_stays e (fail c) p n q a = q
moving_stays e cancel p n q a = q
moving_stays e on_cancel p n q a = q
moving_stays e on_finish p n q a = q
moving_stays e (on_fail c) p n q a = q

ending_refuses : (e : Tree) (m : Move) → is_ending m ≡ true → (p : Connection) → p.step ≡ pushed e → Allowed m p → ⊥
ending_refuses e pull n p q a = cc
ending_refuses e on_pull n p q a = cc
ending_refuses e (push t) n p q a = cc
ending_refuses e (on_push t) n p q a = cc
ending_refuses e (grab t) n p q a = cc
ending_refuses e complete n p q a = cc
ending_refuses e (fail c) n p q a = cc
ending_refuses e cancel n p q a = cc
ending_refuses e on_cancel n p q a = cc
ending_refuses e on_finish n p q a = a.0.1.1 e q
ending_refuses e (on_fail c) n p q a = a.0.1.1 e q

pub end_after_push : (p : Connection) (e : Tree) (m : Move) (ms : List Move) → is_ending m ≡ true → AllowedRun p (push e ∷ (ms ++ m ∷ [])) → list_any is_on_push ms ≡ true
end_after_push p e m ms n run = until (λ (r : Connection). r.step ≡ pushed e) is_on_push (moving_stays e) m (ending_refuses e m n) ms (after_move (push e) p) refl run.1

-- what comes to an input that is closed, or to an output
pub no_push_after : (m : Move) (p : Connection) (ms : List Move) (e : Tree) → is_ending m ≡ true → AllowedRun p (m ∷ (ms ++ on_push e ∷ [])) → ⊥
no_push_after pull p ms e n run = cc
no_push_after on_pull p ms e n run = cc
no_push_after (push t) p ms e n run = cc
no_push_after (on_push t) p ms e n run = cc
no_push_after (grab t) p ms e n run = cc
no_push_after complete p ms e n run = cc
no_push_after (fail c) p ms e n run = cc
no_push_after cancel p ms e n run = cc
no_push_after on_cancel p ms e n run = cc
no_push_after on_finish p ms e n run = forever (λ (r : Connection). r.in_closed ≡ true) in_stays (on_push e) (λ r q a. let f = a.0 in cc) ms (after_move on_finish p) refl run.1
no_push_after (on_fail c) p ms e n run = forever (λ (r : Connection). r.in_closed ≡ true) in_stays (on_push e) (λ r q a. let f = a.0 in cc) ms (after_move (on_fail c) p) refl run.1

pub no_pull_after : (p : Connection) (ms : List Move) → AllowedRun p (on_cancel ∷ (ms ++ on_pull ∷ [])) → ⊥
no_pull_after p ms run = forever (λ (r : Connection). r.out_closed ≡ true) out_stays on_pull (λ r q a. let f = a.0.1 in cc) ms (after_move on_cancel p) refl run.1
