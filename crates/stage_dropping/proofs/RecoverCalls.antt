-- What each handler of a recover comes to, by its parts.
use Rattle.std.specs.Prelude.{◌≢◌, IfSome, Option, None, Some}
use Rattle.std.proofs.Common.{◌≡◌, ℕ, ◌+◌, Bool, true, false, List, [], ◌∷◌, ◌++◌, refl, sym, ap, ◌∙◌, subst}
use Rattle.elem_core.specs.Tree.{Tree}
use Rattle.elem_core.specs.declared.why.Cause.{Cause}
use Rattle.elem_core.specs.declared.item.Item.TheVariants as item
use Rattle.port_core.specs.Picks.{Picks, next_move, behind_next, may_end, MayNote, logged}
use Rattle.port_core.specs.declared.act.Act.{Act}
use Rattle.port_core.specs.declared.act.Act.TheVariants.{Pull, Push, Complete, Cancel}
use Rattle.port_core.specs.Call.{Call, starts, pulls, arrives, cancels, Meets}
use Rattle.stage_core.specs.declared.phase.Phase.{Phase}
use Rattle.stage_core.specs.declared.phase.Phase.TheVariants.{New, Open, Closed}
use Rattle.stage_dropping.specs.Recoverings.{Recover, is_full, may_turn, turn_noted, port_state, stopped}
use Rattle.stage_dropping.proofs.RecoverSteps.{Handled, next_may, stays_still, asks, owing, gives_own, passes_on, stops_full, ends_now, stops_ended, turns_quiet, turns_asked, stops_failed, own_there, leaves_open, leaves_owing, begins}

-- nothing was done so far
pub still_by : (call : Call) (old : Recover) (acts : List Act) → acts ≡ [] → old.still ≡ true → old.phase ≡ Open → Handled call old acts old
still_by call old acts e on op = rw e (stays_still call old on op)

pub starts_by : (old new : Recover) (acts : List Act) → acts ≡ [] → old.phase ≡ New → Meets starts (port_state old) → new ≡ record old { phase = Open } → Handled starts old acts new
starts_by old new acts e fresh m is = rw (is, e) (begins old fresh m)

-- ---- the output is asked

pub asked_by : (old new : Recover) (acts : List Act) (port : ℕ) → old.still ≡ false → old.phase ≡ Open → port ≡ 0 → old.over ≡ false → new ≡ record old { asked = true } → acts ≡ Pull port ∷ [] → Handled (pulls 0) old acts new
asked_by old new acts port on op z e is a = rw (is, a, z) (asks old on op e)

pub own_owed : (old : Recover) → old.still ≡ false → old.phase ≡ Open → old.over ≡ true → Meets (pulls 0) (port_state old) → old.own ≢ None
own_owed old on op e m = (owing old on op m.0 e m.1.1).own

pub gave_by : (old new : Recover) (acts : List Act) → old.still ≡ false → old.phase ≡ Open → old.over ≡ true → Meets (pulls 0) (port_state old) → new ≡ record old { phase = Closed; own = None } → IfSome old.own (λ t. acts ≡ Push 0 t ∷ Complete 0 ∷ [])
    → Handled (pulls 0) old acts new
gave_by old new acts on op e m is a = by_own old.own refl a
  where
    by_own : (o : Option Tree) → old.own ≡ o → IfSome o (λ t. acts ≡ Push 0 t ∷ Complete 0 ∷ []) → Handled (pulls 0) old acts new
    by_own None n b = absurd (own_owed old on op e m n)
    by_own (Some u) n b = rw (is, b) (gives_own old on op u n e (owing old on op m.0 e m.1.1))

-- ---- an element comes

pub passed_by : (old new : Recover) (acts : List Act) (port : ℕ) (u : Tree) → old.still ≡ false → old.phase ≡ Open → port ≡ 0 → Meets (arrives 0 (item.Elem u)) (port_state old) → is_full (next_move old.left) old.passed ≡ false
    → new ≡ record old { passed = old.passed + 1; asked = false } → acts ≡ Push port u ∷ [] → Handled (arrives 0 (item.Elem u)) old acts new
passed_by old new acts port u on op z m f is a = rw (is, a, z) (passes_on old on op u m f)

pub full_by : (old new : Recover) (acts : List Act) (u : Tree) → old.still ≡ false → old.phase ≡ Open → Meets (arrives 0 (item.Elem u)) (port_state old) → is_full (next_move old.left) old.passed ≡ true → new ≡ stopped old → acts ≡ []
    → Handled (arrives 0 (item.Elem u)) old acts new
full_by old new acts u on op m f is a = rw (is, a) (stops_full old on op u m f)

-- ---- the input has ended

pub ended_by : (old new : Recover) (acts : List Act) (port : ℕ) → old.still ≡ false → old.phase ≡ Open → port ≡ 0 → Meets (arrives 0 item.Ended) (port_state old) → new ≡ record old { phase = Closed } → acts ≡ Complete port ∷ [] → Handled (arrives 0 item.Ended) old acts new
ended_by old new acts port on op z m is a = rw (is, a, z) (ends_now old on op m)

pub end_stops : (old new : Recover) (acts : List Act) → old.still ≡ false → old.phase ≡ Open → Meets (arrives 0 item.Ended) (port_state old) → may_end (next_move old.left) ≡ false → new ≡ stopped old → acts ≡ [] → Handled (arrives 0 item.Ended) old acts new
end_stops old new acts on op m f is a = rw (is, a) (stops_ended old on op m f)

-- ---- the input has failed

pub notes : (old : Recover) → may_turn (next_move old.left) old.passed ≡ true → MayNote old.passed old.left
notes old f = next_may old.left old.passed f

pub own_kept : (old mid : Recover) (c : Cause) → old.still ≡ false → old.phase ≡ Open → Meets (arrives 0 (item.Failed c)) (port_state old) → mid ≡ turn_noted old → mid.own ≢ None
own_kept old mid c on op m is e = own_there old on op c m (sym (ap (λ (l : Recover). l.own) is) ∙ e)

pub turned_by : (old mid new : Recover) (acts : List Act) (c : Cause) → old.still ≡ false → old.phase ≡ Open → Meets (arrives 0 (item.Failed c)) (port_state old) → may_turn (next_move old.left) old.passed ≡ true → mid ≡ turn_noted old
    → (mid.asked ≡ false → (new ≡ record mid { over = true }) × (acts ≡ [])) → (mid.asked ≡ true → new ≡ record mid { over = true; phase = Closed; own = None }) → (mid.asked ≡ true → IfSome mid.own (λ t. acts ≡ Push 0 t ∷ Complete 0 ∷ []))
    → Handled (arrives 0 (item.Failed c)) old acts new
turned_by old mid new acts c on op m f is quiet stage given = by_asked old.asked refl
  where
    asked_is : mid.asked ≡ old.asked
    asked_is = ap (λ (l : Recover). l.asked) is

    by_own : (o : Option Tree) → old.own ≡ o → old.asked ≡ true → IfSome o (λ t. acts ≡ Push 0 t ∷ Complete 0 ∷ []) → Handled (arrives 0 (item.Failed c)) old acts new
    by_own None n e a = absurd (own_there old on op c m n)
    by_own (Some u) n e a = rw (stage (asked_is ∙ e) ∙ ap (λ (l : Recover). record l { over = true; phase = Closed; own = None }) is, a) (turns_asked old on op c u m f e n)

    by_asked : (b : Bool) → old.asked ≡ b → Handled (arrives 0 (item.Failed c)) old acts new
    by_asked false e =
        let q = quiet (asked_is ∙ e) in
        rw (q.0 ∙ ap (λ (l : Recover). record l { over = true }) is, q.1) (turns_quiet old on op c m f e)
    by_asked true e = by_own old.own refl e (subst (λ (o : Option Tree). IfSome o (λ t. acts ≡ Push 0 t ∷ Complete 0 ∷ [])) (ap (λ (l : Recover). l.own) is) (given (asked_is ∙ e)))

pub fail_stops : (old new : Recover) (acts : List Act) (c : Cause) → old.still ≡ false → old.phase ≡ Open → Meets (arrives 0 (item.Failed c)) (port_state old) → may_turn (next_move old.left) old.passed ≡ false → new ≡ stopped old → acts ≡ []
    → Handled (arrives 0 (item.Failed c)) old acts new
fail_stops old new acts c on op m f is a = rw (is, a) (stops_failed old on op c m f)

-- ---- the output was cancelled

pub left_by : (old new : Recover) (acts : List Act) (port : ℕ) → old.still ≡ false → old.phase ≡ Open → port ≡ 0 → Meets (cancels 0) (port_state old) → new ≡ record old { phase = Closed } → (old.over ≡ false → acts ≡ Cancel port ∷ []) → (old.over ≡ true → acts ≡ [])
    → Handled (cancels 0) old acts new
left_by old new acts port on op z m is going over_now = by_over old.over refl
  where
    by_over : (b : Bool) → old.over ≡ b → Handled (cancels 0) old acts new
    by_over false e = rw (is, going e, z) (leaves_open old on op m e)
    by_over true e = rw (is, over_now e) (leaves_owing old on op m e)

-- ---- a move is noted

-- what is kept once its log has room and the move
pub noted_is : (old : Recover) (phase : Phase) (own : Option Tree) (passed : ℕ) (asked over still : Bool) (log roomy now : Picks)
    → record { phase = phase; own = own; passed = passed; asked = asked; over = over; still = still; moves = log.moves; left = log.left; stuck = log.stuck } ≡ old
    → roomy.moves ≡ log.moves → roomy.left ≡ log.left → roomy.stuck ≡ log.stuck → now ≡ logged passed roomy
    → record { phase = phase; own = own; passed = passed; asked = asked; over = over; still = still; moves = now.moves; left = now.left; stuck = now.stuck } ≡ turn_noted old
noted_is old phase own passed asked over still log roomy now is moves left stuck logs =
    subst (λ (l : Recover). record { phase = phase; own = own; passed = passed; asked = asked; over = over; still = still; moves = now.moves; left = now.left; stuck = now.stuck } ≡ turn_noted l) is (rw (logs, moves, left, stuck) refl)

-- where it may be noted of what it follows, it may be of the log with room
pub may_note_in : (old : Recover) (log roomy : Picks) (passed : ℕ) → MayNote old.passed old.left → passed ≡ old.passed → log.left ≡ old.left → roomy.left ≡ log.left → MayNote passed roomy.left
may_note_in old log roomy passed may same left roomy_left = rw (roomy_left, left, same) may
