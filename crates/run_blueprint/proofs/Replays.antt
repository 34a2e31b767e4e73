-- The moves that the nodes of a run follow and those that they made, along its lists.
use Rattle.std.specs.Prelude.{slice_get, Option, None, Some}
use Rattle.std.specs.Option.{unwrap_or}
use Rattle.std.proofs.Common.{◌≡◌, ◌∙◌, ℕ, zero, suc, ◌+◌, Bool, List, [], ◌∷◌, map, length, refl, sym, ap, arith}
use Rattle.stream_model.specs.Composed.{count_from}
use Rattle.stage_in.specs.declared.logic.InLogic.{InLogic}
use Rattle.stage_in.specs.declared.logic.InLogic.TheVariants as fan_in
use Rattle.stage_in.specs.Moves.{in_picks, in_moves, in_misfit}
use Rattle.stage_out.specs.declared.logic.OutLogic.{OutLogic}
use Rattle.stage_out.specs.declared.logic.OutLogic.TheVariants as fan_out
use Rattle.stage_out.specs.Moves.{out_picks, out_moves, out_misfit}
use Rattle.stage_state.specs.declared.logic.StateLogic.{StateLogic}
use Rattle.stage_state.specs.declared.logic.StateLogic.TheVariants as state
use Rattle.stage_state.specs.Moves.{state_picks, state_moves, state_misfit}
use Rattle.stage_sub.specs.Leds.{misfit_at}
use Rattle.nodes.specs.Nodes.{node_picks, node_moves, node_misfit, node_plan}
use Rattle.nodes.specs.declared.node.IslandNode.{IslandNode}
use Rattle.nodes.specs.declared.node.IslandNode.TheVariants as node
use Rattle.interpreter.specs.Parts.{BecomesOf, AllBecome}
use Rattle.interpreter.specs.Picks.{Pick, with_picks, picks_of}
use Rattle.interpreter.specs.declared.parts.Seated.{Seated}
use Rattle.interpreter.specs.declared.parts.Work.{Work}
use Rattle.interpreter.specs.declared.parts.Work.TheVariants as work
use Rattle.materializer.specs.Choosers.{NoneFollow, plan_at}
use Rattle.materializer.specs.Seats.{work_plan, place_plan}

none_some : {A : Type 0} {x : A} → None ≡ Some x → ⊥
none_some e = cc

one_pick : (p r : Pick) → Some p ≡ Some r → p ≡ r
one_pick p r e = cc

-- where none follows moves this one follows none
pub none_at : (plans : List (Option (List ℕ))) → NoneFollow plans → (k : ℕ) → plan_at plans k ≡ None
none_at [] h k = refl
none_at (p ∷ ps) h zero = h.0
none_at (p ∷ ps) h (suc k) = none_at ps h.1 k

-- ---- what the nodes follow

module _ {S D L H B : Type 0} where
  work_follows : (k room : ℕ) (w : Work S D L H B) (x : IslandNode S D L H B) → BecomesOf k room w x → work_plan w ≡ node_plan x
  work_follows k room (work.Reading r) x h = sym (ap node_plan h)
  work_follows k room (work.Making shape) x h = sym (ap node_plan h)
  work_follows k room (work.Linear l) x h = sym (ap node_plan h)
  work_follows k room (work.State l) x h = sym (ap node_plan h)
  work_follows k room (work.Sub l) x h = sym (ap node_plan h)
  work_follows k room (work.FanIn l n) x h = sym (ap node_plan h)
  work_follows k room (work.FanOut l n) x h = sym (ap node_plan h)
  work_follows k room (work.Custom l n m) x h = sym (ap node_plan h)
  work_follows k room (work.Writing shape (Some d)) x h = sym (ap node_plan h)
  work_follows k room (work.Writing shape None) x h = sym (ap node_plan h)
  work_follows k room (work.LaneIn u) x h = sym (ap node_plan h)
  work_follows k room (work.LaneOut u) x h = sym (ap node_plan h)

  pub follow_along : (places : List (Seated S D L H B)) (firsts : List (IslandNode S D L H B)) → AllBecome places firsts → (k : ℕ) (x : IslandNode S D L H B) → slice_get firsts k ≡ Some x → plan_at (map place_plan places) k ≡ node_plan x
  follow_along [] [] h k x at = absurd (none_some at)
  follow_along [] (y ∷ ys) h k x at = absurd h
  follow_along (p ∷ ps) [] h k x at = absurd h
  follow_along (p ∷ ps) (y ∷ ys) h zero x at = let same : y ≡ x = cc in work_follows p.node p.room p.work y h.0 ∙ ap node_plan same
  follow_along (p ∷ ps) (y ∷ ys) h (suc k) x at = follow_along ps ys h.1 k x at

-- ---- what they made

-- the number at a place
pub count_at : (q m i k : ℕ) → slice_get (count_from q m) i ≡ Some k → k ≡ q + i
count_at q zero i k at = absurd (none_some at)
count_at q (suc m) zero k at = let same : q ≡ k = cc in omega (arith, same)
count_at q (suc m) (suc i) k at = let rest = count_at (q + 1) m i k at in omega (arith, rest)

-- one of these nodes, at its place, chose these moves
pub record Chose {S D L H B : Type 0} (q : ℕ) (xs : List (IslandNode S D L H B)) (k : ℕ) (moves : List ℕ) : Type 0 where
  pub at : ℕ
  pub node : IslandNode S D L H B
  pub there : slice_get xs at ≡ Some node
  pub place : k ≡ q + at
  pub picks : node_picks node ≡ Some moves

behind : (q : ℕ) (o : Option (List ℕ)) (rest : List Pick) (p : Pick) → (i : ℕ) → slice_get rest i ≡ Some p → (j : ℕ) × (slice_get (with_picks q o rest) j ≡ Some p)
behind q None rest p i at = (i, at)
behind q (Some m) rest p i at = (suc i, at)

first_made : (q : ℕ) (o : Option (List ℕ)) (rest : List Pick) (moves : List ℕ) (k : ℕ) → o ≡ Some moves → q ≡ k → (j : ℕ) × (slice_get (with_picks q o rest) j ≡ Some (k, moves))
first_made q None rest moves k e is = absurd (none_some e)
first_made q (Some m) rest moves k e is = let same : m ≡ moves = cc in (0, ap (λ (x : ℕ). Some (x, m)) is ∙ ap (λ (l : List ℕ). Some (k, l)) same)

module _ {S D L H B : Type 0} where
  later : (q : ℕ) (y : IslandNode S D L H B) (xs : List (IslandNode S D L H B)) (k : ℕ) (moves : List ℕ) → Chose (q + 1) xs k moves → Chose q (y ∷ xs) k moves
  later q y xs k moves c = record { at = suc c.at; node = c.node; there = c.there; place = let p = c.place in omega (arith, p); picks = c.picks }

  by_first : (q : ℕ) (y : IslandNode S D L H B) (xs : List (IslandNode S D L H B)) (o : Option (List ℕ)) (rest : List Pick) (i k : ℕ) (moves : List ℕ) → node_picks y ≡ o → ((j : ℕ) → slice_get rest j ≡ Some (k, moves) → Chose q (y ∷ xs) k moves) → slice_get (with_picks q o rest) i ≡ Some (k, moves) → Chose q (y ∷ xs) k moves
  by_first q y xs None rest i k moves e more at = more i at
  by_first q y xs (Some m) rest zero k moves e more at =
      let both = one_pick (q, m) (k, moves) at in
      let number : q ≡ k = ap (λ (p : Pick). p.0) both in
      let same : m ≡ moves = ap (λ (p : Pick). p.1) both in
      record { at = 0; node = y; there = refl; place = omega (arith, number); picks = e ∙ ap Some same }
  by_first q y xs (Some m) rest (suc i) k moves e more at = more i at

  pub chose_along : (q : ℕ) (xs : List (IslandNode S D L H B)) (i k : ℕ) (moves : List ℕ) → slice_get (picks_of (count_from q (length xs)) xs) i ≡ Some (k, moves) → Chose q xs k moves
  chose_along q [] i k moves at = absurd (none_some at)
  chose_along q (y ∷ xs) i k moves at = by_first q y xs (node_picks y) (picks_of (count_from (q + 1) (length xs)) xs) i k moves refl (λ j h. later q y xs k moves (chose_along (q + 1) xs j k moves h)) at

  -- it stands among the picks
  pub made_along : (q : ℕ) (xs : List (IslandNode S D L H B)) (i k : ℕ) (x : IslandNode S D L H B) (moves : List ℕ) → k ≡ q + i → slice_get xs i ≡ Some x → node_picks x ≡ Some moves → (j : ℕ) × (slice_get (picks_of (count_from q (length xs)) xs) j ≡ Some (k, moves))
  made_along q [] i k x moves is at chose = absurd (none_some at)
  made_along q (y ∷ xs) zero k x moves is at chose = let same : y ≡ x = cc in first_made q (node_picks y) (picks_of (count_from (q + 1) (length xs)) xs) moves k (ap node_picks same ∙ chose) (omega (arith, is))
  made_along q (y ∷ xs) (suc i) k x moves is at chose =
      let rest = made_along (q + 1) xs i k x moves (omega (arith, is)) at chose in
      behind q (node_picks y) (picks_of (count_from (q + 1) (length xs)) xs) (k, moves) rest.0 rest.1

-- ---- one that cannot make its next move chooses

state_chooses : (x : StateLogic) (place : ℕ) → state_misfit x ≡ Some place → state_picks x ≡ Some (state_moves x)
state_chooses (state.Machine x) place e = absurd (none_some e)
state_chooses (state.Dropping x) place e = refl
state_chooses (state.Recovering x) place e = refl
state_chooses (state.Obeying x) place e = refl
state_chooses (state.Tripping x) place e = absurd (none_some e)

in_chooses : (x : InLogic) (place : ℕ) → in_misfit x ≡ Some place → in_picks x ≡ Some (in_moves x)
in_chooses (fan_in.Merging x) place e = refl
in_chooses (fan_in.Taking x) place e = absurd (none_some e)
in_chooses (fan_in.Sorting x) place e = absurd (none_some e)
in_chooses (fan_in.Zipping x) place e = absurd (none_some e)

out_chooses : (x : OutLogic) (place : ℕ) → out_misfit x ≡ Some place → out_picks x ≡ Some (out_moves x)
out_chooses (fan_out.Balances x) place e = refl
out_chooses (fan_out.Machines x) place e = absurd (none_some e)

sub_chooses : (stuck : Bool) (moves : Option (List ℕ)) (place : ℕ) → misfit_at stuck moves ≡ Some place → moves ≡ Some (unwrap_or moves [])
sub_chooses stuck None place e = absurd (none_some e)
sub_chooses stuck (Some moves) place e = refl

pub misfit_chooses : {S D L H B : Type 0} (x : IslandNode S D L H B) (place : ℕ) → node_misfit x ≡ Some place → node_picks x ≡ Some (node_moves x)
misfit_chooses (node.State x) place e = state_chooses x place e
misfit_chooses (node.FanIn x) place e = in_chooses x place e
misfit_chooses (node.FanOut x) place e = out_chooses x place e
misfit_chooses (node.Reading x) place e = absurd (none_some e)
misfit_chooses (node.Making x) place e = absurd (none_some e)
misfit_chooses (node.Linear x) place e = absurd (none_some e)
misfit_chooses (node.Custom x) place e = absurd (none_some e)
misfit_chooses (node.Sub x) place e = sub_chooses x.stuck x.logic.moves place e
misfit_chooses (node.Writing x) place e = absurd (none_some e)
misfit_chooses (node.Ignoring x) place e = absurd (none_some e)
misfit_chooses (node.Entering x) place e = absurd (none_some e)
misfit_chooses (node.Leaving x) place e = absurd (none_some e)
