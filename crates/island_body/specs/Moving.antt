-- What a body found where it looked at its lanes.
use Rattle.std.specs.Prelude.{◌≡◌, ◌≢◌, ◌⊎◌, ◌<◌, ◌≤◌, ℕ, true, List, [], length, slice_get, Some}
use Rattle.lane_core.specs.Ends.{taken_items, seen_count, saw_cancel, found_sent, told_sent, told_asked, told_cancel}
use Rattle.lane_core.specs.Boundary.{is_over}
use Rattle.island_body.specs.declared.output.OutputBoundary.{OutputBoundary}
use Rattle.island_body.specs.declared.input.IslandInput.{IslandInput}
use Rattle.island_body.specs.Ends.{AllDone}
use Rattle.island_body.specs.declared.body.Body.{Body}

-- a look at an input end found nothing to take
pub record TookNone (x y : IslandInput) : Type 0 where
  pub taken_is : taken_items y.boundary.lane ≡ taken_items x.boundary.lane
  pub why : (is_over x.boundary ≡ true) ⊎ ((found_sent y.boundary.lane ≡ length (taken_items y.boundary.lane))
      × (told_sent x.boundary.lane ≤ found_sent y.boundary.lane))

-- and one at an output end neither demand nor a cancel that was not known
pub record FoundNone (o p : OutputBoundary) : Type 0 where
  pub seen_is : seen_count p.lane ≡ seen_count o.lane
  pub cancel_is : saw_cancel p.lane ≡ saw_cancel o.lane
  pub told : saw_cancel o.lane ≡ 0 → (told_asked o.lane ≤ seen_count p.lane) × (told_cancel o.lane ≤ saw_cancel p.lane)

-- At the last look at an input end nothing was left to take: its end was taken, or no more items were found sent than were taken. That
-- look came after the other end had told what it had sent.
pub record LeftNone (x y : IslandInput) : Type 0 where
  pub why : (is_over y.boundary ≡ true) ⊎ ((found_sent y.boundary.lane ≡ length (taken_items y.boundary.lane))
      × (told_sent x.boundary.lane ≤ found_sent y.boundary.lane))

-- At the last look at an output end all was seen that the other end had told of demand and of a cancel. Behind a cancel none looks.
pub record SawAll (o p : OutputBoundary) : Type 0 where
  pub told : saw_cancel o.lane ≡ 0 → (told_asked o.lane ≤ seen_count p.lane) × (told_cancel o.lane ≤ saw_cancel p.lane)

-- of the input end at place k nothing was left to take
abbrev pub LeftNoneAt : List IslandInput → List IslandInput → ℕ → Type 0
LeftNoneAt xs ys k = (x y : IslandInput) → slice_get xs k ≡ Some x → slice_get ys k ≡ Some y → LeftNone x y

-- of the output end at place k all was seen that was asked or cancelled
abbrev pub SawAllAt : List OutputBoundary → List OutputBoundary → ℕ → Type 0
SawAllAt os ps k = (o p : OutputBoundary) → slice_get os k ≡ Some o → slice_get ps k ≡ Some p → SawAll o p

-- what the last look found stands
pub record KeepsFound (x y : IslandInput) : Type 0 where
  pub taken_is : taken_items y.boundary.lane ≡ taken_items x.boundary.lane
  pub found_is : found_sent y.boundary.lane ≡ found_sent x.boundary.lane
  pub told_is : told_sent y.boundary.lane ≡ told_sent x.boundary.lane
  pub over_is : is_over y.boundary ≡ is_over x.boundary

-- what an output end saw at its last look stands
pub record KeepsSeen (o p : OutputBoundary) : Type 0 where
  pub seen_is : seen_count p.lane ≡ seen_count o.lane
  pub cancel_is : saw_cancel p.lane ≡ saw_cancel o.lane

module _ {S D L H B : Type 0} where
  -- looks at its first input ends, as many as n, found nothing, and nothing else changed
  pub record TookNoneBelow (old new : Body S D L H B) (n : ℕ) : Type 0 where
    pub island : new.island ≡ old.island
    pub outs : new.outs ≡ old.outs
    pub below : (k : ℕ) (x y : IslandInput) → k < n → slice_get old.ins.items k ≡ Some x → slice_get new.ins.items k ≡ Some y → TookNone x y
    pub above : (k : ℕ) → n ≤ k → slice_get new.ins.items k ≡ slice_get old.ins.items k

  -- the same of that at place k alone
  pub record TookNoneAt (old new : Body S D L H B) (k : ℕ) : Type 0 where
    pub island : new.island ≡ old.island
    pub outs : new.outs ≡ old.outs
    pub here : (x y : IslandInput) → slice_get old.ins.items k ≡ Some x → slice_get new.ins.items k ≡ Some y → TookNone x y
    pub others : (j : ℕ) → j ≢ k → slice_get new.ins.items j ≡ slice_get old.ins.items j

  -- looks at its first output ends, as many as n, found nothing, and nothing else changed
  pub record FoundNoneBelow (old new : Body S D L H B) (n : ℕ) : Type 0 where
    pub island : new.island ≡ old.island
    pub ins : new.ins ≡ old.ins
    pub below : (k : ℕ) (o p : OutputBoundary) → k < n → slice_get old.outs.items k ≡ Some o → slice_get new.outs.items k ≡ Some p → FoundNone o p
    pub above : (k : ℕ) → n ≤ k → slice_get new.outs.items k ≡ slice_get old.outs.items k

  -- the output end at place k found nothing, and no other end was touched
  pub record FoundNoneAt (old new : Body S D L H B) (k : ℕ) : Type 0 where
    pub island : new.island ≡ old.island
    pub ins : new.ins ≡ old.ins
    pub here : (o p : OutputBoundary) → slice_get old.outs.items k ≡ Some o → slice_get new.outs.items k ≡ Some p → FoundNone o p
    pub others : (j : ℕ) → j ≢ k → slice_get new.outs.items j ≡ slice_get old.outs.items j

  -- the input end at place k looked and acted, and no other end
  pub record OnlyIn (old new : Body S D L H B) (k : ℕ) : Type 0 where
    pub outs : new.outs ≡ old.outs
    pub told : (x y : IslandInput) → slice_get old.ins.items k ≡ Some x → slice_get new.ins.items k ≡ Some y
        → told_sent y.boundary.lane ≡ told_sent x.boundary.lane
    pub others : (j : ℕ) → j ≢ k → slice_get new.ins.items j ≡ slice_get old.ins.items j

  -- the same of the output end
  pub record OnlyOut (old new : Body S D L H B) (k : ℕ) : Type 0 where
    pub ins : new.ins ≡ old.ins
    pub others : (j : ℕ) → j ≢ k → slice_get new.outs.items j ≡ slice_get old.outs.items j

  -- what was found at its ends stands
  pub record KeepsLooks (old new : Body S D L H B) : Type 0 where
    pub ins : (k : ℕ) (x y : IslandInput) → slice_get old.ins.items k ≡ Some x → slice_get new.ins.items k ≡ Some y → KeepsFound x y
    pub outs : (k : ℕ) (o p : OutputBoundary) → slice_get old.outs.items k ≡ Some o → slice_get new.outs.items k ≡ Some p → KeepsSeen o p

  -- A turn that ended before its limit: no event is in the ring of its island, at its last look at each lane nothing was left to take
  -- and all was seen, and what it found there is handled: no end of a lane has anything to do.
  pub record HasLooked (old new : Body S D L H B) : Type 0 where
    pub ring : new.island.net.queue ≡ []
    pub ins : (k : ℕ) → LeftNoneAt old.ins.items new.ins.items k
    pub outs : (k : ℕ) → SawAllAt old.outs.items new.outs.items k
    pub done : AllDone new.island new.ins.items new.outs.items
