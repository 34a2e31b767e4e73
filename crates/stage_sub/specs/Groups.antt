-- The substreams of a group_by: all go on, or have stopped, until the input ends.
use Rattle.std.specs.Prelude.{◌≡◌, ◌<◌, ⊤, ℕ, Bool, true, false, List, [], ◌∷◌, ◌++◌, length, Option, Some, None, slice_get}
use Rattle.elem_core.specs.Tree.{Tree}
use Rattle.stream_model.specs.Outlook.{End}
use Rattle.stream_model.specs.Machine.{Given}
use Rattle.stream_model.specs.FanIn.{Tagged}
use Rattle.stream_model.specs.Substreams.{Sub, find_key, end_all, trouble, news}
use Rattle.port_core.specs.ListFunction.{ListFunction}
use Rattle.step_work.specs.Slots.{MayCall, SlotHolds}
use Rattle.stage_sub.specs.Splits.{Last, LastTook, LastEnds}
use Rattle.elem_core.specs.declared.why.Why.{Why}

module _ {C : Type 0} (rest : C → ListFunction) (is_open : C → Bool) where
  -- each chain may be called
  abbrev pub MayCallAll : List (Option C) → Type 0
  MayCallAll [] = ⊤
  MayCallAll (c ∷ cs) = MayCall rest is_open c × MayCallAll cs

  -- the chains of these substreams, place by place
  abbrev pub EachHolds : ListFunction → List (Option C) → List Sub → Type 0
  EachHolds f [] [] = ⊤
  EachHolds f (c ∷ cs) (s ∷ ss) = ((s.ended ≡ false) × SlotHolds rest is_open f c s.took) × EachHolds f cs ss
  EachHolds f _ _ = ⊥

  -- the places of the keys, and the chains, are those of these substreams
  pub record Grouped (f : ListFunction) (places : Tree → Option ℕ) (slots : List (Option C)) (ss : List Sub) : Type 0 where
    pub at : (k : Tree) → places k ≡ find_key k 0 ss
    pub holds : EachHolds f slots ss

  -- the input has ended: some of these substreams did, and this was put behind `before`; those of these slots are left
  pub record Halfway (f : ListFunction) (yields : List Tree → End → Given Tree) (i : ℕ) (slots : List (Option C)) (ss : List Sub) (before after : List Tagged)
      : Type 0 where
    pub olds : List Sub
    pub left : List Sub
    pub are : ss ≡ olds ++ left
    pub count : length olds ≡ i
    pub calm : trouble yields (end_all olds) ≡ None
    pub out : after ≡ before ++ news yields 0 olds (end_all olds)
    pub holds : EachHolds f slots left

  -- the end of the substream of number i, with its chain in c
  abbrev pub GroupEndsAt : ℕ → Option C → Option Why → List Tagged → List Tagged → Last C → Type 0
  GroupEndsAt i c why before after new =
      (f : ListFunction) (took : Option (List Tree)) → LastTook rest is_open f (record { ended = i; live = true; slot = c }) took
      → LastEnds rest is_open f (record { ended = i; live = true; slot = c }) took why before after new

  -- the end of the substream at place i
  abbrev pub EndsOne : List (Option C) → ℕ → Option Why → List Tagged → List Tagged → Type 0
  EndsOne slots i why before after = (c : Option C) × ((slice_get slots i ≡ Some c) × ((new : Last C) × GroupEndsAt i c why before after new))

-- each place is that of a slot
abbrev pub Within : {C : Type 0} → (Tree → Option ℕ) → List (Option C) → Type 0
Within places slots = (k : Tree) (i : ℕ) → places k ≡ Some i → i < length slots
