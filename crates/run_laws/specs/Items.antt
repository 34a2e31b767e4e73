-- The list and the end of a history, what a wire brings of one, and what of it may pass by an outlook.
use Rattle.std.specs.Prelude.{◌≡◌, ℕ, Bool, true, false, List, [], ◌∷◌, length, Option, None, Some}
use Rattle.elem_core.specs.Prefix.{IsPrefix}
use Rattle.elem_core.specs.Tree.{Tree}
use Rattle.elem_core.specs.declared.item.Item.{Item}
use Rattle.elem_core.specs.declared.item.Item.TheVariants as item
use Rattle.stream_model.specs.Outlook.{Outlook, Entry, End, unended, ended, failed, Agrees}
use Rattle.stream_model.specs.Lane.{Carries}
use Rattle.stage_core.specs.Held.{told}

-- the elements of a history before its first end
abbrev pub list_of : List Item → List Tree
list_of [] = []
list_of (item.Elem t ∷ is) = t ∷ list_of is
list_of (item.Ended ∷ is) = []
list_of (item.Failed c ∷ is) = []

-- how the elements of a history end: by its first end, or not at all
abbrev pub end_of_items : List Item → End
end_of_items [] = unended
end_of_items (item.Elem t ∷ is) = end_of_items is
end_of_items (item.Ended ∷ is) = ended
end_of_items (item.Failed c ∷ is) = failed c

-- they are a list, and how it stands
pub record IsToldList (items : List Item) : Type 0 where
  pub list : List Tree
  pub end : End
  pub is : items ≡ told list end

-- the number of a lane, its size or its loss, and 0 where a wire is no lane
abbrev pub lane_size : Option ℕ → ℕ
lane_size None = 0
lane_size (Some s) = s

-- the failures of a list that has come to this end
abbrev pub fails_so : List Tree → End → List Entry
fails_so l unended = []
fails_so l ended = []
fails_so l (failed c) = record { cause = c; low = length l } ∷ []

-- a list that has come to this end has ended
abbrev pub ended_so : End → Bool
ended_so unended = false
ended_so ended = true
ended_so (failed c) = false

-- what has passed, as an outlook of all that may pass
abbrev pub passed_so : List Item → Outlook
passed_so h = record { list = list_of h; ends = ended_so (end_of_items h); fails = fails_so (list_of h) (end_of_items h) }

-- of what was sent at one end of a wire, its other end got this: a first part; where it ended all; where it failed all but
-- as many elements as its lane may lose
abbrev pub ArrivedOf : Option ℕ → List Item → List Item → Type 0
ArrivedOf loss sent got = (l : List Tree) (e : End) → got ≡ told l e → Carries (lane_size loss) (list_of sent) (end_of_items sent) l e

-- whatever list and end a history is, it may pass
abbrev pub MayPass : Outlook → List Item → Type 0
MayPass o h = (l : List Tree) (e : End) → h ≡ told l e → Agrees o l e

-- each of these histories with its outlook
abbrev pub AllMayPass : List Outlook → List (List Item) → Type 0
AllMayPass [] [] = Unit {0}
AllMayPass (o ∷ os) (h ∷ hs) = MayPass o h × AllMayPass os hs
AllMayPass _ _ = ⊥

-- the history is a list and how it stands, which may pass
pub record AgreesWith (o : Outlook) (items : List Item) : Type 0 where
  pub list : List Tree
  pub end : End
  pub is : items ≡ told list end
  pub agrees : Agrees o list end

-- the history is a list, which is the first part of the outlook's, and how it stands
pub record WithinOutlook (o : Outlook) (items : List Item) : Type 0 where
  pub list : List Tree
  pub end : End
  pub is : items ≡ told list end
  pub part : IsPrefix list o.list
