-- The substreams of a stage that splits: all but the last have ended.
use Rattle.std.specs.Prelude.{◌≡◌, ◌⊎◌, ℕ, ◌+◌, Bool, true, false, List, [], ◌∷◌, ◌++◌, map, Option, Some, None, Ok, Err}
use Rattle.elem_core.specs.Tree.{Tree}
use Rattle.elem_core.specs.declared.why.Why.{Why}
use Rattle.stream_model.specs.FanIn.{Tagged, tag}
use Rattle.port_core.specs.declared.chain.ChainStep.TheVariants.{Go, Closed, Failed}
use Rattle.port_core.specs.ListFunction.{ListFunction}
use Rattle.step_work.specs.Slots.{MayCall, SlotHolds}

-- the end of a substream that took this list, by its list function: it adds this, or it had stopped; or it fails
abbrev pub EndsSub : ListFunction → List Tree → Option Why → List Tree → Type 0
EndsSub f took None given = ((f.stop took ≡ Go) × (f.adds took ≡ Ok given)) ⊎ ((f.stop took ≡ Closed) × (given ≡ []))
EndsSub f took (Some w) given = (f.stop took ≡ Go) × (f.adds took ≡ Err w)

-- a substream goes on, or its chain has stopped
abbrev pub Calm : ListFunction → List Tree → Type 0
Calm f took = (f.stop took ≡ Go) ⊎ (f.stop took ≡ Closed)

-- it took one more element and gave this, or it fails
abbrev pub FeedsSub : ListFunction → List Tree → Tree → Option Why → List Tree → Type 0
FeedsSub f took t None given = (f.gives (took ++ t ∷ []) ≡ f.gives took ++ given) × Calm f (took ++ t ∷ [])
FeedsSub f took t (Some w) given = f.stop (took ++ t ∷ []) ≡ Failed w

-- how many have ended, whether one more has not, and its chain
pub record Last (C : Type 0) : Type 0 where
  pub ended : ℕ
  pub live : Bool
  pub slot : Option C

module _ {C : Type 0} (rest : C → ListFunction) (is_open : C → Bool) (f : ListFunction) where
  -- the one that has not ended, where there is one, took this list
  abbrev pub LastTook : Last C → Option (List Tree) → Type 0
  LastTook l None = l.live ≡ false
  LastTook l (Some took) = (l.live ≡ true) × (SlotHolds rest is_open f l.slot took)

  -- it has ended, and gave this
  abbrev pub LastEnds : Last C → Option (List Tree) → Option Why → List Tagged → List Tagged → Last C → Type 0
  LastEnds l None why before after new = (why ≡ None) × ((after ≡ before) × ((new.ended ≡ l.ended) × (new.live ≡ false)))
  LastEnds l (Some took) None before after new = (given : List Tree) × (EndsSub f took None given
      × ((after ≡ before ++ map (tag l.ended) given) × ((new.ended ≡ l.ended + 1) × (new.live ≡ false))))
  LastEnds l (Some took) (Some w) before after new = EndsSub f took (Some w) []

  -- a new one took its first element
  abbrev pub LastOpens : Last C → Tree → Option Why → List Tagged → List Tagged → Last C → Type 0
  LastOpens l t None before after new = (after ≡ before ++ map (tag l.ended) (f.gives (t ∷ [])))
      × (Calm f (t ∷ []) × ((new.ended ≡ l.ended) × LastTook new (Some (t ∷ []))))
  LastOpens l t (Some w) before after new = f.stop (t ∷ []) ≡ Failed w

  -- it took one more
  abbrev pub LastFeeds : Last C → List Tree → Tree → Option Why → List Tagged → List Tagged → Last C → Type 0
  LastFeeds l took t None before after new = (given : List Tree) × (FeedsSub f took t None given
      × ((after ≡ before ++ map (tag l.ended) given) × ((new.ended ≡ l.ended) × LastTook new (Some (took ++ t ∷ [])))))
  LastFeeds l took t (Some w) before after new = FeedsSub f took t (Some w) []

module _ {C : Type 0} (rest : C → ListFunction) (is_open : C → Bool) (f : ListFunction) where
  -- one more element goes to the last one; where all have ended, a new one opens with it
  abbrev pub LastGrows : Last C → Option (List Tree) → Tree → Option Why → List Tagged → List Tagged → Last C → Type 0
  LastGrows l None t why before after new = LastOpens rest is_open f l t why before after new
  LastGrows l (Some took) t why before after new = LastFeeds rest is_open f l took t why before after new

-- the same of the struct
abbrev pub MayCallLast : {C : Type 0} → (C → ListFunction) → (C → Bool) → Last C → Type 0
MayCallLast rest is_open l = MayCall rest is_open l.slot
