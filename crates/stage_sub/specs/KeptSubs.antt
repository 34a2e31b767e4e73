-- The substreams of a stage that splits or groups, as its logic keeps them.
use Rattle.std.specs.Prelude.{ℕ, Bool, List, Option}
use Rattle.stage_sub.specs.Places.{place_in}
use Rattle.elem_core.specs.Tree.{Tree}
use Rattle.stream_model.specs.Outlook.{End}
use Rattle.stream_model.specs.Machine.{Given}
use Rattle.stream_model.specs.FanIn.{Tagged}
use Rattle.stream_model.specs.Substreams.{Sub, Opening, by_key, before, behind}
use Rattle.port_core.specs.ListFunction.{ListFunction}
use Rattle.stage_sub.specs.Splits.{Last, MayCallLast}
use Rattle.stage_sub.specs.Groups.{MayCallAll, Grouped, Within}
use Rattle.stage_sub.specs.Subs.{Split, Arranges}
use Rattle.stage_sub.specs.declared.blame.Blame.{Blame}
use Rattle.stage_sub.specs.declared.opening.OpenBy.{OpenBy}
use Rattle.stage_sub.specs.declared.opening.OpenBy.TheVariants.{Before, Behind, Key}

-- the last substream of a stage that splits; the places of the keys and the chains of a group_by
pub record KeptSubs (C : Type 0) : Type 0 where
  pub last : Last C
  pub places : List (Tree × ℕ)
  pub slots : List (Option C)

-- how substreams open, in the words of the model
abbrev pub opening_of : OpenBy → Opening
opening_of (Before p) = before p
opening_of (Behind p) = behind p
opening_of (Key n by) = by_key n by

module _ {C : Type 0} (rest : C → ListFunction) (is_open : C → Bool) where
  -- its chains may be called
  pub record MayCallKept (k : KeptSubs C) : Type 0 where
    pub one : MayCallLast rest is_open k.last
    pub all : MayCallAll rest is_open k.slots
    pub within : Within (place_in k.places) k.slots

  module _ (f : ListFunction) (yields : List Tree → End → Given Tree) where
    -- these are the substreams
    abbrev pub Keeps : OpenBy → KeptSubs C → List Sub → Type 0
    Keeps (Before p) k ss = Split rest is_open f yields k.last ss
    Keeps (Behind p) k ss = Split rest is_open f yields k.last ss
    Keeps (Key n by) k ss = Grouped rest is_open f (place_in k.places) k.slots ss

    -- one more element
    abbrev pub TakesBy : OpenBy → List Sub → Tree → Option Blame → List Tagged → List Tagged → KeptSubs C → Type 0
    TakesBy how ss t b old now new = Arranges yields (Keeps how new) (opening_of how) ss t b old now
