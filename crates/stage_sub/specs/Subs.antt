-- The substreams of the model, as the logic of a stage that splits keeps them.
use Rattle.std.specs.Prelude.{◌≡◌, ◌⊎◌, Ok, Err, ⊤, Bool, true, false, if◌then◌else◌, List, [], ◌∷◌, ◌++◌, length, Option, Some, None, option_to_list, IfSome}
use Rattle.std.specs.Option.{option_map}
use Rattle.elem_core.specs.Tree.{Tree}
use Rattle.elem_core.specs.declared.why.Why.{Why}
use Rattle.stream_model.specs.Outlook.{End}
use Rattle.stream_model.specs.Machine.{Given}
use Rattle.stream_model.specs.FanIn.{Tagged}
use Rattle.stream_model.specs.Substreams.{Sub, Fault, by_element, by_end, Opening, arranged, opened, take_last, last_open, trouble, news}
use Rattle.port_core.specs.ListFunction.{ListFunction}
use Rattle.stage_sub.specs.Splits.{Last, LastTook}
use Rattle.stage_sub.specs.declared.blame.Blame.{Blame}
use Rattle.stage_sub.specs.declared.blame.Blame.TheVariants.{AtElement, AtEnd}

-- each of them has ended
abbrev pub AllEnded : List Sub → Type 0
AllEnded [] = ⊤
AllEnded (s ∷ ss) = (s.ended ≡ true) × AllEnded ss

-- the fault, in the words of the model
abbrev pub fault_in_model : Blame → Fault
fault_in_model (AtElement w) = by_element w
fault_in_model (AtEnd w) = by_end w

-- the last one takes an element, or a new one opens with it, where all have ended
abbrev pub grown : List Sub → Tree → List Sub
grown ss t = if last_open ss then take_last t ss else opened t t ss

module _ (yields : List Tree → End → Given Tree) (keeps : List Sub → Type 0) where
  -- from these substreams to those: what they gave is put behind `before`, none failed, and those are kept; or the fault
  abbrev pub SubsReach : List Sub → List Sub → Option Blame → List Tagged → List Tagged → Type 0
  SubsReach ss now None before after = (trouble yields now ≡ None) × ((after ≡ before ++ news yields 0 ss now) × keeps now)
  SubsReach ss now (Some b) before after = trouble yields now ≡ Some (fault_in_model b)

  -- one more element, by the way in which substreams open
  abbrev pub Arranges : Opening → List Sub → Tree → Option Blame → List Tagged → List Tagged → Type 0
  Arranges o ss t b before after =
      ((w : Why) × ((arranged o ss t ≡ Err w) × (b ≡ Some (AtElement w)))) ⊎ ((now : List Sub) × ((arranged o ss t ≡ Ok now) × SubsReach ss now b before after))

module _ {C : Type 0} (rest : C → ListFunction) (is_open : C → Bool) (f : ListFunction) (yields : List Tree → End → Given Tree) where
  -- these are the substreams of a stage that splits: some that have ended, of which none failed, and at most one more, which goes on
  pub record Split (l : Last C) (ss : List Sub) : Type 0 where
    pub olds : List Sub
    pub tail : Option Sub
    pub are : ss ≡ olds ++ option_to_list tail
    pub done : AllEnded olds
    pub calm : trouble yields olds ≡ None
    pub counts : l.ended ≡ length olds
    pub lasts : IfSome tail (λ s. s.ended ≡ false)
    pub took : LastTook rest is_open f l (option_map (λ s. s.took) tail)

  -- from these substreams to those: what they gave is put behind `before`, none failed, and the logic keeps those; or the fault
  abbrev pub SubsBecome : List Sub → List Sub → Option Blame → List Tagged → List Tagged → Last C → Type 0
  SubsBecome ss now b before after new = SubsReach yields (Split new) ss now b before after

  -- one more element, by the way in which substreams open: they become what the model says, or it says why there are none
  abbrev pub SubsTake : Opening → List Sub → Tree → Option Blame → List Tagged → List Tagged → Last C → Type 0
  SubsTake o ss t b before after new = Arranges yields (Split new) o ss t b before after
