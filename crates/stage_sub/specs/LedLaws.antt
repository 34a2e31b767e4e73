-- The law of a stage with substreams that follows moves, over its whole history: of each substream, what was given and then what is held is
-- what is ready; and why it stopped, where it did.
use Rattle.std.specs.Prelude.{◌≡◌, ◌≢◌, ◌⊎◌, ◌+◌, ◌-◌, ◌≤◌, ◌<◌, ℕ, Bool, true, false, List, [], ◌∷◌, ◌++◌, length, take, Option, None, Some}
use Rattle.elem_core.specs.Prefix.{IsPrefix}
use Rattle.elem_core.specs.Tree.{Tree}
use Rattle.elem_core.specs.declared.item.Item.{Item}
use Rattle.elem_core.specs.declared.why.Cause.{Cause}
use Rattle.port_core.specs.Picks.{next_move}
use Rattle.port_core.specs.declared.pick_log.Next.{Next}
use Rattle.port_core.specs.declared.pick_log.Next.TheVariants.{Free, Move, UsedUp}
use Rattle.port_core.specs.View.{View, unpulled_ports}
use Rattle.port_core.specs.ListFunction.{ListFunction, Same}
use Rattle.stream_model.specs.declared.kind.Kind.{Kind}
use Rattle.stream_model.specs.Outlook.{End, unended, ended, failed}
use Rattle.stream_model.specs.FanIn.{Tagged, Inflow}
use Rattle.stream_model.specs.Machine.{State, Run, Machine, Given, run, close, Fails}
use Rattle.stream_model.specs.Picks.{count_of}
use Rattle.stream_model.specs.Substreams.{Subs, Opening, substreams}
use Rattle.stage_core.specs.Fans.{untagged}
use Rattle.stage_core.specs.Held.{owing}
use Rattle.stage_core.specs.PortsLaws.{InPortsLaw}
use Rattle.stage_core.specs.declared.phase.Phase.{Phase}
use Rattle.stage_core.specs.declared.phase.Phase.TheVariants.{New, Open, Closed}
use Rattle.step_work.specs.Means.{Means}
use Rattle.stage_sub.specs.Joined.{untag}
use Rattle.stage_sub.specs.KeptSubs.{opening_of}
use Rattle.stage_sub.specs.Picking.{of_number}
use Rattle.stage_sub.specs.States.{Logic, StateIs, Owes, Ready}
use Rattle.stage_sub.specs.Leds.{Led, LedRests, led_port_state, sub_plan}
use Rattle.stage_sub.specs.Handling.{ChoosesAs, ports_given, ready_of, BeginsAs, SubFresh, SubLaw, SubPortState}

-- of each substream, what was given and then what is held is what is ready
abbrev pub Shares : List Tagged → List Tagged → List Tagged → Type 0
Shares ready given held = (n : ℕ) → of_number n given ++ of_number n held ≡ of_number n ready

-- of each substream, what was given begins what is ready
abbrev pub BeginsEach : List Tagged → List Tagged → Type 0
BeginsEach ready given = (n : ℕ) → IsPrefix (of_number n given) (of_number n ready)

module _ (yields : List Tree → End → Given Tree) (o : Opening) (start : Run Subs Tagged) where
  -- the machine of substreams whose chains yield this
  abbrev machine : Machine Subs Tagged
  machine = substreams yields o

  -- what all that came makes ready
  abbrev pub led_ready : Inflow → List Tagged
  led_ready f = ready_of yields o start f.list f.end

  -- THE CAUSE of a misfit, over what came: behind all elements all outputs of substream n were given while another's were not; or the input
  -- has ended, and all outputs of substream n were given
  pub data CannotGive (n : ℕ) (moves : List ℕ) (f : Inflow) : Type 0 where
    held_back : length (of_number n (run machine start f.list).gave) ≤ count_of n moves → length moves < length (run machine start f.list).gave
        → CannotGive n moves f
    no_more : f.end ≡ ended → length (of_number n (led_ready f)) ≤ count_of n moves → CannotGive n moves f

  -- the same of the next move
  abbrev pub MisfitBy : Next → List ℕ → Inflow → Type 0
  MisfitBy (Move n) moves f = CannotGive n moves f
  MisfitBy _ moves f = ⊥

  -- the outputs that were given, in order: these are the elements, and their substreams are the moves
  pub record GivenBy (moves : Option (List ℕ)) (g : List Tree) (given : List Tagged) : Type 0 where
    pub list_is : untagged given ≡ g
    pub moves_is : moves ≡ Some (ports_given given)

  -- one that stopped
  pub record LedStopped (moves : Option (List ℕ)) (next : Next) (f : Inflow) (g : List Tree) (e : End) : Type 0 where
    pub unended_is : e ≡ unended
    pub given : List Tagged
    pub by : GivenBy moves g given
    pub begins : BeginsEach (led_ready f) given
    pub cause : MisfitBy next (ports_given given) f

  -- one that closed its ports
  pub record Ceased (moves : Option (List ℕ)) (f : Inflow) (g : List Tree) (e : End) : Type 0 where
    pub given : List Tagged
    pub by : GivenBy moves g given
    pub begins : BeginsEach (led_ready f) given
    pub ends : e ≡ ended → ((close machine (run machine start f.list) f.end).end ≡ ended) × (length given ≡ length (led_ready f))
    pub fails : (c : Cause) → e ≡ failed c → (t : List Tagged) × (Fails machine start f.list f.end t c × (length t ≤ length given))

  module _ {C : Type 0} (rest : C → ListFunction) (is_open : C → Bool) (f : ListFunction) where
    -- its machine's state, by whether its input has ended
    abbrev pub StandsAt : Bool → Logic C → Inflow → Type 0
    StandsAt false l w = (w.end ≡ unended) × StateIs rest is_open f yields false l (run machine start w.list).state
    StandsAt true l w = (w.end ≡ ended) × ((close machine (run machine start w.list) ended).end ≡ ended)

    -- One that is open: of each substream what was given and what is held is ready, and all but what the last element brought was given.
    pub record LedServes (l : Led C) (w : Inflow) (g : List Tree) (e : End) : Type 0 where
      pub unended_is : e ≡ unended
      pub given : List Tagged
      pub by : GivenBy l.logic.moves g given
      pub shares : Shares (led_ready w) given l.logic.pending
      pub count : length given + length l.logic.pending ≡ length (led_ready w)
      pub lags : length (run machine start (take (length w.list - 1) w.list)).gave ≤ length given
      pub stands : StandsAt l.logic.over l.logic w

    -- by where it stands
    abbrev pub keeps_by : Bool → Phase → Led C → Inflow → List Tree → End → Type 0
    keeps_by true p l w g e = LedStopped l.logic.moves (next_move l.left) w g e
    keeps_by false New l w g e = LedServes l w g e
    keeps_by false Open l w g e = LedServes l w g e
    keeps_by false Closed l w g e = Ceased l.logic.moves w g e

    -- what holds of its histories
    abbrev pub LedKeeps : Led C → List Inflow → List Tree → End → Type 0
    LedKeeps l (w ∷ []) g e = keeps_by l.stuck l.logic.phase l w g e
    LedKeeps l ws g e = ⊥

module _ {C : Type 0} (rest : C → ListFunction) (is_open : C → Bool) where
  -- it was not started, and its port state holds; one that follows moves made none
  pub record LedNew (l : Led C) (v : View) : Type 0 where
    pub core : SubFresh rest is_open l.logic v
    pub calm : l.stuck ≡ false
    pub log : l.left ≢ None → l.logic.moves ≡ Some []
    pub ports : led_port_state l v

  -- it was started, its chains may be called, and its port state holds
  pub record LedPortState (l : Led C) (v : View) : Type 0 where
    pub started : l.logic.phase ≢ New
    pub ready : Ready rest is_open l.logic
    pub ports : led_port_state l v

  -- the law of one that follows moves, whatever its chains come to in the model
  pub record LedLaw (whole : C → ListFunction) (first now : Led C) (v : View) (took gave : List (List Item)) : Type 0 where
    pub follows : now.left ≢ None
    pub node : now.logic.node ≡ first.logic.node
    pub how : now.logic.how ≡ first.logic.how
    pub chain : now.logic.chain ≡ first.logic.chain
    pub tells : (f : ListFunction) → Same (whole first.logic.chain) f → (yields : List Tree → End → Given Tree) → Means yields f → (start : Run Subs Tagged)
        → Owes rest is_open f yields first.logic (owing (untag start))
        → InPortsLaw (LedKeeps yields (opening_of first.logic.how) start rest is_open f now) v took gave

  -- The law of its output, by the stage as it was at first and as it is now: what it follows stays, a log stays a log, and one that follows none
  -- stands by the law of such a stage.
  pub record SubsLaw (whole : C → ListFunction) (first now : Led C) (v : View) (took gave : List (List Item)) : Type 0 where
    pub plan : sub_plan now ≡ sub_plan first
    pub chooses : ChoosesAs first.logic.moves now.logic.moves
    pub unled : first.left ≡ None → (now.left ≡ None) × ((now.stuck ≡ first.stuck) × SubLaw rest is_open whole first.logic now.logic v took gave)
    pub led : first.left ≢ None → LedLaw whole first now v took gave

  -- a new stage of node `node` is of its kind, has not stopped, may be started; and where it follows moves it has a log
  pub record LedBegins (node : ℕ) (kind : Kind) (chain : C) (l : Led C) : Type 0 where
    pub as_kind : BeginsAs kind node chain l.logic
    pub fresh : LedNew l unpulled_ports
