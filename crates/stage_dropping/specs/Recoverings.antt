-- The state of a recover, and its port state.
use Rattle.std.specs.Prelude.{◌≡◌, ◌≢◌, ◌≤◌, ◌==◌, Bool, true, false, ℕ, List, [], ◌∷◌, ◌++◌, Option, Some, None, ⊤}
use Rattle.elem_core.specs.Tree.{Tree}
use Rattle.elem_core.specs.declared.item.Item.{Item}
use Rattle.port_core.specs.declared.act.Act.{Act}
use Rattle.port_core.specs.declared.view.InView.{InView}
use Rattle.port_core.specs.declared.view.InView.TheVariants.{Idle, Pulled, Finished, Cancelled}
use Rattle.port_core.specs.declared.view.OutView.{OutView}
use Rattle.port_core.specs.declared.view.OutView.TheVariants.{Unpulled, Available}
use Rattle.port_core.specs.View.{View, OneOne}
use Rattle.port_core.specs.Asking.{PullsStand}
use Rattle.port_core.specs.Call.{Call, given_on}
use Rattle.stage_core.specs.PortsLaws.{InPortsLaw}
use Rattle.stage_core.specs.Row.{BothClosed}
use Rattle.stage_core.specs.declared.phase.Phase.{Phase}
use Rattle.stage_core.specs.declared.phase.Phase.TheVariants.{New, Open, Closed}
use Rattle.port_core.specs.Picks.{next_move, behind_next, plan_of}
use Rattle.port_core.specs.declared.pick_log.Next.{Next}
use Rattle.port_core.specs.declared.pick_log.Next.TheVariants.{Free, Move, UsedUp}
use Rattle.stage_dropping.specs.Recovers as law
use Rattle.stage_dropping.specs.Recovers.{RecoverHeld, RecoverTurnAt, RecoverKeeps, recover_moves}

-- where it stands, its own element until that is given, how many elements passed, whether its output is asked, whether its
-- input failed, whether it does nothing more, its moves, those that it still follows, and whether it cannot make the next
pub record Recover : Type 0 where
  pub phase : Phase
  pub own : Option Tree
  pub passed : ℕ
  pub asked : Bool
  pub over : Bool
  pub still : Bool
  pub moves : List ℕ
  pub left : Option (List ℕ)
  pub stuck : Bool

-- no more elements pass: as many as the next move says have passed
abbrev pub is_full : Next → ℕ → Bool
is_full Free n = false
is_full (Move k) n = k == n
is_full UsedUp n = false

-- a failure may be noted here: as many passed as the next move says
abbrev pub may_turn : Next → ℕ → Bool
may_turn Free n = true
may_turn (Move k) n = k == n
may_turn UsedUp n = false

-- whether a stop is one for want of a move that it can make
abbrev pub stuck_by : Next → Bool → Bool
stuck_by Free stuck = stuck
stuck_by (Move k) stuck = true
stuck_by UsedUp stuck = stuck

-- it follows at most one move, and no more passed than that says
abbrev pub Ahead : Option (List ℕ) → ℕ → Type 0
Ahead None n = ⊤
Ahead (Some []) n = ⊤
Ahead (Some (k ∷ l)) n = (n ≤ k) × (l ≡ [])

-- before a failure: it made no move, has its own element, and can make its move
pub record Passing (l : Recover) : Type 0 where
  pub unmoved : l.moves ≡ []
  pub own : l.own ≢ None
  pub ahead : Ahead l.left l.passed

-- behind a failure: its move says how many elements passed, and it has its own element
pub record Owing (l : Recover) : Type 0 where
  pub moved : l.moves ≡ l.passed ∷ []
  pub own : l.own ≢ None

-- Before a failure it waits exactly where its output is asked, and has no move; then its output is not asked, and its move
-- tells how many elements passed. It has its own element until it closes.
abbrev pub recover_at : Recover → Phase → Bool → Bool → InView → OutView → Type 0
recover_at l New false false Idle Unpulled = Passing l
recover_at l Open false true Pulled Available = Passing l
recover_at l Open false false Idle Unpulled = Passing l
recover_at l Open true false Finished Unpulled = Owing l
recover_at l Closed over asked i o = BothClosed i o
recover_at l _ _ _ _ _ = ⊥

-- One that does nothing more made no move: it cannot make the next, or it has none and its input is over. It did not cancel its input, and
-- does not wait for it.
abbrev pub StillBy : Next → Bool → InView → Type 0
StillBy Free stuck i = ⊥
StillBy (Move k) stuck i = (stuck ≡ true) × (i ≢ Cancelled) × (i ≢ Pulled)
StillBy UsedUp stuck i = (stuck ≡ false) × (i ≡ Finished)

-- what is known of its ports, by whether it does nothing more
abbrev pub recover_in : Bool → Recover → InView → OutView → Type 0
recover_in false l i o = recover_at l l.phase l.over l.asked i o × (l.stuck ≡ false)
recover_in true l i o = (l.phase ≡ Open) × ((l.moves ≡ []) × StillBy (next_move l.left) l.stuck i)

-- one that does nothing more from now on
abbrev pub stopped : Recover → Recover
stopped l = record l { still = true; stuck = stuck_by (next_move l.left) l.stuck }

-- how many elements passed was noted
abbrev pub turn_noted : Recover → Recover
turn_noted l = record l { moves = l.moves ++ l.passed ∷ []; left = behind_next l.left }

-- its port state
abbrev pub port_state : Recover → View → Type 0
port_state l v = OneOne (recover_in l.still l) v

-- what it owes
abbrev pub held_in : Phase → Bool → ℕ → List ℕ → RecoverHeld
held_in New over n moves = law.passes n
held_in Open false n moves = law.passes n
held_in Open true n moves = law.turned n
held_in Closed over n moves = law.shut moves

-- what it owes, by whether it does nothing more
abbrev pub held_by : Bool → Recover → RecoverHeld
held_by false l = held_in l.phase l.over l.passed l.moves
held_by true l = law.stopped (next_move l.left)

-- what it still owes
abbrev pub held_of : Recover → RecoverHeld
held_of l = held_by l.still l

-- What a call owes: a step of a recover of its own element, which it has until it closes; no action cancels an input that an
-- earlier one asked; it was started; its log only grows, and what it follows stays.
pub record Turned (call : Call) (old : Recover) (acts : List Act) (new : Recover) : Type 0 where
  pub turn : (t : Tree) → old.own ≡ Some t → RecoverTurnAt t call (held_of old) (given_on 0 acts) (held_of new)
  pub own : new.phase ≡ Open → new.own ≡ old.own
  pub stands : PullsStand acts
  pub started : new.phase ≢ New
  pub more : List ℕ
  pub grows : new.moves ≡ old.moves ++ more
  pub plan : plan_of new.moves new.left ≡ plan_of old.moves old.left

-- ---- over its histories

-- it may be started, nothing came to it, it made no move, and its port state holds
pub record RecoverFresh (l : Recover) (v : View) : Type 0 where
  pub fresh : l.phase ≡ New
  pub none_passed : l.passed ≡ 0
  pub unmoved : l.moves ≡ []
  pub ports : port_state l v

-- it was started, and its port state holds
pub record RecoverPortState (l : Recover) (v : View) : Type 0 where
  pub started : l.phase ≢ New
  pub ports : port_state l v

-- the law of its histories, by the stage as it was at first and as it is now: by its own element, which it has until it
-- closes, and its move, of which it made none before
pub record RecoversAs (first now : Recover) (v : View) (took gave : List (List Item)) : Type 0 where
  pub unmoved : first.moves ≡ []
  pub plan : plan_of now.moves now.left ≡ plan_of first.moves first.left
  pub element : Tree
  pub is_own : first.own ≡ Some element
  pub still : now.phase ≡ Open → now.own ≡ first.own
  pub noted : recover_moves (held_of now) ≡ now.moves
  pub by : InPortsLaw (RecoverKeeps element (held_of now)) v took gave

-- a new recover of this element
abbrev pub begun : Tree → Recover
begun t = record { phase = New; own = Some t; passed = 0; asked = false; over = false; still = false; moves = []; left = None; stuck = false }

-- the same where it follows moves, of which it has at most one
abbrev pub follows : List ℕ → Recover → Recover
follows moves l = record l { left = Some moves }
