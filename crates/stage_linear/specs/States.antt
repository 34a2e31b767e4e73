-- The state of a linear stage, what it still owes, and its port state: what it knows of its ports.
use Rattle.std.specs.Prelude.{◌≡◌, ◌≢◌, ◌⊎◌, ◌<◌, ⊤, ℕ, zero, Bool, true, List, [], ◌∷◌, length, Some}
use Rattle.elem_core.specs.Tree.{Tree}
use Rattle.elem_core.specs.declared.why.Why.{Why}
use Rattle.elem_core.specs.declared.why.Decider.TheVariants.{Stop, Resume, Restart}
use Rattle.elem_core.specs.declared.why.Decider.{Decider}
use Rattle.stream_model.specs.declared.kind.Kind.{Kind}
use Rattle.stream_model.specs.declared.kind.Kind.TheVariants.{Map, Filter, FilterNot, Take, TakeWhile, Drop, DropWhile, Limit, MapConcat, Plug}
use Rattle.stream_model.specs.Machine.{State, going, done}
use Rattle.stream_model.specs.Linear.{Book, Work, Stage, taking, linear, begin_work, work_of, finish_of}
use Rattle.port_core.specs.declared.view.InView.{InView}
use Rattle.port_core.specs.declared.view.InView.TheVariants.{Idle, Pulled, Finished}
use Rattle.port_core.specs.declared.view.OutView.{OutView}
use Rattle.port_core.specs.declared.view.OutView.TheVariants.{Unpulled, Available}
use Rattle.port_core.specs.declared.act.Act.{Act}
use Rattle.port_core.specs.declared.act.Act.TheVariants.{Pull, FailOut, Cancel}
use Rattle.port_core.specs.View.{View, OneOne}
use Rattle.port_core.specs.Asking.{PullsStand}
use Rattle.port_core.specs.Call.{Call, given_on}
use Rattle.stage_core.specs.Held.{Held, owing, shut, sealed_by}
use Rattle.stage_core.specs.Row.{BothClosed}
use Rattle.stage_core.specs.Turn.{TurnAt}
use Rattle.stage_core.specs.declared.phase.Phase.{Phase}
use Rattle.stage_core.specs.declared.phase.Phase.TheVariants.{New, Open, Closed}
use Rattle.stage_linear.specs.declared.course.Course.{Course}
use Rattle.stage_linear.specs.declared.course.Course.TheVariants.{Waits, Idles, Leaves, Closes, Ends}
use Rattle.step_work.specs.Tasks.{HasMore, Spreads}

-- where it stands, its stage in the model, the outputs that it holds, what it does next, and whether its plug, where it has
-- one, may be called
pub record Logic : Type 0 where
  pub phase : Phase
  pub stage : Stage
  pub pending : List Tree
  pub course : Course
  pub ready : Bool

-- the state of its machine as it begins: a take of nothing has ended
abbrev begun : Work → Stage → State Stage
begun (taking zero) s = done
begun _ s = going s

-- What it still owes, by a book of plugs: before its start nothing is held. Where its input has ended and it is still to be
-- asked for its last outputs, these are behind what is held, or a failure is.
abbrev pub held_in : Book → Phase → Course → List Tree → Stage → Held Stage
held_in b New c p s = owing (record { gave = []; state = begun s.work s })
held_in b Open Waits p s = owing (record { gave = p; state = going s })
held_in b Open Idles p s = owing (record { gave = p; state = going s })
held_in b Open Leaves p s = owing (record { gave = p; state = done })
held_in b Open Closes p s = owing (sealed_by (linear b s.work) p (finish_of b s s.work))
held_in b Open Ends p s = owing (record { gave = p; state = done })
held_in b Closed c p s = shut

-- what a stage still owes, by a book of plugs
abbrev pub held : Book → Logic → Held Stage
held b l = held_in b l.phase l.course l.pending l.stage

-- only the outputs of one element of an expansion or of a plug are held
abbrev pub MayHold : Work → List Tree → Type 0
MayHold w p = (p ≡ []) ⊎ Spreads w

-- it may take one more element
abbrev pub MayTake : Work → Bool → Type 0
MayTake w r = HasMore w × (r ≡ true)

-- it holds something
abbrev pub HoldsSomething : Work → List Tree → Type 0
HoldsSomething w p = (0 < length p) × Spreads w

-- Its port state: before its start nobody asked; then it asks where its output is asked and nothing is held; where it is done, or its
-- input has ended, it holds something; or all is closed.
abbrev pub port_state_in : Phase → Course → List Tree → Work → Bool → InView → OutView → Type 0
port_state_in New c p w r Idle Unpulled = r ≡ true
port_state_in Open Waits p w r Pulled Available = (p ≡ []) × MayTake w r
port_state_in Open Idles p w r Idle Unpulled = MayHold w p × MayTake w r
port_state_in Open Leaves p w r Idle Unpulled = HoldsSomething w p
port_state_in Open Closes p w r Finished Unpulled = HoldsSomething w p × (r ≡ true)
port_state_in Open Ends p w r Finished Unpulled = HoldsSomething w p
port_state_in Closed c p w r i o = BothClosed i o
port_state_in _ _ _ _ _ _ _ = ⊥

-- what a stage knows of its one input and its one output
abbrev pub port_state : Logic → View → Type 0
port_state l v = OneOne (port_state_in l.phase l.course l.pending l.stage.work l.ready) v

-- one step of its machine by this book of plugs, which stays the same; no action cancels an input that an earlier one asked;
-- and it was started
pub record Turned (book : Book) (call : Call) (old : Logic) (acts : List Act) (new : Logic) : Type 0 where
  pub turn : TurnAt (linear book old.stage.work) 0 call (held book old) (given_on 0 acts) (held book new)
  pub same : (b : Book) → linear b new.stage.work ≡ linear b old.stage.work
  pub stands : PullsStand acts
  pub started : new.phase ≢ New

-- the kinds of these stages that have a task of their own
abbrev pub HasTask : Kind → Type 0
HasTask (Map f) = ⊤
HasTask (Filter p) = ⊤
HasTask (FilterNot p) = ⊤
HasTask (Take n) = ⊤
HasTask (TakeWhile p) = ⊤
HasTask (Drop n) = ⊤
HasTask (DropWhile p) = ⊤
HasTask (Limit n) = ⊤
HasTask (MapConcat x) = ⊤
HasTask _ = ⊥

-- the kinds that these stages are: those, and plugs
abbrev pub IsLinear : Kind → Type 0
IsLinear (Map f) = ⊤
IsLinear (Filter p) = ⊤
IsLinear (FilterNot p) = ⊤
IsLinear (Take n) = ⊤
IsLinear (TakeWhile p) = ⊤
IsLinear (Drop n) = ⊤
IsLinear (DropWhile p) = ⊤
IsLinear (Limit n) = ⊤
IsLinear (MapConcat x) = ⊤
IsLinear (Plug name) = ⊤
IsLinear _ = ⊥

-- a new stage of this kind owes what its machine gives from the start
pub record Begins (node : ℕ) (kind : Kind) (d : Decider) (new : Logic) : Type 0 where
  pub phase : new.phase ≡ New
  pub work : work_of kind ≡ Some new.stage.work
  pub owes : (b : Book) → held b new ≡ owing (begin_work node d new.stage.work)
  pub ready : new.ready ≡ true

-- ---- an element without a value, by the decider

-- the stage that took n elements, and whom nobody asks now
abbrev pub counted : Logic → ℕ → Logic
counted l n = record l { stage = record l.stage { taken = n }; course = Idles }

-- the stage that took n elements, and asks again
abbrev pub skipped : Logic → ℕ → Logic
skipped l n = record l { stage = record l.stage { taken = n }; course = Waits }

-- the stage behind an element without a value: closed where it stops, and else it left the element out
abbrev decided_to : Decider → Logic → ℕ → Logic
decided_to Stop l n = record l { phase = Closed }
decided_to Resume l n = skipped l n
decided_to Restart l n = skipped l n

-- the stage then, which was at element n
abbrev pub decided_by : Logic → ℕ → Logic
decided_by l n = decided_to l.stage.decider l n

-- it fails, and element n is to blame
abbrev pub failing_acts : Stage → ℕ → Why → List Act
failing_acts s n why = FailOut 0 (record { stage = s.node; nth = n; why = why }) ∷ Cancel 0 ∷ []

-- its actions then: a failure that blames element n, or one more ask
abbrev acts_by : Decider → Stage → ℕ → Why → List Act
acts_by Stop s n why = failing_acts s n why
acts_by Resume s n why = Pull 0 ∷ []
acts_by Restart s n why = Pull 0 ∷ []

-- and what it does: it fails, or it asks again
abbrev pub decided_acts : Logic → ℕ → Why → List Act
decided_acts l n why = acts_by l.stage.decider l.stage n why
