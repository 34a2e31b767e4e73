-- A step of a chain as it runs, in the words of the model.
use Rattle.std.specs.Prelude.{◌≡◌, ℕ, ◌+◌, List, [], ◌∷◌, ◌++◌, option_to_list}
use Rattle.elem_core.specs.Tree.{Tree}
use Rattle.elem_core.specs.declared.why.Decider.{Decider}
use Rattle.elem_core.specs.declared.why.Decider.TheVariants.{Stop, Resume, Restart}
use Rattle.elem_core.specs.declared.why.Why.{Why}
use Rattle.step_work.specs.declared.task.LinearReaction.{LinearReaction}
use Rattle.step_work.specs.declared.task.LinearReaction.TheVariants.{Gives, GivesAll, Skips, EndsWith, EndsWithAll, Ends, Blames, Fails}
use Rattle.step_work.specs.Tasks as tasks
use Rattle.step_work.specs.declared.ending.StateEnd.{StateEnd}
use Rattle.step_work.specs.declared.ending.StateEnd.TheVariants as ending
use Rattle.step_work.specs.Keeping as keeping
use Rattle.step_work.specs.Keeping.{stage_of}
use Rattle.step_work.specs.Endings.{state_by}
use Rattle.stream_model.specs.Outlook.{End, unended, ended, failed}
use Rattle.stream_model.specs.Machine.{State, going, done, broken, Run, Machine, run, close, close_at, feed}
use Rattle.stream_model.specs.Linear.{Stage, Work, passing, heading, lasting, linear, step, begin_work}
use Rattle.step_work.specs.LineChains.{emptied}
use Rattle.line_chain.specs.Kinds.{begun}
use Rattle.line_chain.specs.Line.{no_plugs}
use Rattle.line_chain.specs.declared.work.StepWork.{StepWork}
use Rattle.line_chain.specs.declared.work.StepWork.TheVariants.{Plain, Keeps, Passes, First, Last}
use Rattle.line_chain.specs.declared.step.LineStep.{LineStep}

-- the work of a step, as far as it has come
abbrev pub work_in : StepWork → Work
work_in (Plain t) = tasks.work_in t
work_in (Keeps k) = keeping.work_in k
work_in Passes = passing
work_in First = heading
work_in (Last e) = lasting e

-- the machine of every step
abbrev pub machine : Machine Stage Tree
machine = linear no_plugs passing

-- how its input stands, or it does
abbrev pub end_of : StateEnd → End
end_of ending.Lasting = unended
end_of ending.Ended = ended
end_of (ending.Failed c) = failed c

-- where it stood at its start
abbrev pub start_of : LineStep → Run Stage Tree
start_of s = begin_work s.node s.decider (begun s.kind)

-- where it stands, and what it owes before any element
abbrev pub state_of : LineStep → State Stage
state_of s = state_by s.ending (stage_of s.node s.decider s.taken (work_in s.work))

-- where a step stands, and what it owes before any element
abbrev pub now_of : LineStep → Run Stage Tree
now_of s = record { gave = option_to_list s.owed; state = state_of s }

-- ---- one element

-- the failure of a step at element n
abbrev pub step_failing : ℕ → ℕ → Why → Run Stage Tree
step_failing node n why = record { gave = []; state = broken (record { stage = node; nth = n; why = why }) }

-- by the decider, the step fails, or it goes on as it stood
abbrev pub step_decided : Decider → ℕ → ℕ → Work → Why → Run Stage Tree
step_decided Stop node n w why = step_failing node n why
step_decided Resume node n w why = record { gave = []; state = going (stage_of node Resume n w) }
step_decided Restart node n w why = record { gave = []; state = going (stage_of node Restart n w) }

-- a step whose element n came to this, and which has this work then
abbrev pub replied : Decider → ℕ → ℕ → Work → LinearReaction → Run Stage Tree
replied d node n w (Gives u) = record { gave = u ∷ []; state = going (stage_of node d n w) }
replied d node n w (GivesAll us) = record { gave = us; state = going (stage_of node d n w) }
replied d node n w Skips = record { gave = []; state = going (stage_of node d n w) }
replied d node n w (EndsWith u) = record { gave = u ∷ []; state = done }
replied d node n w (EndsWithAll us) = record { gave = us; state = done }
replied d node n w Ends = record { gave = []; state = done }
replied d node n w (Blames why) = step_decided d node n w why
replied d node n w (Fails why) = step_failing node n why

-- what came of the element t: that is the step of the model
abbrev pub Replies : Decider → Work → Tree → Work → LinearReaction → Type 0
Replies d old t new o = (node n : ℕ) → step no_plugs (stage_of node d n old) t ≡ replied d node (n + 1) new o

-- what it gave before, and then what it gives
abbrev pub given_before : List Tree → Run Stage Tree → Run Stage Tree
given_before before x = record { gave = before ++ x.gave; state = x.state }

-- the step that fails at element n; none is to blame where that is 0
abbrev pub failed_step : LineStep → ℕ → Why → LineStep
failed_step s n why = record s { ending = ending.Failed (record { stage = s.node; nth = n; why = why }) }

-- the step behind an element without a value: failed where it stops, and else it took the element and goes on
abbrev decided_by_step : Decider → LineStep → ℕ → Why → LineStep
decided_by_step Stop s n why = failed_step s n why
decided_by_step Resume s n why = record s { taken = n }
decided_by_step Restart s n why = record s { taken = n }

-- the step at whose element n the function has no value, by its decider
abbrev pub decided_step : LineStep → ℕ → Why → LineStep
decided_step s n why = decided_by_step s.decider s n why

-- one step of the machine: from these outputs and this step to those and that
abbrev pub StepFeeds : LineStep → List Tree → Tree → LineStep → List Tree → Type 0
StepFeeds old before t new after = record { gave = after; state = state_of new } ≡ feed machine (record { gave = before; state = state_of old }) t

-- it began as the other did
abbrev pub Began : LineStep → LineStep → Type 0
Began old new = start_of new ≡ start_of old

-- ---- all of the input

-- a step that gave `before`, and took all of its input, which stands so: these are its outputs, so they stand, and where they
-- go on, nothing came of it
pub record StepCloses (old : LineStep) (before : List Tree) (e : End) (new : LineStep) (outs : List Tree) (d : End) : Type 0 where
  pub comes : close_at machine before (state_of old) e ≡ record { list = outs; end = d }
  pub stays : d ≡ unended → new ≡ old

-- a step took the list l, and its input stands so: these are its outputs, so they stand, and where they go on, so does it
pub record Ran (old : LineStep) (l : List Tree) (e : End) (new : LineStep) (outs : List Tree) (d : End) : Type 0 where
  pub comes : close machine (run machine (now_of old) l) e ≡ record { list = outs; end = d }
  pub began : Began old new
  pub goes : d ≡ unended → now_of new ≡ emptied no_plugs (run machine (now_of old) l)
