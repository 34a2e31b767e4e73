-- The steps of a chain as they run, in the words of the model.
use Rattle.std.specs.Prelude.{◌≡◌, ℕ, List, ◌++◌, map, Some, slice_get, slice_set}
use Rattle.elem_core.specs.Tree.{Tree}
use Rattle.stream_model.specs.Outlook.{End, unended}
use Rattle.stream_model.specs.Substreams.{Chain, through}
use Rattle.step_work.specs.LineChains.{after}
use Rattle.line_chain.specs.Line.{no_plugs}
use Rattle.line_chain.specs.Steps.{start_of, now_of, Ran}
use Rattle.line_chain.specs.declared.step.LineStep.{LineStep}

-- where the steps stood at their start
abbrev pub starts_of : List LineStep → Chain
starts_of steps = map start_of steps

-- where the steps stand
abbrev pub nows_of : List LineStep → Chain
nows_of steps = map now_of steps

-- the step at place i took the list l, and its input stands so: these are its outputs, and so they stand
pub record RanAt (old : List LineStep) (i : ℕ) (l : List Tree) (e : End) (new : List LineStep) (outs : List Tree) (d : End) : Type 0 where
  pub was : LineStep
  pub is : LineStep
  pub at : slice_get old i ≡ Some was
  pub set : new ≡ slice_set old i is
  pub ran : Ran was l e is outs d

-- the steps took the list l, and their input stands so: what the last gave was put behind `before`, so it stands, and where it
-- goes on, so do they
pub record RanAll (old : List LineStep) (l : List Tree) (e : End) (new : List LineStep) (before now : List Tree) (d : End) : Type 0 where
  pub gave : now ≡ before ++ (through no_plugs (nows_of old) l e).list
  pub ends : (through no_plugs (nows_of old) l e).end ≡ d
  pub began : starts_of new ≡ starts_of old
  pub goes : d ≡ unended → nows_of new ≡ after no_plugs (nows_of old) l
