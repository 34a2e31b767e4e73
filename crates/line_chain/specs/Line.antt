-- A chain of linear stages as it runs: where its steps stood at its start, and where they stand now.
use Rattle.std.specs.Prelude.{◌≡◌, ℕ, Bool, List, [], unwrap_or}
use Rattle.stream_model.specs.declared.blueprint.Step as blue
use Rattle.port_core.specs.ListFunction.{ListFunction, Same}
use Rattle.stream_model.specs.Graph.{Step}
use Rattle.stream_model.specs.Linear.{Book, plugs_book, go, work_of, passing}
use Rattle.stream_model.specs.Node.{chain_of}
use Rattle.stream_model.specs.Substreams.{Chain}
use Rattle.step_work.specs.LineChains.{list_function}

-- `callable` says that no call answered that the chain stopped, and that its input has not ended: it may be called
pub record Line : Type 0 where
  pub starts : Chain
  pub now : Chain
  pub callable : Bool

-- no step of a chain is a plug, so it gives the same by any book; this one has none
abbrev pub no_plugs : Book
no_plugs = plugs_book (λ name took t. record { gave = []; verdict = go }) (λ name took. record { gave = []; verdict = go })

-- what it gives from its start
abbrev pub line_whole : Line → ListFunction
line_whole l = list_function no_plugs l.starts

-- what it still gives
abbrev pub line_rest : Line → ListFunction
line_rest l = list_function no_plugs l.now

-- it may be called; so may a new one in which a step is to pass nothing, which answers that it stopped at its first call
abbrev pub line_is_open : Line → Bool
line_is_open l = l.callable

-- a step of a chain in the words of the model; one that is no stage, which no text can say, passes what it takes
abbrev pub model_step : blue.Step → Step
model_step s = record { work = unwrap_or (work_of s.kind) passing; decider = s.decider }

-- the chain of these steps at node `node`, whatever the book
pub record IsLine (node : ℕ) (steps : List Step) (l : Line) : Type 0 where
  pub starts : l.starts ≡ chain_of node steps
  pub same : (book : Book) → Same (line_whole l) (list_function book l.starts)
