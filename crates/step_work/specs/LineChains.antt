-- A chain of linear stages as a list function, by where its stages stand.
use Rattle.std.specs.Prelude.{Bool, true, false, List, [], ◌∷◌, length, drop, Result, Ok, Err}
use Rattle.elem_core.specs.Tree.{Tree}
use Rattle.elem_core.specs.declared.why.Why.{Why}
use Rattle.stream_model.specs.Outlook.{End, unended, ended, failed}
use Rattle.stream_model.specs.Machine.{Run, Machine, Given, run}
use Rattle.stream_model.specs.Linear.{Book, Stage, Work, linear}
use Rattle.stream_model.specs.Substreams.{Chain, through}
use Rattle.port_core.specs.declared.chain.ChainStep.{ChainStep}
use Rattle.port_core.specs.declared.chain.ChainStep.TheVariants.{Go, Closed, Failed}
use Rattle.port_core.specs.ListFunction.{ListFunction}

-- how a chain stands whose last stage stands so
abbrev pub chain_step : End → ChainStep
chain_step unended = Go
chain_step ended = Closed
chain_step (failed c) = Failed c.why

-- it stands open
abbrev pub is_unended : End → Bool
is_unended unended = true
is_unended ended = false
is_unended (failed c) = false

-- what the end of its input came to, at a chain that went on
abbrev pub end_step : End → ChainStep
end_step unended = Go
end_step ended = Go
end_step (failed c) = Failed c.why

-- what the end added to what was given of a list, by how the list stands, or why it failed
abbrev pub added_by : List Tree → List Tree → End → Result (List Tree) Why
added_by g l unended = Ok []
added_by g l ended = Ok (drop (length g) l)
added_by g l (failed c) = Err c.why

-- what the end added to this list, or why it failed
abbrev pub given_with : List Tree → Given Tree → Result (List Tree) Why
given_with g x = added_by g x.list x.end

module _ (book : Book) where
  -- the machine of each stage
  abbrev pub each : Machine Stage Tree
  each = linear book Work.passing

  -- a stage that gave all that it had to
  abbrev pub emptied : Run Stage Tree → Run Stage Tree
  emptied x = record { gave = []; state = x.state }

  -- what the last stage gave once the first took this list
  abbrev pub chain_outs : Chain → List Tree → List Tree
  chain_outs [] l = l
  chain_outs (s ∷ ss) l = chain_outs ss (run each s l).gave

  -- where the stages of a chain stand once the first of them took this list
  abbrev pub after : Chain → List Tree → Chain
  after [] l = []
  after (s ∷ ss) l = emptied (run each s l) ∷ after ss (run each s l).gave

  -- the list function of a chain whose stages stand so
  abbrev pub list_function : Chain → ListFunction
  list_function xs = record {
    gives = λ l. (through book xs l unended).list;
    stop = λ l. chain_step (through book xs l unended).end;
    adds = λ l. given_with (through book xs l unended).list (through book xs l ended);
  }
