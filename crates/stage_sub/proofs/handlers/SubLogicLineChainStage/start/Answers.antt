use denote.Exit.{no}
use denote.Param.Send.{param_send, arg_send}
use Rattle.line_chain.proofs.Sending.{line_send}
use Rattle.line_chain.specs.Line.{line_whole, line_rest, line_is_open}
use Rattle.port_core.specs.Call.{starts}
use Rattle.stage_sub.proofs.LedNodes.{starts_as, grew}
use Rattle.stage_sub.proofs.handlers.SubLogicLineChainStage.start.Goals as goal

pub returns-clause-starts : goal.returns-clause-starts
returns-clause-starts c = starts_as line_whole line_rest line_is_open _ _ _ _ c.start.ensures.ports c.start.ensures.gives c.start.ensures.ready

pub start-requires-send-C : goal.start-requires-send-C
start-requires-send-C c κs = param_send 0 _ (arg_send _ no _ line_send)

pub returns-clause-grows : goal.returns-clause-grows
returns-clause-grows c = grew line_whole line_rest line_is_open starts _ _ _ _ c.start.ensures.gives
