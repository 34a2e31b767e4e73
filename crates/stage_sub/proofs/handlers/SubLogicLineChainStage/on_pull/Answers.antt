use denote.Exit.{no}
use denote.Param.Send.{param_send, arg_send}
use Rattle.line_chain.proofs.Sending.{line_send}
use Rattle.line_chain.specs.Line.{line_whole, line_rest, line_is_open}
use Rattle.port_core.specs.Call.{pulls}
use Rattle.stage_sub.proofs.LedNodes.{handles, grew}
use Rattle.stage_sub.proofs.handlers.SubLogicLineChainStage.on_pull.Goals as goal

pub returns-clause-handles : goal.returns-clause-handles
returns-clause-handles c = handles line_whole line_rest line_is_open (pulls c.args._port) _ _ _ _ c.requires.meets c.on_pull.ensures.ports c.on_pull.ensures.gives c.on_pull.ensures.ready

pub on_pull-requires-send-C : goal.on_pull-requires-send-C
on_pull-requires-send-C c κs = param_send 0 _ (arg_send _ no _ line_send)

pub returns-clause-grows : goal.returns-clause-grows
returns-clause-grows c = grew line_whole line_rest line_is_open (pulls 0) _ _ _ _ c.on_pull.ensures.gives
