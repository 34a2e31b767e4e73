use denote.Exit.{no}
use denote.Param.Send.{param_send, arg_send}
use Rattle.line_chain.proofs.Sending.{line_send}
use Rattle.line_chain.specs.Line.{line_whole, line_rest, line_is_open}
use Rattle.port_core.specs.Call.{cancels}
use Rattle.stage_sub.proofs.LedNodes.{handles, grew}
use Rattle.stage_sub.proofs.handlers.SubLogicLineChainStage.on_cancel.Goals as goal

pub returns-clause-handles : goal.returns-clause-handles
returns-clause-handles c = handles line_whole line_rest line_is_open (cancels c.args._port) _ _ _ _ c.requires.meets c.on_cancel.ensures.ports c.on_cancel.ensures.gives c.on_cancel.ensures.ready

pub on_cancel-requires-send-C : goal.on_cancel-requires-send-C
on_cancel-requires-send-C c κs = param_send 0 _ (arg_send _ no _ line_send)

pub returns-clause-grows : goal.returns-clause-grows
returns-clause-grows c = grew line_whole line_rest line_is_open (cancels 0) _ _ _ _ c.on_cancel.ensures.gives
