use denote.Exit.{no}
use denote.Param.Send.{param_send, arg_send}
use Rattle.line_chain.proofs.Sending.{line_send}
use Rattle.line_chain.specs.Line.{line_whole, line_rest, line_is_open}
use Rattle.port_core.specs.Call.{arrives}
use Rattle.elem_core.specs.declared.item.Item.TheVariants as item
use Rattle.stage_sub.proofs.LedNodes.{handles, grew}
use Rattle.stage_sub.proofs.handlers.SubLogicLineChainStage.on_push.Goals as goal

pub returns-clause-handles : goal.returns-clause-handles
returns-clause-handles c = handles line_whole line_rest line_is_open (arrives c.args._port (item.Elem c.args.e)) _ _ _ _ c.requires.meets c.on_push.ensures.ports c.on_push.ensures.gives c.on_push.ensures.ready

pub on_push-requires-send-C : goal.on_push-requires-send-C
on_push-requires-send-C c κs = param_send 0 _ (arg_send _ no _ line_send)

pub returns-clause-grows : goal.returns-clause-grows
returns-clause-grows c = grew line_whole line_rest line_is_open (arrives 0 (item.Elem c.args.e)) _ _ _ _ c.on_push.ensures.gives
