-- The goal of `node::IslandNode::close` that the search leaves.
use denote.Exit.{no}
use denote.Param.Send.{param_send, arg_send}
use Rattle.line_chain.proofs.Sending.{line_send}
use Rattle.nodes.proofs.node.IslandNode.close.Goals as goal

pub picks-requires-send-C : goal.picks-requires-send-C
picks-requires-send-C g c κs = param_send 0 _ (arg_send _ no _ line_send)
