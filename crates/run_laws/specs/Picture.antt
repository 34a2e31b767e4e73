-- Which sinks of a run have ended.
use Rattle.std.specs.Prelude.{Bool, true, false, Option, None, Some}
use Rattle.stream_model.specs.declared.outcome.EndState.{EndState}
use Rattle.stream_model.specs.declared.outcome.EndState.TheVariants.{Ended, Failed, Unended, WriteFault}
use Rattle.nodes.specs.declared.node.IslandNode.{IslandNode}
use Rattle.nodes.specs.declared.node.IslandNode.TheVariants.{Reading, Making, Linear, State, Sub, FanIn, FanOut, Custom, Writing, Ignoring, Entering, Leaving}

-- a sink does not go on
abbrev pub has_ended : EndState → Bool
has_ended Ended = true
has_ended (Failed c) = true
has_ended Unended = false
has_ended WriteFault = true

-- the node is a sink that has ended
abbrev pub sink_ended : {S D L H B : Type 0} → IslandNode S D L H B → Bool
sink_ended (Reading x) = false
sink_ended (Making x) = false
sink_ended (Linear x) = false
sink_ended (State x) = false
sink_ended (Sub x) = false
sink_ended (FanIn x) = false
sink_ended (FanOut x) = false
sink_ended (Custom x) = false
sink_ended (Writing x) = has_ended x.end
sink_ended (Ignoring x) = has_ended x.end
sink_ended (Entering x) = false
sink_ended (Leaving x) = false

-- the same of a node that may be there
abbrev pub ended_there : {S D L H B : Type 0} → Option (IslandNode S D L H B) → Bool
ended_there None = false
ended_there (Some x) = sink_ended x
