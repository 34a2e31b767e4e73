-- The loop of `chains::steps_named`.
use Rattle.std.proofs.Common.{◌≡◌, map, drop}
use Rattle.stream_model.specs.Graph.{steps_of}
use Rattle.materializer.specs.Graphs.{graph_chain}
use Rattle.materializer.proofs.chains.steps_named.Given as goal

-- none of the chains so far has that name
abbrev pub invariant-loop-chain : goal.invariant-loop-chain
invariant-loop-chain l = steps_of l.name (map graph_chain l.chains) ≡ steps_of l.name (map graph_chain (drop l.chain-index l.chains))
