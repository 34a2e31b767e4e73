-- Blueprints that do not stall, and pictures of them in which a stage could go on; and moves of substreams that were never made.
use Rattle.std.specs.Prelude.{ℕ, pos, Bool, true, false, List, [], ◌∷◌, codes}
use Rattle.elem_core.specs.declared.function.MapFn.TheVariants as f
use Rattle.elem_core.specs.declared.function.Pred.TheVariants as p
use Rattle.stream_model.specs.declared.kind.Joining.TheVariants as joining
use Rattle.stream_model.specs.Node.{World}
use Rattle.stream_model.specs.declared.kind.Kind.{Kind}
use Rattle.stream_model.specs.declared.kind.Kind.TheVariants as k
use Rattle.stream_model.specs.declared.kind.Policy.TheVariants as policy
use Rattle.stream_model.specs.declared.outcome.WireCount.{WireCount}
use Rattle.stream_model.specs.Graph.{Graph}
use Rattle.stream_model.specs.Samples.{node, wire, to_lines, chains, world}
use Rattle.stream_model.specs.Stalled.{live}

-- a range to a broadcast, which goes to a stage with two inputs, to the second one by a buffer
abbrev pub meeting : Kind → Graph
meeting kind = record {
  nodes = node (k.Range (pos 1) (pos 3)) ∷ node (k.Broadcast 2) ∷ node (k.Buffer 4 policy.Backpressure) ∷ node kind ∷ to_lines ∷ [];
  wires = wire 0 0 1 0 ∷ wire 1 0 3 0 ∷ wire 1 1 2 0 ∷ wire 2 0 3 1 ∷ wire 3 0 4 0 ∷ [];
  chains = [];
}

-- such a graph with an interleave, by segments of one element
abbrev pub in_turns : Graph
in_turns = meeting (k.Interleave 2 1)

-- such a graph with a merge_sorted
abbrev pub sorted : Graph
sorted = meeting k.MergeSorted

-- nothing was sent; the second input of the stage is asked
abbrev pub nothing_sent : List WireCount
nothing_sent = live 0 false ∷ live 0 false ∷ live 0 true ∷ live 0 true ∷ live 0 true ∷ []

-- even and odd numbers to a zip
abbrev pub by_parity : Graph
by_parity = record {
  nodes = node (k.Range (pos 0) (pos 5)) ∷ node (k.Partition 2 (f.Add (pos 0))) ∷ node k.Zip ∷ to_lines ∷ [];
  wires = wire 0 0 1 0 ∷ wire 1 0 2 0 ∷ wire 1 1 2 1 ∷ wire 2 0 3 0 ∷ [];
  chains = [];
}

-- one number was sent, and nothing more is asked of the partition
abbrev pub one_sent : List WireCount
one_sent = live 1 false ∷ live 1 false ∷ live 0 true ∷ live 0 true ∷ []

-- two numbers to a stage that gives each twice, by a substream of its own, merged
abbrev pub doubling : Graph
doubling = record {
  nodes = node (k.Range (pos 1) (pos 2)) ∷ node (k.SplitAfter (p.Ge (pos 0)) (codes "doubled") joining.Merge) ∷ to_lines ∷ [];
  wires = wire 0 0 1 0 ∷ wire 1 0 2 0 ∷ [];
  chains = chains;
}

-- its moves are said to be four
abbrev pub four_moves : World
four_moves = world [] ((1, 0 ∷ 0 ∷ 1 ∷ 1 ∷ []) ∷ [])

-- though one number came to it, and it gave one
abbrev pub one_given : List WireCount
one_given = live 1 false ∷ live 1 true ∷ []

-- a merge of a source and of what a broadcast gives, which goes to a zip with the broadcast's other output
abbrev pub merged : Graph
merged = record {
  nodes = node (k.Range (pos 1) (pos 3)) ∷ node (k.Range (pos 1) (pos 3)) ∷ node (k.Broadcast 2) ∷ node (k.Merge 2) ∷ node k.Zip ∷ to_lines ∷ [];
  wires = wire 0 0 2 0 ∷ wire 2 0 3 0 ∷ wire 1 0 3 1 ∷ wire 3 0 4 0 ∷ wire 2 1 4 1 ∷ wire 4 0 5 0 ∷ [];
  chains = [];
}

-- it took one element of its second input
abbrev pub one_move : World
one_move = world [] ((3, 1 ∷ []) ∷ [])

-- its first input is not asked, though nothing of it waits
abbrev pub one_merged : List WireCount
one_merged = live 0 false ∷ live 0 false ∷ live 1 false ∷ live 1 false ∷ live 0 true ∷ live 0 true ∷ []
