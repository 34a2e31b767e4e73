-- The loop of `board::hand_out`.
use Rattle.std.proofs.Common.{◌≡◌, List, ◌++◌, map, drop}
use Rattle.stream_model.specs.declared.blueprint.WireDecl.{WireDecl}
use Rattle.materializer.specs.HandedCustoms.{handed_heads, HasGuests, guest_types, types_by_heads}
use Rattle.materializer.proofs.HandingGuests.{IsReady, IsReadyToHire, AllHold, FitsWires, HasHead, Completes, CompletesPorts}
use Rattle.materializer.proofs.plug_board.hand_out.Given as goal

-- there are plugs and custom stages for the nodes that are left, and with those that were handed theirs they are all
abbrev pub invariant-loop-node : goal.invariant-loop-node
invariant-loop-node g l =
    IsReady g.L.Logic.gives g.H.Handlers.tells g.B.PlugBook.lists l.left.items (drop l.node-index l.nodes)
    × IsReadyToHire g.H.Handlers.tells g.B.PlugBook.lists l.unhired.items (drop l.node-index l.nodes)
    × Completes g.L.Logic.gives g.H.Handlers.tells g.B.PlugBook.lists l.nodes (drop l.node-index l.nodes) l.handed.items
    × ((wires : List WireDecl) → HasGuests (handed_heads l.fn.plugs.items l.fn.customs.items) wires l.nodes
    → AllHold (FitsWires wires) l.unhired.items (drop l.node-index l.nodes) × CompletesPorts wires l.nodes (drop l.node-index l.nodes) l.handed.items)
    × AllHold (HasHead (handed_heads l.fn.plugs.items l.fn.customs.items)) l.unhired.items (drop l.node-index l.nodes)
    × (map guest_types l.handed.items ++ types_by_heads (handed_heads l.fn.plugs.items l.fn.customs.items) (drop l.node-index l.nodes) ≡ types_by_heads (handed_heads l.fn.plugs.items l.fn.customs.items) l.nodes)
