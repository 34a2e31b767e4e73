-- The goals of `board::hand_out` that the search leaves.
use Rattle.std.proofs.lemmas.List.{drop_all}
use Rattle.materializer.specs.HandedCustoms.{handed_heads}
use Rattle.materializer.proofs.HandingGuests.{ready_first, ready_here, hire_here, ready_next, guest_is, completes_first, completes_here, completes_next, completes_last, FitsWires, HasHead, ports_first, ports_here, ports_are, ports_left, ports_next, ports_none, ports_last, heads_first, types_first, types_next, types_last}
use Rattle.materializer.proofs.plug_board.hand_out.Goals as goal

pub loop-node-init : goal.loop-node-init
loop-node-init g c =
    let ready = ready_first g.L.Logic.gives g.H.Handlers.tells g.B.PlugBook.lists c.args.plugs.items c.args.customs.items c.requires.has.0 c.args.nodes.now c.requires.has.1 c.requires.keep c.requires.told in (
      ready.0,
      ready.1,
      completes_first g.L.Logic.gives g.H.Handlers.tells g.B.PlugBook.lists c.args.nodes.now _ c.new-handed.ensures.items,
      λ wires has. (ports_first c.args.plugs.items c.args.customs.items wires c.args.nodes.now has, ports_none wires c.args.nodes.now _ c.new-handed.ensures.items),
      heads_first c.args.plugs.items c.args.customs.items c.requires.has.0 c.args.nodes.now c.requires.has.1,
      types_first (handed_heads c.args.plugs.items c.args.customs.items) c.args.nodes.now _ c.new-handed.ensures.items,
    )

pub hand_guest-requires-clause-plugs : goal.hand_guest-requires-clause-plugs
hand_guest-requires-clause-plugs g c = (ready_here g.L.Logic.gives g.H.Handlers.tells g.B.PlugBook.lists c.args.nodes.now c.loop-node.node-index c.node-item.result _ c.loop-node-test.true c.node-item.is c.loop-node.invariant.0).known.0

pub hand_guest-requires-clause-customs : goal.hand_guest-requires-clause-customs
hand_guest-requires-clause-customs g c = (hire_here g.H.Handlers.tells g.B.PlugBook.lists c.args.nodes.now c.loop-node.node-index c.node-item.result _ c.loop-node-test.true c.node-item.is c.loop-node.invariant.1).known.0

pub loop-node-preserved : goal.loop-node-preserved
loop-node-preserved g c =
    let ready = ready_here g.L.Logic.gives g.H.Handlers.tells g.B.PlugBook.lists c.args.nodes.now c.loop-node.node-index c.node-item.result _ c.loop-node-test.true c.node-item.is c.loop-node.invariant.0 in
    let hire = hire_here g.H.Handlers.tells g.B.PlugBook.lists c.args.nodes.now c.loop-node.node-index c.node-item.result _ c.loop-node-test.true c.node-item.is c.loop-node.invariant.1 in
    let completes = completes_here g.L.Logic.gives g.H.Handlers.tells g.B.PlugBook.lists c.args.nodes.now c.loop-node.node-index c.node-item.result _ c.loop-node-test.true c.node-item.is c.loop-node.invariant.2 in
    let heads = handed_heads c.args.plugs.items c.args.customs.items in
    let named = ports_here (HasHead heads) c.args.nodes.now c.loop-node.node-index c.node-item.result _ c.loop-node-test.true c.node-item.is c.loop-node.invariant.4 in
    let next = ready_next g.L.Logic.gives g.H.Handlers.tells g.B.PlugBook.lists c.node-item.result _ _ _ _ _ _ ready hire c.hand_guest.ensures in (
      next.0,
      next.1,
      completes_next g.L.Logic.gives g.H.Handlers.tells g.B.PlugBook.lists c.args.nodes.now c.node-item.result _ _ _ _ completes (guest_is g.L.Logic.gives g.H.Handlers.tells g.B.PlugBook.lists c.node-item.result _ _ _ _ _ _ ready hire c.hand_guest.ensures) c.in_ok-push.ensures.items,
      λ wires has.
          let old = c.loop-node.invariant.3 wires has in
          let all = ports_here (FitsWires wires) c.args.nodes.now c.loop-node.node-index c.node-item.result _ c.loop-node-test.true c.node-item.is old.0 in
          let ports = ports_are wires c.node-item.result _ _ _ _ _ _ all c.hand_guest.ensures in
          (ports_left (FitsWires wires) c.node-item.result _ _ _ _ _ _ all c.hand_guest.ensures, ports_next wires c.args.nodes.now c.loop-node.node-index c.node-item.result _ _ _ c.loop-node-test.true c.node-item.is old.1 ports c.in_ok-push.ensures.items),
      ports_left (HasHead heads) c.node-item.result _ _ _ _ _ _ named c.hand_guest.ensures,
      types_next heads c.args.nodes.now c.loop-node.node-index c.node-item.result _ _ _ _ _ _ _ c.loop-node-test.true c.node-item.is named c.hand_guest.ensures c.in_ok-push.ensures.items c.loop-node.invariant.5,
    )

pub returns-clause-ports : goal.returns-clause-ports
returns-clause-ports g c = λ wires has. ports_last wires c.args.nodes.now _ _ (c.loop-node.invariant.3 wires has).1 (drop_all _ _ c.loop-node-test.false)

pub returns-clause-guests : goal.returns-clause-guests
returns-clause-guests g c = completes_last g.L.Logic.gives g.H.Handlers.tells g.B.PlugBook.lists c.args.nodes.now _ _ c.loop-node.invariant.2 (drop_all _ _ c.loop-node-test.false)

pub returns-clause-types : goal.returns-clause-types
returns-clause-types g c = types_last (handed_heads c.args.plugs.items c.args.customs.items) c.args.nodes.now _ _ (drop_all _ _ c.loop-node-test.false) c.loop-node.invariant.5
