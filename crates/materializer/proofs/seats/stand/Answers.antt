-- The goals of `seats::stand` that the search leaves.
use Rattle.std.proofs.Common.{◌∙◌, Option, [], map, refl, ap, sym, subst}
use Rattle.blue_names.specs.CustomPorts.{custom_of}
use Rattle.blue_names.specs.Names.{plug_of}
use Rattle.stage_switch.specs.declared.end.SwitchEnd.{SwitchEnd}
use Rattle.materializer.specs.Board.{seat_of_end}
use Rattle.materializer.specs.HandedCustoms.{IsGuest, HasPorts, guest_types}
use Rattle.materializer.specs.Ports.{used_ports}
use Rattle.materializer.specs.Graphs.{Around, graph_chain}
use Rattle.materializer.specs.declared.guest.Guest.{Guest}
use Rattle.stream_model.specs.declared.blueprint.Node.{Node}
use Rattle.materializer.proofs.Guests.{no_guest, guest_sits_nowhere}
use Rattle.materializer.proofs.Leading.{free_plan, no_types}
use Rattle.materializer.proofs.seats.stand.Goals as goal

pub invited-requires : goal.invited-requires
invited-requires g c = subst (λ e. IsGuest g.L.Logic.gives g.H.Handlers.tells g.B.PlugBook.lists (plug_of c.args.kind) (custom_of c.args.kind) e) c.in-Some.is c.requires.guest

pub unplugged-requires-clause-no_plug : goal.unplugged-requires-clause-no_plug
unplugged-requires-clause-no_plug g c = (no_guest _ g.L.Logic.gives g.H.Handlers.tells g.B.PlugBook.lists c.args.kind (subst (λ e. IsGuest g.L.Logic.gives g.H.Handlers.tells g.B.PlugBook.lists (plug_of c.args.kind) (custom_of c.args.kind) e) c.in-None.is c.requires.guest)).0

pub unplugged-requires-clause-no_custom : goal.unplugged-requires-clause-no_custom
unplugged-requires-clause-no_custom g c = (no_guest _ g.L.Logic.gives g.H.Handlers.tells g.B.PlugBook.lists c.args.kind (subst (λ e. IsGuest g.L.Logic.gives g.H.Handlers.tells g.B.PlugBook.lists (plug_of c.args.kind) (custom_of c.args.kind) e) c.in-None.is c.requires.guest)).1

pub returns-in_ok-planned-in-Some-clause-planned : goal.returns-in_ok-planned-in-Some-clause-planned
returns-in_ok-planned-in-Some-clause-planned g c =
    λ wires node is same ports.
    c.in_ok-planned-in-Some.ensures.planned (record { chains = map graph_chain c.args.chains.now; wires = wires }) node is same
    (subst (λ e. HasPorts (used_ports wires node.name) e) c.in-Some.is ports)

pub returns-in_ok-planned-in-Some-clause-seat : goal.returns-in_ok-planned-in-Some-clause-seat
returns-in_ok-planned-in-Some-clause-seat g c =
    let none = guest_sits_nowhere g.L.Logic.gives g.H.Handlers.tells g.B.PlugBook.lists c.args.kind c.in-Some.guest c.args.switch (subst (λ e. IsGuest g.L.Logic.gives g.H.Handlers.tells g.B.PlugBook.lists (plug_of c.args.kind) (custom_of c.args.kind) e) c.in-Some.is c.requires.guest) c.requires.handed in
    c.in_ok-planned-in-Some.ensures.seat ∙ ap (λ (e : Option SwitchEnd). seat_of_end e) (sym none)

pub returns-in_ok-planned-in-Some-clause-free : goal.returns-in_ok-planned-in-Some-clause-free
returns-in_ok-planned-in-Some-clause-free g c = c.in_ok-planned-in-Some.ensures.free (map graph_chain c.args.chains.now)

pub returns-in_ok-planned-in-None-clause-planned : goal.returns-in_ok-planned-in-None-clause-planned
returns-in_ok-planned-in-None-clause-planned g c = λ wires node is same ports. c.in_ok-planned-in-None.ensures.planned wires node is same

pub returns-in_ok-planned-in-None-clause-free : goal.returns-in_ok-planned-in-None-clause-free
returns-in_ok-planned-in-None-clause-free g c =
    λ node is same. free_plan (record { chains = map graph_chain c.args.chains.now; wires = [] }) c.args.k node _ (c.in_ok-planned-in-None.ensures.planned [] node is same)

pub returns-in_ok-planned-in-Some-clause-types : goal.returns-in_ok-planned-in-Some-clause-types
returns-in_ok-planned-in-Some-clause-types g c = c.in_ok-planned-in-Some.ensures.types ∙ ap (λ (e : Option (Guest _ _)). guest_types e) (sym c.in-Some.is)

pub returns-in_ok-planned-in-None-clause-types : goal.returns-in_ok-planned-in-None-clause-types
returns-in_ok-planned-in-None-clause-types g c =
    let node : Node = record { name = []; kind = c.args.kind; decider = c.args.decider } in
    let around : Around = record { chains = map graph_chain c.args.chains.now; wires = [] } in
    let none = (no_guest _ g.L.Logic.gives g.H.Handlers.tells g.B.PlugBook.lists c.args.kind (subst (λ e. IsGuest g.L.Logic.gives g.H.Handlers.tells g.B.PlugBook.lists (plug_of c.args.kind) (custom_of c.args.kind) e) c.in-None.is c.requires.guest)).1 in
    no_types around c.args.k node _ (free_plan around c.args.k node _ (c.in_ok-planned-in-None.ensures.planned [] node refl refl)) none
    ∙ ap (λ (e : Option (Guest _ _)). guest_types e) (sym c.in-None.is)
