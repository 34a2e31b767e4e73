-- The goals of `seats::invited` that the search leaves.
use Rattle.std.proofs.Common.{◌∙◌, [], Some, ap, sym, subst}
use Rattle.blue_names.specs.CustomPorts.{custom_of}
use Rattle.blue_names.specs.Names.{plug_of}
use Rattle.materializer.specs.Graphs.{Around}
use Rattle.materializer.specs.HandedCustoms.{IsGuest, HasPorts, guest_types}
use Rattle.materializer.specs.Ports.{used_ports}
use Rattle.materializer.specs.declared.guest.Guest.{Guest}
use Rattle.materializer.proofs.Guests.{plug_is, custom_is}
use Rattle.materializer.proofs.Leading.{free_plan}
use Rattle.materializer.proofs.seats.invited.Goals as goal

pub plugged-requires : goal.plugged-requires
plugged-requires g c = (plug_is _ g.L.Logic.gives g.H.Handlers.tells g.B.PlugBook.lists c.args.kind c.in-Plug.plug (subst (λ e. IsGuest g.L.Logic.gives g.H.Handlers.tells g.B.PlugBook.lists (plug_of c.args.kind) (custom_of c.args.kind) (Some e)) c.in-Plug.is c.requires)).1

pub returns-in-Plug-clause-planned : goal.returns-in-Plug-clause-planned
returns-in-Plug-clause-planned g c =
    let handed = subst (λ e. IsGuest g.L.Logic.gives g.H.Handlers.tells g.B.PlugBook.lists (plug_of c.args.kind) (custom_of c.args.kind) (Some e)) c.in-Plug.is c.requires in
    λ around node is same ports. c.plugged.ensures.planned around node (is ∙ (plug_is _ g.L.Logic.gives g.H.Handlers.tells g.B.PlugBook.lists c.args.kind c.in-Plug.plug handed).0) same

pub returns-in-Plug-clause-free : goal.returns-in-Plug-clause-free
returns-in-Plug-clause-free g c =
    let handed = subst (λ e. IsGuest g.L.Logic.gives g.H.Handlers.tells g.B.PlugBook.lists (plug_of c.args.kind) (custom_of c.args.kind) (Some e)) c.in-Plug.is c.requires in
    λ chains node is same.
    let around : Around = record { chains = chains; wires = [] } in
    free_plan around c.args.k node _ (c.plugged.ensures.planned around node (is ∙ (plug_is _ g.L.Logic.gives g.H.Handlers.tells g.B.PlugBook.lists c.args.kind c.in-Plug.plug handed).0) same)

pub hired-requires-clause-fits : goal.hired-requires-clause-fits
hired-requires-clause-fits g c = (custom_is g.L.Logic.gives g.H.Handlers.tells g.B.PlugBook.lists c.args.kind c.in-Custom.custom (subst (λ e. IsGuest g.L.Logic.gives g.H.Handlers.tells g.B.PlugBook.lists (plug_of c.args.kind) (custom_of c.args.kind) (Some e)) c.in-Custom.is c.requires)).1

pub hired-requires-clause-told : goal.hired-requires-clause-told
hired-requires-clause-told g c = (custom_is g.L.Logic.gives g.H.Handlers.tells g.B.PlugBook.lists c.args.kind c.in-Custom.custom (subst (λ e. IsGuest g.L.Logic.gives g.H.Handlers.tells g.B.PlugBook.lists (plug_of c.args.kind) (custom_of c.args.kind) (Some e)) c.in-Custom.is c.requires)).2

pub returns-clause-planned : goal.returns-clause-planned
returns-clause-planned g c =
    let handed = subst (λ e. IsGuest g.L.Logic.gives g.H.Handlers.tells g.B.PlugBook.lists (plug_of c.args.kind) (custom_of c.args.kind) (Some e)) c.in-Custom.is c.requires in
    λ around node is same ports.
    c.in_ok-planned-in-Custom.ensures.planned around node (is ∙ (custom_is g.L.Logic.gives g.H.Handlers.tells g.B.PlugBook.lists c.args.kind c.in-Custom.custom handed).0)
    (subst (λ e. HasPorts (used_ports around.wires node.name) (Some e)) c.in-Custom.is ports)

pub returns-clause-free : goal.returns-clause-free
returns-clause-free g c =
    let handed = subst (λ e. IsGuest g.L.Logic.gives g.H.Handlers.tells g.B.PlugBook.lists (plug_of c.args.kind) (custom_of c.args.kind) (Some e)) c.in-Custom.is c.requires in
    λ chains node is same. c.in_ok-planned-in-Custom.ensures.free chains node (is ∙ (custom_is g.L.Logic.gives g.H.Handlers.tells g.B.PlugBook.lists c.args.kind c.in-Custom.custom handed).0)

pub returns-in-Plug-clause-types : goal.returns-in-Plug-clause-types
returns-in-Plug-clause-types g c = c.plugged.ensures.types ∙ ap (λ (e : Guest _ _). guest_types (Some e)) (sym c.in-Plug.is)

pub returns-clause-types : goal.returns-clause-types
returns-clause-types g c = c.in_ok-planned-in-Custom.ensures.types ∙ ap (λ (e : Guest _ _). guest_types (Some e)) (sym c.in-Custom.is)
