-- The goals of `island::hand_back` that the search leaves.
use Rattle.std.proofs.Common.{◌≡◌, ◌∙◌, ℕ, ap, length, map, sym, subst}
use Rattle.std.proofs.lemmas.List.{length-map}
use Rattle.fused_net.specs.Laws.{AllKept}
use Rattle.fused_net.proofs.Keeping.{kept_same}
use Rattle.nodes.specs.Nodes.{KeepsNode}
use Rattle.interpreter.specs.Parts.{seat_place, wire_number}
use Rattle.interpreter.specs.Room.{HasRoom}
use Rattle.interpreter.proofs.Handing.{hands_back}
use Rattle.interpreter.proofs.island.hand_back.Goals as goal

pub leave-requires-clause-places : goal.leave-requires-clause-places
leave-requires-clause-places g c =
    let places : length (map seat_place c.args.parts.nodes.items) ≡ length c.args.parts.nodes.items = length-map c.args.parts.nodes.items seat_place in
    let nodes : length c.assemble-engine.result.nodes ≡ length (map seat_place c.args.parts.nodes.items) = c.assemble-engine.ensures.count ∙ c.args.parts.nodes.ok.0 ∙ sym places in
    ap length c.deref-2.ensures.value ∙ ap length c.requires.room.places_are ∙ length-map (map seat_place c.args.parts.nodes.items) _ ∙ sym nodes

pub leave-requires-clause-room : goal.leave-requires-clause-room
leave-requires-clause-room g c =
    let places : length (map seat_place c.args.parts.nodes.items) ≡ length c.args.parts.nodes.items = length-map c.args.parts.nodes.items seat_place in
    let nodes : length c.assemble-engine.result.nodes ≡ length (map seat_place c.args.parts.nodes.items) = c.assemble-engine.ensures.count ∙ c.args.parts.nodes.ok.0 ∙ sym places in
    let numbers : length c.deref.result.now ≡ length c.args.parts.links.items = ap length c.deref.ensures.value ∙ ap length c.requires.room.numbers ∙ length-map c.args.parts.links.items wire_number in
    subst (λ (n : ℕ). HasRoom c.args.room.end n (length c.deref.result.now)) (sym nodes)
    (subst (λ (n : ℕ). HasRoom c.args.room.end (length (map seat_place c.args.parts.nodes.items)) n) (sym numbers) c.requires.room.end)

pub returns : goal.returns
returns g c =
    let firsts = c.assemble-engine.result.firsts in
    hands_back g.S.Source.state g.D.Drain.state _ firsts c.assemble-engine.result.nodes _ c.assemble-engine.ensures.firsts
    (subst (λ ns. AllKept (KeepsNode g.S.Source.state g.D.Drain.state) firsts ns) (sym c.assemble-engine.ensures.nodes) (kept_same (KeepsNode g.S.Source.state g.D.Drain.state) firsts)) c.leave.ensures.readers c.leave.ensures.writers
