use Rattle.std.proofs.Common.{◌≡◌, ℕ, ◌<◌, length, sym, ◌∙◌, ap, subst, arith}
use Rattle.std.specs.Prelude.{is_none}
use Rattle.std.specs.List.{filter}
use Rattle.std.proofs.lemmas.List.Elements.{All-filter, All-same}
use Rattle.blue_names.specs.declared.links.NumberedWire.{NumberedWire}
use Rattle.blue_names.specs.Links.{wires_of_links}
use Rattle.blue_check.specs.Plan.{nodes_at, island_nodes, island_wires, lanes_from}
use Rattle.blue_check.specs.Labels.{AreLabels}
use Rattle.blue_check.specs.Homes.{AreNumbered}
use Rattle.blue_check.proofs.Planning.{AreHomes-numbered, AreInOrder-numbered, labels_below, homes_below}
use Rattle.blue_check.proofs.islands.plan_of.Goals as goal

pub labels_of-requires : goal.labels_of-requires
labels_of-requires c =
    All-same (λ (l : NumberedWire). (l.from < c.args.count) × (l.to < c.args.count)) c.deref.result.now (filter (λ (l : NumberedWire). is_none l.lane) c.args.links.now) (c.deref.ensures.value ∙ c.in_ok-fused_links.ensures)
    (All-filter (λ (l : NumberedWire). is_none l.lane) (λ (l : NumberedWire). (l.from < c.args.count) × (l.to < c.args.count)) c.args.links.now c.requires)

pub homes_of-requires : goal.homes_of-requires
homes_of-requires c = labels_below _ c.args.count c.in_ok-labels.labels.items c.deref-2.result.now c.in_ok-labels.ensures c.deref-2.ensures.value

pub put_nodes-requires-clause-homes : goal.put_nodes-requires-clause-homes
put_nodes-requires-clause-homes c =
    let found = c.in_ok-found.found in
    homes_below c.deref-2.result.now found.homes.items found.firsts.items c.deref-3.result.now _ c.in_ok-found.ensures.numbered c.deref-3.ensures.value (omega (arith, c.in_ok-islands.ensures.length, c.len.ensures, found.firsts.ok.0))

pub put_wires-requires-clause-homes : goal.put_wires-requires-clause-homes
put_wires-requires-clause-homes c =
    let found = c.in_ok-found.found in
    homes_below c.deref-2.result.now found.homes.items found.firsts.items c.deref-4.result.now _ c.in_ok-found.ensures.numbered c.deref-4.ensures.value
    (omega (arith, c.in_ok-put_nodes.ensures.length, c.in_ok-islands.ensures.length, c.len.ensures, found.firsts.ok.0))

pub returns : goal.returns
returns c =
    let links = c.args.links.now in
    let found = c.in_ok-found.found in
    let labels = c.in_ok-labels.labels.items in
    let filled = c.in_ok-put_wires.ensures in
    let islands = c.put_wires.new.islands in
    let are_labels = subst (λ ls. AreLabels (wires_of_links ls) c.args.count labels) (c.deref.ensures.value ∙ c.in_ok-fused_links.ensures) c.in_ok-labels.ensures in
    let numbered = subst (λ ls. AreNumbered ls found.homes.items found.firsts.items) c.deref-2.ensures.value c.in_ok-found.ensures.numbered in
    let long : length found.homes.items ≡ length labels = sym found.homes.ok.0 ∙ c.in_ok-found.ensures.each ∙ ap length c.deref-2.ensures.value in
    let many : length islands.items ≡ length found.firsts.items = omega (arith, islands.ok.0, filled.length, c.in_ok-put_nodes.ensures.length, c.in_ok-islands.ensures.length, c.len.ensures, found.firsts.ok.0) in
    let nodes : (k : ℕ) → nodes_at islands.items k ≡ island_nodes found.homes.items k = λ k. filled.nodes k ∙ c.in_ok-put_nodes.ensures.nodes k ∙ ap (λ hs. island_nodes hs k) c.deref-3.ensures.value in
    record {
      homes = found.homes.items;
      are = AreHomes-numbered c.args.count links labels found.homes.items found.firsts.items are_labels numbered long c.requires;
      there = λ a lt. omega (arith, numbered.here a (omega (arith, lt, long, are_labels.each)), many);
      nodes = nodes;
      wires = λ k. filled.wires k ∙ ap (λ hs. island_wires hs (wires_of_links links) k) c.deref-4.ensures.value;
      order = AreInOrder-numbered labels found.homes.items found.firsts.items islands.items numbered many nodes;
      lanes = c.in_ok-lanes.ensures ∙ ap (λ hs. lanes_from hs 0 (wires_of_links links)) c.deref-5.ensures.value;
    }
