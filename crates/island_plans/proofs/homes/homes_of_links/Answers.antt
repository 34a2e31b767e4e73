-- The goals of `homes::homes_of_links` that the search leaves.
use Rattle.std.proofs.Common.{◌<◌, ◌∙◌}
use Rattle.std.specs.Prelude.{is_none}
use Rattle.std.specs.List.{filter}
use Rattle.std.proofs.lemmas.List.Elements.{All-filter, All-same}
use Rattle.blue_names.specs.declared.links.NumberedWire.{NumberedWire}
use Rattle.blue_check.proofs.Planning.{labels_below}
use Rattle.island_plans.proofs.Numbered.{labels_read, numbered_homes}
use Rattle.island_plans.proofs.homes.homes_of_links.Goals as goal

pub labels_of-requires : goal.labels_of-requires
labels_of-requires c =
    All-same (λ (l : NumberedWire). (l.from < c.args.nodes) × (l.to < c.args.nodes)) c.deref.result.now (filter (λ (l : NumberedWire). is_none l.lane) c.args.links.now) (c.deref.ensures.value ∙ c.in_ok-fused.ensures)
    (All-filter (λ (l : NumberedWire). is_none l.lane) (λ (l : NumberedWire). (l.from < c.args.nodes) × (l.to < c.args.nodes)) c.args.links.now c.requires)

pub homes_of-requires : goal.homes_of-requires
homes_of-requires c = labels_below _ c.args.nodes c.in_ok-labels.labels.items c.deref-2.result.now c.in_ok-labels.ensures c.deref-2.ensures.value

pub returns : goal.returns
returns c =
    let found = c.in_ok-found.found in
    let links = c.args.links.now in
    let nodes = c.args.nodes in
    let labels = labels_read nodes links c.in_ok-fused.fused.items c.deref.result.now c.in_ok-labels.labels.items c.deref-2.result.now c.deref.ensures.value c.in_ok-fused.ensures c.deref-2.ensures.value c.in_ok-labels.ensures in
    numbered_homes nodes links c.deref-2.result.now found.homes.items found.firsts.items _ (c.in_ok-found.ensures.homes nodes links labels c.requires) c.in_ok-found.ensures.numbered found.firsts.ok.0
