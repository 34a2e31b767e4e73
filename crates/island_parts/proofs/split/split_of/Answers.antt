-- The goals of `split::split_of` that the search leaves.
use Rattle.std.proofs.Common.{◌≡◌, refl, ◌∙◌, ◌<◌, ◌^◌, List, [], length, map, vec_len, ap, sym, subst, arith, rules}
use Rattle.std.specs.List.{All}
use Rattle.std.proofs.lemmas.List.{length-map}
use Rattle.blue_names.specs.Links.{AreInRange, wires_of_links}
use Rattle.interpreter.specs.declared.parts.Link.{Link}
use Rattle.interpreter.specs.declared.parts.Place.{Place}
use Rattle.blue_check.specs.Plan.{lanes_from}
use Rattle.scatter.specs.Shares.{of_home, items_at, AreEmptyFor}
use Rattle.island_parts.specs.Split.{IsSpace}
use Rattle.island_parts.specs.Whole.{whole_places, whole_links, lanes_in, at_ranks, own_links, link_home}
use Rattle.island_parts.proofs.Cutting.{lanes_count}
use Rattle.island_parts.proofs.Splitting.{links_whole, all_is, all_below, homes_below, locals_are, empty_as, below_as, few_each}
use Rattle.island_parts.proofs.split.split_of.Goals as goal

pub ranks_of-requires : goal.ranks_of-requires
ranks_of-requires g c =
    let ws = wires_of_links c.args.wires.now in
    let n = length c.args.nodes.items in
    let homes = c.args.homes.items in
    let count = c.args.count in
    let range = subst (λ m. AreInRange m c.args.wires.now) c.args.nodes.ok.0 c.requires.ends in
    let each : length homes ≡ n = sym c.args.homes.ok.0 ∙ c.requires.each ∙ c.args.nodes.ok.0 in
    let all = c.in_ok-homes.homes.items in
    let below = all_below c.args.wires.now n homes count c.args.lanes.now range each c.requires.below c.requires.lanes all c.in_ok-homes.ensures in
    subst (All (λ h. h < count)) (sym c.deref.ensures.value) below

pub ranks_of-requires-2 : goal.ranks_of-requires-2
ranks_of-requires-2 g c =
    let ws = wires_of_links c.args.wires.now in
    let n = length c.args.nodes.items in
    let homes = c.args.homes.items in
    let count = c.args.count in
    let range = subst (λ m. AreInRange m c.args.wires.now) c.args.nodes.ok.0 c.requires.ends in
    let each : length homes ≡ n = sym c.args.homes.ok.0 ∙ c.requires.each ∙ c.args.nodes.ok.0 in
    let all = c.in_ok-homes.homes.items in
    let below = all_below c.args.wires.now n homes count c.args.lanes.now range each c.requires.below c.requires.lanes all c.in_ok-homes.ensures in
    let lanes : length c.args.lanes.now ≡ lanes_in ws = ap length c.requires.lanes ∙ lanes_count homes 0 ws in
    let links = c.in_ok-links.links.items in
    let is : links ≡ whole_links n ws = links_whole ws links c.len-n.result n c.in_ok-sum.field-0 (length c.args.lanes.now) c.in_ok-links.ensures.links c.in_ok-sum.ensures lanes (c.len-n.ensures ∙ c.args.nodes.ok.0) in
    let found = homes_below c.args.wires.now n homes count c.args.lanes.now range each c.requires.below c.requires.lanes all c.in_ok-homes.ensures links is c.in_ok-homes_of_links.homes_of_links.items [] c.deref-3.result.now c.deref-2.result.now c.in_ok-homes_of_links.ensures c.deref-3.ensures.value c.deref-2.ensures.value in
    subst (All (λ h. h < count)) (sym c.deref-6.ensures.value) found.0

pub scatter-link_lists-requires-clause-below : goal.scatter-link_lists-requires-clause-below
scatter-link_lists-requires-clause-below g c =
    let ws = wires_of_links c.args.wires.now in
    let n = length c.args.nodes.items in
    let homes = c.args.homes.items in
    let count = c.args.count in
    let range = subst (λ m. AreInRange m c.args.wires.now) c.args.nodes.ok.0 c.requires.ends in
    let each : length homes ≡ n = sym c.args.homes.ok.0 ∙ c.requires.each ∙ c.args.nodes.ok.0 in
    let all = c.in_ok-homes.homes.items in
    let below = all_below c.args.wires.now n homes count c.args.lanes.now range each c.requires.below c.requires.lanes all c.in_ok-homes.ensures in
    let lanes : length c.args.lanes.now ≡ lanes_in ws = ap length c.requires.lanes ∙ lanes_count homes 0 ws in
    let links = c.in_ok-links.links.items in
    let is : links ≡ whole_links n ws = links_whole ws links c.len-n.result n c.in_ok-sum.field-0 (length c.args.lanes.now) c.in_ok-links.ensures.links c.in_ok-sum.ensures lanes (c.len-n.ensures ∙ c.args.nodes.ok.0) in
    let found = homes_below c.args.wires.now n homes count c.args.lanes.now range each c.requires.below c.requires.lanes all c.in_ok-homes.ensures links is c.in_ok-homes_of_links.homes_of_links.items [] c.deref-3.result.now c.deref-2.result.now c.in_ok-homes_of_links.ensures c.deref-3.ensures.value c.deref-2.ensures.value in
    let link_room = empty_as c.deref-6.result.now c.deref-7.result.now c.in_ok-link_ranks.link_ranks.ranks.items c.in_ok-link_ranks.link_ranks.counts.items c.deref-8.result.now count (vec_len c.in_ok-rooms.field-0) c.in_ok-rooms.field-0.items c.in_ok-link_ranks.ensures c.deref-8.ensures.value (c.deref-7.ensures.value ∙ sym c.deref-6.ensures.value) c.in_ok-rooms.field-0.ok.0 c.in_ok-rooms.ensures in
    below_as _ c.deref-7.result.now count _ found.0 c.deref-7.ensures.value link_room.1

pub scatter-link_lists-requires-clause-empty : goal.scatter-link_lists-requires-clause-empty
scatter-link_lists-requires-clause-empty g c =
    let count = c.args.count in
    let link_room = empty_as c.deref-6.result.now c.deref-7.result.now c.in_ok-link_ranks.link_ranks.ranks.items c.in_ok-link_ranks.link_ranks.counts.items c.deref-8.result.now count (vec_len c.in_ok-rooms.field-0) c.in_ok-rooms.field-0.items c.in_ok-link_ranks.ensures c.deref-8.ensures.value (c.deref-7.ensures.value ∙ sym c.deref-6.ensures.value) c.in_ok-rooms.field-0.ok.0 c.in_ok-rooms.ensures in
    link_room.0

pub scatter-place_lists-requires-clause-below : goal.scatter-place_lists-requires-clause-below
scatter-place_lists-requires-clause-below g c =
    let ws = wires_of_links c.args.wires.now in
    let n = length c.args.nodes.items in
    let homes = c.args.homes.items in
    let count = c.args.count in
    let range = subst (λ m. AreInRange m c.args.wires.now) c.args.nodes.ok.0 c.requires.ends in
    let each : length homes ≡ n = sym c.args.homes.ok.0 ∙ c.requires.each ∙ c.args.nodes.ok.0 in
    let all = c.in_ok-homes.homes.items in
    let below = all_below c.args.wires.now n homes count c.args.lanes.now range each c.requires.below c.requires.lanes all c.in_ok-homes.ensures in
    let place_room = empty_as c.deref.result.now c.deref-9.result.now c.in_ok-ranks.ranks.ranks.items c.in_ok-ranks.ranks.counts.items c.deref-10.result.now count (vec_len c.in_ok-rooms-2.field-0) c.in_ok-rooms-2.field-0.items c.in_ok-ranks.ensures c.deref-10.ensures.value (c.deref-9.ensures.value ∙ sym c.deref.ensures.value) c.in_ok-rooms-2.field-0.ok.0 c.in_ok-rooms-2.ensures in
    below_as all c.deref-9.result.now count _ below c.deref-9.ensures.value place_room.1

pub scatter-place_lists-requires-clause-empty : goal.scatter-place_lists-requires-clause-empty
scatter-place_lists-requires-clause-empty g c =
    let count = c.args.count in
    let place_room = empty_as c.deref.result.now c.deref-9.result.now c.in_ok-ranks.ranks.ranks.items c.in_ok-ranks.ranks.counts.items c.deref-10.result.now count (vec_len c.in_ok-rooms-2.field-0) c.in_ok-rooms-2.field-0.items c.in_ok-ranks.ensures c.deref-10.ensures.value (c.deref-9.ensures.value ∙ sym c.deref.ensures.value) c.in_ok-rooms-2.field-0.ok.0 c.in_ok-rooms-2.ensures in
    place_room.0

pub spaces_of-requires-clause-many : goal.spaces_of-requires-clause-many
spaces_of-requires-clause-many g c =
    let count = c.args.count in
    let link_room = empty_as c.deref-6.result.now c.deref-7.result.now c.in_ok-link_ranks.link_ranks.ranks.items c.in_ok-link_ranks.link_ranks.counts.items c.deref-8.result.now count (vec_len c.in_ok-rooms.field-0) c.in_ok-rooms.field-0.items c.in_ok-link_ranks.ensures c.deref-8.ensures.value (c.deref-7.ensures.value ∙ sym c.deref-6.ensures.value) c.in_ok-rooms.field-0.ok.0 c.in_ok-rooms.ensures in
    let place_room = empty_as c.deref.result.now c.deref-9.result.now c.in_ok-ranks.ranks.ranks.items c.in_ok-ranks.ranks.counts.items c.deref-10.result.now count (vec_len c.in_ok-rooms-2.field-0) c.in_ok-rooms-2.field-0.items c.in_ok-ranks.ensures c.deref-10.ensures.value (c.deref-9.ensures.value ∙ sym c.deref.ensures.value) c.in_ok-rooms-2.field-0.ok.0 c.in_ok-rooms-2.ensures in
    ap length c.deref-11.ensures.value ∙ sym c.scatter-place_lists.result.ok.0 ∙ c.scatter-place_lists.ensures.length ∙ place_room.1 ∙ sym (c.scatter-link_lists.ensures.length ∙ link_room.1)

pub spaces_of-requires-clause-few : goal.spaces_of-requires-clause-few
spaces_of-requires-clause-few g c =
    let links = c.in_ok-links.links.items in
    let size : length c.in_ok-local.local.items ≡ length links = ap length c.in_ok-local.ensures ∙ length-map c.deref-4.result.now (at_ranks c.deref-5.result.now) ∙ ap length c.deref-4.ensures.value in
    let few : length c.in_ok-local.local.items < 2 ^ 32 = omega (arith, size, c.in_ok-links.ensures.few) in
    few_each c.deref-7.result.now c.in_ok-local.local.items c.scatter-link_lists.result.items c.scatter-link_lists.ensures.shares few

pub returns : goal.returns
returns g c =
    let ws = wires_of_links c.args.wires.now in
    let n = length c.args.nodes.items in
    let homes = c.args.homes.items in
    let count = c.args.count in
    let range = subst (λ m. AreInRange m c.args.wires.now) c.args.nodes.ok.0 c.requires.ends in
    let each : length homes ≡ n = sym c.args.homes.ok.0 ∙ c.requires.each ∙ c.args.nodes.ok.0 in
    let all = c.in_ok-homes.homes.items in
    let below = all_below c.args.wires.now n homes count c.args.lanes.now range each c.requires.below c.requires.lanes all c.in_ok-homes.ensures in
    let lanes : length c.args.lanes.now ≡ lanes_in ws = ap length c.requires.lanes ∙ lanes_count homes 0 ws in
    let links = c.in_ok-links.links.items in
    let is : links ≡ whole_links n ws = links_whole ws links c.len-n.result n c.in_ok-sum.field-0 (length c.args.lanes.now) c.in_ok-links.ensures.links c.in_ok-sum.ensures lanes (c.len-n.ensures ∙ c.args.nodes.ok.0) in
    let found = homes_below c.args.wires.now n homes count c.args.lanes.now range each c.requires.below c.requires.lanes all c.in_ok-homes.ensures links is c.in_ok-homes_of_links.homes_of_links.items [] c.deref-3.result.now c.deref-2.result.now c.in_ok-homes_of_links.ensures c.deref-3.ensures.value c.deref-2.ensures.value in
    let link_room = empty_as c.deref-6.result.now c.deref-7.result.now c.in_ok-link_ranks.link_ranks.ranks.items c.in_ok-link_ranks.link_ranks.counts.items c.deref-8.result.now count (vec_len c.in_ok-rooms.field-0) c.in_ok-rooms.field-0.items c.in_ok-link_ranks.ensures c.deref-8.ensures.value (c.deref-7.ensures.value ∙ sym c.deref-6.ensures.value) c.in_ok-rooms.field-0.ok.0 c.in_ok-rooms.ensures in
    let place_room = empty_as c.deref.result.now c.deref-9.result.now c.in_ok-ranks.ranks.ranks.items c.in_ok-ranks.ranks.counts.items c.deref-10.result.now count (vec_len c.in_ok-rooms-2.field-0) c.in_ok-rooms-2.field-0.items c.in_ok-ranks.ensures c.deref-10.ensures.value (c.deref-9.ensures.value ∙ sym c.deref.ensures.value) c.in_ok-rooms-2.field-0.ok.0 c.in_ok-rooms-2.ensures in
    let lists = empty_as c.deref.result.now all c.in_ok-ranks.ranks.ranks.items c.in_ok-ranks.ranks.counts.items c.deref-12.result.now count (length c.in_ok-lists.lists.items) c.in_ok-lists.lists.items c.in_ok-ranks.ensures c.deref-12.ensures.value (sym c.deref.ensures.value) refl c.in_ok-lists.ensures in
    let homes_are = all_is c.args.wires.now n homes count c.args.lanes.now range each c.requires.below c.requires.lanes all c.in_ok-homes.ensures in
    let spaces = c.in_ok-spaces.ensures in
    let local = locals_are c.args.wires.now n homes count c.args.lanes.now range each c.requires.below c.requires.lanes all c.in_ok-homes.ensures links is c.in_ok-local.local.items c.deref-4.result.now c.in_ok-ranks.ranks.ranks.items c.in_ok-ranks.ranks.counts.items c.deref-5.result.now c.deref.result.now c.in_ok-ranks.ensures c.deref.ensures.value c.deref-5.ensures.value c.deref-4.ensures.value c.in_ok-local.ensures in
    let places : c.in_ok-places.places.items ≡ whole_places c.args.nodes.items (lanes_from homes 0 ws) = c.in_ok-places.ensures ∙ ap (whole_places c.args.nodes.items) c.requires.lanes in
    record {
      ready = record {
        below = below;
        lists_are = subst (λ m. AreEmptyFor all m c.in_ok-lists.lists.items) lists.1 lists.0;
        spaces_many = spaces.many ∙ sym c.scatter-link_lists.result.ok.0 ∙ c.scatter-link_lists.ensures.length ∙ link_room.1;
        none = search rules;
        room = search (rules, arith);
      };
      homes_are = homes_are;
      few = subst (λ (ls : List Link). length ls < 2 ^ 32) is c.in_ok-links.ensures.few;
      spaces_are = λ k x at.
          let s = spaces.each k x at in
          let ps : items_at c.deref-11.result.now k ≡ of_home all k (whole_places c.args.nodes.items (lanes_from homes 0 ws)) =
          ap (λ l. items_at l k) c.deref-11.ensures.value ∙ c.scatter-place_lists.ensures.shares.shares k ∙ ap (λ hs. of_home hs k c.in_ok-places.places.items) c.deref-9.ensures.value ∙ ap (of_home all k) places in
          let ls : items_at c.scatter-link_lists.result.items k ≡ own_links all (whole_links n ws) k =
          c.scatter-link_lists.ensures.shares.shares k ∙ ap (λ hs. of_home hs k c.in_ok-local.local.items) (c.deref-7.ensures.value ∙ found.1) ∙ ap (of_home (map (link_home all) links) k) local ∙ ap (λ (m : List Link). own_links all m k) is in
          subst (λ (p : List Place). IsSpace p (own_links all (whole_links n ws) k) x) ps (subst (λ (l : List Link). IsSpace (items_at c.deref-11.result.now k) l x) ls s);
    }
