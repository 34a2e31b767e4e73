-- The goals of `table::mark` that the search leaves.
use Rattle.std.proofs.Common.{◌≡◌, ◌∙◌, ◌<◌, sym, rules, length}
use Rattle.std.proofs.lemmas.List.{length-map}
use Rattle.island_body.specs.declared.output.OutputBoundary.{OutputBoundary}
use Rattle.island_body.specs.declared.input.IslandInput.{IslandInput}
use Rattle.island_body.proofs.Lists.{get_here, map_at}
use Rattle.island_body.proofs.Marking.{row_there, whole_table, mark_in_at, mark_out_at}
use Rattle.island_body.proofs.table.mark.Goals as goal

pub index_mut-requires : goal.index_mut-requires
index_mut-requires g c =
    let p = (c.requires.begins.stand.ins_stand c.loop-k.k _ (get_here c.args.ins.now c.loop-k.k c.index-ins-k.result c.loop-k-test.true)).enters.place in
    let there : c.way_in-place.result < length c.loop-k.ways.items = row_there _ _ _ c.args.island.now _ _ _ _ c.way_in-place.ensures p c.loop-k.invariant in
    search rules

pub loop-k-preserved : goal.loop-k-preserved
loop-k-preserved g c =
    let at = get_here c.args.ins.now c.loop-k.k c.index-ins-k.result c.loop-k-test.true in
    let p = (c.requires.begins.stand.ins_stand c.loop-k.k _ at).enters.place in
    mark_in_at c.args.island.now _ _ c.requires.begins.apart c.requires.begins.differ c.loop-k.k 0 _ _ _ c.way_in-place.ensures (map_at (λ (x : IslandInput). x.wire) c.args.ins.now c.loop-k.k _ at) p c.loop-k.invariant

pub index_mut-requires-in-loop-j : goal.index_mut-requires-in-loop-j
index_mut-requires-in-loop-j g c =
    let p = (c.requires.begins.stand.outs_stand c.loop-j.j _ (get_here c.args.outs.now c.loop-j.j c.index-outs-j.result c.loop-j-test.true)).leaves.place in
    let there : c.way_out-place.result < length c.loop-j.ways.items = row_there _ _ _ c.args.island.now _ _ _ _ c.way_out-place.ensures p c.loop-j.invariant in
    search rules

pub loop-j-preserved : goal.loop-j-preserved
loop-j-preserved g c =
    let at = get_here c.args.outs.now c.loop-j.j c.index-outs-j.result c.loop-j-test.true in
    let p = (c.requires.begins.stand.outs_stand c.loop-j.j _ at).leaves.place in
    mark_out_at c.args.island.now _ _ c.requires.begins.apart c.requires.begins.differ (length c.args.ins.now) c.loop-j.j _ _ _ c.way_out-place.ensures (map_at (λ (x : OutputBoundary). x.wire) c.args.outs.now c.loop-j.j _ at) p c.loop-j.invariant

pub returns : goal.returns
returns g c =
    let all : c.loop-j.j ≡ length c.args.outs.now = search rules in
    whole_table _ _ c.args.island.now _ _ _ (sym (length-map _ _)) (all ∙ sym (length-map _ _)) c.loop-j.invariant
