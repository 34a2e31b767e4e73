-- The goals of `body::Body::serve_at` that the search leaves.
use Rattle.std.proofs.Common.{Some, sym, ap, ◌∙◌}
use Rattle.std.specs.Prelude.{length}
use Rattle.island_body.proofs.Lists.{get_here}
use Rattle.island_body.proofs.Standing.{served_inner, served_in, served_out, place_in_table, place_out_table}
use Rattle.island_body.proofs.Acting.{done_as}
use Rattle.island_body.proofs.Looking.{keeps_looks_still}
use Rattle.island_body.proofs.Telling.{wakes_still}
use Rattle.island_body.proofs.body.Body.serve_at.Goals as goal

pub returns-in-Inner-clause-served : goal.returns-in-Inner-clause-served
returns-in-Inner-clause-served g c =
    let b = c.args.self.now in
    served_inner c.args.w (length b.ins.items) (length b.outs.items) b.island b.ins.items b.outs.items b.ways.items c.requires.stands.table (get_here b.ways.items c.args.w c.index.result.now c.requires.within ∙ ap (λ z. Some z) (sym c.index.ensures ∙ c.in-Inner.is)) c.requires.served

pub returns-in-In-clause-served : goal.returns-in-In-clause-served
returns-in-In-clause-served g c =
    let b = c.args.self.now in
    let n = length b.ins.items in
    let m = length b.outs.items in
    done_as n m _ _ _ c.serve_in.ensures.count.0 c.serve_in.ensures.count.1 (c.serve_in.ensures.served n m (served_in c.args.w c.in-In.k n m b.island b.ins.items b.outs.items b.ways.items c.requires.stands.table (get_here b.ways.items c.args.w c.index.result.now c.requires.within ∙ ap (λ z. Some z) (sym c.index.ensures ∙ c.in-In.is)) c.requires.served))

pub returns-in-Out-clause-served : goal.returns-in-Out-clause-served
returns-in-Out-clause-served g c =
    let b = c.args.self.now in
    let n = length b.ins.items in
    let m = length b.outs.items in
    done_as n m _ _ _ c.serve_out.ensures.count.0 c.serve_out.ensures.count.1 (c.serve_out.ensures.served n m (served_out c.args.w c.in-Out.k n m b.island b.ins.items b.outs.items b.ways.items c.requires.stands.table (get_here b.ways.items c.args.w c.index.result.now c.requires.within ∙ ap (λ z. Some z) (sym c.index.ensures ∙ c.in-Out.is)) c.requires.served))

pub returns-in-Inner-clause-looks : goal.returns-in-Inner-clause-looks
returns-in-Inner-clause-looks g c = keeps_looks_still _

pub returns-in-Inner-clause-wakes : goal.returns-in-Inner-clause-wakes
returns-in-Inner-clause-wakes g c = wakes_still _

pub serve_in-requires-clause-place : goal.serve_in-requires-clause-place
serve_in-requires-clause-place g c =
    let b = c.args.self.now in
    place_in_table c.args.w c.in-In.k b.island b.ins.items b.outs.items b.ways.items c.requires.stands.table (get_here b.ways.items c.args.w c.index.result.now c.requires.within ∙ ap (λ z. Some z) (sym c.index.ensures ∙ c.in-In.is))

pub serve_out-requires-clause-place : goal.serve_out-requires-clause-place
serve_out-requires-clause-place g c =
    let b = c.args.self.now in
    place_out_table c.args.w c.in-Out.k b.island b.ins.items b.outs.items b.ways.items c.requires.stands.table (get_here b.ways.items c.args.w c.index.result.now c.requires.within ∙ ap (λ z. Some z) (sym c.index.ensures ∙ c.in-Out.is))
