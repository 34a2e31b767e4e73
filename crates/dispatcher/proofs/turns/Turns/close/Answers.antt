-- The goals of `turns::Turns::close` that the search leaves.
use Rattle.std.proofs.Common.{arith, ap, sym, ◌∙◌, length, Some}
use lib.ListN.{get_elem?}
use Rattle.dispatcher.specs.Table.{OriginFits}
use Rattle.dispatcher.proofs.Closing.{closes, same_origins, long_map}
use Rattle.dispatcher.proofs.turns.Turns.close.Goals as goal

pub take_all-requires-clause-each : goal.take_all-requires-clause-each
take_all-requires-clause-each g c k less =
    let key = c.args.self.table.shared.key in let closed = c.close_with-closed in let me = c.gather-seat.ensures.1 in
    let all = closes (OriginFits g.T.Kept.origin key.values.value.items) (length key.values.value.items) key.seats _ _ _ _ closed.ensures.values.2 (ap (λ m. m.0.parts) me ∙ c.requires.all) (ap (λ m. m.0.held) me) in
    let counts = closed.ensures.counts.1 in let long = c.args.self.slots in
    let t = all.1 k (omega arith) in (t.0, t.1)

pub returns : goal.returns
returns g c =
    let key = c.args.self.table.shared.key in let closed = c.close_with-closed in let me = c.gather-seat.ensures.1 in
    let all = closes (OriginFits g.T.Kept.origin key.values.value.items) (length key.values.value.items) key.seats _ _ _ _ closed.ensures.values.2 (ap (λ m. m.0.parts) me ∙ c.requires.all) (ap (λ m. m.0.held) me) in
    same_origins g.T.Kept.origin c.take_all.result.items key.values.value.items
    (sym (long_map Some c.take_all.result.items) ∙ ap length c.take_all.ensures ∙ all.0)
    (λ k less. let t = all.1 k less in (t.0, ap (λ l. get_elem? l k) c.take_all.ensures ∙ t.1, t.2))
