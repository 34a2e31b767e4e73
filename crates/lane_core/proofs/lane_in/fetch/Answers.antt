use Rattle.std.proofs.Common.{rules, ◌∙◌, sym, [], ◌∷◌, ◌++◌, ◌+◌, ◌%◌, ℕ, length, Some, refl}
use mathlib.Core.Option.{none}
use Rattle.atomic_table.specs.Table.{step}
use Rattle.lane_core.proofs.Steps.{fetches_as, took_one}
use Rattle.lane_core.proofs.Calls.{hand_place}
use Rattle.lane_core.proofs.lane_in.fetch.Goals as goal

pub load-sent-requires : goal.load-sent-requires
load-sent-requires c = (search rules, search rules, fetches_as c.args.shared.now.key _ _ _ _ refl c.requires.table.2 c.requires.ready)

pub exchange-requires : goal.exchange-requires
exchange-requires c =
    let m = c.args.seat.now.me in
    let l = c.load-sent.ensures in
    let r = c.requires in
    let slots : ℕ = c.args.shared.now.table_id.slots in
    let t = took_one (step slots 16 0 0 none) m c.load-sent.result c.load-sent.new.seat.me l.2 (λ e. c.if-sent-taken.false (e ∙ sym r.count.0)) in
    let v = record m.0 { items = m.0.items ++ t.0 ∷ []; looks = m.0.looks + 1; slots = 1; known = c.load-sent.result } in
    (search rules, (Some t.0, hand_place v c.load-sent.new.seat.me t.0 (length m.0.items % slots) c.args.place t.1 ((λ i. sym r.count.0 i % r.table.2 i) ∙ sym r.count.1)))
