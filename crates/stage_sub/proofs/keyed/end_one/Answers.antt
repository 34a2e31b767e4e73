use Rattle.std.proofs.Common.{◌≡◌, ℕ, true, ap, ◌∙◌}
use Rattle.stage_sub.proofs.Keying.{ends_one}
use Rattle.stage_sub.proofs.keyed.end_one.Goals as goal

pub returns-clause-ends : goal.returns-clause-ends
returns-clause-ends g c =
    let is : c.of-sub.result ≡ record { ended = c.args.i; live = true; slot = c.take_slot.result } = c.of-sub.ensures ∙ ap (λ (k : ℕ). record { ended = k; live = true; slot = c.take_slot.result }) c.in_ok-port.ensures.number in
    ends_one g.C.Chain.rest g.C.Chain.is_open c.args.slots.now.items c.args.i c.take_slot.result c.of-sub.result _ c.in_ok-why.why c.args.outs.now c.end.new.outs c.take_slot.ensures.was is c.in_ok-why.ensures.ends
