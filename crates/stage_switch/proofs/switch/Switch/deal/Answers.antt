use Rattle.std.proofs.Common.{rules, arith, ap, ◌∙◌, []}
use Rattle.std.proofs.lemmas.List.Elements.{All-push, All-same}
use Rattle.stage_switch.specs.Rule.{known}
use Rattle.stage_switch.specs.Public.{IsNewSeat}
use Rattle.stage_switch.proofs.Keeps.{deals}
use Rattle.stage_switch.proofs.Gathering.{sat_is, new_view}
use Rattle.stage_switch.proofs.switch.Switch.deal.Goals as goal

pub split_seat-other-requires : goal.split_seat-other-requires
split_seat-other-requires c = let sum = c.loop.invariant.2 in let less = c.loop-test.true in (search rules, search rules, deals _ _ c.loop.first.me.0 (omega arith))

pub loop-preserved : goal.loop-preserved
loop-preserved c =
    let inv = c.loop.invariant in let split = c.split_seat-other.ensures in let sum = inv.2 in let less = c.loop-test.true in let parts = ap (λ m. m.0.parts) split.2 in (
      split.0 ∙ inv.0,
      sat_is _ _ (ap (λ m. m.0.all) split.2 ∙ ap (λ m. m.0.all) inv.1) (ap (λ m. m.0.gave) split.2 ∙ ap (λ m. m.0.gave) inv.1) (ap (λ m. m.0.knows) split.2 ∙ ap (λ m. m.0.knows) inv.1)
          (ap (λ m. m.0.looks) split.2 ∙ ap (λ m. m.0.looks) inv.1) (ap (λ m. m.1) split.2 ∙ ap (λ m. m.1) inv.1),
      omega arith,
      omega (arith, inv.3, c.push_reserved.ensures.len),
      c.push_reserved.ensures.capacity ∙ inv.4,
      All-same (IsNewSeat c.args.self.now) _ _ c.push_reserved.ensures.items
          (All-push (IsNewSeat c.args.self.now) _ _ inv.5 (new_view _ _ c.args.self.now 1 (split.3 ∙ inv.0) (split.4 ∙ ap (λ m. (known 1 m.0.all [] [] 0, [])) inv.1))),
    )

pub returns : goal.returns
returns c =
    let inv = c.loop.invariant in let sum = inv.2 in let over = c.loop-test.false in let least = inv.3 in let auto = c.loop.auto.counter-end in (
      omega (arith, c.push_reserved-2.ensures.len),
      All-same (IsNewSeat c.args.self.now) _ _ c.push_reserved-2.ensures.items
          (All-push (IsNewSeat c.args.self.now) _ _ inv.5 (new_view _ _ c.args.self.now _ inv.0 inv.1)),
    )
