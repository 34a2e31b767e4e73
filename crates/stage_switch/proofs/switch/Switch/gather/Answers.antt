use Rattle.std.proofs.Common.{rules, arith, ap, sym, ◌∙◌, ◌++◌, ◌∷◌, []}
use Rattle.std.proofs.lemmas.List.{append_assoc}
use Rattle.std.proofs.lemmas.List.Elements.{All-pop}
use Rattle.stage_switch.specs.Public.{IsSeatOf}
use Rattle.stage_switch.proofs.Keeps.{joins}
use Rattle.stage_switch.proofs.Gathering.{gathers_more, popped}
use Rattle.stage_switch.proofs.switch.Switch.gather.Goals as goal

pub join_seat-requires : goal.join_seat-requires
join_seat-requires c =
    let inv = c.loop-seat.invariant in let into = c.into_seat.ensures in
    let all = All-pop (IsSeatOf c.args.self.now) _ _ _ c.pop-in-loop-seat.ensures.items inv.5 in
    let free = popped (IsSeatOf c.args.self.now) _ c.in-Some.seat all.1 c.in-Some.is in (
      search rules,
      into.seat.0 ∙ ap (λ z. z.id) free ∙ sym (ap (λ z. z.id) c.self.view_is),
      into.seat.1,
      search rules,
      joins _ _ _ _ _ inv.3,
    )

pub loop-seat-preserved : goal.loop-seat-preserved
loop-seat-preserved c =
    let inv = c.loop-seat.invariant in let into = c.into_seat.ensures in let join = c.join_seat.ensures in
    let all = All-pop (IsSeatOf c.args.self.now) _ _ _ c.pop-in-loop-seat.ensures.items inv.5 in
    let items = c.in-Some.ensures.items in let g = inv.6 in
    let parts = ap (λ m. m.0.parts) join.2 in let was = inv.4 in let some = inv.3 in let one = into.seat.2 in let len = ap (λ l. l) c.in-Some.ensures.len in (
      join.0 ∙ inv.0,
      ap (λ m. m.1) join.2 ∙ inv.1,
      ap (λ m. m.0.all) join.2 ∙ inv.2,
      omega arith,
      omega arith,
      all.0,
      (
        c.in-Some.seat ∷ g.0,
        (
          g.1.0 ∙ ap (λ l. l ++ g.0) items ∙ append_assoc c.pop-in-loop-seat.new.self.items (c.in-Some.seat ∷ []) g.0,
          gathers_more _ c.into_seat.result.me.0 _ c.in-Some.seat g.0 (ap (λ m. m.0.gave) join.2) (ap (λ m. m.0.knows) join.2) into.orders.0 into.orders.1 g.1.1,
        ),
      ),
    )
