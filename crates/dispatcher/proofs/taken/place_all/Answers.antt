-- The goals of `taken::place_all` that the search leaves.
use Rattle.std.proofs.Common.{rules, ◌≡◌, ◌++◌, ◌∷◌, [], arith, ap, sym, ◌∙◌, map, length, box_value}
use Rattle.std.proofs.lemmas.List.Elements.{All-push, All-same}
use Rattle.std.specs.Vec.Iter.{into_iter_items}
use Rattle.dispatcher.specs.PublicBudget.{budget_id}
use Rattle.dispatcher.specs.Places.{Belongs, body_start}
use Rattle.dispatcher.proofs.Lists.{map_snoc, app_next, passed_all}
use Rattle.dispatcher.proofs.Boxes.{boxed_next}
use Rattle.dispatcher.proofs.taken.place_all.Goals as goal

pub new-requires-clause-keeps : goal.new-requires-clause-keeps
new-requires-clause-keeps g c = let inv = c.loop-body.invariant in
    boxed_next box_value g.B.Turning.keeps c.loop-body.yielded c.in-Some.body (into_iter_items c.next.new.self) c.args.bodies.items (inv.all ∙ ap (λ l. c.loop-body.yielded ++ l) c.in-Some.ensures.steps.0) c.requires.keeps

pub new-requires-clause-unspent : goal.new-requires-clause-unspent
new-requires-clause-unspent g c = let inv = c.loop-body.invariant in
    boxed_next box_value (λ b. g.B.Turning.spent b ≡ 0) c.loop-body.yielded c.in-Some.body (into_iter_items c.next.new.self) c.args.bodies.items (inv.all ∙ ap (λ l. c.loop-body.yielded ++ l) c.in-Some.ensures.steps.0) c.requires.unspent

pub loop-body-preserved : goal.loop-body-preserved
loop-body-preserved g c =
    let b = c.args.purse.now in let inv = c.loop-body.invariant in let step = c.in-Some.ensures.steps in let body = c.in-Some.body in
    let yielded = c.loop-body.yielded in let left = into_iter_items c.next.new.self in
    let items = c.push_reserved.ensures.items in let place = c.new.result in let is = c.new.ensures.is in let split = c.split-seat.ensures in
    let len = c.push_reserved.ensures.len in let was = inv.len in let parts = inv.parts in let fewer = split.seat.2 in let step_len = step.1 in let one = ap length step.0 in
    let belongs : Belongs (budget_id b) b.limit place = (is.1 ∙ split.given.0, is.2 ∙ split.given.4 ∙ inv.limit) in
    record {
      next = search rules;
      ends = search rules;
      long = search rules;
      all = inv.all ∙ ap (λ l. yielded ++ l) step.0 ∙ sym (app_next yielded body left);
      seat = split.seat.0;
      idle = split.seat.1;
      parts = omega (arith, parts, fewer, step_len);
      limit = split.seat.4 ∙ inv.limit;
      used = split.seat.3 ∙ inv.used;
      len = omega (arith, len, was, one);
      room = c.push_reserved.ensures.capacity ∙ inv.room;
      starts = ap (map body_start) items ∙ map_snoc body_start c.loop-body.places.items place ∙ (λ i. inv.starts i ++ is.0 i ∷ []) ∙ sym (map_snoc box_value yielded body);
      belong = All-same (Belongs (budget_id b) b.limit) _ _ items (All-push (Belongs (budget_id b) b.limit) _ _ inv.belong belongs);
    }

pub returns-clause-starts : goal.returns-clause-starts
returns-clause-starts g c =
    let inv = c.loop-body.invariant in let none = c.in-None.ensures.steps in
    inv.starts ∙ ap (map box_value) (sym (passed_all c.args.bodies.items c.loop-body.yielded (into_iter_items c.loop-body.body-iterator) inv.all (let long = inv.long in let n = none.0 in omega (arith, long, n))))
