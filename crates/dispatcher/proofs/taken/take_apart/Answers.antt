-- The goals of `taken::take_apart` that the search leaves.
use Rattle.std.proofs.Common.{rules, ◌≡◌, ◌++◌, ◌∷◌, [], arith, ap, sym, subst, ◌∙◌, map, length}
use Rattle.std.specs.List.{sum_by}
use Rattle.std.proofs.lemmas.List.Sums.{sum_by_push}
use Rattle.std.specs.Vec.Iter.{into_iter_items}
use Rattle.dispatcher.specs.Rule.{share}
use Rattle.lane_core.specs.Bodies.{EachOf}
use Rattle.dispatcher.specs.Places.{BodyWentOn, WentOrBroke, body_start}
use Rattle.dispatcher.proofs.Lists.{each_grown, map_snoc, app_next, passed_all}
use Rattle.dispatcher.proofs.Taking.{stands_either}
use Rattle.dispatcher.proofs.taken.take_apart.Goals as goal

pub loop-place-preserved : goal.loop-place-preserved
loop-place-preserved g c =
    let t = g.B.Turning in let b = c.args.purse.now in let inv = c.loop-place.invariant in let step = c.in-Some.ensures.steps in let place = c.in-Some.place in
    let yielded = c.loop-place.yielded in let left = into_iter_items c.next.new.self in let bodies = c.loop-place.bodies.items in
    let here : c.args.places.items ≡ yielded ++ place ∷ left = inv.all ∙ ap (λ l. yielded ++ l) step.0 in
    let parts = c.into_parts-body.ensures in let body = c.into_parts-body.result.body in
    let join = c.join.ensures in let look = c.look.ensures in let either = c.either-lack.ensures.none in
    let items = c.push_reserved.ensures.items in let len = c.push_reserved.ensures.len in let room = c.push_reserved.ensures.capacity in
    let used_now = ap (λ m. m.0.used) look.1 in let parts_now = ap (λ m. m.0.parts) look.1 in let within = look.2 in let one = ap length step.0 in
    let used_both = join.3 in let limit_both = join.4 in let parts_both = join.2 in let used_was = inv.used in let some_was = inv.parts in let limit_was = inv.limit in let room_was = inv.room in
    let paid = parts.seat.2.2 in
    let starts = map_snoc body_start yielded place in
    record {
      next = search rules;
      ends = search rules;
      long = search rules;
      all = here ∙ sym (app_next yielded place left);
      seat = look.0;
      idle = subst (λ m. m ≡ (share m.0.parts m.0.used 0 0 m.0.limit, [])) (sym look.1) join.1;
      parts = omega (arith, parts_now, parts_both, some_was);
      limit = ap (λ m. m.0.limit) look.1 ∙ join.4 ∙ inv.limit;
      used = omega (arith, used_now, used_both, used_was, paid);
      within = omega (arith, within, limit_both, limit_was, used_both, used_was, paid);
      room = omega (arith, len, room, room_was, one);
      each = each_grown (WentOrBroke t.keeps t.goes t.breaks) (map body_start yielded) bodies _ _ (body_start place) body starts items inv.each
          (stands_either t.keeps t.goes t.breaks t.spent (body_start place) body c.into_parts-body.result.used c.into_parts-body.result.broken parts.stands);
      whole = λ none. let both = either none in
          each_grown (BodyWentOn t.keeps t.goes) (map body_start yielded) bodies _ _ (body_start place) body starts items (inv.whole both.0) (parts.stands.0 both.1).0;
      spent = λ none. let both = either none in let was = inv.spent both.0 in let now = (parts.stands.0 both.1).1 in let sum = sum_by_push t.spent bodies body in let same = ap (sum_by t.spent) items in omega (arith, was, now, sum, same);
    }

pub returns-clause-each : goal.returns-clause-each
returns-clause-each g c =
    let t = g.B.Turning in let inv = c.loop-place.invariant in let none = c.in-None.ensures.steps in
    let all = passed_all c.args.places.items c.loop-place.yielded (into_iter_items c.loop-place.place-iterator) inv.all (let long = inv.long in let n = none.0 in omega (arith, long, n)) in
    subst (λ l. EachOf (WentOrBroke t.keeps t.goes t.breaks) (map body_start l) c.loop-place.bodies.items) (sym all) inv.each

pub returns-clause-whole : goal.returns-clause-whole
returns-clause-whole g c =
    let t = g.B.Turning in let inv = c.loop-place.invariant in let none = c.in-None.ensures.steps in
    let all = passed_all c.args.places.items c.loop-place.yielded (into_iter_items c.loop-place.place-iterator) inv.all (let long = inv.long in let n = none.0 in omega (arith, long, n)) in
    λ whole. subst (λ l. EachOf (BodyWentOn t.keeps t.goes) (map body_start l) c.loop-place.bodies.items) (sym all) (inv.whole whole)
