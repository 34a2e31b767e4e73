-- The goals of `taken::unbox_all` that the search leaves.
use Rattle.std.proofs.Common.{rules, arith, ◌≡◌, ◌∷◌, ◌++◌, [], ap, sym, ◌∙◌, map, reverse, box_value}
use Rattle.dispatcher.proofs.Lists.{app_next, none_in}
use Rattle.dispatcher.proofs.Boxes.{turned_last, nothing_over}
use Rattle.dispatcher.proofs.taken.unbox_all.Goals as goal

pub loop-boxed-init : goal.loop-boxed-init
loop-boxed-init g c =
    let rest = map box_value (reverse c.args.boxes.items) in let push = c.push_reserved.ensures in record {
      room = omega (arith, push.len, push.capacity, c.requires.room);
      all = ap (λ l. l ++ rest) push.items ∙ app_next c.args.left.items c.args.next rest;
    }

pub loop-boxed-preserved : goal.loop-boxed-preserved
loop-boxed-preserved g c =
    let inv = c.loop-boxed.invariant in let boxes = c.pop.new.self.items in let old = c.loop-boxed.bodies.items in
    let last : c.loop-boxed.boxes.items ≡ boxes ++ c.in-Some.boxed ∷ [] = search rules in
    let push = c.push_reserved-in-Some.ensures in let rest = map box_value (reverse boxes) in record {
      room = omega (arith, inv.room, c.pop.ensures.len, c.in-Some.ensures.cases, push.len, push.capacity);
      all = ap (λ l. l ++ rest) (push.items ∙ ap (λ b. old ++ b ∷ []) c.into_inner.ensures) ∙ app_next old c.in-Some.boxed.value rest
          ∙ ap (λ l. old ++ l) (sym (turned_last box_value boxes _ c.in-Some.boxed last)) ∙ inv.all;
    }

pub returns : goal.returns
returns g c =
    let inv = c.loop-boxed.invariant in
    sym (nothing_over box_value c.loop-boxed.bodies.items c.loop-boxed.boxes.items (none_in _ (search rules))) ∙ inv.all
