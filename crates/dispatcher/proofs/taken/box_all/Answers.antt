-- The goals of `taken::box_all` that the search leaves.
use Rattle.std.proofs.Common.{rules, arith, ◌≡◌, ◌∷◌, ◌++◌, [], ap, sym, ◌∙◌, map, reverse, box_value}
use Rattle.dispatcher.proofs.Lists.{app_next, taken_whole, none_in}
use Rattle.dispatcher.proofs.Boxes.{moved_over}
use Rattle.dispatcher.proofs.taken.box_all.Goals as goal

pub loop-body-preserved : goal.loop-body-preserved
loop-body-preserved g c =
    let inv = c.loop-body.invariant in let left = c.pop.new.self.items in let old = c.loop-body.left.items in
    let last : old ≡ left ++ c.in-Some.body ∷ [] = search rules in
    let push = c.push_reserved.ensures in record {
      count = omega (arith, inv.count, c.pop.ensures.len, c.in-Some.ensures.cases, push.len);
      room = omega (arith, push.capacity, inv.room);
      back = c.pop.ensures.capacity ∙ inv.back;
      all = moved_over box_value old left c.loop-body.boxes.items _ c.in-Ok-new.boxed (last ∙ ap (λ b. left ++ b ∷ []) (sym c.in-Ok-new.ensures.ok)) push.items ∙ inv.all;
    }

pub returns-in-Err-clause-back : goal.returns-in-Err-clause-back
returns-in-Err-clause-back g c =
    let inv = c.loop-body.invariant in let left = c.pop.new.self.items in let old = c.loop-body.left.items in
    let last : old ≡ left ++ c.in-Some.body ∷ [] = search rules in let boxes = map box_value (reverse c.loop-body.boxes.items) in
    c.unbox_all.ensures ∙ ap (λ b. left ++ b ∷ boxes) c.in-Err.ensures.value_returned ∙ sym (app_next left c.in-Some.body boxes) ∙ ap (λ l. l ++ boxes) (sym last) ∙ inv.all

pub returns-clause-boxed : goal.returns-clause-boxed
returns-clause-boxed g c =
    let inv = c.loop-body.invariant in let boxes = c.loop-body.boxes.items in
    ap (map box_value) (taken_whole _ _ _ (search rules) ∙ c.reverse.ensures.after ∙ ap reverse c.as_mut_slice.ensures.value) ∙ ap (λ l. l ++ map box_value (reverse boxes)) (sym (none_in c.loop-body.left.items (search rules))) ∙ inv.all
