use Rattle.std.proofs.Common.{rules, ◌≡◌, ◌++◌, map, length, Option, Some, None, Ok, ◌∷◌, [], subst, sym}
use Rattle.std.specs.Prelude.{if◌then◌else◌}
use Rattle.std.specs.Ordering.{is_eq}
use Rattle.elem_core.specs.Tree.{Tree}
use Rattle.elem_core.specs.Order.{tree_cmp}
use Rattle.stream_model.specs.FanIn.{tag}
use Rattle.stage_sub.specs.Groups.{Within}
use Rattle.step_work.specs.Slots.{Begun}
use Rattle.stage_sub.specs.Places.{place_at}
use Rattle.stage_sub.proofs.Keying.{open_some_exit, open_none_exit, within_new}
use Rattle.stage_sub.proofs.keyed.open_group.Goals as goal

pub returns-in-Some-clause-opens : goal.returns-in-Some-clause-opens
returns-in-Some-clause-opens g c =
    λ f same yields means ss h. open_some_exit g.C.Chain.rest g.C.Chain.is_open f yields means ss c.args.slots.now.items (place_at c.args.places.now) c.args.key c.args.e c.in-Some.why (c.in_ok-why.ensures.fails c.in-Some.why c.in-Some.is f same) h

pub returns-clause-opens : goal.returns-clause-opens
returns-clause-opens g c =
    let none : c.in_ok-why.field-0 ≡ None = search rules in
    let adds : (k : Tree) → place_at c.add_place.new.places k ≡ (if is_eq (tree_cmp c.args.key k) then Some (length c.args.slots.now.items) else place_at c.args.places.now k) = λ k. search rules in
    let put : c.put_all.new.self ≡ c.args.outs.now ++ map (tag (length c.args.slots.now.items)) c.open_slot.new.out = search rules in
    λ f same yields means ss h.
    let begun = subst (λ l. (d : Option g.row.C.Denot) × ((c.open_slot.new.slots.items ≡ c.args.slots.now.items ++ d ∷ []) × Begun g.C.Chain.rest g.C.Chain.is_open f c.args.e (Ok d) l c.open_slot.new.out)) c.clear.ensures (c.in_ok-why.ensures.begun none f same) in
    open_none_exit g.C.Chain.rest g.C.Chain.is_open f yields means ss c.args.slots.now.items c.open_slot.new.slots.items (place_at c.args.places.now) (place_at c.add_place.new.places) c.args.key c.args.e c.open_slot.new.out c.args.outs.now c.put_all.new.self c.requires.none adds begun put h

pub returns-clause-within : goal.returns-clause-within
returns-clause-within g c =
    let none : c.in_ok-why.field-0 ≡ None = search rules in
    let adds : (k : Tree) → place_at c.add_place.new.places k ≡ (if is_eq (tree_cmp c.args.key k) then Some (length c.args.slots.now.items) else place_at c.args.places.now k) = λ k. search rules in
    within_new g.C.Chain.rest g.C.Chain.is_open c.args.slots.now.items c.open_slot.new.slots.items (place_at c.args.places.now) (place_at c.add_place.new.places) c.args.key c.requires.within adds (c.in_ok-why.ensures.grows none)

pub returns-in-Some-clause-within : goal.returns-in-Some-clause-within
returns-in-Some-clause-within g c = subst (Within (place_at c.args.places.now)) (sym (c.in_ok-why.ensures.stays c.in-Some.why c.in-Some.is)) c.requires.within
