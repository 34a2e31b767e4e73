use Rattle.std.proofs.Common.{rules, ◌≡◌, length, None, true, false, sym, ◌∙◌}
use Rattle.std.specs.Prelude.{nat_lt}
use Rattle.stage_sub.specs.Places.{place_at}
use Rattle.stage_sub.proofs.Keying.{taken_found, taken_new, taken_full, within_after}
use Rattle.stage_sub.proofs.keyed.take_group.Goals as goal

pub feed_group-requires-clause-within : goal.feed_group-requires-clause-within
feed_group-requires-clause-within g c κs within = c.requires.within c.in-Ok.key c.in-Some.i (sym c.find_place.ensures ∙ c.in-Some.is)

pub returns-in-Some-clause-takes : goal.returns-in-Some-clause-takes
returns-in-Some-clause-takes g c =
    taken_found g.C.Chain.rest g.C.Chain.is_open (g.C.Chain.whole c.args.chain.now) c.args.slots.now.items (place_at c.args.places.now) c.args.e c.in-Ok.key c.args.most c.args.by.now c.feed_group.new.slots.items c.in-Some.i c.args.outs.now c.feed_group.new.outs c.feed_group.result c.in-Ok.ensures (sym c.find_place.ensures ∙ c.in-Some.is) c.feed_group.ensures.feeds

pub returns-in-Some-clause-within : goal.returns-in-Some-clause-within
returns-in-Some-clause-within g c = within_after g.C.Chain.rest g.C.Chain.is_open c.args.slots.now.items c.feed_group.new.slots.items (place_at c.args.places.now) c.feed_group.result c.requires.within c.feed_group.ensures.count

pub returns-then-len-most-clause-takes : goal.returns-then-len-most-clause-takes
returns-then-len-most-clause-takes g c =
    let none : place_at c.args.places.now c.in-Ok.key ≡ None = search rules in
    let less : nat_lt (length c.args.slots.now.items) c.args.most ≡ true = search rules in
    taken_new g.C.Chain.rest g.C.Chain.is_open (g.C.Chain.whole c.args.chain.now) c.args.slots.now.items (place_at c.args.places.now) c.args.e c.in-Ok.key c.args.most c.args.by.now c.open_group.new.slots.items (place_at c.open_group.new.places) c.args.outs.now c.open_group.new.outs c.open_group.result c.in-Ok.ensures none less c.open_group.ensures.opens

pub returns-else-len-most-clause-takes : goal.returns-else-len-most-clause-takes
returns-else-len-most-clause-takes g c =
    let none : place_at c.args.places.now c.in-Ok.key ≡ None = search rules in
    let less : nat_lt (length c.args.slots.now.items) c.args.most ≡ false = search rules in
    taken_full g.C.Chain.rest g.C.Chain.is_open (g.C.Chain.whole c.args.chain.now) c.args.slots.now.items (place_at c.args.places.now) c.args.e c.in-Ok.key c.args.most c.args.by.now c.args.slots.now.items (place_at c.args.places.now) c.args.outs.now c.args.outs.now c.in-Ok.ensures none less
