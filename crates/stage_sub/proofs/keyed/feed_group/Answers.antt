use Rattle.std.proofs.Common.{rules, ◌≡◌, ◌++◌, map, None}
use Rattle.stream_model.specs.FanIn.{tag}
use Rattle.stage_sub.proofs.Keying.{FedAt, feed_some_exit, feed_none_exit}
use Rattle.stage_sub.proofs.keyed.feed_group.Goals as goal

pub returns-in-Some-clause-feeds : goal.returns-in-Some-clause-feeds
returns-in-Some-clause-feeds g c =
    let fed : FedAt g.C.Chain.rest g.C.Chain.is_open c.args.slots.now.items c.args.i c.args.e c.in_ok-why.field-0 c.feed_at.new.out c.feed_at.new.slots.items = search rules in
    λ f yields means ss h. feed_some_exit g.C.Chain.rest g.C.Chain.is_open f yields means ss c.args.slots.now.items c.feed_at.new.slots.items c.args.i c.args.e c.in_ok-why.field-0 c.feed_at.new.out c.in-Some.why c.in-Some.is c.requires.within fed h

pub returns-clause-feeds : goal.returns-clause-feeds
returns-clause-feeds g c =
    let none : c.in_ok-why.field-0 ≡ None = search rules in
    let fed : FedAt g.C.Chain.rest g.C.Chain.is_open c.args.slots.now.items c.args.i c.args.e c.in_ok-why.field-0 c.feed_at.new.out c.feed_at.new.slots.items = search rules in
    let put : c.put_all.new.self ≡ c.args.outs.now ++ map (tag c.args.i) c.feed_at.new.out = search rules in
    λ f yields means ss h. feed_none_exit g.C.Chain.rest g.C.Chain.is_open f yields means ss c.args.slots.now.items c.feed_at.new.slots.items c.args.i c.args.e c.in_ok-why.field-0 c.feed_at.new.out c.args.outs.now c.put_all.new.self none c.requires.within fed put h
