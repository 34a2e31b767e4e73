use Rattle.std.proofs.Common.{rules, ◌≡◌, ◌++◌, map, List, [], None}
use Rattle.elem_core.specs.Tree.{Tree}
use Rattle.stream_model.specs.FanIn.{tag}
use Rattle.port_core.specs.ListFunction.{ListFunction}
use Rattle.step_work.specs.Slots.{SlotHolds, Fed}
use Rattle.stage_sub.proofs.Lasts.{last_feeds}
use Rattle.stage_sub.proofs.last.LastSubstream.feed.Goals as goal

pub returns-clause-feeds : goal.returns-clause-feeds
returns-clause-feeds g c =
    let same : c.put_all.new.self ≡ c.args.outs.now ++ map (tag c.args.self.now.ended) c.feed_slot.new.out = search rules in
    let ended : c.self.inside.ended ≡ c.args.self.now.ended = search rules in
    let live : c.self.inside.live ≡ c.args.self.now.live = search rules in
    let fed : (f : ListFunction) (took : List Tree) → SlotHolds g.C.Chain.rest g.C.Chain.is_open f c.args.self.now.slot took → Fed g.C.Chain.rest g.C.Chain.is_open f took c.args.e None [] c.feed_slot.new.out c.feed_slot.new.slot = λ f took h. search rules in
    last_feeds g.C.Chain.rest g.C.Chain.is_open c.args.self.now (record { ended = c.self.inside.ended; live = c.self.inside.live; slot = c.feed_slot.new.slot }) c.args.e c.args.outs.now c.put_all.new.self c.feed_slot.new.out ended live same fed
