use Rattle.blue_modules.proofs.Gathering.{counted-more, modules-more}
use Rattle.blue_modules.proofs.counts.book_of.Goals as goal

pub loop-of-preserved : goal.loop-of-preserved
loop-of-preserved c =
    record {
      counted = counted-more _ c.loop-of.book.items c.insert.new.self.items _ c.in_ok-insert.ensures.items c.deref.ensures.value c.in_ok-counted.ensures.nodes c.in_ok-counted.ensures.wires c.loop-of.invariant.counted;
      modules = modules-more c.args.modules.now c.loop-of.of-index c.of-item.result _ c.loop-of.book.items c.insert.new.self.items c.loop-of-test.true c.of-item.is c.in_ok-counted.ensures.plain c.in_ok-insert.ensures.items c.loop-of.invariant.modules;
    }
