use Rattle.std.proofs.Common.{◌≡◌, take, map}
use Rattle.blue_modules.specs.Counts.{AreCounted, counted_modules}
use Rattle.blue_modules.specs.Flatten.{latest_first}
use Rattle.blue_modules.specs.Text.{plain_module}
use Rattle.blue_modules.proofs.counts.book_of.Given as goal

abbrev pub invariant-loop-of : goal.invariant-loop-of
invariant-loop-of l =
    record {
      counted : AreCounted l.book.items;
      modules : counted_modules l.book.items ≡ latest_first (map plain_module (take l.of-index l.modules));
    }
