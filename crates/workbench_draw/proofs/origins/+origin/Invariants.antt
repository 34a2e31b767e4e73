use Rattle.std.proofs.Common.{length, ◌+◌, ◌*◌}
use Rattle.workbench_draw.proofs.origins.+origin.Given as goal

abbrev pub decreases-origin : goal.decreases-origin
decreases-origin l = 2 * length l.book.now + 1

abbrev pub decreases-origin_in : goal.decreases-origin_in
decreases-origin_in l = 2 * length l.book.now
