use Rattle.std.proofs.Common.{length, take, ◌-◌, ◌≤◌}
use Rattle.stream_io.specs.Putting.{Puts}
use Rattle.stream_io.proofs.put.put_all.Given as goal

abbrev pub invariant-loop-done : goal.invariant-loop-done
invariant-loop-done g l =
    let state = g.D.Drain.state in
    record {
      within : l.done ≤ length l.piece;
      sofar : Puts (state l.initial.drain) (state l.drain) (take l.done l.piece);
    }

abbrev pub decreases-loop-done : goal.decreases-loop-done
decreases-loop-done g l = length l.piece - l.done
