use Rattle.std.proofs.Common.{length, take, ◌-◌, ◌≤◌}
use Rattle.stream_io.specs.Putting.{Puts}
use Rattle.nodes.proofs.put.put_most.Given as goal

abbrev pub invariant-loop-done : goal.invariant-loop-done
invariant-loop-done g l =
    let state = g.D.Drain.state in
    record {
      within : l.done ≤ length l.bytes;
      sofar : Puts (state l.initial.drain) (state l.drain) (take l.done l.bytes);
    }

abbrev pub decreases-loop-done : goal.decreases-loop-done
decreases-loop-done g l = length l.bytes - l.done
