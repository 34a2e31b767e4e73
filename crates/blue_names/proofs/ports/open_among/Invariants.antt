use Rattle.std.proofs.Common.{◌≡◌, ◌-◌, is_none}
use Rattle.stream_model.specs.Composed.{count_from}
use Rattle.blue_names.specs.First.{first_from, when}
use Rattle.blue_names.specs.Wiring.{found_in}
use Rattle.blue_names.proofs.ports.open_among.Given as goal

abbrev pub invariant-loop-port : goal.invariant-loop-port
invariant-loop-port l = first_from (λ _ p. when (is_none (found_in l.table l.node p)) p) 0 (count_from 0 l.count)
    ≡ first_from (λ _ p. when (is_none (found_in l.table l.node p)) p) l.port (count_from l.port (l.count - l.port))
