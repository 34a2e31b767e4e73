-- What a call answers, but for its exit code.
use Rattle.std.specs.Prelude.{ℕ, List}
use Rattle.stream_model.specs.declared.outcome.WireCount.{WireCount}
use Rattle.run_report.specs.declared.outcome.Status.{Status}
use Rattle.run_report.specs.declared.outcome.SinkEnd.{SinkEnd}

-- the status, and after a run the sinks, the wires, the moves of each stage that chooses with its node's number, and the units that
-- were used
pub record Answer : Type 0 where
  pub status : Status
  pub sinks : List SinkEnd
  pub wires : List WireCount
  pub picks : List (ℕ × List ℕ)
  pub used : ℕ
