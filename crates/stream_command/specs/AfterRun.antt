-- What a run makes of the status, and what is told of it.
use Rattle.std.specs.Prelude.{◌≡◌, ℕ, Bool, true, false, ◌||◌, nat_lt, if◌then◌else◌, List, [], ◌∷◌, map, slice_get, Option, Some, None}
use Rattle.std.specs.List.{list_any, list_all}
use Rattle.stream_model.specs.declared.outcome.EndState.{EndState}
use Rattle.stream_model.specs.declared.outcome.EndState.TheVariants as state
use Rattle.stream_model.specs.declared.blueprint.Node.{Node}
use Rattle.interpreter.specs.Picks.{pick_of}
use Rattle.run_blueprint.specs.Stands.{SinkStand, is_write_fault, is_unended, is_failed}
use Rattle.run_blueprint.specs.declared.run.RunResult.{RunResult}
use Rattle.run_report.specs.Answer.{Answer}
use Rattle.run_report.specs.declared.outcome.SinkEnd.{SinkEnd}
use Rattle.run_report.specs.declared.outcome.Status.{Status}
use Rattle.run_report.specs.declared.outcome.Status.TheVariants as status
use Rattle.stream_command.specs.declared.answer.CallEnd.{CallEnd}
use Rattle.blue_check.specs.Fitness.{node_name}

-- the answer that an outcome is
abbrev pub of_outcome : CallEnd → Answer
of_outcome o = record { status = o.status; sinks = o.sinks.items; wires = o.picture.wires.items; picks = map pick_of o.picks.items; used = o.used }

-- what is told of a sink that stands so
abbrev pub told_end : List Node → SinkStand → SinkEnd
told_end nodes s = record { name = node_name (slice_get nodes s.0); count = s.1; end = s.2 }

-- what is told of sinks that stand so
abbrev pub told_ends : List Node → List SinkStand → List SinkEnd
told_ends nodes stands = map (told_end nodes) stands

-- a sink that stands so has ended
abbrev pub is_ended : EndState → Bool
is_ended state.Ended = true
is_ended _ = false

-- every sink ended
abbrev pub all_ended : List SinkEnd → Bool
all_ended sinks = list_all (λ s. is_ended s.end) sinks

-- some sink failed
abbrev pub some_failed : List SinkEnd → Bool
some_failed sinks = list_any (λ s. is_failed s.end) sinks

-- some sink goes on
abbrev pub some_unended : List SinkEnd → Bool
some_unended sinks = list_any (λ s. is_unended s.end) sinks

-- some sink stands at a failed write
abbrev pub some_fault : List SinkEnd → Bool
some_fault sinks = list_any (λ s. is_write_fault s.end) sinks

-- the ends of sinks of these names that stand so
abbrev pub sink_ends : List (List ℕ) → List SinkStand → List SinkEnd
sink_ends (n ∷ ns) (s ∷ ss) = record { name = n; count = s.1; end = s.2 } ∷ sink_ends ns ss
sink_ends _ _ = []

-- the status of a run whose stages made all moves that they came to, in which no write failed
abbrev pub status_by : List SinkStand → Bool → Status
status_by stands rest =
    if list_any (λ s. is_unended s.2) stands then (if rest then status.Stalled else status.OutOfTurns)
    else (if list_any (λ s. is_failed s.2) stands then status.StreamFailed else status.Done)

-- the same where a stage could not make its next move, or not
abbrev pub status_found : Option (ℕ × ℕ) → List SinkStand → Bool → Status
status_found (Some found) stands rest = status.Misfit found.0 found.1
status_found None stands rest = status_by stands rest

-- the status, by how the sinks stand, whether a write to the trace's file failed, which stage could not make its next move, and whether no
-- event was left: a failed write comes first, then that stage, then a sink that goes on, then one that failed
abbrev pub status_after : List SinkStand → Bool → Option (ℕ × ℕ) → Bool → Status
status_after stands trace_failed misfit rest = if list_any (λ s. is_write_fault s.2) stands || trace_failed then status.WriteFault
    else status_found misfit stands rest

-- the run stalled
abbrev pub is_stalled : Status → Bool
is_stalled status.Stalled = true
is_stalled _ = false

-- no event was left, as the answer tells it: the run stalled, or it used fewer units than it might
abbrev pub no_event_left : Answer → ℕ → Bool
no_event_left a turns = is_stalled a.status || nat_lt a.used turns

-- what is told of the run
pub record AfterRun (names : List (List ℕ)) (ran : RunResult) (a : Answer) : Type 0 where
  pub status : a.status ≡ status_after ran.sinks.items ran.trace_failed ran.misfit ran.at_rest
  pub sinks : a.sinks ≡ sink_ends names ran.sinks.items
  pub wires : a.wires ≡ ran.wires.items
  pub picks : a.picks ≡ map pick_of ran.picks.items
  pub used : a.used ≡ ran.used
