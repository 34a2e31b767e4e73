-- How the sinks of a run stand at its end, in order of nodes.
use Rattle.std.specs.Prelude.{ℕ, ◌+◌, ◌==◌, Bool, true, false, if◌then◌else◌, List, [], ◌∷◌}
use Rattle.stream_model.specs.declared.blueprint.Node.{Node}
use Rattle.stream_model.specs.declared.outcome.EndState.{EndState}
use Rattle.stream_model.specs.declared.outcome.EndState.TheVariants.{Failed, Unended, WriteFault}
use Rattle.materializer.specs.Files.{is_sink}
use Rattle.run_laws.specs.Picture.{has_ended}

-- the number of the sink's node, how many whole lines it wrote, and how it stands
abbrev pub SinkStand : Type 0
SinkStand = ℕ × ℕ × EndState

-- the numbers of the sinks among these nodes, which are numbered from k
abbrev pub sink_places : ℕ → List Node → List ℕ
sink_places k [] = []
sink_places k (n ∷ ns) = if is_sink n then k ∷ sink_places (k + 1) ns else sink_places (k + 1) ns

-- node k is a sink that has ended
abbrev pub has_ended_at : List SinkStand → ℕ → Bool
has_ended_at [] k = false
has_ended_at (s ∷ ss) k = if s.0 == k then has_ended s.2 else has_ended_at ss k

-- a write to its file failed
abbrev pub is_write_fault : EndState → Bool
is_write_fault WriteFault = true
is_write_fault _ = false

-- it goes on
abbrev pub is_unended : EndState → Bool
is_unended Unended = true
is_unended _ = false

-- it failed
abbrev pub is_failed : EndState → Bool
is_failed (Failed c) = true
is_failed _ = false
