-- A sink has one input and no output, and gives nothing.
use Rattle.std.proofs.Common.{◌≡◌, ℕ, List, true, refl}
use Rattle.elem_core.specs.declared.item.Item.{Item}
use Rattle.port_core.specs.View.{View}
use Rattle.stream_model.specs.declared.kind.Kind.{Kind}
use Rattle.stream_model.specs.declared.kind.Kind.TheVariants as kind
use Rattle.stream_model.specs.Outlook.{Outlook}
use Rattle.stream_model.specs.Graph.{Graph}
use Rattle.stream_model.specs.Graph as graph
use Rattle.stream_model.specs.Node.{World}
use Rattle.stream_model.specs.Composed.{inputs_by}
use Rattle.stream_model.specs.Fits.{moves_fit}
use Rattle.stream_io.specs.State.{DrainState}
use Rattle.nodes.specs.Kinds.{IsFileSink}
use Rattle.nodes.specs.Sink.{Sink, SinkLaw}
use Rattle.nodes.specs.Ignoring.{Ignorer, IgnoreLaw}
use Rattle.run_laws.specs.KindLaws.{RunLaws}
use Rattle.run_laws.specs.Made.{FirstWriting, FirstIgnoring}
use Rattle.run_laws.proofs.Ports.{none_at}

pub file_sink_inputs : (head : ℕ × ℕ) (shape : Kind) → IsFileSink shape → inputs_by head shape ≡ 1
file_sink_inputs head (kind.ToLines name) h = refl
file_sink_inputs head (kind.Head name) h = refl
file_sink_inputs head (kind.Last name) h = refl
file_sink_inputs head _ h = absurd h

-- it chooses nothing
file_sink_moves : (g : Graph) (w : World) (k : ℕ) (shape : Kind) (os : List Outlook) → IsFileSink shape → moves_fit g w k shape os ≡ true
file_sink_moves g w k (kind.ToLines name) os h = refl
file_sink_moves g w k (kind.Head name) os h = refl
file_sink_moves g w k (kind.Last name) os h = refl
file_sink_moves g w k _ os h = absurd h

module _ (g : Graph) (w : World) (k : ℕ) (n : graph.Node) where
  pub writing_laws : {D : Type 0} (state : D → DrainState) (first now : Sink D) (v : View) (took gave : List (List Item)) → FirstWriting k n.kind first → SinkLaw state first now v took gave → RunLaws g w k n took gave
  writing_laws state first now v took gave made law = record { gives = λ os a p h at. absurd (none_at gave p h law.gave_is at); fits = λ os a. file_sink_moves g w k n.kind os made.is_sink }

  pub ignoring_laws : (first now : Ignorer) (v : View) (took gave : List (List Item)) → FirstIgnoring k n.kind first → IgnoreLaw first now v took gave → RunLaws g w k n took gave
  ignoring_laws first now v took gave made law = record { gives = λ os a p h at. absurd (none_at gave p h law.gave_is at); fits = λ os a. rw made.kind_is refl }
