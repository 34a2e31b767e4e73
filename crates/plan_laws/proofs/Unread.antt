-- Where no read of a file failed, the outlooks are of the files' bytes alone, and not of how many of them were read.
use Rattle.std.proofs.Common.{◌≡◌, ℕ, zero, suc, Bool, true, false, List, [], ◌∷◌, length, Option, Some, None, refl, sym, ap, ◌∙◌}
use Rattle.std.specs.Prelude.{slice_get}
use Rattle.elem_core.specs.declared.why.Decider.{Decider}
use Rattle.stream_model.specs.declared.kind.Kind.{Kind}
use Rattle.stream_model.specs.declared.kind.Kind.TheVariants.{Lines, Custom}
use Rattle.stream_model.specs.Outlook.{Outlook}
use Rattle.stream_model.specs.Graph.{Graph, Node, Edge, find_wire}
use Rattle.stream_model.specs.Linear.{work_of}
use Rattle.stream_model.specs.Node.{World, nothing, node_outlook, of_work, custom_by}
use Rattle.stream_model.specs.Composed.{inputs_of, count_from, received, wire_loss, incoming, ports_of, given_on, sent_on, rounds, composed, sink_outlook}
use Rattle.stream_model.specs.Sources.{File, lines_outlook}
use Rattle.plan_laws.specs.Unread.{AlikeFiles, AlikeSources, with_files}

lines_same : (node : ℕ) (f h : File) → AlikeFiles f h → lines_outlook node f ≡ lines_outlook node h
lines_same node f h a =
    ap (λ (b : List ℕ). lines_outlook node (record { bytes = b; read = f.read; faulted = f.faulted })) a.bytes
    ∙ ap (λ (t : Bool). lines_outlook node (record { bytes = h.bytes; read = f.read; faulted = t })) a.first
    ∙ sym (ap (λ (t : Bool). lines_outlook node (record { bytes = h.bytes; read = h.read; faulted = t })) a.second)

module _ (g : Graph) (w : World) (file : List ℕ → File) (alike : AlikeSources g file w.file) where
  abbrev other : World
  other = with_files file w

  -- what a custom stage gives that tells a list, or tells none
  custom_same : (node : ℕ) (name : List ℕ) (d : Decider) (is : List Outlook) (p : ℕ) (tells : Bool) → custom_by g other node name d is p tells ≡ custom_by g w node name d is p tells
  custom_same node name d is p true = refl
  custom_same node name d is p false = refl

  -- what a node gives
  kind_same : (node : ℕ) (k : Kind) (d : Decider) (is : List Outlook) (p : ℕ) → ((name : List ℕ) → k ≡ Lines name → AlikeFiles (file name) (w.file name)) → node_outlook g other node k d is p ≡ node_outlook g w node k d is p
  kind_same node (Lines name) d is p h = lines_same node (file name) (w.file name) (h name refl)
  kind_same node (Custom name) d is p h = custom_same node name d is p (w.book.tells name)
  kind_same node k d is p h = refl

  incoming_same : (sent now : ℕ → Outlook) → ((i : ℕ) → sent i ≡ now i) → (o : Option ℕ) → incoming g other sent o ≡ incoming g w now o
  incoming_same sent now same None = refl
  incoming_same sent now same (Some i) = ap (received g w (wire_loss g w (slice_get g.wires i))) (same i)

  ports_same : (sent now : ℕ → Outlook) → ((i : ℕ) → sent i ≡ now i) → (node : ℕ) (ps : List ℕ) → ports_of g other sent node ps ≡ ports_of g w now node ps
  ports_same sent now same node [] = refl
  ports_same sent now same node (p ∷ ps) =
      ap (λ (o : Outlook). o ∷ ports_of g other sent node ps) (incoming_same sent now same (find_wire node p g.wires))
      ∙ ap (λ (os : List Outlook). incoming g w now (find_wire node p g.wires) ∷ os) (ports_same sent now same node ps)

  given_same : (sent now : ℕ → Outlook) → ((i : ℕ) → sent i ≡ now i) → (node p : ℕ) (o : Option Node) → slice_get g.nodes node ≡ o → given_on g other sent node o p ≡ given_on g w now node o p
  given_same sent now same node p None at = refl
  given_same sent now same node p (Some n) at =
      kind_same node n.kind n.decider (ports_of g other sent node (count_from 0 (inputs_of n))) p (λ name is. alike node n name at is)
      ∙ ap (λ (os : List Outlook). node_outlook g w node n.kind n.decider os p) (ports_same sent now same node (count_from 0 (inputs_of n)))

  sent_same : (sent now : ℕ → Outlook) → ((i : ℕ) → sent i ≡ now i) → (o : Option Edge) → sent_on g other sent o ≡ sent_on g w now o
  sent_same sent now same None = refl
  sent_same sent now same (Some v) = given_same sent now same v.from v.output (slice_get g.nodes v.from) refl

  rounds_same : (n i : ℕ) → rounds g other n i ≡ rounds g w n i
  rounds_same zero i = refl
  rounds_same (suc n) i = sent_same (rounds g other n) (rounds g w n) (rounds_same n) (slice_get g.wires i)

  pub wires_same : (i : ℕ) → composed g other i ≡ composed g w i
  wires_same i = rounds_same (length g.wires) i

  pub sinks_same : (node : ℕ) (n : Node) → sink_outlook g other node n ≡ sink_outlook g w node n
  sinks_same node n = ap (of_work w.book node n.decider (work_of n.kind)) (ports_same (composed g other) (composed g w) wires_same node (count_from 0 1))
