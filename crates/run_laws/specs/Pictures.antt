-- The picture of an account, and the ports of its nodes in it.
use Rattle.std.specs.Prelude.{ℕ, ◌+◌, ◌<◌, List, [], ◌∷◌, length, slice_get, Option, None, Some}
use Rattle.port_core.specs.Marks.{wanted}
use Rattle.stream_model.specs.Graph.{Graph, Edge, find_wire, find_source}
use Rattle.stream_model.specs.Outlook.{Outlook}
use Rattle.stream_model.specs.declared.outcome.WireCount.{WireCount}
use Rattle.stream_model.specs.View.{view_of}
use Rattle.run_laws.specs.Items.{AgreesWith, WithinOutlook}
use Rattle.run_laws.specs.Account.{Account}
use Rattle.run_laws.specs.Ports.{InPort, OutPort, wire_count}

module _ {N : Type 0} (a : Account N) where
  -- how the wires from number i on stand
  abbrev pub counts_from : ℕ → List Edge → List WireCount
  counts_from i [] = []
  counts_from i (v ∷ vs) = wire_count v.lane (a.near i) (a.asked i) ∷ counts_from (i + 1) vs

  -- the picture of a graph
  abbrev pub picture_counts : Graph → List WireCount
  picture_counts g = counts_from 0 g.wires

  -- what was sent on each wire is a first part of the list of its outlook
  abbrev pub AllPass : Graph → (ℕ → Outlook) → Type 0
  AllPass g outlook = (u : ℕ) → u < length g.wires → WithinOutlook (outlook u) (a.near u).wire.sent

  -- and what was sent agrees with it, also the end
  abbrev pub AllAgreeWith : Graph → (ℕ → Outlook) → Type 0
  AllAgreeWith g outlook = (u : ℕ) → u < length g.wires → AgreesWith (outlook u) (a.near u).wire.sent

  module _ (g : Graph) (outlook : ℕ → Outlook) where
    -- the input of a node to which wire u leads, with what the picture says of the wire
    abbrev pub in_port : ℕ → Edge → InPort
    in_port u v = record {
      view = (a.far u).wire.inp;
      got = (a.far u).wire.got;
      want = wanted (a.far u);
      wire = view_of u v (wire_count v.lane (a.near u) (a.asked u)) (outlook u);
    }

    -- the output of a node from which wire u leads, with what the picture says of the wire
    abbrev pub out_port : ℕ → Edge → OutPort
    out_port u v = record {
      view = (a.near u).wire.out;
      sent = (a.near u).wire.sent;
      want = wanted (a.near u);
      wire = view_of u v (wire_count v.lane (a.near u) (a.asked u)) (outlook u);
    }

    -- these inputs with that of a wire, where there is one, in front
    abbrev cons_in : Option ℕ → Option Edge → List InPort → List InPort
    cons_in (Some u) (Some v) is = in_port u v ∷ is
    cons_in _ _ is = is

    -- these outputs with that of a wire, where there is one, in front
    abbrev cons_out : Option ℕ → Option Edge → List OutPort → List OutPort
    cons_out (Some u) (Some v) os = out_port u v ∷ os
    cons_out _ _ os = os

    -- the wire of a number, where there is one
    abbrev wire_by : Option ℕ → Option Edge
    wire_by None = None
    wire_by (Some u) = slice_get g.wires u

    -- the inputs of node k at these ports that have a wire, in order
    abbrev pub in_ports : ℕ → List ℕ → List InPort
    in_ports k [] = []
    in_ports k (p ∷ ps) = cons_in (find_wire k p g.wires) (wire_by (find_wire k p g.wires)) (in_ports k ps)

    -- the outputs of node k at these ports that have a wire, in order
    abbrev pub out_ports : ℕ → List ℕ → List OutPort
    out_ports k [] = []
    out_ports k (p ∷ ps) = cons_out (find_source k p g.wires) (wire_by (find_source k p g.wires)) (out_ports k ps)
