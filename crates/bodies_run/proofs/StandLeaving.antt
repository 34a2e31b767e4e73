-- The stage at which a lane goes out: what its law tells of the connection before it.
use Rattle.std.specs.Prelude.{slice_get}
use Rattle.std.proofs.Common.{◌≡◌, ℕ, zero, suc, ◌<◌, true, false, List, [], ◌∷◌, ◌++◌, Some, length, get_or, refl, sym, ap, ◌∙◌, subst}
use Rattle.elem_core.specs.Tree.{Tree}
use Rattle.elem_core.specs.declared.item.Item.{Item}
use Rattle.stream_io.specs.State.{SourceState, DrainState}
use Rattle.stream_model.specs.Outlook.{End}
use Rattle.stream_model.specs.Linear.{Book}
use Rattle.stage_core.specs.Held.{told}
use Rattle.stage_core.specs.Law.{TookAs}
use Rattle.port_core.specs.Joint.{Joint, idle, asking, asked, moving, ending, closing, leaving, finished, parted, cancelled, joint_wire, IsSound, Histories, Queues}
use Rattle.port_core.specs.Wire.{JointPorts}
use Rattle.port_core.specs.View.{View, in_at}
use Rattle.port_core.specs.declared.view.InView.{InView}
use Rattle.port_core.specs.declared.view.InView.TheVariants.{Idle, Cancelled}
use Rattle.port_core.specs.Cell.{WireState}
use Rattle.port_core.specs.Reading.{no_wire, inp_of, got_of}
use Rattle.nodes.specs.declared.node.IslandNode.{IslandNode}
use Rattle.nodes.specs.declared.node.IslandNode.TheVariants as node
use Rattle.nodes.specs.Nodes.{node_port_state, node_law, node_asking, node_moves, node_gone, node_waits}
use Rattle.fused_net.specs.Net.{Net, read_all, end_at, wire_at, ports_at, view_of, took, gave}
use Rattle.fused_net.specs.Laws.{Settled}
use Rattle.fused_net.proofs.Reading.{get_there, read_at, some_same}
use Rattle.interpreter.specs.BoundaryPlaces.{IsLeaving, LeavesAt}

-- ---- one wire

-- an idle input of a wire without an event is open at both ends, and has got all that was sent
idle_j : (j : Joint) (s g : List Item) → (joint_wire j s g).inp ≡ Idle → Queues j false → Histories j s g → ((joint_wire j s g).conn.out_closed ≡ false) × (s ≡ g)
idle_j idle s g e q h = (refl, h)
idle_j asking s g e q h = absurd cc
idle_j asked s g e q h = absurd cc
idle_j (moving x) s g e q h = absurd cc
idle_j (ending c) s g e q h = absurd cc
idle_j (closing t c) s g e q h = absurd cc
idle_j (leaving true t) s g e q h = absurd cc
idle_j (leaving false t) s g e q h = absurd cc
idle_j (finished t c) s g e q h = absurd cc
idle_j (parted t c) s g e q h = absurd cc
idle_j (cancelled t c) s g e q h = absurd cc

pub idle_rest : (w : JointPorts) → IsSound w false → w.inp ≡ Idle → (w.conn.out_closed ≡ false) × (w.sent ≡ w.got)
idle_rest w s e =
    let both = idle_j s.joint w.sent w.got (sym (ap (λ (v : JointPorts). v.inp) s.is) ∙ e) s.queues s.histories in
    (ap (λ (v : JointPorts). v.conn.out_closed) s.is ∙ both.0, both.1)

-- ---- the stage

-- What came at the one input of the stage, and what it knows of it: what left there or was dropped, and then what waits.
pub record Took (gone waits got : List Item) (y : InView) : Type 0 where
  pub list : List Tree
  pub end : End
  pub is : got ≡ told list end
  pub known : TookAs y end
  pub parts : got ≡ gone ++ waits

one_of : (a l : List Item) (i : ℕ) → slice_get (a ∷ []) i ≡ Some l → (i ≡ 0) × (a ≡ l)
one_of a l zero e = (refl, some_same a l e)
one_of a l (suc i) e = absurd cc

one_item : (a l : List Item) (t : List (List Item)) (i : ℕ) → t ≡ a ∷ [] → slice_get t i ≡ Some l → (i ≡ 0) × (a ≡ l)
one_item a l t i e at = one_of a l i (ap (λ (z : List (List Item)). slice_get z i) (sym e) ∙ at)

got_there : (wires : List WireState) (ws : List ℕ) (i w : ℕ) → slice_get ws i ≡ Some w → slice_get (read_all got_of wires ws) i ≡ Some (get_or wires w no_wire).wire.got
got_there wires [] i w e = absurd cc
got_there wires (x ∷ ws) zero w e = ap (λ (k : ℕ). Some (get_or wires k no_wire).wire.got) (some_same x w e)
got_there wires (x ∷ ws) (suc i) w e = got_there wires ws i w e

module _ {S D L H B : Type 0} (sources : S → SourceState) (drains : D → DrainState) (book : Book) where
  -- the stage's law at port i of it
  took_by : (x first : IslandNode S D L H B) → IsLeaving first → (v : View) (t g : List (List Item)) (i : ℕ) (l : List Item) (y : InView) → slice_get t i ≡ Some l → in_at v i ≡ y → node_law sources drains book first x v t g → Took (node_gone x) (node_waits x) l y
  took_by (node.Leaving x) (node.Leaving f) h v t g i l y at inp law =
      let one = one_item (told law.list law.end) l t i law.took_is at in
      record {
        list = law.list;
        end = law.end;
        is = sym one.1;
        known = subst (λ (z : InView). TookAs z law.end) (ap (λ (k : ℕ). in_at v k) (sym one.0) ∙ inp) law.took_as;
        parts = sym one.1 ∙ law.parts;
      }
  took_by (node.Reading x) (node.Leaving f) h v t g i l y at inp law = absurd law
  took_by (node.Making x) (node.Leaving f) h v t g i l y at inp law = absurd law
  took_by (node.Linear x) (node.Leaving f) h v t g i l y at inp law = absurd law
  took_by (node.State x) (node.Leaving f) h v t g i l y at inp law = absurd law
  took_by (node.Sub x) (node.Leaving f) h v t g i l y at inp law = absurd law
  took_by (node.FanIn x) (node.Leaving f) h v t g i l y at inp law = absurd law
  took_by (node.FanOut x) (node.Leaving f) h v t g i l y at inp law = absurd law
  took_by (node.Custom x) (node.Leaving f) h v t g i l y at inp law = absurd law
  took_by (node.Writing x) (node.Leaving f) h v t g i l y at inp law = absurd law
  took_by (node.Ignoring x) (node.Leaving f) h v t g i l y at inp law = absurd law
  took_by (node.Entering x) (node.Leaving f) h v t g i l y at inp law = absurd law
  took_by x (node.Reading f) h v t g i l y at inp law = absurd h
  took_by x (node.Making f) h v t g i l y at inp law = absurd h
  took_by x (node.Linear f) h v t g i l y at inp law = absurd h
  took_by x (node.State f) h v t g i l y at inp law = absurd h
  took_by x (node.Sub f) h v t g i l y at inp law = absurd h
  took_by x (node.FanIn f) h v t g i l y at inp law = absurd h
  took_by x (node.FanOut f) h v t g i l y at inp law = absurd h
  took_by x (node.Custom f) h v t g i l y at inp law = absurd h
  took_by x (node.Writing f) h v t g i l y at inp law = absurd h
  took_by x (node.Ignoring f) h v t g i l y at inp law = absurd h
  took_by x (node.Entering f) h v t g i l y at inp law = absurd h

  module _ (net : Net (IslandNode S D L H B)) (s : Settled node_port_state (node_law sources drains book) node_asking node_moves net) (q : ℕ) (h : q < length net.wires) (stage : LeavesAt net q) where
    abbrev to : ℕ
    to = (end_at net.ends q).to

    -- what came there is a list and its end, as the stage knows
    pub took_there : (x : IslandNode S D L H B) → slice_get net.nodes to ≡ Some x → Took (node_gone x) (node_waits x) (wire_at net q).wire.got (wire_at net q).wire.inp
    took_there x at =
        let first = get_there net.firsts to (rw s.each_first (s.wired.to_within q h)) in
        took_by x first.0 (stage first.0 first.1) (view_of net to) (took net to) (gave net to) (end_at net.ends q).input (wire_at net q).wire.got (wire_at net q).wire.inp
        (got_there net.wires (ports_at net to).ins (end_at net.ends q).input q (s.wired.to_input q h))
        (read_at inp_of net.wires (ports_at net to).ins (end_at net.ends q).input q Cancelled (s.wired.to_input q h))
        (s.minded to (s.wired.to_within q h) x first.0 at first.1).law_holds

    pub there : (x : IslandNode S D L H B) × (slice_get net.nodes to ≡ Some x)
    there = get_there net.nodes to (s.wired.to_within q h)
