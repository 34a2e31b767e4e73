-- The nets of several islands tell of the blueprint what one net would: each node keeps its port_state and
-- its law over its wires, each wire brings what it may, and each ask has its moment.
use Rattle.std.specs.Prelude.{slice_get, slice_index_or}
use Rattle.std.proofs.Common.{◌≡◌, ℕ, ◌<◌, ◌≤◌, List, [], length, Option, None, Some, refl, ap, subst, ◌∙◌}
use Rattle.elem_core.specs.declared.item.Item.{Item}
use Rattle.port_core.specs.Ring.{is_queued}
use Rattle.port_core.specs.View.{View}
use Rattle.port_core.specs.declared.view.InView.{InView}
use Rattle.port_core.specs.declared.view.OutView.{OutView}
use Rattle.port_core.specs.Cell.{WireState}
use Rattle.port_core.specs.Marks.{wanted}
use Rattle.stream_model.specs.Graph.{Graph, Edge}
use Rattle.stream_model.specs.Graph as graph
use Rattle.port_core.specs.Reading.{inp_of, out_of, got_of, sent_of}
use Rattle.fused_net.specs.Net.{Net, ports_at, view_of}
use Rattle.fused_net.specs.Net as net
use Rattle.fused_net.specs.Laws.{Settled}
use Rattle.fused_net.proofs.Reading.{get_there, read_at}
use Rattle.run_laws.specs.Account.{Account, knows, took, gave, WireKeeps, WireQuiet, NodeKeeps, ins_wanted, outs_wanted, KeepsLaws, outs_shut, shut_of, IsStill}
use Rattle.stream_model.specs.Joined.{IsJoined}
use Rattle.run_laws.specs.Seats.{Seats, Covers, LanesKeep, LanesRest, joined_account}
use Rattle.run_laws.proofs.Earlier.{want_in, want_out, shut_out, earlier, last}
use Rattle.run_laws.proofs.Reading.{far_slot, read_in, read_out}

-- a view by its parts
view_same : {v w : View} → v.ins ≡ w.ins → v.outs ≡ w.outs → v ≡ w
view_same {v = v} {w = w} a b = ap (λ (x : List InView). record { ins = x; outs = v.outs }) a ∙ ap (λ (y : List OutView). record { ins = w.ins; outs = y }) b

-- each connection stands in its net
module _ {N : Type 0} (g : Graph) (nets : ℕ → Net N) (s : Seats) (covers : Covers g nets s) where
  pub near_there : (u : ℕ) → u < length g.wires → (s.near u).at < length (nets (s.near u).island).wires
  near_there u h = let v = get_there g.wires u h in covers.near_within u v.0 v.1

  pub far_there : (u : ℕ) → u < length g.wires → (s.far u).at < length (nets (s.far u).island).wires
  far_there u h = let v = get_there g.wires u h in covers.far_within u v.0 v.1

module _ {N : Type 0} (port_state : N → View → Type 0) (law : N → N → View → List (List Item) → List (List Item) → Type 0) (asking : N → View → Type 0) (moves : N → List ℕ)
    (g : Graph) (nets : ℕ → Net N) (s : Seats) (is_joined : IsJoined g) (covers : Covers g nets s)
    (asked : ℕ → ℕ) (settled : (b : ℕ) → Settled port_state law asking moves (nets b)) (lanes : LanesKeep g nets s asked) where
  abbrev all : Account N
  all = joined_account nets s asked

  abbrev home : ℕ → ℕ
  home k = (s.node k).island

  abbrev seat : ℕ → ℕ
  seat k = (s.node k).at

  cells : ℕ → List WireState
  cells b = (nets b).wires

  knows_same : (k : ℕ) (n : graph.Node) → slice_get g.nodes k ≡ Some n → view_of (nets (home k)) (seat k) ≡ knows g all k n
  knows_same k n e =
      view_same (read_in g nets s is_joined covers (λ b. (settled b).wired) inp_of (λ b. (nets b).wires) k n e) (read_out g nets s is_joined covers (λ b. (settled b).wired) out_of (λ b. (nets b).wires) k n e)

  took_same : (k : ℕ) (n : graph.Node) → slice_get g.nodes k ≡ Some n → net.took (nets (home k)) (seat k) ≡ took g all k n
  took_same k n e = read_in g nets s is_joined covers (λ b. (settled b).wired) got_of (λ b. (nets b).wires) k n e

  ins_same : (k : ℕ) (n : graph.Node) → slice_get g.nodes k ≡ Some n → want_in port_state law asking moves (nets (home k)) (seat k) ≡ ins_wanted g all k n
  ins_same k n e = read_in g nets s is_joined covers (λ b. (settled b).wired) wanted (λ b. (nets b).wires) k n e

  outs_same : (k : ℕ) (n : graph.Node) → slice_get g.nodes k ≡ Some n → want_out port_state law asking moves (nets (home k)) (seat k) ≡ outs_wanted g all k n
  outs_same k n e = read_out g nets s is_joined covers (λ b. (settled b).wired) wanted (λ b. (nets b).wires) k n e

  shut_same : (k : ℕ) (n : graph.Node) → slice_get g.nodes k ≡ Some n → shut_out port_state law asking moves (nets (home k)) (seat k) ≡ outs_shut g all k n
  shut_same k n e = read_out g nets s is_joined covers (λ b. (settled b).wired) shut_of (λ b. (nets b).wires) k n e

  gave_same : (k : ℕ) (n : graph.Node) → slice_get g.nodes k ≡ Some n → net.gave (nets (home k)) (seat k) ≡ gave g all k n
  gave_same k n e = read_out g nets s is_joined covers (λ b. (settled b).wired) sent_of (λ b. (nets b).wires) k n e

  -- a node keeps its port_state and its law over the blueprint's wires, and its moments
  node_keeps : (k : ℕ) (n : graph.Node) → slice_get g.nodes k ≡ Some n → NodeKeeps port_state law asking moves g all k n
  node_keeps k n e =
      let h = covers.node_within k n e in
      let x = get_there (nets (home k)).nodes (seat k) h in
      let first = get_there (nets (home k)).firsts (seat k) (rw (settled (home k)).each_first h) in
      let m = (settled (home k)).minded (seat k) h x.0 first.0 x.1 first.1 in
      record {
        first = first.0;
        now = x.0;
        first_at = first.1;
        now_at = x.1;
        port_state_holds = subst (λ (v : View). port_state x.0 v) (knows_same k n e) m.port_state_holds;
        law_holds = rw (knows_same k n e, took_same k n e, gave_same k n e) at m.law_holds;
        asks = λ p hp some.
            let u = is_joined.each_input k n p e hp in
            let there = far_slot g nets s is_joined covers (λ c. (settled c).wired) k n p u.0 e u.1 in
            let some_here : 1 ≤ slice_index_or (want_in port_state law asking moves (nets (home k)) (seat k)) p 0 = rw (ins_same k n e) some in
            let l = (settled (home k)).asked (s.far u.0).at there.1.0 (rw (read_at wanted (nets (home k)).wires (ports_at (nets (home k)) (seat k)).ins p (s.far u.0).at 0 there.1.1) at some_here) in
            rw (took_same k n e, gave_same k n e, ins_same k n e, outs_same k n e, shut_same k n e) at (earlier port_state law asking moves (nets (home k)) (settled (home k)).wired (seat k) h first.0 first.1 x.0 x.1 p (s.far u.0).at there.1.1 l);
        last = λ p hp some.
            let u = is_joined.each_input k n p e hp in
            let there = far_slot g nets s is_joined covers (λ c. (settled c).wired) k n p u.0 e u.1 in
            let some_here : 1 ≤ slice_index_or (want_in port_state law asking moves (nets (home k)) (seat k)) p 0 = rw (ins_same k n e) some in
            let to = ((settled (home k)).wired.input_to (seat k) p (s.far u.0).at h there.1.1).1.0 in
            let a = (settled (home k)).moments (seat k) (s.far u.0).at h there.1.0 to (rw (read_at wanted (nets (home k)).wires (ports_at (nets (home k)) (seat k)).ins p (s.far u.0).at 0 there.1.1) at some_here) in
            rw (took_same k n e, gave_same k n e, ins_same k n e, outs_same k n e, shut_same k n e) at (last port_state law asking moves (nets (home k)) (settled (home k)).wired (seat k) h first.0 first.1 x.0 x.1 a);
      }

  -- each wire keeps what it does
  wires_keep : (u : ℕ) (v : Edge) → slice_get g.wires u ≡ Some v → WireKeeps v.keep v.lane (all.near u) (all.far u) (all.asked u)
  wires_keep u v e = by v.lane refl
    where
      by : (lane : Option ℕ) → v.lane ≡ lane → WireKeeps v.keep lane (all.near u) (all.far u) (all.asked u)
      by None is = rw (covers.fused u v e is) refl
      by (Some size) is = lanes u v size e is

  -- together they keep what one net would
  pub all_keep : KeepsLaws port_state law asking moves g all
  all_keep = record {
    each_node = node_keeps;
    near_sound = λ u h. (is_queued (nets (s.near u).island).queue (s.near u).at, (settled (s.near u).island).sound (s.near u).at (near_there g nets s covers u h));
    far_sound = λ u h. (is_queued (nets (s.far u).island).queue (s.far u).at, (settled (s.far u).island).sound (s.far u).at (far_there g nets s covers u h));
    near_marked = λ u h. (settled (s.near u).island).marked (s.near u).at (near_there g nets s covers u h);
    far_marked = λ u h. (settled (s.far u).island).marked (s.far u).at (far_there g nets s covers u h);
    wires = wires_keep;
  }

module _ {N : Type 0} (port_state : N → View → Type 0) (law : N → N → View → List (List Item) → List (List Item) → Type 0) (asking : N → View → Type 0) (moves : N → List ℕ)
    (g : Graph) (nets : ℕ → Net N) (s : Seats) (covers : Covers g nets s) (asked : ℕ → ℕ) (settled : (b : ℕ) → Settled port_state law asking moves (nets b)) where
  -- where no event is left in any of them and each lane rests, none is left on any wire
  pub all_still : ((b : ℕ) → (nets b).queue ≡ []) → LanesRest g nets s asked → IsStill g (joined_account nets s asked)
  all_still empty rest = record {
    near = λ u h. rw (empty (s.near u).island) at ((settled (s.near u).island).sound (s.near u).at (near_there g nets s covers u h));
    far = λ u h. rw (empty (s.far u).island) at ((settled (s.far u).island).sound (s.far u).at (far_there g nets s covers u h));
    quiet = λ u v e. by u v e v.lane refl;
  }
    where
      by : (u : ℕ) (v : Edge) → slice_get g.wires u ≡ Some v → (lane : Option ℕ) → v.lane ≡ lane → WireQuiet v.keep lane ((joined_account nets s asked).near u) ((joined_account nets s asked).far u) (asked u)
      by u v e None is = tt
      by u v e (Some size) is = rest u v size e is
