-- A whole graph: how one wire's move leaves the rest as it was.
use Rattle.std.proofs.Common.{◌≡◌, ◌≢◌, inl, inr, ℕ, ◌<◌, ◌==◌, Bool, true, false, if◌then◌else◌, ◌||◌, Some, List, [], ◌∷◌, ◌++◌, length, slice_get, refl, sym, ap, ◌∙◌, arith, get_or-set_same, get_or-set_other}
use Rattle.std.proofs.Math.ListN.{set}
use Rattle.std.proofs.lemmas.Grind.{common_steps}
use Rattle.std.proofs.lemmas.Bool.Decides.{nat_tests}
use Rattle.std.proofs.lemmas.List.{length-set}
use Rattle.std.proofs.lemmas.List.Folds.{list_any-append}
use Rattle.elem_core.specs.declared.item.Item.{Item}
use Rattle.port_core.specs.Ring.{is_queued}
use Rattle.port_core.specs.Joint.{IsSound}
use Rattle.port_core.specs.View.{View}
use Rattle.port_core.specs.declared.act.Act.{Act}
use Rattle.port_core.specs.Cell.{WireState}
use Rattle.port_core.specs.Marks.{IsMarked}
use Rattle.port_core.specs.Reading.{no_wire, inp_of, out_of, got_of, sent_of}
use Rattle.fused_net.specs.Net.{Net, wire_at, ports_at, view_of, took, gave, put}
use Rattle.fused_net.specs.Laws.{Wired, Minds, IsMinded}
use Rattle.fused_net.proofs.Reading.{same_or_not, read_same, read_apart, read_here}

-- the queue after a wire was put
pub holds_put_same : (queue : List ℕ) (w : ℕ) (b : Bool) → is_queued (if b then queue ++ w ∷ [] else queue) w ≡ (is_queued queue w || b)
holds_put_same queue w true = list_any-append (λ x. x == w) queue (w ∷ []) ∙ grind (arith, common_steps, nat_tests)
holds_put_same queue w false = grind (arith, common_steps)

pub holds_put_other : (queue : List ℕ) (w u : ℕ) (b : Bool) → u ≢ w → is_queued (if b then queue ++ w ∷ [] else queue) u ≡ is_queued queue u
holds_put_other queue w u true n = list_any-append (λ x. x == u) queue (w ∷ []) ∙ grind (arith, common_steps, nat_tests)
holds_put_other queue w u false n = refl

module _ {N : Type 0} where
  -- every wire stays in a joint state
  pub sound_put : (net : Net N) (w : ℕ) (new : WireState) (b : Bool) → w < length net.wires
      → ((u : ℕ) → u < length net.wires → u ≢ w → IsSound (wire_at net u).wire (is_queued net.queue u))
      → IsSound new.wire (is_queued net.queue w || b)
      → (u : ℕ) → u < length (put net w new b).wires → IsSound (wire_at (put net w new b) u).wire (is_queued (put net w new b).queue u)
  sound_put net w new b h sound s u hu = elim (same_or_not u w) [
    | inl same ↦ rw same (rw (get_or-set_same net.wires w new no_wire h, holds_put_same net.queue w b) s)
    | inr other ↦ let within : u < length net.wires = rw length-set at hu in
        rw (get_or-set_other net.wires w u new no_wire other, holds_put_other net.queue w u b other) (sound u within other)
  ]

  -- and every wire stays marked as it was pulled
  pub marked_put : (net : Net N) (w : ℕ) (new : WireState) (b : Bool) → w < length net.wires
      → ((u : ℕ) → u < length net.wires → u ≢ w → IsMarked (wire_at net u)) → IsMarked new
      → (u : ℕ) → u < length (put net w new b).wires → IsMarked (wire_at (put net w new b) u)
  marked_put net w new b h marked m u hu = elim (same_or_not u w) [
    | inl same ↦ rw same (rw (get_or-set_same net.wires w new no_wire h) m)
    | inr other ↦ let within : u < length net.wires = rw length-set at hu in
        rw (get_or-set_other net.wires w u new no_wire other) (marked u within other)
  ]

  -- no other node has an input at the wire of this input, and this node has no other
  apart_in : (net : Net N) (n i w k : ℕ) → Wired net.ends net.ports (length net.nodes) (length net.wires) → n < length net.nodes → slice_get (ports_at net n).ins i ≡ Some w
      → k < length net.nodes → k ≢ n → (j : ℕ) → slice_get (ports_at net k).ins j ≡ Some w → ⊥
  apart_in net n i w k wired hn at hk ne j e = ne (sym (wired.input_to k j w hk e).1.0 ∙ (wired.input_to n i w hn at).1.0)

  apart_out : (net : Net N) (n i w k : ℕ) → Wired net.ends net.ports (length net.nodes) (length net.wires) → n < length net.nodes → slice_get (ports_at net n).outs i ≡ Some w
      → k < length net.nodes → k ≢ n → (j : ℕ) → slice_get (ports_at net k).outs j ≡ Some w → ⊥
  apart_out net n i w k wired hn at hk ne j e = ne (sym (wired.output_from k j w hk e).1.0 ∙ (wired.output_from n i w hn at).1.0)

  once_in : (net : Net N) (n i w : ℕ) → Wired net.ends net.ports (length net.nodes) (length net.wires) → n < length net.nodes → slice_get (ports_at net n).ins i ≡ Some w
      → (j : ℕ) → slice_get (ports_at net n).ins j ≡ Some w → j ≡ i
  once_in net n i w wired hn at j e = sym (wired.input_to n j w hn e).1.1 ∙ (wired.input_to n i w hn at).1.1

  once_out : (net : Net N) (n i w : ℕ) → Wired net.ends net.ports (length net.nodes) (length net.wires) → n < length net.nodes → slice_get (ports_at net n).outs i ≡ Some w
      → (j : ℕ) → slice_get (ports_at net n).outs j ≡ Some w → j ≡ i
  once_out net n i w wired hn at j e = sym (wired.output_from n j w hn e).1.1 ∙ (wired.output_from n i w hn at).1.1

module _ {N : Type 0} (port_state : N → View → Type 0) (law : N → N → View → List (List Item) → List (List Item) → Type 0) where
  -- a node that knows, took and gave the same
  pub minds_along : (x first : N) (v v' : View) (t t' g g' : List (List Item)) (acts : List Act) → v'.ins ≡ v.ins → v'.outs ≡ v.outs → t' ≡ t → g' ≡ g
      → Minds port_state law x first v t g acts → Minds port_state law x first v' t' g' acts
  minds_along x first v v' t t' g g' acts ei eo et eg m =
      let same : v' ≡ v = ap (λ (p : List _ × List _). record { ins = p.0; outs = p.1 }) (cc) in
      rw (same, et, eg) m

  -- a move at input i of node n leaves every other node as it was
  pub others_in : (net : Net N) (n i w : ℕ) (new : WireState) (b : Bool) → Wired net.ends net.ports (length net.nodes) (length net.wires)
      → n < length net.nodes → slice_get (ports_at net n).ins i ≡ Some w → w < length net.wires
      → new.wire.out ≡ (wire_at net w).wire.out → new.wire.sent ≡ (wire_at net w).wire.sent
      → (k : ℕ) → k < length net.nodes → k ≢ n → IsMinded port_state law net k [] → IsMinded port_state law (put net w new b) k []
  others_in net n i w new b wired hn at hw out sent k hk ne m x first xi fi =
      let apart = apart_in net n i w k wired hn at hk ne in
      minds_along x first _ _ _ _ _ _ []
      (read_apart inp_of net.wires w new (ports_at net k).ins apart)
      (read_same out_of net.wires w new (ports_at net k).outs hw out)
      (read_apart got_of net.wires w new (ports_at net k).ins apart)
      (read_same sent_of net.wires w new (ports_at net k).outs hw sent)
      (m x first xi fi)

  -- a move at output i
  pub others_out : (net : Net N) (n i w : ℕ) (new : WireState) (b : Bool) → Wired net.ends net.ports (length net.nodes) (length net.wires)
      → n < length net.nodes → slice_get (ports_at net n).outs i ≡ Some w → w < length net.wires
      → new.wire.inp ≡ (wire_at net w).wire.inp → new.wire.got ≡ (wire_at net w).wire.got
      → (k : ℕ) → k < length net.nodes → k ≢ n → IsMinded port_state law net k [] → IsMinded port_state law (put net w new b) k []
  others_out net n i w new b wired hn at hw inp got k hk ne m x first xi fi =
      let apart = apart_out net n i w k wired hn at hk ne in
      minds_along x first _ _ _ _ _ _ []
      (read_same inp_of net.wires w new (ports_at net k).ins hw inp)
      (read_apart out_of net.wires w new (ports_at net k).outs apart)
      (read_same got_of net.wires w new (ports_at net k).ins hw got)
      (read_apart sent_of net.wires w new (ports_at net k).outs apart)
      (m x first xi fi)

  -- and node n knows it
  pub here_in : (net : Net N) (x first : N) (n i w : ℕ) (new : WireState) (b : Bool) (acts : List Act) → Wired net.ends net.ports (length net.nodes) (length net.wires)
      → n < length net.nodes → slice_get (ports_at net n).ins i ≡ Some w → w < length net.wires
      → new.wire.out ≡ (wire_at net w).wire.out → new.wire.sent ≡ (wire_at net w).wire.sent
      → Minds port_state law x first (record { ins = set (view_of net n).ins i new.wire.inp; outs = (view_of net n).outs }) (set (took net n) i new.wire.got) (gave net n) acts
      → Minds port_state law x first (view_of (put net w new b) n) (took (put net w new b) n) (gave (put net w new b) n) acts
  here_in net x first n i w new b acts wired hn at hw out sent m =
      let once = once_in net n i w wired hn at in
      minds_along x first _ _ _ _ _ _ acts
      (read_here inp_of net.wires w new (ports_at net n).ins i hw at once)
      (read_same out_of net.wires w new (ports_at net n).outs hw out)
      (read_here got_of net.wires w new (ports_at net n).ins i hw at once)
      (read_same sent_of net.wires w new (ports_at net n).outs hw sent)
      m

  pub here_out : (net : Net N) (x first : N) (n i w : ℕ) (new : WireState) (b : Bool) (acts : List Act) → Wired net.ends net.ports (length net.nodes) (length net.wires)
      → n < length net.nodes → slice_get (ports_at net n).outs i ≡ Some w → w < length net.wires
      → new.wire.inp ≡ (wire_at net w).wire.inp → new.wire.got ≡ (wire_at net w).wire.got
      → Minds port_state law x first (record { ins = (view_of net n).ins; outs = set (view_of net n).outs i new.wire.out }) (took net n) (set (gave net n) i new.wire.sent) acts
      → Minds port_state law x first (view_of (put net w new b) n) (took (put net w new b) n) (gave (put net w new b) n) acts
  here_out net x first n i w new b acts wired hn at hw inp got m =
      let once = once_out net n i w wired hn at in
      minds_along x first _ _ _ _ _ _ acts
      (read_same inp_of net.wires w new (ports_at net n).ins hw inp)
      (read_here out_of net.wires w new (ports_at net n).outs i hw at once)
      (read_same got_of net.wires w new (ports_at net n).ins hw got)
      (read_here sent_of net.wires w new (ports_at net n).outs i hw at once)
      m
