-- A boundary stage acts between two events: the net keeps its laws.
use Rattle.std.specs.Prelude.{IsTrue, Option, if◌then◌else◌}
use Rattle.std.proofs.Common.{◌≡◌, ℕ, zero, suc, ◌+◌, ◌<◌, ◌≤◌, Bool, true, false, None, Some, List, [], ◌∷◌, ◌++◌, length, get_or, slice_get, refl, sym, ap, ◌∙◌, arith}
use Rattle.elem_core.specs.Tree.{Tree}
use Rattle.elem_core.specs.Items.{elements}
use Rattle.elem_core.specs.declared.why.Cause.{Cause}
use Rattle.elem_core.specs.declared.item.Item.{Item}
use Rattle.elem_core.specs.declared.item.Item.TheVariants as item
use Rattle.stream_io.specs.State.{SourceState, DrainState}
use Rattle.stream_model.specs.Outlook.{End}
use Rattle.stream_model.specs.Linear.{Book}
use Rattle.stage_core.specs.Held.{told}
use Rattle.port_core.specs.Decoding.{can_push, can_pull}
use Rattle.port_core.specs.Joint.{Joint, idle, asking, asked, moving, ending, closing, leaving, finished, parted, cancelled, joint_wire, IsSound, Histories, under_way}
use Rattle.port_core.specs.Wire.{JointPorts, end_item}
use Rattle.port_core.specs.View.{View, in_at, out_at, IsInOpen, IsOutOpen, output_closed, input_closed}
use Rattle.port_core.specs.declared.act.Act.{Act}
use Rattle.port_core.specs.declared.act.Act.TheVariants.{Pull, Push, Complete, FailOut, Cancel}
use Rattle.port_core.specs.declared.view.InView.{InView}
use Rattle.port_core.specs.declared.view.InView.TheVariants.{Idle, Pulled, Finished, Cancelled}
use Rattle.port_core.specs.declared.view.OutView.{OutView}
use Rattle.port_core.specs.declared.view.OutView.TheVariants as outlet
use Rattle.port_core.specs.Cell.{WireState, moved_by, queues_by}
use Rattle.port_core.specs.Marks.{wanted as asks_of}
use Rattle.port_core.specs.Reading.{no_wire, inp_of, out_of, got_of}
use Rattle.nodes.specs.OnePort.{MayDo}
use Rattle.nodes.specs.Entering.{Entering, EnteringPortState, EnteringLaw}
use Rattle.nodes.specs.Leaving.{Leaving, LeavingPortState, LeavingLaw}
use Rattle.nodes.proofs.Enters.{may_push as enters_push, may_complete as enters_complete, may_fail as enters_fail}
use Rattle.nodes.proofs.Leaves.{may_pull as leaves_pull, may_cancel as leaves_cancel}
use Rattle.nodes.specs.Nodes.{node_port_state, node_law, node_asking, node_moves, node_waits, node_gone}
use Rattle.nodes.specs.declared.node.IslandNode.{IslandNode}
use Rattle.nodes.specs.declared.node.IslandNode.TheVariants as node
use Rattle.fused_net.specs.Net.{Net, read_all, end_at, wire_at, ports_at, view_of, took, gave, put, acted}
use Rattle.fused_net.specs.Laws.{Minds, IsMinded, Settled}
use Rattle.fused_net.specs.Poking.{AtNode, TellsPoked}
use Rattle.fused_net.proofs.Reading.{read_at, get_there, some_same}
use Rattle.interpreter.specs.declared.wanted.Wanted.TheVariants as wanted
use Rattle.interpreter.specs.BoundaryPlaces.{IsEntering, IsLeaving, EntersAt, LeavesAt, ReceivedAt, wanted_by, wanted_at, ends_at, moved_at}

-- ---- one wire

asked_j : (j : Joint) (s g : List Item) → can_push (joint_wire j s g).conn ≡ true → (joint_wire j s g).out ≡ outlet.Available
asked_j idle s g e = cc
asked_j asking s g e = cc
asked_j asked s g e = refl
asked_j (moving x) s g e = cc
asked_j (ending c) s g e = cc
asked_j (closing t c) s g e = cc
asked_j (leaving true t) s g e = refl
asked_j (leaving false t) s g e = cc
asked_j (finished t c) s g e = cc
asked_j (parted t c) s g e = cc
asked_j (cancelled t c) s g e = cc

can_push_asked : (w : JointPorts) (q : Bool) → IsSound w q → can_push w.conn ≡ true → w.out ≡ outlet.Available
can_push_asked w q h e = ap (λ (v : JointPorts). v.out) h.is ∙ asked_j h.joint w.sent w.got (sym (ap (λ (v : JointPorts). can_push v.conn) h.is) ∙ e)

idle_j : (j : Joint) (s g : List Item) → can_pull (joint_wire j s g).conn ≡ true → (joint_wire j s g).inp ≡ Idle
idle_j idle s g e = refl
idle_j asking s g e = cc
idle_j asked s g e = cc
idle_j (moving x) s g e = cc
idle_j (ending c) s g e = cc
idle_j (closing t c) s g e = cc
idle_j (leaving true t) s g e = cc
idle_j (leaving false t) s g e = cc
idle_j (finished t c) s g e = cc
idle_j (parted t c) s g e = cc
idle_j (cancelled t c) s g e = cc

can_pull_idle : (w : JointPorts) (q : Bool) → IsSound w q → can_pull w.conn ≡ true → w.inp ≡ Idle
can_pull_idle w q h e = ap (λ (v : JointPorts). v.inp) h.is ∙ idle_j h.joint w.sent w.got (sym (ap (λ (v : JointPorts). can_pull v.conn) h.is) ∙ e)

wanted_push : (y : OutView) (b : Bool) → wanted_by y b ≡ wanted.Asked → b ≡ true
wanted_push y true e = refl
wanted_push outlet.Unpulled false e = cc
wanted_push outlet.Available false e = cc
wanted_push outlet.Closed false e = cc
wanted_push outlet.Cancelled false e = cc

-- ---- one node

module _ {S D L H B : Type 0} (sources : S → SourceState) (drains : D → DrainState) (book : Book) (v : View) (t g : List (List Item)) (a : Act) where
  entering_does : (x first : IslandNode S D L H B) → IsEntering first → ((e f : Entering) → EnteringPortState e v → EnteringLaw f e v t g → MayDo EnteringPortState EnteringLaw e f v t g a)
      → Minds node_port_state (node_law sources drains book) x first v t g [] → Minds node_port_state (node_law sources drains book) x first v t g (a ∷ [])
  entering_does (node.Entering x) (node.Entering f) h d m = let y = d x f m.port_state_holds m.law_holds in record { allowed = (y.allowed, tt); port_state_holds = y.port_state_holds; law_holds = y.law_holds }
  entering_does (node.Reading x) (node.Entering f) h d m = absurd m.law_holds
  entering_does (node.Making x) (node.Entering f) h d m = absurd m.law_holds
  entering_does (node.Linear x) (node.Entering f) h d m = absurd m.law_holds
  entering_does (node.State x) (node.Entering f) h d m = absurd m.law_holds
  entering_does (node.Sub x) (node.Entering f) h d m = absurd m.law_holds
  entering_does (node.FanIn x) (node.Entering f) h d m = absurd m.law_holds
  entering_does (node.FanOut x) (node.Entering f) h d m = absurd m.law_holds
  entering_does (node.Custom x) (node.Entering f) h d m = absurd m.law_holds
  entering_does (node.Writing x) (node.Entering f) h d m = absurd m.law_holds
  entering_does (node.Ignoring x) (node.Entering f) h d m = absurd m.law_holds
  entering_does (node.Leaving x) (node.Entering f) h d m = absurd m.law_holds
  entering_does x (node.Reading f) h d m = absurd h
  entering_does x (node.Making f) h d m = absurd h
  entering_does x (node.Linear f) h d m = absurd h
  entering_does x (node.State f) h d m = absurd h
  entering_does x (node.Sub f) h d m = absurd h
  entering_does x (node.FanIn f) h d m = absurd h
  entering_does x (node.FanOut f) h d m = absurd h
  entering_does x (node.Custom f) h d m = absurd h
  entering_does x (node.Writing f) h d m = absurd h
  entering_does x (node.Ignoring f) h d m = absurd h
  entering_does x (node.Leaving f) h d m = absurd h

  leaving_does : (x first : IslandNode S D L H B) → IsLeaving first → ((e f : Leaving) → x ≡ node.Leaving e → LeavingPortState e v → LeavingLaw f e v t g → MayDo LeavingPortState LeavingLaw e f v t g a)
      → Minds node_port_state (node_law sources drains book) x first v t g [] → Minds node_port_state (node_law sources drains book) x first v t g (a ∷ [])
  leaving_does (node.Leaving x) (node.Leaving f) h d m = let y = d x f refl m.port_state_holds m.law_holds in record { allowed = (y.allowed, tt); port_state_holds = y.port_state_holds; law_holds = y.law_holds }
  leaving_does (node.Reading x) (node.Leaving f) h d m = absurd m.law_holds
  leaving_does (node.Making x) (node.Leaving f) h d m = absurd m.law_holds
  leaving_does (node.Linear x) (node.Leaving f) h d m = absurd m.law_holds
  leaving_does (node.State x) (node.Leaving f) h d m = absurd m.law_holds
  leaving_does (node.Sub x) (node.Leaving f) h d m = absurd m.law_holds
  leaving_does (node.FanIn x) (node.Leaving f) h d m = absurd m.law_holds
  leaving_does (node.FanOut x) (node.Leaving f) h d m = absurd m.law_holds
  leaving_does (node.Custom x) (node.Leaving f) h d m = absurd m.law_holds
  leaving_does (node.Writing x) (node.Leaving f) h d m = absurd m.law_holds
  leaving_does (node.Ignoring x) (node.Leaving f) h d m = absurd m.law_holds
  leaving_does (node.Entering x) (node.Leaving f) h d m = absurd m.law_holds
  leaving_does x (node.Reading f) h d m = absurd h
  leaving_does x (node.Making f) h d m = absurd h
  leaving_does x (node.Linear f) h d m = absurd h
  leaving_does x (node.State f) h d m = absurd h
  leaving_does x (node.Sub f) h d m = absurd h
  leaving_does x (node.FanIn f) h d m = absurd h
  leaving_does x (node.FanOut f) h d m = absurd h
  leaving_does x (node.Custom f) h d m = absurd h
  leaving_does x (node.Writing f) h d m = absurd h
  leaving_does x (node.Ignoring f) h d m = absurd h
  leaving_does x (node.Entering f) h d m = absurd h

-- ---- the stage at connection q

one_of : (a l : List Item) (i : ℕ) → slice_get (a ∷ []) i ≡ Some l → a ≡ l
one_of a l zero e = some_same a l e
one_of a l (suc i) e = absurd cc

one_item : (a l : List Item) (t : List (List Item)) (i : ℕ) → t ≡ a ∷ [] → slice_get t i ≡ Some l → a ≡ l
one_item a l t i e at = one_of a l i (ap (λ (z : List (List Item)). slice_get z i) (sym e) ∙ at)

elements-append : (xs ys : List Item) → elements (xs ++ ys) ≡ elements xs + elements ys
elements-append [] ys = omega arith
elements-append (item.Elem e ∷ xs) ys = let r = elements-append xs ys in omega (arith, r)
elements-append (item.Ended ∷ xs) ys = elements-append xs ys
elements-append (item.Failed c ∷ xs) ys = elements-append xs ys

got_there : (wires : List WireState) (ws : List ℕ) (i w : ℕ) → slice_get ws i ≡ Some w → slice_get (read_all got_of wires ws) i ≡ Some (get_or wires w no_wire).wire.got
got_there wires [] i w e = absurd cc
got_there wires (x ∷ ws) zero w e = ap (λ (k : ℕ). Some (get_or wires k no_wire).wire.got) (some_same x w e)
got_there wires (x ∷ ws) (suc i) w e = got_there wires ws i w e

-- no more came than was sent
few_j : (j : Joint) (s g : List Item) → Histories j s g → elements g ≤ elements s
few_j idle s g e = rw e (omega arith)
few_j asking s g e = rw e (omega arith)
few_j asked s g e = rw e (omega arith)
few_j (moving x) s g e = rw e (let k = elements-append g (item.Elem x ∷ []) in omega (arith, k))
few_j (ending c) s g e = rw e (let k = elements-append g (end_item c ∷ []) in omega (arith, k))
few_j (closing t c) s g e = rw e (let k = elements-append g (under_way t ++ end_item c ∷ []) in omega (arith, k))
few_j (leaving a t) s g e = rw e.1 (let k = elements-append g e.0 in omega (arith, k))
few_j (finished t c) s g e = rw e (omega arith)
few_j (parted t c) s g e = rw e.1 (let k = elements-append g e.0 in omega (arith, k))
few_j (cancelled t c) s g e = rw e.1 (let k = elements-append g e.0 in omega (arith, k))

asks_least : (b : Bool) (n : ℕ) → n ≤ (if b then n + 1 else n)
asks_least true n = omega arith
asks_least false n = omega arith

pub few_came : (c : WireState) (q : Bool) → IsSound c.wire q → elements c.wire.got ≤ asks_of c
few_came c q s = let a = few_j s.joint c.wire.sent c.wire.got s.histories in let b = asks_least c.asked (elements c.wire.sent) in omega (arith, a, b)

module _ {S D L H B : Type 0} (sources : S → SourceState) (drains : D → DrainState) (book : Book) (net : Net (IslandNode S D L H B)) (s : Settled node_port_state (node_law sources drains book) node_asking node_moves net) (q : ℕ) (h : q < length net.wires) where
  abbrev from : ℕ
  from = (end_at net.ends q).from

  abbrev to : ℕ
  to = (end_at net.ends q).to

  out_is : out_at (view_of net from) (end_at net.ends q).output ≡ (wire_at net q).wire.out
  out_is = read_at out_of net.wires (ports_at net from).outs (end_at net.ends q).output q outlet.Closed (s.wired.from_output q h)

  inp_is : in_at (view_of net to) (end_at net.ends q).input ≡ (wire_at net q).wire.inp
  inp_is = read_at inp_of net.wires (ports_at net to).ins (end_at net.ends q).input q Cancelled (s.wired.to_input q h)

  pub may_push : (t : Tree) → EntersAt net q → wanted_at (wire_at net q) ≡ wanted.Asked → IsMinded node_port_state (node_law sources drains book) net from (Push (end_at net.ends q).output t ∷ [])
  may_push t stage e x first xi fi =
      let p : can_push (wire_at net q).wire.conn ≡ true = wanted_push (wire_at net q).wire.out _ e in
      let y : (wire_at net q).wire.out ≡ outlet.Available = can_push_asked (wire_at net q).wire _ (s.sound q h) p in
      entering_does sources drains book (view_of net from) (took net from) (gave net from) _ x first (stage first fi)
      (λ e f r law. enters_push f e (view_of net from) (took net from) (gave net from) r law (end_at net.ends q).output t (out_is ∙ y))
      (s.minded from (s.wired.from_within q h) x first xi fi)

  open_out : (y : OutView) → output_closed y ≡ false → IsOutOpen y
  open_out outlet.Unpulled e = tt
  open_out outlet.Available e = tt
  open_out outlet.Closed e = cc
  open_out outlet.Cancelled e = cc

  pub may_end : (c : Option Cause) → EntersAt net q → output_closed (wire_at net q).wire.out ≡ false → IsMinded node_port_state (node_law sources drains book) net from (ends_at (end_at net.ends q).output c ∷ [])
  may_end None stage e x first xi fi =
      entering_does sources drains book (view_of net from) (took net from) (gave net from) _ x first (stage first fi)
      (λ z f r law. enters_complete f z (view_of net from) (took net from) (gave net from) r law (end_at net.ends q).output (rw out_is (open_out _ e)))
      (s.minded from (s.wired.from_within q h) x first xi fi)
  may_end (Some c) stage e x first xi fi =
      entering_does sources drains book (view_of net from) (took net from) (gave net from) _ x first (stage first fi)
      (λ z f r law. enters_fail f z (view_of net from) (took net from) (gave net from) r law (end_at net.ends q).output c (rw out_is (open_out _ e)))
      (s.minded from (s.wired.from_within q h) x first xi fi)

  pub may_pull : LeavesAt net q → AtNode net to (λ x. node_waits x ≡ []) → can_pull (wire_at net q).wire.conn ≡ true → IsMinded node_port_state (node_law sources drains book) net to (Pull (end_at net.ends q).input ∷ [])
  may_pull stage clear p x first xi fi =
      let y : (wire_at net q).wire.inp ≡ Idle = can_pull_idle (wire_at net q).wire _ (s.sound q h) p in
      leaving_does sources drains book (view_of net to) (took net to) (gave net to) _ x first (stage first fi)
      (λ e f at r law. leaves_pull f e (view_of net to) (took net to) (gave net to) r law (end_at net.ends q).input (sym (ap node_waits at) ∙ clear x xi) (inp_is ∙ y))
      (s.minded to (s.wired.to_within q h) x first xi fi)

  open_in : (y : InView) → input_closed y ≡ false → IsInOpen y
  open_in Idle e = tt
  open_in Pulled e = tt
  open_in Finished e = cc
  open_in Cancelled e = cc

  pub may_cancel : LeavesAt net q → input_closed (wire_at net q).wire.inp ≡ false → IsMinded node_port_state (node_law sources drains book) net to (Cancel (end_at net.ends q).input ∷ [])
  may_cancel stage e x first xi fi =
      leaving_does sources drains book (view_of net to) (took net to) (gave net to) _ x first (stage first fi)
      (λ z f at r law. leaves_cancel f z (view_of net to) (took net to) (gave net to) r law (end_at net.ends q).input (rw inp_is (open_in _ e)))
      (s.minded to (s.wired.to_within q h) x first xi fi)

  exit_got : (x first : IslandNode S D L H B) → IsLeaving first → (v : View) (t g : List (List Item)) (i : ℕ) (l : List Item) → slice_get t i ≡ Some l → Minds node_port_state (node_law sources drains book) x first v t g [] → l ≡ node_gone x ++ node_waits x
  exit_got (node.Leaving x) (node.Leaving f) k v t g i l at m = sym (one_item _ l t i m.law_holds.took_is at) ∙ m.law_holds.parts
  exit_got (node.Reading x) (node.Leaving f) k v t g i l at m = absurd m.law_holds
  exit_got (node.Making x) (node.Leaving f) k v t g i l at m = absurd m.law_holds
  exit_got (node.Linear x) (node.Leaving f) k v t g i l at m = absurd m.law_holds
  exit_got (node.State x) (node.Leaving f) k v t g i l at m = absurd m.law_holds
  exit_got (node.Sub x) (node.Leaving f) k v t g i l at m = absurd m.law_holds
  exit_got (node.FanIn x) (node.Leaving f) k v t g i l at m = absurd m.law_holds
  exit_got (node.FanOut x) (node.Leaving f) k v t g i l at m = absurd m.law_holds
  exit_got (node.Custom x) (node.Leaving f) k v t g i l at m = absurd m.law_holds
  exit_got (node.Writing x) (node.Leaving f) k v t g i l at m = absurd m.law_holds
  exit_got (node.Ignoring x) (node.Leaving f) k v t g i l at m = absurd m.law_holds
  exit_got (node.Entering x) (node.Leaving f) k v t g i l at m = absurd m.law_holds
  exit_got x (node.Reading f) k v t g i l at m = absurd k
  exit_got x (node.Making f) k v t g i l at m = absurd k
  exit_got x (node.Linear f) k v t g i l at m = absurd k
  exit_got x (node.State f) k v t g i l at m = absurd k
  exit_got x (node.Sub f) k v t g i l at m = absurd k
  exit_got x (node.FanIn f) k v t g i l at m = absurd k
  exit_got x (node.FanOut f) k v t g i l at m = absurd k
  exit_got x (node.Custom f) k v t g i l at m = absurd k
  exit_got x (node.Writing f) k v t g i l at m = absurd k
  exit_got x (node.Ignoring f) k v t g i l at m = absurd k
  exit_got x (node.Entering f) k v t g i l at m = absurd k

  exit_told : (x first : IslandNode S D L H B) → IsLeaving first → (v : View) (t g : List (List Item)) (i : ℕ) (l : List Item) → slice_get t i ≡ Some l → Minds node_port_state (node_law sources drains book) x first v t g [] → (list : List Tree) × ((end : End) × (l ≡ told list end))
  exit_told (node.Leaving x) (node.Leaving f) k v t g i l at m = (m.law_holds.list, (m.law_holds.end, sym (one_item _ l t i m.law_holds.took_is at)))
  exit_told (node.Reading x) (node.Leaving f) k v t g i l at m = absurd m.law_holds
  exit_told (node.Making x) (node.Leaving f) k v t g i l at m = absurd m.law_holds
  exit_told (node.Linear x) (node.Leaving f) k v t g i l at m = absurd m.law_holds
  exit_told (node.State x) (node.Leaving f) k v t g i l at m = absurd m.law_holds
  exit_told (node.Sub x) (node.Leaving f) k v t g i l at m = absurd m.law_holds
  exit_told (node.FanIn x) (node.Leaving f) k v t g i l at m = absurd m.law_holds
  exit_told (node.FanOut x) (node.Leaving f) k v t g i l at m = absurd m.law_holds
  exit_told (node.Custom x) (node.Leaving f) k v t g i l at m = absurd m.law_holds
  exit_told (node.Writing x) (node.Leaving f) k v t g i l at m = absurd m.law_holds
  exit_told (node.Ignoring x) (node.Leaving f) k v t g i l at m = absurd m.law_holds
  exit_told (node.Entering x) (node.Leaving f) k v t g i l at m = absurd m.law_holds
  exit_told x (node.Reading f) k v t g i l at m = absurd k
  exit_told x (node.Making f) k v t g i l at m = absurd k
  exit_told x (node.Linear f) k v t g i l at m = absurd k
  exit_told x (node.State f) k v t g i l at m = absurd k
  exit_told x (node.Sub f) k v t g i l at m = absurd k
  exit_told x (node.FanIn f) k v t g i l at m = absurd k
  exit_told x (node.FanOut f) k v t g i l at m = absurd k
  exit_told x (node.Custom f) k v t g i l at m = absurd k
  exit_told x (node.Writing f) k v t g i l at m = absurd k
  exit_told x (node.Ignoring f) k v t g i l at m = absurd k
  exit_told x (node.Entering f) k v t g i l at m = absurd k

  pub exit_there : (x : IslandNode S D L H B) × (slice_get net.nodes to ≡ Some x)
  exit_there = get_there net.nodes to (s.wired.to_within q h)

  pub came_told : LeavesAt net q → (list : List Tree) × ((end : End) × ((wire_at net q).wire.got ≡ told list end))
  came_told stage =
      let first = get_there net.firsts to (rw s.each_first (s.wired.to_within q h)) in
      exit_told exit_there.0 first.0 (stage first.0 first.1) (view_of net to) (took net to) (gave net to) (end_at net.ends q).input (wire_at net q).wire.got
      (got_there net.wires (ports_at net to).ins (end_at net.ends q).input q (s.wired.to_input q h))
      (s.minded to (s.wired.to_within q h) exit_there.0 first.0 exit_there.1 first.1)

  pub came_there : LeavesAt net q → AtNode net to (λ x. (wire_at net q).wire.got ≡ node_gone x ++ node_waits x)
  came_there stage x xi =
      let first = get_there net.firsts to (rw s.each_first (s.wired.to_within q h)) in
      exit_got x first.0 (stage first.0 first.1) (view_of net to) (took net to) (gave net to) (end_at net.ends q).input (wire_at net q).wire.got
      (got_there net.wires (ports_at net to).ins (end_at net.ends q).input q (s.wired.to_input q h))
      (s.minded to (s.wired.to_within q h) x first.0 xi first.1)

  -- the wire of its port is this one
  out_wire : get_or (ports_at net from).outs (end_at net.ends q).output 0 ≡ q
  out_wire = get_of (ports_at net from).outs (end_at net.ends q).output q (s.wired.from_output q h)
    where
      get_of : (ws : List ℕ) (i w : ℕ) → slice_get ws i ≡ Some w → get_or ws i 0 ≡ w
      get_of [] i w e = absurd cc
      get_of (x ∷ ws) zero w e = cc
      get_of (x ∷ ws) (suc i) w e = get_of ws i w e

  in_wire : get_or (ports_at net to).ins (end_at net.ends q).input 0 ≡ q
  in_wire = get_of (ports_at net to).ins (end_at net.ends q).input q (s.wired.to_input q h)
    where
      get_of : (ws : List ℕ) (i w : ℕ) → slice_get ws i ≡ Some w → get_or ws i 0 ≡ w
      get_of [] i w e = absurd cc
      get_of (x ∷ ws) zero w e = cc
      get_of (x ∷ ws) (suc i) w e = get_of ws i w e

  abbrev moved : Act → Net (IslandNode S D L H B)
  moved a = moved_at net q a

  moved_to : (a : Act) (w : ℕ) → w ≡ q → put net w (moved_by a (wire_at net w)) (queues_by a (wire_at net w).wire.conn) ≡ moved a
  moved_to a w e = rw e refl

  pub pushed_is : (t : Tree) → acted net from (Push (end_at net.ends q).output t) ≡ moved (Push 0 t)
  pushed_is t = moved_to (Push 0 t) _ out_wire

  pub ended_is : (c : Option Cause) → acted net from (ends_at (end_at net.ends q).output c) ≡ moved (ends_at 0 c)
  ended_is None = moved_to (Complete 0) _ out_wire
  ended_is (Some c) = moved_to (FailOut 0 c) _ out_wire

  pub pulled_is : acted net to (Pull (end_at net.ends q).input) ≡ moved (Pull 0)
  pulled_is = moved_to (Pull 0) _ in_wire

  pub cancelled_is : acted net to (Cancel (end_at net.ends q).input) ≡ moved (Cancel 0)
  cancelled_is = moved_to (Cancel 0) _ in_wire

pub clear_both : {S D L H B : Type 0} (net : Net (IslandNode S D L H B)) (n : ℕ) (r : Bool) (P : Type 0) → n < length net.nodes → P → AtNode net n (λ x. (IsTrue r → node_waits x ≡ []) × (node_waits x ≡ [] → IsTrue r))
    → (IsTrue r → P × AtNode net n (λ x. node_waits x ≡ [])) × (P × AtNode net n (λ x. node_waits x ≡ []) → IsTrue r)
clear_both net n r P h p at =
    let there = get_there net.nodes n h in
    (λ t. (p, λ x xi. (at x xi).0 t), λ b. (at there.0 there.1).1 (b.1 there.0 there.1))

pub clear_one : {S D L H B : Type 0} (net : Net (IslandNode S D L H B)) (n : ℕ) (r : Bool) → n < length net.nodes → AtNode net n (λ x. (IsTrue r → node_waits x ≡ []) × (node_waits x ≡ [] → IsTrue r))
    → (IsTrue r → AtNode net n (λ x. node_waits x ≡ [])) × (AtNode net n (λ x. node_waits x ≡ []) → IsTrue r)
clear_one net n r h at =
    let there = get_there net.nodes n h in
    (λ t x xi. (at x xi).0 t, λ b. (at there.0 there.1).1 (b there.0 there.1))

-- the stage where a lane goes out has nothing to tell when it asks
asking_free : {S D L H B : Type 0} (sources : S → SourceState) (drains : D → DrainState) (book : Book) (x first : IslandNode S D L H B) (v w : View) (t g : List (List Item)) → IsLeaving first → node_law sources drains book first x v t g → node_asking x w
asking_free sources drains book (node.Leaving x) (node.Leaving f) v w t g h law = tt
asking_free sources drains book (node.Reading x) (node.Leaving f) v w t g h law = absurd law
asking_free sources drains book (node.Making x) (node.Leaving f) v w t g h law = absurd law
asking_free sources drains book (node.Linear x) (node.Leaving f) v w t g h law = absurd law
asking_free sources drains book (node.State x) (node.Leaving f) v w t g h law = absurd law
asking_free sources drains book (node.Sub x) (node.Leaving f) v w t g h law = absurd law
asking_free sources drains book (node.FanIn x) (node.Leaving f) v w t g h law = absurd law
asking_free sources drains book (node.FanOut x) (node.Leaving f) v w t g h law = absurd law
asking_free sources drains book (node.Custom x) (node.Leaving f) v w t g h law = absurd law
asking_free sources drains book (node.Writing x) (node.Leaving f) v w t g h law = absurd law
asking_free sources drains book (node.Ignoring x) (node.Leaving f) v w t g h law = absurd law
asking_free sources drains book (node.Entering x) (node.Leaving f) v w t g h law = absurd law
asking_free sources drains book x (node.Reading f) v w t g h law = absurd h
asking_free sources drains book x (node.Making f) v w t g h law = absurd h
asking_free sources drains book x (node.Linear f) v w t g h law = absurd h
asking_free sources drains book x (node.State f) v w t g h law = absurd h
asking_free sources drains book x (node.Sub f) v w t g h law = absurd h
asking_free sources drains book x (node.FanIn f) v w t g h law = absurd h
asking_free sources drains book x (node.FanOut f) v w t g h law = absurd h
asking_free sources drains book x (node.Custom f) v w t g h law = absurd h
asking_free sources drains book x (node.Writing f) v w t g h law = absurd h
asking_free sources drains book x (node.Ignoring f) v w t g h law = absurd h
asking_free sources drains book x (node.Entering f) v w t g h law = absurd h

-- to end an output asks nothing
pub end_tells : {S D L H B : Type 0} (net : Net (IslandNode S D L H B)) (n j : ℕ) (cause : Option Cause) → TellsPoked node_asking net n (ends_at j cause)
end_tells net n j None p = absurd p
end_tells net n j (Some c) p = absurd p

pub leaving_tells : {S D L H B : Type 0} (sources : S → SourceState) (drains : D → DrainState) (book : Book) (net : Net (IslandNode S D L H B)) → Settled node_port_state (node_law sources drains book) node_asking node_moves net → (q : ℕ) → q < length net.wires → LeavesAt net q → (a : Act)
    → TellsPoked node_asking net (end_at net.ends q).to a
leaving_tells sources drains book net s q h stage a p x xi =
    let to = (end_at net.ends q).to in
    let first = get_there net.firsts to (rw s.each_first (s.wired.to_within q h)) in
    asking_free sources drains book x first.0 (view_of net to) _ (took net to) (gave net to) (stage first.0 first.1) (s.minded to (s.wired.to_within q h) x first.0 xi first.1).law_holds

pub came_at : {S D L H B : Type 0} (sources : S → SourceState) (drains : D → DrainState) (book : Book) (net : Net (IslandNode S D L H B)) (q : ℕ) → Settled node_port_state (node_law sources drains book) node_asking node_moves net → q < length net.wires → LeavesAt net q → ReceivedAt net q
came_at sources drains book net q s h l = record {
  got = came_there sources drains book net s q h l;
  few = few_came _ _ (s.sound q h);
  list = (came_told sources drains book net s q h l).0;
  end = (came_told sources drains book net s q h l).1.0;
  told_is = (came_told sources drains book net s q h l).1.1;
}
