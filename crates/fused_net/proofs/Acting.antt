-- A node's action keeps the graph's laws, and may be done where the node's view allows it.
use Rattle.std.proofs.Common.{◌≡◌, ◌≢◌, inl, inr, ℕ, ◌<◌, ◌≤◌, Bool, None, Some, List, [], ◌∷◌, ◌++◌, length, reverse, get_or, slice_get, refl, sym, ap, ◌∙◌, arith}
use Rattle.std.proofs.Math.ListN.{set}
use Rattle.std.proofs.lemmas.List.{length-set, reverse-append, reverse-reverse, set-get_or}
use Rattle.std.proofs.lemmas.Option.{slice_get_within}
use Rattle.elem_core.specs.declared.item.Item.{Item}
use Rattle.elem_core.specs.declared.count.TheConstants.{MOST_COUNT}
use Rattle.port_core.specs.Joint.{IsSound, LeavesSound}
use Rattle.port_core.specs.Wire.{JointPorts}
use Rattle.port_core.specs.View.{View, IsInOpen, IsOutOpen, ActAllowed}
use Rattle.port_core.specs.View as view
use Rattle.port_core.specs.Asking.{PullsStand}
use Rattle.port_core.specs.declared.act.Act.{Act}
use Rattle.port_core.specs.declared.act.Act.TheVariants.{Pull, Push, Complete, FailOut, Cancel}
use Rattle.port_core.specs.declared.view.InView.{InView}
use Rattle.port_core.specs.declared.view.OutView.{OutView}
use Rattle.port_core.specs.declared.view.InView.TheVariants.{Idle, Cancelled}
use Rattle.port_core.specs.declared.view.OutView.TheVariants.{Available, Closed}
use Rattle.port_core.proofs.Wires.{pull_kept, push_kept, close_kept, cancel_kept}
use Rattle.stage_core.specs.Histories.{given_by}
use Rattle.port_core.specs.Cell.{WireState, moved_by, queues_by}
use Rattle.port_core.specs.Marks.{IsMarked}
use Rattle.port_core.proofs.Marking.{pull_marked, push_marked, close_marked, cancel_marked}
use Rattle.port_core.specs.Counts.{asks}
use Rattle.fused_net.specs.PortLists.{PortLists}
use Rattle.port_core.specs.Reading.{no_wire, inp_of, out_of, got_of, sent_of}
use Rattle.fused_net.specs.Net.{Net, read_all, wire_at, ports_at, view_of, took, gave, wire_for, HasPort, acted, acted_all, Able}
use Rattle.fused_net.specs.Laws.{AnyRow, AnyLaw, Wired, Minds, IsMinded, AllAsked, AllMoments, Settled, Busy}
use Rattle.fused_net.specs.Costs.{all_asks}
use Rattle.fused_net.proofs.Reading.{same_or_not, read_at, port_there, get_there}
use Rattle.fused_net.proofs.Sums.{sum_has}
use Rattle.fused_net.proofs.Nets.{sound_put, marked_put, others_in, others_out, here_in, here_out}

-- where an action may be done at a wire
abbrev pub Fits : Act → JointPorts → Type 0
Fits (Pull i) w = w.inp ≡ Idle
Fits (Push j e) w = w.out ≡ Available
Fits (Complete j) w = IsOutOpen w.out
Fits (FailOut j c) w = IsOutOpen w.out
Fits (Cancel i) w = IsInOpen w.inp

-- the port of an action has this wire
abbrev pub PortAt : Act → PortLists → ℕ → Type 0
PortAt (Pull i) p w = slice_get p.ins i ≡ Some w
PortAt (Push j e) p w = slice_get p.outs j ≡ Some w
PortAt (Complete j) p w = slice_get p.outs j ≡ Some w
PortAt (FailOut j c) p w = slice_get p.outs j ≡ Some w
PortAt (Cancel i) p w = slice_get p.ins i ≡ Some w

has_port : (a : Act) (p : PortLists) (w : ℕ) → PortAt a p w → HasPort a p
has_port (Pull i) p w h = slice_get_within p.ins i w h
has_port (Push j e) p w h = slice_get_within p.outs j w h
has_port (Complete j) p w h = slice_get_within p.outs j w h
has_port (FailOut j c) p w h = slice_get_within p.outs j w h
has_port (Cancel i) p w h = slice_get_within p.ins i w h

-- a move at a wire
pub move_kept : (a : Act) (c : WireState) (q : Bool) → IsSound c.wire q → Fits a c.wire → LeavesSound (moved_by a c).wire q (queues_by a c.wire.conn)
move_kept (Pull i) c q h e = pull_kept c.wire q h e
move_kept (Push j x) c q h e = push_kept x c.wire q h e
move_kept (Complete j) c q h e = close_kept None c.wire q h e
move_kept (FailOut j d) c q h e = close_kept (Some d) c.wire q h e
move_kept (Cancel i) c q h e = cancel_kept c.wire q h e

pub move_marked : (a : Act) (c : WireState) (q : Bool) → IsSound c.wire q → Fits a c.wire → IsMarked c → IsMarked (moved_by a c)
move_marked (Pull i) c q h e m = pull_marked c.wire c.asked m
move_marked (Push j x) c q h e m = push_marked x c.wire q h e
move_marked (Complete j) c q h e m = close_marked None c.wire c.asked m
move_marked (FailOut j d) c q h e m = close_marked (Some d) c.wire c.asked m
move_marked (Cancel i) c q h e m = cancel_marked c.wire c.asked m

pub stands_next : (a : Act) (acts : List Act) → PullsStand (a ∷ acts) → PullsStand acts
stands_next (Pull i) acts h = h.1
stands_next (Push j x) acts h = h
stands_next (Complete j) acts h = h
stands_next (FailOut j c) acts h = h
stands_next (Cancel i) acts h = h

-- of actions that were turned round the last comes first, and turned again they stand as before
pub turned : (old new : List Act) (a : Act) → old ≡ new ++ a ∷ [] → reverse old ≡ a ∷ reverse new
turned old new a e = ap reverse e ∙ reverse-append new (a ∷ [])

-- also where one stands behind all of them
pub turned_before : (old new : List Act) (a last : Act) → old ≡ new ++ a ∷ [] → reverse old ++ last ∷ [] ≡ a ∷ (reverse new ++ last ∷ [])
turned_before old new a last e = ap (λ (l : List Act). l ++ last ∷ []) (turned old new a e)

pub turned_none : (acts : List Act) (last : Act) → acts ≡ [] → reverse acts ++ last ∷ [] ≡ last ∷ []
turned_none acts last e = ap (λ (l : List Act). reverse l ++ last ∷ []) e

-- two actions, of which the last was taken out first
pub two_of : (acts rest : List Act) (first last : Act) → acts ≡ rest ++ last ∷ [] → rest ≡ first ∷ [] → acts ≡ first ∷ last ∷ []
two_of acts rest first last e f = e ∙ ap (λ (l : List Act). l ++ last ∷ []) f

pub turned_back : (old new : List Act) → new ≡ reverse old → reverse new ≡ old
turned_back old new e = ap reverse e ∙ reverse-reverse old

-- what is read at a port and written there again
pub keep_at : {X : Type 0} (f : WireState → X) (wires : List WireState) (ws : List ℕ) (i w : ℕ) (d : X) → slice_get ws i ≡ Some w → set (read_all f wires ws) i (f (get_or wires w no_wire)) ≡ read_all f wires ws
keep_at f wires ws i w d at = ap (λ x. set (read_all f wires ws) i x) (sym (read_at f wires ws i w d at)) ∙ set-get_or (read_all f wires ws) i d

module _ {N : Type 0} where
  pub fits : (net : Net N) (n : ℕ) (a : Act) → ActAllowed (view_of net n) a
      → PortAt a (ports_at net n) (wire_for a (ports_at net n)) × Fits a (wire_at net (wire_for a (ports_at net n))).wire
  fits net n (Pull i) h = port_there (λ (x : InView). x ≡ Idle) inp_of net.wires (ports_at net n).ins i Cancelled (λ e. cc) h
  fits net n (Push j e) h = port_there (λ (y : OutView). y ≡ Available) out_of net.wires (ports_at net n).outs j Closed (λ e. cc) h
  fits net n (Complete j) h = port_there IsOutOpen out_of net.wires (ports_at net n).outs j Closed (λ e. e) h
  fits net n (FailOut j c) h = port_there IsOutOpen out_of net.wires (ports_at net n).outs j Closed (λ e. e) h
  fits net n (Cancel i) h = port_there IsInOpen inp_of net.wires (ports_at net n).ins i Cancelled (λ e. e) h

  pub port_within : (net : Net N) (n : ℕ) (a : Act) (w : ℕ) → Wired net.ends net.ports (length net.nodes) (length net.wires) → n < length net.nodes → PortAt a (ports_at net n) w → w < length net.wires
  port_within net n (Pull i) w wired hn h = (wired.input_to n i w hn h).0
  port_within net n (Push j e) w wired hn h = (wired.output_from n j w hn h).0
  port_within net n (Complete j) w wired hn h = (wired.output_from n j w hn h).0
  port_within net n (FailOut j c) w wired hn h = (wired.output_from n j w hn h).0
  port_within net n (Cancel i) w wired hn h = (wired.input_to n i w hn h).0

-- whether its wire is queued then
abbrev pub queued : {N : Type 0} → Net N → ℕ → Act → Bool
queued net n a = queues_by a (wire_at net (wire_for a (ports_at net n))).wire.conn

module _ {N : Type 0} (port_state : N → View → Type 0) (law : N → N → View → List (List Item) → List (List Item) → Type 0) where
  -- the first action of a node that is busy
  pub act_allowed : (net : Net N) (n : ℕ) (a : Act) (acts : List Act) (x first : N) → Busy port_state law net n (a ∷ acts) → slice_get net.nodes n ≡ Some x → slice_get net.firsts n ≡ Some first → ActAllowed (view_of net n) a
  act_allowed net n a acts x first busy xi fi = (busy.here x first xi fi).allowed.0

  -- an action is done
  minds_next : (x first : N) (v : View) (t g : List (List Item)) (a : Act) (acts : List Act) → Minds port_state law x first v t g (a ∷ acts) → Minds port_state law x first (view.acted v a) t (given_by a g) acts
  minds_next x first v t g a acts m = record { allowed = m.allowed.1; port_state_holds = m.port_state_holds; law_holds = m.law_holds }

  -- node n by itself
  here_acted : (net : Net N) (n : ℕ) (a : Act) (acts : List Act) (x first : N) → Wired net.ends net.ports (length net.nodes) (length net.wires) → n < length net.nodes
      → PortAt a (ports_at net n) (wire_for a (ports_at net n)) → wire_for a (ports_at net n) < length net.wires
      → Minds port_state law x first (view_of net n) (took net n) (gave net n) (a ∷ acts)
      → Minds port_state law x first (view_of (acted net n a) n) (took (acted net n a) n) (gave (acted net n a) n) acts
  here_acted net n (Pull i) acts x first wired hn at hw m =
      here_in port_state law net x first n i _ _ (queued net n (Pull i)) acts wired hn at hw refl refl
      (rw (keep_at got_of net.wires (ports_at net n).ins i _ [] at) (minds_next x first _ _ _ (Pull i) acts m))
  here_acted net n (Push j e) acts x first wired hn at hw m =
      here_out port_state law net x first n j _ _ (queued net n (Push j e)) acts wired hn at hw refl refl
      (rw (read_at sent_of net.wires (ports_at net n).outs j _ [] at) at (minds_next x first _ _ _ (Push j e) acts m))
  here_acted net n (Complete j) acts x first wired hn at hw m =
      here_out port_state law net x first n j _ _ (queued net n (Complete j)) acts wired hn at hw refl refl
      (rw (read_at sent_of net.wires (ports_at net n).outs j _ [] at) at (minds_next x first _ _ _ (Complete j) acts m))
  here_acted net n (FailOut j c) acts x first wired hn at hw m =
      here_out port_state law net x first n j _ _ (queued net n (FailOut j c)) acts wired hn at hw refl refl
      (rw (read_at sent_of net.wires (ports_at net n).outs j _ [] at) at (minds_next x first _ _ _ (FailOut j c) acts m))
  here_acted net n (Cancel i) acts x first wired hn at hw m =
      here_in port_state law net x first n i _ _ (queued net n (Cancel i)) acts wired hn at hw refl refl
      (rw (keep_at got_of net.wires (ports_at net n).ins i _ [] at) (minds_next x first _ _ _ (Cancel i) acts m))

  others_acted : (net : Net N) (n : ℕ) (a : Act) → Wired net.ends net.ports (length net.nodes) (length net.wires) → n < length net.nodes
      → PortAt a (ports_at net n) (wire_for a (ports_at net n)) → wire_for a (ports_at net n) < length net.wires
      → (k : ℕ) → k < length net.nodes → k ≢ n → IsMinded port_state law net k [] → IsMinded port_state law (acted net n a) k []
  others_acted net n (Pull i) wired hn at hw = others_in port_state law net n i _ _ (queued net n (Pull i)) wired hn at hw refl refl
  others_acted net n (Push j e) wired hn at hw = others_out port_state law net n j _ _ (queued net n (Push j e)) wired hn at hw refl refl
  others_acted net n (Complete j) wired hn at hw = others_out port_state law net n j _ _ (queued net n (Complete j)) wired hn at hw refl refl
  others_acted net n (FailOut j c) wired hn at hw = others_out port_state law net n j _ _ (queued net n (FailOut j c)) wired hn at hw refl refl
  others_acted net n (Cancel i) wired hn at hw = others_in port_state law net n i _ _ (queued net n (Cancel i)) wired hn at hw refl refl

  pub acted_busy : (net : Net N) (n : ℕ) (a : Act) (acts : List Act) → Busy port_state law net n (a ∷ acts) → Busy port_state law (acted net n a) n acts
  acted_busy net n a acts busy =
      let x = get_there net.nodes n busy.within in
      let first = get_there net.firsts n (rw busy.each_first busy.within) in
      let f = fits net n a (act_allowed net n a acts x.0 first.0 busy x.1 first.1) in
      let within : wire_for a (ports_at net n) < length net.wires = port_within net n a _ busy.wired busy.within f.0 in
      record {
        wired = rw length-set busy.wired;
        each_first = busy.each_first;
        sound = sound_put net (wire_for a (ports_at net n)) _ _ within (λ u hu _. busy.sound u hu) (move_kept a _ _ (busy.sound _ within) f.1).sound;
        marked = marked_put net (wire_for a (ports_at net n)) (moved_by a (wire_at net (wire_for a (ports_at net n)))) (queued net n a) within (λ u hu _. busy.marked u hu) (move_marked a _ _ (busy.sound _ within) f.1 (busy.marked _ within));
        within = busy.within;
        stands = stands_next a acts busy.stands;
        here = λ y fy yi fi. here_acted net n a acts y fy busy.wired busy.within f.0 within (busy.here y fy yi fi);
        others = λ k hk ne. others_acted net n a busy.wired busy.within f.0 within k hk ne (busy.others k hk ne);
      }

  pub able : (net : Net N) (n : ℕ) (a : Act) (acts : List Act) → Busy port_state law net n (a ∷ acts) → all_asks net ≤ MOST_COUNT → Able net n a
  able net n a acts busy few =
      let x = get_there net.nodes n busy.within in
      let first = get_there net.firsts n (rw busy.each_first busy.within) in
      let f = fits net n a (act_allowed net n a acts x.0 first.0 busy x.1 first.1) in
      let within : wire_for a (ports_at net n) < length net.wires = port_within net n a _ busy.wired busy.within f.0 in
      let some : asks (wire_at net (wire_for a (ports_at net n))).wire ≤ all_asks net = sum_has (λ w. asks (wire_at net w).wire) (length net.wires) (wire_for a (ports_at net n)) within in
      record {
        node = rw busy.wired.each_node busy.within;
        port = has_port a _ _ f.0;
        wire = within;
        free = (move_kept a (wire_at net (wire_for a (ports_at net n))) _ (busy.sound _ within) f.1).free;
        count = omega (arith, some, few);
      }

  -- nothing is left to do
  pub settled : (asking : N → View → Type 0) (moves : N → List ℕ) (net : Net N) (n : ℕ) → Busy port_state law net n [] → AllAsked port_state law asking moves net → AllMoments port_state law asking moves net → Settled port_state law asking moves net
  settled asking moves net n busy asked moments = record {
    wired = busy.wired;
    each_first = busy.each_first;
    sound = busy.sound;
    marked = busy.marked;
    minded = λ k hk. elim (same_or_not k n) [ inl same ↦ rw same busy.here | inr other ↦ busy.others k hk other ];
    asked = asked;
    moments = moments;
  }

  -- in a loop over the actions
  pub next_busy : (net on : Net N) (n : ℕ) (a : Act) (old new : List Act) → old ≡ a ∷ new → on ≡ acted net n a → Busy port_state law net n old → Busy port_state law on n new
  next_busy net on n a old new e is busy = let at : Busy port_state law net n (a ∷ new) = rw e at busy in rw is (acted_busy net n a new at)

  pub next_same : (net on to : Net N) (n : ℕ) (a : Act) (old new : List Act) → old ≡ a ∷ new → on ≡ acted net n a → acted_all net n old ≡ to → acted_all on n new ≡ to
  next_same net on to n a old new e is same = rw is (rw e at same)

  pub next_able : (net : Net N) (n : ℕ) (a : Act) (old new : List Act) → old ≡ a ∷ new → Busy port_state law net n old → all_asks net ≤ MOST_COUNT → Able net n a
  next_able net n a old new e busy few = let at : Busy port_state law net n (a ∷ new) = rw e at busy in able net n a new at few

  pub one_done : (net new : Net N) (n : ℕ) (a : Act) (acts : List Act) → acts ≡ a ∷ [] → new ≡ acted net n a → new ≡ acted_all net n acts
  one_done net new n a acts e is = rw e is

  -- all actions of a node are done
  pub acts_busy : (acts : List Act) (net : Net N) (n : ℕ) → Busy port_state law net n acts → Busy port_state law (acted_all net n acts) n []
  acts_busy [] net n busy = busy
  acts_busy (a ∷ acts) net n busy = acts_busy acts (acted net n a) n (acted_busy net n a acts busy)

  pub acts_settled : (asking : N → View → Type 0) (moves : N → List ℕ) (net : Net N) (n : ℕ) (acts : List Act) → Busy port_state law net n acts → AllAsked port_state law asking moves (acted_all net n acts) → AllMoments port_state law asking moves (acted_all net n acts)
      → Settled port_state law asking moves (acted_all net n acts)
  acts_settled asking moves net n acts busy asked moments = settled asking moves (acted_all net n acts) n (acts_busy acts net n busy) asked moments

-- where node n may act, what holds of it and of another node goes on by any port state and law
module _ {N : Type 0} (port_state : N → View → Type 0) (law : N → N → View → List (List Item) → List (List Item) → Type 0) where
  pub busy_any : (net : Net N) (n : ℕ) (acts : List Act) → Busy port_state law net n acts → Busy AnyRow AnyLaw net n acts
  busy_any net n acts busy = record {
    wired = busy.wired;
    each_first = busy.each_first;
    sound = busy.sound;
    marked = busy.marked;
    within = busy.within;
    stands = busy.stands;
    here = λ x first xi fi. record { allowed = (busy.here x first xi fi).allowed; port_state_holds = tt; law_holds = tt };
    others = λ k hk ne x first xi fi. record { allowed = tt; port_state_holds = tt; law_holds = tt };
  }

  pub acts_here : (acts : List Act) (net : Net N) (n : ℕ) → Busy AnyRow AnyLaw net n acts → IsMinded port_state law net n acts → IsMinded port_state law (acted_all net n acts) n []
  acts_here [] net n busy m = m
  acts_here (a ∷ acts) net n busy m =
      let x = get_there net.nodes n busy.within in
      let first = get_there net.firsts n (rw busy.each_first busy.within) in
      let f = fits net n a (act_allowed AnyRow AnyLaw net n a acts x.0 first.0 busy x.1 first.1) in
      let within : wire_for a (ports_at net n) < length net.wires = port_within net n a _ busy.wired busy.within f.0 in
      acts_here acts (acted net n a) n (acted_busy AnyRow AnyLaw net n a acts busy) (λ y fy yi fi. here_acted port_state law net n a acts y fy busy.wired busy.within f.0 within (m y fy yi fi))

  pub acts_others : (acts : List Act) (net : Net N) (n k : ℕ) → Busy AnyRow AnyLaw net n acts → k < length net.nodes → k ≢ n → IsMinded port_state law net k [] → IsMinded port_state law (acted_all net n acts) k []
  acts_others [] net n k busy hk ne m = m
  acts_others (a ∷ acts) net n k busy hk ne m =
      let x = get_there net.nodes n busy.within in
      let first = get_there net.firsts n (rw busy.each_first busy.within) in
      let f = fits net n a (act_allowed AnyRow AnyLaw net n a acts x.0 first.0 busy x.1 first.1) in
      let within : wire_for a (ports_at net n) < length net.wires = port_within net n a _ busy.wired busy.within f.0 in
      acts_others acts (acted net n a) n k (acted_busy AnyRow AnyLaw net n a acts busy) hk ne (others_acted port_state law net n a busy.wired busy.within f.0 within k hk ne m)
