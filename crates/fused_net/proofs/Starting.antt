-- A new graph, and the start of each node.
use Rattle.std.proofs.Common.{◌≡◌, ◌≢◌, inl, inr, ℕ, zero, suc, ◌+◌, ◌<◌, ◌≤◌, Bool, true, false, if◌then◌else◌, Some, List, [], ◌∷◌, length, get_or, slice_get, replicate, refl, sym, ap, ◌∙◌, subst, arith}
use Rattle.std.proofs.lemmas.List.{length-set, get_or-replicate, length-replicate}
use Rattle.elem_core.specs.Prefix.{IsPrefix}
use Rattle.elem_core.specs.Items.{elements}
use Rattle.elem_core.specs.declared.item.Item.{Item}
use Rattle.port_core.specs.Wire.{JointPorts}
use Rattle.port_core.specs.Joint.{Joint, idle, asking, asked, moving, ending, closing, leaving, finished, parted, cancelled, joint_wire, Histories, IsSound}
use Rattle.port_core.specs.View.{View}
use Rattle.port_core.specs.Call.{starts, AllIdle, AllUnpulled}
use Rattle.port_core.specs.declared.act.Act.{Act}
use Rattle.port_core.specs.declared.view.InView.TheVariants.{Idle}
use Rattle.port_core.specs.declared.view.OutView.TheVariants.{Unpulled}
use Rattle.stage_core.specs.Histories.{AllEmpty}
use Rattle.stage_core.specs.Handling.{Pulls, PullsAs, Starts}
use Rattle.port_core.specs.Cell.{WireState, new_cell}
use Rattle.port_core.proofs.Marking.{new_marked, cell}
use Rattle.port_core.specs.Marks.{IsMarked, wanted}
use Rattle.port_core.proofs.Counting.{elements_end}
use Rattle.port_core.specs.Counts.{asks}
use Rattle.fused_net.specs.PortLists.{PortLists}
use Rattle.fused_net.specs.declared.net.WireEnds.{WireEnds}
use Rattle.port_core.specs.Reading.{no_wire, inp_of, out_of, got_of, sent_of}
use Rattle.fused_net.specs.Net.{Net, read_all, port_at, wire_at, view_of, took, gave, acted_all, with_node}
use Rattle.fused_net.specs.Laws.{AnyRow, AnyLaw, FreshLaw, first_view, MovesGrow, Wired, Minds, IsMinded, AllAsked, AllMoments, Settled, Busy, Starting}
use Rattle.fused_net.specs.Costs.{sum_below}
use Rattle.fused_net.proofs.Reading.{same_or_not, some_same, get_there, get_set_same, get_set_other}
use Rattle.fused_net.proofs.Acting.{acts_busy, acts_here, acts_others}
use Rattle.fused_net.proofs.Asking.{moves_node, asking_kept, after_acts, node_asked}
use Rattle.fused_net.proofs.Moments.{allowed_of, acts_moments, node_moments}
use Rattle.fused_net.proofs.Delivering.{with_node_busy}
use Rattle.fused_net.proofs.Ongoing.{nodes-acts}

-- the wires of a node, before anything happened
read_new : {X : Type 0} (f : WireState → X) (n : ℕ) (ws : List ℕ) → ((i w : ℕ) → slice_get ws i ≡ Some w → w < n) → read_all f (replicate n new_cell) ws ≡ replicate (length ws) (f new_cell)
read_new f n [] h = refl
read_new f n (w ∷ ws) h =
    let here : get_or (replicate n new_cell) w no_wire ≡ new_cell = get_or-replicate n w new_cell no_wire (h 0 w refl) in
    rw (here, read_new f n ws (λ i u e. h (suc i) u e)) refl

all_idle : (m : ℕ) → AllIdle (replicate m Idle)
all_idle zero = tt
all_idle (suc m) = (refl, all_idle m)

all_unasked : (m : ℕ) → AllUnpulled (replicate m Unpulled)
all_unasked zero = tt
all_unasked (suc m) = (refl, all_unasked m)

all_empty : (m : ℕ) → AllEmpty (replicate m [])
all_empty zero = tt
all_empty (suc m) = (refl, all_empty m)

same_lengths : {A B : Type 0} (m : ℕ) (a : A) (b : B) → length (replicate m a) ≡ length (replicate m b)
same_lengths zero a b = refl
same_lengths (suc m) a b = ap suc (same_lengths m a b)

pub no_asks : (n k : ℕ) → k ≤ n → sum_below (λ w. asks (get_or (replicate n new_cell) w no_wire).wire) k ≡ 0
no_asks n zero h = refl
no_asks n (suc k) h =
    let here : get_or (replicate n new_cell) k no_wire ≡ new_cell = get_or-replicate n k new_cell no_wire (omega arith) in
    let none : asks (get_or (replicate n new_cell) k no_wire).wire ≡ 0 = rw here refl in
    omega (arith, no_asks n k (omega arith), none)

-- an input that has not pulled, and to which nothing came
idle_j : (j : Joint) (s g : List Item) (b : Bool) → Histories j s g → IsMarked (cell (joint_wire j s g) b) → (joint_wire j s g).inp ≡ Idle → g ≡ [] → (if b then elements s + 1 else elements s) ≡ 0
idle_j idle s g b h m e none = rw (m.unclosed refl, h, none) refl
idle_j (ending c) s g b h m e none = rw (m.unclosed refl, h, elements_end g c, none) refl
idle_j asking s g b h m e none = cc
idle_j asked s g b h m e none = cc
idle_j (moving x) s g b h m e none = cc
idle_j (closing t c) s g b h m e none = cc
idle_j (leaving true t) s g b h m e none = cc
idle_j (leaving false t) s g b h m e none = cc
idle_j (finished t c) s g b h m e none = cc
idle_j (parted t c) s g b h m e none = cc
idle_j (cancelled t c) s g b h m e none = cc

none_wanted : (c : WireState) (q : Bool) → IsSound c.wire q → IsMarked c → c.wire.inp ≡ Idle → c.wire.got ≡ [] → wanted c ≡ 0
none_wanted c q h m e none =
    idle_j h.joint c.wire.sent c.wire.got c.asked h.histories (subst (λ (v : JointPorts). IsMarked (cell v c.asked)) h.is m) (sym (ap (λ (v : JointPorts). v.inp) h.is) ∙ e) none

module _ {N : Type 0} (port_state : N → View → Type 0) (law : N → N → View → List (List Item) → List (List Item) → Type 0) (asking : N → View → Type 0) (moves : N → List ℕ) (fresh : N → View → Type 0) where
  pub new_starting : (nodes firsts : List N) (ends : List WireEnds) (ports : List PortLists) (wires : List WireState) (queue : List ℕ) (n : ℕ) → queue ≡ [] → firsts ≡ nodes → Wired ends ports (length nodes) n → wires ≡ replicate n new_cell
      → ((k : ℕ) (x : N) → slice_get nodes k ≡ Some x → fresh x (first_view (port_at ports k)))
      → Starting port_state law asking moves fresh (record { nodes = nodes; firsts = firsts; wires = wires; ends = ends; ports = ports; queue = queue }) 0
  new_starting nodes firsts ends ports wires queue n empty same wired is all_fresh = rw (empty, same, is) (record {
    wired = rw length-replicate wired;
    each_first = refl;
    sound = λ w h. let within : w < n = rw length-replicate at h in rw (get_or-replicate n w new_cell no_wire within) (record { joint = idle; is = refl; histories = refl; queues = refl });
    marked = λ w h. let within : w < n = rw length-replicate at h in rw (get_or-replicate n w new_cell no_wire within) new_marked;
    below = λ k lt hk. absurd (omega arith);
    asked = λ w h some. let within : w < n = rw length-replicate at h in let none : 1 ≤ wanted new_cell = rw (get_or-replicate n w new_cell no_wire within) at some in absurd (omega (arith, none));
    moments = λ k w hk h to some. let within : w < n = rw length-replicate at h in let none : 1 ≤ wanted new_cell = rw (get_or-replicate n w new_cell no_wire within) at some in absurd (omega (arith, none));
    above = λ k le hk x first xi fi.
        let ins = λ (i w : ℕ) (e : slice_get (port_at ports k).ins i ≡ Some w). (wired.input_to k i w hk e).0 in
        let outs = λ (i w : ℕ) (e : slice_get (port_at ports k).outs i ≡ Some w). (wired.output_from k i w hk e).0 in
        rw (read_new inp_of n (port_at ports k).ins ins, read_new out_of n (port_at ports k).outs outs, read_new got_of n (port_at ports k).ins ins, read_new sent_of n (port_at ports k).outs outs)
        (all_fresh k x xi, (some_same first x (sym fi ∙ xi), ((all_idle _, all_unasked _), ((all_empty _, all_empty _), (same_lengths _ _ _, same_lengths _ _ _)))));
  })

  pub start_busy : (net : Net N) (n : ℕ) (x y : N) (acts : List Act) → Starting port_state law asking moves fresh net n → n < length net.nodes → slice_get net.nodes n ≡ Some x → Starts port_state law fresh x y acts → Busy AnyRow AnyLaw (with_node net n y) n acts
  start_busy net n x y acts s h xi st =
      with_node_busy AnyRow AnyLaw net n y acts s.wired s.each_first s.sound s.marked h st.stands
      (λ first fi. let a = s.above n (omega arith) h x first xi fi in record { allowed = st.obeys.allowed (view_of net n) a.1.1.0 a.0; port_state_holds = tt; law_holds = tt })
      (λ k hk ne x first xi fi. record { allowed = tt; port_state_holds = tt; law_holds = tt })

  pub start_done : (net new : Net N) (n : ℕ) (x y : N) (acts : List Act) → Starting port_state law asking moves fresh net n → n < length net.nodes → slice_get net.nodes n ≡ Some x → Starts port_state law fresh x y acts
      → PullsAs starts (fresh x) (asking y) acts → IsPrefix (moves x) (moves y) → new ≡ acted_all (with_node net n y) n acts → Starting port_state law asking moves fresh new (n + 1)
  start_done net new n x y acts s h xi st asks grows is =
      let b : Busy AnyRow AnyLaw (with_node net n y) n acts = start_busy net n x y acts s h xi st in
      let done : Busy AnyRow AnyLaw (acted_all (with_node net n y) n acts) n [] = acts_busy AnyRow AnyLaw acts (with_node net n y) n b in
      let count : length (acted_all (with_node net n y) n acts).nodes ≡ length net.nodes = ap (λ (l : List N). length l) (nodes-acts acts (with_node net n y) n) ∙ length-set _ _ _ in
      let here : IsMinded port_state law (with_node net n y) n acts = λ z first zi fi.
      let a = s.above n (omega arith) h x first xi fi in
      let same : y ≡ z = some_same y z (sym (get_set_same net.nodes n y h) ∙ zi) in
      let started : Minds port_state law y x (view_of net n) (took net n) (gave net n) acts = record {
        allowed = st.obeys.allowed (view_of net n) a.1.1.0 a.0;
        port_state_holds = st.obeys.ports (view_of net n) a.1.1.0 a.0;
        law_holds = st.begins (view_of net n) (took net n) (gave net n) a.1.1.0 a.0 a.1.1.1.0.0 a.1.1.1.0.1 a.1.1.1.1.0 a.1.1.1.1.1;
      } in
      subst (λ (u : N). Minds port_state law u first (view_of net n) (took net n) (gave net n) acts) same (subst (λ (u : N). Minds port_state law y u (view_of net n) (took net n) (gave net n) acts) (sym a.1.0) started) in
      let moved : MovesGrow moves net (with_node net n y) = moves_node moves net n y h (λ z zi. let same : x ≡ z = some_same x z (sym xi ∙ zi) in rw same at grows) in
      let tells = λ (pulls : Pulls acts). asking_kept asking (with_node net n y) n acts b (λ z zi.
      let first = get_there net.firsts n (rw s.each_first h) in
      let a = s.above n (omega arith) h x first.0 xi first.1 in
      let same : y ≡ z = some_same y z (sym (get_set_same net.nodes n y h) ∙ zi) in
      rw same at (asks (view_of net n) a.1.1.0 a.0 pulls)) in
      let asked : AllAsked port_state law asking moves (acted_all (with_node net n y) n acts) = after_acts port_state law asking moves (with_node net n y) n acts b here tells (node_asked port_state law asking moves net n y (λ u hu ins some.
      let first = get_there net.firsts n (rw s.each_first h) in
      let a = s.above n (omega arith) h x first.0 xi first.1 in
      let idles = subst (λ (ws : List ℕ). AllIdle (read_all inp_of net.wires ws)) ins a.1.1.0.0 in
      let empty = subst (λ (ws : List ℕ). AllEmpty (read_all got_of net.wires ws)) ins a.1.1.1.0.0 in
      let none : wanted (wire_at net u) ≡ 0 = none_wanted (wire_at net u) _ (s.sound u hu) (s.marked u hu) idles.0 empty.0 in
      omega (arith, none, some)) moved s.asked) in
      let moments : AllMoments port_state law asking moves (acted_all (with_node net n y) n acts) =
      acts_moments port_state law asking moves (with_node net n y) n acts b (allowed_of AnyRow AnyLaw (with_node net n y) n acts b) here tells asked (node_moments port_state law asking moves net n y moved s.moments) in
      rw is (record {
        wired = done.wired;
        each_first = done.each_first;
        sound = done.sound;
        marked = done.marked;
        asked = asked;
        moments = moments;
        below = λ k lt hk. elim (same_or_not k n) [
          | inl e ↦ rw e (acts_here port_state law acts (with_node net n y) n b here)
          | inr ne ↦ let within : k < length net.nodes = rw count at hk in
              acts_others port_state law acts (with_node net n y) n k b (rw length-set within) ne
              (λ z first zi fi. s.below k (omega arith) within z first (sym (get_set_other net.nodes n k y ne) ∙ zi) fi)
        ];
        above = λ k le hk z first zi fi.
            let within : k < length net.nodes = rw count at hk in
            let ne : k ≢ n = λ e. omega arith in
            let before : IsMinded fresh FreshLaw (with_node net n y) k [] = λ u fu ui fui.
            let a = s.above k (omega arith) within u fu (sym (get_set_other net.nodes n k y ne) ∙ ui) fui in
            record { allowed = tt; port_state_holds = a.0; law_holds = a.1 } in
            let m = acts_others fresh FreshLaw acts (with_node net n y) n k b (rw length-set within) ne before z first zi fi in
            (m.port_state_holds, m.law_holds);
      })

  -- all were started
  pub all_started : (net : Net N) (n : ℕ) → Starting port_state law asking moves fresh net n → length net.nodes ≤ n → Settled port_state law asking moves net
  all_started net n s h = record { wired = s.wired; each_first = s.each_first; sound = s.sound; marked = s.marked; minded = λ k hk. s.below k (omega arith) hk; asked = s.asked; moments = s.moments }

pub new_asks : (wires : List WireState) (n : ℕ) → wires ≡ replicate n new_cell → sum_below (λ w. asks (get_or wires w no_wire).wire) (length wires) ≡ 0
new_asks wires n is = rw is (rw length-replicate (no_asks n n (omega arith)))
