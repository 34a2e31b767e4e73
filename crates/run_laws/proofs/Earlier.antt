-- The moments of a node's asks, read off a net.
use Rattle.std.specs.Prelude.{slice_get, slice_index_or, if◌then◌else◌, not, ◌&&◌}
use Rattle.std.proofs.Common.{◌≡◌, ℕ, zero, suc, ◌+◌, ◌<◌, ◌≤◌, Bool, true, false, List, [], ◌∷◌, ◌++◌, length, get_or, None, Some, refl, sym, ap, subst, ◌∙◌, arith}
use Rattle.elem_core.specs.Prefix.{IsPrefix}
use Rattle.elem_core.specs.Items.{elements}
use Rattle.elem_core.specs.declared.item.Item.{Item}
use Rattle.elem_core.specs.declared.item.Item.TheVariants as item
use Rattle.port_core.specs.Ring.{is_queued}
use Rattle.port_core.specs.Wire.{JointPorts, end_item}
use Rattle.port_core.specs.Connection.{quiet, pulled, ready, pushed}
use Rattle.port_core.specs.Joint.{Joint, idle, asking, asked, moving, ending, closing, leaving, finished, parted, cancelled, joint_wire, Histories, IsSound}
use Rattle.port_core.specs.View.{View, in_at, out_at}
use Rattle.port_core.specs.declared.view.InView.{InView}
use Rattle.port_core.specs.declared.view.InView.TheVariants.{Cancelled}
use Rattle.port_core.specs.declared.view.OutView.TheVariants.{Available, Closed}
use Rattle.port_core.specs.Cell.{WireState}
use Rattle.port_core.specs.Marks.{IsMarked, wanted, Grown}
use Rattle.port_core.proofs.Counting.{elements_end, elements_elem}
use Rattle.port_core.proofs.Marking.{cell}
use Rattle.port_core.specs.Reading.{no_wire, inp_of, out_of, got_of, sent_of}
use Rattle.fused_net.specs.Net.{Net, read_all, end_at, ports_at, wire_at, view_of}
use Rattle.fused_net.specs.Net as net
use Rattle.fused_net.specs.Laws.{Wired, LastAsk, NodeAsked, NetGoesOn}
use Rattle.fused_net.proofs.Reading.{get_there, read_at}
use Rattle.stage_core.specs.Row.{OutClosed}
use Rattle.run_laws.specs.Account.{AllBegin, WantedAt, Earlier, LastAsked, shut_of}
use Rattle.run_laws.proofs.Coming.{all_came}
use Rattle.run_laws.proofs.Resting.{out_shut}

-- ---- one wire

abbrev Asks : InView → Bool → List Item → List Item → Type 0
Asks x b s g = WantedAt x (if b then elements s + 1 else elements s) (elements g)

stood_j : (j : Joint) (s g : List Item) (b : Bool) → Histories j s g → IsMarked (cell (joint_wire j s g) b) → Asks (joint_wire j s g).inp b s g
stood_j idle s g b h m = let mark : b ≡ false = m.unclosed refl in let same = ap elements h in rw mark (omega (arith, same))
stood_j asking s g b h m = let same = ap elements h in by_mark b (omega (arith, same))
  where
    by_mark : (c : Bool) → elements s ≤ elements g → (if c then elements s + 1 else elements s) ≤ elements g + 1
    by_mark true e = omega (arith, e)
    by_mark false e = omega (arith, e)
stood_j asked s g b h m = let same = ap elements h in by_mark b (omega (arith, same))
  where
    by_mark : (c : Bool) → elements s ≤ elements g → (if c then elements s + 1 else elements s) ≤ elements g + 1
    by_mark true e = omega (arith, e)
    by_mark false e = omega (arith, e)
stood_j (moving x) s g b h m = let mark : b ≡ false = m.unclosed refl in let same = ap elements h in rw mark (omega (arith, same, elements_elem g x))
stood_j (ending c) s g b h m = let mark : b ≡ false = m.unclosed refl in let same = ap elements h in rw mark (omega (arith, same, elements_end g c))
stood_j (closing quiet c) s g b h m = let mark : b ≡ false = m.unclosed refl in let same = ap elements h in rw mark (omega (arith, same, elements_end g c))
stood_j (closing pulled c) s g b h m = let mark : b ≡ true = m.unclosed refl in let same = ap elements h in rw mark (omega (arith, same, elements_end g c))
stood_j (closing ready c) s g b h m = let mark : b ≡ true = m.unclosed refl in let same = ap elements h in rw mark (omega (arith, same, elements_end g c))
stood_j (closing (pushed x) c) s g b h m =
    let mark : b ≡ false = m.unclosed refl in
    let same : elements s ≡ elements (g ++ (item.Elem x ∷ end_item c ∷ [])) = ap elements h in
    let more : elements (g ++ (item.Elem x ∷ end_item c ∷ [])) ≡ elements g + 1 = both g in
    rw mark (omega (arith, same, more))
  where
    one : elements (end_item c ∷ []) ≡ 0
    one = elements_end [] c

    both : (l : List Item) → elements (l ++ (item.Elem x ∷ end_item c ∷ [])) ≡ elements l + 1
    both [] = omega (arith, one)
    both (item.Elem t ∷ l) = omega (arith, both l)
    both (item.Ended ∷ l) = both l
    both (item.Failed d ∷ l) = both l
stood_j (leaving true t) s g b h m = tt
stood_j (leaving false t) s g b h m = tt
stood_j (finished t c) s g b h m = tt
stood_j (parted t c) s g b h m = tt
stood_j (cancelled t c) s g b h m = tt

pub stood_cell : (c : WireState) (q : Bool) → IsSound c.wire q → IsMarked c → WantedAt c.wire.inp (wanted c) (elements c.wire.got)
stood_cell c q h m =
    let marked : IsMarked (cell (joint_wire h.joint c.wire.sent c.wire.got) c.asked) = subst (λ (v : JointPorts). IsMarked (cell v c.asked)) h.is m in
    subst (λ (x : InView). WantedAt x (wanted c) (elements c.wire.got)) (sym (ap (λ (v : JointPorts). v.inp) h.is)) (stood_j h.joint c.wire.sent c.wire.got c.asked h.histories marked)

wanted_asked : (c : WireState) → c.asked ≡ true → wanted c ≡ elements c.wire.sent + 1
wanted_asked c e = rw e refl

-- histories that have grown
pub all_begin : (f : WireState → List Item) (old new : List WireState) → ((q : ℕ) → q < length new → IsPrefix (f (get_or old q no_wire)) (f (get_or new q no_wire)))
    → (ws : List ℕ) → ((i q : ℕ) → slice_get ws i ≡ Some q → q < length new) → AllBegin (read_all f old ws) (read_all f new ws)
all_begin f old new grown [] within = tt
all_begin f old new grown (q ∷ ws) within = (grown q (within 0 q refl), all_begin f old new grown ws (λ i u e. within (suc i) u e))

-- one that was shut is shut
shut_flags : (a b c d : Bool) → (a ≡ true → c ≡ true) → (b ≡ true → d ≡ true) → not (not a && not b) ≡ true → not (not c && not d) ≡ true
shut_flags true b c d f g h = rw (f refl) refl
shut_flags false true true d f g h = refl
shut_flags false true false d f g h = rw (g refl) refl
shut_flags false false c d f g h = cc

shut_stays : (c d : WireState) → Grown c d → shut_of c ≡ true → shut_of d ≡ true
shut_stays c d grown h = shut_flags c.wire.conn.in_closed c.wire.conn.out_closed d.wire.conn.in_closed d.wire.conn.out_closed grown.in_closed grown.out_closed h

shut_grown : (old new : List WireState) → ((q : ℕ) → q < length new → Grown (get_or old q no_wire) (get_or new q no_wire)) → (ws : List ℕ) → ((i q : ℕ) → slice_get ws i ≡ Some q → q < length new) → (i : ℕ)
    → get_or (read_all shut_of old ws) i true ≡ true → get_or (read_all shut_of new ws) i true ≡ true
shut_grown old new grown [] within i h = h
shut_grown old new grown (w ∷ ws) within zero h = shut_stays (get_or old w no_wire) (get_or new w no_wire) (grown w (within 0 w refl)) h
shut_grown old new grown (w ∷ ws) within (suc i) h = shut_grown old new grown ws (λ k q e. within (suc k) q e) i h

-- one that the node at its output knows as closed is
shut_there : (wires : List WireState) → ((q : ℕ) → q < length wires → (b : Bool) × IsSound (get_or wires q no_wire).wire b) → (ws : List ℕ) → ((i q : ℕ) → slice_get ws i ≡ Some q → q < length wires) → (i : ℕ)
    → OutClosed (get_or (read_all out_of wires ws) i Closed) → get_or (read_all shut_of wires ws) i true ≡ true
shut_there wires sound [] within i h = refl
shut_there wires sound (w ∷ ws) within zero h = let s = sound w (within 0 w refl) in out_shut (get_or wires w no_wire).wire s.0 s.1 h
shut_there wires sound (w ∷ ws) within (suc i) h = shut_there wires sound ws (λ k q e. within (suc k) q e) i h

out_asked_there : {X : Type 0} (f : WireState → X) (wires : List WireState) (ws : List ℕ) (j : ℕ) → out_at (record { ins = []; outs = read_all out_of wires ws }) j ≡ Available → (r : ℕ) × (slice_get ws j ≡ Some r)
out_asked_there f wires [] j e = absurd cc
out_asked_there f wires (w ∷ ws) zero e = (w, refl)
out_asked_there f wires (w ∷ ws) (suc j) e = out_asked_there f wires ws j e

module _ {N : Type 0} (port_state : N → View → Type 0) (law : N → N → View → List (List Item) → List (List Item) → Type 0) (asking : N → View → Type 0) (moves : N → List ℕ) where
  -- what node j of a net is wanted of
  abbrev pub want_in : Net N → ℕ → List ℕ
  want_in a j = read_all wanted a.wires (ports_at a j).ins

  abbrev pub want_out : Net N → ℕ → List ℕ
  want_out a j = read_all wanted a.wires (ports_at a j).outs

  -- which of its outputs are shut
  abbrev pub shut_out : Net N → ℕ → List Bool
  shut_out a j = read_all shut_of a.wires (ports_at a j).outs

  module _ (new : Net N) (wired : Wired new.ends new.ports (length new.nodes) (length new.wires)) (j : ℕ) (hj : j < length new.nodes) (first : N) (first_at : slice_get new.firsts j ≡ Some first) where
    ins_within : (i q : ℕ) → slice_get (ports_at new j).ins i ≡ Some q → q < length new.wires
    ins_within i q e = (wired.input_to j i q hj e).0

    outs_within : (i q : ℕ) → slice_get (ports_at new j).outs i ≡ Some q → q < length new.wires
    outs_within i q e = (wired.output_from j i q hj e).0

    module _ (old : Net N) (on : NetGoesOn old new) (grown : (u : ℕ) → u < length old.wires → Grown (wire_at old u) (wire_at new u)) (marked : (u : ℕ) → u < length old.wires → IsMarked (wire_at old u)) where
      same_ports : ports_at old j ≡ ports_at new j
      same_ports = rw (sym on.ports) refl

      grew : (q : ℕ) → q < length new.wires → Grown (wire_at old q) (wire_at new q)
      grew q h = grown q (let w = on.wires in omega (arith, w, h))

      pub began_in : AllBegin (net.took old j) (net.took new j)
      began_in = rw same_ports (all_begin got_of old.wires new.wires (λ q h. (grew q h).got) (ports_at new j).ins ins_within)

      pub began_out : AllBegin (net.gave old j) (net.gave new j)
      began_out = rw same_ports (all_begin sent_of old.wires new.wires (λ q h. (grew q h).sent) (ports_at new j).outs outs_within)

      pub were_wanted : (i : ℕ) → out_at (view_of old j) i ≡ Available → elements (slice_index_or (net.gave old j) i []) + 1 ≤ slice_index_or (want_out new j) i 0
      were_wanted i is =
          let slot = out_asked_there sent_of old.wires (ports_at old j).outs i is in
          let r = slot.0 in
          let slot_new : slice_get (ports_at new j).outs i ≡ Some slot.0 = rw (sym same_ports) slot.1 in
          let out : (wire_at old slot.0).wire.out ≡ Available = sym (read_at out_of old.wires (ports_at old j).outs i slot.0 Closed slot.1) ∙ is in
          let wires = on.wires in
          let within = outs_within i slot.0 slot_new in
          let was : slot.0 < length old.wires = omega (arith, wires, within) in
          let mark : (wire_at old slot.0).asked ≡ true = (marked slot.0 was).known out in
          let count = wanted_asked (wire_at old slot.0) mark in
          let more = (grown slot.0 was).wanted in
          let gave_count : elements (slice_index_or (net.gave old j) i []) ≡ elements (wire_at old slot.0).wire.sent = ap elements (read_at sent_of old.wires (ports_at old j).outs i slot.0 [] slot.1) in
          let now : slice_index_or (want_out new j) i 0 ≡ wanted (wire_at new slot.0) = read_at wanted new.wires (ports_at new j).outs i slot.0 0 slot_new in
          omega (arith, count, more, gave_count, now)

      pub were_shut : ((u : ℕ) → u < length old.wires → IsSound (wire_at old u).wire (is_queued old.queue u)) → (i : ℕ) → OutClosed (out_at (view_of old j) i) → slice_index_or (shut_out new j) i true ≡ true
      were_shut sound i closed =
          let within_old : (k q : ℕ) → slice_get (ports_at new j).outs k ≡ Some q → q < length old.wires = λ k q e. let wires = on.wires in let within = outs_within k q e in omega (arith, wires, within) in
          shut_grown old.wires new.wires grew (ports_at new j).outs outs_within i
          (shut_there old.wires (λ q h. (is_queued old.queue q, sound q h)) (ports_at new j).outs within_old i (rw same_ports at closed))

      -- the node as it was
      pub first_then : slice_get old.firsts j ≡ Some first
      first_then = ap (λ (z : List N). slice_get z j) (sym on.firsts) ∙ first_at

    -- one wire, and none
    one_wire : (old : List WireState) (ws : List ℕ) (p q : ℕ) → slice_get ws p ≡ Some q → length (read_all got_of new.wires ws) ≡ 1 → (ws ≡ q ∷ []) × (read_all got_of old ws ≡ read_all got_of new.wires ws → (wire_at new q).wire.got ≡ got_of (get_or old q no_wire))
    one_wire old [] p q e one = absurd (omega (arith, one))
    one_wire old (w ∷ []) zero q e one = let same : w ≡ q = cc in (ap (λ (x : ℕ). x ∷ []) same, λ h. let here : got_of (get_or old w no_wire) ≡ got_of (get_or new.wires w no_wire) = cc in rw (sym same) (sym here))
    one_wire old (w ∷ []) (suc p) q e one = cc
    one_wire old (w ∷ x ∷ ws) p q e one = absurd (omega (arith, one))

    no_wires : (ws : List ℕ) → length (read_all sent_of new.wires ws) ≡ 0 → ws ≡ []
    no_wires [] none = refl
    no_wires (w ∷ ws) none = absurd (omega (arith, none))

    -- the last ask of one of its inputs
    pub earlier : (now : N) → slice_get new.nodes j ≡ Some now → (p q : ℕ) → slice_get (ports_at new j).ins p ≡ Some q → LastAsk port_state law asking moves new q → Earlier port_state law asking moves p first now (net.took new j) (net.gave new j) (want_in new j) (want_out new j) (shut_out new j)
    earlier now now_at p q slot a =
        let within = ins_within p q slot in
        let wires = a.on.wires in
        let nodes = a.on.nodes in
        let was : q < length a.old.wires = omega (arith, wires, within) in
        let to : (end_at a.old.ends q).to ≡ j = rw (sym a.on.ends) ((wired.input_to j p q hj slot).1.0) in
        let x = get_there a.old.nodes j (omega (arith, nodes, hj)) in
        let minds = (rw to at a.minded) x.0 first x.1 (first_then a.old a.on a.grown a.marked) in
        let slot_old : slice_get (ports_at a.old j).ins p ≡ Some q = rw (same_ports a.old a.on a.grown a.marked) slot in
        let came = all_came (wire_at a.old q) (is_queued a.old.queue q) (a.marked q was) (a.sound q was) a.waits a.asked in
        record {
          old = x.0;
          knew = view_of a.old j;
          had = net.took a.old j;
          given = net.gave a.old j;
          port_state_held = minds.port_state_holds;
          law_held = minds.law_holds;
          asking_held = (rw to at a.asking_then) x.0 x.1;
          waited = read_at inp_of a.old.wires (ports_at a.old j).ins p q Cancelled slot_old ∙ a.waits;
          one_more = read_at wanted new.wires (ports_at new j).ins p q 0 slot ∙ a.same ∙ wanted_asked (wire_at a.old q) a.asked ∙ ap (λ (n : ℕ). n + 1) (came ∙ sym (ap elements (read_at got_of a.old.wires (ports_at a.old j).ins p q [] slot_old)));
          took_on = began_in a.old a.on a.grown a.marked;
          gave_on = began_out a.old a.on a.grown a.marked;
          moves_on = a.moves_on j x.0 now x.1 now_at;
          wants = were_wanted a.old a.on a.grown a.marked;
          shut_on = were_shut a.old a.on a.grown a.marked a.sound;
          stays = λ one none same.
              let here = one_wire a.old.wires (ports_at new j).ins p q slot one in
              let ins : (ports_at a.old j).ins ≡ q ∷ [] = rw (same_ports a.old a.on a.grown a.marked) here.0 in
              let outs : (ports_at a.old j).outs ≡ [] = rw (same_ports a.old a.on a.grown a.marked) (no_wires (ports_at new j).outs none) in
              let came_same : (wire_at new q).wire.got ≡ (wire_at a.old q).wire.got = here.1 (rw (same_ports a.old a.on a.grown a.marked) at same) in
              a.stays j ins outs came_same now now_at;
        }

  -- ---- the last ask of all

  none_there : {X : Type 0} (f : WireState → X) (wires : List WireState) (ws : List ℕ) (i : ℕ) (d : X) → slice_get ws i ≡ None → get_or (read_all f wires ws) i d ≡ d
  none_there f wires [] i d e = refl
  none_there f wires (w ∷ ws) zero d e = cc
  none_there f wires (w ∷ ws) (suc i) d e = none_there f wires ws i d e

  some_there : {X : Type 0} (f : WireState → X) (wires : List WireState) (ws : List ℕ) (i : ℕ) → i < length (read_all f wires ws) → (q : ℕ) × (slice_get ws i ≡ Some q)
  some_there f wires [] i h = absurd (omega arith)
  some_there f wires (w ∷ ws) zero h = (w, refl)
  some_there f wires (w ∷ ws) (suc i) h = some_there f wires ws i (omega (arith, h))

  -- what was wanted of an output is wanted of it, and more
  want_grown : (old new : List WireState) → ((q : ℕ) → q < length new → wanted (get_or old q no_wire) ≤ wanted (get_or new q no_wire)) → (ws : List ℕ) → ((i q : ℕ) → slice_get ws i ≡ Some q → q < length new) → (i : ℕ)
      → get_or (read_all wanted old ws) i 0 ≤ get_or (read_all wanted new ws) i 0
  want_grown old new more [] within i = omega arith
  want_grown old new more (w ∷ ws) within zero = more w (within 0 w refl)
  want_grown old new more (w ∷ ws) within (suc i) = want_grown old new more ws (λ k q e. within (suc k) q e) i

  module _ (new : Net N) (wired : Wired new.ends new.ports (length new.nodes) (length new.wires)) (j : ℕ) (hj : j < length new.nodes) (first : N) (first_at : slice_get new.firsts j ≡ Some first) (now : N) (now_at : slice_get new.nodes j ≡ Some now) (a : NodeAsked port_state law asking moves new j) where
    ports_then : ports_at a.old j ≡ ports_at new j
    ports_then = rw (sym a.on.ports) refl

    wired_then : Wired a.old.ends a.old.ports (length a.old.nodes) (length a.old.wires)
    wired_then = rw (sym a.on.ends, sym a.on.ports, sym a.on.nodes, sym a.on.wires) wired

    slot_within : (i q : ℕ) → slice_get (ports_at new j).ins i ≡ Some q → q < length a.old.wires
    slot_within i q e = let h = (wired.input_to j i q hj e).0 in let w = a.on.wires in omega (arith, h, w)

    same_want : (i q : ℕ) → slice_get (ports_at new j).ins i ≡ Some q → get_or (want_in new j) i 0 ≡ wanted (wire_at a.old q)
    same_want i q e = read_at wanted new.wires (ports_at new j).ins i q 0 e ∙ a.same q (slot_within i q e) (rw (sym a.on.ends) ((wired.input_to j i q hj e).1.0))

    stood_at : (i : ℕ) (o : _) → slice_get (ports_at new j).ins i ≡ o → WantedAt (in_at (view_of a.old j) i) (slice_index_or (want_in new j) i 0) (elements (slice_index_or (net.took a.old j) i []))
    stood_at i None e = subst (λ (x : InView). WantedAt x (slice_index_or (want_in new j) i 0) (elements (slice_index_or (net.took a.old j) i []))) (sym (none_there inp_of a.old.wires (ports_at a.old j).ins i Cancelled (rw ports_then e))) tt
    stood_at i (Some q) e =
        let slot : slice_get (ports_at a.old j).ins i ≡ Some q = rw ports_then e in
        let h = slot_within i q e in
        rw (read_at inp_of a.old.wires (ports_at a.old j).ins i q Cancelled slot, same_want i q e, read_at got_of a.old.wires (ports_at a.old j).ins i q [] slot)
        (stood_cell (wire_at a.old q) (is_queued a.old.queue q) (a.sound q h) (a.marked q h))

    first_old : slice_get a.old.firsts j ≡ Some first
    first_old = ap (λ (z : List N). slice_get z j) (sym a.on.firsts) ∙ first_at

    within_old : j < length a.old.nodes
    within_old = let n = a.on.nodes in omega (arith, n, hj)

    before_at : (x : N) → slice_get a.old.nodes j ≡ Some x → (i : ℕ) → i < length (want_in new j) → 1 ≤ slice_index_or (want_in new j) i 0 → Earlier port_state law asking moves i first x (net.took a.old j) (net.gave a.old j) (want_in new j) (want_out new j) (shut_out new j)
    before_at x x_at i h some =
        let at = some_there wanted new.wires (ports_at new j).ins i h in
        let q = at.0 in
        let slot : slice_get (ports_at a.old j).ins i ≡ Some at.0 = rw ports_then at.1 in
        let here = slot_within i at.0 at.1 in
        let l = a.before at.0 here (rw (same_want i at.0 at.1) at some) in
        let e = earlier a.old wired_then j within_old first first_old x x_at i at.0 slot l in
        let want_same : slice_index_or (want_in new j) i 0 ≡ slice_index_or (want_in a.old j) i 0 = same_want i at.0 at.1 ∙ sym (read_at wanted a.old.wires (ports_at a.old j).ins i at.0 0 slot) in
        record {
          old = e.old;
          knew = e.knew;
          had = e.had;
          given = e.given;
          port_state_held = e.port_state_held;
          law_held = e.law_held;
          asking_held = e.asking_held;
          waited = e.waited;
          one_more = want_same ∙ e.one_more;
          took_on = e.took_on;
          gave_on = e.gave_on;
          moves_on = e.moves_on;
          wants = λ k is. let least = e.wants k is in let more = outs_more k in omega (arith, least, more);
          shut_on = λ k is. outs_still k (e.shut_on k is);
          stays = e.stays;
        }
      where
        outs_more : (k : ℕ) → slice_index_or (want_out a.old j) k 0 ≤ slice_index_or (want_out new j) k 0
        outs_more k = rw ports_then (want_grown a.old.wires new.wires (λ q h. (a.grown q (let w = a.on.wires in omega (arith, w, h))).wanted) (ports_at new j).outs (λ m q e. (wired.output_from j m q hj e).0) k)

        outs_still : (k : ℕ) → slice_index_or (shut_out a.old j) k true ≡ true → slice_index_or (shut_out new j) k true ≡ true
        outs_still k h = shut_grown a.old.wires new.wires (λ q l. a.grown q (let w = a.on.wires in omega (arith, w, l))) (ports_at new j).outs (λ m q e. (wired.output_from j m q hj e).0) k (rw ports_then at h)

    pub last : LastAsked port_state law asking moves first now (net.took new j) (net.gave new j) (want_in new j) (want_out new j) (shut_out new j)
    last =
        let x = get_there a.old.nodes j within_old in
        let minds = a.minded x.0 first x.1 first_old in
        record {
          old = x.0;
          knew = view_of a.old j;
          had = net.took a.old j;
          given = net.gave a.old j;
          port_state_held = minds.port_state_holds;
          law_held = minds.law_holds;
          asking_held = a.asking_then x.0 x.1;
          port = a.port;
          waited = a.waits;
          stood = λ i. stood_at i (slice_get (ports_at new j).ins i) refl;
          before = before_at x.0 x.1;
          took_on = began_in new wired j hj first first_at a.old a.on a.grown a.marked;
          gave_on = began_out new wired j hj first first_at a.old a.on a.grown a.marked;
          moves_on = a.moves_on j x.0 now x.1 now_at;
          wants = were_wanted new wired j hj first first_at a.old a.on a.grown a.marked;
          shut_on = were_shut new wired j hj first first_at a.old a.on a.grown a.marked a.sound;
        }
