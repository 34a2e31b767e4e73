-- The outlook of a wire that has a list is the same whatever the custom stages give that tell none.
use Rattle.std.proofs.Common.{◌≡◌, ℕ, zero, suc, ◌+◌, ◌<◌, Bool, true, false, List, [], ◌∷◌, length, refl, sym, ap, ◌∙◌, subst, arith, Option, Some, None}
use Rattle.std.specs.Prelude.{slice_get, not}
use Rattle.elem_core.specs.declared.why.Decider.{Decider}
use Rattle.stream_model.specs.declared.kind.Policy.TheVariants.{Backpressure}
use Rattle.stream_model.specs.Outlook.{Outlook}
use Rattle.stream_model.specs.Graph.{Graph, Node, Edge, find_wire}
use Rattle.stream_model.specs.Linear.{Book, Role, a_source, a_flow, a_fan_in, a_fan_out, reads_lines, gives_range, gives_nothing, gives_failure, works, trips, plugs_in, buffers, recovers, obeys, groups_by, splits_when, splits_after, merges, gathers, concats, interleaves, merges_sorted, zips, broadcasts, balances, partitions, unzips, customs, sinks, role_of, work_of}
use Rattle.stream_model.specs.Node.{World, custom_by, role_outlook, node_outlook, of_work}
use Rattle.stream_model.specs.Composed.{inputs_of, count_from, incoming, ports_of, given_on, sent_on, next, composed, sink_outlook, IsRanked, received, wire_loss}
use Rattle.stream_model.specs.Listed.{is_untold, tells_none, Unlisted, begins, goes_on, IsListed, HasLists, AllTell}
use Rattle.stream_model.proofs.Compositions.{Found, found_first, slice_get-below, composed_composes}

pub true_or_false : (b : Bool) → (b ≡ true → ⊥) → b ≡ false
true_or_false true f = absurd (f refl)
true_or_false false f = refl

module _ (g : Graph) (w : World) (x : ℕ → ℕ → Outlook) where
  -- the same run, but for what those gave
  abbrev other : World
  other = record w { given = x }

  -- ---- one node

  custom_apart : (node : ℕ) (name : List ℕ) (d : Decider) (is : List Outlook) (port : ℕ) (b : Bool) → not b ≡ false → custom_by g other node name d is port b ≡ custom_by g w node name d is port b
  custom_apart node name d is port true h = refl
  custom_apart node name d is port false h = cc

  role_apart : (node : ℕ) (r : Role) (d : Decider) (is : List Outlook) (port : ℕ) → is_untold w.book r ≡ false → role_outlook g other node r d is port ≡ role_outlook g w node r d is port
  role_apart node (a_source (reads_lines name)) d is port h = refl
  role_apart node (a_source (gives_range low high)) d is port h = refl
  role_apart node (a_source (gives_nothing b)) d is port h = refl
  role_apart node (a_source (gives_failure b)) d is port h = refl
  role_apart node (a_flow (works v)) d is port h = refl
  role_apart node (a_flow (trips order name n)) d is port h = refl
  role_apart node (a_flow (plugs_in name)) d is port h = refl
  role_apart node (a_flow (buffers n Backpressure)) d is port h = refl
  role_apart node (a_flow (buffers n p)) d is port h = refl
  role_apart node (a_flow (recovers t)) d is port h = refl
  role_apart node (a_flow (obeys name)) d is port h = refl
  role_apart node (a_flow (groups_by n f chain)) d is port h = refl
  role_apart node (a_flow (splits_when p chain j)) d is port h = refl
  role_apart node (a_flow (splits_after p chain j)) d is port h = refl
  role_apart node (a_fan_in (merges n)) d is port h = refl
  role_apart node (a_fan_in (gathers n)) d is port h = refl
  role_apart node (a_fan_in (concats n)) d is port h = refl
  role_apart node (a_fan_in (interleaves n k)) d is port h = refl
  role_apart node (a_fan_in merges_sorted) d is port h = refl
  role_apart node (a_fan_in zips) d is port h = refl
  role_apart node (a_fan_out (broadcasts n)) d is port h = refl
  role_apart node (a_fan_out (balances n)) d is port h = refl
  role_apart node (a_fan_out (partitions n f)) d is port h = refl
  role_apart node (a_fan_out unzips) d is port h = refl
  role_apart node (customs name) d is port h = custom_apart node name d is port (w.book.tells name) h
  role_apart node (sinks file keeps) d is port h = refl

  -- ---- the wires

  -- the wires into node k have the same outlooks, where those that have a list do
  module _ (a b : ℕ → Outlook) (k : ℕ) (same : (i : ℕ) (v : Edge) → slice_get g.wires i ≡ Some v → v.to ≡ k → a i ≡ b i) where
    incoming_apart : (o : Option ℕ) → ((i : ℕ) → o ≡ Some i → Found (λ v. v.to) k g.wires i) → incoming g other a o ≡ incoming g w b o
    incoming_apart None f = refl
    incoming_apart (Some i) f = let r = f i refl in ap (received g w (wire_loss g w (slice_get g.wires i))) (same i r.wire r.at r.to)

    ports_apart : (ps : List ℕ) → ports_of g other a k ps ≡ ports_of g w b k ps
    ports_apart [] = refl
    ports_apart (p ∷ ps) =
        let first = incoming_apart (find_wire k p g.wires) (λ i e. found_first (λ v. v.to) (λ v. v.input) k p g.wires i e) in
        let others = ports_apart ps in
        cc (first, others)

  -- a wire with a list, where those with a list that lead to its node are the same
  next_apart : (a b : ℕ → Outlook) (j : ℕ) (v : Edge) (n : Option Node) → slice_get g.wires j ≡ Some v → slice_get g.nodes v.from ≡ n → IsListed g w.book j
      → ((i : ℕ) (u : Edge) → slice_get g.wires i ≡ Some u → u.to ≡ v.from → IsListed g w.book i → a i ≡ b i) → given_on g other a v.from n v.output ≡ given_on g w b v.from n v.output
  next_apart a b j v None vi ni listed same = refl
  next_apart a b j v (Some n) vi ni listed same =
      let told : tells_none w.book n.kind ≡ false = true_or_false (tells_none w.book n.kind) (λ e. listed (begins j v n vi ni e)) in
      let ports = ports_apart a b v.from (λ i u ui to. same i u ui to (λ h. listed (goes_on i j u v ui vi to h))) (count_from 0 (inputs_of n)) in
      ap (λ (is : List Outlook). node_outlook g other v.from n.kind n.decider is v.output) ports
      ∙ role_apart v.from (role_of n.kind) n.decider (ports_of g w b v.from (count_from 0 (inputs_of n))) v.output told

  module _ (rank : ℕ → ℕ) (ranked : IsRanked g rank) where
    apart_below : (k i : ℕ) → i < length g.wires → rank i < k → IsListed g w.book i → composed g other i ≡ composed g w i
    apart_below zero i h r listed = absurd (omega arith)
    apart_below (suc k) i h r listed =
        sym (composed_composes g other rank ranked i h)
        ∙ by_wire (slice_get g.wires i) refl (λ j hj s l. apart_below k j hj s l)
        ∙ composed_composes g w rank ranked i h
      where
        by_wire : (o : Option Edge) → slice_get g.wires i ≡ o → ((j : ℕ) → j < length g.wires → rank j < k → IsListed g w.book j → composed g other j ≡ composed g w j) → sent_on g other (composed g other) o ≡ sent_on g w (composed g w) o
        by_wire None e below = refl
        by_wire (Some v) e below =
            next_apart (composed g other) (composed g w) i v (slice_get g.nodes v.from) e refl listed
            (λ j u ui to l. below j (slice_get-below g.wires j u ui) (let s = ranked.rises j i u v ui e to in omega (arith, s, r)) l)

    pub wires_apart : (i : ℕ) → i < length g.wires → IsListed g w.book i → composed g other i ≡ composed g w i
    wires_apart i h listed = apart_below (suc (rank i)) i h (omega arith) listed

    pub sinks_apart : (k : ℕ) (n : Node) → HasLists g w.book k → sink_outlook g other k n ≡ sink_outlook g w k n
    sinks_apart k n lists =
        ap (λ (is : List Outlook). of_work w.book k n.decider (work_of n.kind) is)
        (ports_apart (composed g other) (composed g w) k (λ i v vi to. wires_apart i (slice_get-below g.wires i v vi) (lists i v vi to)) (count_from 0 1))

-- ---- where every custom stage tells a list

pub all_listed : (g : Graph) (c : Book) → AllTell g c → (i : ℕ) → IsListed g c i
all_listed g c tell k (begins i v n vi ni e) = let t = tell v.from n ni in cc
all_listed g c tell k (goes_on i j u v ui vi to h) = all_listed g c tell i h
