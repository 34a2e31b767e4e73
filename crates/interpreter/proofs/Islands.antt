-- What an island is made of is what its engine needs.
use Rattle.std.proofs.Common.{◌≡◌, ℕ, zero, suc, ◌+◌, ◌*◌, ◌<◌, ◌≤◌, inl, inr, Bool, not, Some, None, List, [], ◌∷◌, ◌++◌, length, map, take, get_or, slice_get, replicate, refl, sym, ap, ◌∙◌, subst, arith, append_assoc, min}
use Rattle.std.proofs.lemmas.Bool.{cases_lt}
use Rattle.std.proofs.lemmas.List.{length-map}
use Rattle.std.proofs.lemmas.Option.{slice_get_within}
use Rattle.port_core.specs.declared.view.InView.TheVariants.{Idle}
use Rattle.port_core.specs.declared.view.OutView.TheVariants.{Unpulled}
use Rattle.nodes.proofs.Sinks.{new_fresh}
use Rattle.nodes.specs.Kinds.{writes_of}
use Rattle.nodes.specs.Nodes.{node_fresh, node_port_state, node_law, node_asking, node_moves}
use Rattle.nodes.specs.declared.node.IslandNode.{IslandNode}
use Rattle.nodes.specs.declared.node.IslandNode.TheVariants as node
use Rattle.fused_net.specs.PortLists.{PortLists}
use Rattle.fused_net.specs.declared.net.WireEnds.{WireEnds}
use Rattle.fused_net.specs.Net.{Net, port_at, no_ports}
use Rattle.stream_io.specs.State.{SourceState, DrainState}
use Rattle.fused_net.specs.Laws.{HaveRoom, first_view, Wired, Settled}
use Rattle.fused_net.specs.Costs.{all_asks}
use Rattle.interpreter.specs.declared.island.IslandEnd.{IslandEnd}
use Rattle.interpreter.specs.declared.parts.Link.{Link}
use Rattle.interpreter.specs.declared.parts.Place.{Place}
use Rattle.interpreter.specs.declared.parts.Seated.{Seated}
use Rattle.interpreter.specs.declared.parts.Work.{Work}
use Rattle.interpreter.specs.declared.parts.Work.TheVariants.{Reading, Making, Linear, State, Sub, FanIn, FanOut, Custom, Writing, LaneIn, LaneOut}
use Rattle.interpreter.specs.Parts.{work_inputs, work_outputs, inputs_at, outputs_at, IsUnused, AllUnused, BecomesOf, AllBecome, IsSized, seat_place, ends_of}
use Rattle.stream_model.specs.declared.kind.Kind.{Kind}
use Rattle.stream_model.specs.declared.kind.Kind.TheVariants as kind
use Rattle.stage_core.specs.declared.phase.Phase.TheVariants.{New}
use Rattle.nodes.specs.Kinds.{maker_of}
use Rattle.stream_model.specs.declared.outcome.WireCount.{WireCount}
use Rattle.port_core.specs.Decoding.{is_open}
use Rattle.port_core.specs.Cell.{WireState}
use Rattle.elem_core.specs.Items.{elements}
use Rattle.interpreter.specs.Island.{IslandKeeps, state_count, counts_of, sinks_of, readers_of, writers_of}
use Rattle.interpreter.specs.Picks.{place_number}
use Rattle.interpreter.specs.Room.{HasRoom, CallsFit}
use Rattle.stream_model.specs.Linear.{Book}
use Rattle.interpreter.specs.Parts.{input_count_at, output_count_at}
use Rattle.interpreter.proofs.Tables.{ins_of_places, outs_of_places}

some_same : {A : Type 0} (x y : A) → Some x ≡ Some y → x ≡ y
some_same x y e = cc

pub same_count : {S D L H B : Type 0} (places : List (Seated S D L H B)) (nodes : List (IslandNode S D L H B)) → AllBecome places nodes → length nodes ≡ length places
same_count [] [] h = refl
same_count [] (x ∷ xs) h = absurd h
same_count (s ∷ ss) [] h = absurd h
same_count (s ∷ ss) (x ∷ xs) h = ap suc (same_count ss xs h.1)

new_maker : (k : ℕ) (kind : Kind) → (maker_of k kind).phase ≡ New
new_maker k (kind.Range low high) = refl
new_maker k (kind.Empty b) = refl
new_maker k _ = refl

becomes_fresh : {S D L H B : Type 0} (k room : ℕ) (w : Work S D L H B) (x : IslandNode S D L H B) → IsUnused w → BecomesOf k room w x → node_fresh x (record { ins = replicate (work_inputs w) Idle; outs = replicate (work_outputs w) Unpulled })
becomes_fresh k room (Reading r) x u b = rw b (record { phase = refl; drawn = refl; kept = u; port = refl })
becomes_fresh k room (Making kind) x u b = rw b (record { phase = new_maker k kind; port = refl })
becomes_fresh k room (Linear l) x u b = rw b u
becomes_fresh k room (State l) x u b = rw b u
becomes_fresh k room (Sub l) x u b = rw b u
becomes_fresh k room (FanIn l n) x u b = rw b u
becomes_fresh k room (FanOut l n) x u b = rw b u
becomes_fresh k room (Custom l n m) x u b = rw b u
becomes_fresh k room (Writing kind (Some d)) x u b = rw b (new_fresh k (writes_of kind) _ d)
becomes_fresh k room (Writing kind None) x u b = rw b (record { started = refl; end = refl; port = refl })
becomes_fresh k room (LaneIn u) x t b = rw b refl
becomes_fresh k room (LaneOut u) x t b = rw b (record { waits = refl; gone = refl; port = refl })

-- the node at place n
fresh_at : {S D L H B : Type 0} (places : List (Seated S D L H B)) (nodes : List (IslandNode S D L H B)) (n : ℕ) (x : IslandNode S D L H B) → AllUnused places → AllBecome places nodes → slice_get nodes n ≡ Some x
    → node_fresh x (record { ins = replicate (inputs_at places n) Idle; outs = replicate (outputs_at places n) Unpulled })
fresh_at [] [] n x u b e = absurd cc
fresh_at [] (y ∷ ys) n x u b e = absurd b
fresh_at (s ∷ ss) [] n x u b e = absurd b
fresh_at (s ∷ ss) (y ∷ ys) zero x u b e = let same : y ≡ x = some_same y x e in becomes_fresh s.node s.room s.work x u.0 (subst (λ z. BecomesOf s.node s.room s.work z) same b.0)
fresh_at (s ∷ ss) (y ∷ ys) (suc n) x u b e = fresh_at ss ys n x u.1 b.1 e

pub all_fresh : {S D L H B : Type 0} (places : List (Seated S D L H B)) (nodes : List (IslandNode S D L H B)) (ports : List PortLists) → AllUnused places → AllBecome places nodes → IsSized (inputs_at places) (outputs_at places) (length places) ports
    → (n : ℕ) (x : IslandNode S D L H B) → slice_get nodes n ≡ Some x → node_fresh x (first_view (port_at ports n))
all_fresh places nodes ports u b z n x e =
    let h : n < length places = rw (sym (same_count places nodes b)) (slice_get_within nodes n x e) in
    rw (z.ins_are n h, z.outs_are n h) (fresh_at places nodes n x u b e)

-- as many wires as links
pub ends_many : {X : Type 0} (links : List Link) (ends : List WireEnds) (f : ℕ → X) → ends ≡ map ends_of links → f (length links) ≡ f (length ends)
ends_many links ends f e = rw e (rw length-map refl)

pub parts_wired : {S D L H B : Type 0} (seats : List (Seated S D L H B)) (nodes : List (IslandNode S D L H B)) (ends : List WireEnds) (rows ports : List PortLists) → AllBecome seats nodes → length rows ≡ length seats → Wired ends ports (length rows) (length ends) → Wired ends ports (length nodes) (length ends)
parts_wired seats nodes ends rows ports b e w = rw (same_count seats nodes b) (rw e at w)

-- the counts of the first wires
counts_next : (ns : List ℕ) (cs : List WireState) (i d : ℕ) (e : WireState) → i < length ns → i < length cs
    → counts_of (take (i + 1) ns) (take (i + 1) cs) ≡ counts_of (take i ns) (take i cs) ++ (get_or ns i d, state_count (get_or cs i e)) ∷ []
counts_next [] cs i d e h k = absurd (omega arith)
counts_next (m ∷ ns) [] i d e h k = absurd (omega arith)
counts_next (m ∷ ns) (c ∷ cs) zero d e h k = refl
counts_next (m ∷ ns) (c ∷ cs) (suc i) d e h k =
    let j : suc i + 1 ≡ suc (i + 1) = omega arith in
    rw j (ap (λ (l : List (ℕ × WireCount)). (m, state_count c) ∷ l) (counts_next ns cs i d e (omega arith) (omega arith)))

pub counts_step : (ns : List ℕ) (cs : List WireState) (i d : ℕ) (c : WireState) (old new : List (ℕ × WireCount)) (s : ℕ) (a z : Bool) → i < length ns → i < length cs → c ≡ get_or cs i c
    → new ≡ old ++ (get_or ns i d, record { sent = s; asked = a; shut = z }) ∷ [] → old ≡ counts_of (take i ns) (take i cs)
    → s ≡ elements c.wire.sent → a ≡ c.asked → z ≡ not (is_open c.wire.conn) → new ≡ counts_of (take (i + 1) ns) (take (i + 1) cs)
counts_step ns cs i d c old new s a z h k at is was es ea ez =
    rw (is, was, es, ea, ez) (ap (λ (x : WireState). counts_of (take i ns) (take i cs) ++ (get_or ns i d, state_count x) ∷ []) at ∙ sym (counts_next ns cs i d c h k))

pub counts_all : (ns : List ℕ) (cs : List WireState) (n : ℕ) → n ≡ min (length ns) (length cs) → counts_of (take n ns) (take n cs) ≡ counts_of ns cs
counts_all [] cs n e = let z : n ≡ 0 = omega arith in rw z refl
counts_all (m ∷ ns) [] n e = let z : n ≡ 0 = omega arith in rw z refl
counts_all (m ∷ ns) (d ∷ cs) zero e = absurd (omega arith)
counts_all (m ∷ ns) (d ∷ cs) (suc n) e = ap (λ (l : List (ℕ × WireCount)). (m, state_count d) ∷ l) (counts_all ns cs n (omega arith))

-- what the nodes that are left will add
pub left_next : {A B : Type 0} (f : List A → List B) → ((x : A) (xs : List A) → f (x ∷ xs) ≡ f (x ∷ []) ++ f xs) → (old new : List A) (x : A) (was now all : List B) → old ≡ x ∷ new → now ≡ was ++ f (x ∷ []) → was ++ f old ≡ all → now ++ f new ≡ all
left_next f cut old new x was now all e is h = rw is (append_assoc was (f (x ∷ [])) (f new) ∙ ap (λ (l : List _). was ++ l) (sym (cut x new)) ∙ (rw e at h))

pub sinks_cut : {S D L H B : Type 0} (x : IslandNode S D L H B) (xs : List (IslandNode S D L H B)) → sinks_of (x ∷ xs) ≡ sinks_of (x ∷ []) ++ sinks_of xs
sinks_cut (node.Reading x) xs = refl
sinks_cut (node.Making x) xs = refl
sinks_cut (node.Linear x) xs = refl
sinks_cut (node.State x) xs = refl
sinks_cut (node.Sub x) xs = refl
sinks_cut (node.FanIn x) xs = refl
sinks_cut (node.FanOut x) xs = refl
sinks_cut (node.Custom x) xs = refl
sinks_cut (node.Writing x) xs = refl
sinks_cut (node.Ignoring x) xs = refl
sinks_cut (node.Entering x) xs = refl
sinks_cut (node.Leaving x) xs = refl

pub readers_cut : {S D L H B : Type 0} (x : IslandNode S D L H B) (xs : List (IslandNode S D L H B)) → readers_of (x ∷ xs) ≡ readers_of (x ∷ []) ++ readers_of xs
readers_cut (node.Reading x) xs = refl
readers_cut (node.Making x) xs = refl
readers_cut (node.Linear x) xs = refl
readers_cut (node.State x) xs = refl
readers_cut (node.Sub x) xs = refl
readers_cut (node.FanIn x) xs = refl
readers_cut (node.FanOut x) xs = refl
readers_cut (node.Custom x) xs = refl
readers_cut (node.Writing x) xs = refl
readers_cut (node.Ignoring x) xs = refl
readers_cut (node.Entering x) xs = refl
readers_cut (node.Leaving x) xs = refl

pub writers_cut : {S D L H B : Type 0} (x : IslandNode S D L H B) (xs : List (IslandNode S D L H B)) → writers_of (x ∷ xs) ≡ writers_of (x ∷ []) ++ writers_of xs
writers_cut (node.Reading x) xs = refl
writers_cut (node.Making x) xs = refl
writers_cut (node.Linear x) xs = refl
writers_cut (node.State x) xs = refl
writers_cut (node.Sub x) xs = refl
writers_cut (node.FanIn x) xs = refl
writers_cut (node.FanOut x) xs = refl
writers_cut (node.Custom x) xs = refl
writers_cut (node.Writing x) xs = refl
writers_cut (node.Ignoring x) xs = refl
writers_cut (node.Entering x) xs = refl
writers_cut (node.Leaving x) xs = refl

-- an island that was started
pub keeps_new : {S D L H B : Type 0} (sources : S → SourceState) (drains : D → DrainState) (book : Book) (old new : Net (IslandNode S D L H B)) → Settled node_port_state (node_law sources drains book) node_asking node_moves new → all_asks new ≤ all_asks old → all_asks old ≡ 0 → IslandKeeps sources drains book new 0
keeps_new sources drains book old new s h e = record { laws = s; asks = omega (arith, h, e); within = omega arith }

-- the room is for these numbers of nodes and wires
pub room_as : {S D : Type 0} (room : IslandEnd S D) (nodes wires more_nodes more_wires : ℕ) → HasRoom room nodes wires → more_nodes ≡ nodes → more_wires ≡ wires → HasRoom room more_nodes more_wires
room_as room nodes wires more_nodes more_wires h e f = rw (e, f) h

-- the numbers of places are those of their works
pub numbers_same : {S D L H B : Type 0} (seats : List (Seated S D L H B)) → map (λ (p : Place). p.node) (map seat_place seats) ≡ map place_number seats
numbers_same [] = refl
numbers_same (s ∷ ss) = ap (λ (l : List ℕ). s.node ∷ l) (numbers_same ss)

-- ---- room for what a call appends

-- behind the last row there are no ports
no_row : (ports : List PortLists) (n : ℕ) → length ports ≤ n → port_at ports n ≡ no_ports
no_row [] zero h = refl
no_row [] (suc n) h = refl
no_row (p ∷ ports) zero h = absurd (omega (arith, h))
no_row (p ∷ ports) (suc n) h = no_row ports n (omega (arith, h))

-- room that is enough at each place is enough for each node there
pub calls_fit : {S D L H B : Type 0} (seats : List (Seated S D L H B)) (ports : List PortLists) (room : ℕ) → IsSized (inputs_at seats) (outputs_at seats) (length seats) ports → CallsFit (map seat_place seats) room → HaveRoom ports room
calls_fit seats ports room z h n = elim (cases_lt n (length seats)) [
  | inl lt ↦
      let a : 2 * (input_count_at (map seat_place seats) n + output_count_at (map seat_place seats) n) ≤ room = h n in
      let i : length (port_at ports n).ins ≡ inputs_at seats n = z.ins_are n lt in
      let o : length (port_at ports n).outs ≡ outputs_at seats n = z.outs_are n lt in
      let p : input_count_at (map seat_place seats) n ≡ inputs_at seats n = ins_of_places seats n in
      let q : output_count_at (map seat_place seats) n ≡ outputs_at seats n = outs_of_places seats n in
      omega (arith, a, i, o, p, q)
  | inr ge ↦ rw (no_row ports n (let c : length ports ≡ length seats = z.count in omega (arith, c, ge))) (omega arith)
]
