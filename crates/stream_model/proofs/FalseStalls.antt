-- These pictures are lawful, and do not rest.
use Rattle.std.specs.Prelude.{slice_get, pos, codes}
use Rattle.std.proofs.Common.{◌≡◌, ℕ, zero, suc, ◌+◌, ◌≤◌, Bool, true, false, inl, inr, List, [], ◌∷◌, take, refl, sym, ap, ◌∙◌, subst, arith, Some, None}
use Rattle.elem_core.specs.Tree.{Tree}
use Rattle.elem_core.specs.declared.function.MapFn.TheVariants as f
use Rattle.elem_core.specs.declared.function.Pred.TheVariants as p
use Rattle.stream_model.specs.declared.kind.Joining.TheVariants as joining
use Rattle.stream_model.specs.declared.kind.Kind.TheVariants as k
use Rattle.stream_model.specs.declared.outcome.WireCount.{WireCount}
use Rattle.stream_model.specs.Fits.{Fits, moves_fit, inputs, valve_order}
use Rattle.stream_model.specs.Graph.{Graph, Node}
use Rattle.stream_model.specs.Composed.{composed}
use Rattle.stream_model.specs.Picks.{count_of}
use Rattle.stream_model.specs.Samples.{node}
use Rattle.stream_model.specs.View.{SeenWire, ins, outs, EachWire}
use Rattle.stream_model.specs.Rests.{Rests, InterleaveRests, SortedRests, PartitionRests, MergeRests, numbered}
use Rattle.stream_model.specs.Lawful.{WireLawful, RowLawful, IsLawful}
use Rattle.stream_model.specs.Stalled.{no_files}
use Rattle.stream_model.specs.FalseStalls.{in_turns, sorted, by_parity, nothing_sent, one_sent, doubling, four_moves, one_given, merged, one_move, one_merged}

no_shut : false ≡ true → ⊥
no_shut e = cc

no_none : {v : List ℕ × ℕ} → None ≡ Some v → ⊥
no_none e = cc

has_no_order : (m n : Node) → Some m ≡ Some n → (moves : List ℕ) (v : List ℕ × ℕ) → valve_order m.kind moves ≡ None → valve_order n.kind moves ≡ Some v → ⊥
has_no_order m n h moves v none some = let e : m ≡ n = cc in no_none (sym none ∙ ap (λ (x : Node). valve_order x.kind moves) e ∙ some)

abbrev Lawfully : Graph → List WireCount → ℕ → Node → Type 0
Lawfully g counts i n = RowLawful g no_files i n.kind n.decider (ins g counts (composed g no_files) i n) (outs g counts (composed g no_files) i n)

lawful_at : (g : Graph) (counts : List WireCount) (i : ℕ) (m n : Node) → Some m ≡ Some n → Lawfully g counts i m → Lawfully g counts i n
lawful_at g counts i m n h r = let e : m ≡ n = cc in subst (Lawfully g counts i) e r

abbrev WiresLawful : Graph → List WireCount → ℕ → Node → Type 0
WiresLawful g counts i n = EachWire WireLawful (ins g counts (composed g no_files) i n)

wires_at : (g : Graph) (counts : List WireCount) (i : ℕ) (m n : Node) → Some m ≡ Some n → WiresLawful g counts i m → WiresLawful g counts i n
wires_at g counts i m n h r = let e : m ≡ n = cc in subst (WiresLawful g counts i) e r

turned_rows : (i : ℕ) (n : Node) → slice_get in_turns.nodes i ≡ Some n → Lawfully in_turns nothing_sent i n
turned_rows zero n h = lawful_at in_turns nothing_sent 0 _ n h (tt)
turned_rows (suc zero) n h = lawful_at in_turns nothing_sent 1 _ n h ((omega arith, (omega arith, tt)), (inr (omega arith), (inr (omega arith), tt)), λ shut. absurd (no_shut shut.0))
turned_rows (suc (suc zero)) n h = lawful_at in_turns nothing_sent 2 _ n h (omega arith, omega arith)
turned_rows (suc (suc (suc zero))) n h = lawful_at in_turns nothing_sent 3 _ n h (omega arith, omega arith)
turned_rows (suc (suc (suc (suc zero)))) n h = lawful_at in_turns nothing_sent 4 _ n h (tt)
turned_rows (suc (suc (suc (suc (suc i))))) n h = cc

turned_wires : (i : ℕ) (n : Node) → slice_get in_turns.nodes i ≡ Some n → WiresLawful in_turns nothing_sent i n
turned_wires zero n h = wires_at in_turns nothing_sent 0 _ n h tt
turned_wires (suc zero) n h = wires_at in_turns nothing_sent 1 _ n h ((omega arith, λ unasked. omega arith), tt)
turned_wires (suc (suc zero)) n h = wires_at in_turns nothing_sent 2 _ n h ((omega arith, λ unasked. omega arith), tt)
turned_wires (suc (suc (suc zero))) n h = wires_at in_turns nothing_sent 3 _ n h ((omega arith, λ unasked. omega arith), ((omega arith, λ unasked. omega arith), tt))
turned_wires (suc (suc (suc (suc zero)))) n h = wires_at in_turns nothing_sent 4 _ n h ((omega arith, λ unasked. omega arith), tt)
turned_wires (suc (suc (suc (suc (suc i))))) n h = cc

turned_orders : (i : ℕ) (n : Node) (v : List ℕ × ℕ) → slice_get in_turns.nodes i ≡ Some n → valve_order n.kind (no_files.moves i) ≡ Some v → ⊥
turned_orders zero n v h e = has_no_order _ n h [] v refl e
turned_orders (suc zero) n v h e = has_no_order _ n h [] v refl e
turned_orders (suc (suc zero)) n v h e = has_no_order _ n h [] v refl e
turned_orders (suc (suc (suc zero))) n v h e = has_no_order _ n h [] v refl e
turned_orders (suc (suc (suc (suc zero)))) n v h e = has_no_order _ n h [] v refl e
turned_orders (suc (suc (suc (suc (suc i))))) n v h e = cc

pub turned_lawful : IsLawful in_turns no_files nothing_sent (composed in_turns no_files)
turned_lawful = record { wires = turned_wires; nodes = turned_rows; valves = λ i n v h e. absurd (turned_orders i n v h e) }

sorted_rows : (i : ℕ) (n : Node) → slice_get sorted.nodes i ≡ Some n → Lawfully sorted nothing_sent i n
sorted_rows zero n h = lawful_at sorted nothing_sent 0 _ n h (tt)
sorted_rows (suc zero) n h = lawful_at sorted nothing_sent 1 _ n h ((omega arith, (omega arith, tt)), (inr (omega arith), (inr (omega arith), tt)), λ shut. absurd (no_shut shut.0))
sorted_rows (suc (suc zero)) n h = lawful_at sorted nothing_sent 2 _ n h (omega arith, omega arith)
sorted_rows (suc (suc (suc zero))) n h = lawful_at sorted nothing_sent 3 _ n h (omega arith, omega arith)
sorted_rows (suc (suc (suc (suc zero)))) n h = lawful_at sorted nothing_sent 4 _ n h (tt)
sorted_rows (suc (suc (suc (suc (suc i))))) n h = cc

sorted_wires : (i : ℕ) (n : Node) → slice_get sorted.nodes i ≡ Some n → WiresLawful sorted nothing_sent i n
sorted_wires zero n h = wires_at sorted nothing_sent 0 _ n h tt
sorted_wires (suc zero) n h = wires_at sorted nothing_sent 1 _ n h ((omega arith, λ unasked. omega arith), tt)
sorted_wires (suc (suc zero)) n h = wires_at sorted nothing_sent 2 _ n h ((omega arith, λ unasked. omega arith), tt)
sorted_wires (suc (suc (suc zero))) n h = wires_at sorted nothing_sent 3 _ n h ((omega arith, λ unasked. omega arith), ((omega arith, λ unasked. omega arith), tt))
sorted_wires (suc (suc (suc (suc zero)))) n h = wires_at sorted nothing_sent 4 _ n h ((omega arith, λ unasked. omega arith), tt)
sorted_wires (suc (suc (suc (suc (suc i))))) n h = cc

sorted_orders : (i : ℕ) (n : Node) (v : List ℕ × ℕ) → slice_get sorted.nodes i ≡ Some n → valve_order n.kind (no_files.moves i) ≡ Some v → ⊥
sorted_orders zero n v h e = has_no_order _ n h [] v refl e
sorted_orders (suc zero) n v h e = has_no_order _ n h [] v refl e
sorted_orders (suc (suc zero)) n v h e = has_no_order _ n h [] v refl e
sorted_orders (suc (suc (suc zero))) n v h e = has_no_order _ n h [] v refl e
sorted_orders (suc (suc (suc (suc zero)))) n v h e = has_no_order _ n h [] v refl e
sorted_orders (suc (suc (suc (suc (suc i))))) n v h e = cc

pub sorted_lawful : IsLawful sorted no_files nothing_sent (composed sorted no_files)
sorted_lawful = record { wires = sorted_wires; nodes = sorted_rows; valves = λ i n v h e. absurd (sorted_orders i n v h e) }

parted_rows : (i : ℕ) (n : Node) → slice_get by_parity.nodes i ≡ Some n → Lawfully by_parity one_sent i n
parted_rows zero n h = lawful_at by_parity one_sent 0 _ n h (tt)
parted_rows (suc zero) n h = lawful_at by_parity one_sent 1 _ n h (((omega arith, λ asked. inr (omega arith)), ((omega arith, λ asked. inr (omega arith)), tt)), λ all_open. λ asked. omega arith)
parted_rows (suc (suc zero)) n h = lawful_at by_parity one_sent 2 _ n h ((omega arith, omega arith), ((omega arith, omega arith), tt))
parted_rows (suc (suc (suc zero))) n h = lawful_at by_parity one_sent 3 _ n h (tt)
parted_rows (suc (suc (suc (suc i)))) n h = cc

parted_wires : (i : ℕ) (n : Node) → slice_get by_parity.nodes i ≡ Some n → WiresLawful by_parity one_sent i n
parted_wires zero n h = wires_at by_parity one_sent 0 _ n h tt
parted_wires (suc zero) n h = wires_at by_parity one_sent 1 _ n h ((omega arith, λ unasked. omega arith), tt)
parted_wires (suc (suc zero)) n h = wires_at by_parity one_sent 2 _ n h ((omega arith, λ unasked. omega arith), ((omega arith, λ unasked. omega arith), tt))
parted_wires (suc (suc (suc zero))) n h = wires_at by_parity one_sent 3 _ n h ((omega arith, λ unasked. omega arith), tt)
parted_wires (suc (suc (suc (suc i)))) n h = cc

parted_orders : (i : ℕ) (n : Node) (v : List ℕ × ℕ) → slice_get by_parity.nodes i ≡ Some n → valve_order n.kind (no_files.moves i) ≡ Some v → ⊥
parted_orders zero n v h e = has_no_order _ n h [] v refl e
parted_orders (suc zero) n v h e = has_no_order _ n h [] v refl e
parted_orders (suc (suc zero)) n v h e = has_no_order _ n h [] v refl e
parted_orders (suc (suc (suc zero))) n v h e = has_no_order _ n h [] v refl e
parted_orders (suc (suc (suc (suc i)))) n v h e = cc

pub parted_lawful : IsLawful by_parity no_files one_sent (composed by_parity no_files)
parted_lawful = record { wires = parted_wires; nodes = parted_rows; valves = λ i n v h e. absurd (parted_orders i n v h e) }

-- ---- the moves of substreams that are merged

doubles_orders : (i : ℕ) (n : Node) (v : List ℕ × ℕ) → slice_get doubling.nodes i ≡ Some n → valve_order n.kind (four_moves.moves i) ≡ Some v → ⊥
doubles_orders zero n v h e = has_no_order _ n h (four_moves.moves 0) v refl e
doubles_orders (suc zero) n v h e = has_no_order _ n h (four_moves.moves 1) v refl e
doubles_orders (suc (suc zero)) n v h e = has_no_order _ n h (four_moves.moves 2) v refl e
doubles_orders (suc (suc (suc i))) n v h e = cc

fits_at : (i : ℕ) (m n : Node) → Some m ≡ Some n → moves_fit doubling four_moves i m.kind (inputs doubling four_moves i m) ≡ true → moves_fit doubling four_moves i n.kind (inputs doubling four_moves i n) ≡ true
fits_at i m n h r = let e : m ≡ n = cc in subst (λ (x : Node). moves_fit doubling four_moves i x.kind (inputs doubling four_moves i x) ≡ true) e r

doubles_each : (i : ℕ) (n : Node) → slice_get doubling.nodes i ≡ Some n → moves_fit doubling four_moves i n.kind (inputs doubling four_moves i n) ≡ true
doubles_each zero n h = fits_at 0 _ n h refl
doubles_each (suc zero) n h = fits_at 1 _ n h refl
doubles_each (suc (suc zero)) n h = fits_at 2 _ n h refl
doubles_each (suc (suc (suc i))) n h = cc

pub doubles_fit : Fits doubling four_moves
doubles_fit = record { each = doubles_each; given = λ i n v h e. absurd (doubles_orders i n v h e); one = λ i j n m v u h k e f same. absurd (doubles_orders i n v h e) }

-- ---- a merge

abbrev MergedLawfully : ℕ → Node → Type 0
MergedLawfully i n = RowLawful merged one_move i n.kind n.decider (ins merged one_merged (composed merged one_move) i n) (outs merged one_merged (composed merged one_move) i n)

merged_lawful_at : (i : ℕ) (m n : Node) → Some m ≡ Some n → MergedLawfully i m → MergedLawfully i n
merged_lawful_at i m n h r = let e : m ≡ n = cc in subst (MergedLawfully i) e r

merged_rows : (i : ℕ) (n : Node) → slice_get merged.nodes i ≡ Some n → MergedLawfully i n
merged_rows zero n h = merged_lawful_at 0 _ n h (tt)
merged_rows (suc zero) n h = merged_lawful_at 1 _ n h (tt)
merged_rows (suc (suc zero)) n h = merged_lawful_at 2 _ n h ((omega arith, (omega arith, tt)), (inr (omega arith), (inr (omega arith), tt)), λ shut. absurd (no_shut shut.0))
merged_rows (suc (suc (suc zero))) n h = merged_lawful_at 3 _ n h (refl, ((omega arith, omega arith), ((omega arith, omega arith), tt)))
merged_rows (suc (suc (suc (suc zero)))) n h = merged_lawful_at 4 _ n h ((omega arith, omega arith), ((omega arith, omega arith), tt))
merged_rows (suc (suc (suc (suc (suc zero))))) n h = merged_lawful_at 5 _ n h (tt)
merged_rows (suc (suc (suc (suc (suc (suc i)))))) n h = cc

abbrev MergedWires : ℕ → Node → Type 0
MergedWires i n = EachWire WireLawful (ins merged one_merged (composed merged one_move) i n)

merged_wires_at : (i : ℕ) (m n : Node) → Some m ≡ Some n → MergedWires i m → MergedWires i n
merged_wires_at i m n h r = let e : m ≡ n = cc in subst (MergedWires i) e r

merged_wires : (i : ℕ) (n : Node) → slice_get merged.nodes i ≡ Some n → MergedWires i n
merged_wires zero n h = merged_wires_at 0 _ n h tt
merged_wires (suc zero) n h = merged_wires_at 1 _ n h tt
merged_wires (suc (suc zero)) n h = merged_wires_at 2 _ n h ((omega arith, λ unasked. omega arith), tt)
merged_wires (suc (suc (suc zero))) n h = merged_wires_at 3 _ n h ((omega arith, λ unasked. omega arith), ((omega arith, λ unasked. omega arith), tt))
merged_wires (suc (suc (suc (suc zero)))) n h = merged_wires_at 4 _ n h ((omega arith, λ unasked. omega arith), ((omega arith, λ unasked. omega arith), tt))
merged_wires (suc (suc (suc (suc (suc zero))))) n h = merged_wires_at 5 _ n h ((omega arith, λ unasked. omega arith), tt)
merged_wires (suc (suc (suc (suc (suc (suc i)))))) n h = cc

merged_orders : (i : ℕ) (n : Node) (v : List ℕ × ℕ) → slice_get merged.nodes i ≡ Some n → valve_order n.kind (one_move.moves i) ≡ Some v → ⊥
merged_orders zero n v h e = has_no_order _ n h (one_move.moves 0) v refl e
merged_orders (suc zero) n v h e = has_no_order _ n h (one_move.moves 1) v refl e
merged_orders (suc (suc zero)) n v h e = has_no_order _ n h (one_move.moves 2) v refl e
merged_orders (suc (suc (suc zero))) n v h e = has_no_order _ n h (one_move.moves 3) v refl e
merged_orders (suc (suc (suc (suc zero)))) n v h e = has_no_order _ n h (one_move.moves 4) v refl e
merged_orders (suc (suc (suc (suc (suc zero))))) n v h e = has_no_order _ n h (one_move.moves 5) v refl e
merged_orders (suc (suc (suc (suc (suc (suc i)))))) n v h e = cc

pub merged_lawful : IsLawful merged one_move one_merged (composed merged one_move)
merged_lawful = record { wires = merged_wires; nodes = merged_rows; valves = λ i n v h e. absurd (merged_orders i n v h e) }

merged_fits_at : (i : ℕ) (m n : Node) → Some m ≡ Some n → moves_fit merged one_move i m.kind (inputs merged one_move i m) ≡ true → moves_fit merged one_move i n.kind (inputs merged one_move i n) ≡ true
merged_fits_at i m n h r = let e : m ≡ n = cc in subst (λ (x : Node). moves_fit merged one_move i x.kind (inputs merged one_move i x) ≡ true) e r

merged_each : (i : ℕ) (n : Node) → slice_get merged.nodes i ≡ Some n → moves_fit merged one_move i n.kind (inputs merged one_move i n) ≡ true
merged_each zero n h = merged_fits_at 0 _ n h refl
merged_each (suc zero) n h = merged_fits_at 1 _ n h refl
merged_each (suc (suc zero)) n h = merged_fits_at 2 _ n h refl
merged_each (suc (suc (suc zero))) n h = merged_fits_at 3 _ n h refl
merged_each (suc (suc (suc (suc zero)))) n h = merged_fits_at 4 _ n h refl
merged_each (suc (suc (suc (suc (suc zero))))) n h = merged_fits_at 5 _ n h refl
merged_each (suc (suc (suc (suc (suc (suc i)))))) n h = cc

pub merged_fit : Fits merged one_move
merged_fit = record { each = merged_each; given = λ i n v h e. absurd (merged_orders i n v h e); one = λ i j n m v u h k e f same. absurd (merged_orders i n v h e) }

-- ---- none of them rests

abbrev seen_at : ℕ → ℕ → Bool → List Tree → SeenWire
seen_at wire sent asked list = record { wire = wire; sent = sent; asked = asked; shut = false; lane = None; list = list }

not_true : false ≡ true → ⊥
not_true e = cc

not_false : true ≡ false → ⊥
not_false e = cc

-- it is the turn of input 0
other_turn : (p : ℕ) → Some 0 ≡ Some p → 1 ≡ p → ⊥
other_turn p e f = let z : 0 ≡ p = cc in absurd (omega (arith, z, f))

turned_row : (l m n : List Tree) → InterleaveRests 1 (seen_at 1 0 false l ∷ seen_at 3 0 true m ∷ []) (seen_at 4 0 true n) → ⊥
turned_row l m n (inr h) = not_false h.0.0
turned_row l m n (inl (asked, (p, inl first, stops))) = not_true first.1.0
turned_row l m n (inl (asked, (p, inr (idle, inr none), stops))) = none.1
turned_row l m n (inl (asked, (p, inr (idle, inl second), inl (inl lane)))) = not_true lane
turned_row l m n (inl (asked, (p, inr (idle, inl second), inl (inr (inl lane))))) = not_true lane
turned_row l m n (inl (asked, (p, inr (idle, inl second), inl (inr (inr none))))) = none
turned_row l m n (inl (asked, (p, inr (idle, inl second), inr stops))) = other_turn p stops second.0

pub turned_does_not_rest : Rests in_turns no_files nothing_sent (composed in_turns no_files) → ⊥
turned_does_not_rest r = elim (r 3 (node (k.Interleave 2 1)) refl) [ inl h ↦ not_true h.0.0 | inr h ↦ turned_row (composed in_turns no_files 1).list (composed in_turns no_files 3).list (composed in_turns no_files 4).list h ]

-- input 0 does not wait, and nothing of it waits in the stage
nothing_waits : (h k : ℕ) → h ≡ 1 → 0 + (h + k) ≤ 0 + 0 → ⊥
nothing_waits h k one few = absurd (omega (arith, one, few))

sorted_row : (l m n : List Tree) → SortedRests (seen_at 1 0 false l ∷ seen_at 3 0 true m ∷ []) (seen_at 4 0 true n) → ⊥
sorted_row l m n (stands, (h, k, inl waits, other, few, all)) = not_true waits.0.0
sorted_row l m n (stands, (h, k, inr (inl one), other, few, all)) = nothing_waits h k one.2 few
sorted_row l m n (stands, (h, k, inr (inr (inl shut, most)), other, few, all)) = not_true shut
sorted_row l m n (stands, (h, k, inr (inr (inr lane, most)), other, few, all)) = not_true lane

pub sorted_does_not_rest : Rests sorted no_files nothing_sent (composed sorted no_files) → ⊥
sorted_does_not_rest r = elim (r 3 (node k.MergeSorted) refl) [ inl h ↦ not_true h.0.0 | inr h ↦ sorted_row (composed sorted no_files 1).list (composed sorted no_files 3).list (composed sorted no_files 4).list h ]

-- it holds nothing, and output 1 is asked
one_not_two : (n : ℕ) → n ≡ 1 → n ≡ 1 + 1 → ⊥
one_not_two n one two = absurd (omega (arith, one, two))

parted_row : (given : ℕ → List Tree → ℕ) (l m n : List Tree) → given 0 (take 1 l) ≡ 1 → PartitionRests given (seen_at 0 1 false l) (seen_at 1 1 false m ∷ seen_at 2 0 true n ∷ []) → ⊥
parted_row given l m n one (inl waits) = not_true waits.0
parted_row given l m n one (inr (idle, inl (inl (unasked, inl lane)))) = not_true lane
parted_row given l m n one (inr (idle, inl (inl (unasked, inr owed)))) = one_not_two (given 0 (take 1 l)) one owed
parted_row given l m n one (inr (idle, inl (inr (inl second)))) = not_false second.0.0
parted_row given l m n one (inr (idle, inl (inr (inr none)))) = none
parted_row given l m n one (inr (idle, inr (some, (first, (inl shut, rest))))) = not_true shut
parted_row given l m n one (inr (idle, inr (some, (first, (inr unasked, rest))))) = not_false unasked.0

pub parted_does_not_rest : Rests by_parity no_files one_sent (composed by_parity no_files) → ⊥
parted_does_not_rest r =
    elim (r 1 (node (k.Partition 2 (f.Add (pos 0)))) refl) [
      | inl h ↦ not_true h.0.0
      | inr h ↦ parted_row (numbered no_files 1 2 (f.Add (pos 0))) (composed by_parity no_files 0).list (composed by_parity no_files 1).list (composed by_parity no_files 2).list refl h
    ]

-- nothing of input 0 waits
merged_row : (moves : List ℕ) (l m n : List Tree) → count_of 0 moves ≡ 0 → MergeRests moves (seen_at 1 0 false l ∷ seen_at 2 1 false m ∷ []) (seen_at 3 1 false n) → ⊥
merged_row moves l m n none (inl asked) = not_true asked.0.0
merged_row moves l m n none (inr (unasked, (inl waits, rest))) = not_true waits.0
merged_row moves l m n none (inr (unasked, (inr (inl shut), rest))) = not_true shut
merged_row moves l m n none (inr (unasked, (inr (inr (inl lane)), rest))) = not_true lane
merged_row moves l m n none (inr (unasked, (inr (inr (inr held)), rest))) = let one = held.1 in absurd (omega (arith, one, none))

pub merged_does_not_rest : Rests merged one_move one_merged (composed merged one_move) → ⊥
merged_does_not_rest r = elim (r 3 (node (k.Merge 2)) refl) [ inl h ↦ not_true h.0.0 | inr h ↦ merged_row (one_move.moves 3) (composed merged one_move 1).list (composed merged one_move 2).list (composed merged one_move 3).list refl h ]

-- ---- the moves of substreams are as many as were given

one_not_four : (n : ℕ) → n ≡ 1 → n ≡ 4 → ⊥
one_not_four n one four = absurd (omega (arith, one, four))

pub doubles_unlawful : IsLawful doubling four_moves one_given (composed doubling four_moves) → ⊥
doubles_unlawful h = one_not_four 1 refl (h.nodes 1 (node (k.SplitAfter (p.Ge (pos 0)) (codes "doubled") joining.Merge)) refl).1
