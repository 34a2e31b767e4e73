-- The picture of the blueprint that stalls is lawful and rests, with its sink unended.
use Rattle.std.specs.Prelude.{slice_get}
use Rattle.std.proofs.Common.{◌≡◌, ℕ, zero, suc, true, false, ◌⊎◌, inl, inr, List, [], refl, sym, ap, ◌∙◌, subst, arith, Some, None}
use Rattle.stream_model.specs.Fits.{valve_order}
use Rattle.stream_model.specs.Graph.{Node}
use Rattle.stream_model.specs.Composed.{composed}
use Rattle.stream_model.specs.View.{ins, outs, EachWire}
use Rattle.stream_model.specs.Rests.{Rests, RowRests, IsShut}
use Rattle.stream_model.specs.Lawful.{WireLawful, RowLawful, IsLawful}
use Rattle.stream_model.specs.Stalled.{dropping, no_files, counts}

abbrev Meets : ℕ → Node → Type 0
Meets i n =
    (EachWire IsShut (ins dropping counts (composed dropping no_files) i n) × EachWire IsShut (outs dropping counts (composed dropping no_files) i n))
    ⊎ RowRests dropping no_files i n.kind n.decider (ins dropping counts (composed dropping no_files) i n) (outs dropping counts (composed dropping no_files) i n)

at_node : (i : ℕ) (m n : Node) → Some m ≡ Some n → Meets i m → Meets i n
at_node i m n h r = let e : m ≡ n = cc in subst (Meets i) e r

pub rests : Rests dropping no_files counts (composed dropping no_files)
rests zero n h = at_node 0 _ n h (inr (refl, refl))
rests (suc zero) n h = at_node 1 _ n h (inr (inr (inl (refl, refl), inr (refl, refl), (inr (omega arith, inr refl), (inr (omega arith, inr refl), tt)))))
rests (suc (suc zero)) n h = at_node 2 _ n h (inr (inl ((refl, refl), (refl, refl), refl)))
rests (suc (suc (suc zero))) n h = at_node 3 _ n h (inr ((inr (inl (inr (refl, refl)), (omega arith, inr refl)), (inl ((refl, refl), refl), tt)), inl ((refl, refl), inr (inl ((refl, refl), refl)))))
rests (suc (suc (suc (suc zero)))) n h = at_node 4 _ n h (inr (refl, refl))
rests (suc (suc (suc (suc (suc i))))) n h = cc

-- and it is lawful
abbrev Lawfully : ℕ → Node → Type 0
Lawfully i n = RowLawful dropping no_files i n.kind n.decider (ins dropping counts (composed dropping no_files) i n) (outs dropping counts (composed dropping no_files) i n)

lawful_at : (i : ℕ) (m n : Node) → Some m ≡ Some n → Lawfully i m → Lawfully i n
lawful_at i m n h r = let e : m ≡ n = cc in subst (Lawfully i) e r

no_shut : false ≡ true → ⊥
no_shut e = cc

lawful_rows : (i : ℕ) (n : Node) → slice_get dropping.nodes i ≡ Some n → Lawfully i n
lawful_rows zero n h = lawful_at 0 _ n h tt
lawful_rows (suc zero) n h = lawful_at 1 _ n h ((omega arith, (omega arith, tt)), (inr (omega arith), (inr (omega arith), tt)), λ shut. absurd (no_shut shut.0))
lawful_rows (suc (suc zero)) n h = lawful_at 2 _ n h (omega arith, λ asked. (refl, omega arith))
lawful_rows (suc (suc (suc zero))) n h = lawful_at 3 _ n h ((omega arith, omega arith), ((omega arith, omega arith), tt))
lawful_rows (suc (suc (suc (suc zero)))) n h = lawful_at 4 _ n h tt
lawful_rows (suc (suc (suc (suc (suc i))))) n h = cc

abbrev WiresLawful : ℕ → Node → Type 0
WiresLawful i n = EachWire WireLawful (ins dropping counts (composed dropping no_files) i n)

wires_at : (i : ℕ) (m n : Node) → Some m ≡ Some n → WiresLawful i m → WiresLawful i n
wires_at i m n h r = let e : m ≡ n = cc in subst (WiresLawful i) e r

lawful_wires : (i : ℕ) (n : Node) → slice_get dropping.nodes i ≡ Some n → WiresLawful i n
lawful_wires zero n h = wires_at 0 _ n h tt
lawful_wires (suc zero) n h = wires_at 1 _ n h ((omega arith, λ unasked. omega arith), tt)
lawful_wires (suc (suc zero)) n h = wires_at 2 _ n h ((omega arith, λ unasked. omega arith), tt)
lawful_wires (suc (suc (suc zero))) n h = wires_at 3 _ n h ((omega arith, λ unasked. omega arith), ((omega arith, λ unasked. omega arith), tt))
lawful_wires (suc (suc (suc (suc zero)))) n h = wires_at 4 _ n h ((omega arith, λ unasked. omega arith), tt)
lawful_wires (suc (suc (suc (suc (suc i))))) n h = cc

no_none : {v : List ℕ × ℕ} → None ≡ Some v → ⊥
no_none e = cc

-- it has no valve
has_no_order : (m n : Node) → Some m ≡ Some n → (moves : List ℕ) (v : List ℕ × ℕ) → valve_order m.kind moves ≡ None → valve_order n.kind moves ≡ Some v → ⊥
has_no_order m n h moves v none some = let e : m ≡ n = cc in no_none (sym none ∙ ap (λ (x : Node). valve_order x.kind moves) e ∙ some)

no_orders : (i : ℕ) (n : Node) (v : List ℕ × ℕ) → slice_get dropping.nodes i ≡ Some n → valve_order n.kind (no_files.moves i) ≡ Some v → ⊥
no_orders zero n v h e = has_no_order _ n h [] v refl e
no_orders (suc zero) n v h e = has_no_order _ n h [] v refl e
no_orders (suc (suc zero)) n v h e = has_no_order _ n h [] v refl e
no_orders (suc (suc (suc zero))) n v h e = has_no_order _ n h [] v refl e
no_orders (suc (suc (suc (suc zero)))) n v h e = has_no_order _ n h [] v refl e
no_orders (suc (suc (suc (suc (suc i))))) n v h e = cc

pub lawful : IsLawful dropping no_files counts (composed dropping no_files)
lawful = record { wires = lawful_wires; nodes = lawful_rows; valves = λ i n v h e. absurd (no_orders i n v h e) }
