-- The count over what was sent is at most the need over what may pass.
use Rattle.std.proofs.Common.{◌≡◌, ℕ, suc, ◌+◌, ◌<◌, ◌≤◌, List, [], ◌∷◌, length, ap, ◌∙◌, subst, arith}
use Rattle.std.specs.Prelude.{Option, Some, None}
use Rattle.elem_core.specs.Tree.{Tree}
use Rattle.elem_core.specs.Items.{elements}
use Rattle.elem_core.specs.declared.item.Item.{Item}
use Rattle.elem_core.proofs.Prefixes.{prefix_length}
use Rattle.stream_model.specs.Graph.{Edge}
use Rattle.stream_model.specs.Outlook.{Outlook, End, unended, ended, failed, Agrees}
use Rattle.stream_model.specs.Shape.{units_of, need_from}
use Rattle.run_laws.specs.Items.{AgreesWith}
use Rattle.run_laws.proofs.Coming.{elements_told}

units_more : (o : Option ℕ) (m n : ℕ) → m ≤ n → units_of o m ≤ units_of o n
units_more None m n h = omega (arith, h)
units_more (Some s) m n h = omega (arith, h)

pub need_more : (vs : List Edge) (i : ℕ) (f h : ℕ → ℕ) → ((k : ℕ) → k < length vs → f (i + k) ≤ h (i + k)) → need_from i vs f ≤ need_from i vs h
need_more [] i f h le = omega arith
need_more (v ∷ vs) i f h le =
    let place : i + 0 ≡ i = omega arith in
    let here : f i ≤ h i = subst (λ p. f p ≤ h p) place (le 0 (omega arith)) in
    let later : need_from (i + 1) vs f ≤ need_from (i + 1) vs h = need_more vs (i + 1) f h (λ k l. let on : i + suc k ≡ (i + 1) + k = omega arith in subst (λ p. f p ≤ h p) on (le (suc k) (omega (arith, l)))) in
    omega (arith, units_more v.lane (f i) (h i) here, later)

-- what passed is no longer than the list of its outlook
agrees_within : (o : Outlook) (l : List Tree) (e : End) → Agrees o l e → length l ≤ length o.list
agrees_within o l unended h = prefix_length h
agrees_within o l ended h = let same : length l ≡ length o.list = ap length h.1 in omega (arith, same)
agrees_within o l (failed c) h = prefix_length h.0

pub passed_within : (o : Outlook) (items : List Item) → AgreesWith o items → elements items ≤ length o.list
passed_within o items a =
    let count : elements items ≡ length a.list = ap elements a.is ∙ elements_told a.list a.end in
    omega (arith, count, agrees_within o a.list a.end a.agrees)
