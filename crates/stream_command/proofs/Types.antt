-- The plugs of the program give elements of their output types: dedup gives elements that came, and pairsum numbers.
use Rattle.std.proofs.Common.{◌≡◌, ℤ, ◌+ℤ◌, Bool, true, false, List, [], ◌∷◌, Result, Ok, Err, refl, subst}
use Rattle.std.specs.Prelude.{◌==◌, if◌then◌else◌, Option, Some, None, codes}
use Rattle.std.specs.Cmp.Lexicographic.{pointwise}
use Rattle.std.specs.Ordering.{is_eq}
use Rattle.elem_core.specs.Number.{fitting}
use Rattle.elem_core.specs.Order.{tree_cmp}
use Rattle.elem_core.specs.Sort.{Sort, num_type, text_type}
use Rattle.elem_core.specs.Tree.{Tree, num, text, seq, both}
use Rattle.elem_core.specs.Values.{as_number, sum_step}
use Rattle.elem_core.specs.declared.why.Why.{Why}
use Rattle.stream_model.specs.declared.head.PlugHead.{PlugHead}
use Rattle.plug_logic.specs.Gives.{Gives}
use Rattle.plug_logic.specs.Shipped.{last_behind, unrepeated, dedup_after, waiting, summed, pair_reply, odd, sums_after, silent, shipped_book}
use Rattle.run_blueprint.specs.Plugs.{KeepsPlugTypes}
use Rattle.run_blueprint.specs.Types.{HasType, AllTyped}
use Rattle.stream_model.specs.Heads.{dedup_head, pairsum_head, shipped_guests}

-- ---- dedup

kept_or_left : (left : Bool) (t : Sort) (x : Tree) → HasType t x → AllTyped t (if left then [] else x ∷ [])
kept_or_left true t x h = tt
kept_or_left false t x h = (h, tt)

-- the element that came is given, or none is
unrepeated_typed : (last : Option Tree) (t : Sort) (x : Tree) → HasType t x → AllTyped t (unrepeated last x)
unrepeated_typed None t x h = (h, tt)
unrepeated_typed (Some l) t x h = kept_or_left (is_eq (tree_cmp l x)) t x h

-- ---- pairsum

number_typed : (r : Result ℤ Why) (y : Tree) → as_number r ≡ Ok y → HasType num_type y
number_typed (Ok z) y e = let same : num z ≡ y = cc in subst (HasType num_type) same tt
number_typed (Err w) y e = absurd cc

-- a sum is a number
sum_typed : (a x y : Tree) → sum_step a x ≡ Ok y → HasType num_type y
sum_typed (num a) (num x) y e = number_typed (fitting (a +ℤ x)) y e
sum_typed (num a) (text bs) y e = absurd cc
sum_typed (num a) (seq r) y e = absurd cc
sum_typed (num a) (both b c) y e = absurd cc
sum_typed (text bs) x y e = absurd cc
sum_typed (seq r) x y e = absurd cc
sum_typed (both b c) x y e = absurd cc

summed_typed : (r : Result Tree Why) → ((y : Tree) → r ≡ Ok y → HasType num_type y) → AllTyped num_type (summed r).gave
summed_typed (Ok s) h = (h s refl, tt)
summed_typed (Err w) h = tt

paired_typed : (first : Option Tree) (x : Tree) → AllTyped num_type (pair_reply first x).gave
paired_typed None x = tt
paired_typed (Some a) x = summed_typed (sum_step a x) (sum_typed a x)

-- a number waits, or none does
abbrev IsNumberOrNone : Option Tree → Type 0
IsNumberOrNone None = Unit {0}
IsNumberOrNone (Some a) = HasType num_type a

waiting_typed : (first : Option Tree) (l : List Tree) → IsNumberOrNone first → AllTyped num_type l → IsNumberOrNone (waiting first l)
waiting_typed None [] h all = tt
waiting_typed (Some a) [] h all = h
waiting_typed None (t ∷ l) h all = waiting_typed (Some t) l all.0 all.1
waiting_typed (Some a) (t ∷ l) h all = waiting_typed None l tt all.1

odd_typed : (first : Option Tree) → IsNumberOrNone first → AllTyped num_type (odd first).gave
odd_typed None h = tt
odd_typed (Some a) h = (h, tt)

-- ---- both, by their names

-- what such a plug gives is of its output type
record Keeps (p : PlugHead) (g : Gives) : Type 0 where
  reply : (taken : List Tree) (x : Tree) → AllTyped p.input taken → HasType p.input x → AllTyped p.output (g.reply taken x).gave
  closing : (taken : List Tree) → AllTyped p.input taken → AllTyped p.output (g.closing taken).gave

dedup_keeps : Keeps dedup_head (dedup_after None)
dedup_keeps = record { reply = λ taken x all h. unrepeated_typed (last_behind None taken) text_type x h; closing = λ taken all. tt }

pairsum_keeps : Keeps pairsum_head (sums_after None)
pairsum_keeps = record { reply = λ taken x all h. paired_typed (waiting None taken) x; closing = λ taken all. odd_typed (waiting None taken) (waiting_typed None taken tt all) }

by_name : (dedup pairsum : Bool) (p : PlugHead) → (if dedup then Some dedup_head else (if pairsum then Some pairsum_head else None)) ≡ Some p → Keeps p (if dedup then dedup_after None else (if pairsum then sums_after None else silent))
by_name true s p e = let same : dedup_head ≡ p = cc in subst (λ (h : PlugHead). Keeps h (dedup_after None)) same dedup_keeps
by_name false true p e = let same : pairsum_head ≡ p = cc in subst (λ (h : PlugHead). Keeps h (sums_after None)) same pairsum_keeps
by_name false false p e = absurd cc

pub types_kept : KeepsPlugTypes shipped_guests shipped_book
types_kept = record {
  reply = λ name p e. (by_name (pointwise ◌==◌ name (codes "dedup")) (pointwise ◌==◌ name (codes "pairsum")) p e).reply;
  closing = λ name p e. (by_name (pointwise ◌==◌ name (codes "dedup")) (pointwise ◌==◌ name (codes "pairsum")) p e).closing;
}
