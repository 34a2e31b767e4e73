-- What the ends know after their steps.
use Rattle.std.proofs.Common.{◌≡◌, ℕ, ◌+◌, ◌-◌, ◌%◌, ◌≤◌, List, [], ◌∷◌, ◌++◌, length, take, Option, Some, None, sym, ap, ◌∙◌, arith, length-append}
use Rattle.std.proofs.lemmas.List.{take_at, append-nil}
use Rattle.atomic_table.specs.Table.{Me, rest}
use Rattle.elem_core.specs.Items.{elements}
use Rattle.elem_core.specs.declared.item.Item.{Item}
use Rattle.lane_core.specs.declared.sight.Sight.{Sight}
use Rattle.lane_core.specs.Lane.{weight, empty_hand, HasSent, HasTaken}
use Rattle.lane_core.proofs.Lists.{elements_first, elements-append}

abbrev SeatView : Type 0
SeatView = Me (Option Item) Sight

-- the place in hand, as the code counts it
pub hand_place : (v : Sight) (n : SeatView) (x : Item) (k j : ℕ) → n ≡ (v, (k, Some x) ∷ []) → k ≡ j → n.1 ≡ (j, Some x) ∷ rest n.1
hand_place v n x k j is same = ap (λ (a : SeatView). a.1) is ∙ (λ i. (same i, Some x) ∷ rest (sym is i).1)

pub taken_count : (size r taken : ℕ) (m n : SeatView) (x : Item) → HasTaken size m x r n → length m.0.items ≡ taken → length n.0.items ≡ taken + 1
taken_count size r taken m n x t c = ap (λ (a : SeatView). length a.0.items) t ∙ length-append m.0.items (x ∷ []) ∙ ap (λ k. k + 1) c

pub taken_bound : (size r asked : ℕ) (m n : SeatView) (x : Item) → HasTaken size m x r n → asked ≤ elements m.0.items + size → asked ≤ elements n.0.items + size
taken_bound size r asked m n x t b = let e : elements n.0.items ≡ elements m.0.items + elements (x ∷ []) = ap (λ (a : SeatView). elements a.0.items) t ∙ elements-append m.0.items (x ∷ []) in omega (arith, e, b)

pub taken_hand : (size r : ℕ) (m n : SeatView) (x : Item) → HasTaken size m x r n → n.1 ≡ empty_hand n.0.slots ((length n.0.items - 1) % (size + 1))
taken_hand size r m n x t =
    let l = length-append m.0.items (x ∷ []) in
    let p : length m.0.items ≡ length (m.0.items ++ x ∷ []) - 1 = omega (arith, l) in
    ap (λ (a : SeatView). a.1) t ∙ ap (λ (k : ℕ). (k % (size + 1), None) ∷ []) p ∙ ap (λ (a : SeatView). empty_hand a.0.slots ((length a.0.items - 1) % (size + 1))) (sym t)

pub sent_elements : (size : ℕ) (m n : SeatView) (x : Item) → HasSent size m x n → elements n.0.items ≡ elements m.0.items + weight x
sent_elements size m n x t = let e : elements n.0.items ≡ elements m.0.items + elements (x ∷ []) = ap (λ (a : SeatView). elements a.0.items) t ∙ elements-append m.0.items (x ∷ []) in let w = elements_first x [] in omega (arith, e, w)

pub sent_length : (size : ℕ) (m n : SeatView) (x : Item) → HasSent size m x n → length n.0.items ≡ length m.0.items + 1
sent_length size m n x t = ap (λ (a : SeatView). length a.0.items) t ∙ length-append m.0.items (x ∷ [])

pub sent_hand : (size w used : ℕ) (m n : SeatView) (x : Item) → HasSent size m x n → weight x ≡ w → length m.0.items + 1 ≡ used → (n.0.slots ≡ w) × (n.1 ≡ empty_hand w (used % (size + 1)))
sent_hand size w used m n x t e u = (ap (λ (a : SeatView). a.0.slots) t ∙ e, ap (λ (a : SeatView). a.1) t ∙ (λ i. empty_hand (e i) (u i % (size + 1))))

pub put_in : (m n : SeatView) (x : Item) (k : ℕ) → m.1 ≡ (k, None) ∷ [] → n ≡ (m.0, (k, Some x) ∷ rest m.1) → n ≡ (m.0, (k, Some x) ∷ [])
put_in m n x k had new = new ∙ (λ i. (m.0, (k, Some x) ∷ rest (had i)))

pub sent_front : (size used : ℕ) (m n : SeatView) (x : Item) → HasSent size m x n → length m.0.items ≡ used → elements m.0.items ≡ used → elements (take used n.0.items) ≡ used
sent_front size used m n x t l e = ap (λ (a : SeatView). elements (take used a.0.items)) t ∙ ap elements (take_at m.0.items (x ∷ []) used l) ∙ e

pub sent_all : (k : ℕ) (l : List Item) → length l ≡ k → elements l ≡ k → elements (take k l) ≡ k
sent_all k l s e = ap (λ (x : List Item). elements (take k x)) (sym (append-nil l)) ∙ ap elements (take_at l [] k s) ∙ e

pub taken_elements : (size r : ℕ) (m n : SeatView) (x : Item) → HasTaken size m x r n → elements n.0.items ≡ elements m.0.items + weight x
taken_elements size r m n x t = let e : elements n.0.items ≡ elements m.0.items + elements (x ∷ []) = ap (λ (a : SeatView). elements a.0.items) t ∙ elements-append m.0.items (x ∷ []) in let w = elements_first x [] in omega (arith, e, w)
