-- The steps as the code makes them.
use Rattle.std.proofs.Common.{◌≡◌, inl, inr, ℕ, ◌+◌, ◌*◌, ◌%◌, ◌^◌, ◌<◌, ◌≤◌, List, [], ◌∷◌, ◌++◌, length, Option, Some, None, true, false, bit_or, refl, sym, ap, ◌∙◌, subst, arith}
use mathlib.Core.Option.{none}
use Rattle.atomic_table.specs.Table.{Me, Step, step, rest, Allows}
use Rattle.elem_core.specs.Items.{elements}
use Rattle.elem_core.specs.declared.item.Item.{Item}
use Rattle.lane_core.specs.declared.sight.Sight.{Sight}
use Rattle.lane_core.specs.Lane.{weight, IsLaneState, both_ends, output_end, empty_hand, sat, saw_asked, sent_one, saw_sent, asked_more, cancelled, compared, HasSent, HasTaken}
use Rattle.lane_core.proofs.Lists.{elements_first}
use Rattle.lane_core.proofs.OutSteps.{sees, sits, Filled, sends}
use Rattle.lane_core.proofs.InSteps.{Emptied, asks, cancels, fetches}
use Rattle.lane_core.proofs.Notes.{compares}

-- The moves, at a table whose key is the size and that has size + 1 slots
pub sees_as : (size key slots id : ℕ) (me : Me (Option Item) Sight) → key ≡ size → slots ≡ size + 1 → me.0.sends ≡ true → me.0.gets ≡ false → Allows (IsLaneState key) slots id me 0 (λ n. n) (saw_asked (step slots 0 0 0 none) me)
sees_as size key slots id me k s sends gets = subst (λ (x : ℕ × ℕ). Allows (IsLaneState x.0) x.1 id me 0 (λ n. n) (saw_asked (step x.1 0 0 0 none) me)) (λ i. (sym k i, sym s i)) (sees size id me sends gets)

pub compares_as : (size key slots id : ℕ) (me : Me (Option Item) Sight) → key ≡ size → slots ≡ size + 1 → Allows (IsLaneState key) slots id me 0 (λ n. n) (compared (step slots 0 0 0 none) me)
compares_as size key slots id me k s = subst (λ (x : ℕ × ℕ). Allows (IsLaneState x.0) x.1 id me 0 (λ n. n) (compared (step x.1 0 0 0 none) me)) (λ i. (sym k i, sym s i)) (compares size id me)

pub sits_as : (size key slots id : ℕ) (me : Me (Option Item) Sight) → key ≡ size → slots ≡ size + 1 → me ≡ (output_end both_ends, []) → Allows (IsLaneState key) slots id me 0 (λ n. n) (sat (step slots 0 0 0 none) me)
sits_as size key slots id me k s new = subst (λ (x : ℕ × ℕ). Allows (IsLaneState x.0) x.1 id me 0 (λ n. n) (sat (step x.1 0 0 0 none) me)) (λ i. (sym k i, sym s i))
    (subst (λ (m : Me (Option Item) Sight). Allows (IsLaneState size) (size + 1) id m 0 (λ n. n) (sat (step (size + 1) 0 0 0 none) m)) (sym new) (sits size id (output_end both_ends, []) refl refl refl refl refl))

pub sends_as : (size key slots id k : ℕ) (me : Me (Option Item) Sight) (x : Item) → key ≡ size → slots ≡ size + 1 → me.1 ≡ (k, Some x) ∷ [] → k ≡ length me.0.items % (size + 1) → Filled size id me.0 x
    → Allows (IsLaneState key) slots id me 16 (λ n. (n + 1) % 2 ^ 64) (sent_one (step slots 16 1 0 none) me)
sends_as size key slots id j me x k s has j_is ready = subst (λ (y : ℕ × ℕ). Allows (IsLaneState y.0) y.1 id me 16 (λ n. (n + 1) % 2 ^ 64) (sent_one (step y.1 16 1 0 none) me)) (λ i. (sym k i, sym s i)) (sends size id j me x has j_is ready)

pub fetches_as : (size key slots id : ℕ) (me : Me (Option Item) Sight) → key ≡ size → slots ≡ size + 1 → Emptied size me → Allows (IsLaneState key) slots id me 16 (λ n. n) (saw_sent (step slots 16 0 0 none) me)
fetches_as size key slots id me k s hand = subst (λ (y : ℕ × ℕ). Allows (IsLaneState y.0) y.1 id me 16 (λ n. n) (saw_sent (step y.1 16 0 0 none) me)) (λ i. (sym k i, sym s i)) (fetches size id me hand)

pub asks_as : (size key slots id k : ℕ) (me : Me (Option Item) Sight) → key ≡ size → slots ≡ size + 1 → Emptied size me → me.0.number + k ≤ elements me.0.items + size → me.0.number + k < 2 ^ 62 → me.0.cancel ≡ 0
    → Allows (IsLaneState key) slots id me 0 (λ n. (n + 2 * k) % 2 ^ 64) (asked_more (step slots 0 (2 * k) 0 none) me)
asks_as size key slots id j me k s hand bound small live = subst (λ (y : ℕ × ℕ). Allows (IsLaneState y.0) y.1 id me 0 (λ n. (n + 2 * j) % 2 ^ 64) (asked_more (step y.1 0 (2 * j) 0 none) me)) (λ i. (sym k i, sym s i)) (asks size id j me hand bound small live)

pub cancels_as : (size key slots id : ℕ) (me : Me (Option Item) Sight) → key ≡ size → slots ≡ size + 1 → me.0.gets ≡ true → me.0.sends ≡ false → me.0.number < 2 ^ 62 → me.0.cancel ≡ 0
    → Allows (IsLaneState key) slots id me 0 (λ n. bit_or n 1) (cancelled (step slots 0 1 0 none) me)
cancels_as size key slots id me k s gets sends small live = subst (λ (y : ℕ × ℕ). Allows (IsLaneState y.0) y.1 id me 0 (λ n. bit_or n 1) (cancelled (step y.1 0 1 0 none) me)) (λ i. (sym k i, sym s i)) (cancels size id me gets sends small live)

-- what the calls of the ends make of the steps
pub has_sent : (size slots k : ℕ) (m m1 n : Me (Option Item) Sight) (x : Item) (r : ℕ) → slots ≡ size + 1 → m1 ≡ (m.0, (k, Some x) ∷ []) → sent_one (step slots 16 1 0 none) m1 r n → HasSent size m x n
has_sent size slots k m m1 n x r s is sent =
    let first = elements_first x [] in
    let w : elements (x ∷ []) ≡ weight x = omega (arith, first) in
    subst (λ (a : Me (Option Item) Sight). sent_one (step slots 16 1 0 none) a r n) is sent
    ∙ (λ i. (record m.0 { items = m.0.items ++ x ∷ []; slots = w i }, empty_hand (w i) ((length m.0.items + 1) % s i)))

pub first_of_hand : ℕ × Option Item → List (ℕ × Option Item) → ℕ × Option Item
first_of_hand d [] = d
first_of_hand d (p ∷ ps) = p

pub took_one : (st : Step (Option Item)) (m : Me (Option Item) Sight) (r : ℕ) (n : Me (Option Item) Sight) → saw_sent st m r n → ¬ (r ≡ length m.0.items) → (x : Item) × (n ≡ (record m.0 { items = m.0.items ++ x ∷ []; looks = m.0.looks + 1; slots = 1; known = r }, (length m.0.items % st.slots, Some x) ∷ []))
took_one st m r n (told, inl t) ne = absurd (ne t.0)
took_one st m r n (told, inr t) ne = t.1.0

-- no more elements are taken than were asked
pub took_few : (st : Step (Option Item)) (m : Me (Option Item) Sight) (r : ℕ) (n : Me (Option Item) Sight) → saw_sent st m r n → ¬ (r ≡ length m.0.items) → elements n.0.items ≤ m.0.number
took_few st m r n (told, inl t) ne = absurd (ne t.0)
took_few st m r n (told, inr t) ne = t.1.1

pub has_taken : (size slots k r : ℕ) (m m1 n : Me (Option Item) Sight) (res : Option Item) (x : Item) → slots ≡ size + 1
    → m1 ≡ (record m.0 { items = m.0.items ++ x ∷ []; looks = m.0.looks + 1; slots = 1; known = r }, (length m.0.items % slots, Some x) ∷ [])
    → m1.1 ≡ (k, res) ∷ rest m1.1 → n ≡ (m1.0, (k, None) ∷ rest m1.1) → HasTaken size m x r n × (res ≡ Some x)
unfolding first_of_hand
has_taken size slots k r m m1 n res x s is first new =
    let head : (k, res) ≡ (length m.0.items % slots, Some x) = ap (first_of_hand (k, res)) (sym first ∙ ap (λ (a : Me (Option Item) Sight). a.1) is) in (
      new ∙ (λ i. ((is i).0, ((head i).0, None) ∷ rest (is i).1)) ∙ (λ i. (record m.0 { items = m.0.items ++ x ∷ []; looks = m.0.looks + 1; slots = 1; known = r }, (length m.0.items % s i, None) ∷ [])),
      (λ i. (head i).1),
    )

pub sends_put : (size key slots id k : ℕ) (m me : Me (Option Item) Sight) (x : Item) → key ≡ size → slots ≡ size + 1 → me ≡ (m.0, (k, Some x) ∷ []) → k ≡ length m.0.items % (size + 1) → Filled size id m.0 x
    → Allows (IsLaneState key) slots id me 16 (λ n. (n + 1) % 2 ^ 64) (sent_one (step slots 16 1 0 none) me)
sends_put size key slots id k m me x e s is at ready = subst (λ (a : Me (Option Item) Sight). Allows (IsLaneState key) slots id a 16 (λ n. (n + 1) % 2 ^ 64) (sent_one (step slots 16 1 0 none) a)) (sym is) (sends_as size key slots id k (m.0, (k, Some x) ∷ []) x e s refl at ready)
