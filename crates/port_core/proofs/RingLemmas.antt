-- A queue of distinct numbers and its marks, as one number joins or leaves.
use Rattle.std.proofs.Common.{◌≡◌, ℕ, zero, suc, ◌+◌, ◌<◌, ◌≤◌, ◌==◌, Bool, true, false, ◌||◌, List, [], ◌∷◌, ◌++◌, length, get_or, replicate, refl, sym, ◌∙◌, arith, add-one, length-append}
use Rattle.std.proofs.Math.ListN.{set}
use Rattle.std.proofs.lemmas.Grind.{common_steps}
use Rattle.std.proofs.lemmas.Bool.Decides.{nat_tests}
use Rattle.std.proofs.lemmas.List.{length-set}
use Rattle.port_core.specs.Ring.{is_queued, Distinct, IsRing, Marked, marked_count}

pub marked_count-le : (marks : List Bool) → marked_count marks ≤ length marks
marked_count-le [] = omega arith
marked_count-le (true ∷ bs) = omega (arith, marked_count-le bs)
marked_count-le (false ∷ bs) = omega (arith, marked_count-le bs)

-- one mark more
pub count-marked : (marks : List Bool) (c : ℕ) → c < length marks → get_or marks c false ≡ false → marked_count (set marks c true) ≡ marked_count marks + 1
count-marked [] c h e = absurd (omega arith)
count-marked (true ∷ bs) zero h e = cc
count-marked (false ∷ bs) zero h e = rw add-one refl
count-marked (true ∷ bs) (suc c) h e = omega (arith, count-marked bs c (omega arith) e)
count-marked (false ∷ bs) (suc c) h e = count-marked bs c (omega arith) e

pub count-unmarked : (marks : List Bool) (c : ℕ) → c < length marks → get_or marks c false ≡ true → marked_count (set marks c false) + 1 ≡ marked_count marks
count-unmarked [] c h e = absurd (omega arith)
count-unmarked (true ∷ bs) zero h e = rw add-one refl
count-unmarked (false ∷ bs) zero h e = cc
count-unmarked (true ∷ bs) (suc c) h e = omega (arith, count-unmarked bs c (omega arith) e)
count-unmarked (false ∷ bs) (suc c) h e = count-unmarked bs c (omega arith) e

-- the marks after one more, or one less
pub marks-marked : (marks : List Bool) (c x : ℕ) → c < length marks → (get_or marks x false || (c == x)) ≡ get_or (set marks c true) x false
marks-marked marks c x h = grind (arith, common_steps, nat_tests)

pub marks-unmarked : (queue : List ℕ) (marks : List Bool) (c x : ℕ) → c < length marks → is_queued queue c ≡ false → ((c == x) || is_queued queue x) ≡ get_or marks x false → is_queued queue x ≡ get_or (set marks c false) x false
marks-unmarked queue marks c x h absent e = grind (arith, common_steps, nat_tests)

-- what is marked is a place of the list
pub marked_within : (marks : List Bool) (c : ℕ) → get_or marks c false ≡ true → c < length marks
marked_within [] c e = cc
marked_within (b ∷ bs) zero e = omega arith
marked_within (b ∷ bs) (suc c) e = omega (arith, marked_within bs c e)

-- the queue is a ring of its marks
pub ring_kept : (queue : List ℕ) (marks : List Bool) (capacity : ℕ) → Marked queue marks capacity → IsRing (record { size = length marks; queue = queue })
ring_kept queue marks capacity m = record { distinct = m.distinct; below = λ c h. marked_within marks c (sym (m.marked c) ∙ h) }

pub is_queued-append : (queue : List ℕ) (c x : ℕ) → is_queued (queue ++ c ∷ []) x ≡ (is_queued queue x || (c == x))
is_queued-append [] c x = grind (arith, common_steps)
is_queued-append (y ∷ ys) c x = grind (arith, common_steps, is_queued-append ys c x)

pub Distinct-append : (queue : List ℕ) (c : ℕ) → Distinct queue → is_queued queue c ≡ false → Distinct (queue ++ c ∷ [])
Distinct-append [] c d h = (refl, tt)
Distinct-append (x ∷ xs) c d h =
    let apart : (x == c) ≡ false = grind (arith, common_steps) in
    let absent : is_queued xs c ≡ false = grind (arith, common_steps) in
    let e : (c == x) ≡ false = grind (arith, nat_tests) in
    (rw (is_queued-append xs c x) (grind (arith, common_steps, d.0)), Distinct-append xs c d.1 absent)

pub room_for : (queue : List ℕ) (marks : List Bool) (capacity c : ℕ) → Marked queue marks capacity → c < length marks → is_queued queue c ≡ false → length queue < capacity
room_for queue marks capacity c m h e =
    let free : get_or marks c false ≡ false = sym (m.marked c) ∙ e in
    omega (arith, count-marked marks c h free, marked_count-le (set marks c true), length-set marks c true)

pub enqueued : (queue : List ℕ) (marks : List Bool) (capacity c : ℕ) → Marked queue marks capacity → c < length marks → is_queued queue c ≡ false → Marked (queue ++ c ∷ []) (set marks c true) capacity
enqueued queue marks capacity c m h e =
    let free : get_or marks c false ≡ false = sym (m.marked c) ∙ e in
    record {
      room = omega (arith, length-set marks c true);
      marked = λ x. rw is_queued-append (rw m.marked (marks-marked marks c x h));
      distinct = Distinct-append queue c m.distinct e;
      count = omega (arith, length-append queue (c ∷ []), count-marked marks c h free);
    }

-- the first leaves
pub first_marked : (queue : List ℕ) (marks : List Bool) (capacity c : ℕ) → Marked (c ∷ queue) marks capacity → get_or marks c false ≡ true
first_marked queue marks capacity c m = sym (m.marked c) ∙ grind (arith, nat_tests)

pub first_within : (old queue : List ℕ) (marks : List Bool) (capacity c : ℕ) → old ≡ c ∷ queue → Marked old marks capacity → c < length marks
first_within old queue marks capacity c e m =
    let at : Marked (c ∷ queue) marks capacity = rw e at m in
    marked_within marks c (first_marked queue marks capacity c at)

pub first_gone : (old queue : List ℕ) (marks : List Bool) (capacity c : ℕ) → old ≡ c ∷ queue → Marked old marks capacity → is_queued queue c ≡ false
first_gone old queue marks capacity c e m = let at : Marked (c ∷ queue) marks capacity = rw e at m in at.distinct.0

pub dequeued : (old queue : List ℕ) (marks : List Bool) (capacity c : ℕ) → old ≡ c ∷ queue → Marked old marks capacity → Marked queue (set marks c false) capacity
dequeued old queue marks capacity c e m =
    let at : Marked (c ∷ queue) marks capacity = rw e at m in
    let taken : get_or marks c false ≡ true = first_marked queue marks capacity c at in
    record {
      room = omega (arith, length-set marks c false);
      marked = λ x. marks-unmarked queue marks c x (marked_within marks c taken) at.distinct.0 (at.marked x);
      distinct = at.distinct.1;
      count = omega (arith, at.count, count-unmarked marks c (marked_within marks c taken) taken);
    }

-- no marks
pub get_or-unmarked : (n x : ℕ) → get_or (replicate n false) x false ≡ false
get_or-unmarked zero x = refl
get_or-unmarked (suc n) zero = refl
get_or-unmarked (suc n) (suc x) = get_or-unmarked n x

pub marked_count-unmarked : (n : ℕ) → marked_count (replicate n false) ≡ 0
marked_count-unmarked zero = refl
marked_count-unmarked (suc n) = marked_count-unmarked n

pub fresh : (n capacity : ℕ) (queue : List ℕ) (marks : List Bool) → queue ≡ [] → marks ≡ replicate n false → length marks ≤ capacity → Marked queue marks capacity
fresh n capacity queue marks q m h = record {
  room = h;
  marked = λ c. rw (q, m) (sym (get_or-unmarked n c));
  distinct = rw q tt;
  count = rw (q, m) (sym (marked_count-unmarked n));
}
