-- Islands that are to be woken, as one joins or the last leaves.
use Rattle.std.proofs.Common.{◌≡◌, ◌⊎◌, inl, inr, ℕ, zero, suc, ◌+◌, ◌-◌, ◌<◌, ◌≤◌, ◌==◌, Bool, true, false, ◌||◌, List, [], None, Some, ◌∷◌, ◌++◌, length, replicate, get_or, slice_get, refl, sym, ap, ◌∙◌, subst, arith, length-append, true≢false}
use Rattle.std.specs.List.{All}
use Rattle.std.proofs.Math.ListN.{set}
use Rattle.std.proofs.lemmas.Grind.{common_steps}
use Rattle.std.proofs.lemmas.Bool.Decides.{nat_tests}
use Rattle.std.proofs.lemmas.List.{length-set}
use Rattle.port_core.specs.Ring.{is_queued, Distinct, Marked, marked_count}
use Rattle.island_body.specs.Waked.{Added, MarkedFrom, marks_from}
use Rattle.port_core.proofs.RingLemmas.{is_queued-append, count-marked, count-unmarked, marked_count-le, marked_within, marks-unmarked, enqueued, fresh}

-- the last came once
distinct_front : (queue : List ℕ) (c : ℕ) → Distinct (queue ++ c ∷ []) → Distinct queue × (is_queued queue c ≡ false)
distinct_front [] c d = (tt, refl)
distinct_front (x ∷ xs) c d =
    let rest = distinct_front xs c d.1 in
    let apart : (is_queued xs x || (c == x)) ≡ false = sym (is_queued-append xs c x) ∙ d.0 in
    let e : (x == c) ≡ false = grind (arith, common_steps, nat_tests) in
    let absent : is_queued xs x ≡ false = grind (arith, common_steps) in
    ((absent, rest.0), grind (arith, common_steps, rest.1))

-- the last leaves
last_marked : (queue : List ℕ) (marks : List Bool) (capacity c : ℕ) → Marked (queue ++ c ∷ []) marks capacity → get_or marks c false ≡ true
last_marked queue marks capacity c m =
    let there : (is_queued queue c || (c == c)) ≡ get_or marks c false = sym (is_queued-append queue c c) ∙ m.marked c in
    grind (arith, common_steps, nat_tests)

pub last_left : (old queue : List ℕ) (marks : List Bool) (capacity c : ℕ) → old ≡ queue ++ c ∷ [] → Marked old marks capacity → Marked queue (set marks c false) capacity
last_left old queue marks capacity c e m =
    let at : Marked (queue ++ c ∷ []) marks capacity = rw e at m in
    let taken : get_or marks c false ≡ true = last_marked queue marks capacity c at in
    let within : c < length marks = marked_within marks c taken in
    let front = distinct_front queue c at.distinct in
    record {
      room = omega (arith, at.room, length-set marks c false);
      marked = λ x.
          let here : (is_queued queue x || (c == x)) ≡ get_or marks x false = sym (is_queued-append queue c x) ∙ at.marked x in
          let flipped : ((c == x) || is_queued queue x) ≡ get_or marks x false = grind (arith, common_steps, here) in
          marks-unmarked queue marks c x within front.1 flipped;
      distinct = front.0;
      count = omega (arith, at.count, length-append queue (c ∷ []), count-unmarked marks c within taken);
    }

-- ---- marks of the numbers from some number on

behind_at : (n c : ℕ) (marks : List Bool) → get_or (marks_from n marks) (n + c) false ≡ get_or marks c false
behind_at zero c marks = let e : 0 + c ≡ c = omega arith in ap (λ (i : ℕ). get_or (marks_from 0 marks) i false) e
behind_at (suc n) c marks = let e : suc n + c ≡ suc (n + c) = omega arith in ap (λ (i : ℕ). get_or (marks_from (suc n) marks) i false) e ∙ behind_at n c marks

behind_set : (n c : ℕ) (b : Bool) (marks : List Bool) → set (marks_from n marks) (n + c) b ≡ marks_from n (set marks c b)
behind_set zero c b marks = let e : 0 + c ≡ c = omega arith in ap (λ (i : ℕ). set (marks_from 0 marks) i b) e
behind_set (suc n) c b marks = let e : suc n + c ≡ suc (n + c) = omega arith in ap (λ (i : ℕ). set (marks_from (suc n) marks) i b) e ∙ ap (λ (l : List Bool). false ∷ l) (behind_set n c b marks)

behind_count : (n : ℕ) (marks : List Bool) → marked_count (marks_from n marks) ≡ marked_count marks
behind_count zero marks = refl
behind_count (suc n) marks = behind_count n marks

behind_many : (n : ℕ) (marks : List Bool) → length (marks_from n marks) ≡ n + length marks
behind_many zero marks = let e : length marks ≡ 0 + length marks = omega arith in e
behind_many (suc n) marks = let e : suc (n + length marks) ≡ suc n + length marks = omega arith in ap suc (behind_many n marks) ∙ e

from_least : (n c : ℕ) (marks : List Bool) → get_or (marks_from n marks) c false ≡ true → n ≤ c
from_least zero c marks e = omega arith
from_least (suc n) zero marks e = absurd (true≢false (sym e))
from_least (suc n) (suc c) marks e = let h = from_least n c marks e in omega (arith, h)

many_none : (n : ℕ) → length (replicate n false) ≡ n
many_none zero = refl
many_none (suc n) = ap suc (many_none n)

-- no mark is set
none_marked : (n m : ℕ) → marks_from n (replicate m false) ≡ replicate (n + m) false
none_marked zero m = let e : m ≡ 0 + m = omega arith in ap (λ (k : ℕ). replicate k false) e
none_marked (suc n) m = let e : suc (n + m) ≡ suc n + m = omega arith in ap (λ (l : List Bool). false ∷ l) (none_marked n m) ∙ ap (λ (k : ℕ). replicate k false) e

pub fresh_from : (least count capacity : ℕ) (queue : List ℕ) (marks : List Bool) → queue ≡ [] → marks ≡ replicate count false → count ≤ capacity → MarkedFrom least queue marks capacity
fresh_from least count capacity queue marks q m h =
    let many : length marks ≡ count = ap (λ (l : List Bool). length l) m ∙ many_none count in
    record {
      room = omega (arith, many, h);
      marked = fresh (least + count) (least + length marks) queue (marks_from least marks) q (ap (λ (l : List Bool). marks_from least l) m ∙ none_marked least count) (let all = behind_many least marks in omega (arith, all));
    }

module _ (least place island capacity : ℕ) (queue : List ℕ) (marks : List Bool) (is : island ≡ least + place) (m : MarkedFrom least queue marks capacity) where
  island_at : get_or (marks_from least marks) island false ≡ get_or marks place false
  island_at = ap (λ (i : ℕ). get_or (marks_from least marks) i false) is ∙ behind_at least place marks

  -- a mark says whether the island is among them
  pub mark_is : is_queued queue island ≡ get_or marks place false
  mark_is = m.marked.marked island ∙ island_at

  -- one that is not marked has room
  pub room_from : place < length marks → get_or marks place false ≡ false → length queue < capacity
  room_from h e =
      let counted : length queue ≡ marked_count marks = m.marked.count ∙ behind_count least marks in
      let more : marked_count (set marks place true) ≡ marked_count marks + 1 = count-marked marks place h e in
      let most : marked_count (set marks place true) ≤ length (set marks place true) = marked_count-le (set marks place true) in
      let same : length (set marks place true) ≡ length marks = length-set marks place true in
      let room = m.room in
      omega (arith, counted, more, most, same, room)

  pub joined_from : place < length marks → get_or marks place false ≡ false → MarkedFrom least (queue ++ island ∷ []) (set marks place true) capacity
  joined_from h e =
      let within : island < length (marks_from least marks) = let all = behind_many least marks in omega (arith, is, h, all) in
      let next = enqueued queue (marks_from least marks) (least + length marks) island m.marked within (mark_is ∙ e) in
      let marked_is : set (marks_from least marks) island true ≡ marks_from least (set marks place true) = ap (λ (i : ℕ). set (marks_from least marks) i true) is ∙ behind_set least place true marks in
      let many : length (set marks place true) ≡ length marks = length-set marks place true in
      record {
        room = (let r = m.room in omega (arith, many, r));
        marked = subst (λ (l : List Bool). Marked (queue ++ island ∷ []) l (least + length (set marks place true))) marked_is (subst (λ (n : ℕ). Marked (queue ++ island ∷ []) (set (marks_from least marks) island true) (least + n)) (sym many) next);
      }

-- the last leaves
pub last_from : (least : ℕ) (old queue : List ℕ) (marks : List Bool) (capacity c : ℕ) → old ≡ queue ++ c ∷ [] → MarkedFrom least old marks capacity → (least ≤ c) × (c < least + length marks)
last_from least old queue marks capacity c e m =
    let at : Marked (queue ++ c ∷ []) (marks_from least marks) (least + length marks) = rw e at m.marked in
    let set_there : get_or (marks_from least marks) c false ≡ true = last_marked queue (marks_from least marks) (least + length marks) c at in (
      from_least least c marks set_there,
      (let within = marked_within (marks_from least marks) c set_there in let all = behind_many least marks in omega (arith, within, all)),
    )

pub left_from : (least place : ℕ) (old queue : List ℕ) (marks : List Bool) (capacity c : ℕ) → old ≡ queue ++ c ∷ [] → c ≡ least + place → MarkedFrom least old marks capacity → MarkedFrom least queue (set marks place false) capacity
left_from least place old queue marks capacity c e is m =
    let next = last_left old queue (marks_from least marks) (least + length marks) c e m.marked in
    let marked_is : set (marks_from least marks) c false ≡ marks_from least (set marks place false) = ap (λ (i : ℕ). set (marks_from least marks) i false) is ∙ behind_set least place false marks in
    let many : length (set marks place false) ≡ length marks = length-set marks place false in
    record {
      room = (let r = m.room in omega (arith, many, r));
      marked = subst (λ (l : List Bool). Marked queue l (least + length (set marks place false))) marked_is (subst (λ (n : ℕ). Marked queue (set (marks_from least marks) c false) (least + n)) (sym many) next);
    }

-- what is neither below the least nor not below the greatest is between them
pub all_between : (least size count : ℕ) (xs : List ℕ) → count ≡ size - least → All (λ w. least ≤ w) xs → All (λ w. w < size) xs → All (λ w. (least ≤ w) × (w < least + count)) xs
all_between least size count xs is low high k d h = let a = low k d h in let b = high k d h in (a, omega (arith, is, a, b))

-- ---- one is told something, or none

pub added_none : (peers queue : List ℕ) (k : ℕ) (told : Bool) → told ≡ false → Added peers k told queue queue
added_none peers queue k told quiet = record { still = λ w e. e; here = λ w e at. cc; only = λ w e. inl e; once = λ d. d }

pub added_nowhere : (peers queue : List ℕ) (k : ℕ) (told : Bool) → slice_get peers k ≡ None → Added peers k told queue queue
added_nowhere peers queue k told quiet = record { still = λ w e. e; here = λ w e at. cc; only = λ w e. inl e; once = λ d. d }

pub added_one : (peers old new : List ℕ) (k v : ℕ) (told : Bool) → told ≡ true → slice_get peers k ≡ Some v → ((w : ℕ) → is_queued new w ≡ (is_queued old w || (v == w))) → Distinct new → Added peers k told old new
added_one peers old new k v told some at is d = record {
  still = λ w e. let i = is w in grind (arith, common_steps, i, e);
  here = λ w e there. let same : v ≡ w = cc in let i = is w in grind (arith, common_steps, nat_tests, i, same);
  only = λ w e. by_test w (is_queued old w) (v == w) refl refl (sym (is w) ∙ e);
  once = λ o. d;
}
  where
    by_test : (w : ℕ) (a b : Bool) → is_queued old w ≡ a → (v == w) ≡ b → (is_queued old w || (v == w)) ≡ true → (is_queued old w ≡ true) ⊎ ((told ≡ true) × (slice_get peers k ≡ Some w))
    by_test w true b ea eb e = inl ea
    by_test w false true ea eb e = let same : v ≡ w = grind (arith, nat_tests, eb) in inr (some, rw same at at)
    by_test w false false ea eb e = absurd (grind (arith, common_steps, ea, eb, e))
