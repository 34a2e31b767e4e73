-- One of several lists has got one item more, or one less; and the steps of the loops over them.
use Rattle.std.proofs.Common.{◌≡◌, ℕ, zero, suc, ◌+◌, ◌<◌, ◌≤◌, Bool, true, false, cond, ◌==◌, List, [], ◌∷◌, ◌++◌, length, reverse, set, take, drop, get_or, Option, Some, refl, ap, sym, ◌∙◌, subst, ⊎_elim, ◌⊎◌, inl, inr, append_assoc, length-append, arith}
use Rattle.std.specs.Prelude.{slice_get, slice_index}
use Rattle.std.specs.declared.vec.Vec.{Vec}
use Rattle.std.specs.declared.alloc.Global.{Global}
use Rattle.std.proofs.lemmas.Bool.{cases_eq, eq-eqb, ne_eqb, eqb-true, cond-true, cond-false}
use Rattle.std.proofs.lemmas.List.{append-nil, take_more, length-reverse, reverse-append, get_or-set_same, get_or-set_other}
use Rattle.std.proofs.lemmas.Option.{slice_get-get_or}
use Rattle.scatter.specs.Shares.{of_home, share_of, rank_of, items_at, room_at, AreEmptyFor, AreShares, AreWhole}
use Rattle.scatter.proofs.Sharing.{count_here}

get_set_same : {X : Type 0} (xs : List X) (i : ℕ) (v : X) → i < length xs → slice_get (set xs i v) i ≡ Some v
get_set_same [] i v lt = absurd (omega arith)
get_set_same (x ∷ xs) zero v lt = refl
get_set_same (x ∷ xs) (suc i) v lt = get_set_same xs i v (omega arith)

get_set_other : {X : Type 0} (xs : List X) (i k : ℕ) (v : X) → (k ≡ i → ⊥) → slice_get (set xs i v) k ≡ slice_get xs k
get_set_other [] i k v ne = refl
get_set_other (x ∷ xs) zero zero v ne = absurd (ne refl)
get_set_other (x ∷ xs) zero (suc k) v ne = refl
get_set_other (x ∷ xs) (suc i) zero v ne = refl
get_set_other (x ∷ xs) (suc i) (suc k) v ne = get_set_other xs i k v (λ e. ne (ap suc e))

-- what stands at place k once place i was set
pub record IsSet {X : Type 0} (xs : List X) (i k : ℕ) (was v : X) : Type 0 where
  pub same : (i == k) ≡ true
  pub before : slice_get xs k ≡ Some was
  pub after : slice_get (set xs i v) k ≡ Some v

pub record IsKept {X : Type 0} (xs : List X) (i k : ℕ) (v : X) : Type 0 where
  pub other : (i == k) ≡ false
  pub kept : slice_get (set xs i v) k ≡ slice_get xs k

set_case : {X : Type 0} (xs : List X) (i k : ℕ) (was v : X) → i < length xs → was ≡ get_or xs i was → IsSet xs i k was v ⊎ IsKept xs i k v
set_case {X = X} xs i k was v lt is =
    ⊎_elim
    (λ (e : i ≡ k). inl (at k e))
    (λ (ne : i ≡ k → ⊥). inr (record { other = ne_eqb i k ne; kept = get_set_other xs i k v (λ e. ne (sym e)) }))
    (cases_eq i k)
  where
    at : (k : ℕ) → i ≡ k → IsSet xs i k was v
    at k e = subst (λ j. IsSet xs i j was v) e (record { same = eq-eqb i i refl; before = slice_get-get_or xs i was lt ∙ ap Some (sym is); after = get_set_same xs i v lt })

module _ {X : Type 0} {Y : Type 0} (f : Option X → List Y) (xs : List X) (i : ℕ) (was v : X) (y : Y) (lt : i < length xs) (is : was ≡ get_or xs i was) where
  pub one_more : f (Some v) ≡ f (Some was) ++ y ∷ [] → (k : ℕ) → f (slice_get (set xs i v) k) ≡ f (slice_get xs k) ++ cond (i == k) (y ∷ []) []
  one_more h k =
      ⊎_elim
      (λ (s : IsSet xs i k was v). ap f s.after ∙ h ∙ ap (λ o. f o ++ y ∷ []) (sym s.before) ∙ ap (λ b. f (slice_get xs k) ++ cond b (y ∷ []) []) (sym s.same))
      (λ (s : IsKept xs i k v). ap f s.kept ∙ sym (append-nil (f (slice_get xs k))) ∙ ap (λ b. f (slice_get xs k) ++ cond b (y ∷ []) []) (sym s.other))
      (set_case xs i k was v lt is)

  pub one_less : f (Some was) ≡ f (Some v) ++ y ∷ [] → (k : ℕ) → f (slice_get xs k) ≡ f (slice_get (set xs i v) k) ++ cond (i == k) (y ∷ []) []
  one_less h k =
      ⊎_elim
      (λ (s : IsSet xs i k was v). ap f s.before ∙ h ∙ ap (λ o. f o ++ y ∷ []) (sym s.after) ∙ ap (λ b. f (slice_get (set xs i v) k) ++ cond b (y ∷ []) []) (sym s.same))
      (λ (s : IsKept xs i k v). ap f (sym s.kept) ∙ sym (append-nil (f (slice_get (set xs i v) k))) ∙ ap (λ b. f (slice_get (set xs i v) k) ++ cond b (y ∷ []) []) (sym s.other))
      (set_case xs i k was v lt is)

pub as_was : {X : Type 0} (f : Option X → ℕ) (xs : List X) (i : ℕ) (was v : X) → i < length xs → was ≡ get_or xs i was → f (Some v) ≡ f (Some was) → (k : ℕ) → f (slice_get (set xs i v) k) ≡ f (slice_get xs k)
as_was f xs i was v lt is h k =
    ⊎_elim
    (λ (s : IsSet xs i k was v). ap f s.after ∙ h ∙ ap f (sym s.before))
    (λ (s : IsKept xs i k v). ap f s.kept)
    (set_case xs i k was v lt is)

-- a list that has an item is there
pub is_there : {X : Type 0} (lists : List (Vec X Global)) (k : ℕ) → 0 < length (items_at lists k) → k < length lists
is_there [] k h = absurd (omega (arith, h))
is_there (l ∷ lists) zero h = omega arith
is_there (l ∷ lists) (suc k) h = let r = is_there lists k h in omega (arith, r)

-- ---- the loop that shares out

drop_next : (hs : List ℕ) (i : ℕ) → i < length hs → drop i hs ≡ slice_index hs i ∷ drop (suc i) hs
drop_next [] i lt = absurd (omega arith)
drop_next (h ∷ hs) zero lt = refl
drop_next (h ∷ hs) (suc i) lt = drop_next hs i (omega (arith, lt))

pub drop_here : (hs : List ℕ) (i : ℕ) → i < length hs → drop i hs ≡ slice_index hs i ∷ drop (i + 1) hs
drop_here hs i lt = let plus : suc i ≡ i + 1 = omega arith in drop_next hs i lt ∙ ap (λ n. slice_index hs i ∷ drop n hs) plus

module _ {X : Type 0} (hs : List ℕ) (items : List X) where
  -- behind what has been shared out, the shares of what is left make the shares of all
  pub record Sharing (i : ℕ) (rest : List X) (lists : List (Vec X Global)) : Type 0 where
    pub left : i + length rest ≡ length hs
    pub so : (k : ℕ) → items_at lists k ++ of_home (drop i hs) k rest ≡ of_home hs k items
    pub room : (k : ℕ) → k < length lists → length (items_at lists k) + share_of k (drop i hs) ≤ room_at lists k

  pub sharing_first : (lists : List (Vec X Global)) → length items ≡ length hs → AreEmptyFor hs (length lists) lists → Sharing 0 items lists
  sharing_first lists e a = record {
    left = omega (arith, e);
    so = λ k. ap (λ l. l ++ of_home hs k items) (a.none k);
    room = λ k lt. let none : length (items_at lists k) ≡ 0 = ap length (a.none k) in omega (arith, none, a.room k lt);
  }

  -- the next item has a home, whose list has room for it
  pub sharing_room : (i : ℕ) (rest later : List X) (x : X) (lists : List (Vec X Global)) → Sharing i rest lists → rest ≡ x ∷ later → slice_index hs i < length lists → length (items_at lists (slice_index hs i)) + 1 ≤ room_at lists (slice_index hs i)
  sharing_room i rest later x lists s e below =
      let h = slice_index hs i in
      let size : length rest ≡ suc (length later) = ap length e in
      let lt : i < length hs = omega (arith, s.left, size) in
      let one : share_of h (drop i hs) ≡ suc (share_of h (drop (i + 1) hs)) = ap (share_of h) (drop_here hs i lt) ∙ count_here h h (drop (i + 1) hs) (eq-eqb h h refl) in
      let r = s.room h below in
      omega (arith, r, one)

  cond_move : (b : Bool) (x : X) (as_ bs cs : List X) → cs ≡ as_ ++ cond b (x ∷ []) [] → cs ++ bs ≡ as_ ++ cond b (x ∷ bs) bs
  cond_move true x as_ bs cs e = ap (λ l. l ++ bs) e ∙ append_assoc as_ (x ∷ []) bs
  cond_move false x as_ bs cs e = ap (λ l. l ++ bs) (e ∙ append-nil as_)

  cond_count : (b : Bool) (x : X) (as_ cs : List X) (n : ℕ) → cs ≡ as_ ++ cond b (x ∷ []) [] → length cs + n ≡ length as_ + cond b (suc n) n
  cond_count true x as_ cs n e = let size : length cs ≡ length (as_ ++ x ∷ []) = ap length e in let more : length (as_ ++ x ∷ []) ≡ length as_ + 1 = length-append as_ (x ∷ []) in omega (arith, size, more)
  cond_count false x as_ cs n e = let size : length cs ≡ length as_ = ap length (e ∙ append-nil as_) in omega (arith, size)

  pub sharing_next : (i : ℕ) (rest later : List X) (x : X) (lists new : List (Vec X Global)) → Sharing i rest lists → rest ≡ x ∷ later → length new ≡ length lists
      → ((k : ℕ) → items_at new k ≡ items_at lists k ++ cond (slice_index hs i == k) (x ∷ []) []) → ((k : ℕ) → room_at new k ≡ room_at lists k) → Sharing (i + 1) later new
  sharing_next i rest later x lists new s e many more same =
      let h = slice_index hs i in
      let size : length rest ≡ suc (length later) = ap length e in
      let lt : i < length hs = omega (arith, s.left, size) in
      record {
        left = omega (arith, s.left, size);
        so = λ k.
            let next : of_home (drop i hs) k rest ≡ cond (h == k) (x ∷ of_home (drop (i + 1) hs) k later) (of_home (drop (i + 1) hs) k later) = ap (λ l. of_home l k rest) (drop_here hs i lt) ∙ ap (of_home (h ∷ drop (i + 1) hs) k) e in
            cond_move (h == k) x (items_at lists k) (of_home (drop (i + 1) hs) k later) (items_at new k) (more k) ∙ ap (λ l. items_at lists k ++ l) (sym next) ∙ s.so k;
        room = λ k below.
            let all = s.room k (omega (arith, below, many)) in
            let next : share_of k (drop i hs) ≡ cond (h == k) (suc (share_of k (drop (i + 1) hs))) (share_of k (drop (i + 1) hs)) = ap (share_of k) (drop_here hs i lt) in
            let moved = cond_count (h == k) x (items_at lists k) (items_at new k) (share_of k (drop (i + 1) hs)) (more k) in
            omega (arith, all, next, moved, same k);
      }

  nothing : (gs : List ℕ) (k : ℕ) → of_home {X = X} gs k [] ≡ []
  nothing [] k = refl
  nothing (g ∷ gs) k = refl

  pub sharing_last : (i : ℕ) (rest : List X) (lists : List (Vec X Global)) → length items ≡ length hs → Sharing i rest lists → rest ≡ [] → AreShares hs items lists
  sharing_last i rest lists long s e = record {
    each = long;
    shares = λ k. sym (append-nil (items_at lists k)) ∙ ap (λ l. items_at lists k ++ l) (sym (ap (of_home (drop i hs) k) e ∙ nothing (drop i hs) k)) ∙ s.so k;
  }

-- ---- the loop of ranks

count_push : (k h : ℕ) (hs : List ℕ) → share_of k (hs ++ h ∷ []) ≡ cond (h == k) (suc (share_of k hs)) (share_of k hs)
count_push k h [] = refl
count_push k h (g ∷ hs) = by (g == k) (h == k) (share_of k hs) (share_of k (hs ++ h ∷ [])) (count_push k h hs)
  where
    by : (a b : Bool) (n m : ℕ) → m ≡ cond b (suc n) n → cond a (suc m) m ≡ cond b (suc (cond a (suc n) n)) (cond a (suc n) n)
    by true true n m e = ap suc e
    by true false n m e = ap suc e
    by false true n m e = e
    by false false n m e = e

pub count_next : (k : ℕ) (hs : List ℕ) (i : ℕ) → i < length hs → share_of k (take (i + 1) hs) ≡ cond (slice_index hs i == k) (suc (share_of k (take i hs))) (share_of k (take i hs))
count_next k hs i lt = ap (share_of k) (take_more hs i 0 lt) ∙ count_push k (slice_index hs i) (take i hs)

-- the first i ranks, and how many of the first i homes each is
pub record Ranking (hs : List ℕ) (count i : ℕ) (ranks counts : List ℕ) : Type 0 where
  pub each : length ranks ≡ i
  pub ranks_are : (j : ℕ) → j < i → slice_index ranks j ≡ rank_of hs j
  pub many : length counts ≡ count
  pub counts_are : (k : ℕ) → k < count → slice_index counts k ≡ share_of k (take i hs)

index_push : (xs : List ℕ) (x i : ℕ) → (i < length xs → slice_index (xs ++ x ∷ []) i ≡ slice_index xs i) × (i ≡ length xs → slice_index (xs ++ x ∷ []) i ≡ x)
index_push [] x i = (λ lt. absurd (omega arith), λ e. ap (slice_index (x ∷ [])) e)
index_push (y ∷ xs) x zero = (λ lt. refl, λ e. absurd (omega (arith, e)))
index_push (y ∷ xs) x (suc i) = let r = index_push xs x i in (λ lt. r.0 (omega (arith, lt)), λ e. r.1 (omega (arith, e)))

index_set : (xs : List ℕ) (i k v : ℕ) → i < length xs → slice_index (set xs i v) k ≡ cond (i == k) v (slice_index xs k)
index_set xs i k v lt =
    ⊎_elim
    (λ (e : i ≡ k). ap (λ j. slice_index (set xs i v) j) (sym e) ∙ get_or-set_same xs i v 0 lt ∙ sym (cond-true (i == k) v (slice_index xs k) (eq-eqb i k e)))
    (λ (ne : i ≡ k → ⊥). get_or-set_other xs i k v 0 (λ e. ne (sym e)) ∙ sym (cond-false (i == k) v (slice_index xs k) (ne_eqb i k ne)))
    (cases_eq i k)

set_many : (xs : List ℕ) (i v : ℕ) → length (set xs i v) ≡ length xs
set_many [] i v = refl
set_many (x ∷ xs) zero v = refl
set_many (x ∷ xs) (suc i) v = ap suc (set_many xs i v)

pub ranking_next : (hs : List ℕ) (count i r : ℕ) (ranks counts ranks' counts' : List ℕ) → i < length hs → slice_index hs i < count → Ranking hs count i ranks counts → r ≡ slice_index counts (slice_index hs i) → ranks' ≡ ranks ++ r ∷ []
    → counts' ≡ set counts (slice_index hs i) (r + 1) → Ranking hs count (i + 1) ranks' counts'
ranking_next hs count i r ranks counts ranks' counts' lt below a is pushed was_set =
    let h = slice_index hs i in
    let rank : r ≡ share_of h (take i hs) = is ∙ a.counts_are h below in
    let size : length ranks' ≡ length (ranks ++ r ∷ []) = ap length pushed in
    record {
      each = let one : length (ranks ++ r ∷ []) ≡ length ranks + 1 = length-append ranks (r ∷ []) in omega (arith, size, one, a.each);
      ranks_are = λ j lj.
          ⊎_elim
          (λ (e : j ≡ i). ap (λ l. slice_index l j) pushed ∙ (index_push ranks r j).1 (e ∙ sym a.each) ∙ rank ∙ ap (rank_of hs) (sym e))
          (λ (ne : j ≡ i → ⊥). let less : j < i = omega (arith, lj, ne) in ap (λ l. slice_index l j) pushed ∙ (index_push ranks r j).0 (omega (arith, less, a.each)) ∙ a.ranks_are j less)
          (cases_eq j i);
      many = ap length was_set ∙ set_many counts h (r + 1) ∙ a.many;
      counts_are = λ k lk.
          ap (λ l. slice_index l k) was_set ∙ index_set counts h k (r + 1) (omega (arith, below, a.many)) ∙ by (h == k) k (λ t. eqb-true h k t) lk ∙ sym (count_next k hs i lt);
    }
  where
    by : (b : Bool) (k : ℕ) → (b ≡ true → slice_index hs i ≡ k) → k < count → cond b (r + 1) (slice_index counts k) ≡ cond b (suc (share_of k (take i hs))) (share_of k (take i hs))
    by true k same lk = let e : r ≡ share_of k (take i hs) = is ∙ ap (slice_index counts) (same refl) ∙ a.counts_are k lk in omega (arith, e)
    by false k same lk = a.counts_are k lk

-- ---- the loop that gathers, from the last home to the first

reverse_push : {X : Type 0} (xs : List X) (x : X) → reverse (xs ++ x ∷ []) ≡ x ∷ reverse xs
reverse_push xs x = reverse-append xs (x ∷ [])

module _ {X : Type 0} (hs : List ℕ) (all : List (Vec X Global)) where
  -- the lists were what is left of them and the shares of what was taken, where the first j homes are left
  pub record Gathering (j : ℕ) (items : List X) (lists : List (Vec X Global)) : Type 0 where
    pub many : length lists ≡ length all
    pub each : j + length items ≡ length hs
    pub so : (k : ℕ) → items_at all k ≡ items_at lists k ++ of_home (drop j hs) k (reverse items)
    pub left : (k : ℕ) → k < length lists → length (items_at lists k) ≡ share_of k (take j hs)

  drop_all : (gs : List ℕ) → drop (length gs) gs ≡ []
  drop_all [] = refl
  drop_all (g ∷ gs) = drop_all gs

  take_all : (gs : List ℕ) → take (length gs) gs ≡ gs
  take_all [] = refl
  take_all (g ∷ gs) = ap (λ l. g ∷ l) (take_all gs)

  pub gathering_first : (items : List X) → items ≡ [] → AreWhole hs all → Gathering (length hs) items all
  gathering_first items e w = record {
    many = refl;
    each = let size : length items ≡ 0 = ap length e in omega (arith, size);
    so = λ k. sym (append-nil (items_at all k)) ∙ ap (λ l. items_at all k ++ l) (sym (ap (λ l. of_home l k (reverse items)) (drop_all hs)));
    left = λ k lt. w.counts k lt ∙ ap (share_of k) (sym (take_all hs));
  }

  next_take : (j : ℕ) → j < length hs → (k : ℕ) → share_of k (take (suc j) hs) ≡ cond (slice_index hs j == k) (suc (share_of k (take j hs))) (share_of k (take j hs))
  next_take j lt k = let e : suc j ≡ j + 1 = omega arith in ap (λ n. share_of k (take n hs)) e ∙ count_next k hs j lt

  pub gathering_some : (j : ℕ) (items : List X) (lists : List (Vec X Global)) → AreWhole hs all → Gathering (suc j) items lists → 0 < length (items_at lists (slice_index hs j))
  gathering_some j items lists w a =
      let lt : j < length hs = omega (arith, a.each) in
      let h = slice_index hs j in
      let there = w.below j lt in
      let n = a.left h (omega (arith, there, a.many)) in
      let one : share_of h (take (suc j) hs) ≡ suc (share_of h (take j hs)) = next_take j lt h ∙ cond-true (h == h) _ _ (eq-eqb h h refl) in
      omega (arith, n, one)

  cond_back : (b : Bool) (x : X) (us vs ws : List X) → us ≡ vs ++ cond b (x ∷ []) [] → us ++ ws ≡ vs ++ cond b (x ∷ ws) ws
  cond_back true x us vs ws e = ap (λ l. l ++ ws) e ∙ append_assoc vs (x ∷ []) ws
  cond_back false x us vs ws e = ap (λ l. l ++ ws) (e ∙ append-nil vs)

  cond_fewer : (b : Bool) (x : X) (us vs : List X) (n m : ℕ) → us ≡ vs ++ cond b (x ∷ []) [] → length us ≡ m → m ≡ cond b (suc n) n → length vs ≡ n
  cond_fewer true x us vs n m e a c = let size : length us ≡ length (vs ++ x ∷ []) = ap length e in let more : length (vs ++ x ∷ []) ≡ length vs + 1 = length-append vs (x ∷ []) in omega (arith, size, more, a, c)
  cond_fewer false x us vs n m e a c = ap length (sym (e ∙ append-nil vs)) ∙ a ∙ c

  pub gathering_next : (j : ℕ) (items items' : List X) (x : X) (lists new : List (Vec X Global)) → Gathering (suc j) items lists → items' ≡ items ++ x ∷ [] → length new ≡ length lists
      → ((k : ℕ) → items_at lists k ≡ items_at new k ++ cond (slice_index hs j == k) (x ∷ []) []) → Gathering j items' new
  gathering_next j items items' x lists new a more many less =
      let lt : j < length hs = omega (arith, a.each) in
      let h = slice_index hs j in
      record {
        many = many ∙ a.many;
        each = let size : length items' ≡ length (items ++ x ∷ []) = ap length more in let one : length (items ++ x ∷ []) ≡ length items + 1 = length-append items (x ∷ []) in omega (arith, a.each, size, one);
        so = λ k.
            let shares : of_home (drop j hs) k (reverse items') ≡ cond (h == k) (x ∷ of_home (drop (suc j) hs) k (reverse items)) (of_home (drop (suc j) hs) k (reverse items)) =
            ap (λ l. of_home l k (reverse items')) (drop_next hs j lt) ∙ ap (of_home (h ∷ drop (suc j) hs) k) (ap reverse more ∙ reverse_push items x) in
            a.so k ∙ cond_back (h == k) x (items_at lists k) (items_at new k) (of_home (drop (suc j) hs) k (reverse items)) (less k) ∙ ap (λ l. items_at new k ++ l) (sym shares);
        left = λ k below. cond_fewer (h == k) x (items_at lists k) (items_at new k) (share_of k (take j hs)) _ (less k) (a.left k (omega (arith, below, many))) (next_take j lt k);
      }

  -- nothing is left
  none_left : (us : List X) → length us ≡ 0 → us ≡ []
  none_left [] e = refl
  none_left (u ∷ us) e = absurd (omega (arith, e))

  nothing_left : (lists : List (Vec X Global)) → ((k : ℕ) → k < length lists → length (items_at lists k) ≡ 0) → (k : ℕ) → items_at lists k ≡ []
  nothing_left [] h k = refl
  nothing_left (l ∷ lists) h zero = none_left l.items (h 0 (omega arith))
  nothing_left (l ∷ lists) h (suc k) = nothing_left lists (λ i lt. h (suc i) (omega (arith, lt))) k

  pub gathering_last : (items done : List X) (lists : List (Vec X Global)) → Gathering 0 items lists → done ≡ reverse items → AreShares hs done all
  gathering_last items done lists a e = record {
    each = let size : length done ≡ length items = ap length e ∙ length-reverse items in omega (arith, size, a.each);
    shares = λ k. a.so k ∙ ap (λ l. l ++ of_home hs k (reverse items)) (nothing_left lists a.left k) ∙ ap (of_home hs k) (sym e);
  }

-- a number that was read is the one that stands there
pub same_number : (xs : List ℕ) (i r : ℕ) → r ≡ get_or xs i r → i < length xs → r ≡ slice_index xs i
same_number [] i r e lt = absurd (omega arith)
same_number (x ∷ xs) zero r e lt = e
same_number (x ∷ xs) (suc i) r e lt = same_number xs i r e (omega (arith, lt))
