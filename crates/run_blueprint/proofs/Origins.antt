-- Where a settled type comes from, and that a further round settles no more.
use Rattle.std.proofs.Common.{◌≡◌, ℕ, zero, suc, ◌+◌, ◌<◌, ◌≤◌, true, false, ◌⊎◌, inl, inr, ⊎_elim, List, [], ◌∷◌, length, Option, Some, None, is_some, refl, sym, ap, ◌∙◌, subst, arith}
use Rattle.std.specs.Prelude.{slice_get}
use Rattle.std.specs.Option.{option_or}
use Rattle.std.proofs.lemmas.Bool.{cases_lt}
use mathlib.Core.Path.{fun_ext}
use Rattle.elem_core.specs.Sort.{Sort}
use Rattle.stream_model.specs.Composed.{count_from}
use Rattle.stream_model.specs.Graph.{Edge}
use Rattle.stream_model.specs.declared.blueprint.ChainDecl.{ChainDecl}
use Rattle.stream_model.specs.declared.blueprint.Node.{Node}
use Rattle.stream_model.specs.Known.{HeadLists}
use Rattle.blue_names.specs.CustomPorts.{kind_inputs}
use Rattle.blue_names.specs.Rounds.{source_at, fixes, arrivals, attempt, attempt_at, next, rounds, settled}
use Rattle.blue_names.specs.StageTypes.{source_type}
use Rattle.blue_names.specs.declared.typed.Typed.{Typed}
use Rattle.blue_names.specs.declared.typed.Typed.TheVariants.{Gives, Clashes, TooDeep}

fixes_from : (o : Option Typed) (u : Sort) → fixes o ≡ Some u → o ≡ Some (Gives u)
fixes_from None u h = cc
fixes_from (Some (Gives t)) u h = let same : t ≡ u = cc in ap (λ (s : Sort). Some (Gives s)) same
fixes_from (Some (Clashes t w)) u h = cc
fixes_from (Some TooDeep) u h = cc

-- the first of two, or the second
either : (a b : Option Sort) (u : Sort) → option_or a b ≡ Some u → (a ≡ Some u) ⊎ ((a ≡ None) × (b ≡ Some u))
either None b u h = inr (refl, h)
either (Some t) b u h = inl h

past_end : (xs : List Node) (i : ℕ) → length xs ≤ i → slice_get xs i ≡ None
past_end [] i h = refl
past_end (x ∷ xs) zero h = absurd (omega arith)
past_end (x ∷ xs) (suc i) h = past_end xs i (omega arith)

none_behind : (o : Option Sort) → option_or o None ≡ o
none_behind None = refl
none_behind (Some s) = refl

-- ---- how many of the first n have a type

abbrev one_if : Option Sort → ℕ
one_if None = 0
one_if (Some s) = 1

abbrev known_of : (ℕ → Option Sort) → ℕ → ℕ
known_of types zero = 0
known_of types (suc n) = known_of types n + one_if (types n)

one_at_most : (o : Option Sort) → one_if o ≤ 1
one_at_most None = omega arith
one_at_most (Some s) = omega arith

known_few : (types : ℕ → Option Sort) (n : ℕ) → known_of types n ≤ n
known_few types zero = omega arith
known_few types (suc n) = omega (arith, known_few types n, one_at_most (types n))

-- what is known stays known
abbrev Keeps : (ℕ → Option Sort) → (ℕ → Option Sort) → Type 0
Keeps types later = (i : ℕ) (s : Sort) → types i ≡ Some s → later i ≡ Some s

one_kept : (a b : Option Sort) → ((s : Sort) → a ≡ Some s → b ≡ Some s) → one_if a ≤ one_if b
one_kept None b h = omega arith
one_kept (Some s) b h = let e : b ≡ Some s = h s refl in rw e (omega arith)

known_grows : (types later : ℕ → Option Sort) (n : ℕ) → Keeps types later → known_of types n ≤ known_of later n
known_grows types later zero h = omega arith
known_grows types later (suc n) h = omega (arith, known_grows types later n h, one_kept (types n) (later n) (h n))

one_same : (a b : Option Sort) → one_if b ≤ one_if a → is_some b ≡ true → is_some a ≡ true
one_same None None h k = k
one_same None (Some s) h k = absurd (omega (arith, h))
one_same (Some s) b h k = refl

-- and where no more are, the same are
no_more : (types later : ℕ → Option Sort) (n : ℕ) → Keeps types later → known_of later n ≤ known_of types n → (i : ℕ) → i < n → is_some (later i) ≡ true → is_some (types i) ≡ true
no_more types later zero keeps le i lt k = absurd (omega arith)
no_more types later (suc n) keeps le i lt k =
    let below = known_grows types later n keeps in
    let here = one_kept (types n) (later n) (keeps n) in
    ⊎_elim (λ (less : i < n). no_more types later n keeps (omega (arith, le, here)) i less k)
    (λ (more : n ≤ i).
    let same : i ≡ n = omega arith in
    subst (λ j. is_some (types j) ≡ true) (sym same) (one_same (types n) (later n) (omega (arith, le, below)) (subst (λ j. is_some (later j) ≡ true) same k)))
    (cases_lt i n)

module _ (heads : HeadLists) (chains : List ChainDecl) (nodes : List Node) (ws : List Edge) where
  abbrev after : ℕ → ℕ → Option Sort
  after = rounds heads chains nodes ws

  -- a type that is settled stays so
  pub kept_next : (m i : ℕ) (s : Sort) → after m i ≡ Some s → after (suc m) i ≡ Some s
  kept_next m i s e = ap (λ o. option_or o (fixes (attempt_at heads chains nodes ws (after m) i (slice_get nodes i)))) e

  -- the type of node k, by its kind alone, or by what it gives for types that are settled
  pub data Origin (k : ℕ) (n : Node) (u : Sort) : Type 0 where
    by_source : source_type n.kind ≡ Some u → Origin k n u
    by_round : (types : ℕ → Option Sort) → ((i : ℕ) (s : Sort) → types i ≡ Some s → settled heads chains nodes ws i ≡ Some s)
        → attempt heads chains n.kind (arrivals heads nodes ws types k (count_from 0 (kind_inputs heads n.kind))) ≡ Some (Gives u) → Origin k n u

  origin_at : (k : ℕ) (n : Node) (u : Sort) → slice_get nodes k ≡ Some n → (m : ℕ) → ((i : ℕ) (s : Sort) → after m i ≡ Some s → settled heads chains nodes ws i ≡ Some s) → after m k ≡ Some u → Origin k n u
  origin_at k n u at zero later e = by_source (sym (ap source_at at) ∙ e)
  origin_at k n u at (suc m) later e =
      by_case (either (after m k) (fixes (attempt_at heads chains nodes ws (after m) k (slice_get nodes k))) u e)
      (λ (h : after m k ≡ Some u). origin_at k n u at m (λ i s r. later i s (kept_next m i s r)) h)
    where
      by_case : (after m k ≡ Some u) ⊎ ((after m k ≡ None) × (fixes (attempt_at heads chains nodes ws (after m) k (slice_get nodes k)) ≡ Some u)) → (after m k ≡ Some u → Origin k n u) → Origin k n u
      by_case (inl h) earlier = earlier h
      by_case (inr h) earlier =
          by_round (after m) (λ i s r. later i s (kept_next m i s r)) (sym (ap (attempt_at heads chains nodes ws (after m) k) at) ∙ fixes_from (attempt_at heads chains nodes ws (after m) k (slice_get nodes k)) u h.1)

  pub origin : (k : ℕ) (n : Node) (u : Sort) → slice_get nodes k ≡ Some n → settled heads chains nodes ws k ≡ Some u → Origin k n u
  origin k n u at e = origin_at k n u at (length nodes) (λ i s r. r) e

  -- a source has its type from the start
  source_after : (m k : ℕ) (u : Sort) → source_at (slice_get nodes k) ≡ Some u → after m k ≡ Some u
  source_after zero k u h = h
  source_after (suc m) k u h = kept_next m k u (source_after m k u h)

  pub source_settles : (k : ℕ) (n : Node) (u : Sort) → slice_get nodes k ≡ Some n → source_type n.kind ≡ Some u → settled heads chains nodes ws k ≡ Some u
  source_settles k n u at h = source_after (length nodes) k u (ap source_at at ∙ h)

  -- ---- the rounds come to rest

  -- two rounds are one where each node that the second knows is known to the first
  same_types : (m : ℕ) → ((i : ℕ) → i < length nodes → is_some (after (suc m) i) ≡ true → is_some (after m i) ≡ true) → after (suc m) ≡ after m
  same_types m h = fun_ext (λ i. by_place i (cases_lt i (length nodes)))
    where
      known : (a b : Option Sort) → (is_some (option_or a b) ≡ true → is_some a ≡ true) → option_or a b ≡ a
      known None None k = refl
      known None (Some s) k = let no : false ≡ true = k refl in cc
      known (Some s) b k = refl

      by_place : (i : ℕ) → (i < length nodes) ⊎ (length nodes ≤ i) → after (suc m) i ≡ after m i
      by_place i (inl lt) = known (after m i) (fixes (attempt_at heads chains nodes ws (after m) i (slice_get nodes i))) (h i lt)
      by_place i (inr le) =
          ap (λ o. option_or (after m i) (fixes (attempt_at heads chains nodes ws (after m) i o))) (past_end nodes i le) ∙ none_behind (after m i)

  same_onward : (m : ℕ) → after (suc m) ≡ after m → after (suc (suc m)) ≡ after (suc m)
  same_onward m e = ap (next heads chains nodes ws) e

  -- after m + 1 rounds more than m nodes are known, or a round earlier all that ever will be
  rests_or_grows : (m : ℕ) → (after (suc m) ≡ after m) ⊎ (m < known_of (after (suc m)) (length nodes))
  rests_or_grows zero = by_count (cases_lt (known_of (after zero) (length nodes)) (known_of (after (suc zero)) (length nodes)))
    where
      by_count : (known_of (after zero) (length nodes) < known_of (after (suc zero)) (length nodes)) ⊎ (known_of (after (suc zero)) (length nodes) ≤ known_of (after zero) (length nodes))
          → (after (suc zero) ≡ after zero) ⊎ (zero < known_of (after (suc zero)) (length nodes))
      by_count (inl lt) = inr (omega (arith, lt))
      by_count (inr le) = inl (same_types zero (no_more (after zero) (after (suc zero)) (length nodes) (kept_next zero) le))
  rests_or_grows (suc m) = by_earlier (rests_or_grows m) (cases_lt (known_of (after (suc m)) (length nodes)) (known_of (after (suc (suc m))) (length nodes)))
    where
      by_earlier : (after (suc m) ≡ after m) ⊎ (m < known_of (after (suc m)) (length nodes))
          → (known_of (after (suc m)) (length nodes) < known_of (after (suc (suc m))) (length nodes)) ⊎ (known_of (after (suc (suc m))) (length nodes) ≤ known_of (after (suc m)) (length nodes))
          → (after (suc (suc m)) ≡ after (suc m)) ⊎ (suc m < known_of (after (suc (suc m))) (length nodes))
      by_earlier (inl same) c = inl (same_onward m same)
      by_earlier (inr more) (inl lt) = inr (omega (arith, more, lt))
      by_earlier (inr more) (inr le) = inl (same_types (suc m) (no_more (after (suc m)) (after (suc (suc m))) (length nodes) (kept_next (suc m)) le))

  -- so a round more than there are nodes settles nothing
  pub settles_no_more : next heads chains nodes ws (settled heads chains nodes ws) ≡ settled heads chains nodes ws
  settles_no_more =
      ⊎_elim (λ (same : after (suc (length nodes)) ≡ after (length nodes)). same)
      (λ (more : length nodes < known_of (after (suc (length nodes))) (length nodes)). absurd (omega (arith, more, known_few (after (suc (length nodes))) (length nodes))))
      (rests_or_grows (length nodes))
