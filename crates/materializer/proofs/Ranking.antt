-- Where no walk of wires is closed, each wire has as its rank the number of wires from which a walk leads to it.
use Rattle.std.proofs.Common.{◌≡◌, ℕ, zero, suc, ◌<◌, ◌≤◌, Bool, true, false, ◌==◌, ◌&&◌, ◌||◌, List, [], ◌∷◌, length, Option, Some, None, refl, ap, ◌∙◌, subst, ⊎_elim, arith}
use Rattle.std.specs.Prelude.{slice_get}
use Rattle.std.proofs.lemmas.Bool.{cases_Bool, or_cases, and_parts, eqb-true, eq-eqb, or_left, or_right}
use Rattle.std.proofs.lemmas.Option.{slice_get-get_or}
use Rattle.stream_model.specs.Graph.{Graph, Edge}
use Rattle.stream_model.specs.Composed.{IsRanked}
use Rattle.blue_names.specs.Paths.{Path, Leads, stay, along, HasNoClosedWalk}
use Rattle.blue_check.proofs.Reaching.{path_append}

-- whether a walk leads from a to b: one that does not use the first wire, or one up to it and one behind it
abbrev reaches : List Edge → ℕ → ℕ → Bool
reaches [] a b = a == b
reaches (w ∷ ws) a b = reaches ws a b || (reaches ws a w.from && reaches ws w.to b)

reaches_itself : (ws : List Edge) (a : ℕ) → reaches ws a a ≡ true
reaches_itself [] a = eq-eqb a a refl
reaches_itself (w ∷ ws) a = or_left (reaches ws a a) (reaches ws a w.from && reaches ws w.to a) (reaches_itself ws a)

and_both : (p q : Bool) → p ≡ true → q ≡ true → (p && q) ≡ true
and_both p q a b = grind (arith, a, b)

-- by the first wire
around : (w : Edge) (ws : List Edge) (a b : ℕ) → reaches ws a w.from ≡ true → reaches ws w.to b ≡ true → reaches (w ∷ ws) a b ≡ true
around w ws a b p q = or_right (reaches ws a b) (reaches ws a w.from && reaches ws w.to b) (and_both _ _ p q)

aside : (w : Edge) (ws : List Edge) (a b : ℕ) → reaches ws a b ≡ true → reaches (w ∷ ws) a b ≡ true
aside w ws a b p = or_left (reaches ws a b) (reaches ws a w.from && reaches ws w.to b) p

reaches_on : (ws : List Edge) (a b c : ℕ) → reaches ws a b ≡ true → reaches ws b c ≡ true → reaches ws a c ≡ true
reaches_on [] a b c p q = eq-eqb a c (eqb-true a b p ∙ eqb-true b c q)
reaches_on (w ∷ ws) a b c p q =
    ⊎_elim
    (λ (ab : reaches ws a b ≡ true).
    ⊎_elim
    (λ (bc : reaches ws b c ≡ true). aside w ws a c (reaches_on ws a b c ab bc))
    (λ bc. let two = and_parts (reaches ws b w.from) (reaches ws w.to c) bc in around w ws a c (reaches_on ws a b w.from ab two.0) two.1)
    (or_cases (reaches ws b c) (reaches ws b w.from && reaches ws w.to c) q))
    (λ ab.
    let one = and_parts (reaches ws a w.from) (reaches ws w.to b) ab in
    ⊎_elim
    (λ (bc : reaches ws b c ≡ true). around w ws a c one.0 (reaches_on ws w.to b c one.1 bc))
    (λ bc. let two = and_parts (reaches ws b w.from) (reaches ws w.to c) bc in around w ws a c one.0 two.1)
    (or_cases (reaches ws b c) (reaches ws b w.from && reaches ws w.to c) q))
    (or_cases (reaches ws a b) (reaches ws a w.from && reaches ws w.to b) p)

-- along a wire
reaches_along : (ws : List Edge) (i : ℕ) (w : Edge) → slice_get ws i ≡ Some w → reaches ws w.from w.to ≡ true
reaches_along [] i w h = absurd cc
reaches_along (v ∷ ws) zero w h =
    let e : v ≡ w = cc in
    subst (λ (u : Edge). reaches (v ∷ ws) u.from u.to ≡ true) e (around v ws v.from v.to (reaches_itself ws v.from) (reaches_itself ws v.to))
reaches_along (v ∷ ws) (suc i) w h = aside v ws w.from w.to (reaches_along ws i w h)

-- a walk along fewer wires is one
leads_behind : (w : Edge) (ws : List Edge) (a b : ℕ) → Leads ws a b → Leads (w ∷ ws) a b
leads_behind w ws a b l = record { wire = suc l.wire; is = l.is; at = l.at; from = l.from; to = l.to }

path_behind : (w : Edge) (ws : List Edge) (a b : ℕ) → Path ws a b → Path (w ∷ ws) a b
path_behind w ws a b stay = stay
path_behind w ws a b (along l p) = along (leads_behind w ws _ _ l) (path_behind w ws _ b p)

walk : (ws : List Edge) (a b : ℕ) → reaches ws a b ≡ true → Path ws a b
walk [] a b h = let e : a ≡ b = eqb-true a b h in subst (Path [] a) e stay
walk (w ∷ ws) a b h =
    ⊎_elim
    (λ (p : reaches ws a b ≡ true). path_behind w ws a b (walk ws a b p))
    (λ p.
    let two = and_parts (reaches ws a w.from) (reaches ws w.to b) p in
    let over : Leads (w ∷ ws) w.from w.to = record { wire = 0; is = w; at = refl; from = refl; to = refl } in
    path_append (w ∷ ws) a w.from b (path_behind w ws a w.from (walk ws a w.from two.0)) (along over (path_behind w ws w.to b (walk ws w.to b two.1))))
    (or_cases (reaches ws a b) (reaches ws a w.from && reaches ws w.to b) h)

-- ---- counts

-- how many pass a test
abbrev one_if : Bool → ℕ → ℕ
one_if true n = suc n
one_if false n = n

abbrev passing : (Edge → Bool) → List Edge → ℕ
passing test [] = 0
passing test (w ∷ ws) = one_if (test w) (passing test ws)

-- where each that passes one test passes another, no fewer pass that
one_more : (p q : Bool) (m n : ℕ) → (p ≡ true → q ≡ true) → m ≤ n → one_if p m ≤ one_if q n
one_more false false m n h le = le
one_more false true m n h le = omega arith
one_more true true m n h le = omega arith
one_more true false m n h le = let e : false ≡ true = h refl in absurd cc

no_fewer : (p q : Edge → Bool) (ws : List Edge) → ((w : Edge) → p w ≡ true → q w ≡ true) → passing p ws ≤ passing q ws
no_fewer p q [] h = omega arith
no_fewer p q (w ∷ ws) h = one_more (p w) (q w) (passing p ws) (passing q ws) (h w) (no_fewer p q ws h)

here_more : (p q : Bool) (m n : ℕ) → p ≡ false → q ≡ true → m ≤ n → one_if p m < one_if q n
here_more false true m n a b le = omega arith
here_more false false m n a b le = absurd cc
here_more true q m n a b le = absurd cc

there_more : (p q : Bool) (m n : ℕ) → (p ≡ true → q ≡ true) → m < n → one_if p m < one_if q n
there_more false false m n h lt = lt
there_more false true m n h lt = omega arith
there_more true true m n h lt = omega arith
there_more true false m n h lt = let e : false ≡ true = h refl in absurd cc

-- and where one of them passes that alone, more do
more : (p q : Edge → Bool) (ws : List Edge) (i : ℕ) (v : Edge) → slice_get ws i ≡ Some v → ((w : Edge) → p w ≡ true → q w ≡ true) → p v ≡ false → q v ≡ true → passing p ws < passing q ws
more p q [] i v at h a b = absurd cc
more p q (w ∷ ws) zero v at h a b =
    let e : v ≡ w = cc in
    here_more (p w) (q w) (passing p ws) (passing q ws) (subst (λ u. p u ≡ false) e a) (subst (λ u. q u ≡ true) e b) (no_fewer p q ws h)
more p q (w ∷ ws) (suc i) v at h a b = there_more (p w) (q w) (passing p ws) (passing q ws) (h w) (more p q ws i v at h a b)

all_pass : (ws : List Edge) → passing (λ _. true) ws ≡ length ws
all_pass [] = refl
all_pass (w ∷ ws) = ap suc (all_pass ws)

-- ---- ranks

module _ (ws : List Edge) where
  -- a walk leads from behind u to the beginning of v
  abbrev before : Edge → Edge → Bool
  before v u = reaches ws u.to v.from

  abbrev rank_by : Option Edge → ℕ
  rank_by None = 0
  rank_by (Some v) = passing (before v) ws

  abbrev rank : ℕ → ℕ
  rank i = rank_by (slice_get ws i)

  rank_is : (i : ℕ) (v : Edge) → slice_get ws i ≡ Some v → rank i ≡ passing (before v) ws
  rank_is i v at = ap rank_by at

  module _ (none : HasNoClosedWalk ws) where
    -- no wire comes before itself
    not_itself : (i : ℕ) (v : Edge) → slice_get ws i ≡ Some v → before v v ≡ false
    not_itself i v at =
        ⊎_elim
        (λ (t : reaches ws v.to v.from ≡ true). absurd (none.none i (record { wire = v; at = at; back = walk ws v.to v.from t })))
        (λ f. f)
        (cases_Bool (reaches ws v.to v.from))

    rank_below : (i : ℕ) (v : Edge) → slice_get ws i ≡ Some v → rank i < length ws
    rank_below i v at =
        let r : rank i ≡ passing (before v) ws = rank_is i v at in
        let lt : passing (before v) ws < passing (λ _. true) ws = more (before v) (λ _. true) ws i v at (λ _ _. refl) (not_itself i v at) refl in
        omega (arith, r, lt, all_pass ws)

    rank_rises : (i j : ℕ) (v u : Edge) → slice_get ws i ≡ Some v → slice_get ws j ≡ Some u → v.to ≡ u.from → rank i < rank j
    rank_rises i j v u vi uj e =
        let r : rank i ≡ passing (before v) ws = rank_is i v vi in
        let s : rank j ≡ passing (before u) ws = rank_is j u uj in
        let on : (w : Edge) → before v w ≡ true → before u w ≡ true = λ w h. subst (λ n. reaches ws w.to n ≡ true) e (reaches_on ws w.to v.from v.to h (reaches_along ws i v vi)) in
        let here : before u v ≡ true = subst (λ n. reaches ws v.to n ≡ true) e (reaches_itself ws v.to) in
        let lt : passing (before v) ws < passing (before u) ws = more (before v) (before u) ws i v vi on (not_itself i v vi) here in
        omega (arith, r, s, lt)

-- so a graph of such wires is ranked
pub ranked : (g : Graph) → HasNoClosedWalk g.wires → (rank : ℕ → ℕ) × IsRanked g rank
ranked g none = (
  rank g.wires,
  record {
    below = λ i h. rank_below g.wires none i _ (slice_get-get_or g.wires i (record { from = 0; output = 0; to = 0; input = 0; lane = None; keep = false; hub = None }) h);
    rises = rank_rises g.wires none;
  },
)
