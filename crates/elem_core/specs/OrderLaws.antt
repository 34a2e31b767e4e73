-- The order of elements is total, and tells elements apart.
use Rattle.std.specs.Ordering.{ordering_then, ordering_reverse}
use Rattle.std.specs.declared.cmp.Ordering.{Ordering}
use Rattle.std.specs.declared.cmp.Ordering.TheVariants.{Less, Equal, Greater}
use Rattle.std.specs.Cmp.{IsTotalOrder, int_cmp_total}
use Rattle.std.specs.Cmp.Lexicographic.{nat_list_cmp_total}
use Rattle.std.proofs.lemmas.Map.Lookups.{exact_bytes, exact_signed}
use Rattle.std.proofs.Common.{◌≡◌, ◌⊎◌, inl, inr, refl, sym, ap, ◌∙◌}
use Rattle.elem_core.specs.Tree.{Tree, Row, num, text, seq, both, none, more}
use Rattle.elem_core.specs.Order.{tree_cmp, row_cmp}

-- a first and a second test that come out equal together are both equal
both_equal : (a b : Ordering) → ordering_then a b ≡ Equal → (a ≡ Equal) × (b ≡ Equal)
both_equal Less b h = cc
both_equal Equal b h = (refl, h)
both_equal Greater b h = cc

-- which of two tests makes them less together
less_by : (a b : Ordering) → ordering_then a b ≡ Less → (a ≡ Less) ⊎ ((a ≡ Equal) × (b ≡ Less))
less_by Less b h = inl refl
less_by Equal b h = inr (refl, h)
less_by Greater b h = cc

-- two tests turned round
then_flip : (a c b d : Ordering) → a ≡ ordering_reverse c → b ≡ ordering_reverse d → ordering_then a b ≡ ordering_reverse (ordering_then c d)
then_flip a Less b d e h = ap (λ x. ordering_then x b) e
then_flip a Equal b d e h = ap (λ x. ordering_then x b) e ∙ h
then_flip a Greater b d e h = ap (λ x. ordering_then x b) e

-- the first test decides
then_less : (a b : Ordering) → a ≡ Less → ordering_then a b ≡ Less
then_less a b e = ap (λ x. ordering_then x b) e

module _ {X Y : Type 0} (R : X → X → Ordering) (S : Y → Y → Ordering) where
  -- by two tests in turn, of which the first tells its sides apart
  pairs_trans : (c0 c1 c2 : X) (d0 d1 d2 : Y) → (R c0 c1 ≡ Less → R c1 c2 ≡ Less → R c0 c2 ≡ Less) → (S d0 d1 ≡ Less → S d1 d2 ≡ Less → S d0 d2 ≡ Less)
      → (R c0 c1 ≡ Equal → c0 ≡ c1) → (R c1 c2 ≡ Equal → c1 ≡ c2)
      → ordering_then (R c0 c1) (S d0 d1) ≡ Less → ordering_then (R c1 c2) (S d1 d2) ≡ Less → ordering_then (R c0 c2) (S d0 d2) ≡ Less
  pairs_trans c0 c1 c2 d0 d1 d2 t u e f h g = by_both (less_by (R c0 c1) (S d0 d1) h) (less_by (R c1 c2) (S d1 d2) g)
    where
      by_both : (R c0 c1 ≡ Less) ⊎ ((R c0 c1 ≡ Equal) × (S d0 d1 ≡ Less)) → (R c1 c2 ≡ Less) ⊎ ((R c1 c2 ≡ Equal) × (S d1 d2 ≡ Less))
          → ordering_then (R c0 c2) (S d0 d2) ≡ Less
      by_both (inl p) (inl q) = then_less (R c0 c2) (S d0 d2) (t p q)
      by_both (inl p) (inr q) = then_less (R c0 c2) (S d0 d2) (ap (R c0) (sym (f q.0)) ∙ p)
      by_both (inr p) (inl q) = then_less (R c0 c2) (S d0 d2) (ap (λ k. R k c2) (e p.0) ∙ q)
      by_both (inr p) (inr q) = ap (λ x. ordering_then x (S d0 d2)) (ap (λ k. R k c2) (e p.0) ∙ q.0) ∙ u p.1 q.1

-- elements that compare equal are one
mutual
  pub tree_exact : (x y : Tree) → tree_cmp x y ≡ Equal → x ≡ y
  tree_exact (num x0) (num x1) h = ap num (exact_signed x0 x1 h)
  tree_exact (num x0) (text a1) h = cc
  tree_exact (num x0) (seq r1) h = cc
  tree_exact (num x0) (both c1 d1) h = cc
  tree_exact (text a0) (num x1) h = cc
  tree_exact (text a0) (text a1) h = ap text (exact_bytes a0 a1 h)
  tree_exact (text a0) (seq r1) h = cc
  tree_exact (text a0) (both c1 d1) h = cc
  tree_exact (seq r0) (num x1) h = cc
  tree_exact (seq r0) (text a1) h = cc
  tree_exact (seq r0) (seq r1) h = ap seq (row_exact r0 r1 h)
  tree_exact (seq r0) (both c1 d1) h = cc
  tree_exact (both c0 d0) (num x1) h = cc
  tree_exact (both c0 d0) (text a1) h = cc
  tree_exact (both c0 d0) (seq r1) h = cc
  tree_exact (both c0 d0) (both c1 d1) h = let q = both_equal (tree_cmp c0 c1) (tree_cmp d0 d1) h in cc (tree_exact c0 c1 q.0, tree_exact d0 d1 q.1)

  row_exact : (x y : Row) → row_cmp x y ≡ Equal → x ≡ y
  row_exact none none h = refl
  row_exact none (more t r) h = cc
  row_exact (more t r) none h = cc
  row_exact (more t r) (more u s) h = let q = both_equal (tree_cmp t u) (row_cmp r s) h in cc (tree_exact t u q.0, row_exact r s q.1)

-- the other way round
mutual
  tree_flip : (x y : Tree) → tree_cmp x y ≡ ordering_reverse (tree_cmp y x)
  tree_flip (num x0) (num x1) = int_cmp_total.antisymm x0 x1
  tree_flip (num x0) (text a1) = refl
  tree_flip (num x0) (seq r1) = refl
  tree_flip (num x0) (both c1 d1) = refl
  tree_flip (text a0) (num x1) = refl
  tree_flip (text a0) (text a1) = nat_list_cmp_total.antisymm a0 a1
  tree_flip (text a0) (seq r1) = refl
  tree_flip (text a0) (both c1 d1) = refl
  tree_flip (seq r0) (num x1) = refl
  tree_flip (seq r0) (text a1) = refl
  tree_flip (seq r0) (seq r1) = row_flip r0 r1
  tree_flip (seq r0) (both c1 d1) = refl
  tree_flip (both c0 d0) (num x1) = refl
  tree_flip (both c0 d0) (text a1) = refl
  tree_flip (both c0 d0) (seq r1) = refl
  tree_flip (both c0 d0) (both c1 d1) = then_flip (tree_cmp c0 c1) (tree_cmp c1 c0) (tree_cmp d0 d1) (tree_cmp d1 d0) (tree_flip c0 c1) (tree_flip d0 d1)

  row_flip : (x y : Row) → row_cmp x y ≡ ordering_reverse (row_cmp y x)
  row_flip none none = refl
  row_flip none (more t r) = refl
  row_flip (more t r) none = refl
  row_flip (more t r) (more u s) = then_flip (tree_cmp t u) (tree_cmp u t) (row_cmp r s) (row_cmp s r) (tree_flip t u) (row_flip r s)

-- one after another
mutual
  tree_trans : (x y z : Tree) → tree_cmp x y ≡ Less → tree_cmp y z ≡ Less → tree_cmp x z ≡ Less
  tree_trans (num x0) (num x1) (num x2) h g = int_cmp_total.trans x0 x1 x2 h g
  tree_trans (num x0) (num x1) (text a2) h g = refl
  tree_trans (num x0) (num x1) (seq r2) h g = refl
  tree_trans (num x0) (num x1) (both c2 d2) h g = refl
  tree_trans (num x0) (text a1) (num x2) h g = cc
  tree_trans (num x0) (text a1) (text a2) h g = refl
  tree_trans (num x0) (text a1) (seq r2) h g = refl
  tree_trans (num x0) (text a1) (both c2 d2) h g = refl
  tree_trans (num x0) (seq r1) (num x2) h g = cc
  tree_trans (num x0) (seq r1) (text a2) h g = refl
  tree_trans (num x0) (seq r1) (seq r2) h g = refl
  tree_trans (num x0) (seq r1) (both c2 d2) h g = refl
  tree_trans (num x0) (both c1 d1) (num x2) h g = cc
  tree_trans (num x0) (both c1 d1) (text a2) h g = refl
  tree_trans (num x0) (both c1 d1) (seq r2) h g = refl
  tree_trans (num x0) (both c1 d1) (both c2 d2) h g = refl
  tree_trans (text a0) (num x1) (num x2) h g = cc
  tree_trans (text a0) (num x1) (text a2) h g = cc
  tree_trans (text a0) (num x1) (seq r2) h g = refl
  tree_trans (text a0) (num x1) (both c2 d2) h g = refl
  tree_trans (text a0) (text a1) (num x2) h g = cc
  tree_trans (text a0) (text a1) (text a2) h g = nat_list_cmp_total.trans a0 a1 a2 h g
  tree_trans (text a0) (text a1) (seq r2) h g = refl
  tree_trans (text a0) (text a1) (both c2 d2) h g = refl
  tree_trans (text a0) (seq r1) (num x2) h g = cc
  tree_trans (text a0) (seq r1) (text a2) h g = cc
  tree_trans (text a0) (seq r1) (seq r2) h g = refl
  tree_trans (text a0) (seq r1) (both c2 d2) h g = refl
  tree_trans (text a0) (both c1 d1) (num x2) h g = cc
  tree_trans (text a0) (both c1 d1) (text a2) h g = cc
  tree_trans (text a0) (both c1 d1) (seq r2) h g = refl
  tree_trans (text a0) (both c1 d1) (both c2 d2) h g = refl
  tree_trans (seq r0) (num x1) (num x2) h g = cc
  tree_trans (seq r0) (num x1) (text a2) h g = cc
  tree_trans (seq r0) (num x1) (seq r2) h g = cc
  tree_trans (seq r0) (num x1) (both c2 d2) h g = refl
  tree_trans (seq r0) (text a1) (num x2) h g = cc
  tree_trans (seq r0) (text a1) (text a2) h g = cc
  tree_trans (seq r0) (text a1) (seq r2) h g = cc
  tree_trans (seq r0) (text a1) (both c2 d2) h g = refl
  tree_trans (seq r0) (seq r1) (num x2) h g = cc
  tree_trans (seq r0) (seq r1) (text a2) h g = cc
  tree_trans (seq r0) (seq r1) (seq r2) h g = row_trans r0 r1 r2 h g
  tree_trans (seq r0) (seq r1) (both c2 d2) h g = refl
  tree_trans (seq r0) (both c1 d1) (num x2) h g = cc
  tree_trans (seq r0) (both c1 d1) (text a2) h g = cc
  tree_trans (seq r0) (both c1 d1) (seq r2) h g = cc
  tree_trans (seq r0) (both c1 d1) (both c2 d2) h g = refl
  tree_trans (both c0 d0) (num x1) (num x2) h g = cc
  tree_trans (both c0 d0) (num x1) (text a2) h g = cc
  tree_trans (both c0 d0) (num x1) (seq r2) h g = cc
  tree_trans (both c0 d0) (num x1) (both c2 d2) h g = cc
  tree_trans (both c0 d0) (text a1) (num x2) h g = cc
  tree_trans (both c0 d0) (text a1) (text a2) h g = cc
  tree_trans (both c0 d0) (text a1) (seq r2) h g = cc
  tree_trans (both c0 d0) (text a1) (both c2 d2) h g = cc
  tree_trans (both c0 d0) (seq r1) (num x2) h g = cc
  tree_trans (both c0 d0) (seq r1) (text a2) h g = cc
  tree_trans (both c0 d0) (seq r1) (seq r2) h g = cc
  tree_trans (both c0 d0) (seq r1) (both c2 d2) h g = cc
  tree_trans (both c0 d0) (both c1 d1) (num x2) h g = cc
  tree_trans (both c0 d0) (both c1 d1) (text a2) h g = cc
  tree_trans (both c0 d0) (both c1 d1) (seq r2) h g = cc
  tree_trans (both c0 d0) (both c1 d1) (both c2 d2) h g = pairs_trans tree_cmp tree_cmp c0 c1 c2 d0 d1 d2 (tree_trans c0 c1 c2) (tree_trans d0 d1 d2)
      (tree_exact c0 c1) (tree_exact c1 c2) h g

  row_trans : (x y z : Row) → row_cmp x y ≡ Less → row_cmp y z ≡ Less → row_cmp x z ≡ Less
  row_trans none none z h g = cc
  row_trans none (more u s) none h g = cc
  row_trans none (more u s) (more v q) h g = refl
  row_trans (more t r) none z h g = cc
  row_trans (more t r) (more u s) none h g = cc
  row_trans (more t r) (more u s) (more v q) h g = pairs_trans tree_cmp row_cmp t u v r s q (tree_trans t u v) (row_trans r s q) (tree_exact t u)
      (tree_exact u v) h g

-- the order of elements is total
pub trees_total : IsTotalOrder tree_cmp
trees_total = record { antisymm = tree_flip; trans = tree_trans; congr = λ x y z e. ap (λ k. tree_cmp k z) (tree_exact x y e) }
