-- The table of a body, as its ends are written into it.
use Rattle.std.proofs.Common.{◌≡◌, ◌≢◌, inl, inr, ℕ, zero, suc, ◌+◌, ◌<◌, Some, List, length, replicate, set, slice_get, refl, sym, ap, ◌∙◌, subst, arith}
use Rattle.std.proofs.lemmas.List.{length-set}
use Rattle.std.proofs.lemmas.Option.{slice_get_within}
use Rattle.fused_net.proofs.Reading.{same_or_not, get_set_same, get_set_other}
use Rattle.interpreter.specs.Island.{Kept}
use Rattle.interpreter.specs.Boundary.{way_in, way_out}
use Rattle.fused_net.specs.Net.{end_at}
use Rattle.island_body.specs.Ends.{AreApart, IsTable}
use Rattle.island_body.specs.declared.way.Way.{Way}
use Rattle.island_body.specs.declared.way.Way.TheVariants.{Inner, In, Out}
use Rattle.island_body.proofs.Lists.{some_same}

in_place : (j k : ℕ) → Some (In j) ≡ Some (In k) → j ≡ k
in_place j k e = cc

out_place : (j k : ℕ) → Some (Out j) ≡ Some (Out k) → j ≡ k
out_place j k e = cc

in_not_out : (j k : ℕ) → Some (In j) ≡ Some (Out k) → ⊥
in_not_out j k e = cc

out_not_in : (j k : ℕ) → Some (Out j) ≡ Some (In k) → ⊥
out_not_in j k e = cc

inner_not_in : (k : ℕ) → Inner ≡ In k → ⊥
inner_not_in k e = cc

inner_not_out : (k : ℕ) → Inner ≡ Out k → ⊥
inner_not_out k e = cc

-- a blank table names no end
blank_there : (n q : ℕ) (w : Way) → slice_get (replicate n Inner) q ≡ Some w → Inner ≡ w
blank_there zero q w e = absurd cc
blank_there (suc n) zero w e = some_same Inner w e
blank_there (suc n) (suc q) w e = blank_there n q w e

blank_many : (n : ℕ) → length (replicate n Inner) ≡ n
blank_many zero = refl
blank_many (suc n) = ap suc (blank_many n)

module _ {S D L H B : Type 0} where
  -- the first n input ends and the first m output ends are in the table, and nothing else
  pub record IsTableTo (n m : ℕ) (i : Kept S D L H B) (ins outs : List ℕ) (ways : List Way) : Type 0 where
    pub many : length ways ≡ length i.net.wires
    pub ins_there : (k u : ℕ) → k < n → slice_get ins k ≡ Some u → slice_get ways (way_in i u) ≡ Some (In k)
    pub outs_there : (k u : ℕ) → k < m → slice_get outs k ≡ Some u → slice_get ways (way_out i u) ≡ Some (Out k)
    pub ins_right : (q k : ℕ) → slice_get ways q ≡ Some (In k) → (u : ℕ) × ((slice_get ins k ≡ Some u) × (way_in i u ≡ q))
    pub outs_right : (q k : ℕ) → slice_get ways q ≡ Some (Out k) → (u : ℕ) × ((slice_get outs k ≡ Some u) × (way_out i u ≡ q))

  pub blank_table : (i : Kept S D L H B) (ins outs : List ℕ) (ways : List Way) → ways ≡ replicate (length i.net.wires) Inner → IsTableTo 0 0 i ins outs ways
  blank_table i ins outs ways e = record {
    many = ap length e ∙ blank_many (length i.net.wires);
    ins_there = λ k u h at. absurd (omega (arith, h));
    outs_there = λ k u h at. absurd (omega (arith, h));
    ins_right = λ q k at. absurd (inner_not_in k (blank_there (length i.net.wires) q (In k) (ap (λ (l : List Way). slice_get l q) (sym e) ∙ at)));
    outs_right = λ q k at. absurd (inner_not_out k (blank_there (length i.net.wires) q (Out k) (ap (λ (l : List Way). slice_get l q) (sym e) ∙ at)));
  }

  pub whole_table : (n m : ℕ) (i : Kept S D L H B) (ins outs : List ℕ) (ways : List Way) → n ≡ length ins → m ≡ length outs → IsTableTo n m i ins outs ways → IsTable i ins outs ways
  whole_table n m i ins outs ways en em t = record {
    many = t.many;
    ins_there = λ k u at. t.ins_there k u (subst (λ (x : ℕ). k < x) (sym en) (slice_get_within ins k u at)) at;
    outs_there = λ k u at. t.outs_there k u (subst (λ (x : ℕ). k < x) (sym em) (slice_get_within outs k u at)) at;
    ins_right = t.ins_right;
    outs_right = t.outs_right;
  }

  -- each connection has one end
  ins_differ : (i : Kept S D L H B) (ins outs : List ℕ) (j k u v : ℕ) → AreApart i ins outs → slice_get ins j ≡ Some u → slice_get ins k ≡ Some v → j ≢ k → way_in i u ≢ way_in i v
  ins_differ i ins outs j k u v a eu ev ne e = a.ins_apart j k u v eu ev ne (ap (λ (q : ℕ). (end_at i.net.ends q).from) e)

  outs_differ : (i : Kept S D L H B) (ins outs : List ℕ) (j k u v : ℕ) → AreApart i ins outs → slice_get outs j ≡ Some u → slice_get outs k ≡ Some v → j ≢ k → way_out i u ≢ way_out i v
  outs_differ i ins outs j k u v a eu ev ne e = a.outs_apart j k u v eu ev ne (ap (λ (q : ℕ). (end_at i.net.ends q).to) e)

  module _ (i : Kept S D L H B) (ins outs : List ℕ) (apart : AreApart i ins outs) (differ : (j k u v : ℕ) → slice_get ins j ≡ Some u → slice_get outs k ≡ Some v → way_in i u ≢ way_out i v) where
    pub mark_in : (n m : ℕ) (ways : List Way) (u : ℕ) → slice_get ins n ≡ Some u → way_in i u < length ways → IsTableTo n m i ins outs ways → IsTableTo (n + 1) m i ins outs (set ways (way_in i u) (In n))
    mark_in n m ways u at h t = record {
      many = length-set ways (way_in i u) (In n) ∙ t.many;
      ins_there = λ k v less e. elim (same_or_not k n) [
        | inl here ↦ (let same : u ≡ v = some_same u v (sym at ∙ (ap (λ (p : ℕ). slice_get ins p) (sym here) ∙ e)) in ap (λ (p : ℕ). slice_get (set ways (way_in i u) (In n)) (way_in i p)) (sym same) ∙ (get_set_same ways (way_in i u) (In n) h ∙ ap (λ (p : ℕ). Some (In p)) (sym here)))
        | inr there ↦ get_set_other ways (way_in i u) (way_in i v) (In n) (ins_differ i ins outs k n v u apart e at there) ∙ t.ins_there k v (omega (arith, less, there)) e
      ];
      outs_there = λ k v less e. get_set_other ways (way_in i u) (way_out i v) (In n) (λ x. differ n k u v at e (sym x)) ∙ t.outs_there k v less e;
      ins_right = λ q k e. elim (same_or_not q (way_in i u)) [
        | inl here ↦ (let same : n ≡ k = in_place n k (sym (get_set_same ways (way_in i u) (In n) h) ∙ (ap (λ (p : ℕ). slice_get (set ways (way_in i u) (In n)) p) (sym here) ∙ e)) in (u, (ap (λ (p : ℕ). slice_get ins p) (sym same) ∙ at, sym here)))
        | inr there ↦ t.ins_right q k (sym (get_set_other ways (way_in i u) q (In n) there) ∙ e)
      ];
      outs_right = λ q k e. elim (same_or_not q (way_in i u)) [
        | inl here ↦ absurd (in_not_out n k (sym (get_set_same ways (way_in i u) (In n) h) ∙ (ap (λ (p : ℕ). slice_get (set ways (way_in i u) (In n)) p) (sym here) ∙ e)))
        | inr there ↦ t.outs_right q k (sym (get_set_other ways (way_in i u) q (In n) there) ∙ e)
      ];
    }

    pub mark_out : (n m : ℕ) (ways : List Way) (u : ℕ) → slice_get outs m ≡ Some u → way_out i u < length ways → IsTableTo n m i ins outs ways → IsTableTo n (m + 1) i ins outs (set ways (way_out i u) (Out m))
    mark_out n m ways u at h t = record {
      many = length-set ways (way_out i u) (Out m) ∙ t.many;
      ins_there = λ k v less e. get_set_other ways (way_out i u) (way_in i v) (Out m) (differ k m v u e at) ∙ t.ins_there k v less e;
      outs_there = λ k v less e. elim (same_or_not k m) [
        | inl here ↦ (let same : u ≡ v = some_same u v (sym at ∙ (ap (λ (p : ℕ). slice_get outs p) (sym here) ∙ e)) in ap (λ (p : ℕ). slice_get (set ways (way_out i u) (Out m)) (way_out i p)) (sym same) ∙ (get_set_same ways (way_out i u) (Out m) h ∙ ap (λ (p : ℕ). Some (Out p)) (sym here)))
        | inr there ↦ get_set_other ways (way_out i u) (way_out i v) (Out m) (outs_differ i ins outs k m v u apart e at there) ∙ t.outs_there k v (omega (arith, less, there)) e
      ];
      ins_right = λ q k e. elim (same_or_not q (way_out i u)) [
        | inl here ↦ absurd (out_not_in m k (sym (get_set_same ways (way_out i u) (Out m) h) ∙ (ap (λ (p : ℕ). slice_get (set ways (way_out i u) (Out m)) p) (sym here) ∙ e)))
        | inr there ↦ t.ins_right q k (sym (get_set_other ways (way_out i u) q (Out m) there) ∙ e)
      ];
      outs_right = λ q k e. elim (same_or_not q (way_out i u)) [
        | inl here ↦ (let same : m ≡ k = out_place m k (sym (get_set_same ways (way_out i u) (Out m) h) ∙ (ap (λ (p : ℕ). slice_get (set ways (way_out i u) (Out m)) p) (sym here) ∙ e)) in (u, (ap (λ (p : ℕ). slice_get outs p) (sym same) ∙ at, sym here)))
        | inr there ↦ t.outs_right q k (sym (get_set_other ways (way_out i u) q (Out m) there) ∙ e)
      ];
    }

    -- the same, at the place that was read
    pub mark_in_at : (n m q : ℕ) (ways : List Way) (u : ℕ) → q ≡ way_in i u → slice_get ins n ≡ Some u → way_in i u < length i.net.wires → IsTableTo n m i ins outs ways → IsTableTo (n + 1) m i ins outs (set ways q (In n))
    mark_in_at n m q ways u is at h t = subst (λ (p : ℕ). IsTableTo (n + 1) m i ins outs (set ways p (In n))) (sym is) (mark_in n m ways u at (subst (λ (l : ℕ). way_in i u < l) (sym t.many) h) t)

    pub mark_out_at : (n m q : ℕ) (ways : List Way) (u : ℕ) → q ≡ way_out i u → slice_get outs m ≡ Some u → way_out i u < length i.net.wires → IsTableTo n m i ins outs ways → IsTableTo n (m + 1) i ins outs (set ways q (Out m))
    mark_out_at n m q ways u is at h t = subst (λ (p : ℕ). IsTableTo n (m + 1) i ins outs (set ways p (Out m))) (sym is) (mark_out n m ways u at (subst (λ (l : ℕ). way_out i u < l) (sym t.many) h) t)

  pub row_there : (n m q : ℕ) (i : Kept S D L H B) (ins outs : List ℕ) (ways : List Way) (p : ℕ) → q ≡ p → p < length i.net.wires → IsTableTo n m i ins outs ways → q < length ways
  row_there n m q i ins outs ways p is h t = let many = t.many in omega (arith, is, h, many)
