-- The peers of islands, by their places.
use Rattle.std.proofs.Common.{◌≡◌, ℕ, zero, suc, ◌+◌, ◌<◌, List, [], ◌∷◌, ◌++◌, length, map, Some, refl, ap, sym, ◌∙◌, subst, arith}
use Rattle.std.specs.Prelude.{slice_get}
use Rattle.std.specs.declared.vec.Vec.{Vec}
use Rattle.std.specs.declared.alloc.Global.{Global}
use Rattle.std.proofs.lemmas.Option.{slice_get_within}
use Rattle.scatter.specs.Shares.{of_home, AreShares, items_in, items_at}
use Rattle.blue_check.specs.declared.plan.LanePlan.{LanePlan}
use Rattle.island_body.specs.declared.peers.Peers.{Peers}
use Rattle.island_plans.specs.Peers.{ArePaired, ArePeers}
use Rattle.island_plans.proofs.Making.{EachIs, each_first, each_next, one_more, same_item}

-- the peers at a place are those of the lists there
pub record PairedAt (ins outs : List (Vec ℕ Global)) (k : ℕ) (p : Peers) : Type 0 where
  pub ins_are : (x : Vec ℕ Global) → slice_get ins k ≡ Some x → p.ins.items ≡ x.items
  pub outs_are : (o : Vec ℕ Global) → slice_get outs k ≡ Some o → p.outs.items ≡ o.items

pub record PairedTo (ins outs : List (Vec ℕ Global)) (n : ℕ) (peers : List Peers) : Type 0 where
  pub many : length peers ≡ n
  pub each : EachIs (PairedAt ins outs) peers

pub paired_first : (ins outs : List (Vec ℕ Global)) (peers : List Peers) → peers ≡ [] → PairedTo ins outs 0 peers
paired_first ins outs peers none = record { many = ap length none; each = each_first (PairedAt ins outs) peers none }

pub paired_next : (ins outs : List (Vec ℕ Global)) (n : ℕ) (peers more : List Peers) (x o : Vec ℕ Global) (p : Peers) → PairedTo ins outs n peers → slice_get ins n ≡ Some x → slice_get outs n ≡ Some o → p.ins.items ≡ x.items → p.outs.items ≡ o.items → more ≡ peers ++ p ∷ [] → PairedTo ins outs (n + 1) more
paired_next ins outs n peers more x o p t ax ao ei eo e =
    let here : PairedAt ins outs n p = record {
      ins_are = λ y ay. ei ∙ ap (λ (v : Vec ℕ Global). v.items) (same_item x y (sym ax ∙ ay));
      outs_are = λ q aq. eo ∙ ap (λ (v : Vec ℕ Global). v.items) (same_item o q (sym ao ∙ aq));
    } in
    let size = one_more peers more p e in
    let was = t.many in
    record { many = omega (arith, size, was); each = each_next (PairedAt ins outs) peers more p t.each e (subst (λ m. PairedAt ins outs m p) (sym t.many) here) }

pub all_paired : (ins outs : List (Vec ℕ Global)) (n : ℕ) (peers : List Peers) → n ≡ length ins → PairedTo ins outs n peers → ArePaired ins outs peers
all_paired ins outs n peers e t = record {
  many = t.many ∙ e;
  ins_are = λ k x p ax ap. (t.each k p ap).ins_are x ax;
  outs_are = λ k o p ao ap. (t.each k p ap).outs_are o ao;
}

-- what stands at a place of lists
pub at_items : (lists : List (Vec ℕ Global)) (k : ℕ) (x : Vec ℕ Global) → slice_get lists k ≡ Some x → items_at lists k ≡ x.items
at_items lists k x at = ap items_in at

there_is : {A : Type 0} (xs : List A) (k : ℕ) → k < length xs → (x : A) × (slice_get xs k ≡ Some x)
there_is [] k h = absurd (omega (arith, h))
there_is (x ∷ xs) zero h = (x, refl)
there_is (x ∷ xs) (suc k) h = there_is xs k (omega (arith, h))

-- the same shares, of lists that are the same
pub shares_as : (homes xs : List ℕ) (lists same : List (Vec ℕ Global)) → same ≡ lists → AreShares homes xs lists → AreShares homes xs same
shares_as homes xs lists same e s = subst (λ l. AreShares homes xs l) (sym e) s

pub shares_from : (homes homes' xs xs' : List ℕ) (lists : List (Vec ℕ Global)) → homes ≡ homes' → xs ≡ xs' → AreShares homes xs lists → AreShares homes' xs' lists
shares_from homes homes' xs xs' lists e f s = subst (λ h. AreShares h xs' lists) e (subst (λ x. AreShares homes x lists) f s)

pub all_peers : (lanes : List LanePlan) (froms tos : List ℕ) (count : ℕ) (ins outs : List (Vec ℕ Global)) (peers : List Peers) → froms ≡ map (λ (l : LanePlan). l.from) lanes → tos ≡ map (λ (l : LanePlan). l.to) lanes
    → AreShares tos froms ins → AreShares froms tos outs → length ins ≡ count → length outs ≡ count → ArePaired ins outs peers → ArePeers lanes count peers
all_peers lanes froms tos count ins outs peers ef et si so many_in many_out pairs = record {
  many = pairs.many ∙ many_in;
  ins_are = λ k p at. let within = slice_get_within peers k p at in let x = there_is ins k (subst (λ m. k < m) pairs.many within) in pairs.ins_are k x.0 p x.1 at ∙ (sym (at_items ins k x.0 x.1) ∙ (si.shares k ∙ (ap (λ h. of_home h k froms) et ∙ ap (λ l. of_home (map (λ (l : LanePlan). l.to) lanes) k l) ef)));
  outs_are = λ k p at. let within = slice_get_within peers k p at in let o = there_is outs k (subst (λ m. k < m) (pairs.many ∙ (many_in ∙ sym many_out)) within) in pairs.outs_are k o.0 p o.1 at ∙ (sym (at_items outs k o.0 o.1) ∙ (so.shares k ∙ (ap (λ h. of_home h k tos) ef ∙ ap (λ l. of_home (map (λ (l : LanePlan). l.from) lanes) k l) et)));
}
