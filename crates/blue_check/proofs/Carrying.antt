-- Origins and goals of nodes, carried along wires.
use Rattle.std.proofs.Common.{◌≡◌, ℕ, ◌<◌, List, length, set, get_or, Some, refl, ap, sym, ◌∙◌, subst, ⊎_elim, arith}
use Rattle.std.specs.Prelude.{slice_get, slice_index}
use Rattle.std.proofs.Math.ListN.{length-set}
use Rattle.std.proofs.lemmas.Bool.{cases_eq}
use Rattle.std.proofs.lemmas.Grind.{get_or_default_zero}
use Rattle.std.proofs.lemmas.List.{get_or-set_same, get_or-set_other}
use Rattle.stream_model.specs.Graph.{Edge}
use Rattle.blue_names.specs.Paths.{Path, Leads, stay, along}
use Rattle.blue_check.specs.Components.{AreOrigins, AreGoals}
use Rattle.blue_check.proofs.Reaching.{path_on, path_append}

-- what stands in a list of numbers after one is written
at_set : (xs : List ℕ) (i v n : ℕ) → n ≡ i → i < length xs → slice_index (set xs i v) n ≡ v
at_set xs i v n e lt = ap (slice_index (set xs i v)) e ∙ get_or-set_same xs i v 0 lt

at_others : (xs : List ℕ) (i v n : ℕ) → (n ≡ i → ⊥) → slice_index (set xs i v) n ≡ slice_index xs n
at_others xs i v n ne = get_or-set_other xs i n v 0 ne

-- at first each node is its own
pub AreOrigins-own : (ws : List Edge) (xs : List ℕ) (count : ℕ) → length xs ≡ count → ((i : ℕ) → i < count → slice_index xs i ≡ i) → AreOrigins ws xs
AreOrigins-own ws xs count long own = record { leads = λ n lt. let e : slice_index xs n ≡ n = own n (omega (arith, lt, long)) in subst (λ k. Path ws k n) (sym e) stay }

pub AreGoals-own : (ws : List Edge) (xs : List ℕ) (count : ℕ) → length xs ≡ count → ((i : ℕ) → i < count → slice_index xs i ≡ i) → AreGoals ws xs
AreGoals-own ws xs count long own = record { leads = λ n lt. let e : slice_index xs n ≡ n = own n (omega (arith, lt, long)) in subst (Path ws n) (sym e) stay }

module _ (ws : List Edge) (xs : List ℕ) (i v : ℕ) (w : Edge) (at : slice_get ws i ≡ Some w) (from : w.from < length xs) (to : w.to < length xs) where
  leads_on : Leads ws w.from w.to
  leads_on = record { wire = i; is = w; at = at; from = refl; to = refl }

  -- the end of a wire gets the origin of its beginning
  pub AreOrigins-set : v ≡ get_or xs w.from v → AreOrigins ws xs → AreOrigins ws (set xs w.to v)
  AreOrigins-set is h = record {
    leads = λ n lt. ⊎_elim
        (λ (e : n ≡ w.to).
        let origin : slice_index (set xs w.to v) n ≡ slice_index xs w.from = at_set xs w.to v n e to ∙ is ∙ get_or_default_zero xs w.from v from in
        let p : Path ws (slice_index xs w.from) w.to = path_on ws _ w.from w.to (h.leads w.from from) leads_on in
        subst (λ k. Path ws k n) (sym origin) (subst (Path ws (slice_index xs w.from)) (sym e) p))
        (λ (ne : n ≡ w.to → ⊥). subst (λ k. Path ws k n) (sym (at_others xs w.to v n ne)) (h.leads n (omega (arith, lt, length-set {A = ℕ}))))
        (cases_eq n w.to);
  }

  -- the beginning of a wire gets the goal of its end
  pub AreGoals-set : v ≡ get_or xs w.to v → AreGoals ws xs → AreGoals ws (set xs w.from v)
  AreGoals-set is h = record {
    leads = λ n lt. ⊎_elim
        (λ (e : n ≡ w.from).
        let goal : slice_index (set xs w.from v) n ≡ slice_index xs w.to = at_set xs w.from v n e from ∙ is ∙ get_or_default_zero xs w.to v to in
        let p : Path ws w.from (slice_index xs w.to) = along leads_on (h.leads w.to to) in
        subst (Path ws n) (sym goal) (subst (λ k. Path ws k (slice_index xs w.to)) (sym e) p))
        (λ (ne : n ≡ w.from → ⊥). subst (Path ws n) (sym (at_others xs w.from v n ne)) (h.leads n (omega (arith, lt, length-set {A = ℕ}))))
        (cases_eq n w.from);
  }

-- a walk to a node's goal, which is the origin of another
pub path_by_goal : (ws : List Edge) (origins goals : List ℕ) (a b : ℕ) → a < length goals → b < length origins → AreGoals ws goals → AreOrigins ws origins → slice_index goals a ≡ slice_index origins b → Path ws a b
path_by_goal ws origins goals a b la lb g o e = path_append ws a _ b (subst (Path ws a) e (g.leads a la)) (o.leads b lb)
