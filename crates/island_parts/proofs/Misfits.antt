-- The least of what the nodes of all islands could not make is the least of all nodes.
use Rattle.std.specs.Prelude.{◌≡◌, ℕ, ◌+◌, ◌<◌, List, [], ◌∷◌, ◌++◌, length, map, take, slice_get, All, Option, Some, None}
use Rattle.std.proofs.Common.{zero, suc, refl, sym, ap, ◌∙◌, subst, arith}
use Rattle.nodes.specs.Nodes.{node_misfit}
use Rattle.nodes.specs.declared.node.IslandNode.{IslandNode}
use Rattle.interpreter.specs.declared.island.IslandEnd.{IslandEnd}
use Rattle.interpreter.specs.Misfits.{Found, least_all, least_of, FindsMisfit, IsLeast}
use Rattle.interpreter.proofs.Least.{least_same, all_least}
use Rattle.interpreter.proofs.Leasts.{nodes_least}
use Rattle.scatter.specs.Shares.{of_home, share_of}
use Rattle.scatter.proofs.Sharing.{share_at, share_from}
use Rattle.island_parts.specs.Ends.{Whole, AreEndsOf}
use Rattle.island_parts.proofs.EndsJoining.{at_place}

-- what holds of each holds of the one at a place
all_place : {A : Type 0} (P : A → Type 0) (xs : List A) (i : ℕ) (x : A) → All P xs → slice_get xs i ≡ Some x → P x
all_place P [] i x all e = absurd cc
all_place P (y ∷ xs) zero x all e = let same : y ≡ x = cc in subst P same (all zero y (omega arith))
all_place P (y ∷ xs) (suc i) x all e = all_place P xs i x (λ j d l. all (suc j) d (omega (arith, l))) e

within : {A : Type 0} (xs : List A) (i : ℕ) (x : A) → slice_get xs i ≡ Some x → i < length xs
within [] i x e = absurd cc
within (y ∷ xs) zero x e = omega arith
within (y ∷ xs) (suc i) x e = let l = within xs i x e in omega (arith, l)

mapped : {A B : Type 0} (f : A → B) (xs : List A) (i : ℕ) (y : B) → slice_get (map f xs) i ≡ Some y → (x : A) × ((slice_get xs i ≡ Some x) × (f x ≡ y))
mapped f [] i y e = absurd cc
mapped f (x ∷ xs) zero y e = (x, (refl, let same : f x ≡ y = cc in same))
mapped f (x ∷ xs) (suc i) y e = mapped f xs i y e

module _ {S D L H B : Type 0} (homes numbers : List ℕ) (nodes : List (IslandNode S D L H B)) (numbers_each : length numbers ≡ length homes) (nodes_each : length nodes ≡ length homes) where
  -- what is found in an island
  abbrev pub InIsland : ℕ → ℕ → ℕ → Type 0
  InIsland h k i = FindsMisfit (of_home homes h numbers) (of_home homes h nodes) k i

  from_island : (h k i : ℕ) → InIsland h k i → FindsMisfit numbers nodes k i
  from_island h k i f =
      let x = share_from homes nodes h f.at f.node f.there in
      let l = within nodes x.from f.node x.at in
      let n = at_place numbers x.from (omega (arith, l, numbers_each, nodes_each)) in
      let shared = share_at homes numbers x.from h n.0 n.1 x.home in
      let same : Some n.0 ≡ Some k = sym shared ∙ ap (λ (p : ℕ). slice_get (of_home homes h numbers) p) x.rank ∙ f.number in
      record { at = x.from; node = f.node; number = n.1 ∙ same; there = x.at; found = f.found }

  to_island : (count k i : ℕ) → All (λ h. h < count) homes → FindsMisfit numbers nodes k i → (h : ℕ) × ((h < count) × InIsland h k i)
  to_island count k i below f =
      let l = within nodes f.at f.node f.there in
      let h = at_place homes f.at (omega (arith, l, nodes_each)) in (
        h.0,
        (
          all_place (λ h. h < count) homes f.at h.0 below h.1,
          (record { at = share_of h.0 (take f.at homes); node = f.node; number = share_at homes numbers f.at h.0 k f.number h.1; there = share_at homes nodes f.at h.0 f.node f.there h.1; found = f.found }),
        ),
      )

module _ {S D L H B : Type 0} (w : Whole S D L H B) (ends : List (IslandEnd S D)) (a : AreEndsOf w ends) where
  abbrev pub misfits : List (Option Found)
  misfits = map (λ (e : IslandEnd S D). e.misfit) ends

  each_least : (h : ℕ) (m : Option Found) → slice_get misfits h ≡ Some m → IsLeast (InIsland w.homes w.numbers w.nodes a.numbers_each a.nodes_each h) m
  each_least h m at =
      let e = mapped (λ (e : IslandEnd S D). e.misfit) ends h m at in
      subst (IsLeast (InIsland w.homes w.numbers w.nodes a.numbers_each a.nodes_each h)) (sym (a.each h e.0 e.1.0).misfit ∙ e.1.1) (nodes_least (of_home w.homes h w.numbers) (of_home w.homes h w.nodes))

  pub join_misfits : (many : length misfits ≡ length ends) → (m : Option Found) → m ≡ least_all misfits → IsLeast (FindsMisfit w.numbers w.nodes) m
  join_misfits many m is =
      subst (IsLeast (FindsMisfit w.numbers w.nodes)) (sym is)
      (least_same (λ k i. (h : ℕ) × ((h < length misfits) × InIsland w.homes w.numbers w.nodes a.numbers_each a.nodes_each h k i)) (FindsMisfit w.numbers w.nodes) (least_all misfits)
      (λ k i f. from_island w.homes w.numbers w.nodes a.numbers_each a.nodes_each f.0 k i f.1.1)
      (λ k i f. to_island w.homes w.numbers w.nodes a.numbers_each a.nodes_each (length misfits) k i (subst (λ (n : ℕ). All (λ h. h < n) w.homes) (sym many) a.below) f)
      (all_least (InIsland w.homes w.numbers w.nodes a.numbers_each a.nodes_each) misfits each_least))

-- ---- nodes behind others, which could make all of their moves

module _ {S D L H B : Type 0} (xs more : List (IslandNode S D L H B)) (bare : (k : ℕ) (x : IslandNode S D L H B) → slice_get more k ≡ Some x → node_misfit x ≡ None) where
  first_of : {A : Type 0} (ys zs : List A) (i : ℕ) (x : A) → i < length ys → slice_get (ys ++ zs) i ≡ Some x → slice_get ys i ≡ Some x
  first_of [] zs i x l e = absurd (omega (arith, l))
  first_of (a ∷ ys) zs zero x l e = e
  first_of (a ∷ ys) zs (suc i) x l e = first_of ys zs i x (omega (arith, l)) e

  then_of : {A : Type 0} (ys zs : List A) (i : ℕ) (x : A) → slice_get ys i ≡ Some x → slice_get (ys ++ zs) i ≡ Some x
  then_of [] zs i x e = absurd cc
  then_of (a ∷ ys) zs zero x e = e
  then_of (a ∷ ys) zs (suc i) x e = then_of ys zs i x e

  none_some : {A : Type 0} {x : A} → None ≡ Some x → ⊥
  none_some e = cc

  found_first : (ys : List (IslandNode S D L H B)) (i : ℕ) (x : IslandNode S D L H B) (place : ℕ) → slice_get (ys ++ more) i ≡ Some x → node_misfit x ≡ Some place → i < length ys
  found_first [] i x place e found = absurd (none_some (sym (bare i x e) ∙ found))
  found_first (y ∷ ys) zero x place e found = omega arith
  found_first (y ∷ ys) (suc i) x place e found = let l = found_first ys i x place e found in omega (arith, l)

  pub least_first : (ns others : List ℕ) (m : Option Found) → length ns ≡ length xs → IsLeast (FindsMisfit (ns ++ others) (xs ++ more)) m → IsLeast (FindsMisfit ns xs) m
  least_first ns others m same =
      least_same (FindsMisfit (ns ++ others) (xs ++ more)) (FindsMisfit ns xs) m to back
    where
      to : (k i : ℕ) → FindsMisfit (ns ++ others) (xs ++ more) k i → FindsMisfit ns xs k i
      to k i f =
          let l = found_first xs f.at f.node i f.there f.found in
          record { at = f.at; node = f.node; number = first_of ns others f.at k (omega (arith, l, same)) f.number; there = first_of xs more f.at f.node l f.there; found = f.found }

      back : (k i : ℕ) → FindsMisfit ns xs k i → FindsMisfit (ns ++ others) (xs ++ more) k i
      back k i f = record { at = f.at; node = f.node; number = then_of ns others f.at k f.number; there = then_of xs more f.at f.node f.there; found = f.found }
