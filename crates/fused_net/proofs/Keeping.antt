-- What each node keeps through a handler that wants memory.
use Rattle.std.proofs.Common.{◌≡◌, inl, inr, ℕ, zero, suc, ◌<◌, Option, Some, List, [], ◌∷◌, length, get_or, slice_get, slice_set, refl, sym, ap, ◌∙◌, subst, arith}
use Rattle.std.specs.Prelude.{Result, Ok, Err, OnErr, IfSome}
use Rattle.std.proofs.lemmas.Option.{slice_get_within}
use Rattle.elem_core.specs.declared.item.Item.{Item}
use Rattle.port_core.specs.View.{View}
use Rattle.port_core.specs.declared.act.Act.{Act}
use Rattle.fused_net.specs.Net.{Net, acted_all, with_node}
use Rattle.fused_net.specs.Laws.{AllKept, NetGoesOn, Starting}
use Rattle.fused_net.proofs.Reading.{get_there}
use Rattle.fused_net.proofs.Ongoing.{nodes-acts}
use Rattle.fused_net.proofs.Responding.{node_is}

-- what holds in any case holds of an error
pub on_err : {T E P : Type 0} (r : Result T E) → P → OnErr r P
on_err (Ok x) p = tt
on_err (Err e) p = p

-- what holds of an answer, if there is one, holds of this one
pub of_some : {T : Type 0} (P : T → Type 0) (o : Option T) (x : T) → o ≡ Some x → IfSome o P → P x
of_some {T} P o x is h = subst (λ (a : Option T). IfSome a P) is h

module _ {N : Type 0} (keeps : N → N → Type 0) where
  -- nothing was done
  pub kept_same : (xs : List N) → AllKept keeps xs xs
  kept_same [] = tt
  kept_same (x ∷ xs) = (inl refl, kept_same xs)

  -- one node was called
  pub kept_set : (xs : List N) (n : ℕ) (x y : N) → slice_get xs n ≡ Some x → keeps x y → AllKept keeps xs (slice_set xs n y)
  kept_set [] n x y e k = cc
  kept_set (z ∷ xs) zero x y e k = let same : z ≡ x = cc in (inr (rw same k), kept_same xs)
  kept_set (z ∷ xs) (suc n) x y e k = (inl refl, kept_set xs n x y e k)

  pub kept_called : (net v : Net N) (n : ℕ) (x y : N) → v ≡ net → n < length net.nodes → x ≡ get_or v.nodes n x → keeps x y → AllKept keeps net.nodes (slice_set v.nodes n y)
  kept_called net v n x y e h is k = rw e (kept_set net.nodes n x y (node_is net v n x e h is) k)

  -- there are as many nodes as before
  kept_count : (xs ys : List N) → AllKept keeps xs ys → length ys ≡ length xs
  kept_count [] [] k = refl
  kept_count [] (y ∷ ys) k = absurd k
  kept_count (x ∷ xs) [] k = absurd k
  kept_count (x ∷ xs) (y ∷ ys) k = ap suc (kept_count xs ys k.1)

  pub all_count : (firsts nodes were : List N) → AllKept keeps firsts nodes → length firsts ≡ length were → length nodes ≡ length were
  all_count firsts nodes were k e = kept_count firsts nodes k ∙ e

  -- nodes that are as they were handed in
  all_first : (firsts nodes : List N) → length firsts ≡ length nodes → ((k : ℕ) (x first : N) → slice_get nodes k ≡ Some x → slice_get firsts k ≡ Some first → first ≡ x) → AllKept keeps firsts nodes
  all_first [] [] e same = tt
  all_first [] (x ∷ xs) e same = cc
  all_first (f ∷ fs) [] e same = cc
  all_first (f ∷ fs) (x ∷ xs) e same = (inl (sym (same 0 x f refl refl)), all_first fs xs (let less : length fs ≡ length xs = cc in less) (λ k y first a b. same (suc k) y first a b))

  -- one of them was called
  kept_first : (firsts nodes : List N) (n : ℕ) (x y : N) → AllKept keeps firsts nodes → slice_get firsts n ≡ Some x → slice_get nodes n ≡ Some x → keeps x y → AllKept keeps firsts (slice_set nodes n y)
  kept_first [] [] n x y all a b k = cc
  kept_first [] (z ∷ zs) n x y all a b k = absurd all
  kept_first (f ∷ fs) [] n x y all a b k = absurd all
  kept_first (f ∷ fs) (z ∷ zs) zero x y all a b k = let same : f ≡ x = cc in (inr (rw same k), all.1)
  kept_first (f ∷ fs) (z ∷ zs) (suc n) x y all a b k = (all.0, kept_first fs zs n x y all.1 a b k)

  pub step_count : (a b : Net N) (nodes : List N) → NetGoesOn a b → AllKept keeps b.nodes nodes → length nodes ≡ length a.nodes
  step_count a b nodes on k = kept_count b.nodes nodes k ∙ on.nodes

module _ {N : Type 0} (port_state : N → View → Type 0) (law : N → N → View → List (List Item) → List (List Item) → Type 0) (asking : N → View → Type 0) (moves : N → List ℕ) (fresh : N → View → Type 0) (keeps : N → N → Type 0) where
  -- no node was started yet
  pub kept_starting : (net : Net N) → Starting port_state law asking moves fresh net 0 → AllKept keeps net.firsts net.nodes
  kept_starting net s = all_first keeps net.firsts net.nodes s.each_first (λ k x first xi fi. (s.above k (omega arith) (slice_get_within net.nodes k x xi) x first xi fi).1.0)

  -- node n was started
  pub kept_called_first : (net v : Net N) (n : ℕ) (x y : N) → Starting port_state law asking moves fresh net n → v ≡ net → n < length net.nodes → x ≡ get_or v.nodes n x → AllKept keeps net.firsts net.nodes → keeps x y → AllKept keeps net.firsts (slice_set v.nodes n y)
  kept_called_first net v n x y s e h is all k =
      let first = get_there net.firsts n (rw s.each_first h) in
      let at : slice_get net.nodes n ≡ Some x = node_is net v n x e h is in
      let same : first.0 ≡ x = (s.above n (omega arith) h x first.0 at first.1).1.0 in
      let handed : slice_get net.firsts n ≡ Some x = first.1 ∙ ap (λ (z : N). Some z) same in
      rw e (kept_first keeps net.firsts net.nodes n x y all handed at k)

  -- and did what it wanted done
  pub kept_started : (net v new : Net N) (n : ℕ) (x y : N) (acts : List Act) → Starting port_state law asking moves fresh net n → v ≡ net → n < length net.nodes → x ≡ get_or v.nodes n x → AllKept keeps net.firsts net.nodes → keeps x y
      → new ≡ acted_all (with_node v n y) n acts → AllKept keeps net.firsts new.nodes
  kept_started net v new n x y acts s e h is all k on =
      let nodes : new.nodes ≡ slice_set v.nodes n y = ap (λ (a : Net N). a.nodes) on ∙ nodes-acts acts (with_node v n y) n in
      rw nodes (kept_called_first net v n x y s e h is all k)
