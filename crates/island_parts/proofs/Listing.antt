-- The steps of the loops over the lists of islands.
use Rattle.std.specs.Prelude.{slice_index}
use Rattle.std.proofs.Common.{◌≡◌, ◌≢◌, ℕ, zero, suc, ◌+◌, ◌<◌, ◌≤◌, ◌⊎◌, inl, inr, List, [], ◌∷◌, ◌++◌, length, map, take, set, get_or, refl, ap, sym, ◌∙◌, append_assoc, arith}
use Rattle.std.proofs.lemmas.List.{append-nil}
use Rattle.std.specs.declared.vec.Vec.{Vec}
use Rattle.std.specs.declared.alloc.Global.{Global}
use Rattle.interpreter.specs.declared.island.IslandEnd.{IslandEnd}
use Rattle.interpreter.specs.Misfits.{least, least_all}
use Rattle.interpreter.proofs.Least.{least_none, least_three}
use Rattle.scatter.specs.Shares.{items_at}
use Rattle.island_parts.specs.declared.lists.EndLists.{EndLists}
use Rattle.island_parts.specs.Room.{AreEmptyLists, AreSorted, IsEndPut}

-- the lists of some islands are there, and those of the others follow
pub record SortedSoFar {S D : Type 0} (ends : List (IslandEnd S D)) (l : EndLists S D) (rest : List (IslandEnd S D)) : Type 0 where
  pub sinks : map (λ (e : IslandEnd S D). e.sinks) ends ≡ l.sinks.items ++ map (λ (e : IslandEnd S D). e.sinks) rest
  pub wires : map (λ (e : IslandEnd S D). e.wires) ends ≡ l.wires.items ++ map (λ (e : IslandEnd S D). e.wires) rest
  pub picks : map (λ (e : IslandEnd S D). e.picks) ends ≡ l.picks.items ++ map (λ (e : IslandEnd S D). e.picks) rest
  pub misfit : least_all (map (λ (e : IslandEnd S D). e.misfit) ends) ≡ least l.misfit (least_all (map (λ (e : IslandEnd S D). e.misfit) rest))
  pub seats : map (λ (e : IslandEnd S D). e.seats) ends ≡ l.seats.items ++ map (λ (e : IslandEnd S D). e.seats) rest
  pub readers : map (λ (e : IslandEnd S D). e.readers) ends ≡ l.readers.items ++ map (λ (e : IslandEnd S D). e.readers) rest
  pub writers : map (λ (e : IslandEnd S D). e.writers) ends ≡ l.writers.items ++ map (λ (e : IslandEnd S D). e.writers) rest

begins : {X : Type 0} (all xs : List X) → xs ≡ [] → all ≡ xs ++ all
begins all xs e = ap (λ zs. zs ++ all) (sym e)

moves : {X : Type 0} (all xs ys rest : List X) (x : X) → all ≡ xs ++ (x ∷ rest) → ys ≡ xs ++ x ∷ [] → all ≡ ys ++ rest
moves all xs ys rest x e s = e ∙ sym (append_assoc xs (x ∷ []) rest) ∙ ap (λ zs. zs ++ rest) (sym s)

module _ {S D : Type 0} where
  pub sorted_first : (ends : List (IslandEnd S D)) (n : ℕ) (l : EndLists S D) → AreEmptyLists n l → SortedSoFar ends l ends
  sorted_first ends n l a = record {
    sinks = begins _ _ a.no_sinks;
    wires = begins _ _ a.no_wires;
    picks = begins _ _ a.no_picks;
    misfit = ap (λ o. least o (least_all (map (λ (e : IslandEnd S D). e.misfit) ends))) (sym a.no_misfit);
    seats = begins _ _ a.no_seats;
    readers = begins _ _ a.no_readers;
    writers = begins _ _ a.no_writers;
  }

  pub sorted_next : (ends : List (IslandEnd S D)) (l m : EndLists S D) (e : IslandEnd S D) (rest : List (IslandEnd S D)) → SortedSoFar ends l (e ∷ rest) → IsEndPut l e m → SortedSoFar ends m rest
  sorted_next ends l m e rest s p = record {
    sinks = moves _ _ _ _ e.sinks s.sinks p.sinks;
    wires = moves _ _ _ _ e.wires s.wires p.wires;
    picks = moves _ _ _ _ e.picks s.picks p.picks;
    misfit = s.misfit ∙ sym (least_three l.misfit e.misfit (least_all (map (λ (x : IslandEnd S D). x.misfit) rest))) ∙ ap (λ o. least o (least_all (map (λ (x : IslandEnd S D). x.misfit) rest))) (sym p.misfit);
    seats = moves _ _ _ _ e.seats s.seats p.seats;
    readers = moves _ _ _ _ e.readers s.readers p.readers;
    writers = moves _ _ _ _ e.writers s.writers p.writers;
  }

  pub sorted_last : (ends : List (IslandEnd S D)) (l : EndLists S D) (rest : List (IslandEnd S D)) → rest ≡ [] → SortedSoFar ends l rest → AreSorted ends l
  sorted_last ends l [] e s = record {
    sinks = sym (s.sinks ∙ append-nil _);
    wires = sym (s.wires ∙ append-nil _);
    picks = sym (s.picks ∙ append-nil _);
    misfit = sym (s.misfit ∙ least_none l.misfit);
    seats = sym (s.seats ∙ append-nil _);
    readers = sym (s.readers ∙ append-nil _);
    writers = sym (s.writers ∙ append-nil _);
  }
  sorted_last ends l (x ∷ rest) e s = absurd (let n = ap length e in omega (arith, n))

same_or : (m n : ℕ) → (m ≡ n) ⊎ (m ≢ n)
same_or zero zero = inl refl
same_or zero (suc n) = inr (λ e. omega (arith, e))
same_or (suc m) zero = inr (λ e. omega (arith, e))
same_or (suc m) (suc n) = elim (same_or m n) [ inl e ↦ inl (ap suc e) | inr ne ↦ inr (λ e. ne (omega (arith, e))) ]

module _ {T : Type 0} where
  set_here : (lists : List (Vec T Global)) (k : ℕ) (v : Vec T Global) → k < length lists → items_at (set lists k v) k ≡ v.items
  set_here [] k v l = absurd (omega (arith, l))
  set_here (x ∷ lists) zero v l = refl
  set_here (x ∷ lists) (suc k) v l = set_here lists k v (omega (arith, l))

  set_there : (lists : List (Vec T Global)) (k j : ℕ) (v : Vec T Global) → j ≢ k → items_at (set lists k v) j ≡ items_at lists j
  set_there [] k j v ne = refl
  set_there (x ∷ lists) zero zero v ne = absurd (ne refl)
  set_there (x ∷ lists) zero (suc j) v ne = refl
  set_there (x ∷ lists) (suc k) zero v ne = refl
  set_there (x ∷ lists) (suc k) (suc j) v ne = set_there lists k j v (λ e. ne (ap suc e))

  was_here : (lists : List (Vec T Global)) (k : ℕ) (v : Vec T Global) → k < length lists → items_at lists k ≡ (get_or lists k v).items
  was_here [] k v l = absurd (omega (arith, l))
  was_here (x ∷ lists) zero v l = refl
  was_here (x ∷ lists) (suc k) v l = was_here lists k v (omega (arith, l))

  -- the lists before this one are cut, and the others are as they were
  pub record CutSoFar (counts : List ℕ) (old : List (Vec T Global)) (k : ℕ) (new : List (Vec T Global)) : Type 0 where
    pub cut : (j : ℕ) → j < k → items_at new j ≡ take (slice_index counts j) (items_at old j)
    pub kept : (j : ℕ) → k ≤ j → items_at new j ≡ items_at old j

  pub cut_next : (counts : List ℕ) (old lists new : List (Vec T Global)) (k : ℕ) (d v : Vec T Global) → k < length lists → CutSoFar counts old k lists → new ≡ set lists k v → v.items ≡ take (slice_index counts k) (get_or lists k d).items → CutSoFar counts old (k + 1) new
  cut_next counts old lists new k d v l s e t = record {
    cut = λ j b. ap (λ ls. items_at ls j) e ∙ elim (same_or j k) [
      | inl q ↦ ap (λ n. items_at (set lists k v) n) q ∙ (set_here lists k v l ∙ (t ∙ (ap (take (slice_index counts k)) (sym (was_here lists k d l) ∙ s.kept k (omega arith)) ∙ ap (λ n. take (slice_index counts n) (items_at old n)) (sym q))))
      | inr ne ↦ set_there lists k j v ne ∙ s.cut j (omega (arith, b, ne))
    ];
    kept = λ j b. ap (λ ls. items_at ls j) e ∙ (set_there lists k j v (λ q. omega (arith, b, q)) ∙ s.kept j (omega (arith, b)));
  }
