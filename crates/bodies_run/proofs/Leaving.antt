-- How the nets of a blueprint's islands leave a run of it, and its nodes.
use Rattle.std.specs.Prelude.{slice_get}
use Rattle.std.specs.List.{All}
use Rattle.std.proofs.Common.{◌≡◌, ◌⊎◌, ℕ, zero, suc, ◌<◌, List, [], ◌∷◌, length, Some, refl, sym, ap, ◌∙◌, subst, arith}
use Rattle.stream_model.specs.declared.blueprint.Blueprint.{Blueprint}
use Rattle.stream_io.specs.State.{SourceState}
use Rattle.stream_model.specs.Graph.{Edge}
use Rattle.stream_model.proofs.Compositions.{slice_get-below}
use Rattle.fused_net.specs.Laws.{AllKept}
use Rattle.fused_net.specs.Net.{Net}
use Rattle.nodes.specs.declared.node.IslandNode.{IslandNode}
use Rattle.interpreter.specs.Parts.{AllBecome}
use Rattle.interpreter.specs.declared.parts.Seated.{Seated}
use Rattle.run_laws.specs.Account.{Account, AllMade}
use Rattle.run_laws.specs.Seats.{joined_account}
use Rattle.run_laws.specs.Made.{FirstOf}
use Rattle.materializer.specs.Graphs.{graph_of, chains_of, around_of}
use Rattle.materializer.specs.Seats.{AreSeats}
use Rattle.materializer.proofs.Making.{are_firsts}
use Rattle.bodies_run.specs.Islands.{seats_by_islands, AreSeated, AreNets, AreBroughtBack}
use Rattle.bodies_run.proofs.Covering.{nodes_count}
use Rattle.bodies_run.proofs.Gathering.{back}
use Rattle.bodies_run.specs.Leaving.{AreLeft}

pub become_many : {S D L H B : Type 0} (ps : List (Seated S D L H B)) (xs : List (IslandNode S D L H B)) → AllBecome ps xs → length ps ≡ length xs
become_many [] [] h = refl
become_many [] (x ∷ xs) h = absurd h
become_many (p ∷ ps) [] h = absurd h
become_many (p ∷ ps) (x ∷ xs) h = ap suc (become_many ps xs h.1)

-- nodes that began as what stands at a blueprint's places are those of its graph
pub are_made : {S D L H B : Type 0} (sources : S → SourceState) (b : Blueprint) (ss : List S) (ds : List D) (places : List (Seated S D L H B)) (firsts : List (IslandNode S D L H B)) (a : Account (IslandNode S D L H B)) → AreSeats (around_of b) 0 b.nodes.items ss ds places → AllBecome places firsts → All (λ s. (sources s).given ≡ 0) ss
    → ((k : ℕ) → k < length (graph_of b).nodes → a.firsts k ≡ slice_get firsts k) → AllMade (FirstOf sources (chains_of b)) (graph_of b) a
are_made sources b ss ds places firsts a seats become given at k n first there is =
    (are_firsts sources b ss ds places firsts seats become given).each k n first there (sym (at k (slice_get-below (graph_of b).nodes k n there)) ∙ is)

module _ {S D L H B : Type 0} (homes : List ℕ) (count : ℕ) (ws : List Edge) (nodes : List (Seated S D L H B)) (seated : AreSeated homes count ws nodes) (nets : ℕ → Net (IslandNode S D L H B)) (nets_are : AreNets homes ws nodes count nets) where
  -- the nodes of all islands come back into one list
  pub nodes_back : (last : List (IslandNode S D L H B)) × ((ends : List (IslandNode S D L H B)) × AreBroughtBack homes count ws (λ k. (nets k).nodes) last ends)
  nodes_back = back homes count ws nodes seated (λ (j : ℕ). (nets j).nodes) (λ j lt. nodes_count homes count ws nodes nets seated nets_are j lt)

  -- also as others are, where there are as many
  pub others_back : (others : ℕ → List (IslandNode S D L H B)) → ((k : ℕ) → length (others k) ≡ length (nets k).nodes) → (last : List (IslandNode S D L H B)) × ((ends : List (IslandNode S D L H B)) × AreBroughtBack homes count ws others last ends)
  others_back others many = back homes count ws nodes seated others (λ j lt. many j ∙ nodes_count homes count ws nodes nets seated nets_are j lt)

  -- those of the blueprint are the ones that the nets tell of
  pub are_left : (all : ℕ → ℕ) (wide : ℕ) → wide ≡ length nodes → (firsts : List (IslandNode S D L H B)) → AllBecome nodes firsts → ((k : ℕ) → k < wide → (joined_account nets (seats_by_islands homes ws) all).firsts k ≡ slice_get firsts k)
      → (last ends : List (IslandNode S D L H B)) → AreBroughtBack homes count ws (λ k. (nets k).nodes) last ends → AreLeft nodes (joined_account nets (seats_by_islands homes ws) all) last
  are_left all wide each firsts become at last ends r = record {
    firsts = firsts;
    become = become;
    first_at = λ k lt. at k (subst (λ (n : ℕ). k < n) (sym (each ∙ become_many nodes firsts become)) lt);
    node_at = λ k lt. sym (r.at k (subst (λ (n : ℕ). k < n) r.each_node lt));
    as_many = r.each_node ∙ seated.each ∙ become_many nodes firsts become;
  }

-- ---- what is kept of each is kept of all

module _ {N : Type 0} (keeps : N → N → Type 0) where
  pub kept_many : (xs ys : List N) → AllKept keeps xs ys → length ys ≡ length xs
  kept_many [] [] k = refl
  kept_many [] (y ∷ ys) k = absurd k
  kept_many (x ∷ xs) [] k = absurd k
  kept_many (x ∷ xs) (y ∷ ys) k = ap suc (kept_many xs ys k.1)

  kept_at : (xs ys : List N) → AllKept keeps xs ys → (k : ℕ) (x y : N) → slice_get xs k ≡ Some x → slice_get ys k ≡ Some y → (y ≡ x) ⊎ keeps x y
  kept_at [] ys h k x y ex ey = absurd cc
  kept_at (v ∷ xs) [] h k x y ex ey = absurd h
  kept_at (v ∷ xs) (w ∷ ys) h zero x y ex ey =
      let left : v ≡ x = cc in
      let right : w ≡ y = cc in
      subst (λ (z : N). (y ≡ z) ⊎ keeps z y) left (subst (λ (z : N). (z ≡ v) ⊎ keeps v z) right h.0)
  kept_at (v ∷ xs) (w ∷ ys) h (suc k) x y ex ey = kept_at xs ys h.1 k x y ex ey

  kept_by : (xs ys : List N) → length ys ≡ length xs → ((k : ℕ) (x y : N) → slice_get xs k ≡ Some x → slice_get ys k ≡ Some y → (y ≡ x) ⊎ keeps x y) → AllKept keeps xs ys
  kept_by [] [] e h = tt
  kept_by [] (y ∷ ys) e h = absurd (omega (arith, e))
  kept_by (x ∷ xs) [] e h = absurd (omega (arith, e))
  kept_by (x ∷ xs) (y ∷ ys) e h = (h 0 x y refl refl, kept_by xs ys (omega (arith, e)) (λ k v w ev ew. h (suc k) v w ev ew))

  -- of lists that came back from islands, each of which kept it
  pub kept_back : (homes : List ℕ) (count : ℕ) (ws : List Edge) (old new : ℕ → List N) (last ends broken later : List N) → ((k : ℕ) → AllKept keeps (old k) (new k))
      → AreBroughtBack homes count ws old last ends → AreBroughtBack homes count ws new broken later → AllKept keeps last broken
  kept_back homes count ws old new last ends broken later kept r s =
      kept_by last broken (s.each_node ∙ sym r.each_node) (λ k x y ex ey.
      let lt : k < length homes = subst (λ (n : ℕ). k < n) r.each_node (slice_get-below last k x ex) in
      kept_at _ _ (kept _) _ x y (sym (r.at k lt) ∙ ex) (sym (s.at k lt) ∙ ey))
