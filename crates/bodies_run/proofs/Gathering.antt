-- What islands hold for the nodes of a blueprint, brought back into one list.
use Rattle.std.proofs.Common.{◌≡◌, ℕ, ◌<◌, List, [], ◌∷◌, ◌++◌, length, map, Some, refl, ap, sym, ◌∙◌, subst, length-append, arith}
use Rattle.std.specs.Prelude.{slice_get, slice_index}
use Rattle.std.specs.Option.{option_map}
use Rattle.std.proofs.lemmas.List.{length-map}
use Rattle.std.proofs.lemmas.Option.{slice_get_within, slice_get-map}
use Rattle.std.proofs.lemmas.List.Elements.{All-get_or}
use Rattle.stream_model.specs.Graph.{Edge}
use Rattle.fused_net.specs.Net.{Net}
use Rattle.nodes.specs.declared.node.IslandNode.{IslandNode}
use Rattle.interpreter.specs.declared.parts.Seated.{Seated}
use Rattle.interpreter.specs.Parts.{Becomes, AllBecome}
use Rattle.blue_check.specs.Plan.{lanes_from}
use Rattle.scatter.specs.Shares.{of_home, rank_of, share_of}
use Rattle.scatter.proofs.Sharing.{share_map}
use Rattle.island_parts.specs.Whole.{whole_seats, in_seat, out_seat}
use Rattle.island_parts.proofs.Restricting.{home_at}
use Rattle.bodies_run.specs.Islands.{place_homes, seats_in, AreSeated, AreNets, AreBroughtBack}
use Rattle.bodies_run.proofs.Becoming.{become_at, all_become, become_first, become_later}
use Rattle.bodies_run.proofs.Bringing.{AreBelow, IsWhole, bring, whole_at, whole_one, part, get_first}
use Rattle.bodies_run.proofs.Standing.{seats, places_count, all_seats, all_below, home_below, place_at, place_rank, seat_at, place_seat}

module _ {S D L H B : Type 0} (homes : List ℕ) (count : ℕ) (ws : List Edge) (nodes : List (Seated S D L H B)) (a : AreSeated homes count ws nodes) where
  homes_below : AreBelow count (place_homes homes ws)
  homes_below i lt = All-get_or (λ h. h < count) (place_homes homes ws) i 0 lt (all_below homes count ws nodes a)

  module _ {X : Type 0} (lists : ℕ → List X) where
    pub back : ((k : ℕ) → k < count → length (lists k) ≡ share_of k (place_homes homes ws)) → (all : List X) × ((ends : List X) × AreBroughtBack homes count ws lists all ends)
    back counts =
        let w = bring (place_homes homes ws) count lists homes_below counts in
        let many = places_count homes count ws nodes a in
        let p = part (length homes) w.0 (omega (arith, many, w.1.each)) in
        let r = p.1.1 in (
          p.0,
          (
            p.1.0,
            record {
              each_node = r.first;
              each_end = omega (arith, many, w.1.each, r.later);
              shares = λ k lt. ap (of_home (place_homes homes ws) k) (sym r.is) ∙ w.1.shares k lt;
              at = λ k lt.
                  get_first p.0 p.1.0 k (omega (arith, lt, r.first)) ∙ ap (λ l. slice_get l k) (sym r.is)
                  ∙ whole_at (place_homes homes ws) count lists w.0 k (slice_index homes k) w.1 (place_at homes count ws nodes a k lt) (omega (arith, lt, many)) (home_below homes count ws nodes a k lt)
                  ∙ ap (slice_get (lists (slice_index homes k))) (sym (place_rank homes count ws nodes a k lt));
            },
          ),
        )

    pub whole : (all ends : List X) → AreBroughtBack homes count ws lists all ends → IsWhole (place_homes homes ws) count lists (all ++ ends)
    whole all ends r = record {
      each = let e = length-append all ends in let many = places_count homes count ws nodes a in omega (arith, e, many, r.each_node, r.each_end);
      shares = r.shares;
    }

    pub one : (all ends xs : List X) → AreBroughtBack homes count ws lists all ends → length xs ≡ length (place_homes homes ws) → ((k : ℕ) → k < count → of_home (place_homes homes ws) k xs ≡ lists k) → xs ≡ all ++ ends
    one all ends xs r long shares = whole_one (place_homes homes ws) count lists xs (all ++ ends) homes_below (record { each = long; shares = shares }) (whole all ends r)

map_both : {X Y : Type 0} (f : X → Y) (xs ys : List X) → map f (xs ++ ys) ≡ map f xs ++ map f ys
map_both f [] ys = refl
map_both f (x ∷ xs) ys = ap (λ l. f x ∷ l) (map_both f xs ys)

-- what is read off each item comes back with it
pub mapped : {X Y : Type 0} (homes : List ℕ) (count : ℕ) (ws : List Edge) (f : X → Y) (lists : ℕ → List X) (all ends : List X) → AreBroughtBack homes count ws lists all ends → AreBroughtBack homes count ws (λ k. map f (lists k)) (map f all) (map f ends)
mapped homes count ws f lists all ends r = record {
  each_node = length-map all f ∙ r.each_node;
  each_end = length-map ends f ∙ r.each_end;
  shares = λ k lt. ap (of_home (place_homes homes ws) k) (sym (map_both f all ends)) ∙ share_map f (place_homes homes ws) (all ++ ends) k ∙ ap (map f) (r.shares k lt);
  at = λ k lt. slice_get-map f all k ∙ ap (option_map f) (r.at k lt) ∙ sym (slice_get-map f (lists (slice_index homes k)) (rank_of (place_homes homes ws) k));
}

module _ {S D L H B : Type 0} (homes : List ℕ) (count : ℕ) (ws : List Edge) (nodes : List (Seated S D L H B)) (nets : ℕ → Net (IslandNode S D L H B)) (a : AreSeated homes count ws nodes) (b : AreNets homes ws nodes count nets) where
  pub first : (k : ℕ) (s : Seated S D L H B) → slice_get nodes k ≡ Some s → (x : IslandNode S D L H B) × ((slice_get (nets (slice_index homes k)).firsts (rank_of (place_homes homes ws) k) ≡ Some x) × Becomes s x)
  first k s at =
      let lt : k < length nodes = slice_get_within nodes k s at in
      let within : k < length homes = omega (arith, lt, a.each) in
      become_at (seats_in homes ws nodes (slice_index homes k)) (nets (slice_index homes k)).firsts (rank_of (place_homes homes ws) k) s (b.become (slice_index homes k) (home_below homes count ws nodes a k within)) (seat_at homes count ws nodes a k s at within)

  -- what stands at a place has become what was brought back for it
  place_becomes : (all ends : List (IslandNode S D L H B)) → AreBroughtBack homes count ws (λ k. (nets k).firsts) all ends → (i : ℕ) (s : Seated S D L H B) (x : IslandNode S D L H B) → slice_get (seats homes count ws nodes a) i ≡ Some s → slice_get (all ++ ends) i ≡ Some x → Becomes s x
  place_becomes all ends r i s x at is =
      let hs = place_homes homes ws in
      let lt : i < length hs = (let l : i < length (seats homes count ws nodes a) = slice_get_within (seats homes count ws nodes a) i s at in let e = all_seats homes count ws nodes a in omega (arith, l, e)) in
      let h = slice_index hs i in
      let below : h < count = All-get_or (λ k. k < count) hs i 0 lt (all_below homes count ws nodes a) in
      let y = become_at (seats_in homes ws nodes h) (nets h).firsts (rank_of hs i) s (b.become h below) (place_seat homes count ws nodes a i h lt refl ∙ at) in
      let there_is : slice_get (all ++ ends) i ≡ Some y.0 = whole_at hs count (λ k. (nets k).firsts) (all ++ ends) i h (whole homes count ws nodes a (λ k. (nets k).firsts) all ends r) (home_at hs i h lt refl) lt below ∙ y.1.0 in
      let same : Some y.0 ≡ Some x = sym there_is ∙ is in
      subst (Becomes s) (some_one same) y.1.1
    where
      some_one : {z w : IslandNode S D L H B} → Some z ≡ Some w → z ≡ w
      some_one e = cc

  pub become_all : (all ends : List (IslandNode S D L H B)) → AreBroughtBack homes count ws (λ k. (nets k).firsts) all ends → AllBecome (whole_seats nodes (lanes_from homes 0 ws)) (all ++ ends)
  become_all all ends r = all_become (seats homes count ws nodes a) (all ++ ends) ((whole homes count ws nodes a (λ k. (nets k).firsts) all ends r).each ∙ sym (all_seats homes count ws nodes a)) (place_becomes all ends r)

  pub become : (all ends : List (IslandNode S D L H B)) → AreBroughtBack homes count ws (λ k. (nets k).firsts) all ends → AllBecome nodes all
  become all ends r = become_first nodes (map in_seat (lanes_from homes 0 ws) ++ map out_seat (lanes_from homes 0 ws)) all ends (r.each_node ∙ a.each) (become_all all ends r)

  pub become_ends : (all ends : List (IslandNode S D L H B)) → AreBroughtBack homes count ws (λ k. (nets k).firsts) all ends → AllBecome (map in_seat (lanes_from homes 0 ws) ++ map out_seat (lanes_from homes 0 ws)) ends
  become_ends all ends r = become_later nodes (map in_seat (lanes_from homes 0 ws) ++ map out_seat (lanes_from homes 0 ws)) all ends (r.each_node ∙ a.each) (become_all all ends r)
