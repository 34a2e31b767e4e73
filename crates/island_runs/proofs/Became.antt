-- What became of what stands at the places of all islands, brought back into one list.
use Rattle.std.specs.Prelude.{slice_get, slice_index}
use Rattle.std.proofs.Common.{◌≡◌, ℕ, ◌+◌, ◌<◌, true, List, ◌++◌, length, map, Some, refl, ap, sym, ◌∙◌, length-append, arith}
use Rattle.std.proofs.lemmas.Option.{slice_get_within}
use Rattle.std.proofs.lemmas.List.Elements.{All-get_or}
use Rattle.stream_model.specs.Graph.{Edge}
use Rattle.fused_net.specs.Net.{Net}
use Rattle.nodes.specs.declared.node.IslandNode.{IslandNode}
use Rattle.interpreter.specs.Parts.{Becomes}
use Rattle.interpreter.specs.declared.parts.Seated.{Seated}
use Rattle.blue_check.specs.Plan.{lanes_from}
use Rattle.blue_check.specs.declared.plan.LanePlan.{LanePlan}
use Rattle.scatter.specs.Shares.{rank_of}
use Rattle.island_parts.specs.Whole.{in_seat, out_seat}
use Rattle.island_parts.proofs.Restricting.{home_at}
use Rattle.island_parts.proofs.Wiring.{get_left, get_right, there}
use Rattle.bodies_run.specs.Islands.{place_homes, seats_in, AreSeated, AreNets, AreBroughtBack}
use Rattle.bodies_run.proofs.Becoming.{become_at}
use Rattle.bodies_run.proofs.Bringing.{whole_at}
use Rattle.bodies_run.proofs.Gathering.{whole}
use Rattle.bodies_run.proofs.Standing.{seats, all_seats, all_below, place_seat}
use Rattle.island_parts.specs.Ends.{is_lane_end}
use Rattle.island_runs.proofs.Numbers.{each_read, each_both}

-- a node has become of one that stands at this place, with which it has something to do
pub record Began {S D L H B : Type 0} (R : IslandNode S D L H B → IslandNode S D L H B → Type 0) (s : Seated S D L H B) (x : IslandNode S D L H B) : Type 0 where
  pub first : IslandNode S D L H B
  pub becomes : Becomes s first
  pub keeps : R first x

-- the stages at the ends of lanes
abbrev pub ends_at : {S D L H B : Type 0} → List LanePlan → List (Seated S D L H B)
ends_at lanes = map in_seat lanes ++ map out_seat lanes

-- what begins at one is one
abbrev EndsAt : {S D L H B : Type 0} → Seated S D L H B → Type 0
EndsAt s = (x : IslandNode _ _ _ _ _) → Becomes s x → is_lane_end x ≡ true

pub lane_seats : {S D L H B : Type 0} (lanes : List LanePlan) (k : ℕ) (s : Seated S D L H B) → slice_get (ends_at lanes) k ≡ Some s → (x : IslandNode S D L H B) → Becomes s x → is_lane_end x ≡ true
lane_seats {S = S} {D = D} {L = L} {H = H} {B = B} lanes =
    each_both (EndsAt {S = S} {D = D} {L = L} {H = H} {B = B}) (map in_seat lanes) (map out_seat lanes) (each_read (EndsAt {S = S} {D = D} {L = L} {H = H} {B = B}) in_seat (λ l x b. ap is_lane_end b) lanes) (each_read (EndsAt {S = S} {D = D} {L = L} {H = H} {B = B}) out_seat (λ l x b. ap is_lane_end b) lanes)

module _ {S D L H B : Type 0} (homes : List ℕ) (count : ℕ) (ws : List Edge) (nodes : List (Seated S D L H B)) (nets : ℕ → Net (IslandNode S D L H B)) (a : AreSeated homes count ws nodes) (b : AreNets homes ws nodes count nets) (R : IslandNode S D L H B → IslandNode S D L H B → Type 0)
    (others : ℕ → List (IslandNode S D L H B)) (stays : (k : ℕ) → k < count → (p : ℕ) (first x : IslandNode S D L H B) → slice_get (nets k).firsts p ≡ Some first → slice_get (others k) p ≡ Some x → R first x) (all ends : List (IslandNode S D L H B)) (r : AreBroughtBack homes count ws others all ends) where
  place_began : (i : ℕ) (s : Seated S D L H B) (x : IslandNode S D L H B) → slice_get (seats homes count ws nodes a) i ≡ Some s → slice_get (all ++ ends) i ≡ Some x → Began R s x
  place_began i s x at is =
      let hs = place_homes homes ws in
      let lt : i < length hs = (let l : i < length (seats homes count ws nodes a) = slice_get_within (seats homes count ws nodes a) i s at in let e = all_seats homes count ws nodes a in omega (arith, l, e)) in
      let h = slice_index hs i in
      let below : h < count = All-get_or (λ k. k < count) hs i 0 lt (all_below homes count ws nodes a) in
      let y = become_at (seats_in homes ws nodes h) (nets h).firsts (rank_of hs i) s (b.become h below) (place_seat homes count ws nodes a i h lt refl ∙ at) in
      let here : slice_get (others h) (rank_of hs i) ≡ Some x = sym (whole_at hs count others (all ++ ends) i h (whole homes count ws nodes a others all ends r) (home_at hs i h lt refl) lt below) ∙ is in
      record { first = y.0; becomes = y.1.1; keeps = stays h below (rank_of hs i) y.0 x y.1.0 here }

  -- of a node of the blueprint
  pub node_began : (k : ℕ) (s : Seated S D L H B) (x : IslandNode S D L H B) → slice_get nodes k ≡ Some s → slice_get all k ≡ Some x → Began R s x
  node_began k s x at is = place_began k s x (get_left nodes (ends_at (lanes_from homes 0 ws)) k s at) (get_left all ends k x is)

  -- and of any other, which is at an end of a lane
  pub end_began : (k : ℕ) (x : IslandNode S D L H B) → slice_get ends k ≡ Some x → (first : IslandNode S D L H B) × ((is_lane_end first ≡ true) × R first x)
  end_began k x is =
      let lanes = lanes_from homes 0 ws in
      let lt : k < length ends = slice_get_within ends k x is in
      let many : length (seats homes count ws nodes a) ≡ length (place_homes homes ws) = all_seats homes count ws nodes a in
      let split : length (seats homes count ws nodes a) ≡ length nodes + length (ends_at {S = S} {D = D} {L = L} {H = H} {B = B} lanes) = length-append nodes (ends_at lanes) in
      let each = (whole homes count ws nodes a others all ends r).each in
      let two = length-append all ends in
      let first = r.each_node ∙ a.each in
      let s = there (ends_at {S = S} {D = D} {L = L} {H = H} {B = B} lanes) k (omega (arith, lt, many, split, each, two, first)) in
      let w = place_began (length nodes + k) s.0 x (get_right nodes (ends_at lanes) (length nodes + k) k refl ∙ s.1) (get_right all ends (length nodes + k) k (omega (arith, first)) ∙ is) in
      (w.first, (lane_seats lanes k s.0 s.1 w.first w.becomes, w.keeps))
