-- The islands of places that hold their handles.
use Rattle.std.proofs.Common.{◌≡◌, ℕ, ◌+◌, ◌<◌, ◌^◌, ◌++◌, List, length, map, ap, sym, ◌∙◌, subst, arith, length-append}
use Rattle.std.proofs.lemmas.List.{length-map}
use Rattle.stream_model.specs.Graph.{Edge}
use Rattle.stream_model.specs.declared.blueprint.Node.{Node}
use Rattle.stream_model.specs.declared.blueprint.WireDecl.{WireDecl}
use Rattle.interpreter.specs.Parts.{AreParts, seat_place}
use Rattle.interpreter.specs.Room.{IsRoom}
use Rattle.interpreter.specs.declared.parts.Link.{Link}
use Rattle.interpreter.specs.declared.parts.Parts.{Parts}
use Rattle.interpreter.specs.declared.parts.Place.{Place}
use Rattle.interpreter.specs.declared.parts.Seated.{Seated}
use Rattle.interpreter.specs.declared.room.IslandRoom.{IslandRoom}
use Rattle.blue_check.specs.Plan.{lanes_from}
use Rattle.blue_check.specs.declared.plan.LanePlan.{LanePlan}
use Rattle.scatter.specs.Shares.{of_home}
use Rattle.scatter.proofs.Sharing.{share_map}
use Rattle.island_parts.specs.Split.{IsSplit, IsIsland}
use Rattle.island_parts.specs.Whole.{in_seat, out_seat, own_links, whole_homes, whole_links, whole_places, whole_seats}
use Rattle.island_parts.specs.declared.split.Split.{Split}
use Rattle.materializer.specs.Planned.{places_from}
use Rattle.island_plans.specs.Plans.{IsIslandOf}

-- as many homes of all places as what stands there
pub whole_count : {S D L H B : Type 0} (homes : List ℕ) (lanes : List LanePlan) (nodes : List (Seated S D L H B)) → length homes ≡ length nodes → length (whole_seats nodes lanes) ≡ length (whole_homes homes lanes)
whole_count {S = S} {D = D} {L = L} {H = H} {B = B} homes lanes nodes e =
    let seats : length (whole_seats nodes lanes) ≡ length nodes + length (map (in_seat {S = S} {D = D} {L = L} {H = H} {B = B}) lanes ++ map out_seat lanes) = length-append nodes (map in_seat lanes ++ map out_seat lanes) in
    let ends : length (map (in_seat {S = S} {D = D} {L = L} {H = H} {B = B}) lanes ++ map out_seat lanes) ≡ length (map (in_seat {S = S} {D = D} {L = L} {H = H} {B = B}) lanes) + length (map (out_seat {S = S} {D = D} {L = L} {H = H} {B = B}) lanes) = length-append (map in_seat lanes) (map out_seat lanes) in
    let ins : length (map (in_seat {S = S} {D = D} {L = L} {H = H} {B = B}) lanes) ≡ length lanes = length-map lanes in_seat in
    let outs : length (map (out_seat {S = S} {D = D} {L = L} {H = H} {B = B}) lanes) ≡ length lanes = length-map lanes out_seat in
    let all : length (whole_homes homes lanes) ≡ length homes + length (map (λ (l : LanePlan). l.to) lanes ++ map (λ (l : LanePlan). l.from) lanes) = length-append homes (map (λ (l : LanePlan). l.to) lanes ++ map (λ (l : LanePlan). l.from) lanes) in
    let both : length (map (λ (l : LanePlan). l.to) lanes ++ map (λ (l : LanePlan). l.from) lanes) ≡ length (map (λ (l : LanePlan). l.to) lanes) + length (map (λ (l : LanePlan). l.from) lanes) = length-append (map (λ (l : LanePlan). l.to) lanes) (map (λ (l : LanePlan). l.from) lanes) in
    let to : length (map (λ (l : LanePlan). l.to) lanes) ≡ length lanes = length-map lanes (λ (l : LanePlan). l.to) in
    let from : length (map (λ (l : LanePlan). l.from) lanes) ≡ length lanes = length-map lanes (λ (l : LanePlan). l.from) in
    omega (arith, seats, ends, ins, outs, all, both, to, from, e)

module _ {S D L H B : Type 0} (homes : List ℕ) (count : ℕ) (ws : List Edge) (ds : List WireDecl) (ns : List Node) (nodes : List (Seated S D L H B)) (s : Split S D L H B) (split : IsSplit homes count ws (places_from ds 0 ns) s) (same : map seat_place nodes ≡ places_from ds 0 ns) where
  abbrev cut : List LanePlan
  cut = lanes_from homes 0 ws

  many : length (places_from ds 0 ns) ≡ length nodes
  many = sym (ap length same) ∙ length-map nodes seat_place

  -- by the laws of islands
  pub island_cut : ((k : ℕ) → AreParts (of_home (whole_homes homes cut) k (whole_seats nodes cut)) (own_links (whole_homes homes cut) (whole_links (length nodes) ws) k)) → map seat_place (whole_seats nodes cut) ≡ whole_places (map seat_place nodes) cut
      → (k : ℕ) (x : Parts S D L H B × IslandRoom S D L H B) → IsIsland s (whole_seats nodes cut) k x → IsIslandOf homes ws cut nodes k x
  island_cut parts places k x i =
      let sp = split.spaces_are k i.space i.space_at in
      let here : x.0.nodes.items ≡ of_home (whole_homes homes cut) k (whole_seats nodes cut) = i.nodes_are ∙ ap (λ hs. of_home hs k (whole_seats nodes cut)) split.homes_are in
      let told : x.0.links.items ≡ own_links s.homes.items (whole_links (length (places_from ds 0 ns)) ws) k = i.links_are ∙ sp.links_are in
      let links : x.0.links.items ≡ own_links (whole_homes homes cut) (whole_links (length nodes) ws) k =
      told ∙ ap (λ hs. own_links hs (whole_links (length (places_from ds 0 ns)) ws) k) split.homes_are ∙ ap (λ n. own_links (whole_homes homes cut) (whole_links n ws) k) many in
      let at : map seat_place x.0.nodes.items ≡ of_home s.homes.items k (whole_places (places_from ds 0 ns) cut) =
      ap (λ (l : List (Seated S D L H B)). map seat_place l) i.nodes_are ∙ sym (share_map seat_place s.homes.items (whole_seats nodes cut) k) ∙ ap (λ l. of_home s.homes.items k l) places ∙ ap (λ l. of_home s.homes.items k (whole_places l cut)) same in
      record {
        nodes_are = here;
        links_are = links;
        parts = subst (λ (l : List Link). AreParts x.0.nodes.items l) (sym links) (subst (λ (l : List (Seated S D L H B)). AreParts l (own_links (whole_homes homes cut) (whole_links (length nodes) ws) k)) (sym here) (parts k));
        room = subst (λ (r : IslandRoom S D L H B). IsRoom r (map seat_place x.0.nodes.items) x.0.links.items) (sym i.room_is)
            (subst (λ (l : List Place). IsRoom i.space.room l x.0.links.items) (sym at) (subst (λ (l : List Link). IsRoom i.space.room (of_home s.homes.items k (whole_places (places_from ds 0 ns) cut)) l) (sym told) sp.room_is));
      }

  pub few_whole : length (whole_links (length nodes) ws) < 2 ^ 32
  few_whole = subst (λ n. length (whole_links n ws) < 2 ^ 32) many split.few

  -- the same of the lanes as code reads them
  pub island_is : (lanes told : List LanePlan) (seats : List (Seated S D L H B)) → ((k : ℕ) → AreParts (of_home (whole_homes homes cut) k (whole_seats nodes cut)) (own_links (whole_homes homes cut) (whole_links (length nodes) ws) k)) → map seat_place (whole_seats nodes cut) ≡ whole_places (map seat_place nodes) cut
      → lanes ≡ cut → told ≡ lanes → seats ≡ whole_seats nodes told → (k : ℕ) (x : Parts S D L H B × IslandRoom S D L H B) → IsIsland s seats k x → IsIslandOf homes ws lanes nodes k x
  island_is lanes told seats parts places e t is k x i =
      subst (λ (l : List LanePlan). IsIslandOf homes ws l nodes k x) (sym e) (island_cut parts places k x (subst (λ (l : List (Seated S D L H B)). IsIsland s l k x) (is ∙ ap (λ (l : List LanePlan). whole_seats nodes l) (t ∙ e)) i))

  -- as many places as homes
  pub seats_each : (lanes told : List LanePlan) (seats : List (Seated S D L H B)) → length homes ≡ length nodes → lanes ≡ cut → told ≡ lanes → seats ≡ whole_seats nodes told → length seats ≡ length s.homes.items
  seats_each lanes told seats each e t is =
      ap length is ∙ whole_count homes told nodes each ∙ ap (λ (l : List LanePlan). length (whole_homes homes l)) (t ∙ e) ∙ sym (ap length split.homes_are)
