-- The connections of all islands are those of wires, each in the island of its output, and then those at which lanes come in.
use Rattle.std.specs.Prelude.{slice_get, slice_index}
use Rattle.std.proofs.Common.{◌≡◌, ℕ, suc, ◌+◌, List, [], ◌∷◌, ◌++◌, length, map, Option, Some, None, refl, sym, ap, ◌∙◌, arith}
use Rattle.std.proofs.lemmas.List.{length-map, map-append}
use Rattle.std.proofs.lemmas.Option.{get_or_from_slice_get}
use Rattle.stream_io.specs.State.{SourceState, DrainState}
use Rattle.stream_model.specs.Linear.{Book}
use Rattle.stream_model.specs.Graph.{Edge}
use Rattle.interpreter.specs.Island.{Kept}
use Rattle.interpreter.specs.Parts.{ends_of}
use Rattle.interpreter.specs.declared.parts.Parts.{Parts}
use Rattle.interpreter.specs.declared.parts.Seated.{Seated}
use Rattle.blue_check.specs.Plan.{lane_sized, lanes_from}
use Rattle.blue_check.specs.declared.plan.LanePlan.{LanePlan}
use Rattle.scatter.specs.Shares.{share_of}
use Rattle.island_parts.specs.Whole.{one_lane, lanes_in, near_at, nears_from, far_at, fars_from, whole_links, link_home, own_links}
use Rattle.island_parts.proofs.Wholes.{three_second}
use Rattle.bodies_run.specs.Islands.{place_homes, link_homes, links_in, AreSeated}
use Rattle.bodies_run.proofs.Standing.{size, from_node, same_home, links_in_count}
use Rattle.island_parts.specs.Starts.{HasStarted}
use Rattle.island_plans.specs.Ends.{wire_home}
use Rattle.island_runs.specs.Made.{ArePartsOf}
use Rattle.island_plans.specs.Making.{way_homes}

module _ (homes hs : List ℕ) where
  -- a link at an output lies in the island in which its wire begins
  near_homes : (out u : ℕ) (ws : List Edge) → ((i : ℕ) (w : Edge) → slice_get ws i ≡ Some w → slice_index hs w.from ≡ slice_index homes w.from) → map (link_home hs) (nears_from out u ws) ≡ map (wire_home homes) ws
  near_homes out u [] same = refl
  near_homes out u (w ∷ ws) same =
      ap (λ h. h ∷ map (link_home hs) (nears_from (one_lane w.lane out) (u + 1) ws)) (first w.lane) ∙ ap (λ l. wire_home homes w ∷ l) (near_homes (one_lane w.lane out) (u + 1) ws (λ i v at. same (suc i) v at))
    where
      first : (o : Option ℕ) → link_home hs (near_at out u w o) ≡ wire_home homes w
      first None = same 0 w refl
      first (Some s) = same 0 w refl

  -- one at an input lies in that which its lane comes into
  far_homes : (place u : ℕ) (ws : List Edge) → ((j : ℕ) (l : LanePlan) → slice_get (lanes_from homes u ws) j ≡ Some l → slice_index hs (place + j) ≡ l.to) → map (link_home hs) (fars_from place u ws) ≡ map (λ (l : LanePlan). l.to) (lanes_from homes u ws)
  far_homes place u [] into = refl
  far_homes place u (w ∷ ws) into = by w.lane into (λ p more. far_homes p (u + 1) ws more)
    where
      by : (o : Option ℕ) → ((j : ℕ) (l : LanePlan) → slice_get (lane_sized homes u w o ++ lanes_from homes (u + 1) ws) j ≡ Some l → slice_index hs (place + j) ≡ l.to)
          → ((p : ℕ) → ((j : ℕ) (l : LanePlan) → slice_get (lanes_from homes (u + 1) ws) j ≡ Some l → slice_index hs (p + j) ≡ l.to) → map (link_home hs) (fars_from p (u + 1) ws) ≡ map (λ (l : LanePlan). l.to) (lanes_from homes (u + 1) ws))
          → map (link_home hs) (far_at place u w o ++ fars_from (one_lane o place) (u + 1) ws) ≡ map (λ (l : LanePlan). l.to) (lane_sized homes u w o ++ lanes_from homes (u + 1) ws)
      by None at rest = rest place at
      by (Some s) at rest =
          let zero_more : place ≡ place + 0 = omega arith in
          let first : slice_index hs place ≡ slice_index homes w.to = ap (slice_index hs) zero_more ∙ at 0 (record { wire = u; size = s; keep = w.keep; from = slice_index homes w.from; to = slice_index homes w.to; hub = w.hub }) refl in
          let later = rest (suc place) (λ j l here. let one_more : suc place + j ≡ place + suc j = omega arith in ap (slice_index hs) one_more ∙ at (suc j) l here) in
          ap (λ h. h ∷ map (link_home hs) (fars_from (suc place) (u + 1) ws)) first ∙ ap (λ l. slice_index homes w.to ∷ l) later

module _ {S D L H B : Type 0} (homes : List ℕ) (count : ℕ) (ws : List Edge) (nodes : List (Seated S D L H B)) (a : AreSeated homes count ws nodes) where
  -- the islands of all links
  pub homes_of_links : link_homes homes ws ≡ way_homes (map (wire_home homes) ws) (lanes_from homes 0 ws)
  homes_of_links =
      let hs = place_homes homes ws in
      let n = length homes in
      map-append (link_home hs) (nears_from (n + lanes_in ws) 0 ws) (fars_from n 0 ws)
      ∙ (ap (λ l. l ++ map (link_home hs) (fars_from n 0 ws)) (near_homes homes hs (n + lanes_in ws) 0 ws (λ i w at. same_home homes count ws nodes a w.from (from_node homes count ws nodes a i w at)))
      ∙ ap (λ l. map (wire_home homes) ws ++ l)
      (far_homes homes hs n 0 ws (λ j l at. get_or_from_slice_get hs (n + j) l.to 0 (three_second homes (λ (p : LanePlan). p.to) (λ (p : LanePlan). p.from) (lanes_from homes 0 ws) (n + j) j l refl at))))

  -- an island that has started has as many connections as there are of its own
  pub connections : (sources : S → SourceState) (drains : D → DrainState) (book : Book) (k : ℕ) (x : Parts S D L H B) (i : Kept S D L H B) → ArePartsOf homes ws nodes k x → HasStarted sources drains book x i → length i.net.wires ≡ share_of k (way_homes (map (wire_home homes) ws) (lanes_from homes 0 ws))
  connections sources drains book k x i p h =
      let wires : length i.net.ends ≡ length i.net.wires = h.laws.laws.wired.each_wire in
      let ends : length i.net.ends ≡ length x.links.items = ap length h.ends ∙ length-map x.links.items ends_of in
      let links : length x.links.items ≡ length (links_in homes ws nodes k) = ap length p.links_are in
      let sized : length (links_in homes ws nodes k) ≡ length (own_links (place_homes homes ws) (whole_links (length homes) ws) k) = ap (λ n. length (own_links (place_homes homes ws) (whole_links n ws) k)) (size homes count ws nodes a) in
      sym wires ∙ (ends ∙ (links ∙ (sized ∙ (links_in_count homes count ws nodes a k ∙ ap (share_of k) homes_of_links))))
