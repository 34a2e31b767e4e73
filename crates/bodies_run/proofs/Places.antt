-- The stages of an island's lanes stand at the places of their wires' connections.
use Rattle.std.specs.Prelude.{slice_get, slice_index}
use Rattle.std.proofs.Common.{◌≡◌, ℕ, true, List, Some, sym, ap, ◌∙◌, subst}
use Rattle.stream_model.specs.Graph.{Edge}
use Rattle.interpreter.specs.Boundary.{EntersBy, LeavesBy, way_in, way_out}
use Rattle.interpreter.specs.Island.{Kept}
use Rattle.interpreter.specs.Ways.{comes_in, goes_out}
use Rattle.interpreter.specs.declared.parts.Link.{Link}
use Rattle.interpreter.specs.declared.parts.Seated.{Seated}
use Rattle.bodies_run.specs.Islands.{seats_by_islands, seats_in, links_in, AreSeated, HasWays}
use Rattle.bodies_run.proofs.Leading.{has_ways}

module _ {S D L H B : Type 0} (homes : List ℕ) (count : ℕ) (ws : List Edge) (nodes : List (Seated S D L H B)) (u : ℕ) (v : Edge) (size : ℕ) (i : Kept S D L H B) (a : AreSeated homes count ws nodes) (at : slice_get ws u ≡ Some v) (lane : v.lane ≡ Some size) where
  ways : HasWays homes ws nodes u v
  ways = has_ways homes count ws nodes a u v size at lane

  abbrev LeavesAt : ℕ → Type 0
  LeavesAt k = (q : ℕ) (l : Link) → slice_get (links_in homes ws nodes k) q ≡ Some l → goes_out (seats_in homes ws nodes k) l.to ≡ true → LeavesBy i l.wire q

  abbrev EntersAt : ℕ → Type 0
  EntersAt k = (q : ℕ) (l : Link) → slice_get (links_in homes ws nodes k) q ≡ Some l → comes_in (seats_in homes ws nodes k) l.from ≡ true → EntersBy i l.wire q

  pub out_place : LeavesAt (slice_index homes v.from) → ((seats_by_islands homes ws).near u).at ≡ way_out i u
  out_place h =
      let o = ways.out in
      let here : LeavesAt ((seats_by_islands homes ws).near u).island = subst LeavesAt (sym ways.out_island) h in
      sym (here ((seats_by_islands homes ws).near u).at o.link o.at o.goes).1 ∙ ap (way_out i) o.wire

  pub in_place : EntersAt (slice_index homes v.to) → ((seats_by_islands homes ws).far u).at ≡ way_in i u
  in_place h =
      let o = ways.inp in
      let here : EntersAt ((seats_by_islands homes ws).far u).island = subst EntersAt (sym ways.in_island) h in
      sym (here ((seats_by_islands homes ws).far u).at o.link o.at o.comes).1 ∙ ap (way_in i) o.wire
