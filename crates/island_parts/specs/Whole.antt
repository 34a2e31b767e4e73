-- The places and the links of all islands of a blueprint in one list each, where every lane is cut: the stages at its two ends stand
-- behind the nodes, and it has a link at its output and one at its input.
use Rattle.std.specs.Prelude.{◌≡◌, false, slice_get, ℕ, suc, ◌+◌, List, [], ◌∷◌, ◌++◌, length, map, slice_index, Option, None, Some}
use Rattle.stream_model.specs.Graph.{Edge}
use Rattle.fused_net.specs.declared.net.WireEnds.{WireEnds}
use Rattle.fused_net.specs.Net.{end_at}
use Rattle.interpreter.specs.Parts.{inputs_at, outputs_at, AllUnused, IsWiring}
use Rattle.interpreter.specs.Ways.{is_lane_in, is_lane_out}
use Rattle.interpreter.specs.declared.parts.Link.{Link}
use Rattle.interpreter.specs.declared.parts.Place.{Place}
use Rattle.interpreter.specs.declared.parts.Seated.{Seated}
use Rattle.interpreter.specs.declared.parts.Work.TheVariants.{LaneIn, LaneOut}
use Rattle.blue_check.specs.declared.plan.LanePlan.{LanePlan}
use Rattle.scatter.specs.Shares.{of_home, rank_of}

-- one more than this number, where a wire has a lane
abbrev pub one_lane : Option ℕ → ℕ → ℕ
one_lane None n = n
one_lane (Some s) n = suc n

-- how many of these wires have a lane
abbrev pub lanes_in : List Edge → ℕ
lanes_in [] = 0
lanes_in (w ∷ ws) = one_lane w.lane (lanes_in ws)

-- the link at the output of wire u: of a lane it leads to the place where the lane goes out
abbrev pub near_at : ℕ → ℕ → Edge → Option ℕ → Link
near_at out u w None = record { wire = u; from = w.from; output = w.output; to = w.to; input = w.input }
near_at out u w (Some s) = record { wire = u; from = w.from; output = w.output; to = out; input = 0 }

-- of these wires, of which the first is wire u, where the next lane goes out at this place
abbrev pub nears_from : ℕ → ℕ → List Edge → List Link
nears_from out u [] = []
nears_from out u (w ∷ ws) = near_at out u w w.lane ∷ nears_from (one_lane w.lane out) (u + 1) ws

-- the link at the input of wire u, where it has a lane: from the place where the lane comes in
abbrev pub far_at : ℕ → ℕ → Edge → Option ℕ → List Link
far_at place u w None = []
far_at place u w (Some s) = record { wire = u; from = place; output = 0; to = w.to; input = w.input } ∷ []

-- the links at the inputs of those of these wires, from number u on, that have a lane: from the places where the lanes come in
abbrev pub fars_from : ℕ → ℕ → List Edge → List Link
fars_from place u [] = []
fars_from place u (w ∷ ws) = far_at place u w w.lane ++ fars_from (one_lane w.lane place) (u + 1) ws

-- all links of a blueprint of so many nodes: one at the output of each wire, then one at the input of each lane. Lanes come in at
-- the places behind the nodes, and go out at those behind
abbrev pub whole_links : ℕ → List Edge → List Link
whole_links n ws = nears_from (n + lanes_in ws) 0 ws ++ fars_from n 0 ws

-- the stage at which a lane comes in
abbrev pub in_seat : {S D L H B : Type 0} → LanePlan → Seated S D L H B
in_seat l = record { node = 0; room = 1; work = LaneIn l.wire }

-- the stage at which a lane goes out
abbrev pub out_seat : {S D L H B : Type 0} → LanePlan → Seated S D L H B
out_seat l = record { node = 0; room = 1; work = LaneOut l.wire }

-- what stands at all places: the nodes, behind them where lanes come in, and behind these where they go out
abbrev pub whole_seats : {S D L H B : Type 0} → List (Seated S D L H B) → List LanePlan → List (Seated S D L H B)
whole_seats nodes lanes = nodes ++ (map in_seat lanes ++ map out_seat lanes)

-- the place at which a lane comes in
abbrev pub in_place : LanePlan → Place
in_place l = record { node = 0; inputs = 0; outputs = 1 }

-- the place at which a lane goes out
abbrev pub out_place : LanePlan → Place
out_place l = record { node = 0; inputs = 1; outputs = 0 }

-- all places, before the nodes hold their handles
abbrev pub whole_places : List Place → List LanePlan → List Place
whole_places nodes lanes = nodes ++ (map in_place lanes ++ map out_place lanes)

-- the islands of all places: a lane comes in at the island of its input, and goes out at that of its output
abbrev pub whole_homes : List ℕ → List LanePlan → List ℕ
whole_homes homes lanes = homes ++ (map (λ (l : LanePlan). l.to) lanes ++ map (λ (l : LanePlan). l.from) lanes)

-- the island of a link
abbrev pub link_home : List ℕ → Link → ℕ
link_home homes l = slice_index homes l.from

-- a link by the places of its island alone
abbrev pub local_link : List ℕ → Link → Link
local_link homes l = record { wire = l.wire; from = rank_of homes l.from; output = l.output; to = rank_of homes l.to; input = l.input }

-- the same by a list of the ranks of all places
abbrev pub at_ranks : List ℕ → Link → Link
at_ranks ranks l = record { wire = l.wire; from = slice_index ranks l.from; output = l.output; to = slice_index ranks l.to; input = l.input }

-- the links of island k, by the places of that island
abbrev pub own_links : List ℕ → List Link → ℕ → List Link
own_links homes links k = of_home (map (link_home homes) links) k (map (local_link homes) links)

-- the ends of a wire that is not cut
abbrev pub ends_of_wire : Edge → WireEnds
ends_of_wire v = record { from = v.from; output = v.output; to = v.to; input = v.input }

-- a wire without a lane is inside one island
pub record KeepsInside (homes : List ℕ) (ws : List Edge) : Type 0 where
  pub inside : (i : ℕ) (w : Edge) → slice_get ws i ≡ Some w → w.lane ≡ None → slice_index homes w.from ≡ slice_index homes w.to

-- places of nodes, at which no lane comes in or goes out, whose ports these wires join, each wire a wire of the blueprint
pub record AreNodes {S D L H B : Type 0} (ws : List Edge) (nodes : List (Seated S D L H B)) : Type 0 where
  pub no_ends : (k : ℕ) (p : Seated S D L H B) → slice_get nodes k ≡ Some p → (is_lane_in p.work ≡ false) × (is_lane_out p.work ≡ false)
  pub unused : AllUnused nodes
  pub ends : List WireEnds
  pub wiring : IsWiring (inputs_at nodes) (outputs_at nodes) (length nodes) ends
  pub each_wire : length ends ≡ length ws
  pub ends_are : (i : ℕ) (v : Edge) → slice_get ws i ≡ Some v → end_at ends i ≡ ends_of_wire v
