-- What was prepared for the plans of islands serves the islands that were filled.
use Rattle.std.proofs.Common.{◌≡◌, ℕ, suc, ◌+◌, List, [], ◌∷◌, length, ap, sym, subst, refl}
use Rattle.std.specs.declared.vec.Vec.{Vec}
use Rattle.std.specs.declared.alloc.Global.{Global}
use Rattle.stream_model.specs.Graph.{Edge}
use Rattle.port_core.specs.Cell.{WireState}
use Rattle.blue_check.specs.declared.plan.LanePlan.{LanePlan}
use Rattle.island_plans.specs.LaneEnds.{AreAllEnds}
use Rattle.island_plans.specs.declared.lane_ends.AllEnds.{AllEnds}
use Rattle.island_body.specs.declared.way.Way.{Way}
use Rattle.island_body.specs.declared.peers.Peers.{Peers}
use Rattle.island_plans.specs.Peers.{ArePeers}
use Rattle.island_plans.specs.Making.{way_homes, AreBlank}
use Rattle.island_parts.specs.Room.{IsRoomForEnds}
use Rattle.island_parts.specs.declared.room.EndHomes.{EndHomes}
use Rattle.island_parts.specs.declared.room.EndRoom.{EndRoom}
use Rattle.bodies_run.specs.Counts.{told_from}

-- the ends of lanes, the blank tables, the peers and the room for ends, by the same lanes, the same homes and as many islands
pub same_ends : (l m : Vec LanePlan Global) (n k : ℕ) (e : AllEnds) → m ≡ l → k ≡ n → AreAllEnds l.items n e → AreAllEnds m.items k e
same_ends l m n k e lanes count h = subst (λ (x : Vec LanePlan Global). AreAllEnds x.items k e) (sym lanes) (subst (λ (i : ℕ). AreAllEnds l.items i e) (sym count) h)

pub same_tables : (d h : EndHomes) (l m : Vec LanePlan Global) (n k : ℕ) (tables : List (Vec Way Global)) → h ≡ d → m ≡ l → k ≡ n → AreBlank (way_homes d.wires.items l.items) n tables → AreBlank (way_homes h.wires.items m.items) k tables
same_tables d h l m n k tables homes lanes count b =
    subst (λ (x : EndHomes). AreBlank (way_homes x.wires.items m.items) k tables) (sym homes)
    (subst (λ (x : Vec LanePlan Global). AreBlank (way_homes d.wires.items x.items) k tables) (sym lanes) (subst (λ (i : ℕ). AreBlank (way_homes d.wires.items l.items) i tables) (sym count) b))

pub same_peers : (l m : Vec LanePlan Global) (n k : ℕ) (peers : List Peers) → m ≡ l → k ≡ n → ArePeers l.items n peers → ArePeers m.items k peers
same_peers l m n k peers lanes count h = subst (λ (x : Vec LanePlan Global). ArePeers x.items k peers) (sym lanes) (subst (λ (i : ℕ). ArePeers l.items i peers) (sym count) h)

pub same_room : {S D : Type 0} (d h : EndHomes) (n k : ℕ) (r : EndRoom S D) → h ≡ d → k ≡ n → IsRoomForEnds d n r → IsRoomForEnds h k r
same_room d h n k r homes count is = subst (λ (x : EndHomes). IsRoomForEnds x k r) (sym homes) (subst (λ (i : ℕ). IsRoomForEnds d i r) (sym count) is)

-- each wire is told of once
pub told_many : (near : ℕ → WireState) (u : ℕ) (ws : List Edge) → length (told_from near u ws) ≡ length ws
told_many near u [] = refl
told_many near u (v ∷ vs) = ap suc (told_many near (u + 1) vs)
