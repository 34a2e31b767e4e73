-- The bodies of islands: room for them, what they are made of, what they are then, and what they leave.
use Rattle.std.specs.Prelude.{◌≡◌, ℕ, ◌≤◌, List, [], ◌++◌, Some, length, map, replicate, slice_get, slice_index, vec_capacity}
use Rattle.std.specs.declared.vec.Vec.{Vec}
use Rattle.std.specs.declared.alloc.Global.{Global}
use Rattle.stream_io.specs.State.{SourceState, DrainState}
use Rattle.interpreter.specs.declared.island.IslandEnd.{IslandEnd}
use Rattle.scatter.specs.Shares.{share_of}
use Rattle.blue_check.specs.declared.plan.LanePlan.{LanePlan}
use Rattle.interpreter.specs.Island.{Kept, counts_of, sinks_of, readers_of, writers_of}
use Rattle.interpreter.specs.Picks.{pick_of, picks_of}
use Rattle.interpreter.specs.Misfits.{least_of}
use Rattle.interpreter.specs.Seats.{seats_of}
use Rattle.island_body.specs.declared.output.OutputBoundary.{OutputBoundary}
use Rattle.island_body.specs.declared.input.IslandInput.{IslandInput}
use Rattle.island_body.specs.declared.body.Body.{Body}
use Rattle.island_body.specs.declared.way.Way.{Way}
use Rattle.island_body.specs.declared.way.Way.TheVariants.{Inner}
use Rattle.island_body.specs.Ends.{IslandGoes}
use Rattle.island_body.specs.Keeping.{BodyBegins, BodyKeeps, SameLanes}
use Rattle.island_body.specs.declared.peers.Peers.{Peers}
use Rattle.island_plans.specs.Peers.{ArePeers}
use Rattle.island_plans.specs.declared.room.BodyRoom.{BodyRoom}
use Rattle.stream_model.specs.Linear.{Book}

-- The islands of all connections: of each wire, and then of the input end of each lane.
abbrev pub way_homes : List ℕ → List LanePlan → List ℕ
way_homes wires lanes = wires ++ map (λ (l : LanePlan). l.to) lanes

-- blank tables with so many rows
pub record AreTables (counts : List ℕ) (tables : List (Vec Way Global)) : Type 0 where
  pub many : length tables ≡ length counts
  pub each : (k : ℕ) (t : Vec Way Global) → slice_get tables k ≡ Some t → t.items ≡ replicate (slice_index counts k) Inner

-- Of each of so many islands a blank table, with a row for each connection that has its home there.
pub record AreBlank (homes : List ℕ) (count : ℕ) (tables : List (Vec Way Global)) : Type 0 where
  pub many : length tables ≡ count
  pub each : (k : ℕ) (t : Vec Way Global) → slice_get tables k ≡ Some t → t.items ≡ replicate (share_of k homes) Inner

module _ {S D L H B : Type 0} where
  -- There is all memory for the bodies of so many islands, and for their ends: `wires` are the islands in which wires begin.
  pub record IsRoomForBodies (wires : List ℕ) (lanes : List LanePlan) (count : ℕ) (r : BodyRoom S D L H B) : Type 0 where
    pub blank : AreBlank (way_homes wires lanes) count r.tables.items
    pub peers : ArePeers lanes count r.peers.items
    pub no_bodies : r.bodies.items ≡ []
    pub room_for_bodies : count ≤ vec_capacity r.bodies
    pub no_ends : r.ends.items ≡ []
    pub room_for_ends : count ≤ vec_capacity r.ends

  -- Islands that have started, of each the ends of its lanes, which stand there, a blank table with a row for each of its
  -- connections, and the island at the other end of each lane.
  pub record CanAllBegin (islands : List (Kept S D L H B)) (ins : List (Vec IslandInput Global)) (outs : List (Vec OutputBoundary Global))
      (tables : List (Vec Way Global)) (peers : List Peers) : Type 0 where
    pub ins_many : length ins ≡ length islands
    pub outs_many : length outs ≡ length islands
    pub tables_many : length tables ≡ length islands
    pub begin : (k : ℕ) (i : Kept S D L H B) (x : Vec IslandInput Global) (o : Vec OutputBoundary Global) → slice_get islands k ≡ Some i
        → slice_get ins k ≡ Some x → slice_get outs k ≡ Some o → BodyBegins i x.items o.items
    pub few_ins : (k : ℕ) (x : Vec IslandInput Global) → slice_get ins k ≡ Some x → length x.items ≤ 4294967295
    pub few_outs : (k : ℕ) (o : Vec OutputBoundary Global) → slice_get outs k ≡ Some o → length o.items ≤ 4294967295
    pub blank : (k : ℕ) (i : Kept S D L H B) (t : Vec Way Global) → slice_get islands k ≡ Some i → slice_get tables k ≡ Some t
        → t.items ≡ replicate (length i.net.wires) Inner
    pub peers_many : length peers ≡ length islands
    pub in_peers : (k : ℕ) (x : Vec IslandInput Global) (p : Peers) → slice_get ins k ≡ Some x → slice_get peers k ≡ Some p
        → length p.ins.items ≡ length x.items
    pub out_peers : (k : ℕ) (o : Vec OutputBoundary Global) (p : Peers) → slice_get outs k ≡ Some o → slice_get peers k ≡ Some p
        → length p.outs.items ≡ length o.items

  module _ (sources : S → SourceState) (drains : D → DrainState) (book : Book) where
    -- The body of this island with the ends of these lanes: it keeps what bodies keep, its island went on from this one, its lanes
    -- are these, and no unit was spent.
    pub record IsBodyOf (i : Kept S D L H B) (ins : List IslandInput) (outs : List OutputBoundary) (b : Body S D L H B) : Type 0 where
      pub keeps : BodyKeeps sources drains book b
      pub goes : IslandGoes i b.island
      pub lanes : SameLanes ins b.ins.items outs b.outs.items
      pub unspent : b.spent ≡ 0

    -- the bodies of these islands, in their order
    pub record AreAllBodies (islands : List (Kept S D L H B)) (ins : List (Vec IslandInput Global)) (outs : List (Vec OutputBoundary Global))
        (bodies : List (Body S D L H B)) : Type 0 where
      pub many : length bodies ≡ length islands
      pub each : (k : ℕ) (i : Kept S D L H B) (x : Vec IslandInput Global) (o : Vec OutputBoundary Global) (b : Body S D L H B) → slice_get islands k ≡ Some i
          → slice_get ins k ≡ Some x → slice_get outs k ≡ Some o → slice_get bodies k ≡ Some b → IsBodyOf i x.items o.items b

  -- what the island of a body leaves
  pub record IsEndOfBody (b : Body S D L H B) (e : IslandEnd S D) : Type 0 where
    pub sinks : e.sinks.items ≡ sinks_of b.island.net.nodes
    pub wires : e.wires.items ≡ counts_of b.island.numbers b.island.net.wires
    pub picks : map pick_of e.picks.items ≡ picks_of b.island.places b.island.net.nodes
    pub misfit : e.misfit ≡ least_of b.island.places b.island.net.nodes
    pub seats : e.seats.items ≡ seats_of b.island.places b.island.net.nodes
    pub readers : e.readers.items ≡ readers_of b.island.net.nodes
    pub writers : e.writers.items ≡ writers_of b.island.net.nodes

  -- and what those of all leave, in their order
  pub record AreEndsOfBodies (bodies : List (Body S D L H B)) (ends : List (IslandEnd S D)) : Type 0 where
    pub many : length ends ≡ length bodies
    pub each : (k : ℕ) (b : Body S D L H B) (e : IslandEnd S D) → slice_get bodies k ≡ Some b → slice_get ends k ≡ Some e → IsEndOfBody b e
