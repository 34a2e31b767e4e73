-- Of the sinks of a run: how many lines each may put together, and that none has put lines off.
use Rattle.std.specs.Prelude.{slice_get}
use Rattle.std.proofs.Common.{◌≡◌, ℕ, zero, suc, ◌<◌, List, [], ◌∷◌, map, Option, None, Some, refl, sym, ap, ◌∙◌, subst}
use Rattle.std.proofs.lemmas.Option.{slice_get_within}
use Rattle.stream_model.specs.Graph.{Edge}
use Rattle.nodes.specs.declared.node.IslandNode.{IslandNode}
use Rattle.nodes.specs.declared.node.IslandNode.TheVariants as node
use Rattle.nodes.specs.Kinds.{writes_of}
use Rattle.nodes.specs.Nodes.{NoneLate}
use Rattle.nodes.specs.Sink.{Sink, new_sink, sink_late, sink_room}
use Rattle.interpreter.specs.Parts.{BecomesOf, AllBecome}
use Rattle.interpreter.specs.declared.parts.Seated.{Seated}
use Rattle.interpreter.specs.declared.parts.Work.{Work}
use Rattle.interpreter.specs.declared.parts.Work.TheVariants as work
use Rattle.materializer.specs.Seats.{place_room, gather_of}
use Rattle.lane_core.specs.Bodies.{AllOf}
use Rattle.island_body.specs.declared.body.Body.{Body}
use Rattle.island_body.specs.Keeping.{is_pending, BodyKeeps, NoneLateIn}
use Rattle.island_body.specs.Meeting.{BodiesJoined}
use Rattle.lane_core.specs.Crossings.{AtRest}
use Rattle.lane_core.specs.declared.crossing.Crossing.{Crossing}
use Rattle.stream_io.specs.State.{SourceState, DrainState}
use Rattle.stream_model.specs.Linear.{Book}
use Rattle.bodies_run.specs.Bodies.{net_in, net_of}
use Rattle.island_plans.specs.Rooms.{rooms_by}
use Rattle.island_plans.proofs.LaneRooms.{room_of_wire, rooms_many}

-- ---- rooms

-- the room of a sink is that of its place
work_room : {S D L H B : Type 0} (k room : ℕ) (w : Work S D L H B) (f : Sink D) → BecomesOf k room w (node.Writing f) → f.gather.room ≡ sink_room f.writes room
work_room k room (work.Writing shape (Some d)) f is = let same : f ≡ new_sink k (writes_of shape) room d = cc in subst (λ (x : Sink _). x.gather.room ≡ sink_room x.writes room) (sym same) refl
work_room k room (work.Writing shape None) f is = cc
work_room k room (work.Reading r) f is = cc
work_room k room (work.Making shape) f is = cc
work_room k room (work.Linear l) f is = cc
work_room k room (work.State l) f is = cc
work_room k room (work.Sub l) f is = cc
work_room k room (work.FanIn l n) f is = cc
work_room k room (work.FanOut l n) f is = cc
work_room k room (work.Custom l n m) f is = cc
work_room k room (work.LaneIn u) f is = cc
work_room k room (work.LaneOut u) f is = cc

first_room : {S D L H B : Type 0} (places : List (Seated S D L H B)) (firsts : List (IslandNode S D L H B)) (k : ℕ) (f : Sink D) → AllBecome places firsts → slice_get firsts k ≡ Some (node.Writing f)
    → (r : ℕ) × ((slice_get (map place_room places) k ≡ Some r) × (f.gather.room ≡ sink_room f.writes r))
first_room [] [] k f all at = cc
first_room [] (x ∷ xs) k f all at = absurd all
first_room (p ∷ ps) [] k f all at = absurd all
first_room (p ∷ ps) (x ∷ xs) zero f all at = let same : x ≡ node.Writing f = cc in (p.room, (refl, work_room p.node p.room p.work f (subst (λ (y : IslandNode _ _ _ _ _). BecomesOf p.node p.room p.work y) same all.0)))
first_room (p ∷ ps) (x ∷ xs) (suc k) f all at = first_room ps xs k f all.1 at

some_same : (x y : ℕ) → Some x ≡ Some y → x ≡ y
some_same x y e = cc

pub rooms_are : {S D L H B : Type 0} (places : List (Seated S D L H B)) (firsts : List (IslandNode S D L H B)) (many : ℕ) (ws : List Edge) → AllBecome places firsts → map place_room places ≡ rooms_by many ws
    → (k u : ℕ) (v : Edge) (f : Sink D) → slice_get firsts k ≡ Some (node.Writing f) → slice_get ws u ≡ Some v → v.to ≡ k → ((j : ℕ) (x : Edge) → slice_get ws j ≡ Some x → x.to ≡ k → j ≡ u) → f.gather.room ≡ sink_room f.writes (gather_of v.lane)
rooms_are places firsts many ws all rooms k u v f at wire to one =
    let r = first_room places firsts k f all at in
    let there : slice_get (rooms_by many ws) k ≡ Some r.0 = ap (λ (l : List ℕ). slice_get l k) (sym rooms) ∙ r.1.0 in
    let below : k < many = subst (λ (n : ℕ). k < n) (rooms_many many ws) (slice_get_within (rooms_by many ws) k r.0 there) in
    let same : r.0 ≡ gather_of v.lane = some_same r.0 (gather_of v.lane) (sym there ∙ room_of_wire many ws k u v below wire to one) in
    r.1.1 ∙ ap (sink_room f.writes) same

-- ---- lines that were put off

net_late : {S D L H B : Type 0} (o : Option (Body S D L H B)) → ((b : Body S D L H B) → o ≡ Some b → NoneLateIn b) → NoneLate (net_in o).nodes
net_late None each k x at = cc
net_late (Some b) each k x at = each b refl k x at

-- where no event is left none has put lines off
pub none_late_in : {S D L H B : Type 0} (sources : S → SourceState) (drains : D → DrainState) (book : Book) (now : List (Body S D L H B)) (lanes : List Crossing) → AllOf (BodyKeeps sources drains book) now → AtRest is_pending BodiesJoined now lanes
    → (h at : ℕ) (f : Sink D) → slice_get (net_of now h).nodes at ≡ Some (node.Writing f) → sink_late f ≡ 0
none_late_in sources drains book now lanes all rest h at f is = net_late (slice_get now h) (λ b there. (all h b there).calm (rest.rings h b there)) at (node.Writing f) is
