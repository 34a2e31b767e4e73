-- The orders of a run's kill switches: what the law of each node tells of its seat, and so, where the seats were settled, that all
-- valves of a switch with moves show one order, that of a trip which took its element.
use Rattle.std.specs.Prelude.{slice_get, slice_index_or, Option}
use Rattle.std.proofs.Common.{◌≡◌, ℕ, ◌≤◌, List, [], ◌∷◌, length, None, Some, true, refl, sym, ap, subst, ◌∙◌, arith}
use Rattle.elem_core.proofs.Prefixes.{prefix_length}
use Rattle.elem_core.specs.Items.{elements}
use Rattle.elem_core.specs.declared.item.Item.{Item}
use Rattle.port_core.specs.Picks.{plan_of}
use Rattle.stage_switch.specs.Public.{SeatState, SwitchState}
use Rattle.stage_switch.specs.States.{SeatBy}
use Rattle.port_core.specs.View.{View}
use Rattle.stream_io.specs.State.{SourceState, DrainState}
use Rattle.stream_model.specs.Composed.{IsRanked}
use Rattle.stream_model.specs.declared.kind.Kind.{Kind}
use Rattle.stream_model.specs.declared.kind.Kind.TheVariants as kind
use Rattle.stream_model.specs.Fits.{CanTrip, moves_fit, inputs, valve_order}
use Rattle.stream_model.specs.Graph.{Graph}
use Rattle.stream_model.specs.Graph as graph
use Rattle.stream_model.specs.Node.{World, head_of}
use Rattle.stream_model.specs.Outlook.{Outlook}
use Rattle.stage_switch.specs.Handling.{trip_kind}
use Rattle.stage_state.specs.declared.logic.StateLogic.{StateLogic}
use Rattle.stage_state.specs.declared.logic.StateLogic.TheVariants.{Machine, Dropping, Recovering, Obeying, Tripping}
use Rattle.stage_state.specs.Handling.{StateLaw}
use Rattle.stage_state.specs.Moves.{state_seat, state_plan}
use Rattle.nodes.specs.declared.node.IslandNode.{IslandNode}
use Rattle.nodes.specs.declared.node.IslandNode.TheVariants.{Reading, Making, Linear, State, Sub, FanIn, FanOut, Custom, Writing, Ignoring, Entering, Leaving}
use Rattle.nodes.specs.Nodes.{node_law, node_plan, node_seat}
use Rattle.run_laws.specs.Account.{Account, knows, took, gave}
use Rattle.run_laws.specs.Items.{AllMayPass}
use Rattle.run_laws.specs.KindLaws.{HearsAll}
use Rattle.run_laws.proofs.Coming.{elements_told}
use Rattle.run_laws.specs.Made.{FirstState, FirstOf}
use Rattle.run_laws.specs.Replayed.{Plans, FitsBy}
use Rattle.run_laws.specs.Runs.{IsRun}
use Rattle.run_laws.specs.Telling.{AreSettled, FollowsPlans, TellsMoves, TellsPicks, WorldTells, seat_at}
use Rattle.run_laws.proofs.OutlookAgreeing.{every_input_of}
use Rattle.run_laws.proofs.Hearing.{node_hears}
use Rattle.run_laws.proofs.States.{Told, led_trip}
use Rattle.run_laws.proofs.StateSwitches.{valve_first, trip_first}
use Rattle.stage_switch.specs.Settling.{SeatTold, OneOrderShown}
use Rattle.stage_switch.proofs.Nodes.{trip_tells}
use Rattle.stage_switch.proofs.Shown as shown_by
use Rattle.run_laws.proofs.Telling.{agrees_part}
use Rattle.stream_model.specs.Linear.{Book}

-- ---- what a node's law tells of its seat

no_seat : (s : SeatState) → ◌≡◌ {A = Option SeatState} None (Some s) → ⊥
no_seat s e = cc

some_same : (r s : SeatState) → Some r ≡ Some s → r ≡ s
some_same r s e = cc

-- the moves of a node that follows none; and no moves of one that follows some: its seat tells of none
abbrev pub free_moves : Option (List ℕ) → List ℕ → List ℕ
free_moves None moves = moves
free_moves (Some plan) moves = []

-- the world in which stages that follow moves made none
abbrev pub freed : Plans → World → World
freed plans w = record w { moves = λ k. free_moves (plans k) (w.moves k) }

-- the seat of a valve, by what it follows
valve_told : (name : List ℕ) (count : ℕ) (left : Option (List ℕ)) (switch : SwitchState) (seat : SeatState) (moves : List ℕ) → SeatBy left switch seat moves → SeatTold (kind.Valve name) (free_moves (plan_of moves left) moves) count seat
valve_told name count None switch seat moves h = record { gave = h.gave; knows = h.knows; formed = h.formed }
valve_told name count (Some left) switch seat moves h = record { gave = h.0.gave; knows = h.0.knows; formed = h.0.formed }

module _ (w : World) (k : ℕ) (n : graph.Node) (plan : Option (List ℕ)) (v : View) (took gave : List (List Item)) where
  -- so many elements it took at its first input
  abbrev Count : ℕ
  Count = elements (slice_index_or took 0 [])

  state_told : (first now : StateLogic) → FirstState k n first → plan ≡ state_plan first → Told w k now → StateLaw first now v took gave → (s : SeatState) → state_seat now ≡ Some s → SeatTold n.kind (free_moves plan (w.moves k)) Count s
  state_told first (Machine now) made follows told law s at = absurd (no_seat s at)
  state_told first (Dropping now) made follows told law s at = absurd (no_seat s at)
  state_told first (Recovering now) made follows told law s at = absurd (no_seat s at)
  state_told (Obeying first) (Obeying now) made follows told law s at =
      let f = valve_first k n.kind n.decider first made.begins.as_kind in
      let own = valve_told f.name Count now.left now.switch now.seat now.moves law.valve in
      let seat : SeatTold (kind.Valve f.name) (free_moves plan now.moves) Count now.seat = subst (λ (p : Option (List ℕ)). SeatTold (kind.Valve f.name) (free_moves p now.moves) Count now.seat) (law.plan ∙ sym follows) own in
      let moves : SeatTold (kind.Valve f.name) (free_moves plan (w.moves k)) Count now.seat = subst (λ (ms : List ℕ). SeatTold (kind.Valve f.name) (free_moves plan ms) Count now.seat) (sym (told now.moves refl)) seat in
      let here : SeatTold n.kind (free_moves plan (w.moves k)) Count now.seat = subst (λ (kd : Kind). SeatTold kd (free_moves plan (w.moves k)) Count now.seat) (sym f.kind_is) moves in
      subst (λ (r : SeatState). SeatTold n.kind (free_moves plan (w.moves k)) Count r) (some_same now.seat s at) here
  state_told (Tripping first) (Tripping now) made follows told law s at =
      let f = trip_first k n.kind n.decider first (led_trip n.kind k n.decider first made.begins.as_kind) in
      let seat : SeatTold (trip_kind first.order f.name first.count) (free_moves plan (w.moves k)) (elements law.took_list) now.seat = (trip_tells f.name (free_moves plan (w.moves k)) first now v took gave law).1 in
      let count : elements law.took_list ≡ Count = ap (λ (hs : List (List Item)). elements (slice_index_or hs 0 [])) (sym law.took_is) in
      let all : SeatTold (trip_kind first.order f.name first.count) (free_moves plan (w.moves k)) Count now.seat = subst (λ (m : ℕ). SeatTold (trip_kind first.order f.name first.count) (free_moves plan (w.moves k)) m now.seat) count seat in
      let here : SeatTold n.kind (free_moves plan (w.moves k)) Count now.seat = subst (λ (kd : Kind). SeatTold kd (free_moves plan (w.moves k)) Count now.seat) (sym f.kind_is) all in
      subst (λ (r : SeatState). SeatTold n.kind (free_moves plan (w.moves k)) Count r) (some_same now.seat s at) here
  state_told first now made follows told law s at = absurd law

  node_told : {S D L H B : Type 0} (sources : S → SourceState) (drains : D → DrainState) (book : Book) (chains : List graph.Chain) (first now : IslandNode S D L H B) → FirstOf sources chains k n first → plan ≡ node_plan first → TellsMoves w k now → node_law sources drains book first now v took gave
      → (s : SeatState) → node_seat now ≡ Some s → SeatTold n.kind (free_moves plan (w.moves k)) Count s
  node_told sources drains book chains first (Reading now) made follows told law s at = absurd (no_seat s at)
  node_told sources drains book chains first (Making now) made follows told law s at = absurd (no_seat s at)
  node_told sources drains book chains first (Linear now) made follows told law s at = absurd (no_seat s at)
  node_told sources drains book chains first (Sub now) made follows told law s at = absurd (no_seat s at)
  node_told sources drains book chains first (FanIn now) made follows told law s at = absurd (no_seat s at)
  node_told sources drains book chains first (FanOut now) made follows told law s at = absurd (no_seat s at)
  node_told sources drains book chains first (Custom now) made follows told law s at = absurd (no_seat s at)
  node_told sources drains book chains first (Writing now) made follows told law s at = absurd (no_seat s at)
  node_told sources drains book chains first (Ignoring now) made follows told law s at = absurd (no_seat s at)
  node_told sources drains book chains first (Entering now) made follows told law s at = absurd (no_seat s at)
  node_told sources drains book chains first (Leaving now) made follows told law s at = absurd (no_seat s at)
  node_told sources drains book chains (State first) (State now) made follows told law s at = state_told first now made follows told law s at
  node_told sources drains book chains first now made follows told law s at = absurd law

-- what was heard at the first input, of what may pass there
few_heard : (os : List Outlook) (hs : List (List Item)) (v : View) → AllMayPass os hs → HearsAll v hs → elements (slice_index_or hs 0 []) ≤ length (head_of os).list
few_heard os [] v a h = omega arith
few_heard [] (x ∷ hs) v a h = absurd a
few_heard (o ∷ os) (x ∷ hs) v a h =
    let t = h 0 x refl in
    let few = prefix_length (agrees_part o t.list t.end (a.0 t.list t.end t.is)) in
    let count : elements x ≡ length t.list = ap elements t.is ∙ elements_told t.list t.end in
    omega (arith, few, count)

module _ {S D L H B : Type 0} (g : Graph) (a : Account (IslandNode S D L H B)) where
  abbrev took_by : ℕ → Option graph.Node → ℕ
  took_by k None = 0
  took_by k (Some n) = elements (slice_index_or (took g a k n) 0 [])

  -- how many elements node k took at its first input
  abbrev pub took_at : ℕ → ℕ
  took_at k = took_by k (slice_get g.nodes k)

  pub took_there : (k : ℕ) (n : graph.Node) → slice_get g.nodes k ≡ Some n → took_at k ≡ elements (slice_index_or (took g a k n) 0 [])
  took_there k n e = ap (took_by k) e

module _ {S D L H B : Type 0} (sources : S → SourceState) (drains : D → DrainState) (g : Graph) (w : World) (a : Account (IslandNode S D L H B)) (run : IsRun sources drains w.book g a) where
  -- all valves of a switch with moves of their own choice show one order, that of a trip of the switch which took its element
  pub shown : (plans : Plans) → FollowsPlans plans a → TellsPicks w a → AreSettled g a → OneOrderShown g (freed plans w) (took_at g a)
  shown plans follows chose settled = shown_by.shown g (freed plans w) (took_at g a) (λ k. seat_at (a.nodes k)) told settled
    where
      told : (k : ℕ) (n : graph.Node) → slice_get g.nodes k ≡ Some n → (s : SeatState) → seat_at (a.nodes k) ≡ Some s → SeatTold n.kind (free_moves (plans k) (w.moves k)) (took_at g a k) s
      told k n e s at =
          let m = run.keeps.each_node k n e in
          let here : node_seat m.now ≡ Some s = sym (ap seat_at m.now_at) ∙ at in
          subst (λ (c : ℕ). SeatTold n.kind (free_moves (plans k) (w.moves k)) c s) (sym (took_there g a k n e))
          (node_told w k n (plans k) (knows g a k n) (took g a k n) (gave g a k n) sources drains w.book g.chains m.first m.now (run.made k n m.first e m.first_at) (follows k m.first m.first_at) (chose k m.now m.now_at) m.law_holds s here)

  -- no node took more elements than may come in there
  pub few_came : WorldTells sources g w a → (rank : ℕ → ℕ) → IsRanked g rank → (k : ℕ) (n : graph.Node) → slice_get g.nodes k ≡ Some n → took_at g a k ≤ length (head_of (inputs g w k n)).list
  few_came tells rank ranked k n e =
      let m = run.keeps.each_node k n e in
      let hears = node_hears sources drains w.book g.chains k n m.first m.now (knows g a k n) (took g a k n) (gave g a k n) (run.made k n m.first e m.first_at) m.law_holds in
      let few = few_heard (inputs g w k n) (took g a k n) (knows g a k n) (every_input_of sources drains g w a run tells rank ranked k n e) hears in
      let same = took_there g a k n e in
      omega (arith, few, same)

-- the moves of a node that follows none are those of the world
free_same : (plan : Option (List ℕ)) (moves : List ℕ) → plan ≡ None → free_moves plan moves ≡ moves
free_same plan moves e = ap (λ (p : Option (List ℕ)). free_moves p moves) e

order_freed : (k : Kind) (plan : Option (List ℕ)) (moves : List ℕ) (v : List ℕ × ℕ) → plan ≡ None → valve_order k moves ≡ Some v → valve_order k (free_moves plan moves) ≡ Some v
order_freed k plan moves v free h = ap (valve_order k) (free_same plan moves free) ∙ h

-- the order of a valve that follows no moves was given by a trip which took its element
pub given_there : (g : Graph) (w : World) (plans : Plans) (took : ℕ → ℕ) → OneOrderShown g (freed plans w) took → (node : ℕ) (n : graph.Node) (v : List ℕ × ℕ) → slice_get g.nodes node ≡ Some n → plans node ≡ None → valve_order n.kind (w.moves node) ≡ Some v
    → (trip : ℕ) × ((t : graph.Node) × ((slice_get g.nodes trip ≡ Some t) × CanTrip v.0 v.1 t.kind (took trip)))
given_there g w plans took s node n v at free h = s.given node n v at (order_freed n.kind (plans node) (w.moves node) v free h)

-- so all moves fit
pub all_fit_by : (g : Graph) (w : World) (plans : Plans) (took : ℕ → ℕ) → OneOrderShown g (freed plans w) took → ((node : ℕ) (n : graph.Node) → slice_get g.nodes node ≡ Some n → moves_fit g w node n.kind (inputs g w node n) ≡ true)
    → ((node : ℕ) (n : graph.Node) → slice_get g.nodes node ≡ Some n → took node ≤ length (head_of (inputs g w node n)).list) → FitsBy g w plans
all_fit_by g w plans took s each bound = record {
  each = each;
  given = λ node n v at free h. let t = given_there g w plans took s node n v at free h in (t.0, t.1.0, t.1.1.0, shown_by.can_still v.0 v.1 t.1.0.kind (took t.0) _ (bound t.0 t.1.0 t.1.1.0) t.1.1.1);
  one = λ node other n m v u at there free bare h k same. s.one node other n m v u at there (order_freed n.kind (plans node) (w.moves node) v free h) (order_freed m.kind (plans other) (w.moves other) u bare k) same;
}
