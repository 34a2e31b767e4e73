-- The seats that the nodes of a run leave were settled: each node kept the switch that it was handed.
use Rattle.std.specs.Prelude.{slice_get, Option, None, Some, ⊤}
use Rattle.std.proofs.lemmas.List.{length-map}
use Rattle.std.proofs.Common.{◌≡◌, ℕ, zero, suc, ◌+◌, List, [], ◌∷◌, length, map, refl, sym, ap, ◌∙◌, subst, arith}
use Rattle.elem_core.specs.declared.item.Item.{Item}
use Rattle.elem_core.specs.declared.why.Decider.{Decider}
use Rattle.stage_switch.specs.Public.{SwitchState, SeatState}
use Rattle.port_core.specs.View.{View}
use Rattle.stream_io.specs.State.{SourceState, DrainState}
use Rattle.stream_model.specs.Composed.{count_from}
use Rattle.stream_model.specs.Graph as graph
use Rattle.stream_model.specs.declared.kind.Kind.{Kind}
use Rattle.stream_model.specs.declared.kind.Kind.TheVariants as kind
use Rattle.stage_switch.specs.States.{Valve, Trip}
use Rattle.stage_switch.proofs.Nodes.{valve_tells}
use Rattle.stage_state.specs.declared.logic.StateLogic.{StateLogic}
use Rattle.stage_state.specs.declared.logic.StateLogic.TheVariants as state
use Rattle.stage_state.specs.Handling.{StateLaw}
use Rattle.stage_state.specs.Moves.{state_seat}
use Rattle.nodes.specs.Nodes.{node_law, node_seat}
use Rattle.nodes.specs.declared.node.IslandNode.{IslandNode}
use Rattle.nodes.specs.declared.node.IslandNode.TheVariants as node
use Rattle.interpreter.specs.Parts.{AllBecome, BecomesOf}
use Rattle.interpreter.specs.Seats.{with_seat, seats_of}
use Rattle.interpreter.specs.declared.parts.Seated.{Seated}
use Rattle.interpreter.specs.declared.parts.Work.{Work}
use Rattle.interpreter.specs.declared.parts.Work.TheVariants as work
use Rattle.run_laws.specs.Account.{Account}
use Rattle.run_laws.specs.Made.{FirstOf, LedAs}
use Rattle.run_laws.specs.Runs.{IsRun}
use Rattle.run_laws.specs.Telling.{seat_at, AreSettled}
use Rattle.stream_model.specs.declared.blueprint.Blueprint.{Blueprint}
use Rattle.stream_model.specs.declared.blueprint.Node as blue
use Rattle.stream_model.specs.declared.blueprint.WireDecl.{WireDecl}
use Rattle.materializer.specs.Graphs.{graph_of, graph_node}
use Rattle.materializer.specs.Seats.{place_seat}
use Rattle.stage_switch.specs.Settling.{kinds_of, AllSettled}
use Rattle.materializer.specs.Board.{switch_of, switch_at, IsSeatAt, AreAtSwitches, numbered_from, seat_in}
use Rattle.materializer.specs.declared.switch_board.Board.{Board}
use Rattle.stream_model.specs.Linear.{Book}

-- ---- a node keeps the switch at which it has its seat

-- the one has a seat exactly where the other has, and at the same switch
abbrev pub SeatStays : Option SeatState → Option SeatState → Type 0
SeatStays None None = ⊤
SeatStays (Some s) (Some t) = t.switch ≡ s.switch
SeatStays _ _ = ⊥

valve_unused : (k : ℕ) (shape : Kind) (d : Decider) (x : Valve) → LedAs shape k d (state.Obeying x) → x.seat.switch ≡ x.switch
valve_unused k (kind.Valve name) d x b = b.0.0
valve_unused k shape d x b = absurd b

trip_unused : (k : ℕ) (shape : Kind) (d : Decider) (x : Trip) → LedAs shape k d (state.Tripping x) → x.seat.switch ≡ x.switch
trip_unused k (kind.TripShutdown name n) d x b = b.1.0.0
trip_unused k (kind.TripAbort name n) d x b = b.1.0.0
trip_unused k shape d x b = absurd b

state_stays : (k : ℕ) (shape : Kind) (d : Decider) (first now : StateLogic) (v : View) (took gave : List (List Item)) → LedAs shape k d first → StateLaw first now v took gave → SeatStays (state_seat first) (state_seat now)
state_stays k shape d (state.Machine f) (state.Machine x) v took gave b law = tt
state_stays k shape d (state.Dropping f) (state.Dropping x) v took gave b law = tt
state_stays k shape d (state.Recovering f) (state.Recovering x) v took gave b law = tt
state_stays k shape d (state.Obeying f) (state.Obeying x) v took gave b law = (valve_tells [] f x v took gave law).0 ∙ sym (valve_unused k shape d f b)
state_stays k shape d (state.Tripping f) (state.Tripping x) v took gave b law = law.trip.one ∙ law.switch ∙ sym (trip_unused k shape d f b)
state_stays k shape d first now v took gave b law = absurd law

node_stays : {S D L H B : Type 0} (sources : S → SourceState) (drains : D → DrainState) (book : Book) (chains : List graph.Chain) (k : ℕ) (n : graph.Node) (first now : IslandNode S D L H B) (v : View) (took gave : List (List Item)) → FirstOf sources chains k n first → node_law sources drains book first now v took gave → SeatStays (node_seat first) (node_seat now)
node_stays sources drains book chains k n (node.Reading f) (node.Reading x) v took gave made law = tt
node_stays sources drains book chains k n (node.Making f) (node.Making x) v took gave made law = tt
node_stays sources drains book chains k n (node.Linear f) (node.Linear x) v took gave made law = tt
node_stays sources drains book chains k n (node.State f) (node.State x) v took gave made law = state_stays k n.kind n.decider f x v took gave made.begins.as_kind law
node_stays sources drains book chains k n (node.Sub f) (node.Sub x) v took gave made law = tt
node_stays sources drains book chains k n (node.FanIn f) (node.FanIn x) v took gave made law = tt
node_stays sources drains book chains k n (node.FanOut f) (node.FanOut x) v took gave made law = tt
node_stays sources drains book chains k n (node.Custom f) (node.Custom x) v took gave made law = tt
node_stays sources drains book chains k n (node.Writing f) (node.Writing x) v took gave made law = tt
node_stays sources drains book chains k n (node.Ignoring f) (node.Ignoring x) v took gave made law = tt
node_stays sources drains book chains k n (node.Entering f) x v took gave made law = absurd made
node_stays sources drains book chains k n (node.Leaving f) x v took gave made law = absurd made
node_stays sources drains book chains k n first now v took gave made law = absurd law

-- the node that stands at a place has the seat that was handed in for it
work_seat : {S D L H B : Type 0} (k room : ℕ) (w : Work S D L H B) (x : IslandNode S D L H B) → BecomesOf k room w x → place_seat (record { node = k; room = room; work = w }) ≡ node_seat x
work_seat k room (work.Reading r) x is = sym (ap node_seat is)
work_seat k room (work.Making shape) x is = sym (ap node_seat is)
work_seat k room (work.Linear l) x is = sym (ap node_seat is)
work_seat k room (work.State l) x is = sym (ap node_seat is)
work_seat k room (work.Sub l) x is = sym (ap node_seat is)
work_seat k room (work.FanIn l n) x is = sym (ap node_seat is)
work_seat k room (work.FanOut l n) x is = sym (ap node_seat is)
work_seat k room (work.Custom l n m) x is = sym (ap node_seat is)
work_seat k room (work.Writing shape (Some d)) x is = sym (ap node_seat is)
work_seat k room (work.Writing shape None) x is = sym (ap node_seat is)
work_seat k room (work.LaneIn u) x is = sym (ap node_seat is)
work_seat k room (work.LaneOut u) x is = sym (ap node_seat is)

places_seats : {S D L H B : Type 0} (places : List (Seated S D L H B)) (firsts : List (IslandNode S D L H B)) → AllBecome places firsts → map place_seat places ≡ map node_seat firsts
places_seats [] [] all = refl
places_seats [] (x ∷ xs) all = absurd all
places_seats (p ∷ ps) [] all = absurd all
places_seats (p ∷ ps) (x ∷ xs) all = let one = work_seat p.node p.room p.work x all.0 in let rest = places_seats ps xs all.1 in cc

-- ---- so all stay at their switches

at_switch : (name : Option (List ℕ)) (at : Option SwitchState) (s t : Option SeatState) → SeatStays s t → IsSeatAt name at s → IsSeatAt name at t
at_switch None at None None stays h = refl
at_switch None at (Some s) t stays h = absurd cc
at_switch None at None (Some t) stays h = absurd stays
at_switch (Some name) at None t stays h = let e = h.1.0 in absurd cc
at_switch (Some name) at (Some s) None stays h = absurd stays
at_switch (Some name) at (Some s) (Some t) stays h =
    let same : s ≡ h.0 = let e = h.1.0 in cc in
    (t, (refl, h.1.1 ∙ ap (λ (x : SwitchState). Some x) (ap (λ (x : SeatState). x.switch) (sym same) ∙ sym stays)))

mapped_there : {A B : Type 0} (f : A → B) (xs : List A) (k : ℕ) (x : A) → slice_get xs k ≡ Some x → slice_get (map f xs) k ≡ Some (f x)
mapped_there f [] k x at = absurd cc
mapped_there f (y ∷ ys) zero x at = let e : y ≡ x = cc in ap (λ (z : _). Some (f z)) e
mapped_there f (y ∷ ys) (suc k) x at = mapped_there f ys k x at

mapped_from : {A B : Type 0} (f : A → B) (xs : List A) (k : ℕ) (y : B) → slice_get (map f xs) k ≡ Some y → (x : A) × ((slice_get xs k ≡ Some x) × (f x ≡ y))
mapped_from f [] k y at = absurd cc
mapped_from f (x ∷ xs) zero y at = (x, (refl, let e : f x ≡ y = cc in e))
mapped_from f (x ∷ xs) (suc k) y at = mapped_from f xs k y at

-- a list of the same length has something at the same place
beside : {A B : Type 0} (xs : List A) (ys : List B) (k : ℕ) (x : A) → length ys ≡ length xs → slice_get xs k ≡ Some x → (y : B) × (slice_get ys k ≡ Some y)
beside [] ys k x e at = absurd cc
beside (x ∷ xs) [] k z e at = absurd (omega (arith, e))
beside (x ∷ xs) (y ∷ ys) zero z e at = (y, refl)
beside (x ∷ xs) (y ∷ ys) (suc k) z e at = beside xs ys k z (omega (arith, e)) at

module _ {S D L H B : Type 0} (sources : S → SourceState) (drains : D → DrainState) (book : Book) (b : Blueprint) (board : Board) (places : List (Seated S D L H B)) (firsts last : List (IslandNode S D L H B)) (a : Account (IslandNode S D L H B))
    (become : AllBecome places firsts) (first_at : (k : ℕ) → a.firsts k ≡ slice_get firsts k) (node_at : (k : ℕ) → a.nodes k ≡ slice_get last k) (as_many : length last ≡ length firsts) (run : IsRun sources drains book (graph_of b) a)
    (at : AreAtSwitches (map (λ (n : blue.Node). n.kind) b.nodes.items) board (map place_seat places)) where
  kept_at : (k : ℕ) (shape : Kind) (s : Option SeatState) → slice_get (map (λ (n : blue.Node). n.kind) b.nodes.items) k ≡ Some shape → slice_get (map node_seat last) k ≡ Some s → IsSeatAt (switch_of shape) (switch_at board k) s
  kept_at k shape s kind_here seat_here =
      let n = mapped_from (λ (n : blue.Node). n.kind) b.nodes.items k shape kind_here in
      let x = mapped_from node_seat last k s seat_here in
      let f = beside last firsts k x.0 (sym as_many) x.1.0 in
      let there : slice_get (graph_of b).nodes k ≡ Some (graph_node b.wires.items n.0) = mapped_there (graph_node b.wires.items) b.nodes.items k n.0 n.1.0 in
      let keeps = run.keeps.each_node k (graph_node b.wires.items n.0) there in
      let stays = node_stays sources drains book (graph_of b).chains k (graph_node b.wires.items n.0) keeps.first keeps.now _ _ _ (run.made k (graph_node b.wires.items n.0) keeps.first there keeps.first_at) keeps.law_holds in
      let first_is : keeps.first ≡ f.0 = let e : Some keeps.first ≡ Some f.0 = sym keeps.first_at ∙ first_at k ∙ f.1 in cc in
      let now_is : keeps.now ≡ x.0 = let e : Some keeps.now ≡ Some x.0 = sym keeps.now_at ∙ node_at k ∙ x.1.0 in cc in
      let began : IsSeatAt (switch_of shape) (switch_at board k) (node_seat keeps.first) =
      at.each k shape (node_seat keeps.first) kind_here (ap (λ (xs : List (Option SeatState)). slice_get xs k) (places_seats places firsts become) ∙ mapped_there node_seat firsts k f.0 f.1 ∙ ap (λ (z : IslandNode S D L H B). Some (node_seat z)) (sym first_is)) in
      subst (IsSeatAt (switch_of shape) (switch_at board k)) (ap node_seat now_is ∙ x.1.1) (at_switch (switch_of shape) (switch_at board k) (node_seat keeps.first) (node_seat keeps.now) stays began)

  pub kept_seats : AreAtSwitches (map (λ (n : blue.Node). n.kind) b.nodes.items) board (map node_seat last)
  kept_seats = record {
    many = length-map last node_seat ∙ as_many ∙ sym (length-map firsts node_seat) ∙ ap length (sym (places_seats places firsts become)) ∙ at.many;
    each = kept_at;
  }

-- ---- what is left of them, by the numbers of their nodes

with_seat_in : (k : ℕ) (o : Option SeatState) (os : List (Option SeatState)) (rest : List (ℕ × SeatState)) → rest ≡ numbered_from (k + 1) os → with_seat k o rest ≡ numbered_from k (o ∷ os)
with_seat_in k None os rest e = e
with_seat_in k (Some s) os rest e = ap (λ (xs : List (ℕ × SeatState)). (k, s) ∷ xs) e

pub seats_numbered : {S D L H B : Type 0} (k : ℕ) (xs : List (IslandNode S D L H B)) → seats_of (count_from k (length xs)) xs ≡ numbered_from k (map node_seat xs)
seats_numbered k [] = refl
seats_numbered k (x ∷ xs) = with_seat_in k (node_seat x) (map node_seat xs) (seats_of (count_from (k + 1) (length xs)) xs) (seats_numbered (k + 1) xs)

seat_there : {S D L H B : Type 0} (xs : List (IslandNode S D L H B)) (k : ℕ) → seat_in (map node_seat xs) k ≡ seat_at (slice_get xs k)
seat_there [] k = refl
seat_there (x ∷ xs) zero = refl
seat_there (x ∷ xs) (suc k) = seat_there xs k

-- ---- so the seats of the run were settled

same_settled : (kinds others : List Kind) (f h : ℕ → Option SeatState) → kinds ≡ others → ((k : ℕ) → f k ≡ h k) → AllSettled kinds f → AllSettled others h
same_settled kinds others f h same each all = λ k shape name here at_name.
    let z = all k shape name (ap (λ (xs : List Kind). slice_get xs k) same ∙ here) at_name in
    let are = z.1.1.0 in (
      z.0,
      (
        z.1.0,
        (
          (record {
            all = λ i other at named. let s = are.all i other (ap (λ (xs : List Kind). slice_get xs i) same ∙ at) named in (s.0, (sym (each i) ∙ s.1.0, s.1.1));
            only = λ s among.
                let i = are.only s among in
                (i.0, (i.1.0, (ap (λ (xs : List Kind). slice_get xs i.0) (sym same) ∙ i.1.1.0, (i.1.1.1.0, sym (each i.0) ∙ i.1.1.1.1))));
          }),
          z.1.1.1,
        ),
      ),
    )

kinds_same : (ws : List WireDecl) (ns : List blue.Node) → map (λ (n : blue.Node). n.kind) ns ≡ map (λ (n : graph.Node). n.kind) (map (graph_node ws) ns)
kinds_same ws [] = refl
kinds_same ws (n ∷ ns) = ap (λ (ks : List Kind). n.kind ∷ ks) (kinds_same ws ns)

pub settled_run : {S D L H B : Type 0} (b : Blueprint) (last : List (IslandNode S D L H B)) (a : Account (IslandNode S D L H B)) → ((k : ℕ) → a.nodes k ≡ slice_get last k) → AllSettled (map (λ (n : blue.Node). n.kind) b.nodes.items) (seat_in (map node_seat last)) → AreSettled (graph_of b) a
settled_run b last a node_at all =
    same_settled (map (λ (n : blue.Node). n.kind) b.nodes.items) (kinds_of (graph_of b)) (seat_in (map node_seat last)) (λ (k : ℕ). seat_at (a.nodes k)) (kinds_same b.wires.items b.nodes.items) (λ (k : ℕ). seat_there last k ∙ ap seat_at (sym (node_at k))) all
