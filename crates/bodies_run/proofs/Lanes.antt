-- The lanes between bodies that went on.
use Rattle.std.specs.Prelude.{slice_get, Option, None}
use Rattle.std.proofs.Common.{◌≡◌, ℕ, ◌<◌, zero, suc, Bool, false, List, [], ◌∷◌, length, map, Some, refl, sym, ap, ◌∙◌, subst}
use Rattle.std.proofs.lemmas.Option.{slice_get_within}
use Rattle.stream_io.specs.State.{SourceState, DrainState}
use Rattle.stream_model.specs.Graph.{Graph, Edge}
use Rattle.port_core.specs.Cell.{WireState}
use Rattle.fused_net.specs.Net.{wire_at}
use Rattle.fused_net.proofs.Reading.{get_there}
use Rattle.interpreter.specs.declared.ways.LanePlace.{LanePlace}
use Rattle.interpreter.specs.Boundary.{Enters, Leaves, way_in, way_out, cell_in, cell_out}
use Rattle.interpreter.specs.Island.{Kept}
use Rattle.interpreter.specs.declared.parts.Seated.{Seated}
use Rattle.lane_core.specs.declared.room.Waits.{Waits}
use Rattle.lane_core.specs.Ends.{asked_in_all, in_size}
use Rattle.lane_core.specs.Boundary.{keeps_all}
use Rattle.bodies_run.specs.Ends.{out_end, in_end}
use Rattle.bodies_run.proofs.StandLanes.{lane_keeps, lane_quiet}
use Rattle.island_body.specs.Serving.{Serves, IsServed}
use Rattle.island_body.specs.declared.output.OutputBoundary.{OutputBoundary}
use Rattle.island_body.specs.Feeding.{Feeds, IsFed}
use Rattle.island_body.specs.declared.input.IslandInput.{IslandInput}
use Rattle.run_laws.specs.Account.{WireQuiet}
use Rattle.run_laws.specs.Ends.{LaneKeeps}
use Rattle.run_laws.specs.Seats.{LanesKeep, LanesRest}
use Rattle.bodies_run.specs.Islands.{seats_by_islands, AreSeated, HasWays}
use Rattle.bodies_run.proofs.Leading.{has_ways}
use Rattle.lane_core.specs.Bodies.{AllOf}
use Rattle.lane_core.specs.Crossings.{AllJoined, AtRest}
use Rattle.lane_core.specs.declared.crossing.Crossing.{Crossing}
use Rattle.island_body.specs.Ends.{InputEndStands, OutputEndStands}
use Rattle.island_body.specs.Keeping.{has_some, is_pending, BodyKeeps}
use Rattle.island_body.specs.Meeting.{BodiesJoined}
use Rattle.island_body.specs.declared.body.Body.{Body}
use Rattle.bodies_run.specs.Bodies.{net_in, net_of, ComesInto, GoesOutOf, IsCrossingOf, AreLanes, AskedAre}
use Rattle.bodies_run.proofs.Boundaries.{boundary_keeps}
use Rattle.bodies_run.proofs.Nets.{Went, Stood}
use Rattle.stream_model.specs.Linear.{Book}

-- ---- lists whose items agree

map_count : {A B : Type 0} (f : A → B) (xs ys : List A) → map f ys ≡ map f xs → length ys ≡ length xs
map_count f [] [] e = refl
map_count f [] (y ∷ ys) e = absurd cc
map_count f (x ∷ xs) [] e = absurd cc
map_count f (x ∷ xs) (y ∷ ys) e = let t : map f ys ≡ map f xs = cc in ap suc (map_count f xs ys t)

-- the one that stands at the place of another, of which f says the same
map_there : {A B : Type 0} (f : A → B) (xs ys : List A) (k : ℕ) (x : A) → map f ys ≡ map f xs → slice_get xs k ≡ Some x → (y : A) × ((slice_get ys k ≡ Some y) × (f y ≡ f x))
map_there f [] ys k x e at = absurd cc
map_there f (z ∷ xs) [] k x e at = absurd cc
map_there f (z ∷ xs) (y ∷ ys) zero x e at = let here : f y ≡ f z = cc in let same : z ≡ x = cc in (y, (refl, here ∙ ap f same))
map_there f (z ∷ xs) (y ∷ ys) (suc k) x e at = let t : map f ys ≡ map f xs = cc in map_there f xs ys k x t at

four : (P : ℕ → WireState → WireState → ℕ → Type 0) (s s' n n' : ℕ) (a a' b b' : WireState) → s ≡ s' → a ≡ a' → b ≡ b' → n ≡ n' → P s a b n → P s' a' b' n'
four P s s' n n' a a' b b' e f g h p = subst (λ (x : ℕ). P x a' b' n') e (subst (λ (x : WireState). P s x b' n') f (subst (λ (x : WireState). P s a x n') g (subst (λ (x : ℕ). P s a b x) h p)))

module _ {S D L H B : Type 0} where
  there_after : (xs ys : List (Body S D L H B)) (k : ℕ) (x : Body S D L H B) → length ys ≡ length xs → slice_get xs k ≡ Some x → (y : Body S D L H B) × (slice_get ys k ≡ Some y)
  there_after xs ys k x e at = get_there ys k (subst (λ (n : ℕ). k < n) (sym e) (slice_get_within xs k x at))

  ins_way : (i j : Kept S D L H B) (u : ℕ) → j.ins ≡ i.ins → way_in j u ≡ way_in i u
  ins_way i j u e = ap (λ (l : List LanePlace). way_in (record i { ins = l }) u) e

  outs_way : (i j : Kept S D L H B) (u : ℕ) → j.outs ≡ i.outs → way_out j u ≡ way_out i u
  outs_way i j u e = ap (λ (l : List LanePlace). way_out (record i { outs = l }) u) e

  -- ---- the crossings, once the bodies went on

  module _ (homes : List ℕ) (ws : List Edge) (begun now : List (Body S D L H B)) (many : length now ≡ length begun) (goes : (k : ℕ) (a b : Body S D L H B) → slice_get begun k ≡ Some a → slice_get now k ≡ Some b → Went a b) where
    crossing_on : (u : ℕ) (v : Edge) (size : ℕ) (c : Crossing) → IsCrossingOf homes ws begun u v size c → IsCrossingOf homes ws now u v size c
    crossing_on u v size c x =
        let a = there_after begun now c.from x.from many x.from_at in
        let b = there_after begun now c.to x.to many x.to_at in
        let f = goes c.from x.from a.0 x.from_at a.1 in
        let t = goes c.to x.to b.0 x.to_at b.1 in
        let o = map_there (λ (y : OutputBoundary). y.wire) x.from.outs.items a.0.outs.items c.out x.out f.lanes.outs_wires x.out_at in
        let i = map_there (λ (y : IslandInput). y.wire) x.to.ins.items b.0.ins.items c.inp x.inp t.lanes.ins_wires x.inp_at in
        record {
          from_is = x.from_is;
          to_is = x.to_is;
          from = a.0;
          to = b.0;
          from_at = a.1;
          to_at = b.1;
          out = o.0;
          inp = i.0;
          out_at = o.1.0;
          inp_at = i.1.0;
          out_wire = o.1.1 ∙ x.out_wire;
          inp_wire = i.1.1 ∙ x.inp_wire;
          size_is = (t.lanes.ins_same c.inp x.inp i.0 x.inp_at i.1.0).1 ∙ x.size_is;
          keep_is = (t.lanes.ins_same c.inp x.inp i.0 x.inp_at i.1.0).2 ∙ x.keep_is;
          near_is = x.near_is ∙ sym (outs_way x.from.island a.0.island u f.island.outs);
          far_is = x.far_is ∙ sym (ins_way x.to.island b.0.island u t.island.ins);
        }

    pub lanes_on : (crossings : List Crossing) → AreLanes homes ws begun crossings → AreLanes homes ws now crossings
    lanes_on crossings l = record {
      each = λ u v size e s. let x = l.each u v size e s in (x.0, (x.1.0, (x.1.1.0, crossing_on u v size x.1.0 x.1.1.1)));
      ins_are = λ k j b x at here.
          let a = there_after now begun k b (sym many) at in
          let i = map_there (λ (y : IslandInput). y.wire) b.ins.items a.0.ins.items j x (sym (goes k a.0 b a.1 at).lanes.ins_wires) here in
          subst (λ (u : ℕ). ComesInto homes ws k u) i.1.1 (l.ins_are k j a.0 i.0 a.1 i.1.0);
      outs_are = λ k j b x at here.
          let a = there_after now begun k b (sym many) at in
          let i = map_there (λ (y : OutputBoundary). y.wire) b.outs.items a.0.outs.items j x (sym (goes k a.0 b a.1 at).lanes.outs_wires) here in
          subst (λ (u : ℕ). GoesOutOf homes ws k u) i.1.1 (l.outs_are k j a.0 i.0 a.1 i.1.0);
    }

  -- ---- one lane

  module _ (sources : S → SourceState) (drains : D → DrainState) (book : Book) (homes : List ℕ) (count : ℕ) (ws : List Edge) (nodes : List (Seated S D L H B)) (seated : AreSeated homes count ws nodes) (now : List (Body S D L H B)) (stood : (k : ℕ) (b : Body S D L H B) → slice_get now k ≡ Some b → Stood sources drains book b)
      (u : ℕ) (v : Edge) (size : ℕ) (e : slice_get ws u ≡ Some v) (s : v.lane ≡ Some size) (c : Crossing) (x : IsCrossingOf homes ws now u v size c) where
    abbrev near_here : WireState
    near_here = wire_at (net_of now ((seats_by_islands homes ws).near u).island) ((seats_by_islands homes ws).near u).at

    abbrev far_here : WireState
    far_here = wire_at (net_of now ((seats_by_islands homes ws).far u).island) ((seats_by_islands homes ws).far u).at

    ways : HasWays homes ws nodes u v
    ways = has_ways homes count ws nodes seated u v size e s

    near_island : ((seats_by_islands homes ws).near u).island ≡ c.from
    near_island = ways.out_island ∙ sym x.from_is

    far_island : ((seats_by_islands homes ws).far u).island ≡ c.to
    far_island = ways.in_island ∙ sym x.to_is

    near_cell : cell_out x.from.island u ≡ near_here
    near_cell = sym (ap (λ (k : ℕ). wire_at (net_of now k) ((seats_by_islands homes ws).near u).at) near_island ∙ (ap (λ (o : Option (Body S D L H B)). wire_at (net_in o) ((seats_by_islands homes ws).near u).at) x.from_at ∙ ap (λ (q : ℕ). wire_at x.from.island.net q) x.near_is))

    far_cell : cell_in x.to.island u ≡ far_here
    far_cell = sym (ap (λ (k : ℕ). wire_at (net_of now k) ((seats_by_islands homes ws).far u).at) far_island ∙ (ap (λ (o : Option (Body S D L H B)). wire_at (net_in o) ((seats_by_islands homes ws).far u).at) x.to_at ∙ ap (λ (q : ℕ). wire_at x.to.island.net q) x.far_is))

    out_stands : OutputEndStands x.from.island x.out
    out_stands = (stood c.from x.from x.from_at).stand.outs_stand c.out x.out x.out_at

    in_stands : InputEndStands x.to.island x.inp
    in_stands = (stood c.to x.to x.to_at).stand.ins_stand c.inp x.inp x.inp_at

    module _ (w : Waits) (joined : BodiesJoined x.from c.out x.to c.inp w) where
      abbrev Kept_by : Bool → ℕ → WireState → WireState → ℕ → Type 0
      Kept_by keep z near far n = (k : LaneKeeps keep z near far n) × ((k.out ≡ out_end x.out.lane) × (k.inp ≡ in_end x.inp.boundary.lane))

      kept_there : Kept_by (keeps_all x.inp.boundary) (in_size x.inp.boundary.lane) (cell_out x.from.island u) (cell_in x.to.island u) (asked_in_all x.inp.boundary.lane)
      kept_there =
          lane_keeps sources drains book x.out.lane x.inp.boundary x.from.island x.to.island u (stood c.from x.from x.from_at).settled (stood c.to x.to x.to_at).settled
          (subst (λ (q : ℕ). Leaves x.from.island q) x.out_wire out_stands.leaves) (subst (λ (q : ℕ). Enters x.to.island q) x.inp_wire in_stands.enters) (boundary_keeps x.inp.boundary) (joined.history x.out x.inp x.out_at x.inp_at)
          (subst (λ (q : ℕ). Serves x.out.lane x.from.island q) x.out_wire out_stands.serves) (subst (λ (q : ℕ). Feeds x.inp.boundary x.to.island q) x.inp_wire in_stands.feeds)

      pub kept_here : (n : ℕ) → n ≡ asked_in_all x.inp.boundary.lane → Kept_by v.keep size near_here far_here n
      kept_here n is = subst (λ (z : Bool). Kept_by z size near_here far_here n) x.keep_is (four (Kept_by (keeps_all x.inp.boundary)) (in_size x.inp.boundary.lane) size (asked_in_all x.inp.boundary.lane) n (cell_out x.from.island u) near_here (cell_in x.to.island u) far_here x.size_is near_cell far_cell (sym is) kept_there)

      abbrev Quiet_by : Bool → ℕ → WireState → WireState → ℕ → Type 0
      Quiet_by keep z near far n = WireQuiet keep (Some z) near far n

      pub quiet_here : AllOf (BodyKeeps sources drains book) now → x.from.island.net.queue ≡ [] → x.to.island.net.queue ≡ [] → w.item ≡ false → w.demand ≡ false → (n : ℕ) → n ≡ asked_in_all x.inp.boundary.lane → Quiet_by v.keep size near_here far_here n
      quiet_here keep none none' item demand n is =
          let from = (keep c.from x.from x.from_at).served.outs_served c.out x.out (slice_get_within x.from.outs.items c.out x.out x.out_at) x.out_at tt in
          let to = (keep c.to x.to x.to_at).served.ins_fed c.inp x.inp (slice_get_within x.to.ins.items c.inp x.inp x.inp_at) x.inp_at tt in
          let quiet = lane_quiet sources drains book x.out.lane x.inp.boundary x.from.island x.to.island u (stood c.from x.from x.from_at).settled (stood c.to x.to x.to_at).settled
          (subst (λ (q : ℕ). Leaves x.from.island q) x.out_wire out_stands.leaves) (subst (λ (q : ℕ). Enters x.to.island q) x.inp_wire in_stands.enters) (boundary_keeps x.inp.boundary) (joined.history x.out x.inp x.out_at x.inp_at)
          (subst (λ (q : ℕ). Serves x.out.lane x.from.island q) x.out_wire out_stands.serves) (subst (λ (q : ℕ). Feeds x.inp.boundary x.to.island q) x.inp_wire in_stands.feeds)
          none none' (subst (λ (q : ℕ). IsServed x.out.lane x.from.island q) x.out_wire from) (subst (λ (q : ℕ). IsFed x.inp.boundary x.to.island q) x.inp_wire to)
          w (joined.waits_are x.out x.inp x.out_at x.inp_at) item demand kept_there.0 kept_there.1.0 kept_there.1.1 in
          subst (λ (z : Bool). Quiet_by z size near_here far_here n) x.keep_is (four (Quiet_by (keeps_all x.inp.boundary)) (in_size x.inp.boundary.lane) size (asked_in_all x.inp.boundary.lane) n (cell_out x.from.island u) near_here (cell_in x.to.island u) far_here x.size_is near_cell far_cell (sym is) (kept_there.0, quiet))

  -- nothing is pending
  no_queue : (b : Body S D L H B) → is_pending b ≡ false → b.island.net.queue ≡ []
  no_queue b e = by b.island.net.queue e
    where
      by : (q : List ℕ) → has_some q ≡ false → q ≡ []
      by [] e = refl
      by (w ∷ ws) e = absurd cc

  -- ---- all lanes

  module _ (sources : S → SourceState) (drains : D → DrainState) (book : Book) (g : Graph) (homes : List ℕ) (count : ℕ) (ws : List Edge) (nodes : List (Seated S D L H B)) (seated : AreSeated homes count ws nodes) (same : g.wires ≡ ws) (now : List (Body S D L H B)) (stood : (k : ℕ) (b : Body S D L H B) → slice_get now k ≡ Some b → Stood sources drains book b)
      (crossings : List Crossing) (l : AreLanes homes ws now crossings) (all : ℕ → ℕ) (asked_are : AskedAre now crossings all) where
    here : (u : ℕ) (v : Edge) → slice_get g.wires u ≡ Some v → slice_get ws u ≡ Some v
    here u v e = subst (λ (l : List Edge). slice_get l u ≡ Some v) same e

    pub asked_here : (n u : ℕ) (v : Edge) (size : ℕ) (c : Crossing) (x : IsCrossingOf homes ws now u v size c) → slice_get crossings n ≡ Some c → all u ≡ asked_in_all x.inp.boundary.lane
    asked_here n u v size c x at = ap all (sym x.inp_wire) ∙ asked_are n c x.to x.inp at x.to_at x.inp_at

    pub lanes_keep : AllJoined BodiesJoined now crossings → LanesKeep g (net_of now) (seats_by_islands homes ws) all
    lanes_keep joined = λ u v size e s.
        let x = l.each u v size (here u v e) s in
        let w = joined x.0 x.1.0 x.1.1.0 in
        (kept_here sources drains book homes count ws nodes seated now stood u v size (here u v e) s x.1.0 x.1.1.1 w.0 (w.1 x.1.1.1.from x.1.1.1.to x.1.1.1.from_at x.1.1.1.to_at) (all u) (asked_here x.0 u v size x.1.0 x.1.1.1 x.1.1.0)).0

    pub lanes_rest : AllOf (BodyKeeps sources drains book) now → AtRest is_pending BodiesJoined now crossings → LanesRest g (net_of now) (seats_by_islands homes ws) all
    lanes_rest keep rest = λ u v size e s.
        let x = l.each u v size (here u v e) s in
        let y = x.1.1.1 in
        let w = rest.nothing_waits x.0 x.1.0 x.1.1.0 in
        quiet_here sources drains book homes count ws nodes seated now stood u v size (here u v e) s x.1.0 y w.0 (w.1 y.from y.to y.from_at y.to_at) keep
        (no_queue y.from (rest.rings x.1.0.from y.from y.from_at)) (no_queue y.to (rest.rings x.1.0.to y.to y.to_at)) w.2 w.3 (all u) (asked_here x.0 u v size x.1.0 y x.1.1.0)

  pub no_queues : (now : List (Body S D L H B)) → ((k : ℕ) (b : Body S D L H B) → slice_get now k ≡ Some b → is_pending b ≡ false) → (k : ℕ) → (net_of now k).queue ≡ []
  no_queues now none k = by (slice_get now k) (λ b at. no_queue b (none k b at))
    where
      by : (o : Option (Body S D L H B)) → ((b : Body S D L H B) → o ≡ Some b → b.island.net.queue ≡ []) → (net_in o).queue ≡ []
      by None h = refl
      by (Some b) h = h b refl
