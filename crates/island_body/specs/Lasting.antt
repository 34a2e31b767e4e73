-- Lemmas of bodies that go on, that only meet, and that break off.
use Rattle.std.specs.Prelude.{◌≡◌, ℕ, suc, ◌<◌, Bool, List, [], ◌∷◌, Some, length, map, slice_get}
use Rattle.std.proofs.Common.{refl, sym, ap, ◌∙◌, subst, arith, inl, inr}
use Rattle.std.proofs.lemmas.Option.{slice_get_within}
use Rattle.stream_io.specs.State.{SourceState, DrainState}
use Rattle.fused_net.proofs.Reading.{get_there}
use Rattle.lane_core.specs.declared.room.Waits.{Waits}
use Rattle.lane_core.specs.declared.lane_out.LaneOut.{LaneOut}
use Rattle.lane_core.specs.declared.lane_in.LaneIn.{LaneIn}
use Rattle.elem_core.specs.Items.{elements}
use Rattle.lane_core.specs.Ends.{finds, taken_items}
use Rattle.lane_core.specs.Meeting.{KeepsOut, KeepsIn}
use Rattle.lane_core.proofs.Standing.{history_stands, waits_stand}
use Rattle.interpreter.specs.Island.{Kept}
use Rattle.island_body.specs.Sending.{Sends, has_end}
use Rattle.island_body.specs.Serving.{Serves, IsServed}
use Rattle.island_body.specs.declared.output.OutputBoundary.{OutputBoundary}
use Rattle.island_body.specs.Feeding.{Feeds, IsFed}
use Rattle.island_body.specs.declared.input.IslandInput.{IslandInput}
use Rattle.island_body.specs.Ends.{all_taken, all_finds, InputEndStands, OutputEndStands, AllStand, AllDone, IslandGoes}
use Rattle.island_body.specs.Keeping.{BodyStands, BodyKeeps, BodyGoes, BodyBreaks, SameLanes, IsIdle, is_pending}
use Rattle.island_body.specs.Meeting.{OutMet, InMet, OnlyMet, BodiesMayMeet, BodiesJoined, BodiesMeet}
use Rattle.island_body.specs.declared.body.Body.{Body}
use Rattle.stream_model.specs.Linear.{Book}

-- ---- lists whose items agree

some_is : {A : Type 0} (x y : A) → Some x ≡ Some y → x ≡ y
some_is x y e = cc

-- of as many items each agrees with that at its place
maps_same : {A B : Type 0} (f : A → B) (xs ys : List A) → length ys ≡ length xs → ((k : ℕ) (x y : A) → slice_get xs k ≡ Some x → slice_get ys k ≡ Some y
    → f y ≡ f x) → map f ys ≡ map f xs
maps_same f [] [] e h = refl
maps_same f [] (y ∷ ys) e h = absurd cc
maps_same f (x ∷ xs) [] e h = absurd cc
maps_same f (x ∷ xs) (y ∷ ys) e h =
    let rest : map f ys ≡ map f xs = (let fewer : length ys ≡ length xs = cc in maps_same f xs ys fewer (λ k a b ea eb. h (suc k) a b ea eb)) in
    let here : f y ≡ f x = h 0 x y refl refl in
    ap (λ (z : _). z ∷ map f ys) here ∙ ap (λ (l : List _). f x ∷ l) rest

taken_same : (xs ys : List IslandInput) → length ys ≡ length xs → ((k : ℕ) (x y : IslandInput) → slice_get xs k ≡ Some x → slice_get ys k ≡ Some y
    → taken_items y.boundary.lane ≡ taken_items x.boundary.lane) → all_taken ys ≡ all_taken xs
taken_same [] [] e h = refl
taken_same [] (y ∷ ys) e h = absurd cc
taken_same (x ∷ xs) [] e h = absurd cc
taken_same (x ∷ xs) (y ∷ ys) e h =
    let rest : all_taken ys ≡ all_taken xs = (let fewer : length ys ≡ length xs = cc in taken_same xs ys fewer (λ k a b ea eb. h (suc k) a b ea eb)) in
    let here : length (taken_items y.boundary.lane) ≡ length (taken_items x.boundary.lane) = ap length (h 0 x y refl refl) in
    omega (arith, rest, here)

finds_same : (xs ys : List OutputBoundary) → length ys ≡ length xs → ((k : ℕ) (x y : OutputBoundary) → slice_get xs k ≡ Some x → slice_get ys k ≡ Some y
    → finds y.lane ≡ finds x.lane) → all_finds ys ≡ all_finds xs
finds_same [] [] e h = refl
finds_same [] (y ∷ ys) e h = absurd cc
finds_same (x ∷ xs) [] e h = absurd cc
finds_same (x ∷ xs) (y ∷ ys) e h =
    let rest : all_finds ys ≡ all_finds xs = (let fewer : length ys ≡ length xs = cc in finds_same xs ys fewer (λ k a b ea eb. h (suc k) a b ea eb)) in
    let here : finds y.lane ≡ finds x.lane = h 0 x y refl refl in
    omega (arith, rest, here)

-- the one that stood at the place of another
there_before : {A : Type 0} (xs ys : List A) (k : ℕ) (y : A) → length ys ≡ length xs → slice_get ys k ≡ Some y → (x : A) × (slice_get xs k ≡ Some x)
there_before xs ys k y e at = get_there xs k (subst (λ (n : ℕ). k < n) e (slice_get_within ys k y at))

-- the item that stands at a place of a list behind a step that keeps its length
pub there_after : {A : Type 0} (xs ys : List A) (k : ℕ) (x : A) → length ys ≡ length xs → slice_get xs k ≡ Some x → (y : A) × (slice_get ys k ≡ Some y)
there_after xs ys k x e at = get_there ys k (subst (λ (n : ℕ). k < n) (sym e) (slice_get_within xs k x at))

-- two lists of which f gives the same have one length
pub map_count : {A B : Type 0} (f : A → B) (xs ys : List A) → map f ys ≡ map f xs → length ys ≡ length xs
map_count f [] [] e = refl
map_count f [] (y ∷ ys) e = absurd cc
map_count f (x ∷ xs) [] e = absurd cc
map_count f (x ∷ xs) (y ∷ ys) e = let t : map f ys ≡ map f xs = cc in ap suc (map_count f xs ys t)

lanes_on : (xs ys zs : List IslandInput) (os ps qs : List OutputBoundary) → SameLanes xs ys os ps → SameLanes ys zs ps qs → SameLanes xs zs os qs
lanes_on xs ys zs os ps qs k l = record {
  ins_wires = l.ins_wires ∙ k.ins_wires;
  outs_wires = l.outs_wires ∙ k.outs_wires;
  ins_same = λ n x z ex ez. let y = there_before ys zs n z (map_count (λ (w : IslandInput). w.wire) ys zs l.ins_wires) ez in let f = k.ins_same n x y.0 ex y.1
      in let g = l.ins_same n y.0 z y.1 ez in (g.0 ∙ f.0, g.1 ∙ f.1, g.2 ∙ f.2);
  outs_same = λ n x z ex ez. let y = there_before ps qs n z (map_count (λ (w : OutputBoundary). w.wire) ps qs l.outs_wires) ez
      in let f = k.outs_same n x y.0 ex y.1 in let g = l.outs_same n y.0 z y.1 ez in (g.0 ∙ f.0, g.1 ∙ f.1);
}

-- ---- ends that only meet

-- an output end that does nothing is kept as a meeting keeps it
pub out_kept : (o : LaneOut) → KeepsOut o o
out_kept o = record { same = (refl, refl); sent = refl; ended = refl; seen = refl; cancel = refl; finds = refl; looks = refl }

-- an input end that does nothing is kept as a meeting keeps it
pub in_kept : (i : LaneIn) → KeepsIn i i
in_kept i = record { same = (refl, refl); taken = refl; asked = refl; asks = refl; cancel = refl; looks = refl }

-- an output boundary that does nothing is one that only met
pub out_met_still : (o : OutputBoundary) → OutMet o o
out_met_still o = record { wire = refl; lane = out_kept o.lane }

-- an input boundary that does nothing is one that only met
pub in_met_still : (x : IslandInput) → InMet x x
in_met_still x = record { wire = refl; lane = in_kept x.boundary.lane; given_is = refl; waits_is = refl; over_is = refl; state_is = refl; keep_is = refl }

out_met_on : (o p q : OutputBoundary) → OutMet o p → OutMet p q → OutMet o q
out_met_on o p q f g = record {
  wire = g.wire ∙ f.wire;
  lane = record {
    same = (g.lane.same.0 ∙ f.lane.same.0, g.lane.same.1 ∙ f.lane.same.1);
    sent = g.lane.sent ∙ f.lane.sent;
    ended = g.lane.ended ∙ f.lane.ended;
    seen = g.lane.seen ∙ f.lane.seen;
    cancel = g.lane.cancel ∙ f.lane.cancel;
    finds = g.lane.finds ∙ f.lane.finds;
    looks = g.lane.looks ∙ f.lane.looks;
  };
}

in_met_on : (x y z : IslandInput) → InMet x y → InMet y z → InMet x z
in_met_on x y z f g = record {
  wire = g.wire ∙ f.wire;
  lane = record {
    same = (g.lane.same.0 ∙ f.lane.same.0, g.lane.same.1 ∙ f.lane.same.1);
    taken = g.lane.taken ∙ f.lane.taken;
    asked = g.lane.asked ∙ f.lane.asked;
    asks = g.lane.asks ∙ f.lane.asks;
    cancel = g.lane.cancel ∙ f.lane.cancel;
    looks = g.lane.looks ∙ f.lane.looks;
  };
  given_is = g.given_is ∙ f.given_is;
  waits_is = g.waits_is ∙ f.waits_is;
  over_is = g.over_is ∙ f.over_is;
  state_is = g.state_is ∙ f.state_is;
  keep_is = g.keep_is ∙ f.keep_is;
}

module _ {S D L H B : Type 0} where
  -- what stands at an end stands while it only meets
  feeds_met : (i : Kept S D L H B) (x y : IslandInput) → InMet x y → Feeds x.boundary i x.wire → Feeds y.boundary i y.wire
  feeds_met i x y m f = record {
    given_is = rw (m.wire, m.given_is) f.given_is;
    flowing = λ e. rw m.wire (f.flowing (sym m.state_is ∙ e));
    closed = λ e. rw m.wire (f.closed (sym m.state_is ∙ e));
    cancelled = λ e. rw m.wire (f.cancelled (sym m.state_is ∙ e));
  }

  in_stands_met : (i : Kept S D L H B) (x y : IslandInput) → InMet x y → InputEndStands i x → InputEndStands i y
  in_stands_met i x y m s = record { enters = rw m.wire s.enters; feeds = feeds_met i x y m s.feeds }

  fed_met : (i : Kept S D L H B) (x y : IslandInput) → InMet x y → IsFed x.boundary i x.wire → IsFed y.boundary i y.wire
  fed_met i x y m f = record {
    given_all = λ e. let g = f.given_all (rw m.wire at e) in rw (m.wire, m.given_is, m.lane.taken) g;
    no_end = λ e w. let g = f.no_end (sym m.state_is ∙ e) (sym m.waits_is ∙ w) in m.lane.taken ∙ g ∙ sym m.given_is;
    refused = λ e t. f.refused (rw m.wire at e) (sym m.state_is ∙ t);
  }

  sends_met : (i : Kept S D L H B) (o p : OutputBoundary) → OutMet o p → Sends o.lane i o.wire → Sends p.lane i p.wire
  sends_met i o p m s = record {
    gone = rw m.wire (λ x at. s.gone x at ∙ sym m.lane.sent);
    wants = rw (m.wire, m.lane.seen) s.wants;
    live = m.lane.cancel ∙ s.live;
    ended = m.lane.ended ∙ s.ended ∙ ap has_end (sym m.lane.sent);
  }

  serves_met : (i : Kept S D L H B) (o p : OutputBoundary) → OutMet o p → Serves o.lane i o.wire → Serves p.lane i p.wire
  serves_met i o p m s = record {
    part = rw (m.wire, m.lane.sent) s.part;
    wants = rw (m.wire, m.lane.seen) s.wants;
    live = λ e. sends_met i o p m (s.live (sym m.lane.cancel ∙ e));
    closed = λ e. rw m.wire (s.closed (sym m.lane.cancel ∙ e));
    left = λ e. m.lane.cancel ∙ s.left (rw m.wire at e);
  }

  out_stands_met : (i : Kept S D L H B) (o p : OutputBoundary) → OutMet o p → OutputEndStands i o → OutputEndStands i p
  out_stands_met i o p m s = record { leaves = rw m.wire s.leaves; serves = serves_met i o p m s.serves; only = rw m.wire s.only }

  served_met : (i : Kept S D L H B) (o p : OutputBoundary) → OutMet o p → IsServed o.lane i o.wire → IsServed p.lane i p.wire
  served_met i o p m s = record {
    sent_all = λ e. rw m.wire (s.sent_all (sym m.lane.cancel ∙ e));
    used = λ e f. elim (s.used (sym m.lane.cancel ∙ e) (rw m.wire at f)) [
      | inl l ↦ (let a = m.lane.seen in let b = ap elements m.lane.sent in inl (omega (arith, l, a, b)))
      | inr c ↦ inr (rw m.wire c)
    ];
  }

  -- ---- bodies that only meet

  -- a body that does nothing is one that only met
  pub only_still : (b : Body S D L H B) → OnlyMet b b
  only_still b = record {
    island = refl;
    ways = refl;
    spent = refl;
    peers = refl;
    outs_count = refl;
    ins_count = refl;
    outs_met = λ k o p eo ep. subst (λ (z : OutputBoundary). OutMet o z) (some_is o p (sym eo ∙ ep)) (out_met_still o);
    ins_met = λ k x y ex ey. subst (λ (z : IslandInput). InMet x z) (some_is x y (sym ex ∙ ey)) (in_met_still x);
  }

  -- a body that only met, and then only met again, only met
  pub only_on : (a b c : Body S D L H B) → OnlyMet a b → OnlyMet b c → OnlyMet a c
  only_on a b c f g = record {
    island = g.island ∙ f.island;
    ways = g.ways ∙ f.ways;
    spent = g.spent ∙ f.spent;
    peers = g.peers ∙ f.peers;
    outs_count = g.outs_count ∙ f.outs_count;
    ins_count = g.ins_count ∙ f.ins_count;
    outs_met = λ k o p eo ep. let m = get_there b.outs.items k (subst (λ (n : ℕ). k < n) (sym f.outs_count) (slice_get_within a.outs.items k o eo))
        in out_met_on o m.0 p (f.outs_met k o m.0 eo m.1) (g.outs_met k m.0 p m.1 ep);
    ins_met = λ k x y ex ey. let m = get_there b.ins.items k (subst (λ (n : ℕ). k < n) (sym f.ins_count) (slice_get_within a.ins.items k x ex))
        in in_met_on x m.0 y (f.ins_met k x m.0 ex m.1) (g.ins_met k m.0 y m.1 ey);
  }

  lanes_met : (a c : Body S D L H B) → OnlyMet a c → SameLanes a.ins.items c.ins.items a.outs.items c.outs.items
  lanes_met a c m = record {
    ins_wires = maps_same (λ (x : IslandInput). x.wire) a.ins.items c.ins.items m.ins_count (λ k x y ex ey. (m.ins_met k x y ex ey).wire);
    outs_wires = maps_same (λ (o : OutputBoundary). o.wire) a.outs.items c.outs.items m.outs_count (λ k x y ex ey. (m.outs_met k x y ex ey).wire);
    ins_same = λ k x y ex ey. let t = m.ins_met k x y ex ey in (t.lane.same.0, t.lane.same.1, t.keep_is);
    outs_same = λ k x y ex ey. (m.outs_met k x y ex ey).lane.same;
  }

  island_still : (i k : Kept S D L H B) → k ≡ i → IslandGoes i k
  island_still i k e = record {
    on = record {
      firsts = ap (λ (z : Kept S D L H B). z.net.firsts) e;
      ends = ap (λ (z : Kept S D L H B). z.net.ends) e;
      ports = ap (λ (z : Kept S D L H B). z.net.ports) e;
      nodes = ap (λ (z : Kept S D L H B). length z.net.nodes) e;
      wires = ap (λ (z : Kept S D L H B). length z.net.wires) e;
    };
    ins = ap (λ (z : Kept S D L H B). z.ins) e;
    outs = ap (λ (z : Kept S D L H B). z.outs) e;
    numbers = ap (λ (z : Kept S D L H B). z.numbers) e;
    places = ap (λ (z : Kept S D L H B). z.places) e;
  }

  -- a body that only met went on
  pub goes_met : (a c : Body S D L H B) → OnlyMet a c → BodyGoes a c
  goes_met a c m = record { island = island_still a.island c.island m.island; lanes = lanes_met a c m; ways = m.ways }

  stand_met : (a c : Body S D L H B) (i : Kept S D L H B) → OnlyMet a c → AllStand i a.ins.items a.outs.items → AllStand i c.ins.items c.outs.items
  stand_met a c i m s = record {
    ins_stand = λ k y e. let x = there_before a.ins.items c.ins.items k y m.ins_count e
        in in_stands_met i x.0 y (m.ins_met k x.0 y x.1 e) (s.ins_stand k x.0 x.1);
    outs_stand = λ k p e. let o = there_before a.outs.items c.outs.items k p m.outs_count e
        in out_stands_met i o.0 p (m.outs_met k o.0 p o.1 e) (s.outs_stand k o.0 o.1);
  }

  done_met : (a c : Body S D L H B) (i : Kept S D L H B) → OnlyMet a c → AllDone i a.ins.items a.outs.items → AllDone i c.ins.items c.outs.items
  done_met a c i m s = record {
    ins_fed = λ k y h e none. let x = there_before a.ins.items c.ins.items k y m.ins_count e
        in fed_met i x.0 y (m.ins_met k x.0 y x.1 e) (s.ins_fed k x.0 (subst (λ (n : ℕ). k < n) m.ins_count h) x.1 tt);
    outs_served = λ k p h e none. let o = there_before a.outs.items c.outs.items k p m.outs_count e
        in served_met i o.0 p (m.outs_met k o.0 p o.1 e) (s.outs_served k o.0 (subst (λ (n : ℕ). k < n) m.outs_count h) o.1 tt);
  }

  -- a body that only met keeps what a body keeps
  pub keeps_met : (sources : S → SourceState) (drains : D → DrainState) (book : Book) (a c : Body S D L H B) → OnlyMet a c → BodyKeeps sources drains book a
      → BodyKeeps sources drains book c
  keeps_met sources drains book a c m k =
      let lanes = lanes_met a c m in
      let taken_is : all_taken c.ins.items ≡ all_taken a.ins.items = taken_same a.ins.items c.ins.items m.ins_count
      (λ j x y ex ey. (m.ins_met j x y ex ey).lane.taken) in
      let finds_is : all_finds c.outs.items ≡ all_finds a.outs.items = finds_same a.outs.items c.outs.items m.outs_count
      (λ j x y ex ey. (m.outs_met j x y ex ey).lane.finds) in
      record {
        laws = rw m.island k.laws;
        stands = record {
          whole = rw m.island k.stands.whole;
          stand = rw m.island (stand_met a c a.island m k.stands.stand);
          apart = rw (m.island, lanes.ins_wires, lanes.outs_wires) k.stands.apart;
          table = rw (m.island, m.ways, lanes.ins_wires, lanes.outs_wires) k.stands.table;
        };
        served = rw m.island (done_met a c a.island m k.served);
        charged = rw (m.island, m.spent, taken_is, finds_is) k.charged;
        paid = rw (m.island, m.spent, taken_is, finds_is) k.paid;
        calm = rw m.island k.calm;
      }

  -- a body that only met has an event pending where it had one
  pub pending_met : (a b : Body S D L H B) → OnlyMet a b → is_pending b ≡ is_pending a
  pending_met a b m = ap (λ (i : Kept S D L H B). is_pending_in i) m.island
    where
      is_pending_in : Kept S D L H B → Bool
      is_pending_in i = Rattle.island_body.specs.Keeping.has_some i.net.queue

  -- ---- bodies that go on

  -- a body that does nothing went on
  pub goes_still : (b : Body S D L H B) → BodyGoes b b
  goes_still b = goes_met b b (only_still b)

  -- a body that went on, and then went on from there, went on
  pub goes_on : (a b c : Body S D L H B) → BodyGoes a b → BodyGoes b c → BodyGoes a c
  goes_on a b c f g = record {
    island = record {
      on = record {
        firsts = g.island.on.firsts ∙ f.island.on.firsts;
        ends = g.island.on.ends ∙ f.island.on.ends;
        ports = g.island.on.ports ∙ f.island.on.ports;
        nodes = g.island.on.nodes ∙ f.island.on.nodes;
        wires = g.island.on.wires ∙ f.island.on.wires;
      };
      ins = g.island.ins ∙ f.island.ins;
      outs = g.island.outs ∙ f.island.outs;
      numbers = g.island.numbers ∙ f.island.numbers;
      places = g.island.places ∙ f.island.places;
    };
    lanes = lanes_on a.ins.items b.ins.items c.ins.items a.outs.items b.outs.items c.outs.items f.lanes g.lanes;
    ways = g.ways ∙ f.ways;
  }

  -- two bodies that met both went on and only met, and their ends are joined
  pub meets_tells : (a b c d : Body S D L H B) (o i : ℕ) (w : Waits) → BodiesMeet a o b i c d w
      → (BodyGoes a c) × (OnlyMet a c) × (BodyGoes b d) × (OnlyMet b d) × (BodiesJoined c o d i w)
  meets_tells a b c d o i w m = (goes_met a c m.from_met, m.from_met, goes_met b d m.to_met, m.to_met, m.joined)

  -- what is known of two ends stands while they only meet
  pub joined_out : (a b c : Body S D L H B) (o i : ℕ) (w : Waits) → OnlyMet a c → BodiesJoined a o b i w → BodiesJoined c o b i w
  joined_out a b c o i w m j = record {
    history = λ p x ep ex. let q = there_before a.outs.items c.outs.items o p m.outs_count ep
        in history_stands q.0.lane p.lane x.boundary.lane x.boundary.lane (m.outs_met o q.0 p q.1 ep).lane (in_kept x.boundary.lane) (j.history q.0 x q.1 ex);
    waits_are = λ p x ep ex. let q = there_before a.outs.items c.outs.items o p m.outs_count ep
        in waits_stand q.0.lane p.lane x.boundary.lane x.boundary.lane w (m.outs_met o q.0 p q.1 ep).lane (in_kept x.boundary.lane) (j.waits_are q.0 x q.1 ex);
  }

  -- what is known of two ends stands while the body of the input end only meets
  pub joined_in : (a b d : Body S D L H B) (o i : ℕ) (w : Waits) → OnlyMet b d → BodiesJoined a o b i w → BodiesJoined a o d i w
  joined_in a b d o i w m j = record {
    history = λ p x ep ex. let y = there_before b.ins.items d.ins.items i x m.ins_count ex
        in history_stands p.lane p.lane y.0.boundary.lane x.boundary.lane (out_kept p.lane) (m.ins_met i y.0 x y.1 ex).lane (j.history p y.0 ep y.1);
    waits_are = λ p x ep ex. let y = there_before b.ins.items d.ins.items i x m.ins_count ex
        in waits_stand p.lane p.lane y.0.boundary.lane x.boundary.lane w (out_kept p.lane) (m.ins_met i y.0 x y.1 ex).lane (j.waits_are p y.0 ep y.1);
  }

  -- two ends may meet whatever became of their bodies
  may_lanes_out : (a b c : Body S D L H B) (o i : ℕ) → SameLanes a.ins.items c.ins.items a.outs.items c.outs.items → BodiesMayMeet a o b i → BodiesMayMeet c o b i
  may_lanes_out a b c o i l m =
      let count : length c.outs.items ≡ length a.outs.items = map_count (λ (w : OutputBoundary). w.wire) a.outs.items c.outs.items l.outs_wires in
      record {
        out_there = subst (λ (n : ℕ). o < n) (sym count) m.out_there;
        inp_there = m.inp_there;
        one = λ p x ep ex. let q = there_before a.outs.items c.outs.items o p count ep in (l.outs_same o q.0 p q.1 ep).0 ∙ m.one q.0 x q.1 ex;
      }

  may_lanes_in : (a b d : Body S D L H B) (o i : ℕ) → SameLanes b.ins.items d.ins.items b.outs.items d.outs.items → BodiesMayMeet a o b i → BodiesMayMeet a o d i
  may_lanes_in a b d o i l m =
      let count : length d.ins.items ≡ length b.ins.items = map_count (λ (w : IslandInput). w.wire) b.ins.items d.ins.items l.ins_wires in
      record {
        out_there = m.out_there;
        inp_there = subst (λ (n : ℕ). i < n) (sym count) m.inp_there;
        one = λ p x ep ex. let y = there_before b.ins.items d.ins.items i x count ex in m.one p y.0 ep y.1 ∙ sym (l.ins_same i y.0 x y.1 ex).0;
      }

  -- two ends may meet whatever became of the body of the output end, where that went on
  pub may_goes_out : (a b c : Body S D L H B) (o i : ℕ) → BodyGoes a c → BodiesMayMeet a o b i → BodiesMayMeet c o b i
  may_goes_out a b c o i g m = may_lanes_out a b c o i g.lanes m

  -- two ends may meet whatever became of the body of the input end, where that went on
  pub may_goes_in : (a b d : Body S D L H B) (o i : ℕ) → BodyGoes b d → BodiesMayMeet a o b i → BodiesMayMeet a o d i
  may_goes_in a b d o i g m = may_lanes_in a b d o i g.lanes m

  -- two ends may meet as before, where the body of the output end only met
  pub may_stands_out : (a b c : Body S D L H B) (o i : ℕ) → OnlyMet a c → BodiesMayMeet a o b i → BodiesMayMeet c o b i
  may_stands_out a b c o i g m = may_lanes_out a b c o i (lanes_met a c g) m

  -- two ends may meet as before, where the body of the input end only met
  pub may_stands_in : (a b d : Body S D L H B) (o i : ℕ) → OnlyMet b d → BodiesMayMeet a o b i → BodiesMayMeet a o d i
  may_stands_in a b d o i g m = may_lanes_in a b d o i (lanes_met b d g) m

  module _ (sources : S → SourceState) (drains : D → DrainState) (book : Book) where
    pub may_breaks_out : (a b c : Body S D L H B) (o i : ℕ) → BodyBreaks sources drains book a c → BodiesMayMeet a o b i → BodiesMayMeet c o b i
    may_breaks_out a b c o i g m = may_lanes_out a b c o i g.lanes m

    pub may_breaks_in : (a b d : Body S D L H B) (o i : ℕ) → BodyBreaks sources drains book b d → BodiesMayMeet a o b i → BodiesMayMeet a o d i
    may_breaks_in a b d o i g m = may_lanes_in a b d o i g.lanes m

    -- a body that broke off, and met behind it
    pub breaks_met : (a b c : Body S D L H B) → BodyBreaks sources drains book a b → OnlyMet b c → BodyBreaks sources drains book a c
    breaks_met a b c k m = record {
      last = k.last;
      island = k.island;
      laws = k.laws;
      stand = stand_met b c k.last m k.stand;
      kept = rw m.island k.kept;
      lanes = lanes_on a.ins.items b.ins.items c.ins.items a.outs.items b.outs.items c.outs.items k.lanes (lanes_met b c m);
    }

    -- one that went on, and then broke off
    pub goes_breaks : (a b c : Body S D L H B) → BodyGoes a b → BodyBreaks sources drains book b c → BodyBreaks sources drains book a c
    goes_breaks a b c g k = record {
      last = k.last;
      island = record {
        on = record {
          firsts = k.island.on.firsts ∙ g.island.on.firsts;
          ends = k.island.on.ends ∙ g.island.on.ends;
          ports = k.island.on.ports ∙ g.island.on.ports;
          nodes = k.island.on.nodes ∙ g.island.on.nodes;
          wires = k.island.on.wires ∙ g.island.on.wires;
        };
        ins = k.island.ins ∙ g.island.ins;
        outs = k.island.outs ∙ g.island.outs;
        numbers = k.island.numbers ∙ g.island.numbers;
        places = k.island.places ∙ g.island.places;
      };
      laws = k.laws;
      stand = k.stand;
      kept = k.kept;
      lanes = lanes_on a.ins.items b.ins.items c.ins.items a.outs.items b.outs.items c.outs.items g.lanes k.lanes;
    }
