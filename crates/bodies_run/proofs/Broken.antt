-- Bodies of which some broke off, with their islands as they were at their last moments.
use Rattle.std.specs.Prelude.{slice_get}
use Rattle.std.proofs.Common.{◌≡◌, ◌⊎◌, inl, inr, ℕ, zero, suc, ◌<◌, List, [], ◌∷◌, length, Some, refl, sym, ap, ◌∙◌, subst, arith}
use Rattle.std.proofs.lemmas.Option.{slice_get_within}
use Rattle.stream_io.specs.State.{SourceState, DrainState}
use Rattle.stream_model.specs.Graph.{Graph, Edge}
use Rattle.fused_net.specs.Laws.{AllKept}
use Rattle.fused_net.proofs.Reading.{get_there, some_same}
use Rattle.nodes.specs.Nodes.{KeepsNode}
use Rattle.nodes.specs.declared.node.IslandNode.{IslandNode}
use Rattle.interpreter.specs.Parts.{AllBecome}
use Rattle.interpreter.specs.declared.parts.Seated.{Seated}
use Rattle.run_laws.specs.Seats.{Covers, LanesKeep, joined_account}
use Rattle.run_laws.specs.Units.{Owned}
use Rattle.bodies_run.specs.Islands.{seats_by_islands, AreNets}
use Rattle.lane_core.specs.Crossings.{AllJoined}
use Rattle.lane_core.specs.declared.crossing.Crossing.{Crossing}
use Rattle.dispatcher.specs.Broken.{WholeOrBroken}
use Rattle.island_body.specs.Keeping.{SameLanes, BodyKeeps, BodyGoes, BodyBreaks}
use Rattle.island_body.specs.Meeting.{BodiesJoined}
use Rattle.island_body.specs.declared.body.Body.{Body}
use Rattle.bodies_run.specs.Bodies.{net_of, AskedAre, AreBodiesOf, AllSettled, IsLastMoment, AreLastOf}
use Rattle.bodies_run.proofs.Lanes.{lanes_on, lanes_keep}
use Rattle.bodies_run.proofs.Nets.{Went, Stood, all_settled, now_nets, nets_began, nets_cover, nets_owned}
use Rattle.stream_model.specs.Linear.{Book}

all_kept : {N : Type 0} (keeps : N → N → Type 0) (xs : List N) → AllKept keeps xs xs
all_kept keeps [] = tt
all_kept keeps (x ∷ xs) = (inl refl, all_kept keeps xs)

-- ---- a third list, by two lists of the same length

module _ {X : Type 0} (R : X → X → X → Type 0) where
  abbrev AreThree : List X → List X → List X → Type 0
  AreThree xs ys zs = (k : ℕ) (a b c : X) → slice_get xs k ≡ Some a → slice_get ys k ≡ Some b → slice_get zs k ≡ Some c → R a b c

  with_first : (x y z : X) (xs ys zs : List X) → R x y z → AreThree xs ys zs → AreThree (x ∷ xs) (y ∷ ys) (z ∷ zs)
  with_first x y z xs ys zs here rest zero a b c ea eb ec = subst (λ (w : X). R w b c) (some_same x a ea) (subst (λ (w : X). R x w c) (some_same y b eb) (subst (λ (w : X). R x y w) (some_same z c ec) here))
  with_first x y z xs ys zs here rest (suc k) a b c ea eb ec = rest k a b c ea eb ec

  -- where each place has one, all of them are a list
  chosen : (xs ys : List X) → length ys ≡ length xs → ((k : ℕ) (a b : X) → slice_get xs k ≡ Some a → slice_get ys k ≡ Some b → (c : X) × R a b c) → (zs : List X) × ((length zs ≡ length ys) × AreThree xs ys zs)
  chosen [] [] e h = ([], (refl, λ k a b c ea eb ec. absurd (cc)))
  chosen [] (y ∷ ys) e h = absurd (omega (arith, e))
  chosen (x ∷ xs) [] e h = absurd (omega (arith, e))
  chosen (x ∷ xs) (y ∷ ys) e h =
      let here = h 0 x y refl refl in
      let rest = chosen xs ys (omega (arith, e)) (λ k a b ea eb. h (suc k) a b ea eb) in
      (here.0 ∷ rest.0, (ap suc rest.1.0, with_first x y here.0 xs ys rest.0 here.1 rest.1.1))

-- the nets of bodies, of which each node is kept
kept_nets : {S D L H B : Type 0} (keeps : IslandNode S D L H B → IslandNode S D L H B → Type 0) (then now : List (Body S D L H B)) → length then ≡ length now
    → ((k : ℕ) (c b : Body S D L H B) → slice_get then k ≡ Some c → slice_get now k ≡ Some b → AllKept keeps c.island.net.nodes b.island.net.nodes) → (k : ℕ) → AllKept keeps (net_of then k).nodes (net_of now k).nodes
kept_nets keeps [] [] e h k = tt
kept_nets keeps [] (b ∷ bs) e h k = absurd (omega (arith, e))
kept_nets keeps (c ∷ cs) [] e h k = absurd (omega (arith, e))
kept_nets keeps (c ∷ cs) (b ∷ bs) e h zero = h 0 c b refl refl
kept_nets keeps (c ∷ cs) (b ∷ bs) e h (suc k) = kept_nets keeps cs bs (omega (arith, e)) (λ j x y ex ey. h (suc j) x y ex ey) k

module _ {S D L H B : Type 0} where
  -- a body that is whole is at a moment between two events, and one that broke off was
  last_moment : (sources : S → SourceState) (drains : D → DrainState) (book : Book) (a b : Body S D L H B) → ((BodyGoes a b) × (BodyKeeps sources drains book b)) ⊎ (BodyBreaks sources drains book a b) → (c : Body S D L H B) × IsLastMoment sources drains book a b c
  last_moment sources drains book a b (inl w) =
      (b, record { goes = w.0.island; settled = w.1.laws.laws; stand = w.1.stands.stand; ins = refl; outs = refl; kept = all_kept (KeepsNode sources drains) b.island.net.nodes })
  last_moment sources drains book a b (inr w) =
      (record b { island = w.last }, record { goes = w.island; settled = w.laws; stand = w.stand; ins = refl; outs = refl; kept = w.kept })

  -- and the ends of its lanes are of the same lanes
  same_lanes : (sources : S → SourceState) (drains : D → DrainState) (book : Book) (a b : Body S D L H B) → ((BodyGoes a b) × (BodyKeeps sources drains book b)) ⊎ (BodyBreaks sources drains book a b) → SameLanes a.ins.items b.ins.items a.outs.items b.outs.items
  same_lanes sources drains book a b (inl w) = w.0.lanes
  same_lanes sources drains book a b (inr w) = w.lanes

  module _ (sources : S → SourceState) (drains : D → DrainState) (book : Book) (begun now : List (Body S D L H B)) (broke : WholeOrBroken (BodyKeeps sources drains book) BodyGoes (BodyBreaks sources drains book) begun now) where
    pub last : (then : List (Body S D L H B)) × AreLastOf sources drains book begun now then
    last =
        let l = chosen (IsLastMoment sources drains book) begun now broke.count (λ k a b ea eb. last_moment sources drains book a b (broke.each k a b ea eb)) in
        (l.0, record { count = l.1.0; each = l.1.1 })

    module _ (then : List (Body S D L H B)) (l : AreLastOf sources drains book begun now then) where
      many : length then ≡ length begun
      many = l.count ∙ broke.count

      moment : (k : ℕ) (b c : Body S D L H B) → slice_get now k ≡ Some b → slice_get then k ≡ Some c → (a : Body S D L H B) × IsLastMoment sources drains book a b c
      moment k b c eb ec =
          let a = get_there begun k (subst (λ (n : ℕ). k < n) broke.count (slice_get_within now k b eb)) in
          (a.0, l.each k a.0 b c a.1 eb ec)

      now_at : (k : ℕ) (c : Body S D L H B) → slice_get then k ≡ Some c → (b : Body S D L H B) × (slice_get now k ≡ Some b)
      now_at k c ec = get_there now k (subst (λ (n : ℕ). k < n) l.count (slice_get_within then k c ec))

      then_goes : (k : ℕ) (a c : Body S D L H B) → slice_get begun k ≡ Some a → slice_get then k ≡ Some c → Went a c
      then_goes k a c ea ec =
          let b = now_at k c ec in
          let is = l.each k a b.0 c ea b.1 ec in
          let lanes = same_lanes sources drains book a b.0 (broke.each k a b.0 ea b.1) in
          let outs = subst (λ (v : _). SameLanes a.ins.items b.0.ins.items a.outs.items v.items) (sym is.outs) lanes in
          record { island = is.goes; lanes = subst (λ (v : _). SameLanes a.ins.items v.items a.outs.items c.outs.items) (sym is.ins) outs }

      then_stood : (k : ℕ) (c : Body S D L H B) → slice_get then k ≡ Some c → Stood sources drains book c
      then_stood k c ec =
          let b = now_at k c ec in
          let m = moment k b.0 c b.1 ec in
          record { settled = m.1.settled; stand = m.1.stand }

      joined_on : (crossings : List Crossing) → AllJoined BodiesJoined now crossings → AllJoined BodiesJoined then crossings
      joined_on crossings j = λ n c e.
          let w = j n c e in (
            w.0,
            λ a b ea eb.
                let f = now_at c.from a ea in
                let t = now_at c.to b eb in
                let from = moment c.from f.0 a f.1 ea in
                let to = moment c.to t.0 b t.1 eb in
                let is = w.1 f.0 t.0 f.1 t.1 in
                record {
                  history = λ o x eo ex. is.history o x (ap (λ (v : _). slice_get v.items c.out) (sym from.1.outs) ∙ eo) (ap (λ (v : _). slice_get v.items c.inp) (sym to.1.ins) ∙ ex);
                  waits_are = λ o x eo ex. is.waits_are o x (ap (λ (v : _). slice_get v.items c.out) (sym from.1.outs) ∙ eo) (ap (λ (v : _). slice_get v.items c.inp) (sym to.1.ins) ∙ ex);
                },
          )

      asked_on : (crossings : List Crossing) (all : ℕ → ℕ) → AskedAre now crossings all → AskedAre then crossings all
      asked_on crossings all asked n c b x e eb ex =
          let t = now_at c.to b eb in
          let m = moment c.to t.0 b t.1 eb in
          asked n c t.0 x e t.1 (ap (λ (v : _). slice_get v.items c.inp) (sym m.1.ins) ∙ ex)

      pub last_settled : AllSettled sources drains book then
      last_settled = all_settled sources drains book then then_stood

      pub last_kept : (k : ℕ) → AllKept (KeepsNode sources drains) (net_of then k).nodes (net_of now k).nodes
      last_kept k = kept_nets (KeepsNode sources drains) then now l.count (λ j c b ec eb. let m = moment j b c eb ec in m.1.kept) k

      module _ (g : Graph) (homes : List ℕ) (count : ℕ) (ws : List Edge) (nodes : List (Seated S D L H B)) (crossings : List Crossing) (m : AreBodiesOf sources drains book g homes count ws nodes crossings begun) where
        pub last_cover : Covers g (net_of then) (seats_by_islands homes ws)
        last_cover = nets_cover sources drains book g homes count ws nodes crossings begun m then many then_goes

        pub last_nets : AreNets homes ws nodes count (net_of then)
        last_nets = now_nets sources drains book g homes count ws nodes crossings begun m then many then_goes

        pub last_began : (all : ℕ → ℕ) → (firsts : List (IslandNode S D L H B)) × (AllBecome nodes firsts × ((k : ℕ) → k < length g.nodes → (joined_account (net_of then) (seats_by_islands homes ws) all).firsts k ≡ slice_get firsts k))
        last_began = nets_began sources drains book g homes count ws nodes crossings begun m then many then_goes

        pub last_owned : Owned g (net_of then) (seats_by_islands homes ws) count
        last_owned = nets_owned sources drains book g homes count ws nodes crossings begun m then many then_goes

        pub last_lanes : (all : ℕ → ℕ) → AskedAre now crossings all → AllJoined BodiesJoined now crossings → LanesKeep g (net_of then) (seats_by_islands homes ws) all
        last_lanes all asked_are j =
            lanes_keep sources drains book g homes count ws nodes m.seated m.graph.wires_are then then_stood crossings (lanes_on homes ws begun then many then_goes crossings m.lanes_are) all
            (asked_on crossings all asked_are) (joined_on crossings j)
