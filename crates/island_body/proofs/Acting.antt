-- A body one of whose ends acted, or looked.
use Rattle.std.proofs.Common.{◌≡◌, inl, inr, ℕ, ◌+◌, ◌<◌, ◌≤◌, false, List, [], None, Some, length, map, get_or, set, slice_get, refl, sym, ap, ◌∙◌, subst, arith}
use Rattle.std.proofs.lemmas.List.{length-set}
use Rattle.std.proofs.lemmas.Option.{slice_get_within}
use Rattle.stream_io.specs.State.{SourceState, DrainState}
use Rattle.nodes.specs.Nodes.{node_port_state, node_law, node_asking, node_moves, node_gone, node_passive, KeepsNode}
use Rattle.fused_net.specs.Laws.{Settled}
use Rattle.fused_net.specs.Outside.{StandsStill, BreaksAside}
use Rattle.lane_core.specs.Ends.{taken_items, IsSameOut}
use Rattle.lane_core.specs.Boundary.{IsSameEnd}
use Rattle.lane_core.specs.Boundary.{given, waits, state}
use Rattle.interpreter.specs.Island.{Kept}
use Rattle.interpreter.specs.Boundary.{Enters, Leaves, way_in, way_out}
use Rattle.island_body.specs.Beside.{Beside, in_node, out_node}
use Rattle.island_body.specs.Serving.{Serves, IsServed}
use Rattle.island_body.specs.declared.output.OutputBoundary.{OutputBoundary}
use Rattle.island_body.proofs.Beside.{leaves_beside, enters_beside}
use Rattle.island_body.specs.Feeding.{Feeds, IsFed}
use Rattle.island_body.specs.declared.input.IslandInput.{IslandInput}
use Rattle.island_body.proofs.Feeding.{feeds_looked}
use Rattle.island_body.specs.Ends.{in_wires, out_wires, InputEndStands, OutputEndStands, AllServed, AllDone, IslandGoes}
use Rattle.island_body.specs.Keeping.{IsIdle, BodyStands, BodyGoes, BodyBreaks, SameLanes}
use Rattle.island_body.specs.Moving.{TookNone, FoundNone, TookNoneAt, TookNoneBelow, FoundNoneAt, FoundNoneBelow}
use Rattle.island_body.specs.declared.body.Body.{Body}
use Rattle.island_body.proofs.Lists.{some_same, get_here, at_set, map_set}
use Rattle.island_body.proofs.Standing.{goes_of, apart_goes, table_goes, in_acted, in_done, out_acted, out_done, all_ran}
use Rattle.fused_net.proofs.Reading.{same_or_not, get_set_same}
use Rattle.stream_model.specs.Linear.{Book}

-- the one that was borrowed stands there
pub at_index : {A : Type 0} (xs : List A) (k : ℕ) (x : A) → k < length xs → x ≡ get_or xs k x → slice_get xs k ≡ Some x
at_index xs k x h e = get_here xs k x h ∙ ap (λ z. Some z) (sym e)

pub in_lanes : (ins : List IslandInput) (outs : List OutputBoundary) (k : ℕ) (x y : IslandInput) → slice_get ins k ≡ Some x → y.wire ≡ x.wire → IsSameEnd x.boundary y.boundary → SameLanes ins (set ins k y) outs outs
in_lanes ins outs k x y at wire same = record {
  ins_wires = map_set (λ (z : IslandInput). z.wire) ins k x y at wire;
  outs_wires = refl;
  ins_same = λ j u v eu ev. elim (at_set ins k j x y v at ev) [
    | inl here ↦ (let was : x ≡ u = some_same x u (sym at ∙ (ap (λ (n : ℕ). slice_get ins n) (sym here.0) ∙ eu)) in subst (λ (z : IslandInput). IsSameEnd z.boundary v.boundary) was (subst (λ (z : IslandInput). IsSameEnd x.boundary z.boundary) (sym here.1) same))
    | inr there ↦ (let is : u ≡ v = some_same u v (sym eu ∙ there.1) in subst (λ (z : IslandInput). IsSameEnd u.boundary z.boundary) is (refl, refl, refl))
  ];
  outs_same = λ j o p eo ep. let is : o ≡ p = some_same o p (sym eo ∙ ep) in subst (λ (z : OutputBoundary). IsSameOut o.lane z.lane) is (refl, refl);
}

pub out_lanes : (ins : List IslandInput) (outs : List OutputBoundary) (k : ℕ) (x y : OutputBoundary) → slice_get outs k ≡ Some x → y.wire ≡ x.wire → IsSameOut x.lane y.lane → SameLanes ins ins outs (set outs k y)
out_lanes ins outs k x y at wire same = record {
  ins_wires = refl;
  outs_wires = map_set (λ (z : OutputBoundary). z.wire) outs k x y at wire;
  ins_same = λ j u v eu ev. let is : u ≡ v = some_same u v (sym eu ∙ ev) in subst (λ (z : IslandInput). IsSameEnd u.boundary z.boundary) is (refl, refl, refl);
  outs_same = λ j o p eo ep. elim (at_set outs k j x y p at ep) [
    | inl here ↦ (let was : x ≡ o = some_same x o (sym at ∙ (ap (λ (n : ℕ). slice_get outs n) (sym here.0) ∙ eo)) in subst (λ (z : OutputBoundary). IsSameOut z.lane p.lane) was (subst (λ (z : OutputBoundary). IsSameOut x.lane z.lane) (sym here.1) same))
    | inr there ↦ (let is : o ≡ p = some_same o p (sym eo ∙ there.1) in subst (λ (z : OutputBoundary). IsSameOut o.lane z.lane) is (refl, refl))
  ];
}

-- what a look found
pub took_none_here : (ins : List IslandInput) (k : ℕ) (x y : IslandInput) → slice_get ins k ≡ Some x → TookNone x y → (a b : IslandInput) → slice_get ins k ≡ Some a → slice_get (set ins k y) k ≡ Some b → TookNone a b
took_none_here ins k x y at t a b ea eb = elim (at_set ins k k x y b at eb) [
  | inl here ↦ subst (λ (z : IslandInput). TookNone z b) (some_same x a (sym at ∙ ea)) (subst (λ (z : IslandInput). TookNone x z) (sym here.1) t)
  | inr there ↦ absurd (there.0 refl)
]

pub found_none_here : (outs : List OutputBoundary) (k : ℕ) (x y : OutputBoundary) → slice_get outs k ≡ Some x → FoundNone x y → (a b : OutputBoundary) → slice_get outs k ≡ Some a → slice_get (set outs k y) k ≡ Some b → FoundNone a b
found_none_here outs k x y at t a b ea eb = elim (at_set outs k k x y b at eb) [
  | inl here ↦ subst (λ (z : OutputBoundary). FoundNone z b) (some_same x a (sym at ∙ ea)) (subst (λ (z : OutputBoundary). FoundNone x z) (sym here.1) t)
  | inr there ↦ absurd (there.0 refl)
]

module _ {S D L H B : Type 0} where
  -- the input end at place k acted
  pub in_serves : (b nb : Body S D L H B) (k : ℕ) (x y : IslandInput) → slice_get b.ins.items k ≡ Some x → BodyStands b → Beside (way_in b.island x.wire) (in_node b.island x.wire) b.island nb.island → y.wire ≡ x.wire → Feeds y.boundary nb.island y.wire
      → nb.ins.items ≡ set b.ins.items k y → nb.outs.items ≡ b.outs.items → nb.ways.items ≡ b.ways.items → BodyStands nb
  in_serves b nb k x y at s beside wire feeds ins_is outs_is ways_is =
      let mine : InputEndStands nb.island y = record { enters = subst (λ (u : ℕ). Enters nb.island u) (sym wire) (enters_beside (way_in b.island x.wire) (in_node b.island x.wire) b.island nb.island x.wire beside (s.stand.ins_stand k x at).enters); feeds = feeds } in
      let goes = goes_of (way_in b.island x.wire) (in_node b.island x.wire) b.island nb.island beside in
      let same : in_wires (set b.ins.items k y) ≡ in_wires b.ins.items = map_set (λ (z : IslandInput). z.wire) b.ins.items k x y at wire in
      record {
        whole = beside.broken ∙ s.whole;
        stand = rw (ins_is, outs_is) (in_acted b.island nb.island b.ins.items b.outs.items b.ways.items k x y at s.table s.apart beside wire s.stand mine);
        apart = rw (ins_is, outs_is, same) (apart_goes b.island nb.island goes (in_wires b.ins.items) (out_wires b.outs.items) s.apart);
        table = rw (ins_is, outs_is, ways_is, same) (table_goes b.island nb.island goes (in_wires b.ins.items) (out_wires b.outs.items) b.ways.items s.table);
      }

  pub in_goes : (b nb : Body S D L H B) (k : ℕ) (x y : IslandInput) → slice_get b.ins.items k ≡ Some x → IslandGoes b.island nb.island → y.wire ≡ x.wire → IsSameEnd x.boundary y.boundary
      → nb.ins.items ≡ set b.ins.items k y → nb.outs.items ≡ b.outs.items → nb.ways ≡ b.ways → BodyGoes b nb
  in_goes b nb k x y at goes wire same ins_is outs_is ways_is = record {
    island = goes;
    lanes = rw (ins_is, outs_is) (in_lanes b.ins.items b.outs.items k x y at wire same);
    ways = ways_is;
  }

  pub in_finishes : (b nb : Body S D L H B) (k n m : ℕ) (x y : IslandInput) → slice_get b.ins.items k ≡ Some x → BodyStands b → Beside (way_in b.island x.wire) (in_node b.island x.wire) b.island nb.island → y.wire ≡ x.wire → IsFed y.boundary nb.island y.wire
      → nb.ins.items ≡ set b.ins.items k y → nb.outs.items ≡ b.outs.items
      → ((z : IslandInput) → slice_get b.ins.items k ≡ Some z → AllServed (Some (way_in b.island z.wire)) n m b.island b.ins.items b.outs.items) → AllServed None n m nb.island nb.ins.items nb.outs.items
  in_finishes b nb k n m x y at s beside wire fed ins_is outs_is h = rw (ins_is, outs_is) (in_done b.island nb.island b.ins.items b.outs.items b.ways.items k x y at s.table s.apart beside wire n m (h x at) fed)

  -- the output end at place k acted
  pub out_serves : (b nb : Body S D L H B) (k : ℕ) (x y : OutputBoundary) → slice_get b.outs.items k ≡ Some x → BodyStands b → Beside (way_out b.island x.wire) (out_node b.island x.wire) b.island nb.island → y.wire ≡ x.wire → Serves y.lane nb.island y.wire
      → nb.ins.items ≡ b.ins.items → nb.outs.items ≡ set b.outs.items k y → nb.ways.items ≡ b.ways.items → BodyStands nb
  out_serves b nb k x y at s beside wire serves ins_is outs_is ways_is =
      let was = s.stand.outs_stand k x at in
      let mine : OutputEndStands nb.island y = record {
        leaves = subst (λ (u : ℕ). Leaves nb.island u) (sym wire) (leaves_beside (way_out b.island x.wire) (out_node b.island x.wire) b.island nb.island x.wire beside was.leaves);
        serves = serves;
        only = rw (wire, beside.outs, beside.on.ends, beside.on.ports) was.only;
      } in
      let goes = goes_of (way_out b.island x.wire) (out_node b.island x.wire) b.island nb.island beside in
      let same : out_wires (set b.outs.items k y) ≡ out_wires b.outs.items = map_set (λ (z : OutputBoundary). z.wire) b.outs.items k x y at wire in
      record {
        whole = beside.broken ∙ s.whole;
        stand = rw (ins_is, outs_is) (out_acted b.island nb.island b.ins.items b.outs.items b.ways.items k x y at s.table s.apart beside wire s.stand mine);
        apart = rw (ins_is, outs_is, same) (apart_goes b.island nb.island goes (in_wires b.ins.items) (out_wires b.outs.items) s.apart);
        table = rw (ins_is, outs_is, ways_is, same) (table_goes b.island nb.island goes (in_wires b.ins.items) (out_wires b.outs.items) b.ways.items s.table);
      }

  pub out_goes : (b nb : Body S D L H B) (k : ℕ) (x y : OutputBoundary) → slice_get b.outs.items k ≡ Some x → IslandGoes b.island nb.island → y.wire ≡ x.wire → IsSameOut x.lane y.lane
      → nb.ins.items ≡ b.ins.items → nb.outs.items ≡ set b.outs.items k y → nb.ways ≡ b.ways → BodyGoes b nb
  out_goes b nb k x y at goes wire same ins_is outs_is ways_is = record {
    island = goes;
    lanes = rw (ins_is, outs_is) (out_lanes b.ins.items b.outs.items k x y at wire same);
    ways = ways_is;
  }

  pub out_finishes : (b nb : Body S D L H B) (k n m : ℕ) (x y : OutputBoundary) → slice_get b.outs.items k ≡ Some x → BodyStands b → Beside (way_out b.island x.wire) (out_node b.island x.wire) b.island nb.island → y.wire ≡ x.wire → IsServed y.lane nb.island y.wire
      → nb.ins.items ≡ b.ins.items → nb.outs.items ≡ set b.outs.items k y
      → ((z : OutputBoundary) → slice_get b.outs.items k ≡ Some z → AllServed (Some (way_out b.island z.wire)) n m b.island b.ins.items b.outs.items) → AllServed None n m nb.island nb.ins.items nb.outs.items
  out_finishes b nb k n m x y at s beside wire served ins_is outs_is h = rw (ins_is, outs_is) (out_done b.island nb.island b.ins.items b.outs.items b.ways.items k x y at s.table s.apart beside wire n m (h x at) served)

  -- the input end at place k looked, and nothing in the island changed
  pub in_looked : (b nb : Body S D L H B) (k : ℕ) (x y : IslandInput) → slice_get b.ins.items k ≡ Some x → BodyStands b → nb.island ≡ b.island → y.wire ≡ x.wire → given y.boundary ≡ given x.boundary → state y.boundary ≡ state x.boundary
      → nb.ins.items ≡ set b.ins.items k y → nb.outs.items ≡ b.outs.items → nb.ways.items ≡ b.ways.items → BodyStands nb
  in_looked b nb k x y at s island_is wire given_is state_is ins_is outs_is ways_is =
      let was = s.stand.ins_stand k x at in
      let same : in_wires (set b.ins.items k y) ≡ in_wires b.ins.items = map_set (λ (z : IslandInput). z.wire) b.ins.items k x y at wire in
      let mine : InputEndStands b.island y = record {
        enters = subst (λ (u : ℕ). Enters b.island u) (sym wire) was.enters;
        feeds = subst (λ (u : ℕ). Feeds y.boundary b.island u) (sym wire) (feeds_looked x.boundary b.island x.wire y.boundary given_is state_is was.feeds);
      } in
      record {
        whole = rw island_is s.whole;
        stand = rw (island_is, ins_is, outs_is) (record {
          ins_stand = λ j z e. elim (at_set b.ins.items k j x y z at e) [
            | inl here ↦ subst (λ (w : IslandInput). InputEndStands b.island w) (sym here.1) mine
            | inr there ↦ s.stand.ins_stand j z there.1
          ];
          outs_stand = s.stand.outs_stand;
        });
        apart = rw (island_is, ins_is, outs_is, same) s.apart;
        table = rw (island_is, ins_is, outs_is, ways_is, same) s.table;
      }

  -- all others have nothing to do
  pub looked_but : (i : Kept S D L H B) (ins : List IslandInput) (outs : List OutputBoundary) (k : ℕ) (x y : IslandInput) → slice_get ins k ≡ Some x → AllDone i ins outs → (z : IslandInput) → slice_get (set ins k y) k ≡ Some z → AllServed (Some (way_in i z.wire)) (length (set ins k y)) (length outs) i (set ins k y) outs
  looked_but i ins outs k x y at s z ez =
      let count : length (set ins k y) ≡ length ins = length-set _ _ _ in
      record {
        ins_fed = λ j v h e other. elim (at_set ins k j x y v at e) [
          | inl here ↦ (let same : v ≡ z = some_same v z (sym e ∙ (ap (λ (n : ℕ). slice_get (set ins k y) n) here.0 ∙ ez)) in absurd (other (ap (λ (w : IslandInput). way_in i w.wire) same)))
          | inr apart ↦ s.ins_fed j v (subst (λ (n : ℕ). j < n) count h) apart.1 tt
        ];
        outs_served = λ j o h e other. s.outs_served j o h e tt;
      }

  -- one that found nothing to take has nothing to do either
  pub looked_none : (i : Kept S D L H B) (ins : List IslandInput) (outs : List OutputBoundary) (k : ℕ) (x y : IslandInput) → slice_get ins k ≡ Some x → y.wire ≡ x.wire → given y.boundary ≡ given x.boundary → state y.boundary ≡ state x.boundary → taken_items y.boundary.lane ≡ taken_items x.boundary.lane → waits y.boundary ≡ waits x.boundary
      → AllDone i ins outs → AllDone i (set ins k y) outs
  looked_none i ins outs k x y at wire given_is state_is taken_is waits_is s =
      let count : length (set ins k y) ≡ length ins = length-set _ _ _ in
      let mine : IsFed x.boundary i x.wire → IsFed y.boundary i y.wire = λ f. record {
        given_all = λ e. let g = f.given_all (rw wire at e) in rw (wire, given_is, taken_is) g;
        no_end = λ e w. taken_is ∙ f.no_end (sym state_is ∙ e) (sym waits_is ∙ w) ∙ sym given_is;
        refused = λ e t. f.refused (rw wire at e) (sym state_is ∙ t);
      } in
      record {
        ins_fed = λ j v h e other. let fewer : j < length ins = subst (λ (n : ℕ). j < n) count h in elim (at_set ins k j x y v at e) [
          | inl here ↦ subst (λ (w : IslandInput). IsFed w.boundary i w.wire) (sym here.1) (mine (s.ins_fed k x (subst (λ (n : ℕ). n < length ins) here.0 fewer) at tt))
          | inr apart ↦ s.ins_fed j v fewer apart.1 tt
        ];
        outs_served = λ j o h e other. s.outs_served j o h e tt;
      }

  -- nor has one at which two wait, since not all had been handed on before
  pub looked_behind : (i : Kept S D L H B) (ins : List IslandInput) (outs : List OutputBoundary) (k : ℕ) (x y : IslandInput) → slice_get ins k ≡ Some x → y.wire ≡ x.wire → given y.boundary ≡ given x.boundary → state y.boundary ≡ state x.boundary
      → (taken_items x.boundary.lane ≡ given x.boundary → length (waits y.boundary) ≤ 1) → ((z : IslandInput) → slice_get (set ins k y) k ≡ Some z → 2 ≤ length (waits z.boundary)) → AllDone i ins outs → AllDone i (set ins k y) outs
  looked_behind i ins outs k x y at wire given_is state_is few two s =
      let count : length (set ins k y) ≡ length ins = length-set _ _ _ in
      let many : 2 ≤ length (waits y.boundary) = two y (get_set_same ins k y (slice_get_within ins k x at)) in
      let not_all : taken_items x.boundary.lane ≡ given x.boundary → ⊥ = λ t. let one = few t in absurd (omega (arith, one, many)) in
      let some : waits y.boundary ≡ [] → ⊥ = λ w. let none = ap length w in absurd (omega (arith, none, many)) in
      let mine : IsFed x.boundary i x.wire → IsFed y.boundary i y.wire = λ f. record {
        given_all = λ e. elim (f.given_all (rw wire at e)) [
          | inl t ↦ absurd (not_all t)
          | inr h ↦ inr (rw wire h)
        ];
        no_end = λ e w. absurd (some w);
        refused = λ e t. f.refused (rw wire at e) (sym state_is ∙ t);
      } in
      record {
        ins_fed = λ j v h e other. let fewer : j < length ins = subst (λ (n : ℕ). j < n) count h in elim (at_set ins k j x y v at e) [
          | inl here ↦ subst (λ (w : IslandInput). IsFed w.boundary i w.wire) (sym here.1) (mine (s.ins_fed k x (subst (λ (n : ℕ). n < length ins) here.0 fewer) at tt))
          | inr apart ↦ s.ins_fed j v fewer apart.1 tt
        ];
        outs_served = λ j o h e other. s.outs_served j o h e tt;
      }

  -- as many ends
  pub done_as : (n m : ℕ) (i : Kept S D L H B) (ins : List IslandInput) (outs : List OutputBoundary) → length ins ≡ n → length outs ≡ m → AllServed None n m i ins outs → AllDone i ins outs
  done_as n m i ins outs en em s = rw (en, em) s

-- ---- looks at one end after another

module _ {S D L H B : Type 0} where
  pub took_start : (a : Body S D L H B) → TookNoneBelow a a 0
  took_start a = record { island = refl; outs = refl; below = λ k x y h ex ey. absurd (omega (arith, h)); above = λ k h. refl }

  pub took_more : (a b c : Body S D L H B) (k : ℕ) → TookNoneBelow a b k → TookNoneAt b c k → TookNoneBelow a c (k + 1)
  took_more a b c k f g = record {
    island = g.island ∙ f.island;
    outs = g.outs ∙ f.outs;
    below = λ j x y h ex ey. elim (same_or_not j k) [
      | inl here ↦ (let before : slice_get b.ins.items k ≡ Some x = f.above k (omega arith) ∙ (ap (λ (n : ℕ). slice_get a.ins.items n) (sym here) ∙ ex) in g.here x y before (ap (λ (n : ℕ). slice_get c.ins.items n) (sym here) ∙ ey))
      | inr there ↦ f.below j x y (omega (arith, h, there)) ex (sym (g.others j there) ∙ ey)
    ];
    above = λ j h. g.others j (λ e. absurd (omega (arith, e, h))) ∙ f.above j (omega (arith, h));
  }

  pub found_start : (a : Body S D L H B) → FoundNoneBelow a a 0
  found_start a = record { island = refl; ins = refl; below = λ k x y h ex ey. absurd (omega (arith, h)); above = λ k h. refl }

  pub found_more : (a b c : Body S D L H B) (k : ℕ) → FoundNoneBelow a b k → FoundNoneAt b c k → FoundNoneBelow a c (k + 1)
  found_more a b c k f g = record {
    island = g.island ∙ f.island;
    ins = g.ins ∙ f.ins;
    below = λ j x y h ex ey. elim (same_or_not j k) [
      | inl here ↦ (let before : slice_get b.outs.items k ≡ Some x = f.above k (omega arith) ∙ (ap (λ (n : ℕ). slice_get a.outs.items n) (sym here) ∙ ex) in g.here x y before (ap (λ (n : ℕ). slice_get c.outs.items n) (sym here) ∙ ey))
      | inr there ↦ f.below j x y (omega (arith, h, there)) ex (sym (g.others j there) ∙ ey)
    ];
    above = λ j h. g.others j (λ e. absurd (omega (arith, e, h))) ∙ f.above j (omega (arith, h));
  }

  -- none found anything in a whole turn
  pub idle_turn : (a b c d : Body S D L H B) → TookNoneBelow a b (length a.ins.items) → FoundNoneBelow b c (length b.outs.items) → d.ins ≡ c.ins → d.outs ≡ c.outs → c.island.net.queue ≡ [] → IsIdle a d
  idle_turn a b c d f g ins_is outs_is rest = record {
    queue = ap (λ (i : Kept S D L H B). i.net.queue) (sym f.island) ∙ (ap (λ (i : Kept S D L H B). i.net.queue) (sym g.island) ∙ rest);
    ins = λ k x y ex ey. f.below k x y (slice_get_within a.ins.items k x ex) ex (ap (λ (v : _). slice_get v.items k) (sym g.ins) ∙ (ap (λ (v : _). slice_get v.items k) (sym ins_is) ∙ ey));
    outs = λ k x y ex ey. let there : slice_get b.outs.items k ≡ Some x = ap (λ (v : _). slice_get v.items k) f.outs ∙ ex in g.below k x y (slice_get_within b.outs.items k x there) there (ap (λ (v : _). slice_get v.items k) (sym outs_is) ∙ ey);
  }

-- ---- the island ran

module _ {S D L H B : Type 0} (sources : S → SourceState) (drains : D → DrainState) (book : Book) where
  pub ran_stands : (b nb : Body S D L H B) → Settled node_port_state (node_law sources drains book) node_asking node_moves b.island.net → Settled node_port_state (node_law sources drains book) node_asking node_moves nb.island.net → IslandGoes b.island nb.island → map node_gone nb.island.net.nodes ≡ map node_gone b.island.net.nodes → StandsStill node_passive b.island.net nb.island.net
      → nb.island.broken ≡ false → nb.ins ≡ b.ins → nb.outs ≡ b.outs → nb.ways ≡ b.ways → BodyStands b → BodyStands nb
  ran_stands b nb before after goes gone still whole ins_is outs_is ways_is s = record {
    whole = whole;
    stand = rw (ins_is, outs_is) (all_ran sources drains book b.island nb.island b.ins.items b.outs.items before after goes gone still s.stand);
    apart = rw (ins_is, outs_is) (apart_goes b.island nb.island goes (in_wires b.ins.items) (out_wires b.outs.items) s.apart);
    table = rw (ins_is, outs_is, ways_is) (table_goes b.island nb.island goes (in_wires b.ins.items) (out_wires b.outs.items) b.ways.items s.table);
  }

  -- memory was wanting as it ran
  pub ran_breaks : (b nb : Body S D L H B) → Settled node_port_state (node_law sources drains book) node_asking node_moves b.island.net → BreaksAside node_port_state (node_law sources drains book) node_asking node_moves node_gone node_passive (KeepsNode sources drains) b.island.net nb.island.net.nodes
      → nb.ins ≡ b.ins → nb.outs ≡ b.outs → BodyStands b → BodyBreaks sources drains book b nb
  ran_breaks b nb before off ins_is outs_is s =
      let last : Kept S D L H B = record b.island { net = off.breaks.last } in
      let goes : IslandGoes b.island last = record { on = off.breaks.on; ins = refl; outs = refl; numbers = refl; places = refl } in
      record {
        last = last;
        island = goes;
        laws = off.breaks.settled;
        stand = rw (ins_is, outs_is) (all_ran sources drains book b.island last b.ins.items b.outs.items before off.breaks.settled goes off.none_gone off.still s.stand);
        kept = off.breaks.kept;
        lanes = rw (ins_is, outs_is) (same_lanes b.ins.items b.outs.items);
      }
    where
      same_lanes : (ins : List IslandInput) (outs : List OutputBoundary) → SameLanes ins ins outs outs
      same_lanes ins outs = record {
        ins_wires = refl;
        outs_wires = refl;
        ins_same = λ j u v eu ev. let is : u ≡ v = some_same u v (sym eu ∙ ev) in subst (λ (z : IslandInput). IsSameEnd u.boundary z.boundary) is (refl, refl, refl);
        outs_same = λ j o p eo ep. let is : o ≡ p = some_same o p (sym eo ∙ ep) in subst (λ (z : OutputBoundary). IsSameOut o.lane z.lane) is (refl, refl);
      }
