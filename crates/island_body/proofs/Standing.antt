-- What stands at the ends of lanes of an island while one of them acts, and while the island runs.
use Rattle.std.proofs.Common.{◌≡◌, ◌≢◌, inl, inr, ℕ, ◌+◌, List, None, Some, map, set, slice_get, refl, sym, ap, ◌∙◌, subst, arith}
use Rattle.std.specs.Prelude.{Option}
use Rattle.stream_io.specs.State.{SourceState, DrainState}
use Rattle.nodes.specs.Nodes.{node_port_state, node_law, node_asking, node_moves, node_gone, node_passive}
use Rattle.fused_net.specs.Laws.{Settled}
use Rattle.fused_net.specs.Outside.{StandsStill, Untouched}
use Rattle.fused_net.proofs.Reading.{same_or_not}
use Rattle.interpreter.specs.Island.{Kept}
use Rattle.interpreter.specs.Boundary.{Enters, Leaves, way_in, way_out}
use Rattle.island_body.specs.Beside.{Beside, in_node, out_node}
use Rattle.island_body.specs.Serving.{IsServed}
use Rattle.island_body.specs.declared.output.OutputBoundary.{OutputBoundary}
use Rattle.island_body.proofs.Beside.{leaves_beside, enters_beside}
use Rattle.island_body.proofs.Serving.{serves_beside, served_beside, serves_ran, served_ran}
use Rattle.island_body.specs.Feeding.{IsFed}
use Rattle.island_body.specs.declared.input.IslandInput.{IslandInput}
use Rattle.island_body.proofs.Feeding.{feeds_beside, fed_beside, feeds_ran, fed_ran}
use Rattle.island_body.specs.Ends.{in_wires, out_wires, InputEndStands, OutputEndStands, AllStand, AllServed, AreApart, IsTable, IslandGoes}
use Rattle.island_body.specs.declared.way.Way.{Way}
use Rattle.island_body.specs.declared.way.Way.TheVariants.{Inner, In, Out}
use Rattle.island_body.proofs.Lists.{some_same, at_set, map_at}
use Rattle.stream_model.specs.Linear.{Book}

in_is : (j k : ℕ) → Some (In j) ≡ Some (In k) → j ≡ k
in_is j k e = cc

out_is : (j k : ℕ) → Some (Out j) ≡ Some (Out k) → j ≡ k
out_is j k e = cc

in_not_out : (j k : ℕ) → Some (In j) ≡ Some (Out k) → ⊥
in_not_out j k e = cc

module _ {S D L H B : Type 0} where
  -- ---- an island that goes on

  pub goes_of : (q n : ℕ) (old new : Kept S D L H B) → Beside q n old new → IslandGoes old new
  goes_of q n old new b = record { on = b.on; ins = b.ins; outs = b.outs; numbers = b.numbers; places = b.places }

  module _ (old new : Kept S D L H B) (g : IslandGoes old new) where
    way_in_goes : (u : ℕ) → way_in new u ≡ way_in old u
    way_in_goes u = rw g.ins refl

    way_out_goes : (u : ℕ) → way_out new u ≡ way_out old u
    way_out_goes u = rw g.outs refl

    in_node_goes : (u : ℕ) → in_node new u ≡ in_node old u
    in_node_goes u = rw (g.ins, g.on.ends) refl

    out_node_goes : (u : ℕ) → out_node new u ≡ out_node old u
    out_node_goes u = rw (g.outs, g.on.ends) refl

    pub apart_goes : (us vs : List ℕ) → AreApart old us vs → AreApart new us vs
    apart_goes us vs a = record {
      ins_apart = λ j k u v eu ev ne e. a.ins_apart j k u v eu ev ne (sym (in_node_goes u) ∙ e ∙ in_node_goes v);
      outs_apart = λ j k u v eu ev ne e. a.outs_apart j k u v eu ev ne (sym (out_node_goes u) ∙ e ∙ out_node_goes v);
      both_apart = λ j k u v eu ev e. a.both_apart j k u v eu ev (sym (in_node_goes u) ∙ e ∙ out_node_goes v);
    }

    pub table_goes : (us vs : List ℕ) (ws : List Way) → IsTable old us vs ws → IsTable new us vs ws
    table_goes us vs ws t = record {
      many = t.many ∙ sym g.on.wires;
      ins_there = λ k u e. ap (λ (q : ℕ). slice_get ws q) (way_in_goes u) ∙ t.ins_there k u e;
      outs_there = λ k u e. ap (λ (q : ℕ). slice_get ws q) (way_out_goes u) ∙ t.outs_there k u e;
      ins_right = λ q k e. let r = t.ins_right q k e in (r.0, (r.1.0, way_in_goes r.0 ∙ r.1.1));
      outs_right = λ q k e. let r = t.outs_right q k e in (r.0, (r.1.0, way_out_goes r.0 ∙ r.1.1));
    }

  pub goes_here : (i : Kept S D L H B) → IslandGoes i i
  goes_here i = record { on = record { firsts = refl; ends = refl; ports = refl; nodes = refl; wires = refl }; ins = refl; outs = refl; numbers = refl; places = refl }

  pub goes_then : (a b c : Kept S D L H B) → IslandGoes a b → IslandGoes b c → IslandGoes a c
  goes_then a b c f g = record {
    on = record { firsts = g.on.firsts ∙ f.on.firsts; ends = g.on.ends ∙ f.on.ends; ports = g.on.ports ∙ f.on.ports; nodes = g.on.nodes ∙ f.on.nodes; wires = g.on.wires ∙ f.on.wires };
    ins = g.ins ∙ f.ins;
    outs = g.outs ∙ f.outs;
    numbers = g.numbers ∙ f.numbers;
    places = g.places ∙ f.places;
  }

  -- ---- two ends stand at two connections

  module _ (i : Kept S D L H B) (us vs : List ℕ) (ws : List Way) (t : IsTable i us vs ws) where
    pub ins_ways : (j k u v : ℕ) → slice_get us j ≡ Some u → slice_get us k ≡ Some v → j ≢ k → way_in i u ≢ way_in i v
    ins_ways j k u v eu ev ne e = ne (in_is j k (sym (t.ins_there j u eu) ∙ ap (λ (q : ℕ). slice_get ws q) e ∙ t.ins_there k v ev))

    pub outs_ways : (j k u v : ℕ) → slice_get vs j ≡ Some u → slice_get vs k ≡ Some v → j ≢ k → way_out i u ≢ way_out i v
    outs_ways j k u v eu ev ne e = ne (out_is j k (sym (t.outs_there j u eu) ∙ ap (λ (q : ℕ). slice_get ws q) e ∙ t.outs_there k v ev))

    pub both_ways : (j k u v : ℕ) → slice_get us j ≡ Some u → slice_get vs k ≡ Some v → way_in i u ≢ way_out i v
    both_ways j k u v eu ev e = in_not_out j k (sym (t.ins_there j u eu) ∙ ap (λ (q : ℕ). slice_get ws q) e ∙ t.outs_there k v ev)

  -- ---- another end acts

  module _ (q n : ℕ) (old new : Kept S D L H B) (b : Beside q n old new) where
    in_stands : (x : IslandInput) → way_in old x.wire ≢ q → InputEndStands old x → InputEndStands new x
    in_stands x apart s = record { enters = enters_beside q n old new x.wire b s.enters; feeds = feeds_beside x.boundary q n old new x.wire b apart s.feeds }

    out_stands : (o : OutputBoundary) → way_out old o.wire ≢ q → out_node old o.wire ≢ n → OutputEndStands old o → OutputEndStands new o
    out_stands o apart other s = record {
      leaves = leaves_beside q n old new o.wire b s.leaves;
      serves = serves_beside o.lane q n old new o.wire b apart other s.serves;
      only = rw (b.outs, b.on.ends, b.on.ports) s.only;
    }

  -- the input end at place k of its list acted
  module _ (old new : Kept S D L H B) (ins : List IslandInput) (outs : List OutputBoundary) (ws : List Way) (k : ℕ) (x y : IslandInput) (at : slice_get ins k ≡ Some x) (table : IsTable old (in_wires ins) (out_wires outs) ws) (apart : AreApart old (in_wires ins) (out_wires outs))
      (b : Beside (way_in old x.wire) (in_node old x.wire) old new) (wire : y.wire ≡ x.wire) where
    in_wire_at : slice_get (in_wires ins) k ≡ Some x.wire
    in_wire_at = map_at (λ (z : IslandInput). z.wire) ins k x at

    pub in_acted : AllStand old ins outs → InputEndStands new y → AllStand new (set ins k y) outs
    in_acted s mine = record {
      ins_stand = λ j z e. elim (at_set ins k j x y z at e) [
        | inl here ↦ subst (λ (w : IslandInput). InputEndStands new w) (sym here.1) mine
        | inr there ↦ in_stands (way_in old x.wire) (in_node old x.wire) old new b z (ins_ways old (in_wires ins) (out_wires outs) ws table j k z.wire x.wire (map_at (λ (w : IslandInput). w.wire) ins j z there.1) in_wire_at there.0) (s.ins_stand j z there.1)
      ];
      outs_stand = λ j o e. let other : slice_get (out_wires outs) j ≡ Some o.wire = map_at (λ (w : OutputBoundary). w.wire) outs j o e in
          out_stands (way_in old x.wire) (in_node old x.wire) old new b o (λ f. both_ways old (in_wires ins) (out_wires outs) ws table k j x.wire o.wire in_wire_at other (sym f)) (λ f. apart.both_apart k j x.wire o.wire in_wire_at other (sym f)) (s.outs_stand j o e);
    }

    pub in_done : (n m : ℕ) → AllServed (Some (way_in old x.wire)) n m old ins outs → IsFed y.boundary new y.wire → AllServed None n m new (set ins k y) outs
    in_done n m s mine = record {
      ins_fed = λ j z h e none. elim (at_set ins k j x y z at e) [
        | inl here ↦ subst (λ (w : IslandInput). IsFed w.boundary new w.wire) (sym here.1) mine
        | inr there ↦ (let away = ins_ways old (in_wires ins) (out_wires outs) ws table j k z.wire x.wire (map_at (λ (w : IslandInput). w.wire) ins j z there.1) in_wire_at there.0 in fed_beside z.boundary (way_in old x.wire) (in_node old x.wire) old new z.wire b away (s.ins_fed j z h there.1 away))
      ];
      outs_served = λ j o h e none. let other : slice_get (out_wires outs) j ≡ Some o.wire = map_at (λ (w : OutputBoundary). w.wire) outs j o e in
          let away : way_out old o.wire ≢ way_in old x.wire = λ f. both_ways old (in_wires ins) (out_wires outs) ws table k j x.wire o.wire in_wire_at other (sym f) in
          served_beside o.lane (way_in old x.wire) (in_node old x.wire) old new o.wire b away (λ f. apart.both_apart k j x.wire o.wire in_wire_at other (sym f)) (s.outs_served j o h e away);
    }

  -- the output end at place k of its list acted
  module _ (old new : Kept S D L H B) (ins : List IslandInput) (outs : List OutputBoundary) (ws : List Way) (k : ℕ) (x y : OutputBoundary) (at : slice_get outs k ≡ Some x) (table : IsTable old (in_wires ins) (out_wires outs) ws) (apart : AreApart old (in_wires ins) (out_wires outs))
      (b : Beside (way_out old x.wire) (out_node old x.wire) old new) (wire : y.wire ≡ x.wire) where
    out_wire_at : slice_get (out_wires outs) k ≡ Some x.wire
    out_wire_at = map_at (λ (z : OutputBoundary). z.wire) outs k x at

    pub out_acted : AllStand old ins outs → OutputEndStands new y → AllStand new ins (set outs k y)
    out_acted s mine = record {
      ins_stand = λ j z e. let other : slice_get (in_wires ins) j ≡ Some z.wire = map_at (λ (w : IslandInput). w.wire) ins j z e in
          in_stands (way_out old x.wire) (out_node old x.wire) old new b z (both_ways old (in_wires ins) (out_wires outs) ws table j k z.wire x.wire other out_wire_at) (s.ins_stand j z e);
      outs_stand = λ j z e. elim (at_set outs k j x y z at e) [
        | inl here ↦ subst (λ (w : OutputBoundary). OutputEndStands new w) (sym here.1) mine
        | inr there ↦ (let other : slice_get (out_wires outs) j ≡ Some z.wire = map_at (λ (w : OutputBoundary). w.wire) outs j z there.1 in
            out_stands (way_out old x.wire) (out_node old x.wire) old new b z (outs_ways old (in_wires ins) (out_wires outs) ws table j k z.wire x.wire other out_wire_at there.0) (apart.outs_apart j k z.wire x.wire other out_wire_at there.0) (s.outs_stand j z there.1))
      ];
    }

    pub out_done : (n m : ℕ) → AllServed (Some (way_out old x.wire)) n m old ins outs → IsServed y.lane new y.wire → AllServed None n m new ins (set outs k y)
    out_done n m s mine = record {
      ins_fed = λ j z h e none. let other : slice_get (in_wires ins) j ≡ Some z.wire = map_at (λ (w : IslandInput). w.wire) ins j z e in
          let away = both_ways old (in_wires ins) (out_wires outs) ws table j k z.wire x.wire other out_wire_at in
          fed_beside z.boundary (way_out old x.wire) (out_node old x.wire) old new z.wire b away (s.ins_fed j z h e away);
      outs_served = λ j z h e none. elim (at_set outs k j x y z at e) [
        | inl here ↦ subst (λ (w : OutputBoundary). IsServed w.lane new w.wire) (sym here.1) mine
        | inr there ↦ (let other : slice_get (out_wires outs) j ≡ Some z.wire = map_at (λ (w : OutputBoundary). w.wire) outs j z there.1 in
            let away = outs_ways old (in_wires ins) (out_wires outs) ws table j k z.wire x.wire other out_wire_at there.0 in
            served_beside z.lane (way_out old x.wire) (out_node old x.wire) old new z.wire b away (apart.outs_apart j k z.wire x.wire other out_wire_at there.0) (s.outs_served j z h there.1 away))
      ];
    }

  -- one that is named may have something to do
  pub served_but : (at : Option ℕ) (n m : ℕ) (i : Kept S D L H B) (ins : List IslandInput) (outs : List OutputBoundary) → AllServed None n m i ins outs → AllServed at n m i ins outs
  served_but at n m i ins outs s = record { ins_fed = λ k x h e other. s.ins_fed k x h e tt; outs_served = λ k o h e other. s.outs_served k o h e tt }

  -- the next input end may have, and the next output end
  pub served_next_in : (k m : ℕ) (x : IslandInput) (i : Kept S D L H B) (ins : List IslandInput) (outs : List OutputBoundary) → slice_get ins k ≡ Some x → AllServed None k m i ins outs → AllServed (Some (way_in i x.wire)) (k + 1) m i ins outs
  served_next_in k m x i ins outs at s = record {
    ins_fed = λ j z h e other. elim (same_or_not j k) [
      | inl here ↦ (let same : z ≡ x = some_same z x (sym e ∙ ap (λ (n : ℕ). slice_get ins n) here ∙ at) in absurd (other (ap (λ (w : IslandInput). way_in i w.wire) same)))
      | inr there ↦ s.ins_fed j z (omega (arith, h, there)) e tt
    ];
    outs_served = λ j o h e other. s.outs_served j o h e tt;
  }

  pub served_next_out : (n k : ℕ) (o : OutputBoundary) (i : Kept S D L H B) (ins : List IslandInput) (outs : List OutputBoundary) → slice_get outs k ≡ Some o → AllServed None n k i ins outs → AllServed (Some (way_out i o.wire)) n (k + 1) i ins outs
  served_next_out n k o i ins outs at s = record {
    ins_fed = λ j x h e other. s.ins_fed j x h e tt;
    outs_served = λ j z h e other. elim (same_or_not j k) [
      | inl here ↦ (let same : z ≡ o = some_same z o (sym e ∙ ap (λ (q : ℕ). slice_get outs q) here ∙ at) in absurd (other (ap (λ (w : OutputBoundary). way_out i w.wire) same)))
      | inr there ↦ s.outs_served j z (omega (arith, h, there)) e tt
    ];
  }

  pub served_none : (i : Kept S D L H B) (ins : List IslandInput) (outs : List OutputBoundary) → AllServed None 0 0 i ins outs
  served_none i ins outs = record { ins_fed = λ k x h e other. absurd (omega (arith, h)); outs_served = λ k o h e other. absurd (omega (arith, h)) }

  -- no end stands at the connection that is named
  pub served_inner : (q n m : ℕ) (i : Kept S D L H B) (ins : List IslandInput) (outs : List OutputBoundary) (ws : List Way) → IsTable i (in_wires ins) (out_wires outs) ws → slice_get ws q ≡ Some Inner → AllServed (Some q) n m i ins outs → AllServed None n m i ins outs
  served_inner q n m i ins outs ws t at s = record {
    ins_fed = λ k x h e none. s.ins_fed k x h e (λ f. let there = t.ins_there k x.wire (map_at (λ (w : IslandInput). w.wire) ins k x e) in inner_in k (sym at ∙ (ap (λ (p : ℕ). slice_get ws p) (sym f) ∙ there)));
    outs_served = λ k o h e none. s.outs_served k o h e (λ f. let there = t.outs_there k o.wire (map_at (λ (w : OutputBoundary). w.wire) outs k o e) in inner_out k (sym at ∙ (ap (λ (p : ℕ). slice_get ws p) (sym f) ∙ there)));
  }
    where
      inner_in : (k : ℕ) → Some Inner ≡ Some (In k) → ⊥
      inner_in k e = cc

      inner_out : (k : ℕ) → Some Inner ≡ Some (Out k) → ⊥
      inner_out k e = cc

  -- the end that stands there is the one that the table says
  pub served_in : (q k n m : ℕ) (i : Kept S D L H B) (ins : List IslandInput) (outs : List OutputBoundary) (ws : List Way) → IsTable i (in_wires ins) (out_wires outs) ws → slice_get ws q ≡ Some (In k) → AllServed (Some q) n m i ins outs → (x : IslandInput) → slice_get ins k ≡ Some x → AllServed (Some (way_in i x.wire)) n m i ins outs
  served_in q k n m i ins outs ws t at s x e =
      let r = t.ins_right q k at in
      let same : x.wire ≡ r.0 = some_same x.wire r.0 (sym (map_at (λ (w : IslandInput). w.wire) ins k x e) ∙ r.1.0) in
      subst (λ (p : ℕ). AllServed (Some p) n m i ins outs) (sym (ap (λ (u : ℕ). way_in i u) same ∙ r.1.1)) s

  pub served_out : (q k n m : ℕ) (i : Kept S D L H B) (ins : List IslandInput) (outs : List OutputBoundary) (ws : List Way) → IsTable i (in_wires ins) (out_wires outs) ws → slice_get ws q ≡ Some (Out k) → AllServed (Some q) n m i ins outs → (o : OutputBoundary) → slice_get outs k ≡ Some o → AllServed (Some (way_out i o.wire)) n m i ins outs
  served_out q k n m i ins outs ws t at s o e =
      let r = t.outs_right q k at in
      let same : o.wire ≡ r.0 = some_same o.wire r.0 (sym (map_at (λ (w : OutputBoundary). w.wire) outs k o e) ∙ r.1.0) in
      subst (λ (p : ℕ). AllServed (Some p) n m i ins outs) (sym (ap (λ (u : ℕ). way_out i u) same ∙ r.1.1)) s

  -- the place of an end's connection is that of its row in the table
  pub place_in_table : (q k : ℕ) (i : Kept S D L H B) (ins : List IslandInput) (outs : List OutputBoundary) (ws : List Way) → IsTable i (in_wires ins) (out_wires outs) ws → slice_get ws q ≡ Some (In k) → (x : IslandInput) → slice_get ins k ≡ Some x → q ≡ way_in i x.wire
  place_in_table q k i ins outs ws t at x e =
      let r = t.ins_right q k at in
      let same : x.wire ≡ r.0 = some_same x.wire r.0 (sym (map_at (λ (w : IslandInput). w.wire) ins k x e) ∙ r.1.0) in
      sym (ap (λ (u : ℕ). way_in i u) same ∙ r.1.1)

  pub place_out_table : (q k : ℕ) (i : Kept S D L H B) (ins : List IslandInput) (outs : List OutputBoundary) (ws : List Way) → IsTable i (in_wires ins) (out_wires outs) ws → slice_get ws q ≡ Some (Out k) → (o : OutputBoundary) → slice_get outs k ≡ Some o → q ≡ way_out i o.wire
  place_out_table q k i ins outs ws t at o e =
      let r = t.outs_right q k at in
      let same : o.wire ≡ r.0 = some_same o.wire r.0 (sym (map_at (λ (w : OutputBoundary). w.wire) outs k o e) ∙ r.1.0) in
      sym (ap (λ (u : ℕ). way_out i u) same ∙ r.1.1)

-- ---- the island runs

module _ {S D L H B : Type 0} (sources : S → SourceState) (drains : D → DrainState) (book : Book) (old new : Kept S D L H B) (ins : List IslandInput) (outs : List OutputBoundary) (before : Settled node_port_state (node_law sources drains book) node_asking node_moves old.net) (after : Settled node_port_state (node_law sources drains book) node_asking node_moves new.net)
    (g : IslandGoes old new) (gone : map node_gone new.net.nodes ≡ map node_gone old.net.nodes) (still : StandsStill node_passive old.net new.net) (s : AllStand old ins outs) where
  enters_goes : (u : ℕ) → Enters old u → Enters new u
  enters_goes u l = record {
    listed = rw g.ins l.listed;
    place = rw (g.ins, g.on.wires) l.place;
    stage = rw g.ins (λ x at. l.stage x (rw (g.on.firsts, g.on.ends) at at));
  }

  leaves_goes : (u : ℕ) → Leaves old u → Leaves new u
  leaves_goes u l = record {
    listed = rw g.outs l.listed;
    place = rw (g.outs, g.on.wires) l.place;
    stage = rw g.outs (λ x at. l.stage x (rw (g.on.firsts, g.on.ends) at at));
  }

  pub all_ran : AllStand new ins outs
  all_ran = record {
    ins_stand = λ k x e. let t = s.ins_stand k x e in record { enters = enters_goes x.wire t.enters; feeds = feeds_ran sources drains book x.boundary old new x.wire before t.enters g.ins still after g.on t.feeds };
    outs_stand = λ k o e. let t = s.outs_stand k o e in record {
      leaves = leaves_goes o.wire t.leaves;
      serves = serves_ran sources drains book o.lane old new o.wire before after t.leaves g.on g.outs gone still t.serves;
      only = rw (g.outs, g.on.ends, g.on.ports) t.only;
    };
  }

  pub served_then : (at : Option ℕ) (n m : ℕ) → Untouched node_passive at old.net new.net → AllServed None n m old ins outs → AllServed at n m new ins outs
  served_then at n m un v = record {
    ins_fed = λ k x h e other. let t = s.ins_stand k x e in fed_ran sources drains book x.boundary old new x.wire before t.enters g.ins still at un (rw g.ins at other) (v.ins_fed k x h e tt);
    outs_served = λ k o h e other. let t = s.outs_stand k o e in served_ran sources drains book o.lane old new o.wire before after t.leaves g.on g.outs gone still at un (rw g.outs at other) t.only (v.outs_served k o h e tt);
  }
