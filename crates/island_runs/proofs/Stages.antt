-- The stages at the ends of lanes of an island that has started: each has one connection, and no two ends have one stage.
use Rattle.std.specs.Prelude.{slice_get}
use Rattle.std.proofs.Common.{◌≡◌, ◌≢◌, ℕ, zero, suc, ◌<◌, true, false, List, [], ◌∷◌, ◌++◌, length, map, Some, refl, sym, ap, ◌∙◌, subst, arith}
use Rattle.std.proofs.lemmas.List.{length-map}
use Rattle.std.proofs.lemmas.Option.{slice_get_within}
use Rattle.stream_io.specs.State.{SourceState, DrainState}
use Rattle.nodes.specs.Nodes.{node_port_state, node_law, node_asking, node_moves}
use Rattle.fused_net.specs.declared.net.WireEnds.{WireEnds}
use Rattle.fused_net.specs.Laws.{Settled}
use Rattle.fused_net.specs.Net.{end_at, ports_at}
use Rattle.fused_net.specs.Outside.{HasOnly}
use Rattle.interpreter.specs.Boundary.{Enters, Leaves, BeginsOut, way_in, way_out, cell_in}
use Rattle.interpreter.specs.Island.{Kept}
use Rattle.interpreter.specs.Parts.{work_inputs, work_outputs, inputs_at, outputs_at, ends_of, IsWiring, AreParts, AllBecome}
use Rattle.interpreter.specs.Ways.{is_lane_in, is_lane_out, comes_in, goes_out}
use Rattle.interpreter.specs.declared.parts.Link.{Link}
use Rattle.interpreter.specs.declared.parts.Seated.{Seated}
use Rattle.interpreter.specs.declared.parts.Work.{Work}
use Rattle.interpreter.specs.declared.parts.Work.TheVariants.{Reading, Making, Linear, State, Sub, FanIn, FanOut, Custom, Writing, LaneIn, LaneOut}
use Rattle.island_parts.proofs.Wiring.{end_get}
use Rattle.bodies_run.proofs.Becoming.{become_count}
use Rattle.bodies_run.proofs.Ports.{ins_count, outs_count}
use Rattle.island_body.specs.Beside.{in_node, out_node}
use Rattle.stream_model.specs.Linear.{Book}

pub some_same : {X : Type 0} (x y : X) → Some x ≡ Some y → x ≡ y
some_same x y e = cc

one_item : {X : Type 0} (xs : List X) (x : X) → length xs ≡ 1 → slice_get xs 0 ≡ Some x → xs ≡ x ∷ []
one_item [] x e at = absurd cc
one_item (y ∷ []) x e at = ap (λ (z : _). z ∷ []) (some_same y x at)
one_item (y ∷ z ∷ xs) x e at = absurd (omega (arith, e))

no_items : {X : Type 0} (xs : List X) → length xs ≡ 0 → xs ≡ []
no_items [] e = refl
no_items (x ∷ xs) e = absurd (omega (arith, e))

module _ {S D L H B : Type 0} where
  -- ---- where a lane comes in, and where one goes out

  out_work : (w : Work S D L H B) → is_lane_out w ≡ true → (work_inputs w ≡ 1) × (work_outputs w ≡ 0)
  out_work (Reading r) e = absurd cc
  out_work (Making k) e = absurd cc
  out_work (Linear l) e = absurd cc
  out_work (State l) e = absurd cc
  out_work (Sub l) e = absurd cc
  out_work (FanIn l n) e = absurd cc
  out_work (FanOut l n) e = absurd cc
  out_work (Custom l inputs outputs) e = absurd cc
  out_work (Writing k d) e = absurd cc
  out_work (LaneIn u) e = absurd cc
  out_work (LaneOut u) e = (refl, refl)

  in_work : (w : Work S D L H B) → is_lane_in w ≡ true → work_outputs w ≡ 1
  in_work (Reading r) e = absurd cc
  in_work (Making k) e = absurd cc
  in_work (Linear l) e = absurd cc
  in_work (State l) e = absurd cc
  in_work (Sub l) e = absurd cc
  in_work (FanIn l n) e = absurd cc
  in_work (FanOut l n) e = absurd cc
  in_work (Custom l inputs outputs) e = absurd cc
  in_work (Writing k d) e = absurd cc
  in_work (LaneIn u) e = refl
  in_work (LaneOut u) e = absurd cc

  not_both : (w : Work S D L H B) → is_lane_in w ≡ true → is_lane_out w ≡ true → ⊥
  not_both (Reading r) e f = cc
  not_both (Making k) e f = cc
  not_both (Linear l) e f = cc
  not_both (State l) e f = cc
  not_both (Sub l) e f = cc
  not_both (FanIn l n) e f = cc
  not_both (FanOut l n) e f = cc
  not_both (Custom l inputs outputs) e f = cc
  not_both (Writing k d) e f = cc
  not_both (LaneIn u) e f = cc
  not_both (LaneOut u) e f = cc

  out_place : (ps : List (Seated S D L H B)) (n : ℕ) → goes_out ps n ≡ true → (inputs_at ps n ≡ 1) × (outputs_at ps n ≡ 0)
  out_place [] n e = absurd cc
  out_place (p ∷ ps) zero e = out_work p.work e
  out_place (p ∷ ps) (suc n) e = out_place ps n e

  in_place : (ps : List (Seated S D L H B)) (n : ℕ) → comes_in ps n ≡ true → outputs_at ps n ≡ 1
  in_place [] n e = absurd cc
  in_place (p ∷ ps) zero e = in_work p.work e
  in_place (p ∷ ps) (suc n) e = in_place ps n e

  one_place : (ps : List (Seated S D L H B)) (n : ℕ) → comes_in ps n ≡ true → goes_out ps n ≡ true → ⊥
  one_place [] n e f = cc
  one_place (p ∷ ps) zero e f = not_both p.work e f
  one_place (p ∷ ps) (suc n) e f = one_place ps n e f

  -- ---- the lane that is wire u comes in, or goes out, at link q of these

  pub record ComesAt (ps : List (Seated S D L H B)) (ls : List Link) (i : Kept S D L H B) (u q : ℕ) : Type 0 where
    pub link : Link
    pub at : slice_get ls q ≡ Some link
    pub number : link.wire ≡ u
    pub comes : comes_in ps link.from ≡ true
    pub enters : Enters i u
    pub way : way_in i u ≡ q
    pub begins : (cell_in i u).wire.sent ≡ []

  pub record GoesAt (ps : List (Seated S D L H B)) (ls : List Link) (i : Kept S D L H B) (u q : ℕ) : Type 0 where
    pub link : Link
    pub at : slice_get ls q ≡ Some link
    pub number : link.wire ≡ u
    pub goes : goes_out ps link.to ≡ true
    pub leaves : Leaves i u
    pub way : way_out i u ≡ q
    pub begins : BeginsOut i.net (way_out i u)

  module _ (sources : S → SourceState) (drains : D → DrainState) (book : Book) (ps : List (Seated S D L H B)) (ls : List Link) (i : Kept S D L H B) (parts : AreParts ps ls) (settled : Settled node_port_state (node_law sources drains book) node_asking node_moves i.net) (become : AllBecome ps i.net.firsts)
      (ends : i.net.ends ≡ map ends_of ls) where
    end_is : (q : ℕ) (l : Link) → slice_get ls q ≡ Some l → end_at i.net.ends q ≡ ends_of l
    end_is q l at = ap (λ (es : List WireEnds). end_at es q) ends ∙ end_get ls q l at

    wiring : IsWiring (inputs_at ps) (outputs_at ps) (length ps) i.net.ends
    wiring = subst (IsWiring (inputs_at ps) (outputs_at ps) (length ps)) (sym ends) parts.wiring

    within : (q : ℕ) (l : Link) → slice_get ls q ≡ Some l → q < length i.net.ends
    within q l at =
        let lt : q < length ls = slice_get_within ls q l at in
        let e : length i.net.ends ≡ length ls = ap length ends ∙ length-map ls ends_of in
        omega (arith, lt, e)

    node_count : length i.net.nodes ≡ length ps
    node_count = sym settled.each_first ∙ become_count ps i.net.firsts become

    -- ---- where a lane goes out no other connection is

    only_there : (q : ℕ) (l : Link) → slice_get ls q ≡ Some l → goes_out ps l.to ≡ true → HasOnly (ports_at i.net (end_at i.net.ends q).to) q
    only_there q l at goes =
        let n : ℕ = (end_at i.net.ends q).to in
        let lt : q < length i.net.ends = within q l at in
        let wired = settled.wired in
        let node : n ≡ l.to = ap (λ (e : WireEnds). e.to) (end_is q l at) in
        let two = out_place ps l.to goes in
        let place : n < length ps = wiring.to_within q lt in
        let here : n < length i.net.nodes = omega (arith, place, node_count) in
        let ins : length (ports_at i.net n).ins ≡ 1 = ins_count (inputs_at ps) (outputs_at ps) (length ps) i.net.ends i.net.ports (length i.net.nodes) (length i.net.wires) n wired wiring place here ∙ (ap (inputs_at ps) node ∙ two.0) in
        let outs : length (ports_at i.net n).outs ≡ 0 = outs_count (inputs_at ps) (outputs_at ps) (length ps) i.net.ends i.net.ports (length i.net.nodes) (length i.net.wires) n wired wiring place here ∙ (ap (outputs_at ps) node ∙ two.1) in
        let slot : slice_get (ports_at i.net n).ins (end_at i.net.ends q).input ≡ Some q = wired.to_input q (omega (arith, lt, wired.each_wire)) in
        let few : (end_at i.net.ends q).input < length (ports_at i.net n).ins = slice_get_within (ports_at i.net n).ins (end_at i.net.ends q).input q slot in
        let first : 0 ≡ (end_at i.net.ends q).input = omega (arith, few, ins) in
        let one : (ports_at i.net n).ins ≡ q ∷ [] = one_item (ports_at i.net n).ins q ins (ap (slice_get (ports_at i.net n).ins) first ∙ slot) in
        let none : (ports_at i.net n).outs ≡ [] = no_items (ports_at i.net n).outs outs in
        ap (λ (z : List ℕ). z ++ (ports_at i.net n).outs) one ∙ ap (λ (z : List ℕ). q ∷ z) none

    pub only : (u q : ℕ) → GoesAt ps ls i u q → HasOnly (ports_at i.net (out_node i u)) (way_out i u)
    only u q g = subst (λ (z : ℕ). HasOnly (ports_at i.net (end_at i.net.ends z).to) z) (sym g.way) (only_there q g.link g.at g.goes)

    -- ---- no two ends have one stage

    same_number : (p q : ℕ) (l m : Link) → slice_get ls p ≡ Some l → slice_get ls q ≡ Some m → p ≡ q → l.wire ≡ m.wire
    same_number p q l m a b e = ap (λ (x : Link). x.wire) (some_same l m (sym a ∙ (ap (slice_get ls) e ∙ b)))

    in_stage : (u q : ℕ) (c : ComesAt ps ls i u q) → in_node i u ≡ (end_at i.net.ends q).from
    in_stage u q c = ap (λ (z : ℕ). (end_at i.net.ends z).from) c.way

    out_stage : (u q : ℕ) (c : GoesAt ps ls i u q) → out_node i u ≡ (end_at i.net.ends q).to
    out_stage u q c = ap (λ (z : ℕ). (end_at i.net.ends z).to) c.way

    first_output : (u q : ℕ) (c : ComesAt ps ls i u q) → (end_at i.net.ends q).output ≡ 0
    first_output u q c =
        let few = wiring.output_within q (within q c.link c.at) in
        let one : outputs_at ps (end_at i.net.ends q).from ≡ 1 = ap (λ (e : WireEnds). outputs_at ps e.from) (end_is q c.link c.at) ∙ in_place ps c.link.from c.comes in
        omega (arith, few, one)

    first_input : (u q : ℕ) (c : GoesAt ps ls i u q) → (end_at i.net.ends q).input ≡ 0
    first_input u q c =
        let few = wiring.input_within q (within q c.link c.at) in
        let one : inputs_at ps (end_at i.net.ends q).to ≡ 1 = ap (λ (e : WireEnds). inputs_at ps e.to) (end_is q c.link c.at) ∙ (out_place ps c.link.to c.goes).0 in
        omega (arith, few, one)

    pub ins_one : (u v p q : ℕ) → ComesAt ps ls i u p → ComesAt ps ls i v q → in_node i u ≡ in_node i v → u ≡ v
    ins_one u v p q a b e =
        let from : (end_at i.net.ends p).from ≡ (end_at i.net.ends q).from = sym (in_stage u p a) ∙ (e ∙ in_stage v q b) in
        let same : p ≡ q = wiring.one_output p q (within p a.link a.at) (within q b.link b.at) from (first_output u p a ∙ sym (first_output v q b)) in
        sym a.number ∙ (same_number p q a.link b.link a.at b.at same ∙ b.number)

    pub outs_one : (u v p q : ℕ) → GoesAt ps ls i u p → GoesAt ps ls i v q → out_node i u ≡ out_node i v → u ≡ v
    outs_one u v p q a b e =
        let to : (end_at i.net.ends p).to ≡ (end_at i.net.ends q).to = sym (out_stage u p a) ∙ (e ∙ out_stage v q b) in
        let same : p ≡ q = wiring.one_input p q (within p a.link a.at) (within q b.link b.at) to (first_input u p a ∙ sym (first_input v q b)) in
        sym a.number ∙ (same_number p q a.link b.link a.at b.at same ∙ b.number)

    pub none_both : (u v p q : ℕ) → ComesAt ps ls i u p → GoesAt ps ls i v q → in_node i u ≡ out_node i v → ⊥
    none_both u v p q a b e =
        let from : (end_at i.net.ends p).from ≡ a.link.from = ap (λ (x : WireEnds). x.from) (end_is p a.link a.at) in
        let to : (end_at i.net.ends q).to ≡ b.link.to = ap (λ (x : WireEnds). x.to) (end_is q b.link b.at) in
        let same : a.link.from ≡ b.link.to = sym from ∙ (sym (in_stage u p a) ∙ (e ∙ (out_stage v q b ∙ to))) in
        one_place ps b.link.to (ap (comes_in ps) (sym same) ∙ a.comes) b.goes

    -- ---- no connection is at two

    pub ways_differ : (u v p q : ℕ) (a : ComesAt ps ls i u p) → GoesAt ps ls i v q → goes_out ps a.link.to ≡ false → way_in i u ≢ way_out i v
    ways_differ u v p q a b none e =
        let place : p ≡ q = sym a.way ∙ (e ∙ b.way) in
        let same : a.link ≡ b.link = some_same a.link b.link (sym a.at ∙ (ap (slice_get ls) place ∙ b.at)) in
        let goes : goes_out ps a.link.to ≡ true = ap (λ (x : Link). goes_out ps x.to) same ∙ b.goes in
        absurd cc
