-- Only elements of the type that is settled for a wire may pass it.
use Rattle.std.proofs.Common.{◌≡◌, ℕ, zero, suc, ◌<◌, Bool, true, false, List, [], ◌∷◌, length, map, Option, Some, None, refl, sym, ap, ◌∙◌, subst, arith}
use Rattle.std.specs.Prelude.{slice_get, unwrap_or}
use Rattle.std.specs.Option.{option_map}
use Rattle.elem_core.specs.Sort.{Sort, pair_type}
use Rattle.stream_model.specs.Composed.{inputs_of, count_from, received, wire_loss, incoming, ports_of, given_on, sent_on, next, composed, IsRanked}
use Rattle.stream_model.specs.Graph.{Graph, Edge, find_wire}
use Rattle.stream_model.specs.Graph as graph
use Rattle.stream_model.specs.Linear.{told_book}
use Rattle.stream_model.specs.Node.{World, custom_by, node_outlook}
use Rattle.stream_model.specs.Outlook.{Outlook}
use Rattle.stream_model.specs.declared.kind.Kind.TheVariants.{Custom, Zip}
use Rattle.stream_model.proofs.Compositions.{slice_get-below, composed_composes}
use Rattle.stream_model.specs.declared.blueprint.ChainDecl.{ChainDecl}
use Rattle.stream_model.specs.declared.blueprint.Node.{Node}
use Rattle.stream_model.specs.declared.blueprint.WireDecl.{WireDecl}
use Rattle.stream_model.specs.Known.{HeadLists}
use Rattle.blue_names.specs.CustomPorts.{custom_named, kind_inputs, kind_outputs, output_type}
use Rattle.blue_names.specs.Rounds.{wire_into, type_on, port_type, half_type, arrivals, attempt, settled, is_joining, is_deep, clash_of}
use Rattle.blue_names.specs.StageTypes.{limited, source_type, stage_typed}
use Rattle.blue_names.specs.declared.typed.Typed.TheVariants.{Gives}
use Rattle.materializer.specs.Graphs.{graph_node}
use Rattle.materializer.proofs.Used.{known_by, inputs_in_graph}
use Rattle.run_blueprint.specs.Checked.{PassesRules, wire_type, CarriesType}
use Rattle.run_blueprint.specs.Kinds.{Shape, source, joining, zipping, single, hired, shape_of, port_want, chain_in, StepsTake}
use Rattle.run_blueprint.specs.Plugs.{KeepsPlugTypes, GivenTyped}
use Rattle.run_blueprint.specs.Types.{AllTyped, OutlooksTyped, TakesSort}
use Rattle.run_blueprint.proofs.Lists.{retype_all}
use Rattle.run_blueprint.proofs.Given.{limited_is}
use Rattle.run_blueprint.proofs.Stages.{source_keeps, single_keeps, joining_keeps, zip_keeps}
use Rattle.run_blueprint.proofs.Rules.{ends_there, Into, into_from, input_there, output_there, has_output_type, heads_fit, joins_alike, known_kind, known_steps, only_wire, meets, meets_port, not_deep}
use Rattle.run_blueprint.proofs.Origins.{Origin, by_source, by_round, origin}
use Rattle.run_blueprint.proofs.Shapes.{one_input, is_zip, hired_is, no_input, joins, stands_apart, whole_source, whole_joining, no_source, source_tries, single_gives, takes, joining_takes, port_takes, Chained, chained, bare, is_chained, single_given}
use Rattle.run_blueprint.proofs.Chains.{chain_takes}
use Rattle.run_blueprint.proofs.ToldTypes.{told_typed}
use Rattle.run_blueprint.proofs.Settling.{all_by_rank, HasSettled, TypedInput, typed_input, every_wire_settles}

pub plain_at : (decls : List WireDecl) (nodes : List Node) (k : ℕ) (n : Node) → slice_get nodes k ≡ Some n → slice_get (map (graph_node decls) nodes) k ≡ Some (graph_node decls n)
plain_at decls [] k n h = cc
plain_at decls (m ∷ nodes) zero n h = let same : m ≡ n = cc in ap (λ x. Some (graph_node decls x)) same
plain_at decls (m ∷ nodes) (suc k) n h = plain_at decls nodes k n h

pub one_some : (o : Option Sort) (s t : Sort) → o ≡ Some s → o ≡ Some t → s ≡ t
one_some o s t h k = let e : Option.Some s ≡ Some t = sym h ∙ k in cc

-- what a zip gave for
record Paired (a b : Option Sort) (u : Sort) : Type 0 where
  left : Sort
  right : Sort
  left_is : a ≡ Some left
  right_is : b ≡ Some right
  pair_is : pair_type left right ≡ u

module _ (heads : HeadLists) (chains : List ChainDecl) where
  paired_from : (a b : Option Sort) (u : Sort) → attempt heads chains Zip (a ∷ b ∷ []) ≡ Some (Gives u) → Paired a b u
  paired_from None b u h = cc
  paired_from (Some t) None u h = cc
  paired_from (Some t) (Some s) u h =
      let lim : limited (pair_type t s) ≡ Gives u = cc in
      record { left = t; right = s; left_is = refl; right_is = refl; pair_is = limited_is (pair_type t s) u lim }

module _ (heads : HeadLists) (chains : List ChainDecl) (nodes : List Node) (g : Graph) where
  abbrev types : ℕ → Option Sort
  types = settled heads chains nodes g.wires

  -- a type that an earlier round settled for a wire
  later_by : (f : Sort → Sort) (a b : Option Sort) (t : Sort) → ((s : Sort) → a ≡ Some s → b ≡ Some s) → option_map f a ≡ Some t → option_map f b ≡ Some t
  later_by f None b t keeps h = cc
  later_by f (Some s) b t keeps h = ap (option_map f) (keeps s refl) ∙ h

  later_on : (earlier : ℕ → Option Sort) → ((i : ℕ) (s : Sort) → earlier i ≡ Some s → types i ≡ Some s) → (o : Option Edge) (t : Sort) → type_on heads nodes g.wires earlier o ≡ Some t → type_on heads nodes g.wires types o ≡ Some t
  later_on earlier keeps None t h = cc
  later_on earlier keeps (Some v) t h = later_by (port_type heads (slice_get nodes v.from) v.output) (earlier v.from) (types v.from) t (keeps v.from) h

  module _ (w : World) (sent : ℕ → Outlook) where
    -- what may pass wire i is of the type that is settled for it
    pub record HasTyped (i : ℕ) : Type 0 where
      pub typed : (v : Edge) → slice_get g.wires i ≡ Some v → (t : Sort) → wire_type heads chains nodes g v ≡ Some t → AllTyped t (sent i).list

    received_typed : (l : Option ℕ) (o : Outlook) (t : Sort) → AllTyped t o.list → AllTyped t (received g w l o).list
    received_typed None o t h = h
    received_typed (Some s) o t h = h

    -- what comes in on an input
    comes_typed : (k p : ℕ) (i : TypedInput heads chains nodes g k p) → HasTyped i.into.number → AllTyped i.type (incoming g w sent (find_wire k p g.wires)).list
    comes_typed k p i h =
        let number = i.into.number in
        subst (λ o. AllTyped i.type (incoming g w sent o).list) (sym i.into.finds)
        (received_typed (wire_loss g w (slice_get g.wires number)) (sent number) i.type (h.typed i.into.wire i.into.at i.type i.on_wire))

    module _ (rank : ℕ → ℕ) (ranked : IsRanked g rank) (passes : PassesRules heads chains nodes g) (keeps : KeepsPlugTypes heads w.book) (gave : GivenTyped heads nodes g.wires w) where
      pub settles : (i : ℕ) → i < length g.wires → HasSettled heads chains nodes g i
      settles = every_wire_settles heads chains nodes g rank ranked passes

      input_typed : (k p : ℕ) → Into nodes g.wires k p → TypedInput heads chains nodes g k p
      input_typed k p i = typed_input heads chains nodes g k p i (settles i.number (slice_get-below g.wires i.number i.wire i.at))

      module _ (j : ℕ) (v : Edge) (n : Node) (at : slice_get g.wires j ≡ Some v) (is : slice_get nodes v.from ≡ Some n) (below : (i : ℕ) → i < length g.wires → rank i < rank j → HasTyped i) (u : Sort) (has : types v.from ≡ Some u) where
        abbrev ins : ℕ → List Outlook
        ins m = ports_of g w sent v.from (count_from 0 m)

        abbrev Gave : List Outlook → Type 0
        Gave os = AllTyped (half_type heads n.kind v.output u) (node_outlook g w v.from n.kind n.decider os v.output).list

        input_below : (p : ℕ) (i : Into nodes g.wires v.from p) → HasTyped i.number
        input_below p i = below i.number (slice_get-below g.wires i.number i.wire i.at) (ranked.rises i.number j i.wire v i.at at i.to)

        input_at : (p : ℕ) → p < kind_inputs heads n.kind → Into nodes g.wires v.from p
        input_at p lt = input_there heads nodes g.wires passes.no_open v.from p n is lt

        source_gives : shape_of n.kind ≡ source → (os : List Outlook) → Gave os
        source_gives s os =
            rw (whole_source heads n.kind v.output u s) (by_origin (origin heads chains nodes g.wires v.from n u is has))
          where
            by_origin : Origin heads chains nodes g.wires v.from n u → AllTyped u (node_outlook g w v.from n.kind n.decider os v.output).list
            by_origin (by_source h) = source_keeps g w v.from n.decider os n.kind u h v.output
            by_origin (by_round earlier keeps h) =
                absurd (source_tries heads chains n.kind u s (subst (λ m. attempt heads chains n.kind (arrivals heads nodes g.wires earlier v.from (count_from 0 m)) ≡ Some (Gives u)) (no_input heads n.kind s) h))

        single_at : shape_of n.kind ≡ single → Gave (ins 1)
        single_at s =
            let one = one_input heads n.kind s in
            let i = input_typed v.from 0 (input_at 0 (rw one (omega arith))) in
            let met = meets heads chains nodes g.wires passes.no_clash i.into.number i.into.wire v.from n i.type i.into.at i.into.to is i.on_wire (stands_apart n.kind s) in
            single_keeps g w v.from n.decider (ins 1) heads chains keeps passes.chains_are (known_steps heads chains nodes passes.no_unknown).all i.type u (comes_typed v.from 0 i (input_below 0 i.into)) n.kind (known_kind heads chains nodes passes.no_unknown v.from n is) s
            (by_origin one i (origin heads chains nodes g.wires v.from n u is has) met) v.output
          where
            by_origin : kind_inputs heads n.kind ≡ 1 → (i : TypedInput heads chains nodes g v.from 0) → Origin heads chains nodes g.wires v.from n u
                → clash_of i.into.number (stage_typed heads chains n.kind i.type) ≡ None → stage_typed heads chains n.kind i.type ≡ Gives u
            by_origin one i (by_source h) met = absurd (no_source n.kind u s h)
            by_origin one i (by_round earlier keeps h) met =
                single_gives heads chains n.kind (known_kind heads chains nodes passes.no_unknown v.from n is) s i.into.number i.type met (type_on heads nodes g.wires earlier (wire_into nodes g.wires v.from 0)) u
                (λ t e. one_some (type_on heads nodes g.wires types (wire_into nodes g.wires v.from 0)) i.type t i.comes (later_on earlier keeps (wire_into nodes g.wires v.from 0) t e))
                (subst (λ m. attempt heads chains n.kind (arrivals heads nodes g.wires earlier v.from (count_from 0 m)) ≡ Some (Gives u)) one h)

        -- an input of a node that joins, where a wire is found
        joined_input : shape_of n.kind ≡ joining → (p : ℕ) (o : Option ℕ) → find_wire v.from p g.wires ≡ o → AllTyped u (incoming g w sent (find_wire v.from p g.wires)).list
        joined_input s p None e = rw e tt
        joined_input s p (Some m) e =
            let i = input_typed v.from p (into_from nodes g.wires v.from p m e) in
            retype_all i.type u (incoming g w sent (find_wire v.from p g.wires)).list
            (joins_alike heads chains nodes g.wires passes.no_clash i.into.number i.into.wire v.from n i.type u i.into.at i.into.to is i.on_wire (joins n.kind s) has)
            (comes_typed v.from p i (input_below p i.into))

        joined_inputs : shape_of n.kind ≡ joining → (ps : List ℕ) → OutlooksTyped u (ports_of g w sent v.from ps)
        joined_inputs s [] = tt
        joined_inputs s (p ∷ ps) = (joined_input s p (find_wire v.from p g.wires) refl, joined_inputs s ps)

        joining_at : shape_of n.kind ≡ joining → (m : ℕ) → Gave (ins m)
        joining_at s m = rw (whole_joining heads n.kind v.output u s) (joining_keeps g w v.from n.decider (ins m) n.kind u s (joined_inputs s (count_from 0 m)) v.output)

        zip_at : n.kind ≡ Zip → Gave (ins 2)
        zip_at z =
            let two : kind_inputs heads n.kind ≡ 2 = ap (kind_inputs heads) z in
            let a = input_typed v.from 0 (input_at 0 (rw two (omega arith))) in
            let b = input_typed v.from 1 (input_at 1 (rw two (omega arith))) in
            let t = by_origin two a b (origin heads chains nodes g.wires v.from n u is has) in
            subst (λ q. AllTyped (half_type heads q v.output u) (node_outlook g w v.from q n.decider (ins 2) v.output).list) (sym z)
            (retype_all (pair_type a.type b.type) u (node_outlook g w v.from Zip n.decider (ins 2) v.output).list t
            (zip_keeps g w v.from n.decider (ins 2) a.type b.type (comes_typed v.from 0 a (input_below 0 a.into)) (comes_typed v.from 1 b (input_below 1 b.into)) v.output))
          where
            by_pair : (a : TypedInput heads chains nodes g v.from 0) (b : TypedInput heads chains nodes g v.from 1) (earlier : ℕ → Option Sort) → ((i : ℕ) (s : Sort) → earlier i ≡ Some s → types i ≡ Some s)
                → Paired (type_on heads nodes g.wires earlier (wire_into nodes g.wires v.from 0)) (type_on heads nodes g.wires earlier (wire_into nodes g.wires v.from 1)) u → pair_type a.type b.type ≡ u
            by_pair a b earlier keeps p =
                let l = one_some (type_on heads nodes g.wires types (wire_into nodes g.wires v.from 0)) a.type p.left a.comes (later_on earlier keeps (wire_into nodes g.wires v.from 0) p.left p.left_is) in
                let r = one_some (type_on heads nodes g.wires types (wire_into nodes g.wires v.from 1)) b.type p.right b.comes (later_on earlier keeps (wire_into nodes g.wires v.from 1) p.right p.right_is) in
                ap (λ x. pair_type x b.type) l ∙ ap (pair_type p.left) r ∙ p.pair_is

            by_origin : kind_inputs heads n.kind ≡ 2 → (a : TypedInput heads chains nodes g v.from 0) (b : TypedInput heads chains nodes g v.from 1) → Origin heads chains nodes g.wires v.from n u → pair_type a.type b.type ≡ u
            by_origin two a b (by_source h) = let no : source_type Zip ≡ Some u = subst (λ q. source_type q ≡ Some u) z h in cc
            by_origin two a b (by_round earlier keeps h) =
                let of_two = subst (λ m. attempt heads chains n.kind (arrivals heads nodes g.wires earlier v.from (count_from 0 m)) ≡ Some (Gives u)) two h in
                by_pair a b earlier keeps
                (paired_from heads chains (type_on heads nodes g.wires earlier (wire_into nodes g.wires v.from 0)) (type_on heads nodes g.wires earlier (wire_into nodes g.wires v.from 1)) u
                (subst (λ q. attempt heads chains q (arrivals heads nodes g.wires earlier v.from (0 ∷ 1 ∷ [])) ≡ Some (Gives u)) z of_two))

        -- a custom stage gives what it gave, which is of the types of its head, or the list that it tells
        given_by : (name : List ℕ) → n.kind ≡ Custom name → (o : Option Sort) → output_type (custom_named heads name) v.output ≡ o → (b : Bool) → w.book.tells name ≡ b → (os : List Outlook)
            → AllTyped (unwrap_or o u) (custom_by g w v.from name n.decider os v.output b).list
        given_by name z (Some t) e false f os = gave.typed j v n name t at is z f e
        given_by name z (Some t) e true f os = told_typed (told_book w.book) name t (gave.told name v.output t f e) v.from n.decider os
        given_by name z None e b f os =
            absurd (has_output_type (custom_named heads name) v.output (subst (λ q. v.output < kind_outputs heads q) z (output_there heads chains nodes g.wires passes.no_unknown passes.no_missing passes.no_open j v n at is)) e)

        hired_gives : (name : List ℕ) × (n.kind ≡ Custom name) → (os : List Outlook) → Gave os
        hired_gives c os =
            subst (λ q. AllTyped (half_type heads q v.output u) (node_outlook g w v.from q n.decider os v.output).list) (sym c.1)
            (given_by c.0 c.1 (output_type (custom_named heads c.0) v.output) refl (w.book.tells c.0) refl os)

        gives_by : (q : Shape) → shape_of n.kind ≡ q → Gave (ins (kind_inputs heads n.kind))
        gives_by source s = source_gives s (ins (kind_inputs heads n.kind))
        gives_by joining s = joining_at s (kind_inputs heads n.kind)
        gives_by zipping s = let z = is_zip n.kind s in let two : 2 ≡ kind_inputs heads n.kind = sym (ap (kind_inputs heads) z) in subst (λ m. Gave (ins m)) two (zip_at z)
        gives_by single s = subst (λ m. Gave (ins m)) (sym (one_input heads n.kind s)) (single_at s)
        gives_by hired s = hired_gives (hired_is n.kind s) (ins (kind_inputs heads n.kind))

        -- it has the same inputs in the graph
        inputs_same : kind_inputs heads n.kind ≡ inputs_of (graph_node passes.decls n)
        inputs_same =
            inputs_in_graph heads passes.decls n (known_by heads chains nodes passes.no_unknown v.from n is) (heads_fit heads nodes passes.no_wrong v.from n is) (λ h e. passes.ports_are v.from n h is e)

        -- what node v.from gives on the wire
        pub node_gives : AllTyped (half_type heads n.kind v.output u) (next g w sent j).list
        node_gives =
            let in_graph : slice_get g.nodes v.from ≡ Some (graph_node passes.decls n) = ap (λ (l : List graph.Node). slice_get l v.from) passes.nodes_are ∙ plain_at passes.decls nodes v.from n is in
            let of_wire : next g w sent j ≡ given_on g w sent v.from (Some (graph_node passes.decls n)) v.output =
            ap (sent_on g w sent) at ∙ ap (λ (m : Option graph.Node). given_on g w sent v.from m v.output) in_graph in
            subst (λ (o : Outlook). AllTyped (half_type heads n.kind v.output u) o.list) (sym of_wire) (subst (λ m. Gave (ins m)) inputs_same (gives_by (shape_of n.kind) refl))

      -- the type of the node at the beginning of a wire is that of the wire
      pub type_from : (j : ℕ) (v : Edge) (n : Node) (u : Sort) → slice_get nodes v.from ≡ Some n → types v.from ≡ Some u → wire_type heads chains nodes g v ≡ Some (half_type heads n.kind v.output u)
      type_from j v n u is has = ap (λ m. option_map (port_type heads m v.output) (types v.from)) is ∙ ap (option_map (half_type heads n.kind v.output)) has

      -- what node v.from gives on wire j, by the type of the wire
      pub next_typed : (j : ℕ) → j < length g.wires → ((i : ℕ) → i < length g.wires → rank i < rank j → HasTyped i) → (v : Edge) → slice_get g.wires j ≡ Some v → (t : Sort) → wire_type heads chains nodes g v ≡ Some t
          → AllTyped t (next g w sent j).list
      next_typed j l below v at t e =
          let n = (ends_there heads nodes g.wires passes.no_missing j v at).0 in
          let u = (settles j l).type_of v at in
          let same = one_some (wire_type heads chains nodes g v) (half_type heads n.node.kind v.output u.0) t (type_from j v n.node u.0 n.is u.1) e in
          retype_all (half_type heads n.node.kind v.output u.0) t (next g w sent j).list same (node_gives j v n.node at n.is below u.0 u.1)

  module _ (w : World) (rank : ℕ → ℕ) (ranked : IsRanked g rank) (passes : PassesRules heads chains nodes g) (keeps : KeepsPlugTypes heads w.book) (gave : GivenTyped heads nodes g.wires w) where
    wire_gives : (j : ℕ) → j < length g.wires → ((i : ℕ) → i < length g.wires → rank i < rank j → HasTyped w (composed g w) i) → HasTyped w (composed g w) j
    wire_gives j l below = record {
      typed = λ v at t e.
          subst (λ (o : Outlook). AllTyped t o.list) (composed_composes g w rank ranked j l) (next_typed w (composed g w) rank ranked passes keeps gave j l below v at t e);
    }

    pub every_wire_typed : (i : ℕ) → i < length g.wires → HasTyped w (composed g w) i
    every_wire_typed = all_by_rank rank (length g.wires) (HasTyped w (composed g w)) wire_gives

    -- the input at the end of a wire
    target_takes : (i : ℕ) (v : Edge) (m : Node) (t : Sort) → slice_get g.wires i ≡ Some v → slice_get nodes v.to ≡ Some m → wire_type heads chains nodes g v ≡ Some t → (b : Bool) → is_joining m.kind ≡ b → TakesSort (port_want heads m.kind v.input) t
    target_takes i v m t at to e true j = joining_takes heads chains m.kind v.input t j
    target_takes i v m t at to e false j =
        port_takes heads chains m.kind v.input i t (meets_port heads chains nodes g.wires passes.no_clash i v v.to m t at refl to e j)
        (takes heads chains m.kind i t (known_kind heads chains nodes passes.no_unknown v.to m to) (meets heads chains nodes g.wires passes.no_clash i v v.to m t at refl to e j))

    -- the functions of the steps of its chain
    target_steps : (i : ℕ) (v : Edge) (m : Node) (t : Sort) → slice_get g.wires i ≡ Some v → slice_get nodes v.to ≡ Some m → wire_type heads chains nodes g v ≡ Some t → Chained m.kind → StepsTake heads (chain_in chains m.kind) t
    target_steps i v m t at to e (bare h) = h heads chains t
    target_steps i v m t at to e (chained s f) =
        let one = one_input heads m.kind s in
        let into = only_wire heads chains nodes g.wires passes.no_unknown passes.no_missing passes.no_twice passes.no_open i v m at to one in
        let comes : arrivals heads nodes g.wires types v.to (count_from 0 (kind_inputs heads m.kind)) ≡ Some t ∷ [] =
        ap (λ k. arrivals heads nodes g.wires types v.to (count_from 0 k)) one ∙ ap (λ (o : Option Edge). type_on heads nodes g.wires types o ∷ []) into ∙ ap (λ (o : Option Sort). o ∷ []) e in
        let met = meets heads chains nodes g.wires passes.no_clash i v v.to m t at refl to e (stands_apart m.kind s) in
        let r = single_given heads chains m.kind (known_kind heads chains nodes passes.no_unknown v.to m to) s i t met (f heads)
        (subst (λ os. is_deep (attempt heads chains m.kind os) ≡ false) comes (not_deep heads chains nodes g.wires passes.no_deep v.to m to)) in
        chain_takes heads chains m.kind t r.type r.is

    pub every_wire_carries : (i : ℕ) (v : Edge) → slice_get g.wires i ≡ Some v → CarriesType heads chains nodes g w i v
    every_wire_carries i v at =
        let l = slice_get-below g.wires i v at in
        let ends = ends_there heads nodes g.wires passes.no_missing i v at in
        let u = (every_wire_settles heads chains nodes g rank ranked passes i l).type_of v at in
        let e : wire_type heads chains nodes g v ≡ Some (port_type heads (slice_get nodes v.from) v.output u.0) = ap (option_map (port_type heads (slice_get nodes v.from) v.output)) u.1 in
        record {
          type = port_type heads (slice_get nodes v.from) v.output u.0;
          settles = e;
          typed = (every_wire_typed i l).typed v at (port_type heads (slice_get nodes v.from) v.output u.0) e;
          target = ends.1.node;
          at = ends.1.is;
          takes = target_takes i v ends.1.node (port_type heads (slice_get nodes v.from) v.output u.0) at ends.1.is e (is_joining ends.1.node.kind) refl;
          steps = target_steps i v ends.1.node (port_type heads (slice_get nodes v.from) v.output u.0) at ends.1.is e (is_chained ends.1.node.kind);
        }
