-- Where no directed walk of wires is closed, a type is settled for every wire.
use Rattle.std.proofs.Common.{◌≡◌, ℕ, zero, suc, ◌+◌, ◌<◌, false, List, [], ◌∷◌, length, Option, Some, None, refl, sym, ap, ◌∙◌, subst, arith}
use Rattle.std.specs.Prelude.{slice_get}
use Rattle.std.specs.Option.{option_or, option_map}
use Rattle.elem_core.specs.Sort.{Sort, pair_type}
use Rattle.stream_model.specs.Composed.{count_from, IsRanked}
use Rattle.stream_model.specs.Graph.{Graph, Edge}
use Rattle.stream_model.specs.declared.kind.Kind.TheVariants.{Custom, Zip}
use Rattle.stream_model.proofs.Compositions.{slice_get-below}
use Rattle.stream_model.specs.declared.blueprint.ChainDecl.{ChainDecl}
use Rattle.stream_model.specs.declared.blueprint.Node.{Node}
use Rattle.stream_model.specs.Known.{HeadLists}
use Rattle.blue_names.specs.CustomPorts.{custom_named, kind_inputs, kind_outputs, outputs_type}
use Rattle.blue_names.specs.Rounds.{wire_into, type_on, port_type, arrivals, first_typed, attempt, attempt_at, attempt_by, fixes, is_deep, settled}
use Rattle.blue_names.specs.StageTypes.{limited}
use Rattle.run_blueprint.specs.Checked.{PassesRules}
use Rattle.run_blueprint.specs.Kinds.{Shape, source, joining, zipping, single, hired, shape_of}
use Rattle.run_blueprint.proofs.Rules.{ends_there, Into, input_there, output_there, no_outputs, joins_some, known_kind, meets, not_deep}
use Rattle.run_blueprint.proofs.Origins.{source_settles, settles_no_more}
use Rattle.run_blueprint.proofs.Shapes.{one_input, is_zip, hired_is, stands_apart, type_of_source, joining_tries, single_fixes, must_fix, limited_meets}

-- by the order of ranks, of anything
module _ (rank : ℕ → ℕ) (n : ℕ) (P : ℕ → Type 0) where
  by_rank : ((j : ℕ) → j < n → ((i : ℕ) → i < n → rank i < rank j → P i) → P j) → (k i : ℕ) → i < n → rank i < k → P i
  by_rank f zero i h r = absurd (omega arith)
  by_rank f (suc k) i h r = f i h (λ j l s. by_rank f k j l (omega (arith, r, s)))

  pub all_by_rank : ((j : ℕ) → j < n → ((i : ℕ) → i < n → rank i < rank j → P i) → P j) → (i : ℕ) → i < n → P i
  all_by_rank f i h = by_rank f (suc (rank i)) i h (omega arith)

module _ (heads : HeadLists) (chains : List ChainDecl) (nodes : List Node) (g : Graph) where
  abbrev types : ℕ → Option Sort
  types = settled heads chains nodes g.wires

  -- a type is settled for wire i
  pub record HasSettled (i : ℕ) : Type 0 where
    pub type_of : (v : Edge) → slice_get g.wires i ≡ Some v → (u : Sort) × (types v.from ≡ Some u)

  -- the type that comes in on an input
  pub record TypedInput (k p : ℕ) : Type 0 where
    pub into : Into nodes g.wires k p
    pub type : Sort
    pub on_wire : type_on heads nodes g.wires types (Some into.wire) ≡ Some type
    pub comes : type_on heads nodes g.wires types (wire_into nodes g.wires k p) ≡ Some type

  pub typed_input : (k p : ℕ) (i : Into nodes g.wires k p) → HasSettled i.number → TypedInput k p
  typed_input k p i h =
      let u = h.type_of i.wire i.at in
      let on : type_on heads nodes g.wires types (Some i.wire) ≡ Some (port_type heads (slice_get nodes i.wire.from) i.wire.output u.0) = ap (option_map (port_type heads (slice_get nodes i.wire.from) i.wire.output)) u.1 in
      record { into = i; type = port_type heads (slice_get nodes i.wire.from) i.wire.output u.0; on_wire = on; comes = ap (type_on heads nodes g.wires types) i.into ∙ on }

  module _ (rank : ℕ → ℕ) (ranked : IsRanked g rank) (passes : PassesRules heads chains nodes g) where
    -- what comes in on an input of the node at which a wire begins, where types are settled for the wires of lower rank
    pub input_of : (j : ℕ) (v : Edge) (n : Node) → slice_get g.wires j ≡ Some v → slice_get nodes v.from ≡ Some n → ((i : ℕ) → i < length g.wires → rank i < rank j → HasSettled i)
        → (p : ℕ) → p < kind_inputs heads n.kind → TypedInput v.from p
    input_of j v n at is below p lt =
        let i = input_there heads nodes g.wires passes.no_open v.from p n is lt in
        typed_input v.from p i (below i.number (slice_get-below g.wires i.number i.wire i.at) (ranked.rises i.number j i.wire v i.at at i.to))

    -- it would be fixed by one more round, and that round fixes nothing
    no_news : (k : ℕ) (n : Node) → slice_get nodes k ≡ Some n → types k ≡ None → fixes (attempt heads chains n.kind (arrivals heads nodes g.wires types k (count_from 0 (kind_inputs heads n.kind)))) ≡ None
    no_news k n is none =
        let at_k : (ℕ → Option Sort) → Option Sort = λ t. t k in
        let round = ap at_k (settles_no_more heads chains nodes g.wires) in
        let open_here = subst (λ o. option_or o (fixes (attempt_at heads chains nodes g.wires types k (slice_get nodes k))) ≡ o) none round in
        subst (λ m. fixes (attempt_at heads chains nodes g.wires types k m) ≡ None) is open_here

    shallow : (k : ℕ) (n : Node) → slice_get nodes k ≡ Some n → is_deep (attempt heads chains n.kind (arrivals heads nodes g.wires types k (count_from 0 (kind_inputs heads n.kind)))) ≡ false
    shallow k n is = not_deep heads chains nodes g.wires passes.no_deep k n is

    first_of_some : (k m : ℕ) (o : Option Sort) (t : Sort) → 0 < m → type_on heads nodes g.wires types (wire_into nodes g.wires k 0) ≡ Some t → first_typed (arrivals heads nodes g.wires types k (count_from 0 m)) ≡ Some t
    first_of_some k zero o t lt e = absurd (omega (arith, lt))
    first_of_some k (suc m) o t lt e = ap (λ a. option_or a (first_typed (arrivals heads nodes g.wires types k (count_from (0 + 1) m)))) e

    module _ (j : ℕ) (v : Edge) (n : Node) (at : slice_get g.wires j ≡ Some v) (is : slice_get nodes v.from ≡ Some n) (below : (i : ℕ) → i < length g.wires → rank i < rank j → HasSettled i) (none : types v.from ≡ None) where
      single_must : shape_of n.kind ≡ single → ⊥
      single_must s =
          let one = one_input heads n.kind s in
          let lt : 0 < kind_inputs heads n.kind = rw one (omega arith) in
          let i = input_of j v n at is below 0 lt in
          let comes : arrivals heads nodes g.wires types v.from (count_from 0 (kind_inputs heads n.kind)) ≡ Some i.type ∷ [] =
          ap (λ m. arrivals heads nodes g.wires types v.from (count_from 0 m)) one ∙ ap (λ (o : Option Sort). o ∷ []) i.comes in
          let met = meets heads chains nodes g.wires passes.no_clash i.into.number i.into.wire v.from n i.type i.into.at i.into.to is i.on_wire (stands_apart n.kind s) in
          single_fixes heads chains n.kind (known_kind heads chains nodes passes.no_unknown v.from n is) s i.into.number i.type met
          (subst (λ os. is_deep (attempt heads chains n.kind os) ≡ false) comes (shallow v.from n is))
          (subst (λ os. fixes (attempt heads chains n.kind os) ≡ None) comes (no_news v.from n is none))

      joining_must : shape_of n.kind ≡ joining → ⊥
      joining_must s =
          let lt = joins_some heads nodes passes.no_wrong v.from n is s in
          let i = input_of j v n at is below 0 lt in
          let tries : attempt heads chains n.kind (arrivals heads nodes g.wires types v.from (count_from 0 (kind_inputs heads n.kind))) ≡ Some (limited i.type) =
          joining_tries heads chains n.kind (arrivals heads nodes g.wires types v.from (count_from 0 (kind_inputs heads n.kind))) s
          ∙ ap (option_map limited) (first_of_some v.from (kind_inputs heads n.kind) None i.type lt i.comes) in
          must_fix (limited i.type) 0 (limited_meets 0 i.type) (subst (λ o. is_deep o ≡ false) tries (shallow v.from n is)) (subst (λ o. fixes o ≡ None) tries (no_news v.from n is none))

      zip_must : n.kind ≡ Zip → ⊥
      zip_must z =
          let two : kind_inputs heads n.kind ≡ 2 = ap (kind_inputs heads) z in
          let a = input_of j v n at is below 0 (rw two (omega arith)) in
          let b = input_of j v n at is below 1 (rw two (omega arith)) in
          let comes : arrivals heads nodes g.wires types v.from (count_from 0 (kind_inputs heads n.kind)) ≡ Some a.type ∷ Some b.type ∷ [] =
          ap (λ m. arrivals heads nodes g.wires types v.from (count_from 0 m)) two ∙ ap (λ (o : Option Sort). o ∷ type_on heads nodes g.wires types (wire_into nodes g.wires v.from 1) ∷ []) a.comes
          ∙ ap (λ (o : Option Sort). Some a.type ∷ o ∷ []) b.comes in
          let tries : attempt heads chains n.kind (arrivals heads nodes g.wires types v.from (count_from 0 (kind_inputs heads n.kind))) ≡ Some (limited (pair_type a.type b.type)) =
          ap (attempt heads chains n.kind) comes ∙ ap (λ q. attempt heads chains q (Some a.type ∷ Some b.type ∷ [])) z in
          must_fix (limited (pair_type a.type b.type)) 0 (limited_meets 0 (pair_type a.type b.type)) (subst (λ o. is_deep o ≡ false) tries (shallow v.from n is)) (subst (λ o. fixes o ≡ None) tries (no_news v.from n is none))

      source_must : shape_of n.kind ≡ source → ⊥
      source_must s =
          let t = type_of_source n.kind s in
          let e = sym (source_settles heads chains nodes g.wires v.from n t.type is t.is) ∙ none in
          cc

      -- the head of a custom stage fixes a type where it has an output, as it has at the beginning of a wire
      head_must : (name : List ℕ) → n.kind ≡ Custom name → (o : Option Sort) → outputs_type (custom_named heads name) ≡ o → ⊥
      head_must name z (Some s) e =
          let tries : attempt heads chains n.kind (arrivals heads nodes g.wires types v.from (count_from 0 (kind_inputs heads n.kind))) ≡ Some (limited s) =
          ap (λ q. attempt heads chains q (arrivals heads nodes g.wires types v.from (count_from 0 (kind_inputs heads n.kind)))) z
          ∙ ap (λ f. attempt_by heads chains f (Custom name) (arrivals heads nodes g.wires types v.from (count_from 0 (kind_inputs heads n.kind)))) e in
          must_fix (limited s) 0 (limited_meets 0 s) (subst (λ o. is_deep o ≡ false) tries (shallow v.from n is)) (subst (λ o. fixes o ≡ None) tries (no_news v.from n is none))
      head_must name z None e = no_outputs (custom_named heads name) v.output (subst (λ q. v.output < kind_outputs heads q) z (output_there heads chains nodes g.wires passes.no_unknown passes.no_missing passes.no_open j v n at is)) e

      hired_must : (name : List ℕ) × (n.kind ≡ Custom name) → ⊥
      hired_must c = head_must c.0 c.1 (outputs_type (custom_named heads c.0)) refl

      settles_by : (q : Shape) → shape_of n.kind ≡ q → ⊥
      settles_by source s = source_must s
      settles_by joining s = joining_must s
      settles_by zipping s = zip_must (is_zip n.kind s)
      settles_by single s = single_must s
      settles_by hired s = hired_must (hired_is n.kind s)

    settled_by : (j : ℕ) (v : Edge) (n : Node) → slice_get g.wires j ≡ Some v → slice_get nodes v.from ≡ Some n → ((i : ℕ) → i < length g.wires → rank i < rank j → HasSettled i) → (o : Option Sort) → types v.from ≡ o
        → (u : Sort) × (types v.from ≡ Some u)
    settled_by j v n at is below (Some u) e = (u, e)
    settled_by j v n at is below None e = absurd (settles_by j v n at is below e (shape_of n.kind) refl)

    -- every wire
    pub every_wire_settles : (i : ℕ) → i < length g.wires → HasSettled i
    every_wire_settles =
        all_by_rank rank (length g.wires) HasSettled
        (λ j l below. record { type_of = λ v at. let n = (ends_there heads nodes g.wires passes.no_missing j v at).0 in settled_by j v n.node at n.is below (types v.from) refl })
