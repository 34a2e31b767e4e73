-- What nodes have of their switches, one after another.
use Rattle.std.proofs.Common.{◌≡◌, ℕ, ◌<◌, ◌≤◌, ◌&&◌, true, List, [], ◌∷◌, ◌++◌, length, map, refl, sym, ap, ◌∙◌, subst, arith, append_assoc, append-nil, Option, Some, None}
use Rattle.std.proofs.lemmas.Bool.{and_parts}
use Rattle.std.proofs.lemmas.Bool.Decides.{nat_tests}
use Rattle.std.proofs.lemmas.List.{map-append}
use Rattle.std.specs.Prelude.{nat_le}
use Rattle.stream_model.specs.Graph as graph
use Rattle.stage_switch.specs.declared.end.SwitchEnd.{SwitchEnd}
use Rattle.stream_model.specs.declared.kind.Kind.{Kind}
use Rattle.stream_model.specs.declared.kind.Kind.TheVariants.{Valve, TripShutdown, TripAbort}
use Rattle.stream_model.specs.declared.blueprint.Node.{Node}
use Rattle.blue_names.specs.Sizes.{sizes_fit}
use Rattle.stage_state.specs.Logics.{IsHandedEnd, IsStateful}
use Rattle.materializer.specs.Board.{switch_of, IsHandedAt, AreHanded}
use Rattle.elem_core.specs.declared.why.Decider.{Decider}
use Rattle.interpreter.specs.declared.parts.Work.{Work}
use Rattle.interpreter.specs.declared.parts.Work.TheVariants as work
use Rattle.materializer.specs.Files.{source_file, output_of}
use Rattle.materializer.specs.Planned.{IsPlanned}
use Rattle.materializer.specs.Graphs.{Around}
use Rattle.blue_names.specs.CustomPorts.{custom_of}
use Rattle.stream_model.specs.declared.blueprint.WireDecl.{WireDecl}
use Rattle.materializer.specs.Seats.{HasUsedPorts, IsFreeWork}
use Rattle.materializer.specs.declared.seats.Planned.TheVariants.{Works}

-- a valve or a trip, and no other kind, is handed what it has of its switch
pub to_handed : (kind : Kind) (e : Option SwitchEnd) → IsHandedAt (switch_of kind) e → IsHandedEnd kind e
to_handed (Valve name) e h = subst (IsHandedEnd (Valve name)) (sym h.1.0) h.1.1
to_handed (TripShutdown name n) e h = subst (IsHandedEnd (TripShutdown name n)) (sym h.1.0) h.1.1
to_handed (TripAbort name n) e h = subst (IsHandedEnd (TripAbort name n)) (sym h.1.0) h.1.1
to_handed kind e h = subst (IsHandedEnd kind) (sym h) tt

none_some : {A : Type 0} {x : A} → None ≡ Some x → ⊥
none_some e = absurd cc

-- where nothing is handed a node names no switch
pub at_no_switch : (kind : Kind) → IsHandedAt (switch_of kind) None → switch_of kind ≡ None
at_no_switch (Valve name) h = absurd (none_some h.1.0)
at_no_switch (TripShutdown name n) h = absurd (none_some h.1.0)
at_no_switch (TripAbort name n) h = absurd (none_some h.1.0)
at_no_switch kind h = refl

counts_from_one : (most n : ℕ) → (nat_le 1 n && nat_le n most) ≡ true → 1 ≤ n
counts_from_one most n h = let parts = and_parts (nat_le 1 n) (nat_le n most) h in grind (arith, nat_tests, parts.0)

-- a node that is handed something is a stage with state, which reads and writes no file
pub at_switch_keeps : (kind : Kind) (e : SwitchEnd) → sizes_fit kind ≡ true → IsHandedAt (switch_of kind) (Some e) → IsStateful kind
at_switch_keeps (Valve name) e fit h = tt
at_switch_keeps (TripShutdown name n) e fit h = counts_from_one _ n fit
at_switch_keeps (TripAbort name n) e fit h = counts_from_one _ n fit
at_switch_keeps kind e fit h = absurd (none_some (sym h))

pub at_switch_reads_none : (kind : Kind) (e : SwitchEnd) → IsHandedAt (switch_of kind) (Some e) → source_file kind ≡ None
at_switch_reads_none (Valve name) e h = refl
at_switch_reads_none (TripShutdown name n) e h = refl
at_switch_reads_none (TripAbort name n) e h = refl
at_switch_reads_none kind e h = absurd (none_some (sym h))

pub at_switch_writes_none : (kind : Kind) (e : SwitchEnd) → IsHandedAt (switch_of kind) (Some e) → output_of kind ≡ None
at_switch_writes_none (Valve name) e h = refl
at_switch_writes_none (TripShutdown name n) e h = refl
at_switch_writes_none (TripAbort name n) e h = refl
at_switch_writes_none kind e h = absurd (none_some (sym h))

-- only a custom stage has ports that its wires have to use
no_custom_ports : {S D L H B : Type 0} (wires : List WireDecl) (node : Node) (chains : List graph.Chain) (k : ℕ) (kind : Kind) (d : Decider) (w : Work S D L H B) → custom_of kind ≡ None → IsFreeWork chains k kind d w → HasUsedPorts wires node w
no_custom_ports wires node chains k kind d (work.Custom x inputs outputs) own free = absurd (none_some (sym own ∙ ap custom_of free.is_custom.1))
no_custom_ports wires node chains k kind d w own free = tt

-- what is to stand at the place of a node that has no file and names no custom stage
pub plans_free : {S D L H B : Type 0} (around : Around) (k : ℕ) (kind : Kind) (d : Decider) (w : Work S D L H B) → source_file kind ≡ None → output_of kind ≡ None → custom_of kind ≡ None → IsFreeWork around.chains k kind d w → (node : Node) → node.kind ≡ kind → node.decider ≡ d → IsPlanned around k node (Works w)
plans_free around k kind d w reads writes own free node is same = record {
  work = subst (λ x. IsFreeWork around.chains k x node.decider w) (sym is) (subst (λ x. IsFreeWork around.chains k kind x w) (sym same) free);
  ports = no_custom_ports around.wires node around.chains k kind d w own free;
  no_input = ap source_file is ∙ reads;
  no_output = ap output_of is ∙ writes;
}

-- what is to stand at the place of a node that is handed something
pub plans_at_switch : {S D L H B : Type 0} (around : Around) (k : ℕ) (kind : Kind) (d : Decider) (e : SwitchEnd) (w : Work S D L H B) → IsHandedAt (switch_of kind) (Some e) → custom_of kind ≡ None → IsFreeWork around.chains k kind d w → (node : Node) → node.kind ≡ kind → node.decider ≡ d → IsPlanned around k node (Works w)
plans_at_switch around k kind d e w h own free = plans_free around k kind d w (at_switch_reads_none kind e h) (at_switch_writes_none kind e h) own free

-- the first of the nodes that are left
abbrev pub kinds_of : List Node → List Kind
kinds_of nodes = map (λ (n : Node). n.kind) nodes

some_left : (ks : List Kind) (k : Kind) (es : List (Option SwitchEnd)) → AreHanded (k ∷ ks) es → 0 < length es
some_left ks k [] h = absurd h
some_left ks k (e ∷ es) h = omega arith

pub ends_left : (n : Node) (old rest : List Node) (es : List (Option SwitchEnd)) (m : ℕ) → old ≡ n ∷ rest → AreHanded (kinds_of old) es → m ≡ length es → 0 < m
ends_left n old rest es m e h size = let some = some_left (kinds_of rest) n.kind es (subst (λ l. AreHanded (kinds_of l) es) e h) in omega (arith, some, size)

parts : (ks : List Kind) (k : Kind) (es rest : List (Option SwitchEnd)) (x : Option SwitchEnd) → es ≡ x ∷ rest → AreHanded (k ∷ ks) es → IsHandedAt (switch_of k) x × AreHanded ks rest
parts ks k es rest x e h = subst (λ l. AreHanded (k ∷ ks) l) e h

pub end_next : (n : Node) (old rest : List Node) (es more : List (Option SwitchEnd)) (x : Option SwitchEnd) → old ≡ n ∷ rest → es ≡ x ∷ more → AreHanded (kinds_of old) es → IsHandedAt (switch_of n.kind) x × AreHanded (kinds_of rest) more
end_next n old rest es more x e f h = parts (kinds_of rest) n.kind es more x f (subst (λ l. AreHanded (kinds_of l) es) e h)

none_handed : (es : List (Option SwitchEnd)) → AreHanded [] es → es ≡ []
none_handed [] h = refl
none_handed (e ∷ es) h = absurd h

pub no_ends : (rest : List Node) (es : List (Option SwitchEnd)) → rest ≡ [] → AreHanded (kinds_of rest) es → es ≡ []
no_ends rest es e h = none_handed es (subst (λ l. AreHanded (kinds_of l) es) e h)

-- what is done, before what is left, stays the same as the first of those that are left is done
pub map_next : {A B C : Type 0} (f : A → C) (g : B → C) (was now : List A) (old rest : List B) (x : A) (y : B) (all : List C) → old ≡ y ∷ rest → now ≡ was ++ x ∷ [] → f x ≡ g y → map f was ++ map g old ≡ all → map f now ++ map g rest ≡ all
map_next f g was now old rest x y all e more same so =
    ap (λ l. map f l ++ map g rest) more ∙ ap (λ l. l ++ map g rest) (map-append f was (x ∷ [])) ∙ append_assoc (map f was) (f x ∷ []) (map g rest)
    ∙ ap (λ (z : _). map f was ++ (z ∷ map g rest)) same ∙ ap (λ l. map f was ++ map g l) (sym e) ∙ so

pub map_end : {A B C : Type 0} (f : A → C) (g : B → C) (done : List A) (rest : List B) (all : List C) → rest ≡ [] → map f done ++ map g rest ≡ all → map f done ≡ all
map_end f g done rest all e so = sym (append-nil (map f done)) ∙ ap (λ l. map f done ++ map g l) (sym e) ∙ so
