-- What was sent on the wires of a run is of their types, by what each node gives of what came to it.
use Rattle.std.proofs.Common.{◌≡◌, ◌≢◌, ℕ, ◌<◌, ◌⊎◌, inl, inr, List, length, map, Some, refl, sym, ap, subst, ◌∙◌, arith}
use Rattle.std.specs.Prelude.{slice_get}
use Rattle.elem_core.proofs.Prefixes.{prefix_refl}
use Rattle.elem_core.specs.Prefix.{IsPrefix}
use Rattle.elem_core.specs.Sort.{Sort, text_type}
use Rattle.elem_core.specs.Tree.{Tree, text}
use Rattle.elem_core.specs.declared.item.Item.{Item}
use Rattle.stream_model.specs.Composed.{next, IsRanked}
use Rattle.stream_model.specs.Graph.{Graph, Edge}
use Rattle.stream_model.specs.Graph as graph
use Rattle.stream_model.specs.Node.{World}
use Rattle.stream_model.specs.Outlook.{Outlook, End, unended, ended, failed, Agrees}
use Rattle.stream_model.specs.declared.kind.Kind.{Kind}
use Rattle.stream_model.specs.declared.kind.Kind.TheVariants.{Lines}
use Rattle.stream_model.proofs.Compositions.{slice_get-below}
use Rattle.stream_model.proofs.PickTraces.{agrees_prefix}
use Rattle.stage_core.specs.Held.{told}
use Rattle.fused_net.proofs.Reading.{get_there}
use Rattle.run_laws.specs.Items.{list_of, end_of_items, AgreesWith}
use Rattle.run_laws.specs.Reads.{GivesTexts}
use Rattle.run_laws.proofs.Histories.{list_of_told, standing_told}
use Rattle.stream_model.specs.declared.blueprint.ChainDecl.{ChainDecl}
use Rattle.stream_model.specs.declared.blueprint.Node.{Node}
use Rattle.stream_model.specs.Known.{HeadLists}
use Rattle.blue_names.specs.Rounds.{half_type, settled}
use Rattle.blue_names.specs.StageTypes.{source_type}
use Rattle.materializer.specs.Graphs.{graph_node}
use Rattle.run_blueprint.specs.Checked.{PassesRules, wire_type}
use Rattle.run_blueprint.specs.Plugs.{KeepsPlugTypes, GivenTyped}
use Rattle.run_blueprint.specs.Sent.{exact, SendsItsType}
use Rattle.run_blueprint.specs.Types.{AllTyped}
use Rattle.run_blueprint.proofs.Lists.{retype_all, typed_prefix}
use Rattle.run_blueprint.proofs.Carrying.{plain_at, one_some, HasTyped, type_from, next_typed, every_wire_carries}
use Rattle.run_blueprint.proofs.Origins.{source_settles}
use Rattle.run_blueprint.proofs.Rules.{ends_there}
use Rattle.run_blueprint.proofs.Settling.{all_by_rank}
use Rattle.run_blueprint.proofs.Stages.{lines_typed}

pub exact_agrees : (l : List Tree) (e : End) → Agrees (exact l e) l e
exact_agrees l unended = prefix_refl l
exact_agrees l ended = (refl, refl)
exact_agrees l (failed c) = (prefix_refl l, inl (refl, omega arith))

-- a source of lines, or none
is_lines : (k : Kind) → ((name : List ℕ) × (k ≡ Lines name)) ⊎ ((name : List ℕ) → k ≢ Lines name)
is_lines (Lines name) = inl (name, refl)
is_lines _ = inr (λ name e. cc)

module _ (heads : HeadLists) (chains : List ChainDecl) (nodes : List Node) (g : Graph) (w : World) (rank : ℕ → ℕ) (ranked : IsRanked g rank) (passes : PassesRules heads chains nodes g) (keeps : KeepsPlugTypes heads w.book) (gave : GivenTyped heads nodes g.wires w)
    (items : ℕ → List Item)
    (texts : (u : ℕ) (v : Edge) (n : graph.Node) (name : List ℕ) → slice_get g.wires u ≡ Some v → slice_get g.nodes v.from ≡ Some n → n.kind ≡ Lines name → GivesTexts (items u))
    (gives : (sent : ℕ → Outlook) (j : ℕ) (v : Edge) (n : graph.Node) → slice_get g.wires j ≡ Some v → slice_get g.nodes v.from ≡ Some n → ((name : List ℕ) → n.kind ≢ Lines name)
    → ((u : ℕ) (x : Edge) → slice_get g.wires u ≡ Some x → x.to ≡ v.from → AgreesWith (sent u) (items u)) → AgreesWith (next g w sent j) (items j)) where
  -- what was sent, as all that may pass
  abbrev as_sent : ℕ → Outlook
  as_sent u = exact (list_of (items u)) (end_of_items (items u))

  -- what was sent on wire i is of the type that is settled for it
  record Passed (i : ℕ) : Type 0 where
    list : List Tree
    end : End
    is : items i ≡ told list end
    typed : (v : Edge) → slice_get g.wires i ≡ Some v → (t : Sort) → wire_type heads chains nodes g v ≡ Some t → AllTyped t list

  as_typed : (i : ℕ) → Passed i → HasTyped heads chains nodes g w as_sent i
  as_typed i p =
      let same : list_of (items i) ≡ p.list = ap list_of p.is ∙ list_of_told p.list p.end in
      record { typed = λ v at t e. subst (λ l. AllTyped t l) (sym same) (p.typed v at t e) }

  as_agreed : (i : ℕ) → Passed i → AgreesWith (as_sent i) (items i)
  as_agreed i p = record {
    list = p.list;
    end = p.end;
    is = p.is;
    agrees = rw (p.is, list_of_told p.list p.end, standing_told p.list p.end) (exact_agrees p.list p.end);
  }

  module _ (j : ℕ) (l : j < length g.wires) (below : (i : ℕ) → i < length g.wires → rank i < rank j → Passed i) (v : Edge) (at : slice_get g.wires j ≡ Some v) (n : Node) (is : slice_get nodes v.from ≡ Some n) where
    in_graph : slice_get g.nodes v.from ≡ Some (graph_node passes.decls n)
    in_graph = ap (λ (ns : List graph.Node). slice_get ns v.from) passes.nodes_are ∙ plain_at passes.decls nodes v.from n is

    text_wire : (name : List ℕ) → n.kind ≡ Lines name → (t : Sort) → wire_type heads chains nodes g v ≡ Some t → text_type ≡ t
    text_wire name e t on =
        let source : source_type n.kind ≡ Some text_type = rw e refl in
        let from = type_from heads chains nodes g w as_sent rank ranked passes keeps gave j v n text_type is (source_settles heads chains nodes g.wires v.from n text_type is source) in
        let whole : half_type heads n.kind v.output text_type ≡ text_type = rw e refl in
        sym whole ∙ one_some (wire_type heads chains nodes g v) (half_type heads n.kind v.output text_type) t from on

    passed_by : ((name : List ℕ) × (n.kind ≡ Lines name)) ⊎ ((name : List ℕ) → n.kind ≢ Lines name) → Passed j
    passed_by (inl r) =
        let s = texts j v (graph_node passes.decls n) r.0 at in_graph r.1 in
        record {
          list = map text s.texts;
          end = s.end;
          is = s.is;
          typed = λ x xat t e.
              let same : x ≡ v = let both : Some x ≡ Some v = sym xat ∙ at in cc in
              retype_all text_type t (map text s.texts) (text_wire r.0 r.1 t (subst (λ y. wire_type heads chains nodes g y ≡ Some t) same e)) (lines_typed s.texts);
        }
    passed_by (inr other) =
        let a = gives as_sent j v (graph_node passes.decls n) at in_graph other (λ u x ux to. as_agreed u (below u (slice_get-below g.wires u x ux) (ranked.rises u j x v ux at to))) in
        record {
          list = a.list;
          end = a.end;
          is = a.is;
          typed = λ x xat t e.
              typed_prefix t (agrees_prefix (next g w as_sent j) a.list a.end a.agrees)
              (next_typed heads chains nodes g w as_sent rank ranked passes keeps gave j l (λ i il r. as_typed i (below i il r)) x xat t e);
        }

  passes_on : (j : ℕ) → j < length g.wires → ((i : ℕ) → i < length g.wires → rank i < rank j → Passed i) → Passed j
  passes_on j l below =
      let v = get_there g.wires j l in
      let n = (ends_there heads nodes g.wires passes.no_missing j v.0 v.1).0 in
      passed_by j l below v.0 v.1 n.node n.is (is_lines n.node.kind)

  pub every_wire_sends : (i : ℕ) (v : Edge) → slice_get g.wires i ≡ Some v → SendsItsType heads chains nodes g w i v (items i)
  every_wire_sends i v at =
      let p = all_by_rank rank (length g.wires) Passed passes_on i (slice_get-below g.wires i v at) in
      let c = every_wire_carries heads chains nodes g w rank ranked passes keeps gave i v at in
      record { carries = c; list = p.list; end = p.end; is = p.is; typed = p.typed v at c.type c.settles }
