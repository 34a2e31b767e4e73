-- What a custom stage sent is of the types of the head that its node names.
use Rattle.std.specs.Prelude.{slice_get, Option, None, Some}
use Rattle.std.specs.Option.{option_map}
use Rattle.std.proofs.Common.{◌≡◌, ℕ, zero, suc, true, List, [], ◌∷◌, map, refl, sym, ap, ◌∙◌, subst}
use Rattle.std.proofs.lemmas.Bool.{and_parts}
use Rattle.elem_core.specs.Sort.{Sort, num_type, text_type, seq_type, pair_type}
use Rattle.elem_core.specs.Tree.{Tree, Row, num, text, seq, both, none, more, items}
use Rattle.elem_core.specs.Typed.{is_of, all_of}
use Rattle.elem_core.specs.declared.item.Item.{Item}
use Rattle.elem_core.specs.declared.item.Item.TheVariants as item
use Rattle.stream_model.specs.Known.{CustomShape}
use Rattle.blue_names.specs.CustomPorts.{output_type}
use Rattle.graph_stage.specs.Passed.{ItemsTyped}
use Rattle.graph_stage.specs.State.{CustomState}
use Rattle.nodes.specs.declared.node.IslandNode.{IslandNode}
use Rattle.nodes.specs.declared.node.IslandNode.TheVariants as node
use Rattle.interpreter.specs.Parts.{BecomesOf, AllBecome}
use Rattle.interpreter.specs.declared.parts.Seated.{Seated}
use Rattle.interpreter.specs.declared.parts.Work.{Work}
use Rattle.interpreter.specs.declared.parts.Work.TheVariants as work
use Rattle.run_laws.specs.Items.{list_of}
use Rattle.materializer.specs.Seats.{work_types, place_types}
use Rattle.run_blueprint.specs.Types.{Each, HasType, AllTyped}

some_one : {A : Type 0} (x y : A) → Some x ≡ Some y → x ≡ y
some_one x y e = cc

-- ---- elements

mutual
  pub has_type : (t : Sort) (x : Tree) → is_of t x ≡ true → HasType t x
  has_type num_type (num z) e = tt
  has_type text_type (text bs) e = tt
  has_type (seq_type t) (seq r) e = have_type t r e
  has_type (pair_type t u) (both a b) e = let p = and_parts (is_of t a) (is_of u b) e in (has_type t a p.0, has_type u b p.1)
  has_type t x e = absurd cc

  have_type : (t : Sort) (r : Row) → all_of t r ≡ true → Each (HasType t) (items r)
  have_type t none e = tt
  have_type t (more x r) e = let p = and_parts (is_of t x) (all_of t r) e in (has_type t x p.0, have_type t r p.1)

-- the elements of what passed are of the type of the port
pub list_typed : (t : Sort) (h : List Item) → ItemsTyped (Some t) h → AllTyped t (list_of h)
list_typed t [] p = tt
list_typed t (item.Elem x ∷ h) p = (has_type t x p.0, list_typed t h p.1)
list_typed t (item.Ended ∷ h) p = tt
list_typed t (item.Failed c ∷ h) p = tt

-- the type of an output is the one that the head has there
pub output_found : (o : Option CustomShape) (ts : List Sort) (p : ℕ) (t : Sort) → option_map (λ (h : CustomShape). h.outputs) o ≡ Some ts → output_type o p ≡ Some t → slice_get ts p ≡ Some t
output_found None ts p t e out = absurd cc
output_found (Some h) ts p t e out = let same : h.outputs ≡ ts = some_one h.outputs ts e in subst (λ (l : List Sort). slice_get l p ≡ Some t) same out

-- ---- places

module _ {S D L H B : Type 0} where
  abbrev as_node : CustomState → IslandNode S D L H B
  as_node x = node.Custom x

  one_custom : (x y : CustomState) → as_node x ≡ as_node y → x ≡ y
  one_custom x y e = cc

  work_keeps : (k room : ℕ) (w : Work S D L H B) (x : CustomState) → BecomesOf k room w (node.Custom x) → work_types w ≡ Some x.types
  work_keeps k room (work.Custom y n m) x h = ap (λ (z : CustomState). Some z.types) (sym (one_custom x y h))
  work_keeps k room (work.Reading r) x h = absurd cc
  work_keeps k room (work.Making shape) x h = absurd cc
  work_keeps k room (work.Linear l) x h = absurd cc
  work_keeps k room (work.State l) x h = absurd cc
  work_keeps k room (work.Sub l) x h = absurd cc
  work_keeps k room (work.FanIn l n) x h = absurd cc
  work_keeps k room (work.FanOut l n) x h = absurd cc
  work_keeps k room (work.Writing shape (Some d)) x h = absurd cc
  work_keeps k room (work.Writing shape None) x h = absurd cc
  work_keeps k room (work.LaneIn u) x h = absurd cc
  work_keeps k room (work.LaneOut u) x h = absurd cc

  -- a custom stage has the types of the place at which it began
  pub types_along : (places : List (Seated S D L H B)) (firsts : List (IslandNode S D L H B)) → AllBecome places firsts → (k : ℕ) (x : CustomState) → slice_get firsts k ≡ Some (node.Custom x) → slice_get (map place_types places) k ≡ Some (Some x.types)
  types_along [] [] h k x at = absurd cc
  types_along [] (y ∷ ys) h k x at = absurd h
  types_along (p ∷ ps) [] h k x at = absurd h
  types_along (p ∷ ps) (y ∷ ys) h zero x at =
      let same : y ≡ as_node x = some_one y (as_node x) at in
      ap (λ (o : Option (List Sort)). Some o) (work_keeps p.node p.room p.work x (subst (λ (z : IslandNode S D L H B). BecomesOf p.node p.room p.work z) same h.0))
  types_along (p ∷ ps) (y ∷ ys) h (suc k) x at = types_along ps ys h.1 k x at
