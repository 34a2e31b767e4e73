-- The ports of a node with one input and one output, as it last asked.
use Rattle.std.specs.Prelude.{slice_index_or}
use Rattle.std.proofs.Common.{◌≡◌, ℕ, ◌+◌, ◌≤◌, Bool, true, false, List, [], ◌∷◌, refl, ap, ◌∙◌, subst, arith}
use Rattle.elem_core.specs.Prefix.{IsPrefix}
use Rattle.elem_core.specs.Items.{elements}
use Rattle.elem_core.specs.declared.item.Item.{Item}
use Rattle.port_core.specs.View.{View, in_at, out_at, OneOneOf}
use Rattle.port_core.specs.declared.view.InView.{InView}
use Rattle.port_core.specs.declared.view.OutView.{OutView}
use Rattle.stream_model.specs.View.{demand}
use Rattle.run_laws.specs.Account.{AllBegin}
use Rattle.run_laws.specs.Ports.{InPort, InStands}
use Rattle.run_laws.proofs.Nodes.{begins_one}

-- one view on each side, of which this holds
pub record OneViews (P : InView → OutView → Type 0) (v : View) : Type 0 where
  pub x : InView
  pub y : OutView
  pub inp : in_at v 0 ≡ x
  pub out : out_at v 0 ≡ y
  pub holds : P x y

views_of : (P : InView → OutView → Type 0) (ins : List InView) (outs : List OutView) → OneOneOf P ins outs → OneViews P (record { ins = ins; outs = outs })
views_of P (x ∷ []) (y ∷ []) r = record { x = x; y = y; inp = refl; out = refl; holds = r }
views_of P [] outs r = absurd r
views_of P (x ∷ []) [] r = absurd r
views_of P (x ∷ []) (y ∷ z ∷ outs) r = absurd r
views_of P (x ∷ z ∷ ins) outs r = absurd r

pub one_views : (P : InView → OutView → Type 0) (v : View) → OneOneOf P v.ins v.outs → OneViews P v
one_views P v r = views_of P v.ins v.outs r

pub one_same : (a b : List Item) → a ∷ [] ≡ b ∷ [] → a ≡ b
one_same a b e = cc

-- what it had taken began what it took, and one element more than that was wanted
pub record Began (had : List (List Item)) (got : List Item) (want : ℕ) : Type 0 where
  pub part : List Item
  pub is : had ≡ part ∷ []
  pub begins : IsPrefix part got
  pub one_more : want ≡ elements part + 1

pub began : (had : List (List Item)) (got : List Item) (want : ℕ) → AllBegin had (got ∷ []) → slice_index_or (want ∷ []) 0 0 ≡ elements (slice_index_or had 0 []) + 1 → Began had got want
began had got want on more =
    let b = begins_one had got on in
    record { part = b.part; is = b.is; begins = b.begins; one_more = more ∙ ap (λ (l : List (List Item)). elements (slice_index_or l 0 []) + 1) b.is }

-- and the same of what it had given
pub given_one : (given : List (List Item)) (sent : List Item) (want : ℕ) → AllBegin given (sent ∷ []) → elements (slice_index_or given 0 []) + 1 ≤ slice_index_or (want ∷ []) 0 0 → (g : List Item) × ((given ≡ g ∷ []) × (IsPrefix g sent × (elements g + 1 ≤ want)))
given_one given sent want on more =
    let b = begins_one given sent on in
    (b.part, (b.is, (b.begins, subst (λ (l : List (List Item)). elements (slice_index_or l 0 []) + 1 ≤ want) b.is more)))

-- what is wanted of it, it has asked for
pub reached : (i : InPort) → InStands i → 1 ≤ demand i.wire → 1 ≤ slice_index_or (i.want ∷ []) 0 0
reached i s some = let r = s.reach in omega (arith, r, some)

pub not_both : {b : Bool} → b ≡ false → b ≡ true → ⊥
not_both e f = cc
