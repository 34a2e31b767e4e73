-- A node of an account by what stands at its number, and the one input of a node that has one.
use Rattle.std.specs.Prelude.{slice_get, slice_index_or}
use Rattle.std.proofs.Common.{◌≡◌, ℕ, ◌<◌, ◌≤◌, List, [], ◌∷◌, Some, refl, sym, subst, ◌∙◌, arith}
use Rattle.elem_core.specs.declared.item.Item.{Item}
use Rattle.elem_core.specs.Prefix.{IsPrefix}
use Rattle.port_core.specs.View.{View}
use Rattle.port_core.specs.Cell.{WireState}
use Rattle.stream_model.specs.Graph.{Graph, Edge, find_wire}
use Rattle.stream_model.specs.Graph as graph
use Rattle.stream_model.specs.Composed.{inputs_of, count_from}
use Rattle.stream_model.specs.Joined.{IsJoined}
use Rattle.fused_net.proofs.Reading.{some_same}
use Rattle.run_laws.specs.Account.{Account, read_ins, knows, took, gave, ins_wanted, outs_wanted, outs_shut, AllBegin, Earlier, KeepsLaws}

module _ {N : Type 0} (port_state : N → View → Type 0) (law : N → N → View → List (List Item) → List (List Item) → Type 0) (asking : N → View → Type 0) (moves : N → List ℕ) (g : Graph) (a : Account N) where
  -- what node k keeps, which was handed in as one and is the other now
  pub record KeptAs (k : ℕ) (n : graph.Node) (first now : N) : Type 0 where
    pub port_state_holds : port_state now (knows g a k n)
    pub law_holds : law first now (knows g a k n) (took g a k n) (gave g a k n)
    pub asks : (p : ℕ) → p < inputs_of n → 1 ≤ slice_index_or (ins_wanted g a k n) p 0 → Earlier port_state law asking moves p first now (took g a k n) (gave g a k n) (ins_wanted g a k n) (outs_wanted g a k n) (outs_shut g a k n)

  pub kept_as : KeepsLaws port_state law asking moves g a → (k : ℕ) (n : graph.Node) (first now : N) → slice_get g.nodes k ≡ Some n → a.firsts k ≡ Some first → a.nodes k ≡ Some now → KeptAs k n first now
  kept_as keeps k n first now e f x =
      let m = keeps.each_node k n e in
      let one : m.first ≡ first = some_same m.first first (sym m.first_at ∙ f) in
      let two : m.now ≡ now = some_same m.now now (sym m.now_at ∙ x) in
      subst (λ (y : N). KeptAs k n y now) one (subst (λ (y : N). KeptAs k n m.first y) two (record { port_state_holds = m.port_state_holds; law_holds = m.law_holds; asks = m.asks }))

below_one : (p n : ℕ) → p < n → n ≡ 1 → p ≡ 0
below_one p n h e = omega (arith, h, e)

-- the one input of a node is at the wire that goes there
pub one_input : (g : Graph) → IsJoined g → (k : ℕ) (n : graph.Node) (u : ℕ) (v : Edge) → slice_get g.nodes k ≡ Some n → inputs_of n ≡ 1 → slice_get g.wires u ≡ Some v → v.to ≡ k → find_wire k 0 g.wires ≡ Some u
one_input g joined k n u v ni one ui to =
    let t = joined.target u v ui in
    let same : t.0 ≡ n = some_same t.0 n (sym t.1 ∙ (subst (λ (j : ℕ). slice_get g.nodes j ≡ Some n) (sym to) ni)) in
    let first : v.input ≡ 0 = below_one v.input (inputs_of t.0) t.2 (rw same one) in
    rw (to, first) at t.3

pub read_one : {X : Type 0} (g : Graph) (f : WireState → X) (cells : ℕ → WireState) (k n u : ℕ) → n ≡ 1 → find_wire k 0 g.wires ≡ Some u → read_ins g f cells k (count_from 0 n) ≡ f (cells u) ∷ []
read_one g f cells k n u one found = rw one (rw found refl)

-- one history that begins another
pub record BeginsOne (had : List (List Item)) (got : List Item) : Type 0 where
  pub part : List Item
  pub is : had ≡ part ∷ []
  pub begins : IsPrefix part got

pub begins_one : (had : List (List Item)) (got : List Item) → AllBegin had (got ∷ []) → BeginsOne had got
begins_one [] got h = absurd h
begins_one (x ∷ []) got h = record { part = x; is = refl; begins = h.0 }
begins_one (x ∷ y ∷ had) got h = absurd h.1
