-- The graph goes on: its wiring stays.
use Rattle.std.proofs.Common.{◌≡◌, ℕ, Bool, List, [], ◌∷◌, refl, sym, ◌∙◌, subst}
use Rattle.std.proofs.lemmas.List.{length-set}
use Rattle.port_core.specs.declared.act.Act.{Act}
use Rattle.port_core.specs.Cell.{WireState}
use Rattle.port_core.specs.ActList.{ActList}
use Rattle.fused_net.specs.PortLists.{PortLists}
use Rattle.fused_net.specs.Net.{Net, put, acted, acted_all, with_node}
use Rattle.fused_net.specs.Laws.{HaveRoom, NetGoesOn}

module _ {N : Type 0} where
  pub goes_same : (net : Net N) → NetGoesOn net net
  goes_same net = record { firsts = refl; ends = refl; ports = refl; nodes = refl; wires = refl }

  pub goes_trans : (a b c : Net N) → NetGoesOn a b → NetGoesOn b c → NetGoesOn a c
  goes_trans a b c f g = record { firsts = g.firsts ∙ f.firsts; ends = g.ends ∙ f.ends; ports = g.ports ∙ f.ports; nodes = g.nodes ∙ f.nodes; wires = g.wires ∙ f.wires }

  -- as no wires change, and the room does not, there is still room for each call
  pub goes_room : (old new : Net N) (a b : ActList) → NetGoesOn old new → b ≡ a → HaveRoom old.ports a.room → HaveRoom new.ports b.room
  goes_room old new a b on is h = subst (λ (ps : List PortLists). HaveRoom ps b.room) (sym on.ports) (subst (λ (x : ActList). HaveRoom old.ports x.room) (sym is) h)

  pub goes_put : (net : Net N) (w : ℕ) (new : WireState) (b : Bool) → NetGoesOn net (put net w new b)
  goes_put net w new b = record { firsts = refl; ends = refl; ports = refl; nodes = refl; wires = length-set _ _ _ }

  pub goes_acts : (acts : List Act) (net : Net N) (n : ℕ) → NetGoesOn net (acted_all net n acts)
  goes_acts [] net n = goes_same net
  goes_acts (a ∷ acts) net n = goes_trans net (acted net n a) _ (goes_put net _ _ _) (goes_acts acts (acted net n a) n)

  pub goes_node : (net : Net N) (n : ℕ) (y : N) → NetGoesOn net (with_node net n y)
  goes_node net n y = record { firsts = refl; ends = refl; ports = refl; nodes = length-set _ _ _; wires = refl }

  -- actions change no node
  pub nodes-acts : (acts : List Act) (net : Net N) (n : ℕ) → (acted_all net n acts).nodes ≡ net.nodes
  nodes-acts [] net n = refl
  nodes-acts (a ∷ acts) net n = nodes-acts acts (acted net n a) n
