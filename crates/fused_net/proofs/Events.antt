-- Events one behind another: what they make of a graph composes, and an event may be taken from either end of the queue.
use Rattle.std.proofs.Common.{◌≡◌, ℕ, ◌+◌, Bool, List, map, refl, ◌∙◌}
use Rattle.elem_core.specs.Tree.{Tree}
use Rattle.elem_core.specs.declared.item.Item.{Item}
use Rattle.port_core.specs.View.{View}
use Rattle.fused_net.specs.Net.{Net, before, Takes}
use Rattle.fused_net.specs.Laws.{NetGoesOn, Settled}
use Rattle.fused_net.specs.Costs.{Uses}
use Rattle.fused_net.specs.Outside.{StandsStill}
use Rattle.fused_net.specs.Events.{EventsLead}
use Rattle.fused_net.specs.Hand.{done_in_hand}
use Rattle.fused_net.specs.declared.hand.Hand.{Hand}
use Rattle.fused_net.specs.declared.hand.Hand.TheVariants.{Empty, Down, Up}
use Rattle.fused_net.proofs.Going.{uses_none, uses_trans}
use Rattle.fused_net.proofs.Ongoing.{goes_same, goes_trans}
use Rattle.fused_net.proofs.Still.{still_same, still_trans, still_taken}
use Rattle.fused_net.proofs.Taking.{taken_goes, taken_uses, taken_read}

-- what is in hand is done at a wire, and not at a node
pub hand_nodes : {N : Type 0} (h : Hand) (e : Tree) (net : Net N) → (done_in_hand h e net).nodes ≡ net.nodes
hand_nodes Empty e net = refl
hand_nodes (Down w) e net = refl
hand_nodes (Up w) e net = refl

module _ {N : Type 0} (port_state : N → View → Type 0) (law : N → N → View → List (List Item) → List (List Item) → Type 0) (asking : N → View → Type 0) (moves : N → List ℕ) (gone : N → List Item) (passive : N → Bool) where
  -- no event changes nothing
  pub steps_none : (net : Net N) → Settled port_state law asking moves net → EventsLead port_state law asking moves gone passive net net 0
  steps_none net laws = record { laws = laws; on = goes_same net; uses = uses_none net; none_gone = refl; still = still_same passive net }

  pub steps_trans : (a b c : Net N) (k l : ℕ) → EventsLead port_state law asking moves gone passive a b k → EventsLead port_state law asking moves gone passive b c l → EventsLead port_state law asking moves gone passive a c (k + l)
  steps_trans a b c k l s t = record {
    laws = t.laws;
    on = goes_trans a b c s.on t.on;
    uses = uses_trans a b c k l s.uses t.uses;
    none_gone = t.none_gone ∙ s.none_gone;
    still = still_trans passive a b c s.on.ends s.still t.still;
  }

  -- what is said of the graph behind the taking of wire w, as an event of the graph in which w waited
  pub step_before : (net new : Net N) (w : ℕ) → Settled port_state law asking moves new → NetGoesOn net new → Uses (before net w) new 1 → map gone new.nodes ≡ map gone net.nodes → StandsStill passive net new → EventsLead port_state law asking moves gone passive (before net w) new 1
  step_before net new w laws on uses none_gone still = record {
    laws = laws;
    on = record { firsts = on.firsts; ends = on.ends; ports = on.ports; nodes = on.nodes; wires = on.wires };
    uses = uses;
    none_gone = none_gone;
    still = record { kinds = still.kinds; grown = still.grown; sent = still.sent; asks = still.asks; left = still.left };
  }

  -- wire w waited first or last
  pub steps_taken : (old net new : Net N) (w events : ℕ) → Takes old w net → EventsLead port_state law asking moves gone passive (before net w) new events → EventsLead port_state law asking moves gone passive old new events
  steps_taken old net new w events t s =
      let on = s.on in
      let still = s.still in
      record {
        laws = s.laws;
        on = taken_goes old net new w t (record { firsts = on.firsts; ends = on.ends; ports = on.ports; nodes = on.nodes; wires = on.wires });
        uses = taken_uses old net new w events t s.uses;
        none_gone = taken_read gone old net w new.nodes t s.none_gone;
        still = still_taken passive old net new w t (record { kinds = still.kinds; grown = still.grown; sent = still.sent; asks = still.asks; left = still.left });
      }
