-- The ports of a custom stage that was not started.
use Rattle.std.specs.Prelude.{◌≡◌, ℕ, false, [], replicate}
use Rattle.port_core.specs.View.{View}
use Rattle.port_core.specs.declared.view.InView.TheVariants.{Idle}
use Rattle.port_core.specs.declared.view.OutView.TheVariants.{Unpulled}
use Rattle.graph_stage.specs.declared.logic.CustomLogic.{CustomLogic}
use Rattle.graph_stage.specs.declared.sight.InSight.{InSight}
use Rattle.graph_stage.specs.declared.sight.OutSight.{OutSight}
use Rattle.graph_stage.specs.Ports.{Sees}
use Rattle.graph_stage.specs.Ruled.{IsReadyForCall}

-- so many inputs and outputs that nobody has pulled
abbrev pub unpulled_view : ℕ → ℕ → View
unpulled_view ins outs = record { ins = replicate ins Idle; outs = replicate outs Unpulled }

-- what it sees of an input then
abbrev pub quiet_in : InSight
quiet_in = record { asked = false; closed = false }

-- what it sees of an output then
abbrev pub quiet_out : OutSight
quiet_out = record { asked = false; closed = false }

-- one that was just made sees its ports as they are, is ready for a call, took nothing, and had no call
pub record IsNewLogic {H : Type 0} (x : CustomLogic H) (v : View) : Type 0 where
  pub sees : Sees v x.sight
  pub ready : IsReadyForCall x
  pub none_taken : x.taken ≡ 0
  pub none_took : x.took.items ≡ []
  pub no_calls : x.asked.items ≡ []
  pub none_done : x.done.items ≡ []
