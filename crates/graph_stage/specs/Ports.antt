-- What a custom stage sees of its ports agrees with what is known of them.
use Rattle.std.specs.Prelude.{◌≡◌, true, false, List, [], ◌∷◌, ⊤}
use Rattle.port_core.specs.View.{View}
use Rattle.port_core.specs.declared.view.InView.{InView}
use Rattle.port_core.specs.declared.view.InView.TheVariants.{Idle, Pulled, Finished, Cancelled}
use Rattle.port_core.specs.declared.view.OutView.{OutView}
use Rattle.port_core.specs.declared.view.OutView.TheVariants as outlet
use Rattle.graph_stage.specs.declared.sight.InSight.{InSight}
use Rattle.graph_stage.specs.declared.sight.OutSight.{OutSight}
use Rattle.graph_stage.specs.OwnView.{Seen}

-- what is known of an input is what the stage sees of it
abbrev pub SeesIn : InView → InSight → Type 0
SeesIn Idle x = (x.asked ≡ false) × (x.closed ≡ false)
SeesIn Pulled x = (x.asked ≡ true) × (x.closed ≡ false)
SeesIn Finished x = x.closed ≡ true
SeesIn Cancelled x = x.closed ≡ true

-- what is known of an output is
abbrev pub SeesOut : OutView → OutSight → Type 0
SeesOut outlet.Unpulled y = (y.asked ≡ false) × (y.closed ≡ false)
SeesOut outlet.Available y = (y.asked ≡ true) × (y.closed ≡ false)
SeesOut outlet.Closed y = y.closed ≡ true
SeesOut outlet.Cancelled y = y.closed ≡ true

-- each of all inputs
abbrev pub SeesIns : List InView → List InSight → Type 0
SeesIns [] [] = ⊤
SeesIns (v ∷ vs) (x ∷ xs) = SeesIn v x × SeesIns vs xs
SeesIns _ _ = ⊥

-- each of all outputs
abbrev pub SeesOuts : List OutView → List OutSight → Type 0
SeesOuts [] [] = ⊤
SeesOuts (v ∷ vs) (y ∷ ys) = SeesOut v y × SeesOuts vs ys
SeesOuts _ _ = ⊥

-- what is known of all ports is what the stage sees of them
pub record Sees (v : View) (s : Seen) : Type 0 where
  pub ins : SeesIns v.ins s.ins
  pub outs : SeesOuts v.outs s.outs
