-- What a stage with one input and one output knows of its ports.
use Rattle.std.specs.Prelude.{[], ◌∷◌}
use Rattle.port_core.specs.View.{View}
use Rattle.port_core.specs.declared.view.InView.TheVariants.{Pulled}
use Rattle.port_core.specs.declared.view.OutView.TheVariants.{Unpulled}

-- what a stage with one input and one output knows of its ports where its input was asked and its output was not
abbrev pub waiting_ports : View
waiting_ports = record { ins = Pulled ∷ []; outs = Unpulled ∷ [] }
