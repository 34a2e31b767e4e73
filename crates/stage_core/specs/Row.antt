-- What a stage with one input and one output knows of its ports once it has closed both.
use Rattle.std.specs.Prelude.{⊤}
use Rattle.port_core.specs.declared.view.InView.{InView}
use Rattle.port_core.specs.declared.view.InView.TheVariants.{Idle, Pulled, Finished, Cancelled}
use Rattle.port_core.specs.declared.view.OutView.{OutView}
use Rattle.port_core.specs.declared.view.OutView.TheVariants as outlet

-- the input is closed, by its end or by the stage
abbrev pub InClosed : InView → Type 0
InClosed Idle = ⊥
InClosed Pulled = ⊥
InClosed Finished = ⊤
InClosed Cancelled = ⊤

-- the output is closed, by the stage or by a cancel
abbrev pub OutClosed : OutView → Type 0
OutClosed outlet.Unpulled = ⊥
OutClosed outlet.Available = ⊥
OutClosed outlet.Closed = ⊤
OutClosed outlet.Cancelled = ⊤

-- both ports of a stage with one input and one output are closed
abbrev pub BothClosed : InView → OutView → Type 0
BothClosed Finished outlet.Closed = ⊤
BothClosed Finished outlet.Cancelled = ⊤
BothClosed Cancelled outlet.Closed = ⊤
BothClosed Cancelled outlet.Cancelled = ⊤
BothClosed _ _ = ⊥
