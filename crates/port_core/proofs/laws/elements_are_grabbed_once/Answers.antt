-- The goals of `laws::elements_are_grabbed_once`.
use Rattle.port_core.proofs.Grabs.{grabbed_once}
use Rattle.port_core.proofs.laws.elements_are_grabbed_once.Goals as goal

pub returns : goal.returns
returns c = grabbed_once
