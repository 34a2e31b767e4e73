use Rattle.stream_model.proofs.Arising.{wires_led, sinks_led}
use Rattle.stream_model.proofs.laws.causes_lead.Goals as goal

pub returns-clause-wires : goal.returns-clause-wires
returns-clause-wires c = wires_led

pub returns-clause-sinks : goal.returns-clause-sinks
returns-clause-sinks c = sinks_led
