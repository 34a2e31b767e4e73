use Rattle.graph_stage.proofs.Done.{gave_by_done}
use Rattle.graph_stage.proofs.Passing.{inputs_pass, outputs_pass}
use Rattle.graph_stage.proofs.Pushes.{gives_typed, stays}
use Rattle.graph_stage.proofs.laws.a_custom_stage_keeps_its_ports.Goals as goal

pub returns : goal.returns
returns c = record { inputs = λ b. inputs_pass; outputs = λ b. outputs_pass; typed = λ b. gives_typed; given = λ b. gave_by_done; same = λ b. stays }
