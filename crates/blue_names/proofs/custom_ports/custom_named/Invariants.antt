use Rattle.std.proofs.Common.{◌≡◌, map, drop}
use Rattle.stream_model.specs.Known.{head_shape}
use Rattle.blue_names.specs.CustomPorts.{named}
use Rattle.blue_names.proofs.custom_ports.custom_named.Given as goal

abbrev pub invariant-loop-custom : goal.invariant-loop-custom
invariant-loop-custom l = named (λ c. c.name) l.name (map head_shape l.customs) ≡ named (λ c. c.name) l.name (map head_shape (drop l.custom-index l.customs))
