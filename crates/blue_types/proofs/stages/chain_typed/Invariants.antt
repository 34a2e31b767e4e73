use Rattle.std.proofs.Common.{◌≡◌, drop}
use Rattle.blue_names.specs.StageTypes.{chain_typed}
use Rattle.blue_types.proofs.stages.chain_typed.Given as goal

abbrev pub invariant-loop-step : goal.invariant-loop-step
invariant-loop-step l = chain_typed l.library.heads.now l.steps l.t ≡ chain_typed l.library.heads.now (drop l.step-index l.steps) l.coming
