use Rattle.run_blueprint.proofs.Functions.{map_typed, expansion_typed, zero_typed, step_typed, reduced_same, reduced_typed}
use Rattle.run_blueprint.proofs.laws.functions_keep_types.Goals as goal

pub returns : goal.returns
returns c = record {
  map = map_typed;
  expand = expansion_typed;
  zero = zero_typed;
  step = step_typed;
  same = reduced_same;
  reduce = reduced_typed;
}
