use Rattle.run_blueprint.proofs.Meeting.{map_meets, pred_meets, step_meets, reduce_meets, part_meets}
use Rattle.run_blueprint.proofs.laws.functions_meet_their_types.Goals as goal

pub returns : goal.returns
returns c = record {
  map = map_meets;
  predicate = pred_meets;
  step = step_meets;
  reduce = reduce_meets;
  part = part_meets;
}
