use Rattle.plan_laws.proofs.Serving.{merge_serves, balance_serves, dealt_serves}
use Rattle.plan_laws.proofs.Hubs.{hub_serves}
use Rattle.plan_laws.proofs.Recovers.{recover_serves}
use Rattle.plan_laws.proofs.Valves.{valve_serves}
use Rattle.plan_laws.proofs.Buffers.{buffer_serves}
use Rattle.plan_laws.proofs.Substreams.{subs_serve}
use Rattle.plan_laws.proofs.laws.choices_serve_their_plan.Goals as goal

pub returns-clause-merge : goal.returns-clause-merge
returns-clause-merge c = merge_serves

pub returns-clause-balance : goal.returns-clause-balance
returns-clause-balance c = balance_serves

pub returns-clause-buffer : goal.returns-clause-buffer
returns-clause-buffer c = buffer_serves

pub returns-clause-hub : goal.returns-clause-hub
returns-clause-hub c = λ made rest os ins g e fits sure a s. hub_serves made rest os ins g fits sure a e s

pub returns-clause-recover : goal.returns-clause-recover
returns-clause-recover c = recover_serves

pub returns-clause-valve : goal.returns-clause-valve
returns-clause-valve c = valve_serves

pub returns-clause-dealt : goal.returns-clause-dealt
returns-clause-dealt c = dealt_serves

pub returns-clause-substreams : goal.returns-clause-substreams
returns-clause-substreams c = subs_serve
