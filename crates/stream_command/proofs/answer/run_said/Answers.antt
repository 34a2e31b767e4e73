-- The goals of `answer::run_said` that the search leaves.
use Rattle.std.proofs.Common.{inr, ap, Err}
use Rattle.blue_modules.specs.Text.{plain_text}
use Rattle.stream_command.specs.Asked.{plugged_by}
use Rattle.stream_command.specs.AfterRun.{of_outcome}
use Rattle.stream_command.proofs.Receipts.{of_said}
use Rattle.stream_command.proofs.Small.{few_nodes}
use Rattle.stream_command.proofs.CallAnswering.{flat_told, causes_flat}
use Rattle.stream_command.proofs.answer.run_said.Goals as goal

pub run_parsed-requires-clause-few : goal.run_parsed-requires-clause-few
run_parsed-requires-clause-few g c = λ κs lives. few_nodes (plain_text c.args.text) c.in-Ok.b c.in-Ok.ensures.flat

pub returns-in-Ok-clause-told : goal.returns-in-Ok-clause-told
returns-in-Ok-clause-told g c = λ tells. inr (c.in-Ok.b, (c.in-Ok.ensures.flat, c.run_parsed.ensures.told tells))

pub returns-in-Ok-clause-causes : goal.returns-in-Ok-clause-causes
returns-in-Ok-clause-causes g c =
    causes_flat (plugged_by g.B.PlugBook.lists c.args.plugs.items c.args.customs.items) c.run_parsed.result.status (of_outcome c.run_parsed.result) (plain_text c.args.text) c.in-Ok.b c.args.taken.now c.args.trace c.args.replay c.args.turns _ _ c.in-Ok.ensures.flat c.run_parsed.ensures.causes

pub returns-in-Ok-clause-islands : goal.returns-in-Ok-clause-islands
returns-in-Ok-clause-islands g c = of_said (plugged_by g.B.PlugBook.lists c.args.plugs.items c.args.customs.items) (plain_text c.args.text) c.in-Ok.b c.args.taken.now c.run_parsed.result.ran c.in-Ok.ensures.flat c.run_parsed.ensures.islands

pub returns-in-Err-Fault-clause-told : goal.returns-in-Err-Fault-clause-told
returns-in-Err-Fault-clause-told g c =
    let broken = c.in-Err-Fault.ensures.fault c.in-Err-Fault.fault (ap Err c.in-Err-Fault.field-0-is) in
    λ tells. flat_told (plugged_by g.B.PlugBook.lists c.args.plugs.items c.args.customs.items) _ (of_outcome c.unfit.result) (plain_text c.args.text) c.args.taken.now c.args.trace c.args.replay c.args.turns c.in-Err-Fault.fault c.unfit.ensures.status c.unfit.ensures.blank broken
