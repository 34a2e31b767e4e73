-- The goals of `answer::run_text` that the search leaves.
use Rattle.std.proofs.Common.{inr}
use Rattle.blue_modules.specs.Text.{plain_text}
use Rattle.stream_command.specs.Asked.{plugged_by}
use Rattle.stream_command.specs.AfterRun.{of_outcome}
use Rattle.stream_command.proofs.Receipts.{of_text}
use Rattle.stream_command.proofs.CallAnswering.{causes_said}
use Rattle.stream_command.proofs.answer.run_text.Goals as goal

pub returns-in-Ok-clause-told : goal.returns-in-Ok-clause-told
returns-in-Ok-clause-told g c = λ tells. inr (plain_text c.in-Ok.said, (c.in-Ok.ensures.ok, c.run_said.ensures.told tells))

pub returns-in-Ok-clause-causes : goal.returns-in-Ok-clause-causes
returns-in-Ok-clause-causes g c =
    causes_said (plugged_by g.B.PlugBook.lists c.args.plugs.items c.args.customs.items) c.run_said.result.status (of_outcome c.run_said.result) c.args.text.items (plain_text c.in-Ok.said) c.args.taken.now c.args.trace c.args.replay c.args.turns _ _ c.in-Ok.ensures.ok c.run_said.ensures.causes

pub returns-in-Ok-clause-islands : goal.returns-in-Ok-clause-islands
returns-in-Ok-clause-islands g c = of_text (plugged_by g.B.PlugBook.lists c.args.plugs.items c.args.customs.items) c.args.text.items (plain_text c.in-Ok.said) c.args.taken.now c.run_said.result.ran c.in-Ok.ensures.ok c.run_said.ensures.islands
