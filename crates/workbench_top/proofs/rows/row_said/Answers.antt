-- The goal of `rows::row_said` that the search leaves.
use Rattle.std.proofs.Common.{rules, arith}
use Rattle.workbench_top.proofs.Saying.{says_row}
use Rattle.workbench_top.proofs.rows.row_said.Goals as goal

pub returns : goal.returns
returns c = says_row _ c.in_ok-said.said.items _ _ c.requires c.saying.ensures.ending c.saying.ensures.said c.saying.ensures.told c.in_ok-said.ensures (search (rules, arith))
