use Rattle.std.proofs.Common.{vec_len}
use Rattle.blue_names.proofs.OutRows.{AreEmpty}
use Rattle.blue_names.proofs.outs.empty_rows.Given as goal

abbrev pub invariant-rows : goal.invariant-rows
invariant-rows l = AreEmpty l.rows.items l.counter
