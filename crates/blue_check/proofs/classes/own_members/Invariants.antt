use Rattle.std.proofs.Common.{◌≡◌, vec_len}
use Rattle.blue_check.proofs.classes.own_members.Given as goal

abbrev pub invariant-rows : goal.invariant-rows
invariant-rows l = vec_len l.rows ≡ l.counter
