use Rattle.std.proofs.Common.{◌≡◌, ◌++◌, drop}
use Rattle.materializer.proofs.heads.copies_of.Given as goal

-- with the types that are left they are all
abbrev pub invariant-loop-t : goal.invariant-loop-t
invariant-loop-t l = l.copies.items ++ drop l.t-index l.types ≡ l.types
