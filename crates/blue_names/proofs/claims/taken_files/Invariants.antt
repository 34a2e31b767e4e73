use Rattle.std.proofs.Common.{map, take}
use Rattle.blue_names.specs.Names.{opens}
use Rattle.blue_names.specs.Claims.{Knows}
use Rattle.blue_names.proofs.claims.taken_files.Given as goal

abbrev pub invariant-loop-file : goal.invariant-loop-file
invariant-loop-file l = Knows l.taken.names l.taken.files l.taken.customs (map opens (take l.file-index l.files))
