use Rattle.std.proofs.Common.{◌≡◌, drop, take}
use Rattle.blue_names.specs.First.{first_from}
use Rattle.blue_modules.specs.Rules.{taken_in, name_of}
use Rattle.blue_modules.proofs.names.taken_again.Given as goal

abbrev pub invariant-loop-i : goal.invariant-loop-i
invariant-loop-i l = first_from (λ i e. taken_in (take i l.body) (name_of e)) 0 l.entries ≡ first_from (λ i e. taken_in (take i l.body) (name_of e)) l.i (drop l.i l.entries)
