use Rattle.std.proofs.Common.{◌≡◌, ◌++◌, drop, map}
use Rattle.materializer.proofs.heads.heads_of.Given as goal

-- with those of the plugs that are left they are all
abbrev pub invariant-loop-plug : goal.invariant-loop-plug
invariant-loop-plug g l = l.heads.items ++ map (λ p. p.head) (drop l.plug-index l.plugs) ≡ map (λ p. p.head) l.plugs
