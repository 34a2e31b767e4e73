use Rattle.std.proofs.Common.{◌≡◌, vec_len, take}
use Rattle.blue_check.proofs.Joining.{Relabels}
use Rattle.blue_check.proofs.classes.relabel.Given as goal

abbrev pub invariant-loop-node : goal.invariant-loop-node
invariant-loop-node l = (vec_len l.labels ≡ vec_len l.initial.labels) × Relabels l.initial.labels.items l.labels.items (take l.node-index l.nodes) l.from l.to
