use Rattle.blue_check.proofs.Linking.{AreMerged-same}
use Rattle.blue_check.proofs.island_labels.merge.Goals as goal

pub returns-then-one-other-clause-joined : goal.returns-then-one-other-clause-joined
returns-then-one-other-clause-joined c = AreMerged-same c.args.labels.now.items c.args.one c.args.other c.if-one-other.true
