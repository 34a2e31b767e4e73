use Rattle.step_work.proofs.keeping.StateWork.at_once.Goals as goal

pub returns-in-Fold-clause-said : goal.returns-in-Fold-clause-said
returns-in-Fold-clause-said c = rw c.in-Fold.is c.fold_at_once.ensures.said

pub returns-in-Scan-clause-said : goal.returns-in-Scan-clause-said
returns-in-Scan-clause-said c = rw c.in-Scan.is c.scan_at_once.ensures.said

pub returns-in-Reduce-clause-said : goal.returns-in-Reduce-clause-said
returns-in-Reduce-clause-said c = rw c.in-Reduce.is c.reduce_at_once.ensures.said
