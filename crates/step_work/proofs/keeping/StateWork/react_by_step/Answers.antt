use Rattle.step_work.proofs.keeping.StateWork.react_by_step.Goals as goal

pub returns-in-Group : goal.returns-in-Group
returns-in-Group c = rw c.in-Group.is c.group.ensures

pub returns-in-Fold : goal.returns-in-Fold
returns-in-Fold c = rw c.in-Fold.is c.fold.ensures

pub returns-in-Reduce : goal.returns-in-Reduce
returns-in-Reduce c = rw c.in-Reduce.is c.reduce.ensures

pub returns-in-Scan : goal.returns-in-Scan
returns-in-Scan c = rw c.in-Scan.is c.scan.ensures
