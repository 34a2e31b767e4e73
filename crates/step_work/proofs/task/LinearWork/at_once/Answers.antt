use Rattle.step_work.proofs.task.LinearWork.at_once.Goals as goal

pub returns-in-Filter-clause-said : goal.returns-in-Filter-clause-said
returns-in-Filter-clause-said c = rw c.in-Filter.is c.filter_at_once.ensures

pub returns-in-FilterNot-clause-said : goal.returns-in-FilterNot-clause-said
returns-in-FilterNot-clause-said c = rw c.in-FilterNot.is c.filter_not_at_once.ensures

pub returns-in-Map-clause-said : goal.returns-in-Map-clause-said
returns-in-Map-clause-said c = rw c.in-Map.is c.map_at_once.ensures
