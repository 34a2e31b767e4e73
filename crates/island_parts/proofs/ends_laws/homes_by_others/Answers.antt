use Rattle.island_parts.proofs.Behind.{homes_same, homes_behind}
use Rattle.island_parts.proofs.ends_laws.homes_by_others.Goals as goal

pub returns-clause-same : goal.returns-clause-same
returns-clause-same g c = homes_same

pub returns-clause-all : goal.returns-clause-all
returns-clause-all g c = homes_behind
