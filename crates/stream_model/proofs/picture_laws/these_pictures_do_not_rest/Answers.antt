use Rattle.stream_model.proofs.FalseStalls.{merged_does_not_rest, merged_fit, merged_lawful, parted_does_not_rest, parted_lawful, sorted_does_not_rest, sorted_lawful, turned_does_not_rest, turned_lawful}
use Rattle.stream_model.proofs.picture_laws.these_pictures_do_not_rest.Goals as goal

pub returns-clause-turned_lawful : goal.returns-clause-turned_lawful
returns-clause-turned_lawful c = turned_lawful

pub returns-clause-in_turns : goal.returns-clause-in_turns
returns-clause-in_turns c = turned_does_not_rest

pub returns-clause-sorted_lawful : goal.returns-clause-sorted_lawful
returns-clause-sorted_lawful c = sorted_lawful

pub returns-clause-sorted : goal.returns-clause-sorted
returns-clause-sorted c = sorted_does_not_rest

pub returns-clause-parted_lawful : goal.returns-clause-parted_lawful
returns-clause-parted_lawful c = parted_lawful

pub returns-clause-by_parity : goal.returns-clause-by_parity
returns-clause-by_parity c = parted_does_not_rest

pub returns-clause-merged_fits : goal.returns-clause-merged_fits
returns-clause-merged_fits c = merged_fit

pub returns-clause-merged_lawful : goal.returns-clause-merged_lawful
returns-clause-merged_lawful c = merged_lawful

pub returns-clause-merged : goal.returns-clause-merged
returns-clause-merged c = merged_does_not_rest
