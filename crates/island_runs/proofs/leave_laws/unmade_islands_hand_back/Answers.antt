use Rattle.island_runs.proofs.Back.{hand_back, as_handed_in}
use Rattle.island_runs.proofs.leave_laws.unmade_islands_hand_back.Goals as goal

pub returns-clause-are : goal.returns-clause-are
returns-clause-are g c = λ b ss ds f ends fl gb. hand_back _ _ b ss ds f ends fl gb

pub returns-clause-same : goal.returns-clause-same
returns-clause-same g c = λ b ss ds f ends readers writers fl gb a. as_handed_in _ _ b ss ds f ends fl gb readers writers a
