use Rattle.step_work.proofs.LineChains.{chain_means}
use Rattle.step_work.proofs.laws.a_line_means_its_list_function.Goals as goal

pub returns : goal.returns
returns c = chain_means
