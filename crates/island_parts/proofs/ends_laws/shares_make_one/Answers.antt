use Rattle.island_parts.proofs.Sharing.{make_one}
use Rattle.island_parts.proofs.ends_laws.shares_make_one.Goals as goal

pub returns : goal.returns
returns g c = make_one
