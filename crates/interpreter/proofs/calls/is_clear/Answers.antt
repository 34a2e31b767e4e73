use Rattle.fused_net.specs.Net.{end_at}
use Rattle.interpreter.proofs.Acting.{clear_one}
use Rattle.interpreter.proofs.calls.is_clear.Goals as goal

pub returns : goal.returns
returns g c = clear_one c.args.engine.now (end_at c.args.engine.now.ends c.args.place).to c.is_clear.result (c.requires.laws.wired.to_within _ c.requires.within) (rw c.ends-ends.ensures at c.is_clear.ensures)
