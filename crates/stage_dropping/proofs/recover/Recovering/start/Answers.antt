use Rattle.std.proofs.Common.{ap}
use Rattle.stage_core.specs.declared.phase.Phase.TheVariants.{Open}
use Rattle.stage_dropping.specs.Recoverings.{Recover}
use Rattle.stage_dropping.proofs.RecoverCalls.{starts_by}
use Rattle.stage_dropping.proofs.recover.Recovering.start.Goals as goal

pub returns-clause-ports : goal.returns-clause-ports
returns-clause-ports c = (starts_by c.args.self.now _ c.args.acts.now.items c.requires.empty c.requires.new c.requires.meets (ap (λ (l : Recover). record l { phase = Open }) c.self.view_is)).ports

pub returns-clause-gives : goal.returns-clause-gives
returns-clause-gives c = (starts_by c.args.self.now _ c.args.acts.now.items c.requires.empty c.requires.new c.requires.meets (ap (λ (l : Recover). record l { phase = Open }) c.self.view_is)).gives
