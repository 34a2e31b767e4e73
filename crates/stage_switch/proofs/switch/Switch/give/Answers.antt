use Rattle.std.proofs.Common.{rules}
use Rattle.stage_switch.proofs.Keeps.{gives}
use Rattle.stage_switch.proofs.switch.Switch.give.Goals as goal

pub compare_exchange-found-requires : goal.compare_exchange-found-requires
compare_exchange-found-requires c = (search rules, search rules, rw c.number.ensures (gives _ _ _ _ _ c.requires.1))
