use Rattle.std.proofs.Common.{◌∙◌, sym, ap}
use Rattle.port_core.specs.Picks.{next_move}
use Rattle.stage_out.specs.Balancings.{Balancing}
use Rattle.stage_out.proofs.BalanceChoices.{next_there}
use Rattle.stage_out.proofs.balancing.Balancing.choose.Goals as goal

pub find-requires-clause-there : goal.find-requires-clause-there
find-requires-clause-there c = next_there _ _ c.in-Move.m c.requires.named (sym (ap (λ (l : Balancing). next_move l.log.left) c.self.view_is) ∙ sym c.next.ensures ∙ c.in-Move.is)
