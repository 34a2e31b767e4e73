use Rattle.stage_out.proofs.Dealings.{dealt_rest, dealt_then, deal_stands}
use Rattle.stage_out.proofs.balance_laws.moves_give_for_every_rest.Goals as goal

pub returns-clause-rest : goal.returns-clause-rest
returns-clause-rest c = dealt_rest

pub returns-clause-turn : goal.returns-clause-turn
returns-clause-turn c = dealt_then

pub returns-clause-stands : goal.returns-clause-stands
returns-clause-stands c = deal_stands
