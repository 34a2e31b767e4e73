use Rattle.std.proofs.Common.{◌≤◌, subst, sym}
use Rattle.stage_state.specs.Logics.{StateMayFollow}
use Rattle.stage_state.proofs.Following.{drop_begins, drop_named, drop_fresh, recover_fresh, valve_fresh}
use Rattle.stage_state.proofs.logic.StateLogic.follow.Goals as goal

pub follow-requires-clause-new : goal.follow-requires-clause-new
follow-requires-clause-new c = drop_begins c.args.moves.items _ (subst (λ l. StateMayFollow c.args.moves.items l) c.in-Dropping.is c.requires.may)

pub follow-requires-clause-named : goal.follow-requires-clause-named
follow-requires-clause-named c = drop_named c.args.moves.items _ (subst (λ l. StateMayFollow c.args.moves.items l) c.in-Dropping.is c.requires.may)

pub follow-requires-in-Recovering-clause-new : goal.follow-requires-in-Recovering-clause-new
follow-requires-in-Recovering-clause-new c = (subst (λ l. StateMayFollow c.args.moves.items l) c.in-Recovering.is c.requires.may).0

pub follow-requires-in-Recovering-clause-one : goal.follow-requires-in-Recovering-clause-one
follow-requires-in-Recovering-clause-one c = subst (λ k. k ≤ 1) (sym c.args.moves.ok.0) (subst (λ l. StateMayFollow c.args.moves.items l) c.in-Recovering.is c.requires.may).1

pub follow-requires-in-Obeying-clause-new : goal.follow-requires-in-Obeying-clause-new
follow-requires-in-Obeying-clause-new c = (subst (λ l. StateMayFollow c.args.moves.items l) c.in-Obeying.is c.requires.may).0

pub follow-requires-in-Obeying-clause-few : goal.follow-requires-in-Obeying-clause-few
follow-requires-in-Obeying-clause-few c = subst (λ k. k ≤ 2) (sym c.args.moves.ok.0) (subst (λ l. StateMayFollow c.args.moves.items l) c.in-Obeying.is c.requires.may).2

pub follow-requires-in-Obeying-clause-formed : goal.follow-requires-in-Obeying-clause-formed
follow-requires-in-Obeying-clause-formed c = (subst (λ l. StateMayFollow c.args.moves.items l) c.in-Obeying.is c.requires.may).3

pub returns-in-Dropping-clause-fresh : goal.returns-in-Dropping-clause-fresh
returns-in-Dropping-clause-fresh c = drop_fresh c.args.moves.items _ c.follow.new.self (subst (λ l. StateMayFollow c.args.moves.items l) c.in-Dropping.is c.requires.may) c.follow.ensures.begins

pub returns-in-Recovering-clause-fresh : goal.returns-in-Recovering-clause-fresh
returns-in-Recovering-clause-fresh c = recover_fresh c.args.moves.items _ c.follow-in-Recovering.new.self (subst (λ l. StateMayFollow c.args.moves.items l) c.in-Recovering.is c.requires.may) c.follow-in-Recovering.ensures

pub returns-in-Obeying-clause-fresh : goal.returns-in-Obeying-clause-fresh
returns-in-Obeying-clause-fresh c = valve_fresh c.args.moves.items _ c.follow-in-Obeying.new.self (subst (λ l. StateMayFollow c.args.moves.items l) c.in-Obeying.is c.requires.may) c.follow-in-Obeying.ensures
