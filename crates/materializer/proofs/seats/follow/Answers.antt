-- The goals of `seats::follow` that the search leaves.
use Rattle.std.proofs.Common.{subst}
use denote.Exit.{no}
use denote.Param.Send.{param_send, arg_send}
use Rattle.line_chain.proofs.Sending.{line_send}
use Rattle.materializer.specs.Seats.{WorkMayFollow}
use Rattle.materializer.proofs.seats.follow.Goals as goal

pub follow-requires-clause-may : goal.follow-requires-clause-may
follow-requires-clause-may g c = subst (λ w. WorkMayFollow c.args.moves.items w) c.in-State.is c.requires.may

pub follow-requires-in-FanIn-clause-merge : goal.follow-requires-in-FanIn-clause-merge
follow-requires-in-FanIn-clause-merge g c = subst (λ w. WorkMayFollow c.args.moves.items w) c.in-FanIn.is c.requires.may

pub follow-requires-in-Sub-clause-merge : goal.follow-requires-in-Sub-clause-merge
follow-requires-in-Sub-clause-merge g c = λ lives. subst (λ w. WorkMayFollow c.args.moves.items w) c.in-Sub.is c.requires.may

pub follow-requires-in-FanOut-clause-balance : goal.follow-requires-in-FanOut-clause-balance
follow-requires-in-FanOut-clause-balance g c = subst (λ w. WorkMayFollow c.args.moves.items w) c.in-FanOut.is c.requires.may

pub follow-requires-in-Sub-send-C : goal.follow-requires-in-Sub-send-C
follow-requires-in-Sub-send-C g c κs = param_send 0 _ (arg_send _ no _ line_send)
