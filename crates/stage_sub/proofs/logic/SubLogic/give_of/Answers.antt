use Rattle.std.proofs.Common.{ap, sym, ◌∙◌, subst}
use Rattle.stage_sub.specs.Leds.{Led, GivesOf, IsNextMove}
use Rattle.stage_sub.proofs.Following.{move_next}
use Rattle.stage_sub.proofs.LedHandlers.{served_so, served_none}
use Rattle.stage_sub.proofs.logic.SubLogic.give_of.Goals as goal

pub note_next-requires : goal.note_next-requires
note_next-requires g c = subst (λ l. IsNextMove c.args.n l) (sym (ap (λ (l : Led _). l.left) c.self.view_is)) (move_next c.args.self.now.left c.args.n c.requires.next)

pub returns-then-give_of-clause-serves : goal.returns-then-give_of-clause-serves
returns-then-give_of-clause-serves g c =
    served_so c.args.self.now c.self.inside.state.value c.give_of.new.self c.self.inside.log c.note_next.new.log c.args.n c.args.acts.now.items c.give_of.new.acts.items c.self.view_is c.requires.asked c.requires.next c.requires.empty
    (subst (λ b. GivesOf c.args.n b c.self.inside.state.value c.give_of.new.self c.args.acts.now.items c.give_of.new.acts.items) c.if-give_of.true (rw (sym c.deref_mut.ensures.value) c.give_of.ensures.gives)) c.note_next.ensures.moves c.note_next.ensures.left c.note_next.ensures.stuck

pub returns-else-give_of-clause-serves : goal.returns-else-give_of-clause-serves
returns-else-give_of-clause-serves g c =
    served_none c.args.self.now c.self.inside.state.value c.give_of.new.self c.self.inside.log c.args.n c.args.acts.now.items c.give_of.new.acts.items c.self.view_is c.requires.next c.requires.empty
    (subst (λ b. GivesOf c.args.n b c.self.inside.state.value c.give_of.new.self c.args.acts.now.items c.give_of.new.acts.items) c.if-give_of.false (rw (sym c.deref_mut.ensures.value) c.give_of.ensures.gives))
