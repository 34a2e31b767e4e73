use Rattle.std.proofs.Common.{◌∷◌, ℕ, List, sym, ◌∙◌, subst}
use Rattle.plan_reader.specs.Text.{IsMoveText}
use Rattle.plan_reader.proofs.Numbers.{none_there, none_stops, a_move}
use Rattle.plan_reader.proofs.Heads.{rest_all}
use Rattle.plan_reader.proofs.moves.move_behind.Goals as goal

pub returns-in-Some-number-clause-some : goal.returns-in-Some-number-clause-some
returns-in-Some-number-clause-some c = subst (λ (l : List ℕ). IsMoveText (32 ∷ c.args.text.now) c.in-Some-number.m l) (sym (rest_all c.args.text.now c.in-Some.place)) (a_move c.args.text.now c.in-Some.place c.in-Some-number.m (sym c.stop_at.ensures.place ∙ c.in-Some.is) c.in-Some-number.ensures.some c.in-Some-number.ensures.small)

pub returns-in-None-number-clause-none : goal.returns-in-None-number-clause-none
returns-in-None-number-clause-none c = λ m behind h. none_there c.args.text.now c.in-Some.place (sym c.stop_at.ensures.place ∙ c.in-Some.is) c.in-None-number.ensures.none m behind h

pub returns-in-None-clause-none : goal.returns-in-None-clause-none
returns-in-None-clause-none c = λ m behind h. none_stops c.args.text.now (sym c.stop_at.ensures.place ∙ c.in-None.is) m behind h
