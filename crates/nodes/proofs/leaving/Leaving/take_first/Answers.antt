-- The goals of `leaving::Leaving::take_first` that the search leaves.
use Rattle.std.proofs.Common.{◌∙◌, sym}
use Rattle.nodes.proofs.Leaves.{second_none, second_some}
use Rattle.nodes.proofs.leaving.Leaving.take_first.Goals as goal

pub returns-in-None-clause-none : goal.returns-in-None-clause-none
returns-in-None-clause-none c = second_none c.self.inside.wire c.self.inside.first c.take.new.self c.self.inside.second c.take-in-None.new.self c.take-in-None.result c.self.inside.gone.items c.args.self.now c.self.view_is (sym c.take.ensures.value ∙ c.in-None.is) c.take.ensures.after c.take-in-None.ensures.value c.take-in-None.ensures.after

pub returns-in-None-clause-some : goal.returns-in-None-clause-some
returns-in-None-clause-some c = second_some c.self.inside.wire c.self.inside.first c.take.new.self c.self.inside.second c.take-in-None.new.self c.take-in-None.result c.self.inside.gone.items c.args.self.now c.self.view_is (sym c.take.ensures.value ∙ c.in-None.is) c.take.ensures.after c.take-in-None.ensures.value c.take-in-None.ensures.after
