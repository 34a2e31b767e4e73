-- The goals of `island::Island::put_off` that the search leaves.
use Rattle.std.proofs.Common.{◌≡◌, ◌∙◌, ap, false, rules}
use Rattle.fused_net.proofs.Going.{uses_none}
use Rattle.fused_net.proofs.Ongoing.{goes_same}
use Rattle.fused_net.proofs.Still.{still_same, untouched_same}
use Rattle.nodes.specs.Nodes.{node_passive}
use Rattle.interpreter.specs.Island.{Kept}
use Rattle.interpreter.proofs.Alone.{none_late, late_in_island}
use Rattle.interpreter.proofs.Running.{still_in, untouched_in}
use Rattle.interpreter.proofs.island.Island.put_off.Goals as goal

pub returns-then-not-self-clause-on : goal.returns-then-not-self-clause-on
returns-then-not-self-clause-on g c = goes_same _

pub returns-then-not-self-clause-still : goal.returns-then-not-self-clause-still
returns-then-not-self-clause-still g c = still_same node_passive _

pub returns-then-not-self-clause-untouched : goal.returns-then-not-self-clause-untouched
returns-then-not-self-clause-untouched g c = untouched_same node_passive _

pub returns-then-not-self-clause-uses : goal.returns-then-not-self-clause-uses
returns-then-not-self-clause-uses g c = uses_none _

pub returns-then-not-self-clause-all : goal.returns-then-not-self-clause-all
returns-then-not-self-clause-all g c =
    let off : c.self.inside.gathers ≡ false = search rules in
    let keeps = c.self.invariant.2 (ap (λ (k : Kept _ _ _ _ _). k.broken) c.self.view_is ∙ c.requires.whole) in
    λ k x at. late_in_island _ _ c.self.view_is (none_late g.S.Source.state g.D.Drain.state g.B.PlugBook.lists _ _ keeps.0 (keeps.4 off)) k x at

pub returns-clause-still : goal.returns-clause-still
returns-clause-still g c = still_in _ _ _ c.self.view_is c.put_off.ensures.still

pub returns-clause-untouched : goal.returns-clause-untouched
returns-clause-untouched g c = untouched_in _ _ _ _ c.self.view_is c.put_off.ensures.untouched

pub returns-clause-all : goal.returns-clause-all
returns-clause-all g c = λ k x at. c.put_off.ensures.all k x at
