-- The goals of `engine::Engine::new` that the search leaves.
use Rattle.std.proofs.Common.{ap, length, rules, ◌∙◌}
use Rattle.port_core.specs.Ring.{Ring}
use Rattle.fused_net.proofs.Starting.{new_starting, new_asks}
use Rattle.fused_net.proofs.engine.Engine.new.Goals as goal

pub returns-clause-starting : goal.returns-clause-starting
returns-clause-starting g c =
    new_starting g.S.Stage.port_state g.S.Stage.law g.S.Stage.asking g.S.Stage.moves g.S.Stage.fresh _ _ _ _ _ _ (length c.args.ends.items) (c.new-queue.ensures.waits ∙ ap (λ (r : Ring). r.queue) c.requires.ring) (search rules) c.requires.wired c.requires.wires c.requires.fresh

pub returns-clause-asks : goal.returns-clause-asks
returns-clause-asks g c = new_asks _ _ c.requires.wires
