-- The goals of `engine::Engine::start` that the search leaves.
use Rattle.std.proofs.Common.{◌∙◌, refl, rules, arith}
use Rattle.fused_net.proofs.Ongoing.{goes_same, goes_room}
use Rattle.fused_net.proofs.Starting.{all_started}
use Rattle.fused_net.proofs.Keeping.{kept_starting, all_count}
use Rattle.fused_net.proofs.Still.{still_same, still_trans}
use Rattle.fused_net.proofs.engine.Engine.start.Goals as goal

pub loop-n-init : goal.loop-n-init
loop-n-init g c = (
  c.requires.starting,
  goes_same _,
  omega arith,
  refl,
  refl,
  kept_starting g.S.Stage.port_state g.S.Stage.law g.S.Stage.asking g.S.Stage.moves g.S.Stage.fresh g.S.Stage.keeps _ c.requires.starting,
  still_same g.S.Stage.passive _,
)

pub start_at-requires-clause-ports : goal.start_at-requires-clause-ports
start_at-requires-clause-ports g c = goes_room _ _ _ _ c.loop-n.invariant.1 c.loop-n.invariant.3 c.requires.ports

pub returns-clause-laws : goal.returns-clause-laws
returns-clause-laws g c = all_started g.S.Stage.port_state g.S.Stage.law g.S.Stage.asking g.S.Stage.moves g.S.Stage.fresh _ _ c.loop-n.invariant.0 (search (rules, arith))

pub returns-in_err-start_at-clause-count : goal.returns-in_err-start_at-clause-count
returns-in_err-start_at-clause-count g c = all_count g.S.Stage.keeps _ _ _ c.start_at.ensures.kept (c.loop-n.invariant.0.each_first ∙ c.loop-n.invariant.1.nodes)

pub loop-n-preserved : goal.loop-n-preserved
loop-n-preserved g c = (
  search (rules, arith),
  search (rules, arith),
  search (rules, arith),
  search (rules, arith),
  search (rules, arith),
  search (rules, arith),
  still_trans g.S.Stage.passive _ _ _ c.loop-n.invariant.1.ends c.loop-n.invariant.6 c.in_ok-start_at.ensures.still,
)
