-- The goals of `engine::Engine::put_off` that the search leaves.
use Rattle.std.proofs.Common.{◌∙◌, refl, rules, arith}
use Rattle.fused_net.proofs.Going.{uses_trans, uses_none}
use Rattle.fused_net.proofs.Ongoing.{goes_same, goes_trans}
use Rattle.fused_net.proofs.Still.{still_same, still_trans, untouched_same, untouched_trans}
use Rattle.fused_net.proofs.Settling.{few_put, done_next, done_all}
use Rattle.fused_net.proofs.engine.Engine.put_off.Goals as goal

pub loop-n-init : goal.loop-n-init
loop-n-init g c = record {
  laws = c.requires.laws;
  on = goes_same _;
  uses = uses_none _;
  gone = refl;
  still = still_same g.S.Stage.passive _;
  untouched = untouched_same g.S.Stage.passive _;
  done = λ k less. absurd (omega (arith, less));
}

pub put_off_at-requires-clause-few : goal.put_off_at-requires-clause-few
put_off_at-requires-clause-few g c = few_put _ _ c.loop-n.invariant.uses c.requires.few

pub loop-n-preserved : goal.loop-n-preserved
loop-n-preserved g c =
    let i = c.loop-n.invariant in
    let e = c.put_off_at.ensures in
    record {
      laws = e.laws;
      on = goes_trans _ _ _ i.on e.on;
      uses = uses_trans _ _ _ 0 0 i.uses e.uses;
      gone = e.gone ∙ i.gone;
      still = still_trans g.S.Stage.passive _ _ _ i.on.ends i.still e.still;
      untouched = untouched_trans g.S.Stage.passive _ _ _ _ i.on.ends i.on.ports i.still.kinds i.untouched e.untouched;
      done = done_next g.S.Stage.late c.loop-n.self c.put_off_at.new.self _ i.done e.here e.others;
    }

pub returns-clause-all : goal.returns-clause-all
returns-clause-all g c = done_all g.S.Stage.late c.loop-n.self _ (search (rules, arith)) c.loop-n.invariant.done
