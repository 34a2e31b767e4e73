use Rattle.std.proofs.Common.{refl}
use Rattle.lane_core.proofs.Meets.{meets_one}
use Rattle.lane_core.proofs.ends.LaneEndsMeet.meet_other.Goals as goal

pub returns-clause-met : goal.returns-clause-met
returns-clause-met c =
    meets_one _ _ _ _ c.args.out c.args.inp c.index_mut.result.now c.meet.new.out c.index_mut-2.result.now c.meet.new.inp c.in_ok-waits.waits c.index_mut.ensures.value c.index_mut-2.ensures.value refl refl
    (record {
      same = c.in_ok-waits.ensures.out.0;
      sent = c.in_ok-waits.ensures.out.1;
      ended = c.in_ok-waits.ensures.out.2;
      seen = c.in_ok-waits.ensures.out.3;
      cancel = c.in_ok-waits.ensures.out.4;
      finds = c.in_ok-waits.ensures.out.5;
      looks = c.in_ok-waits.ensures.out.6;
    })
    (record {
      same = c.in_ok-waits.ensures.inp.0;
      taken = c.in_ok-waits.ensures.inp.1;
      asked = c.in_ok-waits.ensures.inp.2;
      asks = c.in_ok-waits.ensures.inp.3;
      cancel = c.in_ok-waits.ensures.inp.4;
      looks = c.in_ok-waits.ensures.inp.5;
    })
    c.in_ok-waits.ensures.learnt c.in_ok-waits.ensures.told c.in_ok-waits.ensures.waits c.in_ok-waits.ensures.history
