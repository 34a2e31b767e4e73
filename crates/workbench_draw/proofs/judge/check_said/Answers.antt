use Rattle.std.proofs.Common.{List, map, sym, subst, rules}
use Rattle.blue_check.specs.Fitness.{IsFit, IsFirstFault}
use Rattle.stream_model.specs.declared.blueprint.Blueprint.{Blueprint}
use Rattle.stream_model.specs.Heads.{shipped_guests, shipped_heads}
use Rattle.stream_model.specs.Known.{CustomShape, head_shape}
use Rattle.stream_model.specs.declared.head.PlugHead.{PlugHead}
use Rattle.workbench_draw.specs.Judging.{IsFitText}
use Rattle.workbench_draw.proofs.Judged.{breaks_rule}
use Rattle.workbench_draw.proofs.judge.check_said.Goals as goal

pub returns-in-Ok-clause-fit : goal.returns-in-Ok-clause-fit
returns-in-Ok-clause-fit c =
    subst (λ (b : Blueprint). IsFitText c.args.text.now c.args.file.now b) (sym c.in-Ok.ensures.blueprint)
    (record {
      says = c.requires.says;
      fit = subst (λ taken. IsFit c.args.b shipped_guests taken) c.requires.taken
          (subst (λ (l : List CustomShape). IsFit c.args.b (record { plugs = shipped_heads; customs = l }) c.args.taken.now) c.requires.customs
          (subst (λ (l : List PlugHead). IsFit c.args.b (record { plugs = l; customs = map head_shape c.args.customs.now }) c.args.taken.now) c.requires.plugs
          c.in-Ok.ensures.fit));
    })

pub returns-in-Err-Fault-clause-unready : goal.returns-in-Err-Fault-clause-unready
returns-in-Err-Fault-clause-unready c =
    breaks_rule c.args.text.now c.args.file.now c.args.b c.in-Err-Fault.fault c.requires.says
    (subst (λ taken. IsFirstFault c.args.b shipped_guests taken c.in-Err-Fault.fault) c.requires.taken
    (subst (λ (l : List CustomShape). IsFirstFault c.args.b (record { plugs = shipped_heads; customs = l }) c.args.taken.now c.in-Err-Fault.fault) c.requires.customs
    (subst (λ (l : List PlugHead). IsFirstFault c.args.b (record { plugs = l; customs = map head_shape c.args.customs.now }) c.args.taken.now c.in-Err-Fault.fault) c.requires.plugs
    (search rules))))
