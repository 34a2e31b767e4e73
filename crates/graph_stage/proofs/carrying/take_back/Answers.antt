use Rattle.std.proofs.Common.{◌<◌, length, List, ap, ◌∙◌, arith}
use Rattle.port_core.specs.declared.act.Act.{Act}
use Rattle.port_core.specs.ActList.{ActList}
use Rattle.graph_stage.specs.Standing.{first_turned}
use Rattle.graph_stage.proofs.Standing.{turned_next, turned_fits}
use Rattle.graph_stage.proofs.carrying.take_back.Goals as goal

pub loop-i-preserved : goal.loop-i-preserved
loop-i-preserved c =
    let inv = c.loop-i.invariant in
    let all = c.args.acts.now.items in
    let within : c.loop-i._i < length all = omega (arith, c.len-i-end.ensures, c.loop-i-test.true) in
    let turned = c.turn_first.ensures in
    let many = ap (λ (a : ActList). length a.items) turned in
    let room = ap (λ (a : ActList). a.room) turned in
    let fits = turned_fits c.args.sight.now c.loop-i.acts.items in
    record {
      items =
          ap (λ (a : ActList). a.items) turned
          ∙ ap (λ (z : List Act). first_turned c.args.sight.now z) inv.items
          ∙ turned_next c.args.sight.now all c.loop-i._i within;
      fits = omega (arith, many, room, fits, inv.fits);
      room = room ∙ inv.room;
    }
