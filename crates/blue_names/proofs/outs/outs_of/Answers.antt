use Rattle.std.proofs.Common.{◌∙◌}
use Rattle.blue_names.specs.Links.{wire_of_link}
use Rattle.blue_names.proofs.OutRows.{IsOuts-at}
use Rattle.blue_names.proofs.outs.outs_of.Goals as goal

pub loop-i-preserved : goal.loop-i-preserved
loop-i-preserved c =
    let e = c.in_ok-put_in.ensures in
    (e.length ∙ c.loop-i.invariant.0, IsOuts-at wire_of_link c.loop-i.rows.items c.put_in.new.rows.items c.args.links.now c.loop-i.i _ c.loop-i-test.true c.loop-i.invariant.1 e.here e.others)
