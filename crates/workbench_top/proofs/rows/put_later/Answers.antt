use Rattle.std.proofs.Common.{◌≡◌, ◌++◌, sym, subst, rules}
use Rattle.workbench_top.specs.Rows.{row_parts, later_lines}
use Rattle.workbench_top.proofs.Parting.{later_on}
use Rattle.workbench_top.proofs.rows.put_later.Goals as goal

pub loop-part-preserved : goal.loop-part-preserved
loop-part-preserved c =
    subst (λ items. items ++ later_lines c.in-Some-checked_add.next (row_parts c.in-Some.after.now) ≡ c.args.out.now.items ++ later_lines 0 (row_parts c.args.parts.now)) (sym c.in_ok-put_stage.ensures)
    (later_on c.loop-part.out.items _ c.loop-part.place c.in-Some-checked_add.next c.loop-part.rest.now c.in-Some.part.now c.in-Some.after.now c.in-Some.ensures.parts (search rules) c.loop-part.invariant)
