use Rattle.std.proofs.Common.{◌≡◌, ◌∙◌, ◌+◌, ◌++◌, ap, sym, arith}
use Rattle.std.specs.List.{flat_map, range_with_len}
use Rattle.run_report.specs.Texts.{line_of}
use Rattle.run_report.proofs.Ranges.{lines_more}
use Rattle.run_report.proofs.generator_put.fill.Goals as goal

pub loop-done-preserved : goal.loop-done-preserved
loop-done-preserved c =
    let n = c.args.n in
    let from = c.args.before + 1 in
    let done = c.loop-done.done in
    let number : c.args.before + (done + 1) ≡ from + done = omega arith in
    record {
      within = omega (arith, c.loop-done-test.true);
      items = c.in_ok-add_line.ensures
          ∙ (ap (λ xs. xs ++ line_of n (c.args.before + (done + 1))) c.loop-done.invariant.items
          ∙ (ap (λ k. flat_map (line_of n) (range_with_len from done) ++ line_of n k) number
          ∙ sym (lines_more (line_of n) from done)));
    }
