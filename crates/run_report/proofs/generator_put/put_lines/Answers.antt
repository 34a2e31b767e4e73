use Rattle.std.proofs.Common.{◌≤◌, ◌∙◌, ◌+◌, subst, arith}
use Rattle.stream_io.specs.Putting.{Puts, PutsPart}
use Rattle.run_report.specs.Texts.{line_of, numbered_lines}
use Rattle.run_report.proofs.Ranges.{leaves_lines, stops_lines}
use Rattle.run_report.proofs.generator_put.put_lines.Goals as goal

pub returns-in-Err-clause-failed : goal.returns-in-Err-clause-failed
returns-in-Err-clause-failed g c =
    let state = g.D.Drain.state in
    let within : c.loop-done.done + c.min-count.result ≤ c.args.n = omega (arith, c.loop-done-test.true, c.min-count.ensures) in
    λ _. stops_lines (line_of c.args.n) c.args.n c.loop-done.done c.min-count.result
    (state c.args.drain.now) (state c.loop-done.drain) (state c.put_all.new.drain) (numbered_lines c.args.n) within c.loop-done.invariant.leaves
    (subst (PutsPart (state c.loop-done.drain) (state c.put_all.new.drain)) (c.deref.ensures.value ∙ c.in_ok-fill.ensures) c.in-Err.ensures.err)

pub loop-done-preserved : goal.loop-done-preserved
loop-done-preserved g c =
    let state = g.D.Drain.state in
    let within : c.loop-done.done + c.min-count.result ≤ c.args.n = omega (arith, c.loop-done-test.true, c.min-count.ensures) in
    record {
      within = within;
      leaves = leaves_lines (line_of c.args.n) c.args.n c.loop-done.done c.min-count.result
          (state c.args.drain.now) (state c.loop-done.drain) (state c.put_all.new.drain) (numbered_lines c.args.n) within c.loop-done.invariant.leaves
          (subst (Puts (state c.loop-done.drain) (state c.put_all.new.drain)) (c.deref.ensures.value ∙ c.in_ok-fill.ensures) c.in_default.ensures.ok);
    }
