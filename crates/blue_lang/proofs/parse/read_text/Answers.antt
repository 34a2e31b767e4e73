use Rattle.std.proofs.Common.{Err, subst, sym, ap, ◌∙◌, arith}
use Rattle.elem_core.specs.Text.{lines}
use Rattle.blue_lang.specs.Progress.{sofar}
use Rattle.blue_lang.proofs.Reading.{IsRead, line_read, all_read, err_same, refused_line, refused_open}
use Rattle.blue_lang.proofs.parse.read_text.Goals as goal

pub loop-line-preserved : goal.loop-line-preserved
loop-line-preserved c =
    let old = c.loop-line.progress in
    let left = subst (IsRead (lines c.args.text.now) c.loop-line.number old.version (sofar old)) c.in-Some.ensures.split c.loop-line.invariant.read in
    record { read = line_read _ _ _ _ _ _ _ _ left c.in-Ok.ensures.ok; short = omega (arith, c.in-Some.ensures.shorter) }

pub returns-in-Err-clause-fault : goal.returns-in-Err-clause-fault
returns-in-Err-clause-fault c = λ f e.
    refused_line (lines c.args.text.now) (lines c.loop-line.rest.now) c.loop-line.number c.loop-line.progress.version (sofar c.loop-line.progress) c.in-Some.line.now (lines c.in-Some.after.now) c.in-Err.stop f c.loop-line.invariant.read c.in-Some.ensures.split (λ k h. c.in-Err.ensures.fault k (ap (λ x. Err x) h)) (sym c.fault_at.ensures ∙ err_same _ _ e)

pub returns-then-is_inside-clause-fault : goal.returns-then-is_inside-clause-fault
returns-then-is_inside-clause-fault c = λ f e.
    refused_open (lines c.args.text.now) (lines c.loop-line.rest.now) c.loop-line.number c.loop-line.progress.version (sofar c.loop-line.progress) f c.loop-line.invariant.read c.in_default.ensures.split (sym c.is_begun.ensures ∙ c.if-not-is_begun.false) (sym c.is_inside.ensures ∙ c.if-is_inside.true) (sym c.fault_at-then-is_inside.ensures ∙ err_same _ _ e)

pub returns-clause-ok : goal.returns-clause-ok
returns-clause-ok c =
    all_read (lines c.args.text.now) (lines c.loop-line.rest.now) c.loop-line.number c.loop-line.progress.version (sofar c.loop-line.progress) c.in_default.ensures.split (sym c.is_begun.ensures ∙ c.if-not-is_begun.false) (sym c.is_inside.ensures ∙ c.if-is_inside.false) c.loop-line.invariant.read
