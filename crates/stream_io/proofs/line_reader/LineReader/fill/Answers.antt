-- One more read, and the end of the source.
use Rattle.std.proofs.Common.{◌≡◌, arith, refl, ap, ◌∙◌, Ok}
use Rattle.stream_io.specs.Reading.{NoEnd}
use Rattle.stream_io.proofs.Fetches.{no_end-none, Fetched-read, AtEnd-read}
use Rattle.stream_io.proofs.line_reader.LineReader.fill.Goals as goal

pub returns-then-branch-eq0-clause-end : goal.returns-then-branch-eq0-clause-end
returns-then-branch-eq0-clause-end g c =
    let state = g.S.Source.state in
    let same = c.find_end.ensures.same in
    let none : NoEnd c.loop-at.self.kept = c.in-None.ensures.none refl in
    let is : c.read.result ≡ Ok 0 = c.in_ok-read.was ∙ ap Ok c.if-branch-eq0.true in
    λ _. AtEnd-read (state c.find_end.new.self.source) _ _ _ (rw same none) (omega (arith, c.if-kept_len-gt-LONGEST.false)) (c.read.ensures.nothing is) c.read.ensures.whole (omega (arith, c.in_ok-read.ensures.given)) (c.read.ensures.end is)

pub loop-at-preserved : goal.loop-at-preserved
loop-at-preserved g c =
    let state = g.S.Source.state in
    let same = c.find_end.ensures.same in
    let before = rw (← same) at c.loop-at.invariant.0 in
    let none : NoEnd c.loop-at.self.kept = c.in-None.ensures.none refl in (
      Fetched-read _ (state c.find_end.new.self.source) _ _ _ _ c.in_ok-read.field-0 before c.read.ensures.name c.read.ensures.whole c.in_ok-read.ensures.given c.in_ok-read.ensures.kept c.in_ok-read.ensures.bytes,
      (λ held. absurd (no_end-none _ none (rw (c.loop-at.invariant.1 held) held))),
      c.in_ok-read.ensures.no_fault ∙ rw same c.loop-at.invariant.2,
    )
