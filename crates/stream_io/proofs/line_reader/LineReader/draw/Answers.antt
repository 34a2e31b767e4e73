-- What stays kept behind the line.
use Rattle.std.proofs.Common.{◌≡◌, ◌-◌, length, slice_range, take, ◌+◌, ◌≤◌, ap, arith, sym, ◌∙◌, refl}
use Rattle.std.proofs.lemmas.List.Edits.{length-between}
use Rattle.stream_io.specs.Reading.{ReaderState}
use Rattle.stream_io.proofs.Buffers.{between-past, take-between}
use Rattle.stream_io.proofs.Lines.{has_no_lf-NoEnd}
use Rattle.stream_io.proofs.line_reader.LineReader.draw.Goals as goal

pub returns-clause-kept : goal.returns-clause-kept
returns-clause-kept g c =
    let s = c.self.inside in
    let l : length (slice_range s.bytes.items s.start s.end) ≡ s.end - s.start = length-between s.bytes.items s.start s.end c.self.invariant.fits in
    let kept : slice_range s.bytes.items s.start s.end ≡ c.args.self.now.kept = ap (λ (r : ReaderState _). r.kept) c.self.view_is in
    rw (← c.self.view_is) (between-past s.bytes.items s.start c.args.past s.end (omega (arith, rw (← kept) at c.requires.within)))

pub of-requires-clause-no_lf : goal.of-requires-clause-no_lf
of-requires-clause-no_lf g c =
    let s = c.self.inside in
    let l : length (slice_range s.bytes.items s.start s.end) ≡ s.end - s.start = length-between s.bytes.items s.start s.end c.self.invariant.fits in
    let kept : slice_range s.bytes.items s.start s.end ≡ c.args.self.now.kept = ap (λ (r : ReaderState _). r.kept) c.self.view_is in
    let fits : s.start + c.args.size ≤ s.end = omega (arith, rw (← kept) at c.requires.within) in
    let part : c.in_ok-bytes.bytes.items ≡ slice_range s.bytes.items s.start (s.start + c.args.size) = c.in_ok-bytes.ensures.items ∙ rw c.deref.ensures.value refl in
    let front = part ∙ sym (take-between s.bytes.items s.start c.args.size s.end fits) ∙ ap (take c.args.size) kept in
    has_no_lf-NoEnd c.in_ok-bytes.bytes.items (rw front c.requires.no_end)
