-- What the search for LF says of the kept bytes.
use Rattle.std.proofs.Common.{◌≡◌, ◌+◌, ◌-◌, length, take, slice_range, arith, subst, ℕ}
use Rattle.std.proofs.lemmas.List.Edits.{length-between}
use Rattle.stream_io.specs.Reading.{NoEnd}
use Rattle.stream_io.proofs.Buffers.{Unended, Unended-searched, NoEnd-part, NoEnd-front}
use Rattle.stream_io.proofs.line_reader.LineReader.find_end.Goals as goal

pub invariant_of-self : goal.invariant_of-self
invariant_of-self g c =
    let s = c.self.inside in
    let hay = rw c.deref.ensures.value at c.in-None.ensures in
    let l = length-between s.bytes.items s.scanned s.end c.self.invariant.fits in
    let whole : s.scanned + length (slice_range s.bytes.items s.scanned s.end) ≡ s.end = omega arith in
    let none = Unended-searched s.bytes.items s.start s.scanned s.end _ c.self.invariant.no_end (omega arith) c.self.invariant.fits hay in
    record {
      begins = omega arith;
      within = omega arith;
      fits = c.self.invariant.fits;
      no_end = subst (λ (n : ℕ). Unended s.bytes.items s.start n) whole none;
      few = omega arith;
      bound = omega arith;
    }

pub invariant_of-self-in-Some : goal.invariant_of-self-in-Some
invariant_of-self-in-Some g c =
    let s = c.self.inside in
    let hay = rw c.deref.ensures.value at c.in-Some.ensures.0.before in
    let high = rw c.deref.ensures.value at c.in-Some.ensures.0.high in
    let l = length-between s.bytes.items s.scanned s.end c.self.invariant.fits in
    record {
      begins = omega arith;
      within = omega arith;
      fits = c.self.invariant.fits;
      no_end = Unended-searched s.bytes.items s.start s.scanned s.end c.in-Some.at c.self.invariant.no_end (omega arith) c.self.invariant.fits hay;
      few = omega arith;
      bound = omega arith;
    }

pub returns-in-None-clause-none : goal.returns-in-None-clause-none
returns-in-None-clause-none g c =
    let s = c.self.inside in
    let hay = rw c.deref.ensures.value at c.in-None.ensures in
    let l = length-between s.bytes.items s.scanned s.end c.self.invariant.fits in
    let whole : s.scanned + length (slice_range s.bytes.items s.scanned s.end) ≡ s.end = omega arith in
    let none = Unended-searched s.bytes.items s.start s.scanned s.end _ c.self.invariant.no_end (omega arith) c.self.invariant.fits hay in
    λ _. subst (λ (w : _). NoEnd w.kept) c.self.view_is (NoEnd-part s.bytes.items s.start s.end c.self.invariant.fits (subst (λ (n : ℕ). Unended s.bytes.items s.start n) whole none))

pub returns-in-Some-clause-before : goal.returns-in-Some-clause-before
returns-in-Some-clause-before g c =
    let s = c.self.inside in
    let hay = rw c.deref.ensures.value at c.in-Some.ensures.0.before in
    let high = rw c.deref.ensures.value at c.in-Some.ensures.0.high in
    let l = length-between s.bytes.items s.scanned s.end c.self.invariant.fits in
    let none = Unended-searched s.bytes.items s.start s.scanned s.end c.in-Some.at c.self.invariant.no_end (omega arith) c.self.invariant.fits hay in
    subst (λ (w : _). NoEnd (take (s.scanned + c.in-Some.at - s.start) w.kept)) c.self.view_is
    (NoEnd-front s.bytes.items s.start (s.scanned + c.in-Some.at) s.end (omega arith) (omega arith) c.self.invariant.fits none)
