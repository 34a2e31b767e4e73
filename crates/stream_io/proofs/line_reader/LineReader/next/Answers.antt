-- What each way out of a draw says.
use Rattle.std.proofs.Common.{◌≡◌, ◌≤◌, ◌+◌, [], length, IsSome, Err, Ok, sym, ap, refl, ◌∙◌, arith, inl, subst}
use Rattle.std.proofs.lemmas.List.{take_all, drop_all}
use Rattle.stream_io.specs.State.{SourceState}
use Rattle.stream_io.specs.Reading.{ReaderState}
use Rattle.stream_io.proofs.Answering.{no_ok, not_ok, never_ok, err_gives, err_came, ok_no_err, some_not_none}
use Rattle.stream_io.proofs.Drawings.{long_or_memory, fault_or_memory, undrawn, drawn, read_to_end, nothing_too_long}
use Rattle.stream_io.proofs.Lines.{FirstTooLong-kept, FirstTooLong-none, drawn-ended, drawn-unended, lines-ended, lines-unended}
use Rattle.stream_io.proofs.Puttings.{on_err}
use Rattle.stream_io.proofs.line_reader.LineReader.next.Goals as goal

pub returns-in_err-at : goal.returns-in_err-at
returns-in_err-at g c =
    let state = g.S.Source.state in
    let fill = c.fill.ensures in
    let r = c.from_residual.result in
    let y = c.in_err-at.field-0.0 in
    let came = c.from_residual.ensures.1 in
    let u = undrawn (state c.args.self.now.source) (state c.fill.new.self.source) _ _ _ _ fill.reads fill.bound fill.never_falls refl refl in
    record {
      draws = no_ok _ _ r came;
      line = no_ok _ _ r came;
      short = no_ok _ _ r came;
      no_lf = no_ok _ _ r came;
      end = never_ok _ r _ came;
      too_long = λ is told. rw (← fill.reads.left told) (FirstTooLong-kept _ _ (fill.too_long (c.in_err-at.was ∙ ap Err (err_came r y _ came is))));
      too_long_comes = λ _ _. not_ok _ _ r came;
      fault = err_gives _ r y came c.in_err-at.ensures.fault;
      no_fault = not_ok _ _ r came;
      never_falls = u.never_falls;
      drawn_before_fault = λ is. fill.read_fault (c.in_err-at.was ∙ ap Err (err_came r y _ came is));
      nothing_lost = on_err r u.left;
      untouched = λ held. ap (λ (r : ReaderState _). r.source) (fill.untouched held);
      few = not_ok _ _ r came;
      bound = u.bound;
      given = u.given;
      reads = u.reads;
      read_for_line = no_ok _ _ r came;
      read_at_end = never_ok _ r _ came;
      read_at_fault = on_err r u.count;
      name = u.name;
      whole = u.whole;
    }

pub returns-then-kept-eq0 : goal.returns-then-kept-eq0
returns-then-kept-eq0 g c =
    let state = g.S.Source.state in
    let fill = c.fill.ensures in
    let ends = fill.end (c.in_ok-at.was ∙ ap Ok c.in-None.is) in
    let none : length c.fill.new.self.kept ≡ 0 = sym c.kept_len-kept.ensures ∙ c.if-kept-eq0.true in
    let u = undrawn (state c.args.self.now.source) (state c.fill.new.self.source) _ _ _ _ fill.reads fill.bound fill.never_falls refl refl in
    let e = read_to_end (state c.args.self.now.source) (state c.fill.new.self.source) _ _ fill.reads ends none in
    record {
      draws = tt;
      line = tt;
      short = tt;
      no_lf = tt;
      end = λ _. e;
      too_long = λ is. ok_no_err _ _ is;
      too_long_comes = λ told. nothing_too_long _ (e.nothing_left told);
      fault = tt;
      no_fault = c.in_ok-at.ensures.no_fault;
      never_falls = u.never_falls;
      drawn_before_fault = λ is. ok_no_err _ _ is;
      nothing_lost = tt;
      untouched = λ held. ap (λ (r : ReaderState _). r.source) (fill.untouched held);
      few = omega (arith, none);
      bound = u.bound;
      given = u.given;
      reads = u.reads;
      read_for_line = tt;
      read_at_end = λ _. u.count;
      read_at_fault = tt;
      name = u.name;
      whole = u.whole;
    }

pub returns-in_ok-draw-in-Some : goal.returns-in_ok-draw-in-Some
returns-in_ok-draw-in-Some g c =
    let state = g.S.Source.state in
    let fill = c.fill.ensures in
    let ends = rw c.in-Some.is at c.in_ok-at.ensures.found in
    let draw = c.in_ok-draw-in-Some.ensures in
    let same = ap state c.draw.ensures.source in
    let within : c.in-Some.at + 1 ≤ length c.fill.new.self.kept = omega (arith, ends.within) in
    let few : length c.fill.new.self.kept ≤ c.in-Some.at + 1 + 4096 = omega (arith, ends.near) in
    let d = drawn (state c.args.self.now.source) (state c.fill.new.self.source) (state c.draw.new.self.source) _ _ _ _ c.in-Some.at (c.in-Some.at + 1) fill.reads fill.bound c.in_ok-at.ensures.no_fault same (omega arith) within ends.short few draw.line draw.kept in
    let first = λ (told : _). drawn-ended (state c.args.self.now.source) (state c.fill.new.self.source) (state c.draw.new.self.source) _ _ _ _ c.in-Some.at (fill.reads.left told) same ends draw.line draw.kept in
    let is = λ (told : _). lines-ended _ _ _ c.fill.new.self.kept c.in-Some.at (first told) ends.before draw.line in
    record {
      draws = λ told. inl (first told);
      line = is;
      short = d.short;
      no_lf = draw.no_lf;
      end = λ is. some_not_none _ _ refl is;
      too_long = λ is. ok_no_err _ _ is;
      too_long_comes = λ told. FirstTooLong-none _ _ _ (is told) d.short;
      fault = tt;
      no_fault = d.no_fault;
      never_falls = d.never_falls;
      drawn_before_fault = λ is. ok_no_err _ _ is;
      nothing_lost = tt;
      untouched = λ held. c.draw.ensures.source ∙ ap (λ (r : ReaderState _). r.source) (fill.untouched held);
      few = d.few;
      bound = d.bound;
      given = d.given;
      reads = d.reads;
      read_for_line = d.read_for_line;
      read_at_end = λ is. some_not_none _ _ refl is;
      read_at_fault = tt;
      name = d.name;
      whole = d.whole;
    }

pub returns-in_err-draw-in-Some : goal.returns-in_err-draw-in-Some
returns-in_err-draw-in-Some g c =
    let state = g.S.Source.state in
    let fill = c.fill.ensures in
    let r = c.from_residual-in_err-draw-in-Some.result in
    let y = c.in_err-draw-in-Some.field-0.0 in
    let came = c.from_residual-in_err-draw-in-Some.ensures.1 in
    let no_memory = c.in_err-draw-in-Some.ensures.no_memory in
    let same = c.in_err-draw-in-Some.ensures.err in
    let as_read = ap (λ (r : ReaderState _). state r.source) same in
    let u = undrawn (state c.args.self.now.source) (state c.fill.new.self.source) (state c.draw.new.self.source) _ _ _ fill.reads fill.bound fill.never_falls as_read (ap (λ (r : ReaderState _). r.kept) same) in
    record {
      draws = no_ok _ _ r came;
      line = no_ok _ _ r came;
      short = no_ok _ _ r came;
      no_lf = no_ok _ _ r came;
      end = never_ok _ r _ came;
      too_long = long_or_memory r y came no_memory;
      too_long_comes = λ _ _. not_ok _ _ r came;
      fault = err_gives _ r y came (rw no_memory (ap (λ (s : SourceState). s.faults) as_read ∙ c.in_ok-at.ensures.no_fault));
      no_fault = not_ok _ _ r came;
      never_falls = u.never_falls;
      drawn_before_fault = fault_or_memory r y came no_memory;
      nothing_lost = on_err r u.left;
      untouched = λ held. ap (λ (r : ReaderState _). r.source) (same ∙ fill.untouched held);
      few = not_ok _ _ r came;
      bound = u.bound;
      given = u.given;
      reads = u.reads;
      read_for_line = no_ok _ _ r came;
      read_at_end = never_ok _ r _ came;
      read_at_fault = on_err r u.count;
      name = u.name;
      whole = u.whole;
    }

pub returns-in_ok-draw-in-None : goal.returns-in_ok-draw-in-None
returns-in_ok-draw-in-None g c =
    let state = g.S.Source.state in
    let fill = c.fill.ensures in
    let ends = fill.end (c.in_ok-at.was ∙ ap Ok c.in-None.is) in
    let draw = c.in_ok-draw-in-None.ensures in
    let same = ap state c.draw-in-None.ensures.source in
    let size : c.kept_len-kept.result ≡ length c.fill.new.self.kept = c.kept_len-kept.ensures in
    let some = λ (e : c.fill.new.self.kept ≡ []). c.if-kept-eq0.false (size ∙ ap length e) in
    let is = draw.line ∙ take_all c.kept_len-kept.result c.fill.new.self.kept (omega (arith, size)) in
    let none = draw.kept ∙ drop_all c.kept_len-kept.result c.fill.new.self.kept (omega (arith, size)) in
    let d = drawn (state c.args.self.now.source) (state c.fill.new.self.source) (state c.draw-in-None.new.self.source) _ _ _ _ c.kept_len-kept.result c.kept_len-kept.result fill.reads fill.bound c.in_ok-at.ensures.no_fault same (omega arith) (omega (arith, size)) (omega (arith, size, ends.short)) (omega (arith, size)) draw.line draw.kept in
    let told_read = λ (told : IsSome (state c.args.self.now.source).whole). subst IsSome (sym fill.reads.whole) told in
    let first = λ (told : _). lines-unended (state c.args.self.now.source) (state c.fill.new.self.source) (state c.draw-in-None.new.self.source) _ _ _ _ (fill.reads.left told) same ends (told_read told) some is none in
    record {
      draws = λ told. drawn-unended (state c.args.self.now.source) (state c.fill.new.self.source) (state c.draw-in-None.new.self.source) _ _ _ _ (fill.reads.left told) same ends (told_read told) some is none;
      line = first;
      short = d.short;
      no_lf = draw.no_lf;
      end = λ is. some_not_none _ _ refl is;
      too_long = λ is. ok_no_err _ _ is;
      too_long_comes = λ told. FirstTooLong-none _ _ _ (first told) d.short;
      fault = tt;
      no_fault = d.no_fault;
      never_falls = d.never_falls;
      drawn_before_fault = λ is. ok_no_err _ _ is;
      nothing_lost = tt;
      untouched = λ held. c.draw-in-None.ensures.source ∙ ap (λ (r : ReaderState _). r.source) (fill.untouched held);
      few = d.few;
      bound = d.bound;
      given = d.given;
      reads = d.reads;
      read_for_line = d.read_for_line;
      read_at_end = λ is. some_not_none _ _ refl is;
      read_at_fault = tt;
      name = d.name;
      whole = d.whole;
    }

pub returns-in_err-draw-in-None : goal.returns-in_err-draw-in-None
returns-in_err-draw-in-None g c =
    let state = g.S.Source.state in
    let fill = c.fill.ensures in
    let r = c.from_residual-in_err-draw-in-None.result in
    let y = c.in_err-draw-in-None.field-0.0 in
    let came = c.from_residual-in_err-draw-in-None.ensures.1 in
    let no_memory = c.in_err-draw-in-None.ensures.no_memory in
    let same = c.in_err-draw-in-None.ensures.err in
    let as_read = ap (λ (r : ReaderState _). state r.source) same in
    let u = undrawn (state c.args.self.now.source) (state c.fill.new.self.source) (state c.draw-in-None.new.self.source) _ _ _ fill.reads fill.bound fill.never_falls as_read (ap (λ (r : ReaderState _). r.kept) same) in
    record {
      draws = no_ok _ _ r came;
      line = no_ok _ _ r came;
      short = no_ok _ _ r came;
      no_lf = no_ok _ _ r came;
      end = never_ok _ r _ came;
      too_long = long_or_memory r y came no_memory;
      too_long_comes = λ _ _. not_ok _ _ r came;
      fault = err_gives _ r y came (rw no_memory (ap (λ (s : SourceState). s.faults) as_read ∙ c.in_ok-at.ensures.no_fault));
      no_fault = not_ok _ _ r came;
      never_falls = u.never_falls;
      drawn_before_fault = fault_or_memory r y came no_memory;
      nothing_lost = on_err r u.left;
      untouched = λ held. ap (λ (r : ReaderState _). r.source) (same ∙ fill.untouched held);
      few = not_ok _ _ r came;
      bound = u.bound;
      given = u.given;
      reads = u.reads;
      read_for_line = no_ok _ _ r came;
      read_at_end = never_ok _ r _ came;
      read_at_fault = on_err r u.count;
      name = u.name;
      whole = u.whole;
    }
