use Rattle.std.proofs.Common.{◌≡◌, ◌+◌, arith, ap, ◌∙◌, sym, Ok}
use Rattle.std.specs.Vec.{vec_len}
use Rattle.stream_io.proofs.Texts.{first_bytes_more, within_more, first_bytes_end, first_bytes_limit}
use Rattle.stream_io.proofs.text.read_all.Goals as goal

pub returns-in-Ok-eq0-clause-text : goal.returns-in-Ok-eq0-clause-text
returns-in-Ok-eq0-clause-text g c =
    let kept = c.loop-source.invariant in
    let e = c.in-Ok-eq0.ensures in
    let none = ap Ok c.in-Ok-eq0.field-0-test in
    first_bytes_end _ _ _ _ _ _ c.args.limit kept.whole kept.given kept.limit (e.nothing none) kept.bytes (e.end none)

pub loop-source-preserved : goal.loop-source-preserved
loop-source-preserved g c =
    let kept = c.loop-source.invariant in
    let e = c.in-Ok.ensures in
    record {
      limit = e.limit;
      given = e.given ∙ ap (λ k. k + c.in-Ok.field-0) kept.given ∙ sym e.text;
      bytes = first_bytes_more _ _ _ _ _ _ _ _ kept.whole kept.given e.text kept.bytes e.bytes;
      within = within_more _ _ _ _ _ _ kept.whole kept.given e.text e.within;
      faults = e.no_fault ∙ kept.faults;
      name = e.name ∙ kept.name;
      whole = e.whole ∙ kept.whole;
    }

pub returns-clause-text : goal.returns-clause-text
returns-clause-text g c =
    let all : vec_len c.loop-source.text ≡ c.args.limit = omega arith in
    first_bytes_limit _ _ _ _ all c.loop-source.invariant.bytes
