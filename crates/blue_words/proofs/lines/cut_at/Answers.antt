use Rattle.std.proofs.Common.{arith}
use Rattle.blue_words.proofs.Cutting.{cut_at-first, cut_at-none, take_rest}
use Rattle.blue_words.proofs.lines.cut_at.Goals as goal

pub returns-in-Some-clause-parts : goal.returns-in-Some-clause-parts
returns-in-Some-clause-parts c =
    let bs = c.args.text.now in
    rw take_rest (cut_at-first c.args.byte bs c.in-Some.at c.in-Some.ensures.0.high c.in-Some.ensures.1 (λ j l. c.in-Some.ensures.0.before j (omega arith) l))

pub returns-in-None-clause-parts : goal.returns-in-None-clause-parts
returns-in-None-clause-parts c = cut_at-none c.args.byte c.args.text.now (λ j l. c.in-None.ensures j (omega arith) l)
