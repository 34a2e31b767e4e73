use Rattle.std.proofs.Common.{◌<◌, length, arith}
use Rattle.std.proofs.Math.Seq.{drop-length}
use Rattle.std.proofs.lemmas.Bool.Decides.{nat_tests}
use Rattle.blue_words.proofs.Cutting.{lines-cut, lines-one, take_rest}
use Rattle.blue_words.proofs.lines.next_line.Goals as goal

pub returns-in-Some-clause-split : goal.returns-in-Some-clause-split
returns-in-Some-clause-split c = lines-cut c.args.text.now _ _ c.in-Some.ensures.parts

pub returns-in-None-clause-split : goal.returns-in-None-clause-split
returns-in-None-clause-split c =
    let some : 0 < length c.args.text.now = grind (arith, nat_tests, c.if-is_empty.ensures) in
    rw (take_rest, drop-length) (lines-one c.args.text.now some c.in-None.ensures.parts)
