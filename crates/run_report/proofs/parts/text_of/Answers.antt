use Rattle.std.proofs.Common.{rules}
use Rattle.run_report.proofs.Texts.{utf8_text}
use Rattle.run_report.proofs.parts.text_of.Goals as goal

pub returns-in-Err-clause-err : goal.returns-in-Err-clause-err
returns-in-Err-clause-err c = absurd (c.in-Err.ensures.cases.0 (utf8_text c.args.word.now (search rules)))
