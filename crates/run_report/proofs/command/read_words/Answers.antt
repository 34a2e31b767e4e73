use Rattle.std.proofs.Common.{rules}
use Rattle.run_report.proofs.Texts.{no_command}
use Rattle.run_report.proofs.command.read_words.Goals as goal

pub returns-in_err-texts-clause-usage : goal.returns-in_err-texts-clause-usage
returns-in_err-texts-clause-usage c = λ e. no_command c.args.words.now (search rules)
