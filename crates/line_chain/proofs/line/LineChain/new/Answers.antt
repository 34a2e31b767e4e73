use Rattle.line_chain.proofs.Books.{same_by_books}
use Rattle.line_chain.proofs.line.LineChain.new.Goals as goal

pub returns : goal.returns
returns c = record { starts = c.in_ok-steps.ensures.starts; same = λ book. same_by_books c.in_ok-steps.steps.items book }
