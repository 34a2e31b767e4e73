use Rattle.std.proofs.Common.{inl}
use Rattle.workbench_top.proofs.files.check_files.Goals as goal

pub returns-in-Ok-looked-clause-answers : goal.returns-in-Ok-looked-clause-answers
returns-in-Ok-looked-clause-answers g c = inl c.in-Ok-looked.ensures.answers
