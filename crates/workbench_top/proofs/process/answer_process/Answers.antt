-- The goal of `process::answer_process` that the search leaves: memory was wanting as the words were read.
use Rattle.std.proofs.Common.{inl, inr, refl}
use Rattle.workbench_top.proofs.process.answer_process.Goals as goal

pub returns-in-Err : goal.returns-in-Err
returns-in-Err g c =
    let made = c.put_no_memory.ensures in
    record { answer = made.answer; answers = inr (inl made.ending); files = record { telling = refl; files = λ h n. refl }; put = made.put }
