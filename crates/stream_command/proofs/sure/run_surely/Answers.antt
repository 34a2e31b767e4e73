use Rattle.std.proofs.Common.{refl}
use Rattle.stream_command.proofs.Surely.{calm}
use Rattle.stream_command.proofs.sure.run_surely.Goals as goal

pub returns : goal.returns
returns g c = record { told = c.run_file.ensures.told; runs = λ tells valid. c.run_file.ensures.complete tells valid (calm _ _ (λ n. refl) (λ n. refl) (λ n. refl)) }
