-- A folder whose counts stand at 0 raised none.
use Rattle.std.proofs.Common.{◌≡◌, ℕ, ◌<◌, List, arith}
use Rattle.stream_io.specs.Counts.{Rose}
use Rattle.stream_io.specs.State.{FolderState}
use Rattle.stream_command.specs.Outcome.{RoseNowhere}

never : (a b : ℕ) → b ≡ 0 → Rose a b → ⊥
never a b e rose = let above : a < b = rose (omega (arith, e)) in omega (arith, e, above)

pub calm : (old new : FolderState) → ((n : List ℕ) → new.refusals n ≡ 0) → ((n : List ℕ) → new.rfaults n ≡ 0) → ((n : List ℕ) → new.wfaults n ≡ 0) → RoseNowhere old new
calm old new p q r = record {
  refusals = λ n rose. never (old.refusals n) (new.refusals n) (p n) rose;
  rfaults = λ n rose. never (old.rfaults n) (new.rfaults n) (q n) rose;
  wfaults = λ n rose. never (old.wfaults n) (new.wfaults n) (r n) rose;
}
