-- What is put of a whole, and what is still to come of it.
use Rattle.std.specs.Prelude.{◌≡◌, ℕ, List, ◌++◌}
use Rattle.stream_io.specs.State.{DrainState}
use Rattle.stream_io.specs.Putting.{Puts}

-- a first part of the whole was put, and the rest is still to come
pub record LeavesRest (old new : DrainState) (whole rest : List ℕ) : Type 0 where
  pub sofar : List ℕ
  pub puts : Puts old new sofar
  pub is : whole ≡ sofar ++ rest
