-- The flag word of a connection, and the connection that it stands for.
use Rattle.std.specs.Prelude.{◌≡◌, ℕ, ◌+◌, ◌==◌, Bool, true, false, not, if◌then◌else◌, Option, None, Some, List, [], ◌∷◌, ◌++◌, pos, bit_and, is_some}
use Rattle.elem_core.specs.Tree.{Tree, num}
use Rattle.elem_core.specs.declared.why.Cause.{Cause}
use Rattle.port_core.specs.Connection.{ConnStep, quiet, pulled, ready, pushed, Connection}
use Rattle.port_core.specs.Ring.{is_queued}

-- one of the low four bits, beside the others
abbrev pub with_low : ℕ → List ℕ
with_low high = (high + 1) ∷ (high + 2) ∷ (high + 4) ∷ (high + 8) ∷ []

-- every word: 16 for a closed input, 32 for a closed output, and 64 more where that failed; and exactly one of the low four bits
abbrev pub flag_words : List ℕ
flag_words = with_low 0 ++ with_low 32 ++ with_low 96 ++ with_low 16 ++ with_low 48 ++ with_low 112

-- whether the word has the bit
abbrev pub has : ℕ → ℕ → Bool
has bit w = not (bit_and w bit == 0)

-- What every connection keeps: its word is one of these, an element that was delivered is held only where nobody pulled, and where
-- no element is held or on its way the number 0 stands in its place.
pub record IsWord (w : ℕ) (held : Bool) (e : Tree) : Type 0 where
  pub word : is_queued flag_words w ≡ true
  pub quiet : held ≡ true → has 1 w ≡ true
  pub empty : held ≡ false → has 4 w ≡ false → e ≡ num (pos 0)

-- where the pull and the element stand
abbrev pub step_by : ℕ → Tree → ConnStep
step_by w e = if has 4 w then pushed e else if has 2 w then pulled else if has 8 w then ready else quiet

-- the element, where it is held
abbrev pub to_grab_by : Bool → Tree → Option Tree
to_grab_by false e = None
to_grab_by true e = Some e

-- the cause, where the output failed
abbrev pub cause_by : Bool → Cause → Option Cause
cause_by false c = None
cause_by true c = Some c

-- the connection that a word, an element and a cause stand for
abbrev pub connection_of : ℕ → Bool → Tree → Cause → Connection
connection_of w held e c = record {
  step = step_by w e;
  to_grab = to_grab_by held e;
  in_closed = has 16 w;
  out_closed = has 32 w;
  cause = cause_by (has 64 w) c;
}

-- the low bit of a step
abbrev pub low_bit : ConnStep → ℕ
low_bit quiet = 1
low_bit pulled = 2
low_bit (pushed e) = 4
low_bit ready = 8

-- the value of a bit that is set, or not
abbrev pub bit_by : Bool → ℕ → ℕ
bit_by b bit = if b then bit else 0

-- the flag word of a connection: the bit of its step, 16 for a closed input, 32 for a closed output, 64 where it has the cause of a failure
abbrev pub word_of : Connection → ℕ
word_of c = low_bit c.step + bit_by c.in_closed 16 + bit_by c.out_closed 32 + bit_by (is_some c.cause) 64
