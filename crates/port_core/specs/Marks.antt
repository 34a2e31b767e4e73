-- How many pulls of a wire's input took effect, when the mark of the wire is set, and how a wire goes on.
use Rattle.std.specs.Prelude.{◌≡◌, ℕ, ◌+◌, ◌≤◌, Bool, true, false, if◌then◌else◌}
use Rattle.elem_core.specs.Prefix.{IsPrefix}
use Rattle.elem_core.specs.Items.{elements}
use Rattle.port_core.specs.Connection.{ConnStep, quiet, pulled, ready, pushed}
use Rattle.port_core.specs.declared.view.OutView.TheVariants.{Available}
use Rattle.port_core.specs.Cell.{WireState}

-- a pull is on its way, or has come and was not answered
abbrev pub wants : ConnStep → Bool
wants quiet = false
wants pulled = true
wants ready = true
wants (pushed e) = false

-- The wire is marked as pulled, while its input has not closed, exactly where a pull is not answered; and wherever its output
-- knows that it was pulled, and then the pull has come.
-- Choice: docs/DECISIONS.md#marks
pub record IsMarked (c : WireState) : Type 0 where
  pub unclosed : c.wire.conn.in_closed ≡ false → c.asked ≡ wants c.wire.conn.step
  pub known : c.wire.out ≡ Available → c.asked ≡ true
  pub came : c.wire.out ≡ Available → c.wire.conn.step ≡ ready

-- the pulls of its input that took effect: one for each element that was pushed, and the one that was not answered
abbrev pub wanted : WireState → ℕ
wanted c = if c.asked then elements c.wire.sent + 1 else elements c.wire.sent

-- The wire went on: its histories are longer, no pull was lost, and what was closed stays closed.
pub record Grown (c d : WireState) : Type 0 where
  pub sent : IsPrefix c.wire.sent d.wire.sent
  pub got : IsPrefix c.wire.got d.wire.got
  pub wanted : wanted c ≤ wanted d
  pub in_closed : c.wire.conn.in_closed ≡ true → d.wire.conn.in_closed ≡ true
  pub out_closed : c.wire.conn.out_closed ≡ true → d.wire.conn.out_closed ≡ true
