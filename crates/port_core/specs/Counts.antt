-- What the history of a wire costs in units: a number that no action lowers and each event raises; and how
-- many events its ends have heard: a number that no action raises, and each event by one at most.
use Rattle.std.specs.Prelude.{ℕ, ◌+◌, Bool, true, false, if◌then◌else◌, length}
use Rattle.elem_core.specs.Items.{elements}
use Rattle.port_core.specs.Connection.{ConnStep, quiet, pulled, ready, pushed}
use Rattle.port_core.specs.Wire.{JointPorts}
use Rattle.port_core.specs.declared.view.InView.{InView}
use Rattle.port_core.specs.declared.view.InView.TheVariants.{Pulled, Finished, Cancelled}
use Rattle.port_core.specs.declared.view.OutView.{OutView}
use Rattle.port_core.specs.declared.view.OutView.TheVariants as outlet
use Rattle.port_core.specs.Cell.{WireState}

-- the pull has come to the output
abbrev pub ready_bit : ConnStep → ℕ
ready_bit quiet = 0
ready_bit pulled = 0
ready_bit ready = 1
ready_bit (pushed e) = 0

-- the wire is not queued
abbrev pub free_bit : Bool → ℕ
free_bit true = 0
free_bit false = 1

-- the events of a wire beside one for each element that was pushed and one for each that came: the last ask, and closings
abbrev pub extra : OutView → InView → ConnStep → Bool → ℕ
extra outlet.Available Pulled t q = 1
extra outlet.Available Cancelled t q = 1
extra outlet.Closed Pulled t q = ready_bit t
extra outlet.Closed Finished t q = 2 + free_bit q
extra outlet.Closed Cancelled t q = 1 + free_bit q
extra outlet.Cancelled Cancelled t q = 2 + free_bit q
extra _ _ t q = 0

-- what the wire, queued or not, has cost: at most twice its elements, and 3 more
abbrev pub spent : JointPorts → Bool → ℕ
spent w q = elements w.sent + elements w.got + extra w.out w.inp w.conn.step q

-- 1 where the output was asked and has not answered, and else 0
abbrev pub asked_bit : OutView → ℕ
asked_bit outlet.Unpulled = 0
asked_bit outlet.Available = 1
asked_bit outlet.Closed = 0
asked_bit outlet.Cancelled = 0

-- the pulls that came to the output: one for each element that was pushed, and the last one
abbrev pub asks : JointPorts → ℕ
asks w = elements w.sent + asked_bit w.out

-- the pull that came to the output and was not answered, also where an end closed since
abbrev pub standing : WireState → ℕ
standing c = if c.asked then ready_bit c.wire.conn.step else 0

-- the cancel came to the output
abbrev pub cancelled_bit : OutView → ℕ
cancelled_bit outlet.Unpulled = 0
cancelled_bit outlet.Available = 0
cancelled_bit outlet.Closed = 0
cancelled_bit outlet.Cancelled = 1

-- the events that the ends of a wire have heard: the pulls and the cancel that came to the output, and the items that came to the input
abbrev pub events_heard : WireState → ℕ
events_heard c = elements c.wire.sent + standing c + length c.wire.got + cancelled_bit c.wire.out
