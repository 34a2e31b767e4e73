-- The ends of a lane where no island has an event.
use Rattle.std.specs.Prelude.{◌≡◌, ℕ, ◌<◌, Bool}
use Rattle.port_core.specs.declared.view.InView.TheVariants.{Idle, Cancelled}
use Rattle.port_core.specs.declared.view.OutView.TheVariants as outlet
use Rattle.port_core.specs.Cell.{WireState}
use Rattle.elem_core.specs.Items.{elements}
use Rattle.stage_core.specs.Row.{InClosed}
use Rattle.run_laws.specs.Ends.{OutEnd, InEnd, LaneKeeps}

-- All that came was sent, or a cancel was seen; one that asks for nothing has used all demand that it saw; one that saw a cancel
-- has closed its connection, and no other cancelled it.
pub record OutQuiet (c : WireState) (e : OutEnd) : Type 0 where
  pub sent_all : e.refused ≡ 0 → e.sent ≡ c.wire.got
  pub used : c.wire.inp ≡ Idle → elements c.wire.sent ≡ e.seen
  pub closed : e.refused ≡ 1 → InClosed c.wire.inp
  pub left : c.wire.inp ≡ Cancelled → e.refused ≡ 1

-- One that is asked has pushed all that was taken, has asked for more, and did not cancel; one that was cancelled has cancelled
-- the lane.
pub record InQuiet (c : WireState) (e : InEnd) : Type 0 where
  pub pushed_all : c.wire.out ≡ outlet.Available → e.taken ≡ c.wire.sent
  pub more : c.wire.out ≡ outlet.Available → elements c.wire.sent < e.asked
  pub goes_on : c.wire.out ≡ outlet.Available → e.cancelled ≡ 0
  pub cancels : c.wire.out ≡ outlet.Cancelled → e.cancelled ≡ 1

-- All that was sent was taken, all that was asked was seen, and so was a cancel.
pub record MetQuiet (o : OutEnd) (i : InEnd) : Type 0 where
  pub taken_all : i.taken ≡ o.sent
  pub seen_all : o.seen ≡ i.asked
  pub refused_is : o.refused ≡ i.cancelled

-- nothing is left to take off a lane or to see at it
pub record LaneQuiet (keep : Bool) (s : ℕ) (near far : WireState) (asked : ℕ) (keeps : LaneKeeps keep s near far asked) : Type 0 where
  pub out : OutQuiet near keeps.out
  pub inp : InQuiet far keeps.inp
  pub met : MetQuiet keeps.out keeps.inp
