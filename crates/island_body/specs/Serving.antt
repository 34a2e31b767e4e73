-- What an output boundary keeps between two moments at which it is served, and when nothing is left for it to do.
use Rattle.std.specs.Prelude.{◌≡◌, ◌≤◌, ◌⊎◌, ℕ, true, []}
use Rattle.elem_core.specs.Prefix.{IsPrefix}
use Rattle.elem_core.specs.Items.{elements}
use Rattle.port_core.specs.declared.view.InView.TheVariants.{Idle, Cancelled}
use Rattle.stage_core.specs.Row.{InClosed}
use Rattle.port_core.specs.Marks.{wanted}
use Rattle.lane_core.specs.declared.lane_out.LaneOut.{LaneOut}
use Rattle.lane_core.specs.Ends.{sent, seen_count, saw_cancel}
use Rattle.interpreter.specs.Island.{Kept}
use Rattle.interpreter.specs.Boundary.{cell_out}
use Rattle.island_body.specs.Sending.{Sends}
use Rattle.island_body.specs.Beside.{waiting}

module _ {S D L H B : Type 0} where
  -- the stage there asks for nothing: all demand that was seen is used, or its connection was completed and the end is on its way
  abbrev pub MayNotAsk : LaneOut → Kept S D L H B → ℕ → Type 0
  MayNotAsk o i u = (cell_out i u).wire.inp ≡ Idle → (seen_count o ≤ elements (sent o)) ⊎ ((cell_out i u).wire.conn.out_closed ≡ true)

  -- What was sent is a first part of what came; no more was asked than was seen asked. One that has seen no cancel has sent all that
  -- left the island there; one that has seen it has closed its connection, which none other cancels.
  pub record Serves (o : LaneOut) (i : Kept S D L H B) (u : ℕ) : Type 0 where
    pub part : IsPrefix (sent o) (cell_out i u).wire.got
    pub wants : wanted (cell_out i u) ≤ seen_count o
    pub live : saw_cancel o ≡ 0 → Sends o i u
    pub closed : saw_cancel o ≡ 1 → InClosed (cell_out i u).wire.inp
    pub left : (cell_out i u).wire.inp ≡ Cancelled → saw_cancel o ≡ 1

  -- nothing waits to be sent, and nothing more may be asked for
  pub record IsServed (o : LaneOut) (i : Kept S D L H B) (u : ℕ) : Type 0 where
    pub sent_all : saw_cancel o ≡ 0 → waiting i u ≡ []
    pub used : saw_cancel o ≡ 0 → MayNotAsk o i u
