-- What the two ends of a wire know of closings.
use Rattle.port_core.specs.View.{input_closed, output_closed}
use Rattle.std.specs.Prelude.{◌≡◌, Bool, true, false}
use Rattle.port_core.specs.Connection.{Connection}
use Rattle.port_core.specs.declared.view.InView.{InView}
use Rattle.port_core.specs.declared.view.OutView.{OutView}
use Rattle.port_core.specs.declared.view.OutView.TheVariants.{Unpulled, Available, Closed, Cancelled}

-- an output that heard of its input's cancel
abbrev pub output_cancelled : OutView → Bool
output_cancelled Unpulled = false
output_cancelled Available = false
output_cancelled Closed = false
output_cancelled Cancelled = true

-- What is kept of closings is what the two ends know, and the connection is closed there too.
pub record Closes (out : OutView) (inp : InView) (conn : Connection) (is_out_closed is_cancelled is_in_closed : Bool) : Type 0 where
  pub out_closed_is : is_out_closed ≡ output_closed out
  pub cancelled_is : is_cancelled ≡ output_cancelled out
  pub in_closed_is : is_in_closed ≡ input_closed inp
  pub out_closed : is_out_closed ≡ true → conn.out_closed ≡ true
  pub in_closed : is_in_closed ≡ true → conn.in_closed ≡ true
