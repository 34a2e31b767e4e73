-- What is read off a wire, and what stands where there is none.
use Rattle.std.specs.Prelude.{true, false, None, List, []}
use Rattle.elem_core.specs.declared.item.Item.{Item}
use Rattle.port_core.specs.Connection.{quiet}
use Rattle.port_core.specs.declared.view.InView.{InView}
use Rattle.port_core.specs.declared.view.InView.TheVariants.{Cancelled}
use Rattle.port_core.specs.declared.view.OutView.{OutView}
use Rattle.port_core.specs.declared.view.OutView.TheVariants.{Closed}
use Rattle.port_core.specs.Cell.{WireState}

-- where there is no wire, both ends are closed and nothing passed
abbrev pub no_wire : WireState
no_wire = record {
  wire = record {
    out = Closed;
    inp = Cancelled;
    conn = record {
      step = quiet;
      to_grab = None;
      in_closed = true;
      out_closed = true;
      cause = None;
    };
    sent = [];
    got = [];
  };
  asked = false;
}

-- what the input of a wire knows of it
abbrev pub inp_of : WireState → InView
inp_of c = c.wire.inp

-- what the output of a wire knows of it
abbrev pub out_of : WireState → OutView
out_of c = c.wire.out

-- what came to the input of a wire
abbrev pub got_of : WireState → List Item
got_of c = c.wire.got

-- what was sent at the output of a wire
abbrev pub sent_of : WireState → List Item
sent_of c = c.wire.sent
