-- A lane in a picture, and the ports of the nodes at its two connections.
use Rattle.std.specs.Prelude.{ℕ, List, Some}
use Rattle.elem_core.specs.Tree.{Tree}
use Rattle.port_core.specs.Cell.{WireState}
use Rattle.port_core.specs.Marks.{wanted}
use Rattle.stream_model.specs.View as picture
use Rattle.run_laws.specs.Ports.{InPort, OutPort, wire_count}

module _ (u s : ℕ) (near far : WireState) (asked : ℕ) (list : List Tree) where
  -- wire u, a lane of size s of which no more than this list may pass, in a picture
  abbrev pub lane_view : picture.SeenWire
  lane_view = let c = wire_count (Some s) near asked in record { wire = u; sent = c.sent; asked = c.asked; shut = c.shut; lane = Some s; list = list }

  -- the input to which the lane leads
  abbrev pub far_port : InPort
  far_port = record { view = far.wire.inp; got = far.wire.got; want = wanted far; wire = lane_view }

  -- the output from which the lane leads
  abbrev pub near_port : OutPort
  near_port = record { view = near.wire.out; sent = near.wire.sent; want = wanted near; wire = lane_view }
