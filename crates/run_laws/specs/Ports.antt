-- How the wires of a node stand in the picture, as the node's own ports tell it: what the rows of each kind rest on. Whether a
-- wire is a lane, and where its other end is, is told by no more than its size.
use Rattle.std.specs.Prelude.{◌≡◌, ◌≢◌, ℕ, suc, ◌+◌, ◌≤◌, nat_le, not, ◌⊎◌, Bool, true, false, List, [], ◌∷◌, map, length, Option, None, Some}
use Rattle.elem_core.specs.Prefix.{IsPrefix}
use Rattle.elem_core.specs.Tree.{Tree}
use Rattle.elem_core.specs.Items.{elements}
use Rattle.elem_core.specs.declared.item.Item.{Item}
use Rattle.port_core.specs.Decoding.{is_open}
use Rattle.port_core.specs.View.{View}
use Rattle.port_core.specs.declared.view.InView.{InView}
use Rattle.port_core.specs.declared.view.InView.TheVariants.{Idle, Pulled, Finished}
use Rattle.port_core.specs.declared.view.OutView.{OutView}
use Rattle.port_core.specs.declared.view.OutView.TheVariants.{Unpulled, Available}
use Rattle.port_core.specs.Cell.{WireState}
use Rattle.stream_model.specs.Outlook.{End, unended, ended}
use Rattle.stream_model.specs.declared.outcome.WireCount.{WireCount}
use Rattle.stream_model.specs.View as picture
use Rattle.stream_model.specs.View.{wanted, demand, size_of}
use Rattle.stream_model.specs.Rests.{Waits, IsShut, IsLane, IsAsked, IsUnasked}
use Rattle.stage_core.specs.Held.{told}
use Rattle.stage_core.specs.Row.{InClosed, OutClosed}

-- the mark of a wire that is no lane is the connection's; of a lane, whether its input end asked for more than was pushed
abbrev pub has_demand : Option ℕ → WireState → ℕ → Bool
has_demand None near asked = near.asked
has_demand (Some size) near asked = nat_le (suc (elements near.wire.sent)) asked

-- how a wire stands, by the connection at its output and by what the input end of a lane asked for in all: the elements that were
-- pushed, whether its input waits for one, and whether either end has closed it
abbrev pub wire_count : Option ℕ → WireState → ℕ → WireCount
wire_count lane near asked = record { sent = elements near.wire.sent; asked = has_demand lane near asked; shut = not (is_open near.wire.conn) }

-- an input of a node: what the node knows of it and took there, what it has asked for in all, and the wire of the picture
pub record InPort : Type 0 where
  pub view : InView
  pub got : List Item
  pub want : ℕ
  pub wire : picture.SeenWire

-- an output: what the node knows of it and gave there, what its connection was asked for in all, and the wire
pub record OutPort : Type 0 where
  pub view : OutView
  pub sent : List Item
  pub want : ℕ
  pub wire : picture.SeenWire

-- what a node knows of these ports
abbrev pub views_of : List InPort → List OutPort → View
views_of is os = record { ins = map (λ (i : InPort). i.view) is; outs = map (λ (o : OutPort). o.view) os }

-- what a node took at these inputs
abbrev pub gots_of : List InPort → List (List Item)
gots_of is = map (λ (i : InPort). i.got) is

-- what a node gave at these outputs
abbrev pub sents_of : List OutPort → List (List Item)
sents_of os = map (λ (o : OutPort). o.sent) os

-- P holds of each of these ports
abbrev pub EachPort : {X : Type 0} → (X → Type 0) → List X → Type 0
EachPort P [] = Unit {0}
EachPort P (x ∷ xs) = P x × EachPort P xs

-- At any moment: no more came than was sent, of what may pass; and a wire whose end came is shut. These are said of a lane too.
pub record InStands (i : InPort) : Type 0 where
  pub came : elements i.got ≤ i.wire.sent
  pub part : (l : List Tree) (e : End) → i.got ≡ told l e → IsPrefix l i.wire.list
  pub within : i.wire.sent ≤ length i.wire.list
  pub least : i.wire.asked ≡ false → size_of i.wire ≤ i.wire.sent
  pub over : i.view ≡ Finished → i.wire.shut ≡ true
  -- where an end came, all that was sent came but as many as a lane has places, and where a normal one came all
  pub ended_all : (l : List Tree) → i.got ≡ told l ended → i.wire.sent ≡ length l
  pub ended_few : (l : List Tree) (e : End) → i.got ≡ told l e → e ≢ unended → i.wire.sent ≤ length l + size_of i.wire
  -- what is wanted beyond a lane's size, the node has asked for
  pub reach : demand i.wire ≤ i.want

-- how an output stands at any moment: as many elements were sent as the picture says, what the node was asked for is wanted, and a wire
-- that the node knows to be closed is shut
pub record OutStands (o : OutPort) : Type 0 where
  pub count : o.wire.sent ≡ elements o.sent
  -- what the node was asked for is wanted
  pub wants : o.want ≤ wanted o.wire
  pub closed : OutClosed o.view → o.wire.shut ≡ true

-- how an input stands where no event is left
pub record InRests (i : InPort) : Type 0 where
  pub waits : i.view ≡ Pulled → Waits i.wire × (i.wire.sent ≡ elements i.got)
  pub idles : i.view ≡ Idle → IsLane i.wire ⊎ (((i.wire.asked ≡ false) × (i.wire.shut ≡ false)) × (i.wire.sent ≡ elements i.got))
  pub shut : InClosed i.view → IsShut i.wire
  pub over_sent : i.view ≡ Finished → IsLane i.wire ⊎ (i.wire.sent ≡ elements i.got)

-- how an output stands where no event is left: the wire is asked, unasked or shut as the node knows it to be
pub record OutRests (o : OutPort) : Type 0 where
  pub asked : o.view ≡ Available → IsAsked o.wire
  pub unasked : o.view ≡ Unpulled → IsUnasked o.wire
  pub shut : OutClosed o.view → IsShut o.wire
