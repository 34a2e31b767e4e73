-- The joint states of a wire: what its two ends know of it, where its connection stands, what is on its way, and whether it
-- is queued. A wire on which both ends keep to the port rules as they see them is always in one of them.
use Rattle.std.specs.Prelude.{◌≡◌, Bool, true, false, ◌||◌, Option, None, List, [], ◌∷◌, ◌++◌, ⊤}
use Rattle.elem_core.specs.Tree.{Tree}
use Rattle.elem_core.specs.declared.why.Cause.{Cause}
use Rattle.elem_core.specs.declared.item.Item.{Item}
use Rattle.elem_core.specs.declared.item.Item.TheVariants as item
use Rattle.port_core.specs.Connection.{ConnStep, quiet, pulled, ready, pushed, Connection}
use Rattle.port_core.specs.View.{IsOutOpen}
use Rattle.port_core.specs.Call.{MayCome}
use Rattle.port_core.specs.Wire.{JointPorts, end_item, Delivery, nothing, pull, cancel, arrived}
use Rattle.port_core.specs.declared.view.InView.TheVariants.{Idle, Pulled, Finished, Cancelled}
use Rattle.port_core.specs.declared.view.OutView.TheVariants as outlet

-- Where both ends are open: nobody pulled, the pull is on its way, the pull has come, or an element is on its way. Where one
-- has closed and the other does not know it: the output, while the input has not pulled (`ending`) or waits (`closing`); or
-- the input, while the output was pulled or not (`leaving`). Where both have closed: the end came (`finished`), each closed
-- its own (`parted`), or the cancel came (`cancelled`).
-- Choice: docs/DECISIONS.md#joint-states
pub data Joint : Type 0 where
  idle : Joint
  asking : Joint
  asked : Joint
  moving : Tree → Joint
  ending : Option Cause → Joint
  closing : ConnStep → Option Cause → Joint
  leaving : Bool → ConnStep → Joint
  finished : ConnStep → Option Cause → Joint
  parted : ConnStep → Option Cause → Joint
  cancelled : ConnStep → Option Cause → Joint

-- a connection from which the element was grabbed
abbrev conn_of : ConnStep → Bool → Bool → Option Cause → Connection
conn_of s i o c = record { step = s; to_grab = None; in_closed = i; out_closed = o; cause = c }

-- the wire in a joint state, with its histories
abbrev pub joint_wire : Joint → List Item → List Item → JointPorts
joint_wire idle s g = record { out = outlet.Unpulled; inp = Idle; conn = conn_of quiet false false None; sent = s; got = g }
joint_wire asking s g = record { out = outlet.Unpulled; inp = Pulled; conn = conn_of pulled false false None; sent = s; got = g }
joint_wire asked s g = record { out = outlet.Available; inp = Pulled; conn = conn_of ready false false None; sent = s; got = g }
joint_wire (moving e) s g = record { out = outlet.Unpulled; inp = Pulled; conn = conn_of (pushed e) false false None; sent = s; got = g }
joint_wire (ending c) s g = record { out = outlet.Closed; inp = Idle; conn = conn_of quiet false true c; sent = s; got = g }
joint_wire (closing t c) s g = record { out = outlet.Closed; inp = Pulled; conn = conn_of t false true c; sent = s; got = g }
joint_wire (leaving true t) s g = record { out = outlet.Available; inp = Cancelled; conn = conn_of t true false None; sent = s; got = g }
joint_wire (leaving false t) s g = record { out = outlet.Unpulled; inp = Cancelled; conn = conn_of t true false None; sent = s; got = g }
joint_wire (finished t c) s g = record { out = outlet.Closed; inp = Finished; conn = conn_of t true true c; sent = s; got = g }
joint_wire (parted t c) s g = record { out = outlet.Closed; inp = Cancelled; conn = conn_of t true true c; sent = s; got = g }
joint_wire (cancelled t c) s g = record { out = outlet.Cancelled; inp = Cancelled; conn = conn_of t true true c; sent = s; got = g }

-- an element that is on its way
abbrev pub under_way : ConnStep → List Item
under_way quiet = []
under_way pulled = []
under_way ready = []
under_way (pushed e) = item.Elem e ∷ []

-- what was sent is what was got and then what is on its way; after a cancel it begins with what was got
abbrev pub Histories : Joint → List Item → List Item → Type 0
Histories idle s g = s ≡ g
Histories asking s g = s ≡ g
Histories asked s g = s ≡ g
Histories (moving e) s g = s ≡ g ++ item.Elem e ∷ []
Histories (ending c) s g = s ≡ g ++ end_item c ∷ []
Histories (closing t c) s g = s ≡ g ++ (under_way t ++ end_item c ∷ [])
Histories (leaving a t) s g = (r : List Item) × (s ≡ g ++ r)
Histories (finished t c) s g = s ≡ g
Histories (parted t c) s g = (r : List Item) × (s ≡ g ++ r)
Histories (cancelled t c) s g = (r : List Item) × (s ≡ g ++ r)

-- whether it is queued; where both ends are closed that does not matter
abbrev pub Queues : Joint → Bool → Type 0
Queues idle q = q ≡ false
Queues asking q = q ≡ true
Queues asked q = q ≡ false
Queues (moving e) q = q ≡ true
Queues (ending c) q = q ≡ true
Queues (closing t c) q = q ≡ true
Queues (leaving a t) q = q ≡ true
Queues (finished t c) q = ⊤
Queues (parted t c) q = ⊤
Queues (cancelled t c) q = ⊤

-- the wire, queued or not, is in a joint state
pub record IsSound (w : JointPorts) (q : Bool) : Type 0 where
  pub joint : Joint
  pub is : w ≡ joint_wire joint w.sent w.got
  pub histories : Histories joint w.sent w.got
  pub queues : Queues joint q

-- An action leaves a sound wire. It asks for a place in the queue, `queued`, only where the wire has none.
pub record LeavesSound (new : JointPorts) (q queued : Bool) : Type 0 where
  pub sound : IsSound new (q || queued)
  pub free : queued ≡ true → q ≡ false

-- the end that a delivery goes to is where the port rules allow it, as its stage sees them
abbrev pub Heard : Delivery → JointPorts → Type 0
Heard nothing w = ⊤
Heard pull w = w.out ≡ outlet.Unpulled
Heard cancel w = IsOutOpen w.out
Heard (arrived x more) w = MayCome x w.inp
