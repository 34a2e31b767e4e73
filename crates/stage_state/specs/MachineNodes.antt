-- A stage with state as the interpreter calls it: what it knows of its ports, and the law of its one output.
use Rattle.std.specs.Prelude.{◌≡◌, ◌≢◌, List, [], ◌∷◌}
use Rattle.elem_core.specs.Tree.{Tree}
use Rattle.elem_core.specs.declared.item.Item.{Item}
use Rattle.port_core.specs.View.{View, in_at, out_at}
use Rattle.stream_model.specs.Linear.{Book, Stage}
use Rattle.stream_model.specs.Machine.{Run}
use Rattle.stage_core.specs.Held.{owing}
use Rattle.stage_core.specs.Law.{Law}
use Rattle.stage_core.specs.declared.phase.Phase.TheVariants.{New}
use Rattle.stage_state.specs.States.{Logic, machine, held, port_state}

-- it was not started, and its port state holds
pub record MachineFresh (l : Logic) (v : View) : Type 0 where
  pub phase : l.phase ≡ New
  pub ports : port_state l v

-- it was started, and its port state holds
pub record MachinePortState (l : Logic) (v : View) : Type 0 where
  pub started : l.phase ≢ New
  pub ports : port_state l v

-- The law of its output, by any book of plugs, since it asks none: from what it owed at first to what it owes now. Its
-- machine stays the same, and so does its size where it is a buffer.
pub record MachineLaw (first now : Logic) (v : View) (took gave : List (List Item)) : Type 0 where
  pub took_list : List Item
  pub gave_list : List Item
  pub took_is : took ≡ took_list ∷ []
  pub gave_is : gave ≡ gave_list ∷ []
  pub start : Run Stage Tree
  pub owes : held first ≡ owing start
  pub law : (book : Book) → Law (machine book first) start (held now) (in_at v 0) (out_at v 0) took_list gave_list
  pub same : (book : Book) → machine book now ≡ machine book first
  pub size : now.size ≡ first.size
