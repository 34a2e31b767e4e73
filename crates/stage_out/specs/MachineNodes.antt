-- The law of a stage with several outputs over the histories of its ports, as a stage of an island tells it.
use Rattle.std.specs.Prelude.{◌≡◌, List, [], ◌∷◌, length, slice_index_or}
use Rattle.elem_core.specs.declared.item.Item.{Item}
use Rattle.port_core.specs.View.{View}
use Rattle.stream_model.specs.Linear.{Book}
use Rattle.stream_model.specs.Outlook.{Outlook, End, Agrees}
use Rattle.elem_core.specs.Tree.{Tree}
use Rattle.stream_model.specs.View as picture
use Rattle.stage_core.specs.Held.{told}
use Rattle.stage_core.specs.Outs.{OutsLaw, owe}
use Rattle.stage_out.specs.declared.machines.OutMachines.{OutMachines}
use Rattle.stage_out.specs.Machines.{IsNew, port_state, outlets, owed, rests_as, IsAlike}

-- what one that was not started knows of its ports
pub record MachinesFresh (l : OutMachines) (v : View) : Type 0 where
  pub ports : port_state l v
  pub fresh : IsNew l

-- Of a logic as it was handed in and as it is now: its outputs' machines and its port state stay; and the law of each output holds
-- of what came and what was given there.
pub record MachinesLaw (first now : OutMachines) (v : View) (took gave : List (List Item)) : Type 0 where
  pub alike : IsAlike first now
  pub same : (book : Book) → owe (outlets book first) (owed now) ≡ outlets book now
  pub outputs : length (owed now) ≡ length (owed first)
  pub rests : (is os : List picture.SeenWire) → rests_as now is os → rests_as first is os
  pub taken : List Item
  pub took_is : took ≡ taken ∷ []
  pub ports : length gave ≡ length (owed now)
  pub law : (book : Book) → OutsLaw 0 (outlets book now) v taken (λ j. slice_index_or gave j [])

-- a history is a list and an end that an outlook lets pass
pub record GaveAgrees (o : Outlook) (history : List Item) : Type 0 where
  pub list : List Tree
  pub end : End
  pub is : history ≡ told list end
  pub agrees : Agrees o list end
