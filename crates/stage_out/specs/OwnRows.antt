-- The row of a stage with several outputs over its own ports.
use Rattle.std.specs.Prelude.{◌≡◌, ◌⊎◌, ℕ, ◌+◌, List, [], ◌∷◌, length, slice_get, Some, ⊤}
use Rattle.elem_core.specs.Tree.{Tree}
use Rattle.port_core.specs.declared.view.InView.{InView}
use Rattle.port_core.specs.declared.view.OutView.{OutView}
use Rattle.port_core.specs.View as port
use Rattle.elem_core.specs.declared.item.Item.{Item}
use Rattle.stream_model.specs.Outlook.{End}
use Rattle.stage_core.specs.Held.{told}
use Rattle.stream_model.specs.View.{SeenWire, EachWire}
use Rattle.stream_model.specs.Rests.{IsShut}
use Rattle.stage_core.specs.OwnPorts.{own_input, own_output}
use Rattle.stage_core.specs.declared.outs.OutputState.{OutputState}
use Rattle.stage_out.specs.declared.machines.OutMachines.{OutMachines}
use Rattle.stage_out.specs.Machines.{rests_as}
use Rattle.stage_core.specs.declared.outs.OutputState.TheVariants.{Quiet, Asks, Gone}

-- the one input, with what was taken there
abbrev pub own_ins : List InView → List Tree → List SeenWire
own_ins [] l = []
own_ins (x ∷ xs) l = own_input x l ∷ own_ins xs l

-- the outputs, each with what was given there
abbrev pub own_outs : List OutView → List (List Tree) → List SeenWire
own_outs (y ∷ ys) (g ∷ gs) = own_output y g ∷ own_outs ys gs
own_outs _ _ = []

-- each open output was given as many elements as were taken
abbrev pub Even : List OutputState → List Tree → List (List Tree) → Type 0
Even [] l [] = ⊤
Even (Quiet ∷ ws) l (g ∷ gs) = (length g ≡ length l) × Even ws l gs
Even (Asks ∷ ws) l (g ∷ gs) = (length g ≡ length l) × Even ws l gs
Even (Gone ∷ ws) l (g ∷ gs) = Even ws l gs
Even _ l _ = ⊥

-- the lists that were given at the open outputs from number n on, each as long as what was taken, and at the others
pub record Outlists (ws : List OutputState) (n : ℕ) (l : List Tree) (gave : ℕ → List Item) : Type 0 where
  pub lists : List (List Tree)
  pub even : Even ws l lists
  pub told_at : (i : ℕ) (g : List Tree) → slice_get lists i ≡ Some g → (h : End) × (gave (n + i) ≡ told g h)

-- the list that was given at each of n outputs
pub record OutLists (n : ℕ) (gave : ℕ → List Item) : Type 0 where
  pub lists : List (List Tree)
  pub ports : length lists ≡ n
  pub told_at : (i : ℕ) (g : List Tree) → slice_get lists i ≡ Some g → (h : End) × (gave i ≡ told g h)

-- it has closed its ports, or has nothing to do, where it took l and gave these
abbrev pub OutputsRest : OutMachines → port.View → List Tree → List (List Tree) → Type 0
OutputsRest x v l gs = (EachWire IsShut (own_ins v.ins l) × EachWire IsShut (own_outs v.outs gs)) ⊎ rests_as x (own_ins v.ins l) (own_outs v.outs gs)
