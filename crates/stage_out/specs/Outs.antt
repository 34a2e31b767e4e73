-- How the outputs of a balance stand, and an action at each that is open.
use Rattle.std.specs.Prelude.{◌≡◌, ℕ, ◌+◌, List, [], ◌∷◌}
use Rattle.elem_core.specs.Tree.{Tree}
use Rattle.port_core.specs.declared.view.InView.{InView}
use Rattle.port_core.specs.declared.view.OutView.{OutView}
use Rattle.port_core.specs.declared.view.OutView.TheVariants.{Available}
use Rattle.port_core.specs.View.{View, out_at}
use Rattle.stream_model.specs.View as picture
use Rattle.stage_core.specs.OwnPorts.{own_input, own_output}

-- some output is asked
abbrev pub SomeAsked : View → Type 0
SomeAsked v = (j : ℕ) × (out_at v j ≡ Available)

-- the one input, with what was taken there
abbrev pub own_ins : List InView → List Tree → List picture.SeenWire
own_ins [] l = []
own_ins (x ∷ xs) l = own_input x l ∷ own_ins xs l

-- the outputs from number n on, each with what was given there
abbrev pub own_outs : ℕ → List OutView → (ℕ → List Tree) → List picture.SeenWire
own_outs n [] g = []
own_outs n (y ∷ ys) g = own_output y (g n) ∷ own_outs (n + 1) ys g
