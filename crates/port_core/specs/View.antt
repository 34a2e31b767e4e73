-- The port rules as a stage sees them: what it knows of its ports, where it may do an action, and what it knows then.
-- A stage has a list of inputs and a list of outputs, each numbered from 0. A closing by the other end counts once it came.
use Rattle.std.specs.Prelude.{◌≡◌, ℕ, Bool, true, false, List, [], ◌∷◌, slice_index_or, slice_set, replicate, ⊤}
use Rattle.port_core.specs.declared.act.Act.{Act}
use Rattle.port_core.specs.declared.act.Act.TheVariants.{Pull, Push, Complete, FailOut, Cancel}
use Rattle.port_core.specs.declared.view.InView.{InView}
use Rattle.port_core.specs.declared.view.InView.TheVariants.{Idle, Pulled, Finished, Cancelled}
use Rattle.port_core.specs.declared.view.OutView.{OutView}
use Rattle.port_core.specs.declared.view.OutView.TheVariants as outlet

-- what a stage knows of its ports
pub record View : Type 0 where
  pub ins : List InView
  pub outs : List OutView

-- what it knows of input i; a port that is not there is closed
abbrev pub in_at : View → ℕ → InView
in_at v i = slice_index_or v.ins i Cancelled

-- what it knows of output j
abbrev pub out_at : View → ℕ → OutView
out_at v j = slice_index_or v.outs j outlet.Closed

-- nothing came to a port, and no pull: of a stage with one input and one output
abbrev pub unpulled_ports : View
unpulled_ports = record { ins = Idle ∷ []; outs = outlet.Unpulled ∷ [] }

-- the same of a stage with n inputs and one output
abbrev pub unpulled_ins : ℕ → View
unpulled_ins n = record { ins = replicate n Idle; outs = outlet.Unpulled ∷ [] }

-- the same of a stage with one input and n outputs
abbrev pub unpulled_outs : ℕ → View
unpulled_outs n = record { ins = Idle ∷ []; outs = replicate n outlet.Unpulled }

-- the input has neither ended nor been cancelled
abbrev pub IsInOpen : InView → Type 0
IsInOpen Idle = ⊤
IsInOpen Pulled = ⊤
IsInOpen Finished = ⊥
IsInOpen Cancelled = ⊥

-- the output was neither closed nor cancelled
abbrev pub IsOutOpen : OutView → Type 0
IsOutOpen outlet.Unpulled = ⊤
IsOutOpen outlet.Available = ⊤
IsOutOpen outlet.Closed = ⊥
IsOutOpen outlet.Cancelled = ⊥

-- whether an input has ended or was cancelled
abbrev pub input_closed : InView → Bool
input_closed Idle = false
input_closed Pulled = false
input_closed Finished = true
input_closed Cancelled = true

-- whether an output was closed or cancelled
abbrev pub output_closed : OutView → Bool
output_closed outlet.Unpulled = false
output_closed outlet.Available = false
output_closed outlet.Closed = true
output_closed outlet.Cancelled = true

-- where the stage may do the action
abbrev pub ActAllowed : View → Act → Type 0
ActAllowed v (Pull i) = in_at v i ≡ Idle
ActAllowed v (Push j e) = out_at v j ≡ outlet.Available
ActAllowed v (Complete j) = IsOutOpen (out_at v j)
ActAllowed v (FailOut j c) = IsOutOpen (out_at v j)
ActAllowed v (Cancel i) = IsInOpen (in_at v i)

-- the view once it knows this of input i
abbrev pub with_in : View → ℕ → InView → View
with_in v i x = record v { ins = slice_set v.ins i x }

-- the view once it knows this of output j
abbrev pub with_out : View → ℕ → OutView → View
with_out v j y = record v { outs = slice_set v.outs j y }

-- what the stage knows once the action is done
abbrev pub acted : View → Act → View
acted v (Pull i) = with_in v i Pulled
acted v (Push j e) = with_out v j outlet.Unpulled
acted v (Complete j) = with_out v j outlet.Closed
acted v (FailOut j c) = with_out v j outlet.Closed
acted v (Cancel i) = with_in v i Cancelled

-- each action is allowed in its turn
abbrev pub ActsAllowed : View → List Act → Type 0
ActsAllowed v [] = ⊤
ActsAllowed v (a ∷ acts) = ActAllowed v a × ActsAllowed (acted v a) acts

-- what the stage knows once all are done
abbrev pub acted_all : View → List Act → View
acted_all v [] = v
acted_all v (a ∷ acts) = acted_all (acted v a) acts

-- a fact of a stage with one input and one output
abbrev pub OneOneOf : (InView → OutView → Type 0) → List InView → List OutView → Type 0
OneOneOf P (x ∷ []) (y ∷ []) = P x y
OneOneOf P _ _ = ⊥

-- a fact of the ports of a stage with one input and one output
abbrev pub OneOne : (InView → OutView → Type 0) → View → Type 0
OneOne P v = OneOneOf P v.ins v.outs
