-- The histories of a stage with several inputs and one output: a list and an end for each input, and what a call brings to each.
use Rattle.std.specs.Prelude.{◌≡◌, ℕ, zero, suc, ◌+◌, ◌==◌, if◌then◌else◌, List, [], ◌∷◌, ◌++◌, length, slice_get, Some}
use Rattle.elem_core.specs.Tree.{Tree}
use Rattle.elem_core.specs.declared.item.Item.{Item}
use Rattle.elem_core.specs.declared.item.Item.TheVariants as item
use Rattle.stream_model.specs.Outlook.{End, unended, ended, failed}
use Rattle.stream_model.specs.FanIn.{Inflow}
use Rattle.port_core.specs.View.{View, in_at, out_at}
use Rattle.port_core.specs.Call.{Call, starts, pulls, arrives, cancels}
use Rattle.stage_core.specs.Held.{told}
use Rattle.stage_core.specs.Law.{TookAs, GaveAs}

-- nothing came
abbrev pub nothing_came : Inflow
nothing_came = record { list = []; end = unended }

-- one item came
abbrev pub flow_of : Item → Inflow
flow_of (item.Elem t) = record { list = t ∷ []; end = unended }
flow_of item.Ended = record { list = []; end = ended }
flow_of (item.Failed c) = record { list = []; end = failed c }

-- the same by the end
abbrev pub joined_at : End → List Tree → Inflow → Inflow
joined_at unended l r = record { list = l ++ r.list; end = r.end }
joined_at ended l r = record { list = l; end = ended }
joined_at (failed c) l r = record { list = l; end = failed c }

-- what came, and then this; an input that has ended brings no more
abbrev pub joined : Inflow → Inflow → Inflow
joined f r = joined_at f.end f.list r

-- the same of each input, from input n on
abbrev pub joined_all : ℕ → List Inflow → (ℕ → Inflow) → List Inflow
joined_all n [] more = []
joined_all n (f ∷ fs) more = joined f (more n) ∷ joined_all (n + 1) fs more

-- what a call brings to input k
abbrev pub coming : Call → ℕ → Inflow
coming starts k = nothing_came
coming (pulls j) k = nothing_came
coming (arrives i b) k = if i == k then flow_of b else nothing_came
coming (cancels j) k = nothing_came

-- n inputs to which nothing came
abbrev pub untouched : ℕ → List Inflow
untouched zero = []
untouched (suc n) = nothing_came ∷ untouched n

-- The law of a stage with several inputs, at its one output: each input's history and the output's are a list and an end,
-- which are as the stage knows of its ports. What these have to do with each other, `Keeps` says: that alone is a matter of
-- the kind.
pub record PortsLaw (Keeps : List Inflow → List Tree → End → Type 0) (v : View) (took : ℕ → List Item) (gave : List Item) : Type 0 where
  pub ins : List Inflow
  pub out_list : List Tree
  pub out_end : End
  pub ports : length ins ≡ length v.ins
  pub took_is : (i : ℕ) (f : Inflow) → slice_get ins i ≡ Some f → took i ≡ told f.list f.end
  pub took_as : (i : ℕ) (f : Inflow) → slice_get ins i ≡ Some f → TookAs (in_at v i) f.end
  pub gave_is : gave ≡ told out_list out_end
  pub gave_as : GaveAs (out_at v 0) out_end
  pub keeps : Keeps ins out_list out_end
