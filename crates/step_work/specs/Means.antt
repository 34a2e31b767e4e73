-- The list function of a chain, as what a substream gives for a list that stands so.
use Rattle.std.specs.Prelude.{◌≡◌, List, ◌++◌, Result, Ok, Err}
use Rattle.elem_core.specs.Tree.{Tree}
use Rattle.elem_core.specs.declared.why.Why.{Why}
use Rattle.elem_core.specs.declared.why.Cause.{Cause}
use Rattle.stream_model.specs.Outlook.{End, unended, ended, failed}
use Rattle.stream_model.specs.Machine.{Given}
use Rattle.port_core.specs.declared.chain.ChainStep.{ChainStep}
use Rattle.port_core.specs.declared.chain.ChainStep.TheVariants.{Go, Closed, Failed}
use Rattle.port_core.specs.ListFunction.{ListFunction, ResidualFunction}

-- how a substream stands that has taken a list and no end
abbrev pub ChainStandsAs : ChainStep → End → Type 0
ChainStandsAs Go e = e ≡ unended
ChainStandsAs Closed e = e ≡ ended
ChainStandsAs (Failed w) e = (c : Cause) × ((e ≡ failed c) × (c.why ≡ w))

-- what it comes to once its input has ended: what the end adds to the list, or why it fails
abbrev pub ChainEndsAs : Result (List Tree) Why → List Tree → Given Tree → Type 0
ChainEndsAs (Ok o) l g = g ≡ record { list = l ++ o; end = ended }
ChainEndsAs (Err w) l g = (c : Cause) × ((g.end ≡ failed c) × (c.why ≡ w))

-- `yields` is what a chain with this list function comes to, for a list that stands so
pub record Means (yields : List Tree → End → Given Tree) (f : ListFunction) : Type 0 where
  pub list : (l : List Tree) → (yields l unended).list ≡ f.gives l
  pub stands : (l : List Tree) → ChainStandsAs (f.stop l) (yields l unended).end
  pub ends : (l : List Tree) → f.stop l ≡ Go → ChainEndsAs (f.adds l) (f.gives l) (yields l ended)
  pub closed : (l : List Tree) → f.stop l ≡ Closed → yields l ended ≡ record { list = f.gives l; end = ended }

-- a chain with the list function f took this list, gave all that f gives for it, and goes on as r
pub record Running (f : ListFunction) (took : List Tree) (r : ListFunction) : Type 0 where
  pub residual : ResidualFunction f took (f.gives took) r
  pub going : f.stop took ≡ Go
