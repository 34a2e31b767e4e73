-- The list function of a chain of linear stages, and what its calls have to do with it.
use Rattle.std.specs.Prelude.{◌≡◌, Bool, true, false, List, [], ◌∷◌, ◌++◌, Result, Ok, Err}
use Rattle.elem_core.specs.Prefix.{IsPrefix}
use Rattle.elem_core.specs.Tree.{Tree}
use Rattle.elem_core.specs.declared.why.Why.{Why}
use Rattle.port_core.specs.declared.chain.ChainStep.{ChainStep}
use Rattle.port_core.specs.declared.chain.ChainStep.TheVariants.{Go, Closed, Failed}

-- For a list of elements and no end: what is given up to where the chain stops, and whether it goes on, ended by its own
-- doing or failed. And what a normal end behind the list adds, or why it fails the chain; this counts where the chain goes on.
pub record ListFunction : Type 0 where
  pub gives : List Tree → List Tree
  pub stop : List Tree → ChainStep
  pub adds : List Tree → Result (List Tree) Why

-- the two give the same for every list
pub record Same (f g : ListFunction) : Type 0 where
  pub gives : (l : List Tree) → f.gives l ≡ g.gives l
  pub stop : (l : List Tree) → f.stop l ≡ g.stop l
  pub adds : (l : List Tree) → f.adds l ≡ g.adds l

-- the chain has not stopped
abbrev pub goes_on : ChainStep → Bool
goes_on Go = true
goes_on Closed = false
goes_on (Failed w) = false

-- f takes the list `took` and goes on as g: for every rest, f gives what was given for the list and then what g gives for
-- the rest, and it stops and ends as g does
pub record ResidualFunction (f : ListFunction) (took gave : List Tree) (g : ListFunction) : Type 0 where
  pub gives : (rest : List Tree) → f.gives (took ++ rest) ≡ gave ++ g.gives rest
  pub stop : (rest : List Tree) → f.stop (took ++ rest) ≡ g.stop rest
  pub adds : (rest : List Tree) → f.adds (took ++ rest) ≡ g.adds rest

-- f stops within the list `took`: nothing is given for what comes behind it
pub record Stops (f : ListFunction) (took gave : List Tree) (step : ChainStep) : Type 0 where
  pub gives : (rest : List Tree) → f.gives (took ++ rest) ≡ gave
  pub stop : (rest : List Tree) → f.stop (took ++ rest) ≡ step

-- how f goes on behind what it took, by its answer
abbrev pub GoesBy : ListFunction → List Tree → List Tree → ChainStep → ListFunction → Type 0
GoesBy f took gave Go g = ResidualFunction f took gave g
GoesBy f took gave Closed g = Stops f took gave Closed
GoesBy f took gave (Failed w) g = Stops f took gave (Failed w)

-- f took the element t and answered so: to the outputs it added all that it gives for t, and from then on it is g
pub record Pushed (f : ListFunction) (t : Tree) (step : ChainStep) (before after : List Tree) (g : ListFunction) : Type 0 where
  pub gave : List Tree
  pub out : after ≡ before ++ gave
  pub all : gave ≡ f.gives (t ∷ [])
  pub answer : step ≡ f.stop (t ∷ [])
  pub goes : GoesBy f (t ∷ []) gave step g

-- f took the normal end of its input and answered so: to the outputs it added what it gives for nothing more, and then what
-- the end adds; where the end fails it, what it added does not count
abbrev pub FunctionFinished : ListFunction → ChainStep → List Tree → List Tree → Type 0
FunctionFinished f Go before after = (o : List Tree) × ((f.adds [] ≡ Ok o) × (after ≡ before ++ (f.gives [] ++ o)))
FunctionFinished f Closed before after = ⊥
FunctionFinished f (Failed w) before after = (f.adds [] ≡ Err w) × IsPrefix before after

-- all that f gave for the list, and then what the end adds: the list function at an input that ends
pub record FunctionEnds (f : ListFunction) (took gave : List Tree) : Type 0 where
  pub added : List Tree
  pub adds : f.adds took ≡ Ok added
  pub all : gave ≡ f.gives took ++ added
