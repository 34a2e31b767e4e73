-- The chain of one substream: what it took, and what a call made of it.
use Rattle.std.specs.Prelude.{◌≡◌, IsTrue, ⊤, Bool, List, [], ◌∷◌, ◌++◌, Option, Some, None, Result, Ok, Err}
use Rattle.elem_core.specs.Tree.{Tree}
use Rattle.elem_core.specs.declared.why.Why.{Why}
use Rattle.port_core.specs.declared.chain.ChainStep.TheVariants.{Closed, Failed}
use Rattle.port_core.specs.ListFunction.{ListFunction, Stops}
use Rattle.step_work.specs.Means.{Running}

-- the end of the input of a chain that took this list: what it adds to what was given, or why it fails
abbrev pub ChainEnded : ListFunction → List Tree → Option Why → List Tree → List Tree → Type 0
ChainEnded f took None before after = (o : List Tree) × ((f.adds took ≡ Ok o) × (after ≡ before ++ o))
ChainEnded f took (Some w) before after = f.adds took ≡ Err w

module _ {C : Type 0} (rest : C → ListFunction) (is_open : C → Bool) where
  -- a chain may be called
  abbrev pub MayCall : Option C → Type 0
  MayCall None = ⊤
  MayCall (Some c) = IsTrue (is_open c)

  -- the chain of a substream that took this list: it has stopped, or it goes on
  abbrev pub SlotHolds : ListFunction → Option C → List Tree → Type 0
  SlotHolds f None took = Stops f took (f.gives took) Closed
  SlotHolds f (Some c) took = Running f took (rest c)

  -- one more element behind `took`: what came of it is put behind `before`, and the chain is this; or the chain fails
  abbrev pub Fed : ListFunction → List Tree → Tree → Option Why → List Tree → List Tree → Option C → Type 0
  Fed f took t None before after slot = (given : List Tree) × ((f.gives (took ++ t ∷ []) ≡ f.gives took ++ given)
      × ((after ≡ before ++ given) × SlotHolds f slot (took ++ t ∷ [])))
  Fed f took t (Some w) before after slot = f.stop (took ++ t ∷ []) ≡ Failed w

  -- the first element of a substream
  abbrev pub Begun : ListFunction → Tree → Result (Option C) Why → List Tree → List Tree → Type 0
  Begun f t (Ok slot) before after = (after ≡ before ++ f.gives (t ∷ [])) × SlotHolds f slot (t ∷ [])
  Begun f t (Err w) before after = f.stop (t ∷ []) ≡ Failed w
