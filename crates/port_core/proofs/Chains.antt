-- What a chain gave, and what it still gives: one call more.
use Rattle.std.proofs.Common.{◌≡◌, false, List, [], ◌∷◌, ◌++◌, Err, sym, ◌∙◌, ap, append_assoc, append-nil}
use Rattle.elem_core.specs.Tree.{Tree}
use Rattle.elem_core.specs.declared.why.Why.{Why}
use Rattle.port_core.specs.declared.chain.ChainStep.{ChainStep}
use Rattle.port_core.specs.declared.chain.ChainStep.TheVariants.{Go, Closed, Failed}
use Rattle.port_core.specs.ListFunction.{ListFunction, ResidualFunction, Stops, FunctionEnds, Pushed, FunctionFinished, goes_on}

-- an element that the chain takes is behind what it took before
one_more : (f : ListFunction) (took rest : List Tree) (t : Tree) → f.gives ((took ++ t ∷ []) ++ rest) ≡ f.gives (took ++ (t ∷ rest))
one_more f took rest t = ap f.gives (append_assoc took (t ∷ []) rest)

pub residual_goes : (f g h : ListFunction) (took gave given : List Tree) (t : Tree) → ResidualFunction f took gave g → ResidualFunction g (t ∷ []) given h → ResidualFunction f (took ++ t ∷ []) (gave ++ given) h
residual_goes f g h took gave given t r s = record {
  gives = λ rest.
      one_more f took rest t
      ∙ r.gives (t ∷ rest)
      ∙ ap (λ (l : List Tree). gave ++ l) (s.gives rest)
      ∙ sym (append_assoc gave given (h.gives rest));
  stop = λ rest. ap f.stop (append_assoc took (t ∷ []) rest) ∙ r.stop (t ∷ rest) ∙ s.stop rest;
  adds = λ rest. ap f.adds (append_assoc took (t ∷ []) rest) ∙ r.adds (t ∷ rest) ∙ s.adds rest;
}

pub residual_stops : (f g : ListFunction) (took gave given : List Tree) (t : Tree) (step : ChainStep) → ResidualFunction f took gave g → Stops g (t ∷ []) given step → Stops f (took ++ t ∷ []) (gave ++ given) step
residual_stops f g took gave given t step r s = record {
  gives = λ rest. one_more f took rest t ∙ r.gives (t ∷ rest) ∙ ap (λ (l : List Tree). gave ++ l) (s.gives rest);
  stop = λ rest. ap f.stop (append_assoc took (t ∷ []) rest) ∙ r.stop (t ∷ rest) ∙ s.stop rest;
}

-- with nothing behind it
pub residual_now : (f g : ListFunction) (took gave : List Tree) → ResidualFunction f took gave g → f.gives took ≡ gave ++ g.gives []
residual_now f g took gave r = ap f.gives (sym (append-nil took)) ∙ r.gives []

pub residual_adds : (f g : ListFunction) (took gave : List Tree) → ResidualFunction f took gave g → f.adds took ≡ g.adds []
residual_adds f g took gave r = ap f.adds (sym (append-nil took)) ∙ r.adds []

pub pushed_goes : (f g h : ListFunction) (took gave before now : List Tree) (t : Tree) → ResidualFunction f took gave g → Pushed g t Go before now h
    → (given : List Tree) × ((now ≡ before ++ given) × ResidualFunction f (took ++ t ∷ []) (gave ++ given) h)
pushed_goes f g h took gave before now t r p = (p.gave, (p.out, residual_goes f g h took gave p.gave t r p.goes))

pub pushed_stops : (f g h : ListFunction) (took gave before now : List Tree) (t : Tree) (step : ChainStep) → goes_on step ≡ false → ResidualFunction f took gave g → Pushed g t step before now h
    → (given : List Tree) × ((now ≡ before ++ given) × Stops f (took ++ t ∷ []) (gave ++ given) step)
pushed_stops f g h took gave before now t Go n r p = cc
pushed_stops f g h took gave before now t Closed n r p = (p.gave, (p.out, residual_stops f g took gave p.gave t Closed r p.goes))
pushed_stops f g h took gave before now t (Failed w) n r p = (p.gave, (p.out, residual_stops f g took gave p.gave t (Failed w) r p.goes))

pub finished_ends : (f g : ListFunction) (took gave before now : List Tree) → ResidualFunction f took gave g → FunctionFinished g Go before now → (given : List Tree) × ((now ≡ before ++ given) × FunctionEnds f took (gave ++ given))
finished_ends f g took gave before now r e =
    let o = e.0 in
    let h : f.gives took ++ o ≡ gave ++ (g.gives [] ++ o) = ap (λ (l : List Tree). l ++ o) (residual_now f g took gave r) ∙ append_assoc gave (g.gives []) o in
    (g.gives [] ++ o, (e.1.1, record { added = o; adds = residual_adds f g took gave r ∙ e.1.0; all = sym h }))

pub finished_fails : (f g : ListFunction) (took gave before now : List Tree) (w : Why) → ResidualFunction f took gave g → FunctionFinished g (Failed w) before now → f.adds took ≡ Err w
finished_fails f g took gave before now w r e = residual_adds f g took gave r ∙ e.0
