-- The chain of one substream: one call more.
use Rattle.std.proofs.Common.{◌≡◌, Bool, List, [], ◌∷◌, ◌++◌, length, Option, Some, None, refl, sym, ap, ◌∙◌, arith, append_assoc, append-nil, length-append}
use Rattle.std.proofs.Common.{subst}
use Rattle.std.proofs.lemmas.Option.{same_Some}
use Rattle.elem_core.specs.Tree.{Tree}
use Rattle.port_core.specs.declared.chain.ChainStep.{ChainStep}
use Rattle.port_core.specs.declared.chain.ChainStep.TheVariants.{Go, Closed, Failed}
use Rattle.port_core.specs.ListFunction.{ListFunction, ResidualFunction, Pushed, FunctionFinished}
use Rattle.step_work.specs.Means.{Running}
use Rattle.step_work.specs.Slots.{ChainEnded, SlotHolds, Fed}

-- a list that a longer one is equal to has nothing behind it
no_more : (l k : List Tree) → l ≡ l ++ k → k ≡ []
no_more l [] e = refl
no_more l (x ∷ k) e = let n : length l ≡ length (l ++ x ∷ k) = ap length e in let m = length-append l (x ∷ k) in absurd (omega (arith, n, m))

module _ (f r : ListFunction) (took : List Tree) (run : Running f took r) where
  -- all that it gives for nothing more was given
  nothing_left : r.gives [] ≡ []
  nothing_left = no_more (f.gives took) (r.gives []) (ap f.gives (sym (append-nil took)) ∙ run.residual.gives [])

  -- what the end adds now is what it adds behind the list
  adds_now : f.adds took ≡ r.adds []
  adds_now = ap f.adds (sym (append-nil took)) ∙ run.residual.adds []

  -- its end added this
  pub ended_go : (step : ChainStep) (before after : List Tree) → step ≡ Go → FunctionFinished r step before after → ChainEnded f took None before after
  ended_go Go before after is e = (e.0, (adds_now ∙ e.1.0, e.1.1 ∙ ap (λ (k : List Tree). before ++ (k ++ e.0)) nothing_left))
  ended_go Closed before after is e = absurd e
  ended_go (Failed w) before after is e = cc

  -- what it gives for one more element stands behind what it gave
  gives_more : (t : Tree) → f.gives (took ++ t ∷ []) ≡ f.gives took ++ r.gives (t ∷ [])
  gives_more t = run.residual.gives (t ∷ [])

  -- what goes on behind one more element, goes on behind them all
  next_residual : (h : ListFunction) (t : Tree) (given : List Tree) → given ≡ r.gives (t ∷ []) → ResidualFunction r (t ∷ []) given h → ResidualFunction f (took ++ t ∷ []) (f.gives (took ++ t ∷ [])) h
  next_residual h t given all s = record {
    gives = λ rest.
        ap f.gives (append_assoc took (t ∷ []) rest) ∙ run.residual.gives (t ∷ rest)
        ∙ ap (λ (l : List Tree). f.gives took ++ l) (s.gives rest)
        ∙ sym (append_assoc (f.gives took) given (h.gives rest))
        ∙ ap (λ (l : List Tree). l ++ h.gives rest) (ap (λ (l : List Tree). f.gives took ++ l) all ∙ sym (gives_more t));
    stop = λ rest. ap f.stop (append_assoc took (t ∷ []) rest) ∙ run.residual.stop (t ∷ rest) ∙ s.stop rest;
    adds = λ rest. ap f.adds (append_assoc took (t ∷ []) rest) ∙ run.residual.adds (t ∷ rest) ∙ s.adds rest;
  }

  -- and so does its stopping
  stop_more : (t : Tree) → f.stop (took ++ t ∷ []) ≡ r.stop (t ∷ [])
  stop_more t = run.residual.stop (t ∷ [])

module _ {C : Type 0} (rest : C → ListFunction) (is_open : C → Bool) where
  -- an element to a chain that goes on
  fed_by : (f : ListFunction) (took : List Tree) (t : Tree) (r : ListFunction) (c : C) (step : ChainStep) (before after : List Tree) → Running f took r → step ≡ Go → Pushed r t step before after (rest c)
      → Fed rest is_open f took t None before after (Some c)
  fed_by f took t r c Go before after run is p =
      (p.gave, (gives_more f r took run t ∙ ap (λ (l : List Tree). f.gives took ++ l) (sym p.all), (p.out, record { residual = next_residual f r took run (rest c) t p.gave p.all p.goes; going = stop_more f r took run t ∙ sym p.answer })))
  fed_by f took t r c Closed before after run is p = cc
  fed_by f took t r c (Failed w) before after run is p = cc

  -- by slots: it held a chain
  pub fed_go : (f : ListFunction) (took : List Tree) (t : Tree) (slot : Option C) (d c : C) (step : ChainStep) (before after : List Tree) → slot ≡ Some d → SlotHolds rest is_open f slot took → step ≡ Go
      → Pushed (rest d) t step before after (rest c) → Fed rest is_open f took t None before after (Some c)
  fed_go f took t (Some b) d c step before after e run is p = let q : rest b ≡ rest d = ap rest (same_Some b d e) in fed_by f took t (rest d) c step before after (subst (λ (r : ListFunction). Running f took r) q run) is p
  fed_go f took t None d c step before after e run is p = cc
