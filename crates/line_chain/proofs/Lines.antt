-- The calls of a chain by its list function, once its steps were run.
use Rattle.std.proofs.Common.{◌≡◌, ℕ, Bool, true, false, List, [], ◌∷◌, ◌++◌, map, Ok, refl, sym, ap, ◌∙◌, subst, append-nil}
use Rattle.std.proofs.Math.Seq.{drop-length}
use Rattle.elem_core.specs.Tree.{Tree}
use Rattle.elem_core.specs.declared.why.Cause.{Cause}
use Rattle.stream_model.specs.declared.blueprint.Step as blue
use Rattle.port_core.specs.declared.chain.ChainStep.{ChainStep}
use Rattle.port_core.specs.declared.chain.ChainStep.TheVariants.{Go, Closed, Failed}
use Rattle.port_core.specs.ListFunction.{ListFunction, Pushed, FunctionFinished}
use Rattle.stream_model.specs.Outlook.{End, unended, ended, failed}
use Rattle.stream_model.specs.Machine.{Given}
use Rattle.stream_model.specs.Linear.{begin_work}
use Rattle.stream_model.specs.Graph.{Step}
use Rattle.stream_model.specs.Node.{chain_of}
use Rattle.stream_model.specs.Substreams.{Chain, through}
use Rattle.step_work.specs.LineChains as chains
use Rattle.step_work.specs.LineChains.{end_step, is_unended, given_with, after, list_function}
use Rattle.step_work.proofs.LineChains.{fixed, line_pushed, line_finished}
use Rattle.line_chain.specs.Line.{no_plugs, model_step}
use Rattle.line_chain.specs.Steps.{start_of, now_of}
use Rattle.line_chain.specs.Chains.{starts_of, nows_of, RanAll}
use Rattle.line_chain.specs.declared.step.LineStep.{LineStep}

-- the steps that took this list, by what it is and how it stands
pub ran_as : (old new : List LineStep) (ins l before now : List Tree) (e d k : End) → ins ≡ l → d ≡ k → RanAll old ins e new before now d → RanAll old l e new before now k
ran_as old new ins l before now e d k i h r = subst (λ (x : List Tree). RanAll old x e new before now k) i (subst (λ (x : End). RanAll old ins e new before now x) h r)

-- ---- an element

-- it goes on
pub push_goes : (old new : List LineStep) (t : Tree) (before now : List Tree) → RanAll old (t ∷ []) unended new before now unended → Pushed (list_function no_plugs (nows_of old)) t Go before now (list_function no_plugs (nows_of new))
push_goes old new t before now r =
    subst (λ (ys : Chain). Pushed (list_function no_plugs (nows_of old)) t Go before now (list_function no_plugs ys)) (sym (r.goes refl)) (line_pushed no_plugs (nows_of old) t Go before now (ap chains.chain_step (sym r.ends)) r.gave)

-- it ended, or failed, by its own doing: what it would go on with counts for nothing
pub push_ends : (old new : List LineStep) (t : Tree) (before now : List Tree) (g : ListFunction) → RanAll old (t ∷ []) unended new before now ended → Pushed (list_function no_plugs (nows_of old)) t Closed before now g
push_ends old new t before now g r = let p = line_pushed no_plugs (nows_of old) t Closed before now (ap chains.chain_step (sym r.ends)) r.gave in record { gave = p.gave; out = p.out; all = p.all; answer = p.answer; goes = p.goes }

pub push_fails : (old new : List LineStep) (t : Tree) (before now : List Tree) (g : ListFunction) (c : Cause) → RanAll old (t ∷ []) unended new before now (failed c) → Pushed (list_function no_plugs (nows_of old)) t (Failed c.why) before now g
push_fails old new t before now g c r =
    let p = line_pushed no_plugs (nows_of old) t (Failed c.why) before now (ap chains.chain_step (sym r.ends)) r.gave in record { gave = p.gave; out = p.out; all = p.all; answer = p.answer; goes = p.goes }

-- ---- the end

module _ (xs : Chain) (before now : List Tree) (out : now ≡ before ++ (through no_plugs xs [] ended).list) where
  -- what the end brings where the chain has stopped before: nothing more
  stopped_before : through no_plugs xs [] ended ≡ through no_plugs xs [] unended → (d : End) → (through no_plugs xs [] unended).end ≡ d → is_unended d ≡ false → FunctionFinished (list_function no_plugs xs) (end_step d) before now
  stopped_before same unended is h = cc
  stopped_before same ended is h =
      let g = through no_plugs xs [] unended in
      let none : given_with g.list g ≡ Ok [] = ap (λ (d : End). chains.added_by g.list g.list d) is ∙ ap Ok (drop-length g.list) in
      ([], (ap (λ (x : Given Tree). given_with g.list x) same ∙ none, out ∙ ap (λ (x : Given Tree). before ++ x.list) same ∙ ap (λ (l : List Tree). before ++ l) (sym (append-nil g.list))))
  stopped_before same (failed c) is h =
      let g = through no_plugs xs [] unended in (ap (λ (x : Given Tree). given_with g.list x) same ∙ ap (λ (d : End). chains.added_by g.list g.list d) is, record { rest = (through no_plugs xs [] ended).list; is = out })

  finished_by : (b : Bool) → is_unended (through no_plugs xs [] unended).end ≡ b → FunctionFinished (list_function no_plugs xs) (end_step (through no_plugs xs [] ended).end) before now
  finished_by true h = line_finished no_plugs xs before now h out
  finished_by false h =
      let same : through no_plugs xs [] ended ≡ through no_plugs xs [] unended = fixed no_plugs xs [] [] ended h in
      subst (λ (x : Given Tree). FunctionFinished (list_function no_plugs xs) (end_step x.end) before now) (sym same) (stopped_before same (through no_plugs xs [] unended).end refl h)

  -- the end of the input of any chain, also of one that stopped before it took anything
  finished : FunctionFinished (list_function no_plugs xs) (end_step (through no_plugs xs [] ended).end) before now
  finished = finished_by (is_unended (through no_plugs xs [] unended).end) refl

-- by the answer of the steps
pub end_answers : (old new : List LineStep) (before now : List Tree) (d : End) (step : ChainStep) → RanAll old [] ended new before now d → step ≡ end_step d → FunctionFinished (list_function no_plugs (nows_of old)) step before now
end_answers old new before now d step r is =
    subst (λ (s : ChainStep). FunctionFinished (list_function no_plugs (nows_of old)) s before now) (sym (is ∙ ap end_step (sym r.ends))) (finished (nows_of old) before now r.gave)

-- ---- a new chain

chain_more : (node : ℕ) (xs : List Step) (s : Step) → chain_of node (xs ++ s ∷ []) ≡ chain_of node xs ++ begin_work node s.decider s.work ∷ []
chain_more node [] s = refl
chain_more node (x ∷ xs) s = ap (λ (l : Chain). begin_work node x.decider x.work ∷ l) (chain_more node xs s)

map_more : {A B : Type 0} (f : A → B) (xs : List A) (x : A) → map f (xs ++ x ∷ []) ≡ map f xs ++ f x ∷ []
map_more f [] x = refl
map_more f (y ∷ xs) x = ap (λ l. f y ∷ l) (map_more f xs x)

-- these steps are those of the blueprint, and stand as they began
pub record Begun (node : ℕ) (steps : List blue.Step) (made : List LineStep) : Type 0 where
  pub starts : starts_of made ≡ chain_of node (map model_step steps)
  pub now : nows_of made ≡ starts_of made

pub begun_more : (node : ℕ) (steps more : List blue.Step) (s : blue.Step) (made all : List LineStep) (one : LineStep) → Begun node steps made → more ≡ steps ++ s ∷ [] → all ≡ made ++ one ∷ [] → start_of one ≡ begin_work node (model_step s).decider (model_step s).work
    → now_of one ≡ start_of one → Begun node more all
begun_more node steps more s made all one b e m starts now =
    let x : starts_of (made ++ one ∷ []) ≡ chain_of node (map model_step (steps ++ s ∷ [])) =
    map_more start_of made one ∙ ap (λ (l : Chain). l ++ start_of one ∷ []) b.starts ∙ ap (λ k. chain_of node (map model_step steps) ++ k ∷ []) starts ∙ sym (chain_more node (map model_step steps) (model_step s))
    ∙ ap (chain_of node) (sym (map_more model_step steps s)) in
    let y : nows_of (made ++ one ∷ []) ≡ starts_of (made ++ one ∷ []) = map_more now_of made one ∙ ap (λ (l : Chain). l ++ now_of one ∷ []) b.now ∙ ap (λ k. starts_of made ++ k ∷ []) now ∙ sym (map_more start_of made one) in
    record { starts = ap starts_of m ∙ x ∙ ap (λ (k : List blue.Step). chain_of node (map model_step k)) (sym e); now = ap nows_of m ∙ y ∙ ap starts_of (sym m) }

-- these steps are those as they began
pub record Again (steps made : List LineStep) : Type 0 where
  pub starts : starts_of made ≡ starts_of steps
  pub now : nows_of made ≡ starts_of steps
