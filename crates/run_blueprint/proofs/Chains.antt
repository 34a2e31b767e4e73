-- A chain of steps gives elements of its type, by what the check of a blueprint says of it.
use Rattle.std.proofs.Common.{◌≡◌, ℕ, Bool, true, false, List, [], ◌∷◌, map, Option, Some, None, is_some, refl, sym, ◌∙◌, subst}
use Rattle.std.specs.Prelude.{if◌then◌else◌, unwrap_or}
use Rattle.std.specs.List.{list_all}
use Rattle.std.proofs.lemmas.Bool.{and_parts}
use Rattle.elem_core.specs.Sort.{Sort, num_type, text_type, seq_type}
use Rattle.elem_core.specs.SortLaws.{sort_from_same}
use Rattle.elem_core.specs.Tree.{Tree}
use Rattle.elem_core.specs.Values.{fold_zero, same_text}
use Rattle.stream_model.specs.Graph.{steps_of}
use Rattle.stream_model.specs.Linear.{Book, Work, passing, work_of, linear}
use Rattle.stream_model.specs.Machine.{run, close, Given}
use Rattle.stream_model.specs.Node.{chain_of}
use Rattle.stream_model.specs.Outlook.{End}
use Rattle.stream_model.specs.Substreams.{Chain, through}
use Rattle.stream_model.specs.declared.kind.Kind.{Kind}
use Rattle.stream_model.specs.declared.kind.Kind.TheVariants.{Map, Grouped, MapConcat, Fold, Scan, Reduce, RecoverNum, RecoverText, Plug, GroupBy, SplitWhen, SplitAfter, Last}
use Rattle.stream_model.specs.declared.blueprint.ChainDecl.{ChainDecl}
use Rattle.stream_model.specs.declared.blueprint.Step.{Step}
use Rattle.stream_model.specs.declared.head.PlugHead.{PlugHead}
use Rattle.stream_model.specs.Known.{HeadLists}
use Rattle.blue_names.specs.FnTypes.{map_want, map_gives, pred_want, expand_want, expand_gives, fold_want, fold_gives, reduce_want, reduce_gives}
use Rattle.blue_names.specs.CustomPorts.{named}
use Rattle.blue_names.specs.StageTypes.{keyed, stage_typed, limited, clash_or, plug_named, plug_want, plug_gives, steps_in, chain_named, stage_want, stage_gives, step_typed, and_then, chain_typed}
use Rattle.blue_names.specs.declared.typed.Typed.{Typed}
use Rattle.blue_names.specs.declared.typed.Typed.TheVariants.{Gives, Clashes, TooDeep}
use Rattle.blue_names.specs.declared.want.Want.TheVariants.{Is}
use Rattle.std.proofs.lemmas.Cmp.{nat_list_eq_equiv}
use Rattle.materializer.specs.Graphs.{graph_chain as declared_chain}
use Rattle.line_chain.specs.Line.{model_step}
use Rattle.run_blueprint.specs.Kinds.{is_known, chain_in, StepsTake}
use Rattle.run_blueprint.specs.Plugs.{KeepsPlugTypes}
use Rattle.run_blueprint.specs.Types.{AllTyped}
use Rattle.run_blueprint.proofs.Lists.{retype, retype_all}
use Rattle.run_blueprint.proofs.Functions.{zero_typed, reduced_same}
use Rattle.run_blueprint.proofs.Given.{given, wanted, keyed_is}
use Rattle.run_blueprint.proofs.Machines.{closed_typed}
use Rattle.run_blueprint.proofs.Works.{WorkTyped, RunTyped, begin_typed}

module _ (heads : HeadLists) (t u : Sort) where
  plug_work : (name : List ℕ) (o : Option PlugHead) → plug_named name heads.plugs ≡ o → is_some (plug_named name heads.plugs) ≡ true → step_typed heads (Plug name) t ≡ Gives u → WorkTyped heads t u (Work.plugged name [])
  plug_work name None e a g = let no : false ≡ true = subst (λ o. is_some o ≡ true) e a in cc
  plug_work name (Some q) e a g =
      let r = given (Some (Is q.input)) t q.output u (subst (λ o. clash_or (plug_want o) t (limited (plug_gives o t)) ≡ Gives u) e g) in
      record { plug = q; named = e; held = tt; takes = sym (sort_from_same q.input t r.0); gives = r.1 }

  -- the work of a kind that gives this type for that one; where it has none, what passes on all that it takes
  pub work_typed : (k : Kind) → is_known heads k ≡ true → step_typed heads k t ≡ Gives u → WorkTyped heads t u (unwrap_or (work_of k) passing)
  work_typed (Map q) a e = given (map_want q) t (map_gives q t) u e
  work_typed (Grouped n) a e = (tt, (given None t (seq_type t) u e).1)
  work_typed (MapConcat q) a e = given (expand_want q) t (expand_gives q t) u e
  work_typed (Fold q) a e = let r = given (fold_want q) t (fold_gives q t) u e in (retype (fold_gives q t) u (fold_zero q) r.1 (zero_typed q t), r.1)
  work_typed (Scan q) a e = let r = given (fold_want q) t (fold_gives q t) u e in (retype (fold_gives q t) u (fold_zero q) r.1 (zero_typed q t), r.1)
  work_typed (Reduce q) a e = let r = given (reduce_want q) t (reduce_gives q t) u e in (tt, r.0, sym (reduced_same q t r.0) ∙ r.1)
  work_typed (RecoverNum k) a e = let r = given (Some (Is num_type)) t num_type u e in sym (sort_from_same num_type t r.0) ∙ r.1
  work_typed (RecoverText l) a e = let r = given (Some (Is text_type)) t text_type u e in sym (sort_from_same text_type t r.0) ∙ r.1
  work_typed (Plug name) a e = plug_work name (plug_named name heads.plugs) refl a e
  work_typed (Last name) a e = (tt, (given None t t u e).1)
  work_typed k a e = (given (stage_want heads k) t (stage_gives heads k t) u e).1

-- ---- chains

-- the chain takes elements of type t and gives elements of type u
abbrev pub ChainTyped : HeadLists → Sort → Sort → Chain → Type 0
ChainTyped heads t u [] = t ≡ u
ChainTyped heads t u (s ∷ ss) = (v : Sort) × RunTyped heads t v s × ChainTyped heads v u ss

module _ (heads : HeadLists) (node : ℕ) where
  pub chain_typed_by : (steps : List Step) (t u : Sort) → list_all (λ (s : Step). is_known heads s.kind) steps ≡ true → chain_typed heads steps t ≡ Gives u → ChainTyped heads t u (chain_of node (map model_step steps))
  chain_typed_by [] t u a e = cc
  chain_typed_by (s ∷ ss) t u a e =
      let known = and_parts (is_known heads s.kind) (list_all (λ (s : Step). is_known heads s.kind) ss) a in
      by_step (step_typed heads s.kind t) refl (λ v later. chain_typed_by ss v u known.1 later) known.0 e
    where
      by_step : (r : Typed) → step_typed heads s.kind t ≡ r → ((v : Sort) → chain_typed heads ss v ≡ Gives u → ChainTyped heads v u (chain_of node (map model_step ss))) → is_known heads s.kind ≡ true
          → and_then heads r (chain_typed heads ss) ≡ Gives u → ChainTyped heads t u (chain_of node (map model_step (s ∷ ss)))
      by_step (Gives v) is more known h = (v, begin_typed heads t v node s.decider (unwrap_or (work_of s.kind) passing) (work_typed heads t v s.kind known is), more v h)
      by_step (Clashes x y) is more known h = cc
      by_step TooDeep is more known h = cc

-- what comes of a list
module _ (heads : HeadLists) (book : Book) (keeps : KeepsPlugTypes heads book) where
  pub through_typed : (c : Chain) (t u : Sort) (l : List Tree) (e : End) → ChainTyped heads t u c → AllTyped t l → AllTyped u (through book c l e).list
  through_typed [] t u l e i h = retype_all t u l i h
  through_typed (s ∷ ss) t u l e i h =
      let g : Given Tree = close (linear book passing) (run (linear book passing) s l) e in
      through_typed ss i.0 u g.list g.end i.2 (closed_typed heads book keeps passing t i.0 s l e i.1 h)

-- the functions of the steps take what reaches them
module _ (heads : HeadLists) where
  pub steps_take : (steps : List Step) (t u : Sort) → chain_typed heads steps t ≡ Gives u → StepsTake heads steps t
  steps_take [] t u e = tt
  steps_take (s ∷ ss) t u e = by_step (step_typed heads s.kind t) refl (λ v later. steps_take ss v u later) e
    where
      by_step : (r : Typed) → step_typed heads s.kind t ≡ r → ((v : Sort) → chain_typed heads ss v ≡ Gives u → StepsTake heads ss v) → and_then heads r (chain_typed heads ss) ≡ Gives u → StepsTake heads (s ∷ ss) t
      by_step (Gives v) is more h =
          let r = given (stage_want heads s.kind) t (stage_gives heads s.kind t) v is in
          (r.0, subst (λ x. StepsTake heads ss x) (sym r.1) (more v h))
      by_step (Clashes x y) is more h = cc
      by_step TooDeep is more h = cc

  -- of a node at which a type is given
  pub chain_takes : (chains : List ChainDecl) (k : Kind) (t u : Sort) → stage_typed heads chains k t ≡ Gives u → StepsTake heads (chain_in chains k) t
  chain_takes chains (GroupBy n f name) t u e =
      let r = wanted (map_want f) t (keyed heads (map_gives f t) (chain_typed heads (chain_named name chains) t)) u e in
      steps_take (chain_named name chains) t u (keyed_is heads (map_gives f t) (chain_typed heads (chain_named name chains) t) u r.1)
  chain_takes chains (SplitWhen p name j) t u e = steps_take (chain_named name chains) t u (wanted (Some (pred_want p)) t (chain_typed heads (chain_named name chains) t) u e).1
  chain_takes chains (SplitAfter p name j) t u e = steps_take (chain_named name chains) t u (wanted (Some (pred_want p)) t (chain_typed heads (chain_named name chains) t) u e).1
  chain_takes chains _ t u e = tt

-- ---- chains by their names

same_either : (xs ys : List ℕ) → same_text xs ys ≡ same_text ys xs
same_either xs ys = nat_list_eq_equiv.symm xs ys

-- the steps of a chain of a graph are those of the chain of that name
pub steps_are : (name : List ℕ) (chains : List ChainDecl) → steps_of name (map declared_chain chains) ≡ map model_step (chain_named name chains)
steps_are name [] = refl
steps_are name (c ∷ cs) = by_test (same_text c.name name) (same_text name c.name) (same_either c.name name) (steps_are name cs)
  where
    by_test : (a b : Bool) → a ≡ b → steps_of name (map declared_chain cs) ≡ map model_step (chain_named name cs)
        → (if a then map model_step c.steps.items else steps_of name (map declared_chain cs)) ≡ map model_step (steps_in (if b then Some c else named (λ (d : ChainDecl). d.name) name cs))
    by_test true true e more = refl
    by_test true false e more = cc
    by_test false true e more = cc
    by_test false false e more = more

pub steps_known : (heads : HeadLists) (name : List ℕ) (chains : List ChainDecl) → list_all (λ (c : ChainDecl). list_all (λ (s : Step). is_known heads s.kind) c.steps.items) chains ≡ true
    → list_all (λ (s : Step). is_known heads s.kind) (chain_named name chains) ≡ true
steps_known heads name [] h = refl
steps_known heads name (c ∷ cs) h =
    let parts = and_parts (list_all (λ (s : Step). is_known heads s.kind) c.steps.items) (list_all (λ (c : ChainDecl). list_all (λ (s : Step). is_known heads s.kind) c.steps.items) cs) h in
    by_test (same_text name c.name) parts.0 (steps_known heads name cs parts.1)
  where
    by_test : (b : Bool) → list_all (λ (s : Step). is_known heads s.kind) c.steps.items ≡ true → list_all (λ (s : Step). is_known heads s.kind) (chain_named name cs) ≡ true
        → list_all (λ (s : Step). is_known heads s.kind) (steps_in (if b then Some c else named (λ (d : ChainDecl). d.name) name cs)) ≡ true
    by_test true here more = here
    by_test false here more = more
