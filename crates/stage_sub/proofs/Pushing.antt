-- An element that came to substreams is one step of the stage's machine.
use Rattle.std.specs.Prelude.{Result, option_to_list}
use Rattle.stage_core.specs.Fans.{untagged}
use Rattle.std.proofs.Common.{◌≡◌, ℕ, ◌+◌, ◌≤◌, Bool, true, false, inl, inr, List, [], ◌∷◌, length, Option, Some, None, Ok, Err, refl, sym, ap, ◌∙◌, subst, arith}
use Rattle.std.proofs.lemmas.Option.{same_Some}
use Rattle.elem_core.specs.Tree.{Tree}
use Rattle.elem_core.specs.declared.item.Item.TheVariants as item
use Rattle.elem_core.specs.declared.why.Why.{Why}
use Rattle.elem_core.specs.declared.why.Cause.{Cause}
use Rattle.port_core.specs.Asking.{PullsStand}
use Rattle.port_core.specs.declared.act.Act.{Act}
use Rattle.port_core.specs.Call.{arrives, Meets, given_on}
use Rattle.port_core.specs.View.{OneOneOf, in_at}
use Rattle.port_core.specs.declared.view.InView.{InView}
use Rattle.port_core.specs.declared.view.InView.TheVariants.{Idle, Pulled, Finished, Cancelled}
use Rattle.port_core.specs.declared.view.OutView.{OutView}
use Rattle.port_core.specs.declared.view.OutView.TheVariants as outlet
use Rattle.port_core.specs.ListFunction.{ListFunction, Same}
use Rattle.stream_model.specs.Outlook.{End, unended, failed}
use Rattle.stream_model.specs.Machine.{State, going, broken, Run, Machine, Given, feed}
use Rattle.stream_model.specs.FanIn.{Tagged}
use Rattle.stream_model.specs.Substreams.{Sub, Subs, Opening, Fault, arranged, trouble, news, blame, cause_of, sub_run, sub_step, substreams}
use Rattle.stage_core.specs.Held.{told, Held, owing, shut}
use Rattle.stage_core.specs.Turn.{last_held, Emits, TurnAt}
use Rattle.stage_core.proofs.Lagging.{few_nothing}
use Rattle.stage_core.specs.declared.phase.Phase.{Phase}
use Rattle.stage_core.specs.declared.phase.Phase.TheVariants.{New, Open}
use Rattle.step_work.specs.Means.{Means}
use Rattle.stage_sub.specs.Subs.{fault_in_model}
use Rattle.stage_sub.specs.Joined.{untag, joined_machine}
use Rattle.stage_sub.specs.KeptSubs.{KeptSubs, opening_of, Keeps, TakesBy}
use Rattle.stage_sub.specs.Moves.{noted, port_in}
use Rattle.stage_sub.specs.States.{Logic, port_state, port_state_in, Owes, QueuesOutputs, Turned, cause_of_blame, answered, answer_acts, answer_gave}
use Rattle.stage_sub.specs.declared.opening.OpenBy.{OpenBy}
use Rattle.stage_sub.specs.declared.blame.Blame.{Blame}
use Rattle.stage_sub.specs.declared.blame.Blame.TheVariants.{AtElement, AtEnd}

-- ---- where an element may come, the stage waits and holds nothing

pub record Waits {C : Type 0} (l : Logic C) : Type 0 where
  pub none : l.pending ≡ []
  pub on : l.over ≡ false
  pub asks : l.asked ≡ true

waits_at : {C : Type 0} (l : Logic C) (over asked : Bool) (p : List Tagged) (x : InView) (y : OutView) → x ≡ Pulled → l.over ≡ over → l.asked ≡ asked → l.pending ≡ p → port_state_in Open over asked p x y → Waits l
waits_at l false true p Pulled outlet.Available w a d b r = record { none = b ∙ r; on = a; asks = d }
waits_at l false true p Pulled outlet.Unpulled w a d b r = absurd r
waits_at l false true p Pulled outlet.Closed w a d b r = absurd r
waits_at l false true p Pulled outlet.Cancelled w a d b r = absurd r
waits_at l false false p Pulled y w a d b r = absurd r
waits_at l true asked p Pulled y w a d b r = by_asked asked r
  where
    by_asked : (k : Bool) → port_state_in Open true k p Pulled y → Waits l
    by_asked true q = absurd q
    by_asked false q = absurd q
waits_at l over asked p Idle y w a d b r = cc
waits_at l over asked p Finished y w a d b r = cc
waits_at l over asked p Cancelled y w a d b r = cc

waits_in : {C : Type 0} (l : Logic C) (xs : List InView) (ys : List OutView) (t : Tree) → in_at (record { ins = xs; outs = ys }) 0 ≡ Pulled → OneOneOf (port_state_in Open l.over l.asked l.pending) xs ys → Waits l
waits_in l (x ∷ []) (y ∷ []) t w r = waits_at l l.over l.asked l.pending x y w refl refl refl r
waits_in l [] ys t w r = absurd r
waits_in l (x ∷ []) [] t w r = absurd r
waits_in l (x ∷ []) (y ∷ z ∷ ys) t w r = absurd r
waits_in l (x ∷ u ∷ xs) ys t w r = absurd r

pub waits : {C : Type 0} (l : Logic C) (t : Tree) → l.phase ≡ Open → Meets (arrives 0 (item.Elem t)) (port_state l) → Waits l
waits l t h m = waits_in l m.0.ins m.0.outs t m.1.0 (subst (λ p. OneOneOf (port_state_in p l.over l.asked l.pending) m.0.ins m.0.outs) h m.1.1)

-- ---- one step of the machine

module _ (yields : List Tree → End → Given Tree) (s : Subs) where
  abbrev of_result : Result (List Sub) Why → Run Subs Tagged
  of_result (Ok now) = sub_run yields s now
  of_result (Err w) = record { gave = []; state = broken (blame s w) }

  step_by : (r : Result (List Sub) Why) → (elim r as (λ _. Run Subs Tagged) [ Ok now ↦ sub_run yields s now | Err w ↦ record { gave = []; state = broken (blame s w) } ]) ≡ of_result r
  step_by (Ok now) = refl
  step_by (Err w) = refl

  step_is : (o : Opening) (t : Tree) → sub_step yields o s t ≡ of_result (arranged o s.subs t)
  step_is o t = step_by (arranged o s.subs t)

  abbrev goes_to : List Sub → Subs
  goes_to now = record { node = s.node; taken = s.taken + 1; subs = now }

  abbrev of_fault : List Sub → Option Fault → Run Subs Tagged
  of_fault now (Some f) = record { gave = []; state = broken (cause_of s f) }
  of_fault now None = record { gave = news yields 0 s.subs now; state = going (goes_to now) }

  run_by : (now : List Sub) (x : Option Fault)
      → (elim x as (λ _. Run Subs Tagged) [ Some f ↦ record { gave = []; state = broken (cause_of s f) } | None ↦ record { gave = news yields 0 s.subs now; state = going (goes_to now) } ]) ≡ of_fault now x
  run_by now (Some f) = refl
  run_by now None = refl

  pub stepped : (o : Opening) (t : Tree) (now : List Sub) → arranged o s.subs t ≡ Ok now → trouble yields now ≡ None → sub_step yields o s t ≡ record { gave = news yields 0 s.subs now; state = going (goes_to now) }
  stepped o t now a e = step_is o t ∙ ap of_result a ∙ run_by now (trouble yields now) ∙ ap (of_fault now) e

  pub stepped_fault : (o : Opening) (t : Tree) (now : List Sub) (f : Fault) → arranged o s.subs t ≡ Ok now → trouble yields now ≡ Some f → sub_step yields o s t ≡ record { gave = []; state = broken (cause_of s f) }
  stepped_fault o t now f a e = step_is o t ∙ ap of_result a ∙ run_by now (trouble yields now) ∙ ap (of_fault now) e

  pub stepped_err : (o : Opening) (t : Tree) (w : Why) → arranged o s.subs t ≡ Err w → sub_step yields o s t ≡ record { gave = []; state = broken (blame s w) }
  stepped_err o t w a = step_is o t ∙ ap of_result a

  cause_is : (b : Blame) → cause_of s (fault_in_model b) ≡ cause_of_blame s.node (s.taken + 1) b
  cause_is (AtElement w) = refl
  cause_is (AtEnd w) = refl

-- ---- one step of the stage

abbrev pub of_parts : {C : Type 0} → Phase → ℕ → ℕ → OpenBy → C → KeptSubs C → List Tagged → Bool → Bool → Option (List ℕ) → Logic C
of_parts ph node n how chain kept p asked over ms = record { phase = ph; node = node; taken = n; how = how; chain = chain; kept = kept; pending = p; asked = asked; over = over; moves = ms }

-- the stage before the step has the moves ms; what is kept of it beside its log has the moves ks
module _ {C : Type 0} (rest : C → ListFunction) (is_open : C → Bool) (node n : ℕ) (how : OpenBy) (chain : C) (kept : KeptSubs C) (t : Tree) (ms ks : Option (List ℕ)) where
  abbrev old_one : Logic C
  old_one = of_parts Open node n how chain kept [] true false ms

  abbrev logic : KeptSubs C → List Tagged → Logic C
  logic now p = of_parts Open node n how chain now p true false ks

  abbrev gave_then : KeptSubs C → List Tagged → Option Blame → Option Tagged
  gave_then now p b = answer_gave (logic now p) b

  abbrev then_one : KeptSubs C → List Tagged → Option Blame → Logic C
  then_one now p b = record (answered (logic now p) (n + 1) b) { moves = noted ms (port_in (gave_then now p b)) }

  abbrev acts_then : KeptSubs C → List Tagged → Option Blame → List Act
  acts_then now p b = answer_acts (logic now p) (n + 1) b

  module _ (f : ListFunction) (yields : List Tree → End → Given Tree) where
    abbrev machine : Machine Subs Tree
    machine = joined_machine yields (opening_of how)

    abbrev at : Subs → Run Subs Tree
    at s = record { gave = []; state = going s }

    -- the stage's state and what it pushed, by what is held then
    abbrev Steps : KeptSubs C → List Tagged → Option Blame → Subs → Type 0
    Steps now after b s =
        (y : Held Subs) × (Owes rest is_open f yields (then_one now after b) y
        × (TurnAt machine 0 (arrives 0 (item.Elem t)) (owing (at s)) (given_on 0 (acts_then now after b)) y × QueuesOutputs (substreams yields (opening_of how)) (arrives 0 (item.Elem t)) (owing (at s)) old_one (gave_then now after b) (then_one now after b)))

    -- the step of the machine, and what came of it
    fed : (s : Subs) (x : Run Subs Tagged) → sub_step yields (opening_of how) s t ≡ x → feed machine (at s) t ≡ untag x
    fed s x e = ap untag e

    goes : (s : Subs) (now : KeptSubs C) (subs : List Sub) (after : List Tagged) → s.node ≡ node → s.taken ≡ n → sub_step yields (opening_of how) s t ≡ record { gave = after; state = going (goes_to yields s subs) } → Keeps rest is_open f yields how now subs → Steps now after None s
    goes s now subs [] sn st e sp = (
      owing (record { gave = []; state = going (goes_to yields s subs) }),
      (
        (refl, (goes_to yields s subs, (refl, (sn, (ap (λ k. k + 1) st, sp))))),
        (
          (subst (λ x. Emits machine x [] (owing (record { gave = []; state = going (goes_to yields s subs) }))) (sym (fed s _ e)) (refl, refl), few_nothing machine (at s) t (record { gave = []; state = going (goes_to yields s subs) }) refl refl),
          inl (sym (ap (λ (x : Run Subs Tagged). x.gave) e)),
        ),
      ),
    )
    goes s now subs (o ∷ os) sn st e sp =
        let z : Run Subs Tree = record { gave = untagged os; state = going (goes_to yields s subs) } in
        let whole : feed machine (at s) t ≡ record { gave = o.item ∷ untagged os; state = going (goes_to yields s subs) } = fed s _ e in
        let long : length (untagged os) ≤ length (feed machine (at s) t).gave = subst (λ (x : Run Subs Tree). length (untagged os) ≤ length x.gave) (sym whole) (omega arith) in (
          owing z,
          (
            (refl, (goes_to yields s subs, (refl, (sn, (ap (λ k. k + 1) st, sp))))),
            (
              (subst (λ x. Emits machine x (item.Elem o.item ∷ []) (owing z)) (sym whole) (refl, refl), last_held (omega arith) (omega (arith, long))),
              inl (sym (ap (λ (x : Run Subs Tagged). x.gave) e)),
            ),
          ),
        )

    breaks : (s : Subs) (now : KeptSubs C) (after : List Tagged) (b : Blame) (c : Cause) → c ≡ cause_of_blame node (n + 1) b → sub_step yields (opening_of how) s t ≡ record { gave = []; state = broken c } → Steps now after (Some b) s
    breaks s now after b c is e =
        (shut, (tt, ((subst (λ x. Emits machine x (item.Failed (cause_of_blame node (n + 1) b) ∷ []) shut) (sym (fed s _ e)) (refl, ap (λ (d : Cause). item.Failed d ∷ []) (sym is)), tt), inr (refl, refl))))

    steps : (s : Subs) (now : KeptSubs C) (after : List Tagged) (b : Option Blame) → s.node ≡ node → s.taken ≡ n → TakesBy rest is_open f yields how s.subs t b [] after now → Steps now after b s
    steps s now after None sn st (inl (w, (e, q))) = cc
    steps s now after None sn st (inr (subs, (e, h))) =
        goes s now subs after sn st (stepped yields s (opening_of how) t subs e h.0 ∙ ap (λ (l : List Tagged). record { gave = l; state = going (goes_to yields s subs) }) (sym h.1.0)) h.1.1
    steps s now after (Some b) sn st (inl (w, (e, q))) =
        let same : b ≡ AtElement w = same_Some b (AtElement w) q in
        breaks s now after b (blame s w) (ap (λ k. record { stage = k; nth = s.taken + 1; why = w }) sn ∙ ap (λ k. record { stage = node; nth = k + 1; why = w }) st ∙ ap (cause_of_blame node (n + 1)) (sym same)) (stepped_err yields s (opening_of how) t w e)
    steps s now after (Some b) sn st (inr (subs, (e, h))) =
        breaks s now after b (cause_of s (fault_in_model b)) (cause_is yields s b ∙ ap (λ k. cause_of_blame k (s.taken + 1) b) sn ∙ ap (λ k. cause_of_blame node (k + 1) b) st) (stepped_fault yields s (opening_of how) t subs (fault_in_model b) e h)

    owing_by : (x : Run Subs Tree) (s : Subs) → x.gave ≡ [] → x.state ≡ going s → x ≡ at s
    owing_by x s g e = ap (λ (l : List Tree). record { gave = l; state = x.state }) g ∙ ap (λ (k : State Subs). record { gave = []; state = k }) e

    abbrev Turns : KeptSubs C → List Tagged → Option Blame → Held Subs → Type 0
    Turns now after b x =
        (y : Held Subs) × (Owes rest is_open f yields (then_one now after b) y
        × (TurnAt machine 0 (arrives 0 (item.Elem t)) x (given_on 0 (acts_then now after b)) y × QueuesOutputs (substreams yields (opening_of how)) (arrives 0 (item.Elem t)) x old_one (gave_then now after b) (then_one now after b)))

    turns : (now : KeptSubs C) (after : List Tagged) (b : Option Blame) → ((ss : List Sub) → Keeps rest is_open f yields how kept ss → TakesBy rest is_open f yields how ss t b [] after now)
        → (x : Held Subs) → Owes rest is_open f yields old_one x → Turns now after b x
    turns now after b takes shut h = absurd h
    turns now after b takes (owing x) h =
        let s : Subs = h.1.0 in
        subst (λ (k : Run Subs Tree). Turns now after b (owing k)) (sym (owing_by x s h.0 h.1.1.0)) (steps s now after b h.1.1.1.0 h.1.1.1.1.0 (takes s.subs h.1.1.1.1.1))

  started_by : (now : KeptSubs C) (after : List Tagged) (b : Option Blame) → (then_one now after b).phase ≡ New → ⊥
  started_by now [] None e = cc
  started_by now (o ∷ os) None e = cc
  started_by now after (Some b) e = cc

  stands_by : (now : KeptSubs C) (after : List Tagged) (b : Option Blame) → PullsStand (acts_then now after b)
  stands_by now [] None = (tt, tt)
  stands_by now (o ∷ os) None = tt
  stands_by now after (Some b) = tt

  -- what it was made of stays
  record Stays (l : Logic C) : Type 0 where
    node_is : l.node ≡ node
    how_is : l.how ≡ how
    chain_is : l.chain ≡ chain

  same_by : (now : KeptSubs C) (after : List Tagged) (b : Option Blame) → Stays (then_one now after b)
  same_by now [] None = record { node_is = refl; how_is = refl; chain_is = refl }
  same_by now (o ∷ os) None = record { node_is = refl; how_is = refl; chain_is = refl }
  same_by now after (Some b) = record { node_is = refl; how_is = refl; chain_is = refl }

  abbrev closing_by : Option Blame → End
  closing_by None = unended
  closing_by (Some b) = failed (cause_of_blame node (n + 1) b)

  out_by : (now : KeptSubs C) (after : List Tagged) (b : Option Blame) → given_on 0 (acts_then now after b) ≡ told (untagged (option_to_list (gave_then now after b))) (closing_by b)
  out_by now [] None = refl
  out_by now (o ∷ os) None = refl
  out_by now after (Some b) = refl

  pushed_at : (whole : C → ListFunction) (now : KeptSubs C) (after : List Tagged) (b : Option Blame)
      → ((f : ListFunction) → Same (whole chain) f → (yields : List Tree → End → Given Tree) → Means yields f → (ss : List Sub) → Keeps rest is_open f yields how kept ss → TakesBy rest is_open f yields how ss t b [] after now)
      → Turned whole rest is_open (arrives 0 (item.Elem t)) old_one (acts_then now after b) (then_one now after b)
  pushed_at whole now after b takes =
      let stays = same_by now after b in
      record {
        gave = gave_then now after b;
        closing = closing_by b;
        out = out_by now after b;
        turn = λ f same yields means. turns f yields now after b (takes f same yields means);
        moves = refl;
        node = stays.node_is;
        how = stays.how_is;
        chain = stays.chain_is;
        stands = stands_by now after b;
        started = started_by now after b;
      }

module _ {C : Type 0} (whole rest : C → ListFunction) (is_open : C → Bool) where
  abbrev Takes : Logic C → Logic C → Tree → Option Blame → List Tagged → Type 0
  Takes old st t b before =
      (f : ListFunction) → Same (whole old.chain) f → (yields : List Tree → End → Given Tree) → Means yields f → (ss : List Sub) → Keeps rest is_open f yields old.how old.kept ss
      → TakesBy rest is_open f yields old.how ss t b before st.pending st.kept

  -- an element that came to this
  pushed : (old st : Logic C) (t : Tree) (k : ℕ) (b : Option Blame) → old.phase ≡ Open → Waits old → k ≡ old.taken + 1 → st ≡ record old { kept = st.kept; pending = st.pending; moves = st.moves } → Takes old st t b old.pending
      → Turned whole rest is_open (arrives 0 (item.Elem t)) old (answer_acts st k b) (record (answered st k b) { moves = noted old.moves (port_in (answer_gave st b)) })
  pushed old st t k b h w e m takes =
      let now : Logic C = of_parts Open old.node old.taken old.how old.chain st.kept st.pending true false st.moves in
      let is : old ≡ of_parts Open old.node old.taken old.how old.chain old.kept [] true false old.moves =
      ap (λ p. of_parts p old.node old.taken old.how old.chain old.kept old.pending old.asked old.over old.moves) h ∙ ap (λ p. of_parts Open old.node old.taken old.how old.chain old.kept p old.asked old.over old.moves) w.none
      ∙ ap (λ x. of_parts Open old.node old.taken old.how old.chain old.kept [] x old.over old.moves) w.asks ∙ ap (λ x. of_parts Open old.node old.taken old.how old.chain old.kept [] true x old.moves) w.on in
      let st_is : st ≡ now =
      m ∙ ap (λ p. of_parts p old.node old.taken old.how old.chain st.kept st.pending old.asked old.over st.moves) h
      ∙ ap (λ x. of_parts Open old.node old.taken old.how old.chain st.kept st.pending x old.over st.moves) w.asks ∙ ap (λ x. of_parts Open old.node old.taken old.how old.chain st.kept st.pending true x st.moves) w.on in
      let takes_now : Takes old st t b [] = subst (Takes old st t b) w.none takes in
      let core = pushed_at rest is_open old.node old.taken old.how old.chain old.kept t old.moves st.moves whole st.kept st.pending b takes_now in
      let at_old : Turned whole rest is_open (arrives 0 (item.Elem t)) old (answer_acts now (old.taken + 1) b) (record (answered now (old.taken + 1) b) { moves = noted old.moves (port_in (answer_gave now b)) }) =
      subst (λ (x : Logic C). Turned whole rest is_open (arrives 0 (item.Elem t)) x (answer_acts now (old.taken + 1) b) (record (answered now (old.taken + 1) b) { moves = noted old.moves (port_in (answer_gave now b)) })) (sym is) core in
      let at_st : Turned whole rest is_open (arrives 0 (item.Elem t)) old (answer_acts st (old.taken + 1) b) (record (answered st (old.taken + 1) b) { moves = noted old.moves (port_in (answer_gave st b)) }) =
      subst (λ (x : Logic C). Turned whole rest is_open (arrives 0 (item.Elem t)) old (answer_acts x (old.taken + 1) b) (record (answered x (old.taken + 1) b) { moves = noted old.moves (port_in (answer_gave x b)) })) (sym st_is) at_old in
      subst (λ j. Turned whole rest is_open (arrives 0 (item.Elem t)) old (answer_acts st j b) (record (answered st j b) { moves = noted old.moves (port_in (answer_gave st b)) })) (sym e) at_st

  -- the same, by what the handler's calls say: st0 was kept beside the log of the moves m
  pub on_pushed : (old st0 st now : Logic C) (t : Tree) (k : ℕ) (b : Option Blame) (acts : List Act) (port : Option ℕ) (m room ms : Option (List ℕ)) → record st0 { moves = m } ≡ old → old.phase ≡ Open → Waits old → k ≡ st0.taken + 1
      → st ≡ record st0 { kept = st.kept; pending = st.pending } → Takes st0 st t b st0.pending → now ≡ answered st k b → acts ≡ answer_acts st k b → port ≡ port_in (answer_gave st b) → room ≡ m → ms ≡ noted room port
      → Turned whole rest is_open (arrives 0 (item.Elem t)) old acts (record now { moves = ms })
  on_pushed old st0 st now t k b acts port m room ms is h w e stays takes n a p r s =
      subst (λ (l : Logic C). l.phase ≡ Open → Waits l → Turned whole rest is_open (arrives 0 (item.Elem t)) l acts (record now { moves = ms })) is (λ h w. at_old h w) h w
    where
      kept_is : st ≡ record st0 { kept = st.kept; pending = st.pending; moves = st.moves }
      kept_is = stays ∙ ap (λ (ks : Option (List ℕ)). record st0 { kept = st.kept; pending = st.pending; moves = ks }) (sym (ap (λ (l : Logic C). l.moves) stays))

      at_old : st0.phase ≡ Open → Waits (record st0 { moves = m }) → Turned whole rest is_open (arrives 0 (item.Elem t)) (record st0 { moves = m }) acts (record now { moves = ms })
      at_old h w = rw (n, a, s, r, p) (pushed (record st0 { moves = m }) st t k b h w e kept_is takes)
