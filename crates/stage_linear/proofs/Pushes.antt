-- An element that came to an outcome is one step of the stage's machine.
use Rattle.std.specs.Prelude.{if◌then◌else◌, Option, Some, None, IfSome}
use Rattle.std.proofs.Common.{◌≡◌, ℕ, ◌+◌, Bool, true, List, [], ◌∷◌, refl, sym, ap, ◌∙◌, subst, arith}
use Rattle.elem_core.specs.Tree.{Tree}
use Rattle.elem_core.specs.declared.item.Item.{Item}
use Rattle.elem_core.specs.declared.item.Item.TheVariants as item
use Rattle.elem_core.specs.declared.why.Why.{Why}
use Rattle.elem_core.specs.declared.why.Decider.{Decider}
use Rattle.elem_core.specs.declared.why.Decider.TheVariants.{Stop, Resume, Restart}
use Rattle.port_core.specs.Asking.{PullsStand}
use Rattle.port_core.specs.Call.{arrives, Meets, given_on}
use Rattle.port_core.specs.View.{OneOneOf, in_at}
use Rattle.port_core.specs.declared.view.InView.{InView}
use Rattle.port_core.specs.declared.view.InView.TheVariants.{Idle, Pulled, Finished, Cancelled}
use Rattle.port_core.specs.declared.view.OutView.{OutView}
use Rattle.port_core.specs.declared.view.OutView.TheVariants as outlet
use Rattle.stream_model.specs.Machine.{State, going, done, Machine}
use Rattle.stream_model.specs.Linear.{Book, Stage, Work, Reaction, gives, ends, blames, breaks, reaction, reacts, linear}
use Rattle.stage_core.specs.Held.{Held, owing, shut}
use Rattle.stage_core.specs.Turn.{last_held, Emits, FewIn, TurnAt}
use Rattle.stage_core.proofs.Lagging.{few_nothing}
use Rattle.stage_core.specs.declared.phase.Phase.TheVariants.{New, Open}
use Rattle.stage_linear.specs.declared.course.Course.{Course}
use Rattle.stage_linear.specs.declared.course.Course.TheVariants as course
use Rattle.step_work.specs.declared.task.LinearReaction.{LinearReaction}
use Rattle.step_work.specs.declared.task.LinearReaction.TheVariants.{Gives, GivesAll, Skips, EndsWith, EndsWithAll, Ends, Blames, Fails}
use Rattle.step_work.specs.declared.task.AtOnce.{AtOnce}
use Rattle.step_work.specs.Tasks.{outcome_of, HasMore, SameMachine, GoesOn, Spreads, Stays, ReactedBy}
use Rattle.port_core.specs.declared.act.Act.{Act}
use Rattle.stage_linear.specs.Outcomes.{working, answered, answer_acts, CameTo, Said}
use Rattle.stage_linear.specs.States.{Logic, held, port_state, port_state_in, Turned}
use Rattle.stage_linear.proofs.States.{of_logic}
use Rattle.stage_linear.proofs.Workers.{stays_on}

-- ---- where an element may come, the stage waits and holds nothing

pub record Waits (l : Logic) : Type 0 where
  pub none : l.pending ≡ []
  pub on : l.course ≡ course.Waits
  pub more : HasMore l.stage.work
  pub ready : l.ready ≡ true

waits_at : (l : Logic) (c : Course) (p : List Tree) (x : InView) (y : OutView) → x ≡ Pulled → l.course ≡ c → l.pending ≡ p → port_state_in Open c p l.stage.work l.ready x y → Waits l
waits_at l course.Waits p Pulled outlet.Available w a b r = record { none = b ∙ r.0; on = a; more = r.1.0; ready = r.1.1 }
waits_at l course.Waits p Pulled outlet.Unpulled w a b r = absurd r
waits_at l course.Waits p Pulled outlet.Closed w a b r = absurd r
waits_at l course.Waits p Pulled outlet.Cancelled w a b r = absurd r
waits_at l course.Idles p Pulled y w a b r = absurd r
waits_at l course.Leaves p Pulled y w a b r = absurd r
waits_at l course.Closes p Pulled y w a b r = absurd r
waits_at l course.Ends p Pulled y w a b r = absurd r
waits_at l c p Idle y w a b r = cc
waits_at l c p Finished y w a b r = cc
waits_at l c p Cancelled y w a b r = cc

waits_in : (l : Logic) (xs : List InView) (ys : List OutView) (t : Tree) → in_at (record { ins = xs; outs = ys }) 0 ≡ Pulled → OneOneOf (port_state_in Open l.course l.pending l.stage.work l.ready) xs ys → Waits l
waits_in l (x ∷ []) (y ∷ []) t w r = waits_at l l.course l.pending x y w refl refl r
waits_in l [] ys t w r = absurd r
waits_in l (x ∷ []) [] t w r = absurd r
waits_in l (x ∷ []) (y ∷ z ∷ ys) t w r = absurd r
waits_in l (x ∷ u ∷ xs) ys t w r = absurd r

pub waits : (l : Logic) (t : Tree) → l.phase ≡ Open → Meets (arrives 0 (item.Elem t)) (port_state l) → Waits l
waits l t h m = waits_in l m.0.ins m.0.outs t m.1.0 (subst (λ p. OneOneOf (port_state_in p l.course l.pending l.stage.work l.ready) m.0.ins m.0.outs) h m.1.1)

-- ---- one step of the machine

module _ (book : Book) (t : Tree) (node n : ℕ) (old : Work) (rdy : Bool) where
  abbrev stage : Decider → Work → ℕ → Stage
  stage d w k = record { node = node; decider = d; taken = k; work = w }

  abbrev before : Decider → Held Stage
  before d = owing (record { gave = []; state = going (stage d old n) })

  -- the stage with its new work
  abbrev logic : Bool → Decider → Work → Logic
  logic b d w = record { phase = Open; stage = stage d w n; pending = []; course = course.Waits; ready = b }

  abbrev Steps : Decider → Work → LinearReaction → Type 0
  Steps d w o = TurnAt (linear book old) 0 (arrives 0 (item.Elem t)) (before d) (given_on 0 (answer_acts (logic rdy d w) (n + 1) o)) (held book (answered (logic rdy d w) (n + 1) o))

  -- by its reaction: what is given first goes out, and the others are held
  turn_by : (d : Decider) (r : Reaction) (out : List Item) (new : Held Stage) → reaction book old t ≡ r → Emits (linear book old) (reacts (stage d old n) r) out new
      → FewIn (linear book old) (record { gave = []; state = going (stage d old n) }) t new → TurnAt (linear book old) 0 (arrives 0 (item.Elem t)) (before d) out new
  turn_by d r out new is e f = rw is (e, f)

  none_held : (d : Decider) (st : State Stage) → FewIn (linear book old) (record { gave = []; state = going (stage d old n) }) t (owing (record { gave = []; state = st }))
  none_held d st = few_nothing (linear book old) (record { gave = []; state = going (stage d old n) }) t (record { gave = []; state = st }) refl refl

  -- the other outputs of an expansion came with this element
  spread_held : (d : Decider) (w : Work) (u : Tree) (us : List Tree) → reaction book old t ≡ gives (u ∷ us) w → GoesOn old w → Spreads w
      → FewIn (linear book old) (record { gave = []; state = going (stage d old n) }) t (owing (record { gave = us; state = going (stage d w (n + 1)) }))
  spread_held d w u us is on spreads =
      let same : (linear book w).hold ≡ (linear book old).hold = ap (λ (k : Machine Stage Tree). k.hold) (on.1 book) in
      let one : (linear book w).hold ≡ 1 = ap (λ (b : Bool). if b then 1 else 0) spreads.0 in
      last_held (omega (arith, same, one)) (rw is (omega arith))

  -- the other outputs of an element at which a plug is done came with this element
  leaving_held : (d : Decider) (u : Tree) (us : List Tree) → reaction book old t ≡ ends (u ∷ us) → Spreads old
      → FewIn (linear book old) (record { gave = []; state = going (stage d old n) }) t (owing (record { gave = us; state = done }))
  leaving_held d u us is spreads =
      let one : (linear book old).hold ≡ 1 = ap (λ (b : Bool). if b then 1 else 0) spreads.0 in
      last_held (omega (arith, one)) (rw is (omega arith))

  blamed : (d : Decider) (w : Work) (why : Why) → reaction book old t ≡ blames why → Stays old w → Steps d w (Blames why)
  blamed Stop w why is same = turn_by Stop (blames why) (item.Failed (record { stage = node; nth = n + 1; why = why }) ∷ []) shut is (refl, refl) tt
  blamed Resume w why is same = rw same.0 (turn_by Resume (blames why) [] (owing (record { gave = []; state = going (stage Resume old (n + 1)) })) is (refl, refl) (none_held Resume (going (stage Resume old (n + 1)))))
  blamed Restart w why is same =
      rw same.0 (turn_by Restart (blames why) [] (owing (record { gave = []; state = going (stage Restart old (n + 1)) })) is (rw (same.1.0, same.1.1) (refl, refl)) (none_held Restart (going (stage Restart old (n + 1)))))

  step_by : (d : Decider) (w : Work) (o : LinearReaction) → ReactedBy book old t w o → Steps d w o
  step_by d w (Gives u) r = turn_by d (gives (u ∷ []) w) (item.Elem u ∷ []) (owing (record { gave = []; state = going (stage d w (n + 1)) })) r.0 (refl, refl) (none_held d (going (stage d w (n + 1))))
  step_by d w (GivesAll []) r = turn_by d (gives [] w) [] (owing (record { gave = []; state = going (stage d w (n + 1)) })) r.0 (refl, refl) (none_held d (going (stage d w (n + 1))))
  step_by d w (GivesAll (u ∷ us)) r =
      turn_by d (gives (u ∷ us) w) (item.Elem u ∷ []) (owing (record { gave = us; state = going (stage d w (n + 1)) })) r.0 (refl, refl) (spread_held d w u us r.0 r.1.0 r.1.1)
  step_by d w Skips r = turn_by d (gives [] w) [] (owing (record { gave = []; state = going (stage d w (n + 1)) })) r.0 (refl, refl) (none_held d (going (stage d w (n + 1))))
  step_by d w (EndsWith u) r = turn_by d (ends (u ∷ [])) (item.Elem u ∷ item.Ended ∷ []) shut r.0 (refl, refl) tt
  step_by d w (EndsWithAll []) r = turn_by d (ends []) (item.Ended ∷ []) shut r.0 (refl, refl) tt
  step_by d w (EndsWithAll (u ∷ [])) r = turn_by d (ends (u ∷ [])) (item.Elem u ∷ item.Ended ∷ []) shut r.0 (refl, refl) tt
  step_by d w (EndsWithAll (u ∷ v ∷ us)) r = turn_by d (ends (u ∷ v ∷ us)) (item.Elem u ∷ []) (owing (record { gave = v ∷ us; state = done })) r.0 (refl, refl) (leaving_held d u (v ∷ us) r.0 r.1.1.0)
  step_by d w Ends r = turn_by d (ends []) (item.Ended ∷ []) shut r.0 (refl, refl) tt
  step_by d w (Blames why) r = blamed d w why r.0 r.1
  step_by d w (Fails why) r = turn_by d (breaks why) (item.Failed (record { stage = node; nth = n + 1; why = why }) ∷ []) shut r.0 (refl, refl) tt

  same_by : (d : Decider) (w : Work) (o : LinearReaction) → ReactedBy book old t w o → SameMachine old (answered (logic rdy d w) (n + 1) o).stage.work
  same_by d w (Gives u) r = r.1.1
  same_by d w (GivesAll []) r = r.1.0.1
  same_by d w (GivesAll (u ∷ us)) r = r.1.0.1
  same_by d w Skips r = r.1.1
  same_by d w (EndsWith u) r = r.1
  same_by d w (EndsWithAll []) r = r.1.0
  same_by d w (EndsWithAll (u ∷ [])) r = r.1.0
  same_by d w (EndsWithAll (u ∷ v ∷ us)) r = r.1.0
  same_by d w Ends r = r.1
  same_by Stop w (Blames why) r = λ b. rw r.1.0 refl
  same_by Resume w (Blames why) r = λ b. rw r.1.0 refl
  same_by Restart w (Blames why) r = λ b. rw r.1.0 refl
  same_by d w (Fails why) r = r.1

  started_by : (d : Decider) (w : Work) (o : LinearReaction) → (answered (logic rdy d w) (n + 1) o).phase ≡ New → ⊥
  started_by d w (Gives u) e = cc
  started_by d w (GivesAll []) e = cc
  started_by d w (GivesAll (u ∷ us)) e = cc
  started_by d w Skips e = cc
  started_by d w (EndsWith u) e = cc
  started_by d w (EndsWithAll []) e = cc
  started_by d w (EndsWithAll (u ∷ [])) e = cc
  started_by d w (EndsWithAll (u ∷ v ∷ us)) e = cc
  started_by d w Ends e = cc
  started_by Stop w (Blames why) e = cc
  started_by Resume w (Blames why) e = cc
  started_by Restart w (Blames why) e = cc
  started_by d w (Fails why) e = cc

  stands_by : (d : Decider) (w : Work) (o : LinearReaction) → PullsStand (answer_acts (logic rdy d w) (n + 1) o)
  stands_by d w (Gives u) = tt
  stands_by d w (GivesAll []) = (tt, tt)
  stands_by d w (GivesAll (u ∷ us)) = tt
  stands_by d w Skips = (tt, tt)
  stands_by d w (EndsWith u) = tt
  stands_by d w (EndsWithAll []) = tt
  stands_by d w (EndsWithAll (u ∷ [])) = tt
  stands_by d w (EndsWithAll (u ∷ v ∷ us)) = tt
  stands_by d w Ends = tt
  stands_by Stop w (Blames why) = tt
  stands_by Resume w (Blames why) = (tt, tt)
  stands_by Restart w (Blames why) = (tt, tt)
  stands_by d w (Fails why) = tt

  pushed_at : (old_rdy : Bool) (d : Decider) (w : Work) (o : LinearReaction) → ReactedBy book old t w o → Turned book (arrives 0 (item.Elem t)) (logic old_rdy d old) (answer_acts (logic rdy d w) (n + 1) o) (answered (logic rdy d w) (n + 1) o)
  pushed_at old_rdy d w o r = record { turn = step_by d w o r; same = same_by d w o r; stands = stands_by d w o; started = started_by d w o }

-- an element that came to this outcome
pub pushed : (book : Book) (l : Logic) (w : Work) (b : Bool) (t : Tree) (k : ℕ) (o : LinearReaction) → l.phase ≡ Open → Waits l → k ≡ l.stage.taken + 1 → ReactedBy book l.stage.work t w o → Turned book (arrives 0 (item.Elem t)) l (answer_acts (working l w b) k o) (answered (working l w b) k o)
pushed book l w b t k o h q e r =
    rw e (subst (λ (x : Logic). Turned book (arrives 0 (item.Elem t)) x (answer_acts (working x w b) (l.stage.taken + 1) o) (answered (working x w b) (l.stage.taken + 1) o)) (sym (of_logic l course.Waits [] h q.on q.none)) (pushed_at book t l.stage.node l.stage.taken l.stage.work b l.ready l.stage.decider w o r))

pub came_turned : (book : Book) (l new : Logic) (acts : List Act) (t : Tree) (k : ℕ) → l.phase ≡ Open → Waits l → k ≡ l.stage.taken + 1 → CameTo book l k t acts new → Turned book (arrives 0 (item.Elem t)) l acts new
came_turned book l new acts t k h q e r = rw (r.acted, r.stands) (pushed book l r.work r.ready t k r.outcome h q e r.reacted)

-- ---- what is known at once

pub said_of : (book : Book) (l : Logic) (w : Work) (b : Bool) (t : Tree) (x : Option AtOnce) → b ≡ true → IfSome x (λ s. ReactedBy book l.stage.work t w (outcome_of s t)) → IfSome x (λ s. Said book l t (outcome_of s t) (working l w b))
said_of book l w b t None h r = tt
said_of book l w b t (Some s) h r = record { work = w; ready = b; reacted = r; stays = stays_on b (outcome_of s t) h; stands = refl }

pub came_said : (book : Book) (l mid new : Logic) (acts : List Act) (t : Tree) (k : ℕ) (o : LinearReaction) → Said book l t o mid → new ≡ answered mid k o → acts ≡ answer_acts mid k o → CameTo book l k t acts new
came_said book l mid new acts t k o s p q = record {
  work = s.work;
  ready = s.ready;
  outcome = o;
  reacted = s.reacted;
  stays = s.stays;
  stands = p ∙ ap (λ (m : Logic). answered m k o) s.stands;
  acted = q ∙ ap (λ (m : Logic). answer_acts m k o) s.stands;
}
