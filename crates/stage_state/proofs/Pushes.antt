-- An element that came to an outcome is one step of the machine of a stage that keeps.
use Rattle.std.proofs.Common.{◌≡◌, ℕ, ◌+◌, Bool, true, false, List, [], ◌∷◌, refl, sym, ap, ◌∙◌, subst, Option, None}
use Rattle.elem_core.specs.Tree.{Tree}
use Rattle.elem_core.specs.declared.item.Item.{Item}
use Rattle.elem_core.specs.declared.item.Item.TheVariants as item
use Rattle.elem_core.specs.declared.why.Decider.{Decider}
use Rattle.port_core.specs.Call.{arrives, Meets, given_on}
use Rattle.port_core.specs.View.{OneOneOf, in_at}
use Rattle.port_core.specs.declared.view.InView.{InView}
use Rattle.port_core.specs.declared.view.InView.TheVariants.{Idle, Pulled, Finished, Cancelled}
use Rattle.port_core.specs.declared.view.OutView.{OutView}
use Rattle.port_core.specs.declared.view.OutView.TheVariants as outlet
use Rattle.stream_model.specs.Machine.{going, broken, Run}
use Rattle.stream_model.specs.Linear.{Book, Stage, Work, step, linear}
use Rattle.stage_core.specs.Held.{Held, owing, shut}
use Rattle.stage_core.specs.Turn.{Emits, FewIn, TurnAt}
use Rattle.stage_core.proofs.Lagging.{few_nothing}
use Rattle.stage_core.specs.declared.phase.Phase.{Phase}
use Rattle.stage_core.specs.declared.phase.Phase.TheVariants.{Open}
use Rattle.step_work.specs.declared.ending.StateEnd.{StateEnd}
use Rattle.step_work.specs.declared.ending.StateEnd.TheVariants.{Lasting, Ended, Failed}
use Rattle.step_work.specs.declared.keeping.StateReaction.{StateReaction}
use Rattle.step_work.specs.declared.keeping.StateReaction.TheVariants.{Gives, Asks, Fails}
use Rattle.step_work.specs.Keeping.{stage_of, Reacted}
use Rattle.stage_state.specs.Outcomes.{working, answered, answer_acts}
use Rattle.stage_state.specs.States.{Logic, held, keep_port_state, port_state_by, port_state, Turned}

-- ---- where an element may come, the stage waits and owes nothing

pub record Waits (l : Logic) : Type 0 where
  pub none : l.pending ≡ []
  pub asked : l.asked ≡ true
  pub lasts : l.ending ≡ Lasting

waits_at : (l : Logic) (e : StateEnd) (a : Bool) (w : Work) (x : InView) (y : OutView) → x ≡ Pulled → l.ending ≡ e → l.asked ≡ a → keep_port_state Open e a l.pending w x y → Waits l
waits_at l Lasting true w Pulled outlet.Available i j k h = record { none = h.0; asked = k; lasts = j }
waits_at l Lasting true w Pulled outlet.Unpulled i j k h = absurd h
waits_at l Lasting true w Pulled outlet.Closed i j k h = absurd h
waits_at l Lasting true w Pulled outlet.Cancelled i j k h = absurd h
waits_at l Lasting false w Pulled y i j k h = absurd h
waits_at l Ended true w Pulled y i j k h = absurd h
waits_at l Ended false w Pulled y i j k h = absurd h
waits_at l (Failed c) true w Pulled y i j k h = absurd h
waits_at l (Failed c) false w Pulled y i j k h = absurd h
waits_at l e a w Idle y i j k h = cc
waits_at l e a w Finished y i j k h = cc
waits_at l e a w Cancelled y i j k h = cc

waits_in : (l : Logic) (xs : List InView) (ys : List OutView) → in_at (record { ins = xs; outs = ys }) 0 ≡ Pulled → OneOneOf (keep_port_state Open l.ending l.asked l.pending l.stage.work) xs ys → Waits l
waits_in l (x ∷ []) (y ∷ []) w h = waits_at l l.ending l.asked l.stage.work x y w refl refl h
waits_in l [] ys w h = absurd h
waits_in l (x ∷ []) [] w h = absurd h
waits_in l (x ∷ []) (y ∷ z ∷ ys) w h = absurd h
waits_in l (x ∷ u ∷ xs) ys w h = absurd h

pub waits : (l : Logic) (t : Tree) → l.phase ≡ Open → l.size ≡ None → Meets (arrives 0 (item.Elem t)) (port_state l) → Waits l
waits l t on no_size m =
    waits_in l m.0.ins m.0.outs m.1.0
    (subst (λ p. OneOneOf (keep_port_state p l.ending l.asked l.pending l.stage.work) m.0.ins m.0.outs) on
    (subst (λ n. OneOneOf (port_state_by n l.phase l.ending l.asked l.pending l.stage.work) m.0.ins m.0.outs) no_size m.1.1))

-- ---- one step of the machine

module _ (t : Tree) (node n : ℕ) (d : Decider) (old w : Work) where
  abbrev logic : Work → Logic
  logic k = record { phase = Open; stage = stage_of node d n k; pending = []; asked = true; ending = Lasting; size = None }

  abbrev before : Run Stage Tree
  before = record { gave = []; state = going (stage_of node d n old) }

  turn_by : (book : Book) (r : Run Stage Tree) (out : List Item) (new : Held Stage) → step book (stage_of node d n old) t ≡ r → Emits (linear book old) r out new → FewIn (linear book old) before t new
      → TurnAt (linear book old) 0 (arrives 0 (item.Elem t)) (owing before) out new
  turn_by book r out new is e f = rw is (e, f)

  none_held : (book : Book) → FewIn (linear book old) before t (owing (record { gave = []; state = going (stage_of node d (n + 1) w) }))
  none_held book = few_nothing (linear book old) before t (record { gave = []; state = going (stage_of node d (n + 1) w) }) refl refl

  step_by : (book : Book) (o : StateReaction) → Reacted d old t w o → TurnAt (linear book old) 0 (arrives 0 (item.Elem t)) (owing before) (given_on 0 (answer_acts (logic w) (n + 1) o)) (held (answered (logic w) (n + 1) o))
  step_by book (Gives u) r =
      turn_by book (record { gave = u ∷ []; state = going (stage_of node d (n + 1) w) }) (item.Elem u ∷ []) (owing (record { gave = []; state = going (stage_of node d (n + 1) w) })) (r.0 book node n) (refl, refl) (none_held book)
  step_by book Asks r =
      turn_by book (record { gave = []; state = going (stage_of node d (n + 1) w) }) [] (owing (record { gave = []; state = going (stage_of node d (n + 1) w) })) (r.0 book node n) (refl, refl) (none_held book)
  step_by book (Fails why) r =
      turn_by book (record { gave = []; state = broken (record { stage = node; nth = n + 1; why = why }) }) (item.Failed (record { stage = node; nth = n + 1; why = why }) ∷ []) shut (r.0 book node n) (refl, refl) tt

  pushed_at : (o : StateReaction) → Reacted d old t w o → Turned (arrives 0 (item.Elem t)) (logic old) (answer_acts (logic w) (n + 1) o) (answered (logic w) (n + 1) o)
  pushed_at (Gives u) r = record { turn = λ book. step_by book (Gives u) r; same = r.1.0; size = refl; stands = tt; started = λ e. cc }
  pushed_at Asks r = record { turn = λ book. step_by book Asks r; same = r.1.0; size = refl; stands = (tt, tt); started = λ e. cc }
  pushed_at (Fails why) r = record { turn = λ book. step_by book (Fails why) r; same = r.1.0; size = refl; stands = tt; started = λ e. cc }

abbrev of_parts : Phase → Stage → List Tree → Bool → StateEnd → Option ℕ → Logic
of_parts p s k a e n = record { phase = p; stage = s; pending = k; asked = a; ending = e; size = n }

-- an element that came to this outcome
pub pushed : (l : Logic) (w : Work) (t : Tree) (k : ℕ) (o : StateReaction) → l.phase ≡ Open → l.size ≡ None → Waits l → k ≡ l.stage.taken + 1 → Reacted l.stage.decider l.stage.work t w o
    → Turned (arrives 0 (item.Elem t)) l (answer_acts (working l w) k o) (answered (working l w) k o)
pushed l w t k o on no_size q e r =
    let is : l ≡ of_parts Open l.stage [] true Lasting None =
    ap (λ p. of_parts p l.stage l.pending l.asked l.ending l.size) on ∙ ap (λ x. of_parts Open l.stage x l.asked l.ending l.size) q.none ∙ ap (λ a. of_parts Open l.stage [] a l.ending l.size) q.asked
    ∙ ap (λ f. of_parts Open l.stage [] true f l.size) q.lasts ∙ ap (λ n. of_parts Open l.stage [] true Lasting n) no_size in
    rw e (subst (λ (x : Logic). Turned (arrives 0 (item.Elem t)) x (answer_acts (working x w) (l.stage.taken + 1) o) (answered (working x w) (l.stage.taken + 1) o)) (sym is) (pushed_at t l.stage.node l.stage.taken l.stage.decider l.stage.work w o r))
