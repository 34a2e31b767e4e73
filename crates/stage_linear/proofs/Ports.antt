-- The port rules of the calls at which a linear stage gives what it holds, and its last outputs.
use Rattle.std.proofs.Common.{◌≡◌, ℕ, Bool, inl, inr, List, [], ◌∷◌, refl, sym, ◌∙◌, subst, arith}
use Rattle.elem_core.specs.Tree.{Tree}
use Rattle.elem_core.specs.declared.item.Item.TheVariants as item
use Rattle.port_core.specs.Call.{pulls, arrives, seen, Obeys}
use Rattle.port_core.specs.View.{View, OneOneOf, ActsAllowed, acted_all}
use Rattle.port_core.specs.declared.act.Act.TheVariants.{Push}
use Rattle.port_core.specs.declared.view.InView.{InView}
use Rattle.port_core.specs.declared.view.InView.TheVariants.{Idle, Pulled, Finished, Cancelled}
use Rattle.port_core.specs.declared.view.OutView.{OutView}
use Rattle.port_core.specs.declared.view.OutView.TheVariants as outlet
use Rattle.stream_model.specs.Machine.{Finish, adds, refuses}
use Rattle.elem_core.specs.declared.why.Decider.{Decider}
use Rattle.elem_core.specs.declared.why.Decider.TheVariants.{Stop, Resume, Restart}
use Rattle.stream_model.specs.Linear.{Book, Stage, Work, mapping, filtering, taking, taking_while, dropping, dropping_while, passing, limiting, grouping, expanding, folding, scanning, reducing, heading, lasting, numbering, plugged, finish_of}
use Rattle.step_work.specs.declared.task.LinearReaction.{LinearReaction}
use Rattle.step_work.specs.declared.task.LinearReaction.TheVariants.{Gives, GivesAll, Skips, EndsWith, EndsWithAll, Ends, Blames, Fails}
use Rattle.stage_core.specs.declared.phase.Phase.TheVariants.{Open}
use Rattle.stage_linear.specs.declared.course.Course.{Course}
use Rattle.stage_linear.specs.declared.course.Course.TheVariants as course
use Rattle.step_work.specs.Tasks.{HasMore, Spreads, ReactedBy}
use Rattle.stage_linear.specs.Plugs.{StaysOn}
use Rattle.port_core.specs.declared.act.Act.{Act}
use Rattle.stage_linear.specs.Outcomes.{working, answered, answer_acts, CameTo}
use Rattle.stage_linear.specs.Pending.{ended_by, closed_acts, given_on_from, last_acts, StaysReady}
use Rattle.stage_linear.specs.States.{Logic, port_state, port_state_in, MayHold}
use Rattle.stage_linear.proofs.Pushes.{Waits}
use Rattle.stage_linear.proofs.States.{of_parts, readied, of_logic}

abbrev ports : InView → OutView → View
ports x y = record { ins = x ∷ []; outs = y ∷ [] }

-- one that may hold two outputs or more may hold one less
less_held : (w : Work) (e : Tree) (p : List Tree) → MayHold w (e ∷ p) → MayHold w p
less_held w e p (inl h) = cc
less_held w e p (inr h) = inr h

module _ (s : Stage) (b c : Bool) (f : Finish Tree) where
  abbrev GivenAt : Tree → Course → List Tree → InView → OutView → Type 0
  GivenAt e r p x y = ActsAllowed (seen (pulls 0) (ports x y)) (Push 0 e ∷ last_acts (of_parts s r b p) f) × port_state (readied (given_on_from (of_parts s r b p) f) c) (acted_all (seen (pulls 0) (ports x y)) (Push 0 e ∷ last_acts (of_parts s r b p) f))

  abbrev Stays : Course → List Tree → Type 0
  Stays r p = StaysReady (of_parts s r b p) (readied (given_on_from (of_parts s r b p) f) c)

  last_at : (e : Tree) (k : Finish Tree) → k ≡ f → Spreads s.work → GivenAt e course.Closes [] Finished outlet.Unpulled
  last_at e (adds []) is h = rw (sym is) ((refl, (tt, tt)), tt)
  last_at e (adds (u ∷ us)) is h = rw (sym is) ((refl, tt), (omega arith, h))
  last_at e (refuses d) is h = rw (sym is) ((refl, (tt, tt)), tt)

  given_at : (e : Tree) (r : Course) (p : List Tree) (x : InView) (y : OutView) → port_state_in Open r (e ∷ p) s.work b x y → Stays r p → GivenAt e r p x y
  given_at e course.Waits p Pulled outlet.Available h k = cc
  given_at e course.Idles [] Idle outlet.Unpulled h k = ((refl, tt), (inl refl, (h.1.0, k ∙ h.1.1)))
  given_at e course.Idles (u ∷ p) Idle outlet.Unpulled h k = ((refl, tt), (less_held s.work e (u ∷ p) h.0, (h.1.0, k ∙ h.1.1)))
  given_at e course.Leaves [] Idle outlet.Unpulled h k = ((refl, (tt, (tt, tt))), tt)
  given_at e course.Leaves (u ∷ p) Idle outlet.Unpulled h k = ((refl, tt), (omega arith, h.1))
  given_at e course.Closes [] Finished outlet.Unpulled h k = last_at e f refl h.0.1
  given_at e course.Closes (u ∷ p) Finished outlet.Unpulled h k = ((refl, tt), ((omega arith, h.0.1), k ∙ h.1))
  given_at e course.Ends [] Finished outlet.Unpulled h k = ((refl, (tt, tt)), tt)
  given_at e course.Ends (u ∷ p) Finished outlet.Unpulled h k = ((refl, tt), (omega arith, h.1))
  given_at e course.Waits p Pulled outlet.Unpulled h k = absurd h
  given_at e course.Waits p Pulled outlet.Closed h k = absurd h
  given_at e course.Waits p Pulled outlet.Cancelled h k = absurd h
  given_at e course.Waits p Idle y h k = absurd h
  given_at e course.Waits p Finished y h k = absurd h
  given_at e course.Waits p Cancelled y h k = absurd h
  given_at e course.Idles p Idle outlet.Available h k = absurd h
  given_at e course.Idles p Idle outlet.Closed h k = absurd h
  given_at e course.Idles p Idle outlet.Cancelled h k = absurd h
  given_at e course.Idles p Pulled y h k = absurd h
  given_at e course.Idles p Finished y h k = absurd h
  given_at e course.Idles p Cancelled y h k = absurd h
  given_at e course.Leaves p Idle outlet.Available h k = absurd h
  given_at e course.Leaves p Idle outlet.Closed h k = absurd h
  given_at e course.Leaves p Idle outlet.Cancelled h k = absurd h
  given_at e course.Leaves p Pulled y h k = absurd h
  given_at e course.Leaves p Finished y h k = absurd h
  given_at e course.Leaves p Cancelled y h k = absurd h
  given_at e course.Closes p Finished outlet.Available h k = absurd h
  given_at e course.Closes p Finished outlet.Closed h k = absurd h
  given_at e course.Closes p Finished outlet.Cancelled h k = absurd h
  given_at e course.Closes p Idle y h k = absurd h
  given_at e course.Closes p Pulled y h k = absurd h
  given_at e course.Closes p Cancelled y h k = absurd h
  given_at e course.Ends p Finished outlet.Available h k = absurd h
  given_at e course.Ends p Finished outlet.Closed h k = absurd h
  given_at e course.Ends p Finished outlet.Cancelled h k = absurd h
  given_at e course.Ends p Idle y h k = absurd h
  given_at e course.Ends p Pulled y h k = absurd h
  given_at e course.Ends p Cancelled y h k = absurd h

  given_in : (e : Tree) (r : Course) (p : List Tree) (xs : List InView) (ys : List OutView) → OneOneOf (port_state_in Open r (e ∷ p) s.work b) xs ys → Stays r p
      → ActsAllowed (seen (pulls 0) (record { ins = xs; outs = ys })) (Push 0 e ∷ last_acts (of_parts s r b p) f) × port_state (readied (given_on_from (of_parts s r b p) f) c) (acted_all (seen (pulls 0) (record { ins = xs; outs = ys })) (Push 0 e ∷ last_acts (of_parts s r b p) f))
  given_in e r p (x ∷ []) (y ∷ []) h k = given_at e r p x y h k
  given_in e r p [] ys h k = absurd h
  given_in e r p (x ∷ []) [] h k = absurd h
  given_in e r p (x ∷ []) (y ∷ z ∷ ys) h k = absurd h
  given_in e r p (x ∷ w ∷ xs) ys h k = absurd h

  pub given_parts : (e : Tree) (r : Course) (p : List Tree) → Stays r p
      → Obeys (pulls 0) (port_state (of_parts s r b (e ∷ p))) (port_state (readied (given_on_from (of_parts s r b p) f) c)) (Push 0 e ∷ last_acts (of_parts s r b p) f)
  given_parts e r p k = record { allowed = λ v _ h. (given_in e r p v.ins v.outs h k).0; ports = λ v _ h. (given_in e r p v.ins v.outs h k).1 }

-- the first of what is held goes out
pub given_obeys : (old l : Logic) (e : Tree) (c : Bool) (f : Finish Tree) → l.phase ≡ Open → old ≡ record l { pending = e ∷ l.pending } → StaysReady l (readied (given_on_from l f) c)
    → Obeys (pulls 0) (port_state old) (port_state (readied (given_on_from l f) c)) (Push 0 e ∷ last_acts l f)
given_obeys old l e c f h is k =
    let l_is : l ≡ of_parts l.stage l.course l.ready l.pending = of_logic l l.course l.pending h refl refl in
    let stays = subst (λ (x : Logic). StaysReady x (readied (given_on_from x f) c)) l_is k in
    let at : Obeys (pulls 0) (port_state (record l { pending = e ∷ l.pending })) (port_state (readied (given_on_from l f) c)) (Push 0 e ∷ last_acts l f) =
    subst (λ (x : Logic). Obeys (pulls 0) (port_state (record x { pending = e ∷ x.pending })) (port_state (readied (given_on_from x f) c)) (Push 0 e ∷ last_acts x f)) (sym l_is) (given_parts l.stage l.ready c f e l.course l.pending stays) in
    subst (λ (x : Logic). Obeys (pulls 0) (port_state x) (port_state (readied (given_on_from l f) c)) (Push 0 e ∷ last_acts l f)) (sym is) at

-- ---- one more element

module _ (book : Book) (node n k : ℕ) (old w : Work) (b c : Bool) (t : Tree) (more : HasMore old) where
  abbrev with_decider : Decider → Stage
  with_decider d = record { node = node; decider = d; taken = n; work = old }

  abbrev then : Decider → Logic
  then d = working (of_parts (with_decider d) course.Waits b []) w c

  abbrev PushedAt : Decider → LinearReaction → Type 0
  PushedAt d o = ActsAllowed (seen (arrives 0 (item.Elem t)) (ports Pulled outlet.Available)) (answer_acts (then d) k o) × port_state (answered (then d) k o) (acted_all (seen (arrives 0 (item.Elem t)) (ports Pulled outlet.Available)) (answer_acts (then d) k o))

  pushed_at : (d : Decider) (o : LinearReaction) → ReactedBy book old t w o → StaysOn c o → PushedAt d o
  pushed_at d (Gives u) r s = ((refl, tt), (inl refl, (r.1.0, s)))
  pushed_at d (GivesAll []) r s = ((refl, tt), (refl, (r.1.0.0, s)))
  pushed_at d (GivesAll (u ∷ us)) r s = ((refl, tt), (inr r.1.1, (r.1.0.0, s)))
  pushed_at d Skips r s = ((refl, tt), (refl, (r.1.0, s)))
  pushed_at d (EndsWith u) r s = ((refl, (tt, (tt, tt))), tt)
  pushed_at d (EndsWithAll []) r s = ((tt, (tt, tt)), tt)
  pushed_at d (EndsWithAll (u ∷ [])) r s = ((refl, (tt, (tt, tt))), tt)
  pushed_at d (EndsWithAll (u ∷ v ∷ us)) r s = ((refl, tt), (omega arith, r.1.1.1))
  pushed_at d Ends r s = ((tt, (tt, tt)), tt)
  pushed_at Stop (Blames why) r s = ((tt, (tt, tt)), tt)
  pushed_at Resume (Blames why) r s = ((refl, tt), (refl, (rw r.1.0 more, s)))
  pushed_at Restart (Blames why) r s = ((refl, tt), (refl, (rw r.1.0 more, s)))
  pushed_at d (Fails why) r s = ((tt, (tt, tt)), tt)

  pushed_ports : (d : Decider) (o : LinearReaction) (x : InView) (y : OutView) → ReactedBy book old t w o → StaysOn c o → port_state_in Open course.Waits [] old b x y
      → ActsAllowed (seen (arrives 0 (item.Elem t)) (ports x y)) (answer_acts (then d) k o) × port_state (answered (then d) k o) (acted_all (seen (arrives 0 (item.Elem t)) (ports x y)) (answer_acts (then d) k o))
  pushed_ports d o Pulled outlet.Available r s h = pushed_at d o r s
  pushed_ports d o Pulled outlet.Unpulled r s h = absurd h
  pushed_ports d o Pulled outlet.Closed r s h = absurd h
  pushed_ports d o Pulled outlet.Cancelled r s h = absurd h
  pushed_ports d o Idle y r s h = absurd h
  pushed_ports d o Finished y r s h = absurd h
  pushed_ports d o Cancelled y r s h = absurd h

  pushed_in : (d : Decider) (o : LinearReaction) (xs : List InView) (ys : List OutView) → ReactedBy book old t w o → StaysOn c o → OneOneOf (port_state_in Open course.Waits [] old b) xs ys
      → ActsAllowed (seen (arrives 0 (item.Elem t)) (record { ins = xs; outs = ys })) (answer_acts (then d) k o) × port_state (answered (then d) k o) (acted_all (seen (arrives 0 (item.Elem t)) (record { ins = xs; outs = ys })) (answer_acts (then d) k o))
  pushed_in d o (x ∷ []) (y ∷ []) r s h = pushed_ports d o x y r s h
  pushed_in d o [] ys r s h = absurd h
  pushed_in d o (x ∷ []) [] r s h = absurd h
  pushed_in d o (x ∷ []) (y ∷ z ∷ ys) r s h = absurd h
  pushed_in d o (x ∷ u ∷ xs) ys r s h = absurd h

  pub pushed_parts : (d : Decider) (o : LinearReaction) → ReactedBy book old t w o → StaysOn c o → Obeys (arrives 0 (item.Elem t)) (port_state (of_parts (with_decider d) course.Waits b [])) (port_state (answered (then d) k o)) (answer_acts (then d) k o)
  pushed_parts d o r s = record { allowed = λ v _ h. (pushed_in d o v.ins v.outs r s h).0; ports = λ v _ h. (pushed_in d o v.ins v.outs r s h).1 }

pub pushed_obeys : (book : Book) (l : Logic) (w : Work) (c : Bool) (t : Tree) (k : ℕ) (o : LinearReaction) → l.phase ≡ Open → Waits l → ReactedBy book l.stage.work t w o → StaysOn c o
    → Obeys (arrives 0 (item.Elem t)) (port_state l) (port_state (answered (working l w c) k o)) (answer_acts (working l w c) k o)
pushed_obeys book l w c t k o h q r s =
    subst (λ (x : Logic). Obeys (arrives 0 (item.Elem t)) (port_state x) (port_state (answered (working x w c) k o)) (answer_acts (working x w c) k o)) (sym (of_logic l course.Waits [] h q.on q.none))
    (pushed_parts book l.stage.node l.stage.taken k l.stage.work w l.ready c t q.more l.stage.decider o r s)

pub came_obeys : (book : Book) (l new : Logic) (acts : List Act) (t : Tree) (k : ℕ) → l.phase ≡ Open → Waits l → CameTo book l k t acts new → Obeys (arrives 0 (item.Elem t)) (port_state l) (port_state new) acts
came_obeys book l new acts t k h q r = rw (r.acted, r.stands) (pushed_obeys book l r.work r.ready t k r.outcome h q r.reacted r.stays)

-- ---- the end of the input, where nothing is held

-- where its end adds something, it may hold that
ends_spread : (book : Book) (s : Stage) (w : Work) (u : Tree) (us : List Tree) → HasMore w → finish_of book s w ≡ adds (u ∷ us) → Spreads w
ends_spread book s (mapping f) u us h e = cc
ends_spread book s (filtering p b) u us h e = cc
ends_spread book s (taking n) u us h e = cc
ends_spread book s (taking_while p) u us h e = cc
ends_spread book s (dropping n) u us h e = cc
ends_spread book s (dropping_while p) u us h e = cc
ends_spread book s passing u us h e = cc
ends_spread book s (limiting n) u us h e = cc
ends_spread book s (grouping n k) u us h e = absurd h
ends_spread book s (expanding x) u us h e = cc
ends_spread book s (folding o a) u us h e = absurd h
ends_spread book s (scanning o a) u us h e = absurd h
ends_spread book s (reducing r a) u us h e = absurd h
ends_spread book s heading u us h e = absurd h
ends_spread book s (lasting a) u us h e = absurd h
ends_spread book s (numbering n f i) u us h e = absurd h
ends_spread book s (plugged name taken) u us h e = (refl, refl)

module _ (book : Book) (s : Stage) (b c : Bool) where
  abbrev EndedAt : Course → Finish Tree → InView → OutView → Type 0
  EndedAt r f x y = ActsAllowed (seen (arrives 0 item.Ended) (ports x y)) (closed_acts (of_parts s r b []) f) × port_state (readied (ended_by (of_parts s r b []) f) c) (acted_all (seen (arrives 0 item.Ended) (ports x y)) (closed_acts (of_parts s r b []) f))

  asked_at : (f : Finish Tree) → finish_of book s s.work ≡ f → HasMore s.work → EndedAt course.Waits f Pulled outlet.Available
  asked_at (adds []) is h = ((tt, tt), tt)
  asked_at (adds (u ∷ [])) is h = ((refl, (tt, tt)), tt)
  asked_at (adds (u ∷ v ∷ us)) is h = ((refl, tt), (omega arith, ends_spread book s s.work u (v ∷ us) h is))
  asked_at (refuses d) is h = ((tt, tt), tt)

  idle_at : (f : Finish Tree) → finish_of book s s.work ≡ f → HasMore s.work → EndedAt course.Idles f Idle outlet.Unpulled
  idle_at (adds []) is h = ((tt, tt), tt)
  idle_at (adds (u ∷ us)) is h = (tt, (omega arith, ends_spread book s s.work u us h is))
  idle_at (refuses d) is h = ((tt, tt), tt)

  abbrev last : Finish Tree
  last = finish_of book s s.work

  ended_ports : (r : Course) (x : InView) (y : OutView) → port_state_in Open r [] s.work b x y → EndedAt r last x y
  ended_ports course.Waits Pulled outlet.Available h = asked_at last refl h.1.0
  ended_ports course.Idles Idle outlet.Unpulled h = idle_at last refl h.1.0
  ended_ports course.Leaves Idle outlet.Unpulled h = absurd (omega (arith, h.0))
  ended_ports course.Closes Finished outlet.Unpulled h = absurd (omega (arith, h.0.0))
  ended_ports course.Ends Finished outlet.Unpulled h = absurd (omega (arith, h.0))
  ended_ports course.Waits Pulled outlet.Unpulled h = absurd h
  ended_ports course.Waits Pulled outlet.Closed h = absurd h
  ended_ports course.Waits Pulled outlet.Cancelled h = absurd h
  ended_ports course.Waits Idle y h = absurd h
  ended_ports course.Waits Finished y h = absurd h
  ended_ports course.Waits Cancelled y h = absurd h
  ended_ports course.Idles Idle outlet.Available h = absurd h
  ended_ports course.Idles Idle outlet.Closed h = absurd h
  ended_ports course.Idles Idle outlet.Cancelled h = absurd h
  ended_ports course.Idles Pulled y h = absurd h
  ended_ports course.Idles Finished y h = absurd h
  ended_ports course.Idles Cancelled y h = absurd h
  ended_ports course.Leaves Idle outlet.Available h = absurd h
  ended_ports course.Leaves Idle outlet.Closed h = absurd h
  ended_ports course.Leaves Idle outlet.Cancelled h = absurd h
  ended_ports course.Leaves Pulled y h = absurd h
  ended_ports course.Leaves Finished y h = absurd h
  ended_ports course.Leaves Cancelled y h = absurd h
  ended_ports course.Closes Finished outlet.Available h = absurd h
  ended_ports course.Closes Finished outlet.Closed h = absurd h
  ended_ports course.Closes Finished outlet.Cancelled h = absurd h
  ended_ports course.Closes Idle y h = absurd h
  ended_ports course.Closes Pulled y h = absurd h
  ended_ports course.Closes Cancelled y h = absurd h
  ended_ports course.Ends Finished outlet.Available h = absurd h
  ended_ports course.Ends Finished outlet.Closed h = absurd h
  ended_ports course.Ends Finished outlet.Cancelled h = absurd h
  ended_ports course.Ends Idle y h = absurd h
  ended_ports course.Ends Pulled y h = absurd h
  ended_ports course.Ends Cancelled y h = absurd h

  ended_in : (r : Course) (xs : List InView) (ys : List OutView) → OneOneOf (port_state_in Open r [] s.work b) xs ys
      → ActsAllowed (seen (arrives 0 item.Ended) (record { ins = xs; outs = ys })) (closed_acts (of_parts s r b []) last) × port_state (readied (ended_by (of_parts s r b []) last) c) (acted_all (seen (arrives 0 item.Ended) (record { ins = xs; outs = ys })) (closed_acts (of_parts s r b []) last))
  ended_in r (x ∷ []) (y ∷ []) h = ended_ports r x y h
  ended_in r [] ys h = absurd h
  ended_in r (x ∷ []) [] h = absurd h
  ended_in r (x ∷ []) (y ∷ z ∷ ys) h = absurd h
  ended_in r (x ∷ w ∷ xs) ys h = absurd h

  pub ended_parts : (r : Course) → Obeys (arrives 0 item.Ended) (port_state (of_parts s r b [])) (port_state (readied (ended_by (of_parts s r b []) last) c)) (closed_acts (of_parts s r b []) last)
  ended_parts r = record { allowed = λ v _ h. (ended_in r v.ins v.outs h).0; ports = λ v _ h. (ended_in r v.ins v.outs h).1 }

pub ended_obeys : (book : Book) (l : Logic) (c : Bool) → l.phase ≡ Open → l.pending ≡ []
    → Obeys (arrives 0 item.Ended) (port_state l) (port_state (readied (ended_by l (finish_of book l.stage l.stage.work)) c)) (closed_acts l (finish_of book l.stage l.stage.work))
ended_obeys book l c h none =
    subst (λ (x : Logic). Obeys (arrives 0 item.Ended) (port_state x) (port_state (readied (ended_by x (finish_of book x.stage x.stage.work)) c)) (closed_acts x (finish_of book x.stage x.stage.work))) (sym (of_logic l l.course [] h refl none))
    (ended_parts book l.stage l.ready c l.course)
