-- The steps of a buffer that drops: what waits is taken in, what is held is given, and how a call ends.
use Rattle.std.proofs.Common.{◌≡◌, ℕ, zero, suc, ◌+◌, Bool, true, false, List, [], ◌∷◌, ◌++◌, Option, Some, None, refl, sym, ap, subst, ◌∙◌, is_some, arith, ltb}
use Rattle.std.proofs.lemmas.Bool.{and_parts, ltb-true}
use Rattle.std.specs.Prelude.{◌&&◌}
use Rattle.elem_core.specs.Tree.{Tree}
use Rattle.port_core.specs.Picks.{Picks, MayNote, next_move, behind_next, logged}
use Rattle.port_core.specs.declared.act.Act.{Act}
use Rattle.port_core.specs.declared.act.Act.TheVariants.{Push}
use Rattle.stream_model.specs.Picks.{all_below}
use Rattle.stage_core.specs.declared.phase.Phase.TheVariants.{Open, Closed}
use Rattle.stage_dropping.specs.Droppings.{Dropping, may_take, may_give, NamesMoves, TakesIn, takes, overflows, leaves, Giving, gives, DropNoted, fit, unfit, Took, stuck_now, lost, wants_input, pulled_on, asks_by, IsOver, Settling, stops, rests}
use Rattle.stage_dropping.specs.declared.dropping.Over.TheVariants as ends
use Rattle.stream_model.specs.Outlook.{End}

-- a move that gives is 1
pub gives_one : (left : Option (List ℕ)) → NamesMoves left → may_give (next_move left) ≡ true → MayNote 1 left
gives_one None n m = tt
gives_one (Some []) n m = cc
gives_one (Some (zero ∷ l)) n m = cc
gives_one (Some (suc zero ∷ l)) n m = refl
gives_one (Some (suc (suc k) ∷ l)) n m = absurd (let q = ltb-true (suc (suc k)) 2 (and_parts (ltb (suc (suc k)) 2) (all_below 2 l) n).0 in omega (arith, q))

-- and those behind the next name moves too
below_rest : (b c : Bool) → (b && c) ≡ true → c ≡ true
below_rest true c h = h
below_rest false c h = cc

pub named_rest : (left : Option (List ℕ)) → NamesMoves left → NamesMoves (behind_next left)
named_rest None n = tt
named_rest (Some []) n = refl
named_rest (Some (m ∷ l)) n = below_rest _ _ n

pub named_after : (old new : Dropping) (before acts : List Act) → NamesMoves old.log.left → TakesIn old new before acts → NamesMoves new.log.left
named_after old new before acts n (takes t items o w m c s e a) = subst (λ (l : Dropping). NamesMoves l.log.left) (sym e) (named_rest old.log.left n)
named_after old new before acts n (overflows t o w m c e a) = subst (λ (l : Dropping). NamesMoves l.log.left) (sym e) (named_rest old.log.left n)
named_after old new before acts n (leaves f e a) = subst (λ (l : Dropping). NamesMoves l.log.left) (sym e) n

-- the first that is held is given
pub giving : (old v : Dropping) (t : Tree) (log : Picks) (before acts : List Act) → old ≡ record v { held = t ∷ v.held } → log ≡ logged 1 v.log → old.phase ≡ Open → old.asked ≡ true → may_give (next_move old.log.left) ≡ true → acts ≡ before ++ Push 0 t ∷ []
    → Giving old (record v { asked = false; log = log }) before acts
giving old v t log before acts e noted_is p a m given = subst (λ (o : Dropping). o.phase ≡ Open → o.asked ≡ true → may_give (next_move o.log.left) ≡ true → Giving o (record v { asked = false; log = log }) before acts) (sym e)
    (λ x y z. gives t v.held x y z refl (ap (λ (l : Picks). record v { asked = false; log = l }) noted_is) given) p a m

-- what waits was taken in, and that was noted
pub taking : (old mid : Dropping) (t : Tree) (new : Dropping) (before acts : List Act) → old.waiting ≡ Some t → mid ≡ record old { waiting = None } → old.phase ≡ Open → may_take (next_move old.log.left) ≡ true → DropNoted t mid new before acts → TakesIn old new before acts
taking old mid t new before acts w e o m n = by_note (subst (λ (l : Dropping). DropNoted t l new before acts) e n)
  where
    by_note : DropNoted t (record old { waiting = None }) new before acts → TakesIn old new before acts
    by_note (fit items c s is a) = takes t items o w m c s is a
    by_note (unfit c is a) = overflows t o w m c is a

pub noted_fit : (e : Tree) (old mid new : Dropping) (before : List Act) → mid ≡ record old { came = old.came + 1; log = logged 0 old.log } → Took true mid e new → DropNoted e old new before before
noted_fit e old mid new before is t = by_old (subst (λ (l : Dropping). Took true l e new) is t)
  where
    by_old : Took true (record old { came = old.came + 1; log = logged 0 old.log }) e new → DropNoted e old new before before
    by_old t = fit new.held t.0 t.1.1 t.1.0 refl

pub is_none : {X : Type 0} (o : Option X) → (is_some o ≡ true → ⊥) → o ≡ None
is_none None f = refl
is_none (Some x) f = absurd (f refl)

pub none_waits : (old new : Dropping) (before acts : List Act) → old.phase ≡ Open → may_take (next_move old.log.left) ≡ true → TakesIn old new before acts → new.phase ≡ Open → new.waiting ≡ None
none_waits old new before acts o m (takes t items a w b c s e x) p = ap (λ (l : Dropping). l.waiting) e
none_waits old new before acts o m (overflows t a w b c e x) p = let z : Closed ≡ Open = sym (ap (λ (l : Dropping). l.phase) e) ∙ p in cc
none_waits old new before acts o m (leaves f e x) p = ap (λ (l : Dropping). l.waiting) e ∙ f o m

-- ---- as the handlers know it

pub taking_from : (v old : Dropping) (w : Option Tree) (t : Tree) (new : Dropping) (before acts : List Act) → v ≡ old → w ≡ None → v.waiting ≡ Some t → old.phase ≡ Open → may_take (next_move old.log.left) ≡ true → DropNoted t (record v { waiting = w }) new before acts
    → TakesIn old new before acts
taking_from v old w t new before acts e none some o m n =
    taking old (record v { waiting = w }) t new before acts (ap (λ (l : Dropping). l.waiting) (sym e) ∙ some) (ap (λ (x : Option Tree). record v { waiting = x }) none ∙ ap (λ (l : Dropping). record l { waiting = None }) e) o m n

pub held_first : (old mid v : Dropping) (t : Tree) → old ≡ record mid { held = t ∷ mid.held } → v ≡ mid → old ≡ record v { held = t ∷ v.held }
held_first old mid v t e f = e ∙ ap (λ (l : Dropping). record l { held = t ∷ l.held }) (sym f)

pub may_note : (old mid v : Dropping) (t : Tree) → old ≡ record mid { held = t ∷ mid.held } → v ≡ mid → NamesMoves old.log.left → may_give (next_move old.log.left) ≡ true → MayNote 1 v.log.left
may_note old mid v t e f n m = subst (λ (l : Dropping). MayNote 1 l.log.left) (held_first old mid v t e f) (gives_one old.log.left n m)

pub giving_from : (old mid v : Dropping) (t : Tree) (log : Picks) (before acts : List Act) → old ≡ record mid { held = t ∷ mid.held } → v ≡ mid → log ≡ logged 1 v.log → old.phase ≡ Open → old.asked ≡ true → may_give (next_move old.log.left) ≡ true
    → acts ≡ before ++ Push 0 t ∷ [] → Giving old (record v { asked = false; log = log }) before acts
giving_from old mid v t log before acts e f n o a m is = giving old v t log before acts (held_first old mid v t e f) n o a m is

pub going_on : (old new : Dropping) (before acts : List Act) → old.phase ≡ Open → IsOver old ends.GoesOn → acts ≡ before ++ asks_by (wants_input old.waiting old.after old.pulled)
    → (lost (next_move old.log.left) old.waiting old.after old.asked old.held ≡ true → new ≡ stuck_now (pulled_on (wants_input old.waiting old.after old.pulled) old))
    → (lost (next_move old.log.left) old.waiting old.after old.asked old.held ≡ false → new ≡ pulled_on (wants_input old.waiting old.after old.pulled) old) → Settling old new before acts
going_on old new before acts o over is halts goes = by_flag (lost (next_move old.log.left) old.waiting old.after old.asked old.held) refl
  where
    by_flag : (b : Bool) → lost (next_move old.log.left) old.waiting old.after old.asked old.held ≡ b → Settling old new before acts
    by_flag true e = stops (wants_input old.waiting old.after old.pulled) o refl e (halts e) is
    by_flag false e = rests (wants_input old.waiting old.after old.pulled) o refl e over (goes e) is

pub settled_from : (v old : Dropping) (a : End) (new : Dropping) (before acts : List Act) → v ≡ old → before ≡ [] → Settling (record v { after = a }) new before acts → Settling (record old { after = a }) new [] acts
settled_from v old a new before acts e b s = subst (λ (l : List Act). Settling (record old { after = a }) new l acts) b (subst (λ (l : Dropping). Settling (record l { after = a }) new before acts) e s)
