-- An element comes to a buffer that drops: it goes through, is taken in, or waits for its move; each serves it as one that waited.
use Rattle.std.specs.Prelude.{◌<◌, ◌≤◌, ◌-◌, ◌^◌, if◌then◌else◌, nat_lt, Option, None, Some}
use Rattle.std.proofs.Common.{◌≡◌, ℕ, ◌+◌, Bool, true, false, List, [], ◌∷◌, ◌++◌, length, refl, sym, ap, ◌∙◌, subst, arith}
use Rattle.std.proofs.lemmas.Bool.Decides.{nat_tests}
use Rattle.elem_core.specs.Tree.{Tree}
use Rattle.elem_core.specs.declared.item.Item.TheVariants as item
use Rattle.elem_core.specs.declared.why.Cause.{Cause}
use Rattle.stream_model.specs.Outlook.{End, unended, ended, failed}
use Rattle.stream_model.specs.declared.kind.Policy.{Policy}
use Rattle.stream_model.specs.declared.kind.Policy.TheVariants.{Backpressure, DropHead, DropTail, DropBuffer, DropNew, Fail}
use Rattle.stream_model.specs.Picks.{comes, nothing_held}
use Rattle.port_core.specs.Picks.{Picks, MayNote, behind_next, next_move, may_end, logged}
use Rattle.port_core.specs.declared.pick_log.Next.TheVariants.{Free}
use Rattle.port_core.specs.declared.act.Act.{Act}
use Rattle.port_core.specs.declared.act.Act.TheVariants.{Pull, Push, FailOut}
use Rattle.port_core.specs.Call.{pulls, arrives, Meets}
use Rattle.stage_core.specs.declared.phase.Phase.TheVariants.{Open}
use Rattle.stage_dropping.specs.Drops.{overflow_of}
use Rattle.stage_dropping.specs.Droppings.{Dropping, may_take, may_give, lost, wants_input, NamesMoves, Rested, port_state, MayEnter, Answered, took, gave_one, cancel_by, TakesIn, takes, leaves, Giving, gives, keeps, Serving, take_first, give_first, Settling, rests, DropNoted, fit, unfit}
use Rattle.stage_dropping.proofs.DropSteps.{named_rest, taking, none_waits}
use Rattle.stage_dropping.proofs.DropActions.{not_both}
use Rattle.stage_dropping.proofs.DropCalls.{Going, Handled, found, asked_so, pushed_so, pulled_going, none_waiting}

-- a log whose next move is free follows nothing
pub free_left : (left : Option (List ℕ)) → next_move left ≡ Free → left ≡ None
free_left None h = refl
free_left (Some []) h = cc
free_left (Some (m ∷ l)) h = cc

pub none_held : (l : List Tree) → nothing_held l ≡ true → l ≡ []
none_held [] h = refl
none_held (t ∷ l) h = cc

-- one that holds nothing has room for an element
fits_empty : (p : Policy) (n : ℕ) (t : Tree) → 0 < n → comes p n [] t ≡ Some (t ∷ [])
fits_empty p n t some = by_policy p (let r : nat_lt 0 n ≡ true = grind (arith, nat_tests, some) in r)
  where
    by_policy : (p : Policy) → nat_lt 0 n ≡ true → comes p n [] t ≡ Some (t ∷ [])
    by_policy DropHead r = ap (λ (b : Bool). Some (if b then t ∷ [] else t ∷ [])) r
    by_policy DropTail r = ap (λ (b : Bool). Some (if b then t ∷ [] else t ∷ [])) r
    by_policy DropBuffer r = ap (λ (b : Bool). Some (if b then t ∷ [] else t ∷ [])) r
    by_policy DropNew r = ap (λ (b : Bool). Some (if b then t ∷ [] else [])) r
    by_policy Fail r = ap (λ (b : Bool). if b then Some (t ∷ []) else None) r
    by_policy Backpressure r = refl

-- ---- an element goes through

abbrev counted : Dropping → Dropping
counted l = record l { came = l.came + 1; log = logged 0 l.log }

pub pass_notes : (old mid v : Dropping) → mid ≡ counted old → v ≡ mid → old.log.left ≡ None → MayNote 1 v.log.left
pass_notes old mid v is same free =
    let e : v.log.left ≡ None = ap (λ (l : Dropping). l.log.left) (same ∙ is) ∙ ap behind_next free in
    subst (λ (l : Option (List ℕ)). MayNote 1 l) (sym e) tt

pub pass_room : (old mid v : Dropping) → mid ≡ counted old → v ≡ mid → 2 ≤ old.log.room → 0 < v.log.room
pass_room old mid v is same room =
    let e : v.log.room ≡ old.log.room - 1 = ap (λ (l : Dropping). l.log.room) (same ∙ is) in
    omega (arith, e, room)

goes_through : (old : Dropping) (t : Tree) → MayEnter old → old.asked ≡ true → old.log.left ≡ None → Serving (record old { waiting = Some t }) (record old { came = old.came + 1; asked = false; log = logged 1 (logged 0 old.log) }) (Push 0 t ∷ [])
goes_through old t m on free =
    let w : Dropping = record old { waiting = Some t } in
    let mid : Dropping = took (t ∷ []) w in
    let empty : old.held ≡ [] = m.gives on (ap (λ (l : Option (List ℕ)). may_give (next_move l)) free) in
    let room : 0 < old.size = m.some in
    let fit : comes old.policy old.size old.held t ≡ Some (t ∷ []) = ap (λ (h : List Tree). comes old.policy old.size h t) empty ∙ fits_empty old.policy old.size t m.some in
    let same : record old { came = old.came + 1; asked = false; log = logged 1 (logged 0 old.log) } ≡ gave_one [] mid =
    ap (λ (o : Option Tree). record old { waiting = o; came = old.came + 1; asked = false; log = logged 1 (logged 0 old.log) }) m.none
    ∙ ap (λ (h : List Tree). record old { waiting = None; held = h; came = old.came + 1; asked = false; log = logged 1 (logged 0 old.log) }) empty in
    take_first mid [] (takes t (t ∷ []) m.phase_is refl (ap (λ (l : Option (List ℕ)). may_take (next_move l)) free) fit (omega (arith, room)) refl refl)
    (gives t [] m.phase_is on (ap (λ (l : Option (List ℕ)). may_give (next_move (behind_next l))) free) refl same refl) (λ e. refl)

passed_on : (old : Dropping) (t : Tree) → MayEnter old → old.asked ≡ true → old.log.left ≡ None → old.after ≡ unended → old.pulled ≡ true
    → Answered (record old { waiting = Some t; pulled = false }) (record old { came = old.came + 1; asked = false; log = logged 1 (logged 0 old.log) }) (Push 0 t ∷ Pull 0 ∷ [])
passed_on old t m on free going pulled =
    let off : Dropping = record old { pulled = false } in
    let mid : Dropping = record off { came = old.came + 1; asked = false; log = logged 1 (logged 0 old.log) } in
    let may : MayEnter off = record { phase_is = m.phase_is; none = m.none; gives = m.gives; drops = m.drops; some = m.some; few = m.few; fits = m.fits; named = m.named } in
    record {
      mid = mid;
      between = Push 0 t ∷ [];
      serves = goes_through off t may on free;
      settles = rests true m.phase_is (sym (ap (λ (o : Option Tree). wants_input o old.after false) m.none ∙ ap (λ (e : End). wants_input None e false) going))
          (ap (λ (l : Option (List ℕ)). lost (next_move (behind_next (behind_next l))) old.waiting old.after false old.held) free) (λ w n. absurd (n going)) (ap (λ (p : Bool). record mid { pulled = p }) pulled) refl;
    }

pub passes_so : (old mid v : Dropping) (t : Tree) (log : Picks) (before pushed acts : List Act) → MayEnter old → old.asked ≡ true → old.log.left ≡ None → old.after ≡ unended → old.pulled ≡ true → mid ≡ counted old → v ≡ mid → log ≡ logged 1 v.log → before ≡ [] → pushed ≡ before ++ Push 0 t ∷ []
    → acts ≡ pushed ++ Pull 0 ∷ [] → Answered (record old { waiting = Some t; pulled = false }) (record v { asked = false; log = log }) acts
passes_so old mid v t log before pushed acts m on free going pulled is same noted none pushes asks =
    let e : record v { asked = false; log = log } ≡ record old { came = old.came + 1; asked = false; log = logged 1 (logged 0 old.log) } =
    ap (λ (k : Picks). record v { asked = false; log = k }) noted ∙ ap (λ (l : Dropping). record l { asked = false; log = logged 1 l.log }) (same ∙ is) in
    let a : acts ≡ Push 0 t ∷ Pull 0 ∷ [] = asks ∙ ap (λ (l : List Act). l ++ Pull 0 ∷ []) (pushes ∙ ap (λ (l : List Act). l ++ Push 0 t ∷ []) none) in
    rw (e, a) (passed_on old t m on free going pulled)

-- ---- an element is taken in, and one is given

pub noted_named : (t : Tree) (old mid : Dropping) (before acts : List Act) → NamesMoves old.log.left → DropNoted t old mid before acts → NamesMoves mid.log.left
noted_named t old mid before acts n (fit items c s is a) = subst (λ (l : Dropping). NamesMoves l.log.left) (sym is) (named_rest old.log.left n)
noted_named t old mid before acts n (unfit c is a) = subst (λ (l : Dropping). NamesMoves l.log.left) (sym is) (named_rest old.log.left n)

pub noted_room : (t : Tree) (old mid : Dropping) (before acts : List Act) → 2 ≤ old.log.room → DropNoted t old mid before acts → 0 < mid.log.room
noted_room t old mid before acts n (fit items c s is a) = let e : mid.log.room ≡ old.log.room - 1 = ap (λ (l : Dropping). l.log.room) is in omega (arith, e, n)
noted_room t old mid before acts n (unfit c is a) = let e : mid.log.room ≡ old.log.room - 1 = ap (λ (l : Dropping). l.log.room) is in omega (arith, e, n)

few_cancels : (e : End) → length (cancel_by e) ≤ 1
few_cancels unended = omega arith
few_cancels ended = omega arith
few_cancels (failed c) = omega arith

pub noted_few : (t : Tree) (old mid : Dropping) (before acts : List Act) → before ≡ [] → DropNoted t old mid before acts → length acts < 4
noted_few t old mid before acts none (fit items c s is a) = let e : acts ≡ [] = a ∙ none in rw e (omega arith)
noted_few t old mid before acts none (unfit c is a) =
    let few = few_cancels old.after in
    let e : acts ≡ FailOut 0 (overflow_of old.node (old.came + 1)) ∷ cancel_by old.after = a ∙ ap (λ (l : List Act). l ++ FailOut 0 (overflow_of old.node (old.came + 1)) ∷ cancel_by old.after) none in
    rw e (omega (arith, few))

pub takes_one : (old mid new : Dropping) (t : Tree) (before between acts : List Act) → MayEnter old → may_take (next_move old.log.left) ≡ true → before ≡ [] → DropNoted t old mid before between → Giving mid new between acts
    → Serving (record old { waiting = Some t }) new acts
takes_one old mid new t before between acts m may none noted giving =
    let w : Dropping = record old { waiting = Some t } in
    let is : old ≡ record w { waiting = None } = ap (λ (o : Option Tree). record old { waiting = o }) m.none in
    let tk : TakesIn w mid [] between = taking w old t mid [] between refl is m.phase_is may (subst (λ (l : List Act). DropNoted t old mid l between) none noted) in
    take_first mid between tk giving (λ p. none_waits w mid [] between m.phase_is may tk p)

-- ---- what an element that came finds

pub enters_now : (old mid : Dropping) (t : Tree) → Going old → Meets (arrives 0 (item.Elem t)) (port_state old) → old.came + 1 < 2 ^ 64 → mid ≡ record old { log = record old.log { room = mid.log.room } } → MayEnter mid
enters_now old mid t g m fits is =
    let f = found (arrives 0 (item.Elem t)) old g m in
    let r = f.rested in
    let w = r.whole in
    let p = pulled_going old.after old.pulled f.may in
    let k : Dropping = record old { log = record old.log { room = mid.log.room } } in
    let here : MayEnter k = record {
      phase_is = w.phase_is;
      none = none_waiting old.waiting old.pulled w.quiet p.1;
      gives = r.gives;
      drops = w.drops;
      some = w.some;
      few = w.few;
      fits = fits;
      named = w.named;
    } in
    subst (λ (l : Dropping). MayEnter l) (sym is) here

-- it goes on, and was asked
pub comes_asked : (old mid : Dropping) (t : Tree) → Going old → Meets (arrives 0 (item.Elem t)) (port_state old) → mid ≡ record old { log = record old.log { room = mid.log.room } } → (mid.after ≡ unended) × (mid.pulled ≡ true)
comes_asked old mid t g m is =
    let f = found (arrives 0 (item.Elem t)) old g m in
    let p = pulled_going old.after old.pulled f.may in
    (ap (λ (l : Dropping). l.after) is ∙ p.0, ap (λ (l : Dropping). l.pulled) is ∙ p.1)

pub enters_off : (old now : Dropping) → MayEnter old → now ≡ record old { pulled = false } → MayEnter now
enters_off old now m arrived = subst (λ (l : Dropping). MayEnter l) (sym arrived) (record { phase_is = m.phase_is; none = m.none; gives = m.gives; drops = m.drops; some = m.some; few = m.few; fits = m.fits; named = m.named })

pub lets_so : (old now mid new : Dropping) (t : Tree) (between acts : List Act) → now ≡ record old { pulled = false } → Serving (record now { waiting = Some t }) mid between → Settling mid new between acts → Answered (record old { waiting = Some t; pulled = false }) new acts
lets_so old now mid new t between acts arrived serving settling = record { mid = mid; between = between; serves = subst (λ (l : Dropping). Serving (record l { waiting = Some t }) mid between) arrived serving; settles = settling }

pub came_so : (old mid new : Dropping) (acts : List Act) (t : Tree) → Going old → Meets (arrives 0 (item.Elem t)) (port_state old) → old.came + 1 < 2 ^ 64 → mid ≡ record old { log = record old.log { room = mid.log.room } } → Answered (record mid { waiting = Some t; pulled = false }) new acts
    → Handled (arrives 0 (item.Elem t)) old acts new
came_so old mid new acts t g m fits is a = pushed_so old mid (record mid { waiting = Some t; pulled = false }) a.mid new a.between acts t g m fits is refl a.serves a.settles

-- ---- an ask of one that holds nothing

abbrev pub Idle : Dropping → Type 0
Idle l = (l.waiting ≡ None) × ((l.after ≡ unended) × (l.pulled ≡ true))

ended_differs : {e : End} → ended ≡ e → e ≡ unended → ⊥
ended_differs a b = cc

failed_differs : {c : Cause} {e : End} → failed c ≡ e → e ≡ unended → ⊥
failed_differs a b = cc

-- then nothing waits, more may come, and it asked for it
rested_idle : (l : Dropping) → Rested l → l.held ≡ [] → l.log.left ≡ None → Idle l
rested_idle l r none free =
    let waits : l.waiting ≡ None = r.takes (ap (λ (m : Option (List ℕ)). may_take (next_move m)) free) in
    let going : l.after ≡ unended = by_end l.after refl waits in
    (waits, (going, r.asks going waits))
  where
    goes_on : l.waiting ≡ None → (l.after ≡ unended → ⊥) → ⊥
    goes_on waits n = not_both (ap (λ (m : Option (List ℕ)). may_end (next_move m)) free) ((r.ends waits n).1 none)

    by_end : (e : End) → l.after ≡ e → l.waiting ≡ None → l.after ≡ unended
    by_end unended is waits = is
    by_end ended is waits = absurd (goes_on waits (λ u. ended_differs (sym is) u))
    by_end (failed c) is waits = absurd (goes_on waits (λ u. failed_differs (sym is) u))

pub asked_idle : (old mid want : Dropping) → Going old → Meets (pulls 0) (port_state old) → mid ≡ record old { log = record old.log { room = mid.log.room } } → want ≡ record mid { asked = true } → want.held ≡ [] → want.log.left ≡ None → Idle want
asked_idle old mid want g m is wanted none free =
    let r = (found (pulls 0) old g m).rested in
    let t : Dropping = record old { log = record old.log { room = mid.log.room }; asked = true } in
    let same : want ≡ t = wanted ∙ ap (λ (l : Dropping). record l { asked = true }) is in
    let i = rested_idle old r (sym (ap (λ (l : Dropping). l.held) same) ∙ none) (sym (ap (λ (l : Dropping). l.log.left) same) ∙ free) in
    subst (λ (l : Dropping). Idle l) (sym same) i

pub asked_open : (old mid want : Dropping) → old.phase ≡ Open → mid ≡ record old { log = record old.log { room = mid.log.room } } → want ≡ record mid { asked = true } → want.phase ≡ Open
asked_open old mid want o is wanted = ap (λ (l : Dropping). l.phase) wanted ∙ ap (λ (l : Dropping). l.phase) is ∙ o

pub stays_idle : (now : Dropping) (acts : List Act) → now.phase ≡ Open → now.held ≡ [] → now.log.left ≡ None → Idle now → acts ≡ [] → Answered now now acts
stays_idle now acts o none free i a = record {
  mid = now;
  between = [];
  serves = give_first now [] (λ q m. i.0) (keeps (λ q on m. none) refl refl) (leaves (λ q m. i.0) refl refl);
  settles = rests false o (sym (ap (λ (w : Option Tree). wants_input w now.after now.pulled) i.0 ∙ ap (λ (e : End). wants_input None e now.pulled) i.1.0 ∙ ap (λ (p : Bool). wants_input None unended p) i.1.1))
      (ap (λ (l : Option (List ℕ)). lost (next_move l) now.waiting now.after now.asked now.held) free) (λ w n. absurd (n i.1.0)) refl a;
}

pub pulled_so : (old mid want new : Dropping) (acts : List Act) → Going old → Meets (pulls 0) (port_state old) → mid ≡ record old { log = record old.log { room = mid.log.room } } → want ≡ record mid { asked = true } → Answered want new acts → Handled (pulls 0) old acts new
pulled_so old mid want new acts g m is wanted a = asked_so old mid want a.mid new a.between acts g m is wanted a.serves a.settles
