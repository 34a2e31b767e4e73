-- The parts of a balance's calls: what is asked where a part begins, and what the parts come to together.
use Rattle.std.specs.Prelude.{◌-◌, if◌then◌else◌}
use Rattle.std.proofs.Common.{◌≡◌, ℕ, ◌≤◌, ◌<◌, Bool, true, false, List, [], ◌∷◌, ◌++◌, length, refl, sym, ap, ◌∙◌, subst, arith, Option, Some, None}
use Rattle.elem_core.specs.Tree.{Tree}
use Rattle.port_core.specs.Picks.{next_move, may_end, MayNote}
use Rattle.port_core.specs.declared.act.Act.{Act}
use Rattle.port_core.specs.declared.act.Act.TheVariants.{Pull, Push, Complete, Cancel}
use Rattle.stage_core.specs.OpenOuts.{at_open}
use Rattle.stage_out.specs.declared.balancing.Choice.{Choice}
use Rattle.stage_out.specs.declared.balancing.Choice.TheVariants.{Sends, Drops, Stays}
use Rattle.stage_out.specs.Balancings.{Balancing, choice_of, queue_then, asks_input, MayDeal, MayServe, Does, closed, stuck_now, emptied, asking, ended_now, given_out, served, passed_over, filled, without, Settles, asks, rests, completes, halts, Deals, sends, drops, stays, ServesWaiting, deals, settles, Ended, end_waits, end_passes, Lost, final, others_open}
use Rattle.stage_out.proofs.BalanceChoices.{sends_may, drops_may, free_some, free_keeps, sends_there}

-- ---- what waits is served

pub serve_may : (old mid : Balancing) (t : Tree) → MayServe old → old.core.waiting ≡ Some t → mid ≡ emptied old → MayDeal mid
serve_may old mid t s w is = subst (λ (l : Balancing). MayDeal l) (sym is) (s.deal (λ n. let z : Some t ≡ None = sym w ∙ n in cc))

pub serve_some : (old mid new : Balancing) (acts : List Act) (t : Tree) → old.core.waiting ≡ Some t → mid ≡ emptied old → Deals t mid new acts → ServesWaiting old new acts
serve_some old mid new acts t w is d = deals t w (subst (λ (l : Balancing). Deals t l new acts) is d)

pub serve_none : (old mid new : Balancing) (before acts : List Act) → before ≡ [] → old.core.waiting ≡ None → mid ≡ old → Settles before mid new acts → ServesWaiting old new acts
serve_none old mid new before acts e none is d = settles none (subst (λ (b : List Act). Settles b old new acts) e (subst (λ (l : Balancing). Settles before l new acts) is d))

-- ---- an element is dealt out by what is chosen

module _ (old chose : Balancing) (x : Choice) (c : x ≡ choice_of (next_move old.log.left) old.core.outs old.core.queue)
    (is : chose ≡ record old { core = record old.core { queue = queue_then x (next_move old.log.left) old.core.queue } }) where
  same_left : chose.log.left ≡ old.log.left
  same_left = ap (λ (l : Balancing). l.log.left) is

  pub chose_few : length chose.core.outs ≡ length old.core.outs
  chose_few = ap (λ (l : Balancing). length l.core.outs) is

  sends_is : (j : ℕ) → x ≡ Sends j → choice_of (next_move old.log.left) old.core.outs old.core.queue ≡ Sends j
  sends_is j e = sym c ∙ e

  drops_is : (j : ℕ) → x ≡ Drops j → choice_of (next_move old.log.left) old.core.outs old.core.queue ≡ Drops j
  drops_is j e = sym c ∙ e

  pub sent_noted : (j : ℕ) → x ≡ Sends j → MayDeal old → chose.log.left ≡ None → 0 < chose.log.room
  sent_noted j e m free =
      let none : old.log.left ≡ None = sym same_left ∙ free in
      let room : 1 ≤ old.log.room = m.noted none (λ q. free_some old.log.left old.core.outs j none (subst (λ (k : List ℕ). choice_of (next_move old.log.left) old.core.outs k ≡ Sends j) q (sends_is j e))) in
      let more : 0 < old.log.room = omega (arith, room) in
      subst (λ (l : Balancing). 0 < l.log.room) (sym is) more

  pub sent_next : (j : ℕ) → x ≡ Sends j → MayNote j chose.log.left
  sent_next j e = subst (λ (p : Option (List ℕ)). MayNote j p) (sym same_left) (sends_may old.log.left old.core.outs old.core.queue j (sends_is j e))

  pub sent_there : (j : ℕ) → x ≡ Sends j → MayDeal old → j < length chose.core.outs
  sent_there j e m = subst (λ n. j < n) (sym chose_few) (sends_there (length old.core.outs) old.log.left old.core.outs old.core.queue j m.there m.named (sends_is j e))

  pub sent_deals : (j : ℕ) → x ≡ Sends j → (t : Tree) (new : Balancing) (acts : List Act) → Settles (Push j t ∷ []) (given_out j chose) new acts → Deals t old new acts
  sent_deals j e t new acts d =
      let out : given_out j chose ≡ served j old = ap (given_out j) (is ∙ ap (λ (y : Choice). record old { core = record old.core { queue = queue_then y (next_move old.log.left) old.core.queue } }) e) in
      sends j (sends_is j e) (subst (λ (l : Balancing). Settles (Push j t ∷ []) l new acts) out d)

  pub dropped_noted : (j : ℕ) → x ≡ Drops j → chose.log.left ≡ None → 0 < chose.log.room
  dropped_noted j e free = absurd (free_keeps old.log.left old.core.outs old.core.queue j (sym same_left ∙ free) (drops_is j e))

  pub dropped_next : (j : ℕ) → x ≡ Drops j → MayNote j chose.log.left
  dropped_next j e = subst (λ (p : Option (List ℕ)). MayNote j p) (sym same_left) (drops_may old.log.left old.core.outs old.core.queue j (drops_is j e))

  pub dropped_deals : (j : ℕ) → x ≡ Drops j → (t : Tree) (new : Balancing) (acts : List Act) → Settles [] (passed_over j chose) new acts → Deals t old new acts
  dropped_deals j e t new acts d =
      let out : passed_over j chose ≡ passed_over j old = ap (passed_over j) (is ∙ ap (λ (y : Choice). record old { core = record old.core { queue = queue_then y (next_move old.log.left) old.core.queue } }) e) in
      drops j (drops_is j e) (subst (λ (l : Balancing). Settles [] l new acts) out d)

  pub kept_deals : x ≡ Stays → (t : Tree) (new : Balancing) (acts : List Act) → new ≡ filled t chose → acts ≡ [] → Deals t old new acts
  kept_deals e t new acts now quiet =
      let out : filled t chose ≡ filled t old = ap (filled t) (is ∙ ap (λ (y : Choice). record old { core = record old.core { queue = queue_then y (next_move old.log.left) old.core.queue } }) e) in
      stays (sym c ∙ e) (record { to_is = now ∙ out; acts_are = quiet })

-- ---- nothing waits

pub settle_over : (old new : Balancing) (before acts : List Act) → old.core.over ≡ true → (may_end (next_move old.log.left) ≡ true → Does new acts (closed old) (before ++ at_open (λ k. Complete k) 0 old.core.outs))
    → (may_end (next_move old.log.left) ≡ false → Does new acts (stuck_now old) before) → Settles before old new acts
settle_over old new before acts on all stop = by_end (may_end (next_move old.log.left)) refl
  where
    by_end : (b : Bool) → may_end (next_move old.log.left) ≡ b → Settles before old new acts
    by_end true e = completes on e (all e)
    by_end false e = halts on e (stop e)

pub settle_going : (old new : Balancing) (before acts : List Act) → old.core.over ≡ false
    → (old.core.pulled ≡ false → asks_input (next_move old.log.left) old.core.outs old.core.queue ≡ true → Does new acts (asking old) (before ++ Pull 0 ∷ []))
    → ((asks_input (next_move old.log.left) old.core.outs old.core.queue ≡ true → old.core.pulled ≡ true) → Does new acts old before) → Settles before old new acts
settle_going old new before acts off ask stay = by_flags old.core.pulled (asks_input (next_move old.log.left) old.core.outs old.core.queue) refl refl
  where
    by_flags : (p a : Bool) → old.core.pulled ≡ p → asks_input (next_move old.log.left) old.core.outs old.core.queue ≡ a → Settles before old new acts
    by_flags true a e h = rests off (λ w. e) (stay (λ w. e))
    by_flags false true e h = asks off e h (ask e h)
    by_flags false false e h = rests off (λ w. let z : true ≡ false = sym w ∙ h in cc) (stay (λ w. let z : true ≡ false = sym w ∙ h in cc))

-- ---- an output is gone

pub lost_last : (old mid new : Balancing) (acts : List Act) (j : ℕ) → mid ≡ without j old → mid.core.open_outs ≡ 0 → 1 ≤ old.core.open_outs → Does new acts (closed mid) (if mid.core.over then [] else Cancel 0 ∷ []) → Lost j old new acts
lost_last old mid new acts j is none some d =
    let z : old.core.open_outs - 1 ≡ 0 = sym (ap (λ (l : Balancing). l.core.open_outs) is) ∙ none in
    final (omega (arith, z, some)) (subst (λ (l : Balancing). Does new acts (closed l) (if l.core.over then [] else Cancel 0 ∷ [])) is d)

pub lost_more : (old mid new : Balancing) (acts : List Act) (j : ℕ) → mid ≡ without j old → (mid.core.open_outs ≡ 0 → ⊥) → ServesWaiting mid new acts → Lost j old new acts
lost_more old mid new acts j is some d =
    others_open (λ one. let z : old.core.open_outs - 1 ≡ 0 = omega (arith, one) in some (ap (λ (l : Balancing). l.core.open_outs) is ∙ z)) (subst (λ (l : Balancing). ServesWaiting l new acts) is d)

-- ---- the input has ended

pub ended_waits : (old mid : Balancing) (acts : List Act) → mid ≡ ended_now old → acts ≡ [] → (mid.core.waiting ≡ None → ⊥) → Ended old mid acts
ended_waits old mid acts is e n = end_waits (λ z. n (ap (λ (l : Balancing). l.core.waiting) is ∙ z)) (record { to_is = is; acts_are = e })

pub ended_all : (old mid new : Balancing) (before acts : List Act) → mid ≡ ended_now old → before ≡ [] → mid.core.waiting ≡ None → Settles before mid new acts → Ended old new acts
ended_all old mid new before acts is e none d =
    end_passes (sym (ap (λ (l : Balancing). l.core.waiting) is) ∙ none) (subst (λ (b : List Act). Settles b (ended_now old) new acts) e (subst (λ (l : Balancing). Settles before l new acts) is d))
