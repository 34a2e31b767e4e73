-- The two connections of a lane, by what is kept of its ends and known of both: how it stands, and how it rests.
use Rattle.std.specs.Prelude.{nat_le, if◌then◌else◌}
use Rattle.std.proofs.Common.{◌≡◌, ℕ, suc, ◌+◌, ◌-◌, ◌<◌, ◌≤◌, Bool, true, false, not, List, refl, sym, ap, subst, ◌∙◌, arith}
use Rattle.std.proofs.lemmas.Bool.Decides.{nat_tests}
use Rattle.elem_core.specs.Prefix.{IsPrefix}
use Rattle.elem_core.specs.Tree.{Tree}
use Rattle.elem_core.specs.Items.{elements}
use Rattle.elem_core.proofs.Prefixes.{prefix_trans}
use Rattle.port_core.specs.Decoding.{is_open}
use Rattle.port_core.specs.Joint.{IsSound}
use Rattle.port_core.specs.declared.view.InView.{InView}
use Rattle.port_core.specs.declared.view.InView.TheVariants.{Idle, Pulled, Finished, Cancelled}
use Rattle.port_core.specs.declared.view.OutView.{OutView}
use Rattle.port_core.specs.declared.view.OutView.TheVariants as outlet
use Rattle.port_core.specs.Cell.{WireState}
use Rattle.port_core.specs.Marks.{IsMarked, wanted}
use Rattle.stream_model.specs.Outlook.{End, unended, ended, failed}
use Rattle.stream_model.specs.Lane.{loss_of, Carries}
use Rattle.stage_core.specs.Held.{told}
use Rattle.stage_core.specs.Law.{TookAs, GaveAs}
use Rattle.stage_core.specs.Row.{InClosed, OutClosed}
use Rattle.run_laws.specs.Items.{end_of_items}
use Rattle.run_laws.proofs.Histories.{begun, standing_told}
use Rattle.run_laws.proofs.Resting.{waits, is_asked, is_unasked, all_idle, in_shut}
use Rattle.run_laws.specs.Ends.{OutEnd, InEnd, OutKeeps, InKeeps, Met}
use Rattle.run_laws.specs.Quiet.{OutQuiet, InQuiet, MetQuiet}
use Rattle.run_laws.proofs.Joints.{over_shut, waiting_asked, left_closed, unasked_idle}

-- ---- ends

over_by : (x : InView) (e : End) → TookAs x e → (e ≡ unended → ⊥) → x ≡ Finished
over_by Idle e t n = absurd (n t)
over_by Pulled e t n = absurd (n t)
over_by Finished e t n = refl
over_by Cancelled e t n = absurd (n t)

shut_ends : (e : End) → GaveAs outlet.Closed e → e ≡ unended → ⊥
shut_ends unended g is = g
shut_ends ended g is = cc
shut_ends (failed c) g is = cc

over_ends : (e : End) → TookAs Finished e → e ≡ unended → ⊥
over_ends unended g is = g
over_ends ended g is = cc
over_ends (failed c) g is = cc

asked_open : (y : OutView) (e : End) → GaveAs y e → y ≡ outlet.Available → e ≡ unended
asked_open outlet.Available e g is = g
asked_open outlet.Unpulled e g is = cc
asked_open outlet.Closed e g is = cc
asked_open outlet.Cancelled e g is = cc

left_not : {x : InView} → x ≡ Cancelled → x ≡ Finished → ⊥
left_not a b = cc

-- an end that a history has stands in each that it begins
end_stays : (t k : List Tree) (e f : End) → (e ≡ unended → ⊥) → IsPrefix (told t e) (told k f) → f ≡ e
end_stays t k unended f n p = absurd (n refl)
end_stays t k ended f n p = sym (standing_told k f) ∙ ((begun t ended (told t ended) (told k f) refl p).ended_all refl).1
end_stays t k (failed c) f n p = sym (standing_told k f) ∙ ((begun t (failed c) (told t (failed c)) (told k f) refl p).failed_all c refl).1

carries_end : (s : ℕ) (t : List Tree) (e : End) (l : List Tree) (f : End) → Carries s t e l f → (f ≡ unended → ⊥) → e ≡ f
carries_end s t e l unended c n = absurd (n refl)
carries_end s t e l ended c n = c.0
carries_end s t e l (failed d) c n = c.0

-- ---- counts

least_wanted : (c : WireState) → elements c.wire.sent ≤ wanted c
least_wanted c = by c.asked (elements c.wire.sent)
  where
    by : (b : Bool) (n : ℕ) → n ≤ (if b then n + 1 else n)
    by true n = omega arith
    by false n = omega arith

more_wanted : (c : WireState) → c.asked ≡ true → elements c.wire.sent + 1 ≤ wanted c
more_wanted c e = rw e (omega arith)

below : (m n : ℕ) → m < n → nat_le (suc m) n ≡ true
below m n h = grind (arith, nat_tests)

not_below : (m n : ℕ) → n ≤ m → nat_le (suc m) n ≡ false
not_below m n h = grind (arith, nat_tests)

module _ (keep : Bool) (s : ℕ) (near far : WireState) (o : OutEnd) (i : InEnd) (out : OutKeeps near o) (inn : InKeeps keep s far i) (met : Met s o i) where
  -- the mark of the lane: its input end asked for more than was pushed at its output
  abbrev mark : Bool
  mark = nat_le (suc (elements near.wire.sent)) i.asked

  all_asked : elements near.wire.sent ≤ i.asked
  all_asked = let a = least_wanted near in let b = out.wants in let c = met.seen in omega (arith, a, b, c)

  -- what is wanted of the lane beyond its size was pushed on, so the node at its input has asked for it
  pub lane_reach : (if mark then elements near.wire.sent + 1 else elements near.wire.sent) - s ≤ wanted far
  lane_reach = by mark refl
    where
      by : (t : Bool) → mark ≡ t → (if t then elements near.wire.sent + 1 else elements near.wire.sent) - s ≤ wanted far
      by true e = let h : elements near.wire.sent < i.asked = grind (e, arith, nat_tests) in let a = inn.asks in let b = least_wanted far in omega (arith, h, a, b)
      by false e = let a = inn.asks in let b = least_wanted far in let c = all_asked in omega (arith, a, b, c)

  -- what the output's connection was asked for is wanted of the lane
  pub lane_wants : wanted near ≤ (if mark then elements near.wire.sent + 1 else elements near.wire.sent)
  lane_wants = by near.asked refl
    where
      by : (t : Bool) → near.asked ≡ t → (if t then elements near.wire.sent + 1 else elements near.wire.sent) ≤ (if mark then elements near.wire.sent + 1 else elements near.wire.sent)
      by true e =
          let a = more_wanted near e in
          let b = out.wants in
          let c = met.seen in
          let h : elements near.wire.sent < i.asked = omega (arith, a, b, c) in
          rw (below (elements near.wire.sent) i.asked h) (omega arith)
      by false e = least (elements near.wire.sent) mark
        where
          least : (n : ℕ) (b : Bool) → n ≤ (if b then n + 1 else n)
          least n true = omega arith
          least n false = omega arith

  -- a lane that is not asked was sent at least its size
  pub lane_least : mark ≡ false → s ≤ elements near.wire.sent
  lane_least e = let h : i.asked ≤ elements near.wire.sent = grind (e, arith, nat_tests) in let a = inn.least in omega (arith, h, a)

  -- where the end was pushed behind the lane, it came to the boundary before it
  end_came : far.wire.out ≡ outlet.Closed → near.wire.inp ≡ Finished
  end_came e =
      let n : inn.pushed_end ≡ unended → ⊥ = shut_ends inn.pushed_end (rw e at inn.pushed_as) in
      let one : inn.taken_end ≡ inn.pushed_end = carries_end (loss_of keep s) inn.taken_list inn.taken_end inn.pushed_list inn.pushed_end inn.carries n in
      let part : IsPrefix i.taken near.wire.got = prefix_trans met.taken out.part in
      let lists : IsPrefix (told inn.taken_list inn.taken_end) (told out.came_list out.came_end) = rw (inn.taken_is, out.came_is) at part in
      let two : out.came_end ≡ inn.taken_end = end_stays inn.taken_list out.came_list inn.taken_end out.came_end (λ x. n (sym one ∙ x)) lists in
      over_by near.wire.inp out.came_end out.came_as (λ x. n (sym one ∙ (sym two ∙ x)))

  -- so the lane is shut where its end came
  pub lane_over : (p q : Bool) → IsSound near.wire p → IsSound far.wire q → far.wire.inp ≡ Finished → not (is_open near.wire.conn) ≡ true
  lane_over p q sn sf e = in_shut near.wire p sn (subst InClosed (sym (end_came (over_shut far.wire q sf e))) tt)

  module _ (sn : IsSound near.wire false) (sf : IsSound far.wire false) (mn : IsMarked near) (mf : IsMarked far) (oq : OutQuiet near o) (iq : InQuiet far i) (mq : MetQuiet o i) where
    -- the node at its input waits: the lane is asked and open, and all that was sent has come
    pub lane_waits : far.wire.inp ≡ Pulled → ((mark ≡ true) × (not (is_open near.wire.conn) ≡ false)) × (elements near.wire.sent ≡ elements far.wire.got)
    lane_waits e = by near.wire.inp refl
      where
        asks : far.wire.out ≡ outlet.Available
        asks = waiting_asked far.wire sf e

        none : o.refused ≡ 0
        none = mq.refused_is ∙ iq.goes_on asks

        came : near.wire.got ≡ far.wire.sent
        came = sym (oq.sent_all none) ∙ (sym mq.taken_all ∙ iq.pushed_all asks)

        got_all : far.wire.sent ≡ far.wire.got
        got_all = (waits far mf sf e).1

        refuses : near.wire.inp ≡ Cancelled → o.refused ≡ 1
        refuses = oq.left

        by : (x : InView) → near.wire.inp ≡ x → ((mark ≡ true) × (not (is_open near.wire.conn) ≡ false)) × (elements near.wire.sent ≡ elements far.wire.got)
        by Idle is =
            let all = ap elements (all_idle near.wire sn is) in
            let used = oq.used is in
            let seen = mq.seen_all in
            let more = iq.more asks in
            let same = ap elements came in
            absurd (omega (arith, all, used, seen, more, same))
        by Pulled is =
            let w = waits near mn sn is in
            let all = ap elements w.1 in
            let same = ap elements came in
            let last = ap elements got_all in
            let more = iq.more asks in
            ((below (elements near.wire.sent) i.asked (omega (arith, all, same, more)), w.0.still), omega (arith, all, same, last))
        by Finished is =
            let n : out.came_end ≡ unended → ⊥ = over_ends out.came_end (rw is at out.came_as) in
            let pushed : inn.pushed_end ≡ unended = asked_open far.wire.out inn.pushed_end inn.pushed_as asks in
            let lists : told out.came_list out.came_end ≡ told inn.pushed_list inn.pushed_end = sym out.came_is ∙ (came ∙ inn.pushed_is) in
            absurd (n (sym (standing_told out.came_list out.came_end) ∙ (ap end_of_items lists ∙ (standing_told inn.pushed_list inn.pushed_end ∙ pushed))))
        by Cancelled is = let yes : o.refused ≡ 1 = refuses is in let no : o.refused ≡ 0 = none in absurd (omega (arith, yes, no))

    -- it has closed its input
    pub lane_in_shut : InClosed far.wire.inp → not (is_open near.wire.conn) ≡ true
    lane_in_shut h = by far.wire.inp refl h
      where
        by_out : (y : OutView) → far.wire.out ≡ y → OutClosed y → not (is_open near.wire.conn) ≡ true
        by_out outlet.Closed is c = in_shut near.wire false sn (subst InClosed (sym (end_came is)) tt)
        by_out outlet.Cancelled is c = in_shut near.wire false sn (oq.closed (mq.refused_is ∙ iq.cancels is))
        by_out outlet.Unpulled is c = absurd c
        by_out outlet.Available is c = absurd c

        by : (x : InView) → far.wire.inp ≡ x → InClosed x → not (is_open near.wire.conn) ≡ true
        by Finished is c = lane_over false false sn sf is
        by Cancelled is c = by_out far.wire.out refl (left_closed far.wire sf is)
        by Idle is c = absurd c
        by Pulled is c = absurd c

    -- the node at its output was asked, or was not
    pub lane_asked : near.wire.out ≡ outlet.Available → (mark ≡ true) × (not (is_open near.wire.conn) ≡ false)
    lane_asked e =
        let a = is_asked near mn sn e in
        let b = more_wanted near a.mark in
        let c = out.wants in
        let d = met.seen in
        (below (elements near.wire.sent) i.asked (omega (arith, b, c, d)), a.still)

    pub lane_unasked : near.wire.out ≡ outlet.Unpulled → (mark ≡ false) × (not (is_open near.wire.conn) ≡ false)
    lane_unasked e =
        let a = is_unasked near mn sn e in
        let used = oq.used (unasked_idle near.wire sn e) in
        let seen = mq.seen_all in
        (not_below (elements near.wire.sent) i.asked (omega (arith, used, seen)), a.still)
