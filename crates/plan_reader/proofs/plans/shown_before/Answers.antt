use Rattle.std.proofs.Common.{◌≡◌, ◌<◌, ◌+◌, ℕ, List, true, false, length, sym, ap, ◌∙◌, ◌&&◌, arith, drop, map}
use Rattle.plan_reader.specs.Plans.{shows_no_other, shown_before}
use Rattle.plan_reader.specs.declared.plans.Chooser.{Chooser}
use Rattle.plan_reader.proofs.Heads.{shown_step, shown_end, either_over}
use Rattle.plan_reader.proofs.plans.shown_before.Goals as goal

pub returns-then-not-shows_no_other : goal.returns-then-not-shows_no_other
returns-then-not-shows_no_other c =
    let m = c.min-i-end.ensures in
    let t = c.loop-i-test.true in
    let lc : c.loop-i.i < length c.args.choosers.now = omega (arith, m, t) in
    let lp : c.loop-i.i < length c.args.plans.now = omega (arith, m, t) in
    let step = shown_step (λ p. p.items) c.args.switch.now c.args.order c.args.choosers.now c.args.plans.now c.loop-i.i c.index-choosers-i.result c.index-plans-i.result lc lp c.index-choosers-i.is c.index-plans-i.is in
    let other : shows_no_other c.args.switch.now c.args.order c.index-choosers-i.result.shape c.index-plans-i.result.items ≡ false =
    ap (λ (l : List ℕ). shows_no_other c.args.switch.now c.args.order c.index-choosers-i.result.shape l) (sym c.deref.ensures.value) ∙ ap (λ (k : Chooser). shows_no_other c.args.switch.now c.args.order k.shape c.deref.result.now) c.index-choosers-i.is ∙ sym c.shows_no_other.ensures ∙ c.if-not-shows_no_other.true in
    sym (c.loop-i.invariant ∙ step ∙ ap (λ b. b && shown_before c.args.switch.now c.args.order (drop (c.loop-i.i + 1) c.args.choosers.now) (drop (c.loop-i.i + 1) (map (λ p. p.items) c.args.plans.now))) other)

pub loop-i-preserved : goal.loop-i-preserved
loop-i-preserved c =
    let m = c.min-i-end.ensures in
    let t = c.loop-i-test.true in
    let lc : c.loop-i.i < length c.args.choosers.now = omega (arith, m, t) in
    let lp : c.loop-i.i < length c.args.plans.now = omega (arith, m, t) in
    let step = shown_step (λ p. p.items) c.args.switch.now c.args.order c.args.choosers.now c.args.plans.now c.loop-i.i c.index-choosers-i.result c.index-plans-i.result lc lp c.index-choosers-i.is c.index-plans-i.is in
    let alike : shows_no_other c.args.switch.now c.args.order c.index-choosers-i.result.shape c.index-plans-i.result.items ≡ true =
    ap (λ (l : List ℕ). shows_no_other c.args.switch.now c.args.order c.index-choosers-i.result.shape l) (sym c.deref.ensures.value) ∙ ap (λ (k : Chooser). shows_no_other c.args.switch.now c.args.order k.shape c.deref.result.now) c.index-choosers-i.is ∙ sym c.shows_no_other.ensures ∙ c.if-not-shows_no_other.false in
    c.loop-i.invariant ∙ step ∙ ap (λ b. b && shown_before c.args.switch.now c.args.order (drop (c.loop-i.i + 1) c.args.choosers.now) (drop (c.loop-i.i + 1) (map (λ p. p.items) c.args.plans.now))) alike

pub returns : goal.returns
returns c = sym (c.loop-i.invariant ∙ shown_end (λ p. p.items) c.args.switch.now c.args.order c.args.choosers.now c.args.plans.now c.loop-i.i (either_over (length c.args.choosers.now) (length c.args.plans.now) c.loop-i.i c.min-i-end.result c.min-i-end.ensures c.loop-i-test.false))
