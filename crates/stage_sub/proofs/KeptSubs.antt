-- The calls of the substreams by the way in which they open.
use Rattle.std.specs.Prelude.{IfOk, OnOk, Result}
use Rattle.std.proofs.Common.{◌≡◌, ℕ, Bool, List, Option, Ok, Err, length, sym, subst, arith}
use Rattle.elem_core.specs.Tree.{Tree}
use Rattle.stream_model.specs.Outlook.{End}
use Rattle.stream_model.specs.Machine.{Given}
use Rattle.stream_model.specs.FanIn.{Tagged}
use Rattle.stream_model.specs.Substreams.{Sub, before, behind}
use Rattle.port_core.specs.ListFunction.{ListFunction, Same}
use Rattle.step_work.specs.Means.{Means}
use Rattle.stage_sub.specs.Splits.{Last, MayCallLast}
use Rattle.stage_sub.specs.Groups.{MayCallAll, Within}
use Rattle.stage_sub.specs.Subs.{Split, SubsTake}
use Rattle.stage_sub.specs.Places.{place_in}
use Rattle.stage_sub.specs.KeptSubs.{KeptSubs, MayCallKept, Keeps, TakesBy}
use Rattle.stage_sub.specs.declared.blame.Blame.{Blame}
use Rattle.elem_core.specs.declared.function.Pred.{Pred}
use Rattle.stage_sub.specs.declared.opening.OpenBy.{OpenBy}
use Rattle.stage_sub.specs.declared.opening.OpenBy.TheVariants.{Before, Behind}

module _ {C : Type 0} (rest : C → ListFunction) (is_open : C → Bool) where
  pub may_last : {E : Type 0} (k : KeptSubs C) (last : Last C) (r : Result (Option Blame) E) → MayCallKept rest is_open k → OnOk r (MayCallLast rest is_open last) → OnOk r (MayCallKept rest is_open (record k { last = last }))
  may_last {E} k last (Ok x) m h = record { one = h; all = m.all; within = m.within }
  may_last {E} k last (Err e) m h = tt

  pub may_groups : {E : Type 0} (k : KeptSubs C) (places : List (Tree × ℕ)) (slots : List (Option C)) (r : Result (Option Blame) E) → MayCallKept rest is_open k → OnOk r (MayCallAll rest is_open slots) → OnOk r (Within (place_in places) slots)
      → OnOk r (MayCallKept rest is_open (record k { places = places; slots = slots }))
  may_groups {E} k places slots (Ok x) m h w = record { one = m.one; all = h; within = w }
  may_groups {E} k places slots (Err e) m h w = tt

  pub may_slots : {E : Type 0} (k : KeptSubs C) (slots : List (Option C)) (r : Result (Option Blame) E) → MayCallKept rest is_open k → OnOk r (MayCallAll rest is_open slots) → OnOk r (length slots ≡ length k.slots)
      → OnOk r (MayCallKept rest is_open (record k { slots = slots }))
  may_slots {E} k slots (Ok x) m h n = record { one = m.one; all = h; within = λ key i e. let q = m.within key i e in omega (arith, q, n) }
  may_slots {E} k slots (Err e) m h n = tt

  pub before_takes : {E : Type 0} (whole : ListFunction) (how : OpenBy) (p : Pred) (k old : KeptSubs C) (last : Last C) (r : Result (Option Blame) E) (e : Tree) (b a : List Tagged) → how ≡ Before p → k ≡ old
      → IfOk r (λ x. (f : ListFunction) → Same whole f → (yields : List Tree → End → Given Tree) → Means yields f → (ss : List Sub) → Split rest is_open f yields k.last ss → SubsTake rest is_open f yields (before p) ss e x b a last)
      → IfOk r (λ x. (f : ListFunction) → Same whole f → (yields : List Tree → End → Given Tree) → Means yields f → (ss : List Sub) → Keeps rest is_open f yields how old ss → TakesBy rest is_open f yields how ss e x b a (record k { last = last }))
  before_takes {E} whole how p k old last (Ok x) e b a is same h =
      subst (λ (o : KeptSubs C). (f : ListFunction) → Same whole f → (yields : List Tree → End → Given Tree) → Means yields f → (ss : List Sub) → Keeps rest is_open f yields how o ss → TakesBy rest is_open f yields how ss e x b a (record k { last = last })) same
      (subst (λ (w : OpenBy). (f : ListFunction) → Same whole f → (yields : List Tree → End → Given Tree) → Means yields f → (ss : List Sub) → Keeps rest is_open f yields w k ss → TakesBy rest is_open f yields w ss e x b a (record k { last = last })) (sym is) h)
  before_takes {E} whole how p k old last (Err q) e b a is same h = tt

  pub behind_takes : {E : Type 0} (whole : ListFunction) (how : OpenBy) (p : Pred) (k old : KeptSubs C) (last : Last C) (r : Result (Option Blame) E) (e : Tree) (b a : List Tagged) → how ≡ Behind p → k ≡ old
      → IfOk r (λ x. (f : ListFunction) → Same whole f → (yields : List Tree → End → Given Tree) → Means yields f → (ss : List Sub) → Split rest is_open f yields k.last ss → SubsTake rest is_open f yields (behind p) ss e x b a last)
      → IfOk r (λ x. (f : ListFunction) → Same whole f → (yields : List Tree → End → Given Tree) → Means yields f → (ss : List Sub) → Keeps rest is_open f yields how old ss → TakesBy rest is_open f yields how ss e x b a (record k { last = last }))
  behind_takes {E} whole how p k old last (Ok x) e b a is same h =
      subst (λ (o : KeptSubs C). (f : ListFunction) → Same whole f → (yields : List Tree → End → Given Tree) → Means yields f → (ss : List Sub) → Keeps rest is_open f yields how o ss → TakesBy rest is_open f yields how ss e x b a (record k { last = last })) same
      (subst (λ (w : OpenBy). (f : ListFunction) → Same whole f → (yields : List Tree → End → Given Tree) → Means yields f → (ss : List Sub) → Keeps rest is_open f yields w k ss → TakesBy rest is_open f yields w ss e x b a (record k { last = last })) (sym is) h)
  behind_takes {E} whole how p k old last (Err q) e b a is same h = tt
