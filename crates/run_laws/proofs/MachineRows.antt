-- The rows of a stage that is one machine between one input and one output, in a lawful picture and in one that rests. They
-- are said of any wires, also of lanes.
use Rattle.std.proofs.Common.{◌≡◌, ◌≢◌, ◌⊎◌, inl, inr, ℕ, ◌+◌, ◌-◌, ◌<◌, ◌≤◌, Bool, true, false, if◌then◌else◌, List, length, take, refl, sym, ap, ◌∙◌, subst, arith}
use Rattle.elem_core.specs.Prefix.{IsPrefix}
use Rattle.elem_core.proofs.Prefixes.{prefix_length, prefix_trans, prefix_is_take, prefix_take_le}
use Rattle.elem_core.specs.Tree.{Tree}
use Rattle.elem_core.specs.Items.{elements}
use Rattle.elem_core.specs.declared.item.Item.{Item}
use Rattle.port_core.specs.declared.view.InView.{InView}
use Rattle.port_core.specs.declared.view.InView.TheVariants.{Idle, Pulled, Finished, Cancelled}
use Rattle.port_core.specs.declared.view.OutView.TheVariants.{Available}
use Rattle.stream_model.specs.Machine.{Run, Machine, going, is_going, run, close, Stands}
use Rattle.stream_model.specs.Outlook.{End, unended, ended, failed}
use Rattle.stream_model.proofs.MachineLaws.{gave_prefix, going_before}
use Rattle.stream_model.specs.Rests.{Waits, Idles, IsAsked}
use Rattle.stream_model.specs.View.{demand, wanted}
use Rattle.stage_core.specs.Held.{Held, told}
use Rattle.stage_core.specs.Law.{TookAs, Law}
use Rattle.stage_core.proofs.Whole.{stage_stands}
use Rattle.run_laws.specs.Ports.{InPort, OutPort, InStands, OutStands, InRests, OutRests}
use Rattle.run_laws.proofs.Coming.{elements_told}
use Rattle.run_laws.proofs.Bounds.{sent_open, sent_ended, sent_shut}
use Rattle.run_laws.proofs.PictureStages.{Waited}
use Rattle.run_laws.proofs.Telling.{told_prefix}

end_or_not : (e : End) → (e ≡ ended) ⊎ (e ≢ ended)
end_or_not unended = inr (λ e. cc)
end_or_not ended = inl refl
end_or_not (failed c) = inr (λ e. cc)

-- an end that came is known
end_known : (x : InView) (e : End) → TookAs x e → e ≡ ended → x ≡ Finished
end_known Finished e h i = refl
end_known Idle e h i = cc
end_known Pulled e h i = cc
end_known Cancelled e h i = cc

shut_not : {t : Bool} → t ≡ true → t ≡ false → ⊥
shut_not a b = cc

-- ---- what an input took, of what was sent there

module _ (i : InPort) (s : InStands i) (l : List Tree) (e : End) (got : i.got ≡ told l e) where
  pub got_count : elements i.got ≡ length l
  got_count = ap elements got ∙ elements_told l e

  taken_part : IsPrefix l (take i.wire.sent i.wire.list)
  taken_part =
      let came = s.came in
      let less : IsPrefix (take (length l) i.wire.list) (take i.wire.sent i.wire.list) = prefix_take_le (length l) i.wire.sent i.wire.list (omega (arith, came, got_count)) in
      subst (λ (x : List Tree). IsPrefix x (take i.wire.sent i.wire.list)) (prefix_is_take (s.part l e got)) less

  -- where all that was sent has come, it is all that was taken
  pub taken_all : i.wire.sent ≡ elements i.got → take i.wire.sent i.wire.list ≡ l
  taken_all all = ap (λ (n : ℕ). take n i.wire.list) (all ∙ got_count) ∙ prefix_is_take (s.part l e got)

ended_told : (i : InPort) (l : List Tree) (e : End) → i.got ≡ told l e → e ≡ ended → i.got ≡ told l ended
ended_told i l e got is = got ∙ ap (λ (f : End). told l f) is

-- what a stage may have given, over all that was sent to it, where its wire is shut or not
given_by : {S : Type 0} (m : Machine S Tree) (start : Run S Tree) (l k : List Tree) (e : End) (g : List Tree) (f : End) (t : Bool) → Stands m start l e g f → IsPrefix l k → (e ≡ ended → l ≡ k) → (e ≡ ended → t ≡ false → ⊥)
    → length g ≤ (if t then length (close m (run m start k) ended).list else length (run m start k).gave)
given_by m start l k e g f true h p all known = elim (end_or_not e) [
  | inl is ↦ let h' : Stands m start l ended g f = rw is at h in sent_ended m start l k g f h' (all is)
  | inr other ↦ sent_shut m start l k e g f h p other
]
given_by m start l k e g f false h p all known = sent_open m start l k e g f h p (λ is. known is refl)

-- the first part of the row, of any machine: what was given
pub most_given : {S : Type 0} (m : Machine S Tree) (start : Run S Tree) (i : InPort) → InStands i → (l : List Tree) (e : End) (g : List Tree) (f : End) → i.got ≡ told l e → TookAs i.view e → Stands m start l e g f
    → length g ≤ (if i.wire.shut then length (close m (run m start (take i.wire.sent i.wire.list)) ended).list else length (run m start (take i.wire.sent i.wire.list)).gave)
most_given m start i si l e g f got known stands =
    given_by m start l (take i.wire.sent i.wire.list) e g f i.wire.shut stands (taken_part i si l e got)
    (λ is. sym (ap (λ (n : ℕ). take n i.wire.list) (si.ended_all l (ended_told i l e got is)) ∙ prefix_is_take (si.part l e got)))
    (λ is unshut. shut_not (si.over (end_known i.view e known is)) unshut)

pub stage_given : {S : Type 0} (m : Machine S Tree) (start : Run S Tree) (h : Held S) (i : InPort) (o : OutPort) → Law m start h i.view o.view i.got o.sent → InStands i → OutStands o
    → o.wire.sent ≤ (if i.wire.shut then length (close m (run m start (take i.wire.sent i.wire.list)) ended).list else length (run m start (take i.wire.sent i.wire.list)).gave)
stage_given m start h i o at si so =
    let stands : Stands m start at.in_list at.in_end at.out_list at.out_end = stage_stands m start h i.view o.view i.got o.sent at in
    let sent : o.wire.sent ≡ length at.out_list = so.count ∙ (ap elements at.gave_is ∙ elements_told at.out_list at.out_end) in
    rw sent (most_given m start i si at.in_list at.in_end at.out_list at.out_end at.took_is at.took_as stands)

-- ---- what it had given when it asked: less may be wanted than it asked for

module _ {S : Type 0} (m : Machine S Tree) (start : Run S Tree) (had given list : List Tree) (st : S) (runs : run m start had ≡ record { gave = given; state = going st }) (part : IsPrefix had list) where
  machine_asked : (d want wanted_out : ℕ) → 1 ≤ d → d ≤ want → want ≡ length had + 1 → length given + 1 ≤ wanted_out
      → (is_going (run m start (take (d - 1) list)).state ≡ true) × (length (run m start (take (d - 1) list)).gave < wanted_out)
  machine_asked d want wanted_out some reach one asked =
      let less : IsPrefix (take (d - 1) list) (take (length had) list) = prefix_take_le (d - 1) (length had) list (omega (arith, some, reach, one)) in
      let first : IsPrefix (take (d - 1) list) had = subst (λ (x : List Tree). IsPrefix (take (d - 1) list) x) (prefix_is_take part) less in
      let goes : is_going (run m start had).state ≡ true = ap (λ (x : Run S Tree). is_going x.state) runs in
      let few = prefix_length (gave_prefix m start first) in
      let all : length (run m start had).gave ≡ length given = ap (λ (x : Run S Tree). length x.gave) runs in
      (going_before m start first goes, omega (arith, few, all, asked))

part_of : (a b : List Item) (l k : List Tree) (e f : End) → a ≡ told l e → b ≡ told k f → IsPrefix a b → IsPrefix (told l e) (told k f)
part_of a b l k e f x y p = rw (← x, ← y) p

-- what it had taken when it asked is a first part of the list
pub had_part : (i : InPort) → InStands i → (t : List Item) (k l : List Tree) (f e : End) → t ≡ told k f → IsPrefix t i.got → i.got ≡ told l e → IsPrefix k i.wire.list
had_part i s t k l f e is begins got = prefix_trans (told_prefix k l f e (part_of t i.got k l f e is got begins)) (s.part l e got)

-- the second part of the row
pub stage_asked : {S : Type 0} (m : Machine S Tree) (start : Run S Tree) (i : InPort) (o : OutPort) → InStands i → OutStands o → (l : List Tree) (e : End) → i.got ≡ told l e
    → (t g : List Item) → Waited m start t g → IsPrefix t i.got → i.want ≡ elements t + 1 → elements g + 1 ≤ o.want → 1 ≤ demand i.wire
    → (is_going (run m start (take (demand i.wire - 1) i.wire.list)).state ≡ true) × (length (run m start (take (demand i.wire - 1) i.wire.list)).gave < wanted o.wire)
stage_asked m start i o si so l e got t g w begins one more some =
    let taken : elements t ≡ length w.in_list = ap elements w.took_is ∙ elements_told w.in_list w.in_end in
    let gave : elements g ≡ length w.out_list = ap elements w.gave_is ∙ elements_told w.out_list w.out_end in
    let wants = so.wants in
    let count = w.count in
    machine_asked m start w.in_list w.all i.wire.list w.state w.runs (had_part i si t w.in_list l w.in_end e w.took_is begins got) (demand i.wire) i.want (wanted o.wire) some si.reach (omega (arith, one, taken)) (omega (arith, gave, count, more, wants))

-- ---- where no event is left

pub idles : (i : InPort) → InRests i → i.view ≡ Idle → Idles i.wire
idles i r e = elim (r.idles e) [ inl lane ↦ inl lane | inr fused ↦ inr fused.0 ]

-- a stage that waits and holds nothing has given all that its machine gives
pub waited_rests : {S : Type 0} (m : Machine S Tree) (start : Run S Tree) (i : InPort) (o : OutPort) → InStands i → OutStands o → InRests i → OutRests o → Waited m start i.got o.sent → i.view ≡ Pulled → o.view ≡ Available
    → IsAsked o.wire × Waits i.wire × (o.wire.sent ≡ length (run m start (take i.wire.sent i.wire.list)).gave)
waited_rests m start i o si so ri ro w xi yo =
    let waits = ri.waits xi in
    let all : take i.wire.sent i.wire.list ≡ w.in_list = taken_all i si w.in_list w.in_end w.took_is waits.1 in
    let sent : o.wire.sent ≡ length w.out_list = so.count ∙ (ap elements w.gave_is ∙ elements_told w.out_list w.out_end) in
    (ro.asked yo, waits.0, sent ∙ sym w.count ∙ ap (λ r. length r.gave) (sym w.runs) ∙ ap (λ (z : List Tree). length (run m start z).gave) (sym all))
