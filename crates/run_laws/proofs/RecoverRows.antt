-- What a recover gives of its law for a picture: no more than came, and its own element behind the end of its input; while it waits
-- it gave all that came. Its move is how many elements came.
use Rattle.std.specs.Prelude.{slice_index_or, if◌then◌else◌, None}
use Rattle.std.proofs.Common.{◌≡◌, ◌≢◌, ◌⊎◌, inl, inr, ℕ, zero, suc, ◌+◌, ◌≤◌, Bool, true, false, List, [], ◌∷◌, length, take, refl, sym, ap, ◌∙◌, subst, arith}
use Rattle.std.proofs.lemmas.List.{length-append, length-take-le}
use Rattle.elem_core.proofs.Prefixes.{prefix_length}
use Rattle.elem_core.specs.Tree.{Tree}
use Rattle.elem_core.specs.Items.{elements}
use Rattle.elem_core.specs.declared.item.Item.{Item}
use Rattle.port_core.specs.View.{View}
use Rattle.port_core.specs.declared.view.InView.{InView}
use Rattle.port_core.specs.declared.view.InView.TheVariants.{Idle, Pulled, Finished, Cancelled}
use Rattle.port_core.specs.declared.view.OutView.{OutView}
use Rattle.port_core.specs.declared.view.OutView.TheVariants.{Unpulled, Available}
use Rattle.stream_model.specs.FanIn.{Inflow}
use Rattle.port_core.specs.Picks.{next_move}
use Rattle.port_core.specs.declared.pick_log.Next.{Next}
use Rattle.port_core.specs.declared.pick_log.Next.TheVariants.{Free, Move, UsedUp}
use Rattle.stream_model.specs.Outlook.{Outlook, End, unended, ended, failed, Agrees}
use Rattle.stream_model.specs.Picks.{RecoverStands}
use Rattle.stream_model.specs.View.{EachWire}
use Rattle.stream_model.specs.OneWay.{as_it_is}
use Rattle.stream_model.specs.Lawful.{RecoverLawful}
use Rattle.stream_model.specs.Rests.{IsShut, StageRests}
use Rattle.stage_core.specs.Law.{TookAs}
use Rattle.stage_core.specs.OwnPorts.{own_input}
use Rattle.stage_core.proofs.Over.{failed_at}
use Rattle.stage_core.specs.Row.{InClosed, OutClosed}
use Rattle.stage_core.specs.declared.phase.Phase.{Phase}
use Rattle.stage_core.specs.declared.phase.Phase.TheVariants.{New, Open, Closed}
use Rattle.stage_dropping.specs.Recovers.{RecoverHeld, passes, IsBroken, FailedAt, RecoverKeeps, RecoverStandsOf, RecoverCounts}
use Rattle.stage_dropping.specs.Recoverings.{Recover, StillBy, recover_at, recover_in, held_in, held_by, held_of, RecoverPortState, RecoversAs}
use Rattle.stage_dropping.proofs.RecoverTurns.{recover_stands}
use Rattle.stage_dropping.proofs.RecoverNodes.{counted, stays_free}
use Rattle.run_laws.specs.Items.{AllMayPass}
use Rattle.run_laws.specs.Replayed.{ShutByFailure}
use Rattle.run_laws.specs.Ports.{InPort, OutPort, InStands, OutStands, InRests, OutRests}
use Rattle.run_laws.proofs.OneFlows.{OneFlow, one_flow, flow_got, flow_sent}
use Rattle.run_laws.proofs.MachineRows.{idles}
use Rattle.run_laws.proofs.PictureStages.{closed_both}

-- ---- what its row says

-- it is asked and waits, nobody asks it, it owes its own element behind a failure, or all is closed
pub data RecoverPorts (l : Recover) (x : InView) (y : OutView) : Type 0 where
  busy : l.phase ≡ Open → l.over ≡ false → x ≡ Pulled → y ≡ Available → RecoverPorts l x y
  free : x ≡ Idle → y ≡ Unpulled → RecoverPorts l x y
  behind : x ≡ Finished → y ≡ Unpulled → RecoverPorts l x y
  gone : InClosed x → OutClosed y → RecoverPorts l x y

ports_by : (l : Recover) (p : Phase) (over asked : Bool) (x : InView) (y : OutView) → l.phase ≡ p → l.over ≡ over → p ≢ New → recover_at l p over asked x y → RecoverPorts l x y
ports_by l New over asked x y e v n r = absurd (n refl)
ports_by l Closed over asked x y e v n r = let c = closed_both x y r in gone c.0 c.1
ports_by l Open false true Pulled Available e v n r = busy e v refl refl
ports_by l Open false false Idle Unpulled e v n r = free refl refl
ports_by l Open true false Finished Unpulled e v n r = behind refl refl
ports_by l p over asked x y e v n r = absurd r

pub recover_ports : (l : Recover) (x : InView) (y : OutView) → l.phase ≢ New → recover_at l l.phase l.over l.asked x y → RecoverPorts l x y
recover_ports l x y n r = ports_by l l.phase l.over l.asked x y refl refl n r

-- one that stopped waits for nothing
still_unasked : (next : Next) (stuck : Bool) (x : InView) → StillBy next stuck x → x ≡ Pulled → ⊥
still_unasked Free stuck x h e = h
still_unasked (Move k) stuck x h e = h.2 e
still_unasked UsedUp stuck x h e = let no : Finished ≡ Pulled = sym h.1 ∙ e in cc

pub waits_moving : (l : Recover) (x : InView) (y : OutView) (b : Bool) → recover_in b l x y → x ≡ Pulled → b ≡ false
waits_moving l x y false h e = refl
waits_moving l x y true h e = absurd (still_unasked (next_move l.left) l.stuck x h.1.1 e)

-- one that waits was asked, and is open before any failure
pub waits_asked : (l : Recover) (x : InView) (y : OutView) → RecoverPorts l x y → x ≡ Pulled → (l.phase ≡ Open) × ((l.over ≡ false) × (y ≡ Available))
waits_asked l x y (busy on lasts xi yo) e = (on, (lasts, yo))
waits_asked l x y (free xi yo) e = cc
waits_asked l x y (behind xi yo) e = cc
waits_asked l x y (gone xi yo) e = let no : InClosed Pulled = subst InClosed e xi in absurd no

-- ---- what its law says of its histories

pub take_few : (n : ℕ) (l : List Tree) → length (take n l) ≤ n
take_few zero l = omega arith
take_few (suc n) [] = omega arith
take_few (suc n) (t ∷ l) = let rest = take_few n l in omega (arith, rest)

few_by : (t : Tree) (moves : List ℕ) (f : Inflow) (g : List Tree) (e : End) → RecoverStands t moves f g e → length g ≤ length f.list + 1
few_by t [] f g unended s = let short = prefix_length s in omega (arith, short)
few_by t [] f g ended s = let same : length g ≡ length f.list = ap length s.1 in omega (arith, same)
few_by t [] f g (failed c) s = absurd s
few_by t (k ∷ moves) f g unended s =
    let short = prefix_length s.1 in
    let all = length-append (take k f.list) (t ∷ []) in
    let long = s.0.0 in
    let few = length-take-le k f.list (omega (arith, long)) in
    omega (arith, short, all, few, long)
few_by t (k ∷ moves) f g ended s =
    let same = ap length s.1 in
    let all = length-append (take k f.list) (t ∷ []) in
    let long = s.0.0 in
    let few = length-take-le k f.list (omega (arith, long)) in
    omega (arith, same, all, few, long)
few_by t (k ∷ moves) f g (failed c) s = absurd s

-- before the end of its input it gave no more than came
open_by : (t : Tree) (moves : List ℕ) (f : Inflow) (g : List Tree) (e : End) → f.end ≡ unended → RecoverStands t moves f g e → length g ≤ length f.list
open_by t [] f g unended lasts s = prefix_length s
open_by t [] f g ended lasts s = let same : length g ≡ length f.list = ap length s.1 in omega (arith, same)
open_by t [] f g (failed c) lasts s = absurd s
open_by t (k ∷ moves) f g unended lasts s = let no : unended ≡ failed s.0.1.0 = sym lasts ∙ s.0.1.1 in cc
open_by t (k ∷ moves) f g ended lasts s = let no : unended ≡ failed s.0.1.0 = sym lasts ∙ s.0.1.1 in cc
open_by t (k ∷ moves) f g (failed c) lasts s = absurd s

over_or_not : (x : InView) (e : End) → TookAs x e → (x ≡ Finished) ⊎ (e ≡ unended)
over_or_not Finished e h = inl refl
over_or_not Idle e h = inr h
over_or_not Pulled e h = inr h
over_or_not Cancelled e h = inr h

module _ (first now : Recover) (v : View) (took gave : List (List Item)) (law : RecoversAs first now v took gave) (got sent : List Item) (ti : took ≡ got ∷ []) (gi : gave ≡ sent ∷ []) where
  abbrev Kept : List Inflow → List Tree → End → Type 0
  Kept = RecoverKeeps law.element (held_of now)

  pub recover_flow : OneFlow Kept v took gave law.by got sent
  recover_flow = one_flow Kept v took gave law.by got sent ti gi

  -- one that waits gave all that came
  pub passed_all : now.still ≡ false → now.phase ≡ Open → now.over ≡ false → elements sent ≡ elements got
  passed_all moving on lasts =
      let owes : held_of now ≡ passes now.passed = ap (λ (b : Bool). held_by b now) moving ∙ ap (λ (p : Phase). held_in p now.over now.passed now.moves) on ∙ ap (λ (b : Bool). held_in Open b now.passed now.moves) lasts in
      let keeps : RecoverKeeps law.element (passes now.passed) (recover_flow.f ∷ []) law.by.law.out_list law.by.law.out_end =
      subst (λ (x : RecoverHeld). RecoverKeeps law.element x (recover_flow.f ∷ []) law.by.law.out_list law.by.law.out_end) owes recover_flow.keeps in
      flow_sent Kept v took gave law.by got sent recover_flow ∙ ap length keeps.1.1.0 ∙ sym (flow_got Kept v took gave law.by got sent recover_flow)

  stands : RecoverStandsOf law.element now.moves (recover_flow.f ∷ []) law.by.law.out_list law.by.law.out_end
  stands =
      subst (λ (fs : List Inflow). RecoverStandsOf law.element now.moves fs law.by.law.out_list law.by.law.out_end) recover_flow.ins
      (subst (λ (ms : List ℕ). RecoverStandsOf law.element ms law.by.law.ins law.by.law.out_list law.by.law.out_end) law.noted
      (recover_stands law.element (held_of now) v (λ i. slice_index_or took i []) law.by.given law.by.law))

  pub sent_few : elements sent ≤ elements got + 1
  sent_few =
      let few = few_by law.element now.moves recover_flow.f law.by.law.out_list law.by.law.out_end stands.1 in
      omega (arith, few, flow_sent Kept v took gave law.by got sent recover_flow, flow_got Kept v took gave law.by got sent recover_flow)

  pub sent_open : recover_flow.f.end ≡ unended → elements sent ≤ elements got
  sent_open lasts =
      let few = open_by law.element now.moves recover_flow.f law.by.law.out_list law.by.law.out_end lasts stands.1 in
      omega (arith, few, flow_sent Kept v took gave law.by got sent recover_flow, flow_got Kept v took gave law.by got sent recover_flow)

  pub moves_few : RecoverCounts now.moves (recover_flow.f ∷ []) law.by.law.out_list
  moves_few = subst (λ (fs : List Inflow). RecoverCounts now.moves fs law.by.law.out_list) recover_flow.ins (counted first now v took gave law)

-- ---- its rows in a picture

-- what was sent to it, and one more behind the end
most : (i : InPort) (n : ℕ) (b : Bool) → InStands i → (b ≡ false → n ≤ i.wire.sent) → n ≤ i.wire.sent + 1 → n ≤ (if b then length (take i.wire.sent i.wire.list) + 1 else length (take i.wire.sent i.wire.list))
most i n true si few all = let some = length-take-le i.wire.sent i.wire.list si.within in omega (arith, some, all)
most i n false si few all = let some = length-take-le i.wire.sent i.wire.list si.within in let here = few refl in omega (arith, some, here)

shut_not : {t : Bool} → t ≡ true → t ≡ false → ⊥
shut_not a b = cc

module _ (first now : Recover) (i : InPort) (o : OutPort) (law : RecoversAs first now (record { ins = i.view ∷ []; outs = o.view ∷ [] }) (i.got ∷ []) (o.sent ∷ [])) where
  abbrev Ports : View
  Ports = record { ins = i.view ∷ []; outs = o.view ∷ [] }

  pub recover_given : InStands i → OutStands o → o.wire.sent ≤ (if i.wire.shut then length (take i.wire.sent i.wire.list) + 1 else length (take i.wire.sent i.wire.list))
  recover_given si so = most i o.wire.sent i.wire.shut si few_open all
    where
      all : o.wire.sent ≤ i.wire.sent + 1
      all =
          let few = sent_few first now Ports (i.got ∷ []) (o.sent ∷ []) law i.got o.sent refl refl in
          let count = so.count in
          let came = si.came in
          omega (arith, few, count, came)

      few_open : i.wire.shut ≡ false → o.wire.sent ≤ i.wire.sent
      few_open unshut =
          let flow = recover_flow first now Ports (i.got ∷ []) (o.sent ∷ []) law i.got o.sent refl refl in
          let lasts : flow.f.end ≡ unended = elim (over_or_not i.view flow.f.end flow.got_as) [ inl over ↦ absurd (shut_not (si.over over) unshut) | inr lasts ↦ lasts ] in
          let few = sent_open first now Ports (i.got ∷ []) (o.sent ∷ []) law i.got o.sent refl refl lasts in
          let count = so.count in
          let came = si.came in
          omega (arith, few, count, came)

  moved_by : (ms : List ℕ) (f : Inflow) (g : List Tree) → RecoverCounts ms (f ∷ []) g → elements i.got ≡ length f.list → elements o.sent ≡ length g → InStands i → OutStands o → RecoverLawful ms i.wire o.wire
  moved_by [] f g c got sent si so = tt
  moved_by (k ∷ []) f g c got sent si so =
      let long = c.0 in
      let few = c.1 in
      let count = so.count in
      let came = si.came in
      (omega (arith, long, got, came), omega (arith, few, sent, count))
  moved_by (k ∷ j ∷ ms) f g c got sent si so = tt

  pub recover_moved : InStands i → OutStands o → RecoverLawful now.moves i.wire o.wire
  recover_moved si so =
      let flow = recover_flow first now Ports (i.got ∷ []) (o.sent ∷ []) law i.got o.sent refl refl in
      moved_by now.moves flow.f law.by.law.out_list (moves_few first now Ports (i.got ∷ []) (o.sent ∷ []) law i.got o.sent refl refl)
      (flow_got _ Ports (i.got ∷ []) (o.sent ∷ []) law.by i.got o.sent flow) (flow_sent _ Ports (i.got ∷ []) (o.sent ∷ []) law.by i.got o.sent flow) si so

  abbrev Still : Type 0
  Still = (EachWire IsShut (i.wire ∷ []) × EachWire IsShut (o.wire ∷ [])) ⊎ StageRests (as_it_is 1 true) i.wire o.wire

  pub recover_stays : now.still ≡ false → InStands i → OutStands o → InRests i → OutRests o → RecoverPorts now i.view o.view → Still
  recover_stays moving si so ri ro (busy on lasts xi yo) =
      let waits = ri.waits xi in
      let all = waits.1 in
      let count = so.count in
      let same = passed_all first now Ports (i.got ∷ []) (o.sent ∷ []) law i.got o.sent refl refl moving on lasts in
      let some = length-take-le i.wire.sent i.wire.list si.within in
      inr (inl (ro.asked yo, waits.0, omega (arith, all, count, same, some)))
  recover_stays moving si so ri ro (free xi yo) = inr (inr (inl (ro.unasked yo, idles i ri xi)))
  recover_stays moving si so ri ro (behind xi yo) = inr (inr (inr (refl, ro.unasked yo, ri.shut (subst InClosed (sym xi) tt))))
  recover_stays moving si so ri ro (gone xi yo) = inl ((ri.shut xi, tt), (ro.shut yo, tt))

  pub recover_rests : first.left ≡ None → InStands i → OutStands o → InRests i → OutRests o → RecoverPortState now Ports → Still
  recover_rests none si so ri ro r =
      let moving = (stays_free first now Ports (i.got ∷ []) (o.sent ∷ []) none law).0 in
      recover_stays moving si so ri ro (recover_ports now i.view o.view r.started (subst (λ b. recover_in b now i.view o.view) moving r.ports).0)

-- ---- one without a move, behind a failure

module _ (first now : Recover) (i : InPort) (o : OutPort) (law : RecoversAs first now (record { ins = i.view ∷ []; outs = o.view ∷ [] }) (i.got ∷ []) (o.sent ∷ [])) where
  -- how the input stands, by its end
  shut_behind : (f : Inflow) (come : Outlook) (e : End) → f.end ≡ e → IsBroken e → elements i.got ≡ length f.list → Agrees come f.list f.end → InStands i → IsShut i.wire → ShutByFailure (come ∷ []) (i.wire ∷ [])
  shut_behind f come unended is b got may si shut = absurd b
  shut_behind f come ended is b got may si shut = absurd b
  shut_behind f come (failed c) is b got may si shut =
      let came = si.came in
      (shut, (length f.list, (omega (arith, came, got), failed_at come f.list c (subst (λ (e : End). Agrees come f.list e) is may))))

  -- the input of a stage that has one
  input_closed : (x : InView) (l : List Tree) → IsShut (own_input x l) → InClosed x
  input_closed Idle l e = cc
  input_closed Pulled l e = cc
  input_closed Finished l e = tt
  input_closed Cancelled l e = tt

  pub shut_by_failure : (comes : List Outlook) → AllMayPass comes (i.got ∷ []) → InStands i → InRests i → FailedAt i.view law.by.law.ins → ShutByFailure comes (i.wire ∷ [])
  shut_by_failure [] may si ri failing = absurd may
  shut_by_failure (come ∷ also ∷ comes) may si ri failing = absurd may.1
  shut_by_failure (come ∷ []) may si ri failing =
      let flow = recover_flow first now _ (i.got ∷ []) (o.sent ∷ []) law i.got o.sent refl refl in
      let h : FailedAt i.view (flow.f ∷ []) = subst (λ (fs : List Inflow). FailedAt i.view fs) flow.ins failing in
      shut_behind flow.f come flow.f.end refl h.1 (flow_got _ _ (i.got ∷ []) (o.sent ∷ []) law.by i.got o.sent flow) (may.0 flow.f.list flow.f.end flow.got_is) si (ri.shut (input_closed i.view flow.f.list h.0))
