-- A turn of a body at whose lanes something waited, or in whose island an event was pending, finds something to do.
use Rattle.std.specs.Prelude.{◌≡◌, ◌⊎◌, ℕ, zero, suc, ◌+◌, ◌-◌, ◌<◌, ◌≤◌, Bool, true, false, cond, List, [], ◌∷◌, ◌++◌, length, take, IsTrue}
use Rattle.std.proofs.Common.{refl, sym, ap, ◌∙◌, subst, arith, inl, inr, length-append}
use Rattle.fused_net.proofs.Reading.{get_there}
use Rattle.elem_core.specs.Items.{elements}
use Rattle.elem_core.specs.declared.item.Item.{Item}
use Rattle.stream_model.specs.Outlook.{unended}
use Rattle.stage_core.specs.Held.{told}
use Rattle.lane_core.specs.declared.room.Waits.{Waits}
use Rattle.lane_core.specs.declared.lane_out.LaneOut.{LaneOut}
use Rattle.lane_core.specs.declared.lane_in.LaneIn.{LaneIn}
use Rattle.lane_core.proofs.Lists.{weight_le, elements_first}
use Rattle.lane_core.specs.Ends.{sent, saw_cancel, taken_items, has_cancelled, IsLaneHistory, WaitsAre}
use Rattle.lane_core.specs.Meeting.{AreTold}
use Rattle.lane_core.specs.Boundary.{is_over}
use Rattle.lane_core.specs.declared.boundary.InputBoundary.{InputBoundary}
use Rattle.lane_core.proofs.Flows.{elements_append, elements_told, length_told}
use Rattle.island_body.specs.declared.output.OutputBoundary.{OutputBoundary}
use Rattle.island_body.specs.declared.input.IslandInput.{IslandInput}
use Rattle.island_body.specs.Moving.{TookNone, FoundNone}
use Rattle.island_body.specs.Keeping.{BodyGoes, IsIdle, has_some, is_pending}
use Rattle.island_body.specs.Meeting.{BodiesMayMeet, BodiesMeet}
use Rattle.island_body.specs.Lasting.{map_count, there_after}
use Rattle.island_body.specs.declared.body.Body.{Body}

-- an end was taken, behind the elements
over_count : (b : InputBoundary) → is_over b ≡ true → elements (taken_items b.lane) + 1 ≡ length (taken_items b.lane)
over_count b over =
    let gave : List Item = b.gave.items in
    let lost : List Item = b.lost.items in
    let held : List Item = told b.buffer.items unended in
    let end : List Item = b.ending.items in
    let all = b.flow.taken_is in
    let e1 : elements (taken_items b.lane) ≡ elements (gave ++ (lost ++ (held ++ end))) = ap elements all in
    let e2 = elements_append gave (lost ++ (held ++ end)) in
    let e3 = elements_append lost (held ++ end) in
    let e4 = elements_append held end in
    let l1 : length (taken_items b.lane) ≡ length (gave ++ (lost ++ (held ++ end))) = ap length all in
    let l2 = length-append gave (lost ++ (held ++ end)) in
    let l3 = length-append lost (held ++ end) in
    let l4 = length-append held end in
    let g = b.flow.gave_elements in
    let s = b.flow.lost_elements in
    let t = elements_told b.buffer.items in
    let u = length_told b.buffer.items in
    let one : length end ≡ 1 = b.flow.one_end ∙ ap (λ (z : Bool). cond z 1 0) over in
    let none = b.flow.no_element in
    omega (arith, e1, e2, e3, e4, l1, l2, l3, l4, g, s, t, u, one, none)

elements_take : (n : ℕ) (l : List Item) → elements (take n l) ≤ n
elements_take zero l = omega arith
elements_take (suc n) [] = omega arith
elements_take (suc n) (x ∷ l) = let rest = elements_take n l in let one = weight_le x in let first = elements_first x (take n l)
    in omega (arith, rest, one, first)

take_past : (a b : List Item) (n m : ℕ) → m ≡ length a + n → take m (a ++ b) ≡ a ++ take n b
take_past [] b n m e = let same : m ≡ n = omega (arith, e) in ap (λ (k : ℕ). take k b) same
take_past (x ∷ a) b n m e =
    let more : m ≡ suc (length a + n) = omega (arith, e) in
    ap (λ (k : ℕ). take k (x ∷ (a ++ b))) more ∙ ap (λ (l : List Item). x ∷ l) (take_past a b n (length a + n) refl)

-- a part with an end in it is the whole, where the whole has an end at most behind its elements
with_end : (part whole rest : List Item) → whole ≡ part ++ rest → elements part + 1 ≡ length part → elements (take (elements whole) whole) ≡ elements whole
    → length whole ≤ elements whole + 1 → length whole ≤ length part
with_end part whole rest is count first last = by_length (by_order (length part) (elements whole))
  where
    by_order : (a b : ℕ) → (a ≤ b) ⊎ (b < a)
    by_order zero b = inl (omega arith)
    by_order (suc a) zero = inr (omega arith)
    by_order (suc a) (suc b) = elim (by_order a b) [ inl l ↦ inl (omega (arith, l)) | inr g ↦ inr (omega (arith, g)) ]

    by_length : (length part ≤ elements whole) ⊎ (elements whole < length part) → length whole ≤ length part
    by_length (inr more) = omega (arith, more, last)
    by_length (inl less) =
        let n : ℕ = elements whole - length part in
        let split : length part + n ≡ elements whole = omega (arith, less) in
        let past : take (elements whole) whole ≡ part ++ take n rest = ap (λ (l : List Item). take (elements whole) l) is
        ∙ take_past part rest n (elements whole) (sym split) in
        let some : elements whole ≡ elements (part ++ take n rest) = sym first ∙ ap elements past in
        let sum = elements_append part (take n rest) in
        let few = elements_take n rest in
        absurd (omega (arith, some, sum, few, split, count))

-- nothing waits where an end was taken
over_all : (o : LaneOut) (b : InputBoundary) → IsLaneHistory o b.lane → is_over b ≡ true → length (sent o) ≤ length (taken_items b.lane)
over_all o b h over = with_end (taken_items b.lane) (sent o) h.prefix.rest h.prefix.is (over_count b over) h.last.0 h.last.1

-- a lane is cancelled once at most
one_or_none : (b : Bool) → cond b 1 0 ≤ 1
one_or_none true = omega arith
one_or_none false = omega arith

cancelled_once : (i : LaneIn) → has_cancelled i ≤ 1
cancelled_once i = let c = one_or_none i.cancelled in let e = i.asked_is.1 in omega (arith, c, e)

-- a look that found no item came where none waited
item_found : (o : LaneOut) (x y : IslandInput) (w : Waits) → IsLaneHistory o x.boundary.lane → AreTold o x.boundary.lane → WaitsAre o x.boundary.lane w
    → IsTrue w.item → TookNone x y → ⊥
item_found o x y w history told_is waits item none =
    let some = waits.0.0 item in
    let told_sent_is = told_is.sent_is in
    let same : length (taken_items y.boundary.lane) ≡ length (taken_items x.boundary.lane) = ap length none.taken_is in
    elim none.why [
      | inl over ↦ (let all = over_all o x.boundary history over in omega (arith, some, all))
      | inr found ↦ (let f = found.0 in let t = found.1 in omega (arith, some, told_sent_is, same, f, t))
    ]

-- and one that found neither demand nor a cancel where neither waited
demand_found : (p q : OutputBoundary) (i : LaneIn) (w : Waits) → IsLaneHistory p.lane i → AreTold p.lane i → WaitsAre p.lane i w → IsTrue w.demand
    → FoundNone p q → ⊥
demand_found p q i w history told_is waits demand none = by_cancel (saw_cancel p.lane) refl
  where
    by_cancel : (n : ℕ) → saw_cancel p.lane ≡ n → ⊥
    by_cancel zero e =
        let looked = none.told e in
        let a = looked.0 in
        let c = looked.1 in
        let seen_is = none.seen_is in
        let cancel_is = none.cancel_is in
        let ta = told_is.asked_is in
        let tc = told_is.cancel_is in
        elim (waits.1.0 demand) [ inl d ↦ omega (arith, d, a, seen_is, ta) | inr d ↦ omega (arith, d, c, cancel_is, tc) ]
    by_cancel (suc n) e =
        let once = cancelled_once i in
        let fewer = history.cancel in
        let one : saw_cancel p.lane ≡ 1 = omega (arith, e, once, fewer) in
        let all = history.closed one in
        elim (waits.1.0 demand) [ inl d ↦ omega (arith, d, all) | inr d ↦ omega (arith, d, one, once) ]

module _ {S D L H B : Type 0} where
  -- an item that waits is taken by the next turn
  pub idle_item : (a b c d e : Body S D L H B) (o i : ℕ) (w : Waits) → BodiesMayMeet a o b i → BodiesMeet a o b i c d w → IsTrue w.item → BodyGoes d e
      → IsIdle d e → ⊥
  idle_item a b c d e o i w may m item g idle =
      let p = get_there c.outs.items o (subst (λ (n : ℕ). o < n) (sym m.from_met.outs_count) may.out_there) in
      let x = get_there d.ins.items i (subst (λ (n : ℕ). i < n) (sym m.to_met.ins_count) may.inp_there) in
      let y = there_after d.ins.items e.ins.items i x.0 (map_count (λ (z : IslandInput). z.wire) d.ins.items e.ins.items g.lanes.ins_wires) x.1 in
      item_found p.0.lane x.0 y.0 w (m.joined.history p.0 x.0 p.1 x.1) (m.told p.0 x.0 p.1 x.1) (m.joined.waits_are p.0 x.0 p.1 x.1) item
      (idle.ins i x.0 y.0 x.1 y.1)

  -- and demand that waits is found by it, or a cancel
  pub idle_demand : (a b c d e : Body S D L H B) (o i : ℕ) (w : Waits) → BodiesMayMeet a o b i → BodiesMeet a o b i c d w → IsTrue w.demand → BodyGoes c e
      → IsIdle c e → ⊥
  idle_demand a b c d e o i w may m demand g idle =
      let p = get_there c.outs.items o (subst (λ (n : ℕ). o < n) (sym m.from_met.outs_count) may.out_there) in
      let q = there_after c.outs.items e.outs.items o p.0 (map_count (λ (z : OutputBoundary). z.wire) c.outs.items e.outs.items g.lanes.outs_wires) p.1 in
      let x = get_there d.ins.items i (subst (λ (n : ℕ). i < n) (sym m.to_met.ins_count) may.inp_there) in
      demand_found p.0 q.0 x.0.boundary.lane w (m.joined.history p.0 x.0 p.1 x.1) (m.told p.0 x.0 p.1 x.1) (m.joined.waits_are p.0 x.0 p.1 x.1) demand
      (idle.outs o p.0 q.0 p.1 q.1)

  -- an event that is pending is handled by it
  pub idle_event : (a b : Body S D L H B) → is_pending a ≡ true → IsIdle a b → ⊥
  idle_event a b pending idle = let e : is_pending a ≡ false = ap has_some idle.queue in cc
