-- What a lane costs, by what is kept of its ends.
use Rattle.std.specs.Prelude.{if◌then◌else◌}
use Rattle.std.proofs.Common.{◌≤◌, ◌<◌, ◌+◌, ◌*◌, ℕ, Bool, true, false, List, [], ◌∷◌, length, ap, ◌∙◌, arith}
use Rattle.elem_core.specs.Tree.{Tree}
use Rattle.elem_core.specs.Items.{elements}
use Rattle.elem_core.specs.declared.item.Item.{Item}
use Rattle.elem_core.specs.declared.item.Item.TheVariants as item
use Rattle.elem_core.proofs.Prefixes.{prefix_trans, prefix_length}
use Rattle.port_core.specs.Connection.{ConnStep, quiet, pulled, ready, pushed}
use Rattle.port_core.specs.Joint.{IsSound}
use Rattle.port_core.specs.Wire.{JointPorts}
use Rattle.port_core.specs.declared.view.InView.{InView}
use Rattle.port_core.specs.declared.view.InView.TheVariants.{Idle, Pulled, Finished, Cancelled}
use Rattle.port_core.specs.declared.view.OutView.{OutView}
use Rattle.port_core.specs.declared.view.OutView.TheVariants as outlet
use Rattle.port_core.specs.Cell.{WireState}
use Rattle.port_core.specs.Marks.{wanted}
use Rattle.port_core.specs.Counts.{ready_bit, free_bit, extra, spent}
use Rattle.stream_model.specs.Outlook.{End, unended, ended, failed}
use Rattle.stream_model.specs.Lane.{loss_of}
use Rattle.stage_core.specs.Held.{told}
use Rattle.run_laws.proofs.Coming.{elements_told, elements_prefix, no_fewer}
use Rattle.run_laws.proofs.Histories.{got_begins}
use Rattle.run_laws.specs.Ends.{LaneKeeps}
use Rattle.run_laws.proofs.Carrying.{carries_part}

few_ready : (t : ConnStep) → ready_bit t ≤ 1
few_ready quiet = omega arith
few_ready pulled = omega arith
few_ready ready = omega arith
few_ready (pushed e) = omega arith

few_free : (q : Bool) → free_bit q ≤ 1
few_free true = omega arith
few_free false = omega arith

few_extra : (y : OutView) (x : InView) (t : ConnStep) (q : Bool) → extra y x t q ≤ 3
few_extra outlet.Available Pulled t q = omega arith
few_extra outlet.Available Cancelled t q = omega arith
few_extra outlet.Available Idle t q = omega arith
few_extra outlet.Available Finished t q = omega arith
few_extra outlet.Closed Pulled t q = let r = few_ready t in omega (arith, r)
few_extra outlet.Closed Finished t q = let r = few_free q in omega (arith, r)
few_extra outlet.Closed Cancelled t q = let r = few_free q in omega (arith, r)
few_extra outlet.Closed Idle t q = omega arith
few_extra outlet.Cancelled Cancelled t q = let r = few_free q in omega (arith, r)
few_extra outlet.Cancelled Idle t q = omega arith
few_extra outlet.Cancelled Pulled t q = omega arith
few_extra outlet.Cancelled Finished t q = omega arith
few_extra outlet.Unpulled x t q = omega arith

-- the events of a connection
pub connection_cost : (w : JointPorts) (q : Bool) → IsSound w q → spent w q ≤ 2 * elements w.sent + 3
connection_cost w q h = let few = few_extra w.out w.inp w.conn.step q in let less = no_fewer w q h in omega (arith, few, less)

-- one end at most is no element
ends_once : (l : List Tree) (e : End) → length (told l e) ≤ length l + 1
ends_once [] unended = omega arith
ends_once [] ended = omega arith
ends_once [] (failed c) = omega arith
ends_once (t ∷ l) e = let r = ends_once l e in omega (arith, r)

-- no more elements than items
few_elements : (l : List Item) → elements l ≤ length l
few_elements [] = omega arith
few_elements (item.Elem t ∷ l) = let r = few_elements l in omega (arith, r)
few_elements (item.Ended ∷ l) = let r = few_elements l in omega (arith, r)
few_elements (item.Failed c ∷ l) = let r = few_elements l in omega (arith, r)

few_wanted : (n : ℕ) (b : Bool) → n ≤ (if b then n + 1 else n)
few_wanted n true = omega arith
few_wanted n false = omega arith

-- of a lane, what was sent and not taken has a place
pub taken_most : (keep : Bool) (s : ℕ) (near far : WireState) (asked : ℕ) (k : LaneKeeps keep s near far asked) → elements near.wire.sent ≤ length k.inp.taken + s
taken_most keep s near far asked k =
    let some : elements near.wire.sent ≤ wanted near = few_wanted (elements near.wire.sent) near.asked in
    let wants = k.out_keeps.wants in
    let seen = k.met.seen in
    let bound = k.met.bound in
    let few = few_elements k.inp.taken in
    omega (arith, some, wants, seen, bound, few)

module _ (keep : Bool) (s : ℕ) (near far : WireState) (p q : Bool) (asked : ℕ) (sn : IsSound near.wire p) (sf : IsSound far.wire q) (k : LaneKeeps keep s near far asked) where
  -- no more was taken than was sent, and no more was pushed on than was taken
  taken_few : elements k.inp.taken ≤ elements near.wire.sent
  taken_few = elements_prefix k.inp.taken near.wire.sent (prefix_trans k.met.taken (prefix_trans k.out_keeps.part (got_begins near.wire p sn)))

  taken_items : length k.inp.taken ≤ elements near.wire.sent + 1
  taken_items =
      let items = ends_once k.in_keeps.taken_list k.in_keeps.taken_end in
      let same = ap length k.in_keeps.taken_is in
      let count = ap elements k.in_keeps.taken_is ∙ elements_told k.in_keeps.taken_list k.in_keeps.taken_end in
      omega (arith, items, same, count, taken_few)

  pushed_few : elements far.wire.sent ≤ elements k.inp.taken
  pushed_few =
      let part = prefix_length (carries_part (loss_of keep s) k.in_keeps.taken_list k.in_keeps.taken_end k.in_keeps.pushed_list k.in_keeps.pushed_end k.in_keeps.carries) in
      let took = ap elements k.in_keeps.taken_is ∙ elements_told k.in_keeps.taken_list k.in_keeps.taken_end in
      let pushed = ap elements k.in_keeps.pushed_is ∙ elements_told k.in_keeps.pushed_list k.in_keeps.pushed_end in
      omega (arith, part, took, pushed)

  pub paid : (spent near.wire p + spent far.wire q) + (length k.inp.taken + k.out.finds) < 6 * elements near.wire.sent + 12
  paid =
      let a = connection_cost near.wire p sn in
      let b = connection_cost far.wire q sf in
      let finds = k.met.finds in
      let once = k.met.once in
      let calls = k.in_keeps.calls in
      omega (arith, a, b, finds, once, calls, taken_items, pushed_few, taken_few)
