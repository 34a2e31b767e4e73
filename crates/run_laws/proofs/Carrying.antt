-- What the node at the input of a wire got, of what was sent at its output, also where the wire is a lane.
use Rattle.std.proofs.Common.{◌≡◌, ◌≢◌, ℕ, Bool, true, false, ◌+◌, ◌≤◌, List, length, Option, None, Some, refl, sym, ap, subst, ◌∙◌, arith}
use Rattle.elem_core.specs.Prefix.{IsPrefix}
use Rattle.elem_core.specs.Tree.{Tree}
use Rattle.elem_core.specs.Items.{elements}
use Rattle.elem_core.proofs.Prefixes.{prefix_trans, prefix_length, prefix_refl}
use Rattle.elem_core.specs.declared.item.Item.{Item}
use Rattle.port_core.specs.Joint.{IsSound}
use Rattle.stream_model.specs.Outlook.{End, unended, ended, failed}
use Rattle.stream_model.specs.Lane.{loss_of, lane_loss, Carries}
use Rattle.stage_core.specs.Held.{told}
use Rattle.port_core.specs.Cell.{WireState}
use Rattle.run_laws.specs.Account.{WireKeeps}
use Rattle.run_laws.specs.Items.{list_of, end_of_items, ArrivedOf}
use Rattle.run_laws.proofs.Histories.{Begun, begun, list_of_told, standing_told, got_begins}
use Rattle.run_laws.proofs.Bringing.{carries_sent, fused_brings}
use Rattle.run_laws.proofs.Coming.{elements_told}
use Rattle.run_laws.specs.Ends.{OutEnd, InEnd, OutKeeps, InKeeps, Met}

pub carries_part : (s : ℕ) (t : List Tree) (e : End) (l : List Tree) (f : End) → Carries s t e l f → IsPrefix l t
carries_part s t e l unended c = c
carries_part s t e l ended c = rw (c.1) (prefix_refl t)
carries_part s t e l (failed d) c = c.1

-- one that ended brought all, and one that failed
carries_ended : (s : ℕ) (t : List Tree) (e : End) (l : List Tree) (f : End) → Carries s t e l f → f ≡ ended → (e ≡ ended) × (l ≡ t)
carries_ended s t e l f c is = rw is at c

-- the far end took a first part of what was pushed behind the lane
pub carries_first : (s : ℕ) (t : List Tree) (e : End) (l : List Tree) (f : End) (k : List Tree) (h : End) → Carries s t e l f → Begun k h (told l f) → Carries s t e k h
carries_first s t e l f k unended c b = prefix_trans (subst (λ (x : List Tree). IsPrefix k x) (list_of_told l f) b.part) (carries_part s t e l f c)
carries_first s t e l f k ended c b =
    let all = b.ended_all refl in
    let same : l ≡ k = sym (list_of_told l f) ∙ all.0 in
    let is : f ≡ ended = sym (standing_told l f) ∙ all.1 in
    let r = carries_ended s t e l f c is in
    (r.0, sym same ∙ r.1)
carries_first s t e l f k (failed d) c b =
    let all = b.failed_all d refl in
    let same : l ≡ k = sym (list_of_told l f) ∙ all.0 in
    let is : f ≡ failed d = sym (standing_told l f) ∙ all.1 in
    subst (λ (x : List Tree). Carries s t e x (failed d)) same (subst (λ (x : End). Carries s t e l x) is c)

pub lane_brings : (keep : Bool) (s : ℕ) (near far : WireState) (p q : _) (o : OutEnd) (i : InEnd) → IsSound near.wire p → IsSound far.wire q → OutKeeps near o → InKeeps keep s far i → Met s o i → ArrivedOf (Some (loss_of keep s)) near.wire.sent far.wire.got
lane_brings keep s near far p q o i sn sf out inn met l e is =
    let first : Begun l e (told inn.pushed_list inn.pushed_end) = begun l e far.wire.got (told inn.pushed_list inn.pushed_end) is (subst (λ (x : List Item). IsPrefix far.wire.got x) inn.pushed_is (got_begins far.wire q sf)) in
    let took : Carries (loss_of keep s) inn.taken_list inn.taken_end l e = carries_first (loss_of keep s) inn.taken_list inn.taken_end inn.pushed_list inn.pushed_end l e inn.carries first in
    let part : IsPrefix i.taken near.wire.sent = prefix_trans met.taken (prefix_trans out.part (got_begins near.wire p sn)) in
    carries_sent (loss_of keep s) inn.taken_list inn.taken_end l e near.wire.sent took (begun inn.taken_list inn.taken_end i.taken near.wire.sent inn.taken_is part)

-- any wire
pub wire_brings : (keep : Bool) (lane : Option ℕ) (near far : WireState) (asked : ℕ) (p q : _) → IsSound near.wire p → IsSound far.wire q → WireKeeps keep lane near far asked → ArrivedOf (lane_loss keep lane) near.wire.sent far.wire.got
wire_brings keep None near far asked p q sn sf k = rw k (fused_brings near.wire p sn)
wire_brings keep (Some s) near far asked p q sn sf k = lane_brings keep s near far p q k.out k.inp sn sf k.out_keeps k.in_keeps k.met

-- where a normal end came, all came
carries_all : (s : ℕ) (t : List Tree) (e : End) (l : List Tree) (f : End) → Carries s t e l f → f ≡ ended → l ≡ t
carries_all s t e l unended c n = cc
carries_all s t e l ended c n = c.1
carries_all s t e l (failed d) c n = cc

-- where any end came, all came but as many as there are places
carries_few : (s : ℕ) (t : List Tree) (e : End) (l : List Tree) (f : End) → Carries s t e l f → f ≢ unended → length t ≤ length l + s
carries_few s t e l unended c n = absurd (n refl)
carries_few s t e l ended c n = let same = ap length c.1 in omega (arith, same)
carries_few s t e l (failed d) c n = c.2

-- what a lane carries that keeps what came before a failure, one that does not may carry
loss_few : (keep : Bool) (s : ℕ) → loss_of keep s ≤ s
loss_few true s = omega arith
loss_few false s = omega arith

pub carries_loss : (keep : Bool) (s : ℕ) (t : List Tree) (e : End) (l : List Tree) (f : End) → Carries (loss_of keep s) t e l f → Carries s t e l f
carries_loss keep s t e l unended c = c
carries_loss keep s t e l ended c = c
carries_loss keep s t e l (failed d) c = let few = loss_few keep s in let count = c.2 in (c.0, c.1, omega (arith, few, count))

-- the counts of a wire that brings this of what was sent, which is of a list that may pass
module _ (s : ℕ) (sent got : List Item) (list m l : List Tree) (f e : End) (brought : Carries s (list_of sent) (end_of_items sent) l e)
    (sent_told : sent ≡ told m f) (part : IsPrefix m list) (got_told : got ≡ told l e) where
  carried : Carries s m f l e
  carried =
      let same_list : list_of sent ≡ m = ap list_of sent_told ∙ list_of_told m f in
      let same_end : end_of_items sent ≡ f = ap end_of_items sent_told ∙ standing_told m f in
      rw (same_list, same_end) at brought

  got_count : elements got ≡ length l
  got_count = ap elements got_told ∙ elements_told l e

  sent_count : elements sent ≡ length m
  sent_count = ap elements sent_told ∙ elements_told m f

  pub came_few : elements got ≤ elements sent
  came_few = let c = prefix_length (carries_part s m f l e carried) in omega (arith, c, got_count, sent_count)

  pub within : elements sent ≤ length list
  within = let c = prefix_length part in omega (arith, c, sent_count)

  -- what was got is told in one way
  list_same : (k : List Tree) (h : End) → got ≡ told k h → l ≡ k
  list_same k h is = sym (list_of_told l e) ∙ (ap list_of (sym got_told ∙ is) ∙ list_of_told k h)

  end_same : (k : List Tree) (h : End) → got ≡ told k h → e ≡ h
  end_same k h is = sym (standing_told l e) ∙ (ap end_of_items (sym got_told ∙ is) ∙ standing_told k h)

  pub parts : (k : List Tree) (h : End) → got ≡ told k h → IsPrefix k list
  parts k h is = subst (λ (x : List Tree). IsPrefix x list) (list_same k h is) (prefix_trans (carries_part s m f l e carried) part)

  pub few : (k : List Tree) (h : End) → got ≡ told k h → h ≢ unended → elements sent ≤ length k + s
  few k h is n =
      let count = ap length (list_same k h is) in
      let c = carries_few s m f l e carried (λ x. n (sym (end_same k h is) ∙ x)) in
      omega (arith, c, count, sent_count)

  pub all_came : (k : List Tree) → got ≡ told k ended → elements sent ≡ length k
  all_came k is =
      let same = list_same k ended is in
      sent_count ∙ (ap length (sym (carries_all s m f l e carried (end_same k ended is))) ∙ ap length same)
