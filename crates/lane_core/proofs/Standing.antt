-- What is known of two ends that have met stands as long as both keep what they have.
use Rattle.std.specs.Prelude.{◌⊎◌, ◌↔◌, IsTrue}
use Rattle.std.proofs.Common.{◌≡◌, ℕ, ◌<◌, List, length, sym, ap, subst, ◌∙◌, arith}
use Rattle.elem_core.specs.Prefix.{IsPrefix}
use Rattle.elem_core.specs.Items.{elements}
use Rattle.elem_core.specs.declared.item.Item.{Item}
use Rattle.lane_core.specs.declared.lane_out.LaneOut.{LaneOut}
use Rattle.lane_core.specs.declared.lane_in.LaneIn.{LaneIn}
use Rattle.lane_core.specs.declared.room.Waits.{Waits}
use Rattle.lane_core.specs.Ends.{sent, seen_count, saw_cancel, taken_items, asked_in_all, has_cancelled, EndIsLast, IsLaneHistory, WaitsAre}
use Rattle.lane_core.specs.Meeting.{KeepsOut, KeepsIn}

pub history_stands : (o p : LaneOut) (i j : LaneIn) → KeepsOut o p → KeepsIn i j → IsLaneHistory o i → IsLaneHistory p j
history_stands o p i j ko ki h =
    let sends = ap elements ko.sent in
    let takes = ap elements ki.taken in
    record {
      prefix = subst (λ (l : List Item). IsPrefix l (sent p)) (sym ki.taken) (subst (λ (l : List Item). IsPrefix (taken_items i) l) (sym ko.sent) h.prefix);
      last = subst (λ (l : List Item). EndIsLast l) (sym ko.sent) h.last;
      used = let u = h.used in let s = ko.seen in omega (arith, sends, u, s);
      seen_asked = let a = h.seen_asked in let s = ko.seen in let t = ki.asked in omega (arith, a, s, t);
      bound = let b = h.bound in let t = ki.asked in let n = ki.same.1 in omega (arith, b, t, n, takes);
      cancel = let c = h.cancel in let s = ko.cancel in let t = ki.cancel in omega (arith, c, s, t);
      closed = λ e. ko.seen ∙ h.closed (sym ko.cancel ∙ e) ∙ sym ki.asked;
      finds = let f = h.finds in let s = ko.finds in let t = ki.asks in let c = ki.cancel in omega (arith, f, s, t, c);
      sizes = ko.same.1 ∙ (h.sizes ∙ sym ki.same.1);
    }

-- what waits, by the lists and the numbers alone
abbrev WaitBy : List Item → ℕ → ℕ → List Item → ℕ → ℕ → Waits → Type 0
WaitBy s n c t m d w = (IsTrue w.item ↔ (length t < length s)) × (IsTrue w.demand ↔ ((n < m) ⊎ (c < d)))

same_wait : (s s' : List Item) (n n' c c' : ℕ) (t t' : List Item) (m m' d d' : ℕ) (w : Waits) → s' ≡ s → n' ≡ n → c' ≡ c → t' ≡ t → m' ≡ m → d' ≡ d → WaitBy s n c t m d w → WaitBy s' n' c' t' m' d' w
same_wait s s' n n' c c' t t' m m' d d' w es en ec et em ed h = rw (es, en, ec, et, em, ed) h

pub waits_stand : (o p : LaneOut) (i j : LaneIn) (w : Waits) → KeepsOut o p → KeepsIn i j → WaitsAre o i w → WaitsAre p j w
waits_stand o p i j w ko ki h =
    same_wait (sent o) (sent p) (seen_count o) (seen_count p) (saw_cancel o) (saw_cancel p) (taken_items i) (taken_items j) (asked_in_all i) (asked_in_all j) (has_cancelled i) (has_cancelled j) w ko.sent ko.seen ko.cancel ki.taken ki.asked ki.cancel h
