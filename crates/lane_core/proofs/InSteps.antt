-- Each step of the input end keeps the rule of a lane.
use Rattle.std.proofs.Common.{◌≡◌, inl, inr, ℕ, ◌+◌, ◌-◌, ◌*◌, ◌/◌, ◌%◌, ◌^◌, ◌<◌, ◌≤◌, List, [], ◌∷◌, ◌++◌, length, set, Option, Some, None, true, false, true≢false, slice_index, bit_or, refl, sym, ap, ◌∙◌, subst, arith, length-append, length-set}
use Rattle.std.proofs.lemmas.List.{append-nil}
use mathlib.Core.Option.{none, some}
use native.Mathlib.Decide.{dec_lt}
use lib.ListN.{get_elem?}
use Rattle.atomic_table.specs.Table.{Me, step, Act, keeps, takes, chain, Valid, carried_after, homes_after, stepped, Allows}
use Rattle.elem_core.specs.Prefix.{IsPrefix}
use Rattle.elem_core.specs.Items.{elements}
use Rattle.elem_core.proofs.Prefixes.{prefix_length}
use Rattle.elem_core.specs.declared.item.Item.{Item}
use Rattle.lane_core.specs.declared.sight.Sight.{Sight}
use Rattle.lane_core.specs.Lane.{Sound, Stored, SightFits, IsLaneState, words_of, empty_hand, saw_sent, asked_more, cancelled}
use Rattle.lane_core.proofs.Lists.{views_after, elements-append}
use Rattle.lane_core.proofs.Moves.{Homes, new_le, with_got, Pays, later_got, order_le, returned, sound_back, Back, back, lift}
use Rattle.lane_core.proofs.Words.{St, or_one, words_0, same_1}

-- what the rule says after a step of the input end
pub got_rule : (size id i n : ℕ) (s : St) (h : IsLaneState size s) (v w : Sight) (taken hand : List Item) (asked asks cancel : ℕ) (homes : Homes) → get_elem? s.views id ≡ some v → v.gets ≡ true → h.core.asked ≤ asked → h.core.asks ≤ asks → h.core.cancel ≤ cancel → (1 ≤ h.core.cancel → asked ≡ h.core.asked) → Pays h.core asked asks cancel
    → set s.words i n ≡ words_of (asked * 2 + cancel) (length h.core.sent) → length homes ≡ size + 1
    → Sound size (with_got h.core taken hand asked asks cancel) → Stored (size + 1) (with_got h.core taken hand asked asks cancel) homes → SightFits (with_got h.core taken hand asked asks cancel) id w
    → IsLaneState size record { words = set s.words i n; homes = homes; views = set s.views id w }
got_rule size id i n s h v w taken hand asked asks cancel homes at gets more again once frozen pays words wide sound stored fits = record {
  core = with_got h.core taken hand asked asks cancel;
  words = words;
  wide = wide;
  sound = sound;
  stored = stored;
  each = views_after (SightFits (with_got h.core taken hand asked asks cancel)) s.views id w fits
      (λ j u ne e. later_got h.core taken hand asked asks cancel j u more again once frozen pays (λ k. ne (k ∙ sym ((h.each id v at).gets gets).0)) (h.each j u e));
}

-- the place that the input end's seat has in hand
abbrev pub Emptied : ℕ → Me (Option Item) Sight → Type 0
Emptied size me = (me.0.gets ≡ true) × (me.0.sends ≡ false) × (me.1 ≡ empty_hand me.0.slots ((length me.0.items - 1) % (size + 1)))

pub hand_is : (size : ℕ) (taken hand items : List Item) (slots : ℕ) → length hand ≤ 1 → items ≡ taken ++ hand → slots ≡ length hand → empty_hand slots ((length items - 1) % (size + 1)) ≡ empty_hand (length hand) (length taken % (size + 1))
hand_is size taken [] items slots one is sl = ap (λ k. empty_hand k ((length items - 1) % (size + 1))) sl
hand_is size taken (x ∷ []) items slots one is sl =
    let l : length items ≡ length taken + 1 = ap length is ∙ length-append taken (x ∷ []) in
    let p : length items - 1 ≡ length taken = omega (arith, l) in
    ap (λ k. empty_hand k ((length items - 1) % (size + 1))) sl ∙ ap (λ (k : ℕ). (k % (size + 1), None) ∷ []) p
hand_is size taken (x ∷ y ∷ hand) items slots one is sl = absurd (omega (arith, one))

-- the input end's place goes back
pub gives_back : (size id : ℕ) (me : Me (Option Item) Sight) (s : St) (h : IsLaneState size s) → Emptied size me → get_elem? s.views id ≡ some me.0 → Back (size + 1) h.core s.homes me.1
gives_back size id me s h hand at =
    let c = h.core in
    let g = (h.each id me.0 at).gets hand.0 in
    back size c s.homes c.hand me.1 refl (hand.2 ∙ hand_is size c.taken c.hand me.0.items me.0.slots h.sound.hand_one g.1 g.2) h.wide h.sound h.stored

-- more is asked
pub asks : (size id k : ℕ) (me : Me (Option Item) Sight) → Emptied size me → me.0.number + k ≤ elements me.0.items + size → me.0.number + k < 2 ^ 62 → me.0.cancel ≡ 0
    → Allows (IsLaneState size) (size + 1) id me 0 (λ n. (n + 2 * k) % 2 ^ 64) (asked_more (step (size + 1) 0 (2 * k) 0 none) me)
asks size id k me hand bound small live s h wide at lt =
    let v = me.0 in
    let c = h.core in
    let f = h.each id v at in
    let g = f.gets hand.0 in
    let b = gives_back size id me s h hand at in
    let sb = sound_back size c h.sound in
    let num = g.3 in
    let can = g.4 in
    let el : elements v.items ≡ elements (c.taken ++ c.hand) = ap elements g.1 in
    let used = sb.used in
    let wd : (slice_index s.words 0 + 2 * k) % 2 ^ 64 ≡ (c.asked + k) * 2 + c.cancel = ap (λ (ws : List ℕ). (slice_index ws 0 + 2 * k) % 2 ^ 64) h.words ∙ fits (c.asked * 2 + c.cancel) k c.asked c.cancel (omega (arith, num, small)) (omega (arith, can, live)) in
    let half : 2 * k / 2 ≡ k = omega arith in
    let w = record v { number = v.number + 2 * k / 2; asks = v.asks + 1; slots = 0 } in
    let count = g.5 in
    let ff = f.finds in
    let ftf = f.told_finds in
    let ftc = f.told_cancel in
    let ft = f.told_number in (
      w,
      b.0,
      b.1,
      got_rule size id 0 ((slice_index s.words 0 + 2 * k) % 2 ^ 64) s h v w (c.taken ++ c.hand) [] (c.asked + k) (c.asks + 1) c.cancel (homes_after s.homes me.1 b.0) at hand.0 (omega arith) (omega arith) (omega arith) (λ one. absurd (omega (arith, one, can, live))) (λ number mark. let few = new_le number mark (c.asked + k) c.cancel in omega (arith, few))
          (words_0 s.words (c.asked * 2 + c.cancel) (length c.sent) ((slice_index s.words 0 + 2 * k) % 2 ^ 64) h.words ∙ ap (λ (n : ℕ). words_of n (length c.sent)) wd)
          (b.3 ∙ h.wide)
          record {
            order = sb.order;
            hand_one = sb.hand_one;
            held_one = sb.held_one;
            cancel_one = sb.cancel_one;
            open_end = sb.open_end;
            end_last = sb.end_last;
            used = omega (arith, used);
            bound = omega (arith, num, bound, el);
          }
          record { waiting = b.4.waiting; free = b.4.free }
          record {
            items = f.items;
            number = omega (arith, num, half);
            cancel = f.cancel;
            known = f.known;
            told = f.told;
            told_number = omega (arith, ft);
            told_cancel = f.told_cancel;
            finds = omega (arith, ff);
            told_finds = omega (arith, ftf);
            closed = λ e. absurd (omega (arith, e, live));
            told_closed = λ e. absurd (omega (arith, e, ftc, can, live));
            sends = λ e. absurd (true≢false (sym e ∙ hand.1));
            gets = λ _. (g.0, g.1 ∙ sym (append-nil (c.taken ++ c.hand)), refl, omega (arith, num, half), can, omega (arith, count));
          },
      ap (λ (l : List (ℕ × Option Item)). (w, l)) b.2,
    )
  where
    fits : (n k a b : ℕ) → a + k < 2 ^ 62 → b ≡ 0 → (a * 2 + b + 2 * k) % 2 ^ 64 ≡ (a + k) * 2 + b
    fits n k a b small live = omega (arith, small, live)

-- no more is asked
pub cancels : (size id : ℕ) (me : Me (Option Item) Sight) → me.0.gets ≡ true → me.0.sends ≡ false → me.0.number < 2 ^ 62 → me.0.cancel ≡ 0
    → Allows (IsLaneState size) (size + 1) id me 0 (λ n. bit_or n 1) (cancelled (step (size + 1) 0 1 0 none) me)
cancels size id me gets sends small live s h wide at lt =
    let v = me.0 in
    let c = h.core in
    let f = h.each id v at in
    let g = f.gets gets in
    let num = g.3 in
    let no : c.cancel ≡ 0 = sym g.4 ∙ live in
    let plain : c.asked * 2 + c.cancel ≡ c.asked * 2 = omega (arith, no) in
    let wd : bit_or (slice_index s.words 0) 1 ≡ c.asked * 2 + 1 = ap (λ (ws : List ℕ). bit_or (slice_index ws 0) 1) h.words ∙ ap (λ (n : ℕ). bit_or n 1) plain ∙ or_one c.asked (omega (arith, num, small)) in
    let w = record v { cancel = 1 } in
    let fc = f.told_cancel in
    let ff = f.finds in
    let ftf = f.told_finds in
    let r = h.sound in (
      w,
      keeps,
      tt,
      got_rule size id 0 (bit_or (slice_index s.words 0) 1) s h v w c.taken c.hand c.asked c.asks 1 s.homes at gets (omega arith) (omega arith) (omega (arith, no)) (λ one. refl) (λ number mark. let few = new_le number mark c.asked 1 in omega (arith, few, no))
          (words_0 s.words (c.asked * 2 + c.cancel) (length c.sent) (bit_or (slice_index s.words 0) 1) h.words ∙ ap (λ (n : ℕ). words_of n (length c.sent)) wd)
          h.wide
          record { order = r.order; hand_one = r.hand_one; held_one = r.held_one; cancel_one = omega arith; open_end = r.open_end; end_last = r.end_last; used = r.used; bound = r.bound }
          record { waiting = h.stored.waiting; free = h.stored.free }
          record {
            items = f.items;
            number = f.number;
            cancel = omega arith;
            known = f.known;
            told = f.told;
            told_number = f.told_number;
            told_cancel = omega (arith, fc, no);
            finds = omega (arith, ff, no);
            told_finds = omega (arith, ftf, no);
            closed = λ _. g.3;
            told_closed = f.told_closed;
            sends = λ e. absurd (true≢false (sym e ∙ sends));
            gets = λ _. (g.0, g.1, g.2, g.3, refl, g.5);
          },
      refl,
    )

pub few_taken : (taken as_is sent : List Item) (asked number : ℕ) → taken ≡ as_is → IsPrefix as_is sent → elements sent ≤ asked → number ≡ asked → elements taken ≤ number
few_taken taken as_is sent asked number same pre few is =
    let more : elements sent ≡ elements as_is + elements pre.rest = ap elements pre.is ∙ elements-append as_is pre.rest in
    let at : elements taken ≡ elements as_is = ap elements same in
    omega (arith, more, at, few, is)

-- a load of the sent word by the input end, which takes the next item if there is one
pub fetches : (size id : ℕ) (me : Me (Option Item) Sight) → Emptied size me → Allows (IsLaneState size) (size + 1) id me 16 (λ n. n) (saw_sent (step (size + 1) 16 0 0 none) me)
fetches size id me hand s h wide at lt = found (dec_lt (length (h.core.taken ++ h.core.hand)) (length h.core.sent))
  where
    found : Dec (length (h.core.taken ++ h.core.hand) < length h.core.sent)
        → (w : Sight) × (a : Act (Option Item)) × Valid s.homes me.1 a × IsLaneState size (stepped s 16 (slice_index s.words 16) id me.1 w a) × saw_sent (step (size + 1) 16 0 0 none) me (slice_index s.words 16) (w, carried_after me.1 a)
    found (yes more) =
        let v = me.0 in
        let c = h.core in
        let f = h.each id v at in
        let g = f.gets hand.0 in
        let b = gives_back size id me s h hand at in
        let sb = sound_back size c h.sound in
        let r : ℕ = slice_index s.words 16 in
        let wd : r ≡ length c.sent = ap (λ (ws : List ℕ). slice_index ws 16) h.words in
        let len : length v.items ≡ length (c.taken ++ c.hand) = ap length g.1 in
        let l = lift size (returned c) (homes_after s.homes me.1 b.0) refl more sb b.4 in
        let x = l.0 in
        let k_is : length (c.taken ++ c.hand) % (size + 1) ≡ length v.items % (size + 1) = ap (λ k. k % (size + 1)) (sym len) in
        let w = record v { items = v.items ++ x ∷ []; looks = v.looks + 1; slots = 1; known = r } in
        let same : v.items ++ x ∷ [] ≡ (c.taken ++ c.hand) ++ x ∷ [] = ap (λ (l : List Item). l ++ x ∷ []) g.1 in (
          w,
          chain b.0 (takes (length v.items % (size + 1)) (Some x)),
          (b.1, subst (λ k. get_elem? (homes_after s.homes me.1 b.0) k ≡ some (some (Some x))) k_is l.1),
          got_rule size id 16 r s h v w (c.taken ++ c.hand) (x ∷ []) c.asked c.asks c.cancel (set (homes_after s.homes me.1 b.0) (length v.items % (size + 1)) none) at hand.0 (omega arith) (omega arith) (omega arith) (λ one. refl) (λ _ _. omega arith)
              (same_1 size s h ∙ h.words)
              (length-set (homes_after s.homes me.1 b.0) (length v.items % (size + 1)) none ∙ b.3 ∙ h.wide)
              l.2
              (subst (λ k. Stored (size + 1) (with_got c (c.taken ++ c.hand) (x ∷ []) c.asked c.asks c.cancel) (set (homes_after s.homes me.1 b.0) k none)) k_is l.3)
              record {
                items = subst (λ (l : List Item). IsPrefix l c.sent) (sym same) l.2.order;
                number = f.number;
                cancel = f.cancel;
                known = omega (arith, wd);
                told = f.told;
                told_number = f.told_number;
                told_cancel = f.told_cancel;
                finds = f.finds;
                told_finds = f.told_finds;
                closed = f.closed;
                told_closed = f.told_closed;
                sends = λ e. absurd (true≢false (sym e ∙ hand.1));
                gets = λ _. (g.0, same, refl, g.3, g.4, g.5);
              },
          (omega (arith, wd, prefix_length f.told), inr (omega (arith, wd, len, more), ((x, ap (λ (l : List (ℕ × Option Item)). (w, (length v.items % (size + 1), Some x) ∷ l)) b.2), few_taken (v.items ++ x ∷ []) ((c.taken ++ c.hand) ++ x ∷ []) c.sent c.asked v.number same l.2.order h.sound.used g.3))),
        )
    found (no less) =
        let v = me.0 in
        let c = h.core in
        let f = h.each id v at in
        let g = f.gets hand.0 in
        let b = gives_back size id me s h hand at in
        let sb = sound_back size c h.sound in
        let r : ℕ = slice_index s.words 16 in
        let wd : r ≡ length c.sent = ap (λ (ws : List ℕ). slice_index ws 16) h.words in
        let len : length v.items ≡ length (c.taken ++ c.hand) = ap length g.1 in
        let le = order_le size (returned c) sb in
        let w = record v { looks = v.looks + 1; slots = 0; known = r } in (
          w,
          b.0,
          b.1,
          got_rule size id 16 r s h v w (c.taken ++ c.hand) [] c.asked c.asks c.cancel (homes_after s.homes me.1 b.0) at hand.0 (omega arith) (omega arith) (omega arith) (λ one. refl) (λ _ _. omega arith)
              (same_1 size s h ∙ h.words)
              (b.3 ∙ h.wide)
              sb
              b.4
              record {
                items = f.items;
                number = f.number;
                cancel = f.cancel;
                known = omega (arith, wd);
                told = f.told;
                told_number = f.told_number;
                told_cancel = f.told_cancel;
                finds = f.finds;
                told_finds = f.told_finds;
                closed = f.closed;
                told_closed = f.told_closed;
                sends = λ e. absurd (true≢false (sym e ∙ hand.1));
                gets = λ _. (g.0, g.1 ∙ sym (append-nil (c.taken ++ c.hand)), refl, g.3, g.4, g.5);
              },
          (omega (arith, wd, prefix_length f.told), inl (omega (arith, wd, len, less, le), ap (λ (l : List (ℕ × Option Item)). (w, l)) b.2)),
        )
