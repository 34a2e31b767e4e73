-- Each step of the output end keeps the rule of a lane.
use Rattle.std.proofs.Common.{◌≡◌, ◌≢◌, ℕ, ◌+◌, ◌*◌, ◌/◌, ◌%◌, ◌^◌, ◌<◌, ◌≤◌, List, [], ◌∷◌, ◌++◌, length, set, Option, Some, None, true, false, true≢false, slice_index, refl, sym, ap, ◌∙◌, subst, arith, length-append, length-set}
use Rattle.std.proofs.Math.Nat.{zero-mod}
use mathlib.Core.Option.{none, some}
use lib.ListN.{get_elem?}
use Rattle.atomic_table.specs.Table.{Me, step, keeps, takes, gives, chain, Valid, stepped, Allows}
use Rattle.elem_core.specs.Prefix.{IsPrefix}
use Rattle.elem_core.specs.Items.{elements}
use Rattle.elem_core.proofs.Prefixes.{prefix_refl, prefix_append, prefix_trans}
use Rattle.elem_core.specs.declared.item.Item.{Item}
use Rattle.elem_core.specs.declared.item.Item.TheVariants.{Elem, Ended, Failed}
use Rattle.lane_core.specs.declared.sight.Sight.{Sight}
use Rattle.lane_core.specs.Lane.{weight, Sound, Stored, SightFits, IsLaneState, is_new, words_of, sat, saw_asked, sent_one}
use Rattle.lane_core.proofs.Lists.{views_after, elements_first, elements-append}
use Rattle.lane_core.proofs.Moves.{Homes, nothing_new, with_sent, later_sent, fits_ring, order_le, hold, fill, sound_sent}
use Rattle.lane_core.proofs.Words.{St, words_1, stays, same_0}

-- a load of the asked word by the output end
pub sees : (size id : ℕ) (me : Me (Option Item) Sight) → me.0.sends ≡ true → me.0.gets ≡ false → Allows (IsLaneState size) (size + 1) id me 0 (λ n. n) (saw_asked (step (size + 1) 0 0 0 none) me)
sees size id me sends gets s h wide at lt =
    let v = me.0 in
    let c = h.core in
    let f = h.each id v at in
    let mine = f.sends sends in
    let n : ℕ = slice_index s.words 0 in
    let wd : n ≡ c.asked * 2 + c.cancel = ap (λ (ws : List ℕ). slice_index ws 0) h.words in
    let one = h.sound.cancel_one in
    let half : n / 2 ≡ c.asked = omega (arith, wd, one) in
    let rem : n % 2 ≡ c.cancel = omega (arith, wd, one) in
    let fn = f.number in
    let fc = f.cancel in
    let tn = f.told_number in
    let tc = f.told_cancel in
    let news : is_new v.number v.cancel (n / 2) (n % 2) ≡ is_new v.number v.cancel c.asked c.cancel = λ i. is_new v.number v.cancel (half i) (rem i) in
    let none_left : is_new (n / 2) (n % 2) c.asked c.cancel ≡ 0 = (λ i. is_new (half i) (rem i) c.asked c.cancel) ∙ nothing_new c.asked c.cancel in
    let paid = mine.3 in
    let few = mine.4 in
    let w = record v { number = n / 2; cancel = n % 2; finds = v.finds + is_new v.number v.cancel (n / 2) (n % 2); looks = v.looks + 1 } in (
      w,
      keeps,
      tt,
      stays size id 0 s h w (same_0 size s h) record {
        items = f.items;
        number = omega (arith, half);
        cancel = omega (arith, rem);
        known = f.known;
        told = f.told;
        told_number = f.told_number;
        told_cancel = f.told_cancel;
        finds = omega (arith, news, paid);
        told_finds = f.told_finds;
        closed = λ _. half;
        told_closed = f.told_closed;
        sends = λ _. (mine.0, mine.1, mine.2, omega (arith, news, none_left, paid), omega (arith, few, half, fn));
        gets = λ e. absurd (true≢false (sym e ∙ gets));
      },
      (refl, omega (arith, half, fn), omega (arith, rem, fc), omega (arith, half, tn), omega (arith, rem, tc)),
    )

-- the output end's first place
pub sits : (size id : ℕ) (me : Me (Option Item) Sight) → me.0.sends ≡ true → me.0.gets ≡ false → me.0.items ≡ [] → me.0.slots ≡ 0 → me.1 ≡ [] → Allows (IsLaneState size) (size + 1) id me 0 (λ n. n) (sat (step (size + 1) 0 0 0 none) me)
sits size id me sends gets empty no_slots no_hand s h wide at lt =
    let v = me.0 in
    let c = h.core in
    let f = h.each id v at in
    let mine = f.sends sends in
    let none_sent : length c.sent ≡ 0 = ap length (sym mine.1 ∙ empty) in
    let none_held : c.held ≡ 0 = sym mine.2 ∙ no_slots in
    let le = order_le size c h.sound in
    let at_zero : length c.sent % (size + 1) ≡ 0 = ap (λ k. k % (size + 1)) none_sent ∙ zero-mod (size + 1) in
    let held = hold size c s.homes none_held (omega (arith, le)) (omega (arith, none_sent)) h.stored in
    let w = record v { slots = 1 } in (
      w,
      takes 0 None,
      subst (λ k. get_elem? s.homes k ≡ some (some None)) at_zero held.0,
      record {
        core = record c { held = 1 };
        words = same_0 size s h ∙ h.words;
        wide = length-set s.homes 0 none ∙ h.wide;
        sound = let r = h.sound in let o = h.sound.open_end in record {
          order = r.order;
          hand_one = r.hand_one;
          held_one = omega arith;
          cancel_one = r.cancel_one;
          open_end = omega (arith, none_sent);
          end_last = r.end_last;
          used = r.used;
          bound = r.bound;
        };
        stored = subst (λ k. Stored (size + 1) (record c { held = 1 }) (set s.homes k none)) at_zero held.1;
        each = views_after (SightFits (record c { held = 1 })) s.views id w
            record {
              items = f.items;
              number = f.number;
              cancel = f.cancel;
              known = f.known;
              told = f.told;
              told_number = f.told_number;
              told_cancel = f.told_cancel;
              finds = f.finds;
              told_finds = f.told_finds;
              closed = f.closed;
              told_closed = f.told_closed;
              sends = λ _. (mine.0, mine.1, refl, mine.3, mine.4);
              gets = λ e. absurd (true≢false (sym e ∙ gets));
            }
            (λ j u ne e. seated j u (λ k. ne (k ∙ sym mine.0)) (h.each j u e));
      },
      ap (λ (l : List (ℕ × Option Item)). (w, (0, None) ∷ l)) no_hand,
    )
  where
    seated : (j : ℕ) (u : Sight) → j ≢ h.core.sender → SightFits h.core j u → SightFits (record h.core { held = 1 }) j u
    seated j u ne f = record {
      items = f.items;
      number = f.number;
      cancel = f.cancel;
      known = f.known;
      told = f.told;
      told_number = f.told_number;
      told_cancel = f.told_cancel;
      finds = f.finds;
      told_finds = f.told_finds;
      closed = f.closed;
      told_closed = f.told_closed;
      sends = λ e. absurd (ne (f.sends e).0);
      gets = f.gets;
    }

-- the sent word, after one more
pub one_more : (n : ℕ) → n + 1 < 2 ^ 64 → (n + 1) % 2 ^ 64 ≡ n + 1
one_more n h = omega (arith, h)

-- what the rule says after an item was sent
pub sent_rule : (size id : ℕ) (s : St) (h : IsLaneState size s) (v : Sight) (x : Item) (homes : Homes) → get_elem? s.views id ≡ some v → v.sends ≡ true → v.gets ≡ false → length homes ≡ size + 1
    → length h.core.sent + 1 < 2 ^ 64 → elements v.items + weight x ≤ v.number → Sound size (with_sent h.core (x ∷ []) (weight x)) → Stored (size + 1) (with_sent h.core (x ∷ []) (weight x)) homes
    → IsLaneState size record { words = set s.words 16 ((slice_index s.words 16 + 1) % 2 ^ 64); homes = homes; views = set s.views id (record v { items = v.items ++ x ∷ []; slots = weight x }) }
sent_rule size id s h v x homes at sends gets wide small few sound stored =
    let c = h.core in
    let f = h.each id v at in
    let mine = f.sends sends in
    let long = length-append c.sent (x ∷ []) in
    let sw : (slice_index s.words 16 + 1) % 2 ^ 64 ≡ length (c.sent ++ x ∷ []) = ap (λ (ws : List ℕ). (slice_index ws 16 + 1) % 2 ^ 64) h.words ∙ one_more (length c.sent) small ∙ sym long in
    let count = elements-append v.items (x ∷ []) in
    let one = elements_first x [] in
    let same : v.items ++ x ∷ [] ≡ c.sent ++ x ∷ [] = ap (λ (l : List Item). l ++ x ∷ []) mine.1 in
    let fk = f.known in record {
      core = with_sent c (x ∷ []) (weight x);
      words = words_1 s.words (c.asked * 2 + c.cancel) (length c.sent) ((slice_index s.words 16 + 1) % 2 ^ 64) h.words ∙ ap (λ (k : ℕ). words_of (c.asked * 2 + c.cancel) k) sw;
      wide = wide;
      sound = sound;
      stored = stored;
      each = views_after (SightFits (with_sent c (x ∷ []) (weight x))) s.views id (record v { items = v.items ++ x ∷ []; slots = weight x })
          record {
            items = subst (λ (l : List Item). IsPrefix l (c.sent ++ x ∷ [])) (sym same) (prefix_refl (c.sent ++ x ∷ []));
            number = f.number;
            cancel = f.cancel;
            known = omega (arith, long, fk);
            told = prefix_trans f.told (prefix_append c.sent (x ∷ []));
            told_number = f.told_number;
            told_cancel = f.told_cancel;
            finds = f.finds;
            told_finds = f.told_finds;
            closed = f.closed;
            told_closed = f.told_closed;
            sends = λ _. (mine.0, same, refl, mine.3, omega (arith, few, count, one));
            gets = λ e. absurd (true≢false (sym e ∙ gets));
          }
          (λ j u ne e. later_sent c (x ∷ []) (weight x) j u (λ k. ne (k ∙ sym mine.0)) (h.each j u e));
    }

-- the output end's seat, with an item in the place that it holds
abbrev pub Filled : ℕ → ℕ → Sight → Item → Type 0
Filled size id v x = (v.sends ≡ true) × (v.gets ≡ false) × (v.slots ≡ 1) × (elements v.items + weight x ≤ v.number) × (v.number < 2 ^ 63) × (1 ≤ size)

pub sends_end : (size id : ℕ) (v : Sight) (x : Item) → weight x ≡ 0 → Filled size id v x
    → (s : St) (h : IsLaneState size s) → get_elem? s.views id ≡ some v → IsLaneState size (stepped s 16 ((slice_index s.words 16 + 1) % 2 ^ 64) id ((length v.items % (size + 1), Some x) ∷ []) (record v { items = v.items ++ x ∷ []; slots = weight x }) gives)
sends_end size id v x end ready s h at =
    let c = h.core in
    let f = h.each id v at in
    let mine = f.sends ready.0 in
    let one : c.held ≡ 1 = sym mine.2 ∙ ready.2 in
    let same_len : length v.items ≡ length c.sent = ap length mine.1 in
    let k_is : length v.items % (size + 1) ≡ length c.sent % (size + 1) = ap (λ k. k % (size + 1)) same_len in
    let el : elements v.items ≡ elements c.sent = ap elements mine.1 in
    let le = order_le size c h.sound in
    let ring = fits_ring size c h.sound in
    let fn = f.number in
    let r3 = ready.3 in
    let r4 = ready.4 in
    let o = h.sound.open_end in
    sent_rule size id s h v x (set s.homes (length v.items % (size + 1)) (some (Some x))) at ready.0 ready.1 (length-set s.homes (length v.items % (size + 1)) (some (Some x)) ∙ h.wide) (omega (arith, o, one, el, r3, r4)) r3 (sound_sent size c x one (omega (arith, el, fn, r3)) h.sound)
    (subst (λ (k : ℕ × ℕ). Stored (size + 1) (with_sent c (x ∷ []) k.0) (set s.homes k.1 (some (Some x)))) (λ i. (sym end i, sym k_is i)) (fill size c s.homes x one h.wide (omega (arith, le)) (omega (arith, ring, one)) h.stored))

pub sends_elem : (size id : ℕ) (v : Sight) (x : Item) → weight x ≡ 1 → Filled size id v x
    → (s : St) (h : IsLaneState size s) → get_elem? s.views id ≡ some v
    → Valid s.homes ((length v.items % (size + 1), Some x) ∷ []) (chain gives (takes ((length v.items + 1) % (size + 1)) None))
    × IsLaneState size (stepped s 16 ((slice_index s.words 16 + 1) % 2 ^ 64) id ((length v.items % (size + 1), Some x) ∷ []) (record v { items = v.items ++ x ∷ []; slots = weight x }) (chain gives (takes ((length v.items + 1) % (size + 1)) None)))
sends_elem size id v x elem ready s h at =
    let c = h.core in
    let f = h.each id v at in
    let mine = f.sends ready.0 in
    let one : c.held ≡ 1 = sym mine.2 ∙ ready.2 in
    let same_len : length v.items ≡ length c.sent = ap length mine.1 in
    let k_is : length v.items % (size + 1) ≡ length c.sent % (size + 1) = ap (λ k. k % (size + 1)) same_len in
    let long = length-append c.sent (x ∷ []) in
    let next_len : length (c.sent ++ x ∷ []) ≡ length v.items + 1 = omega (arith, long, same_len) in
    let next_is : length (c.sent ++ x ∷ []) % (size + 1) ≡ (length v.items + 1) % (size + 1) = ap (λ k. k % (size + 1)) next_len in
    let el : elements v.items ≡ elements c.sent = ap elements mine.1 in
    let le = order_le size c h.sound in
    let ring = fits_ring size c h.sound in
    let fn = f.number in
    let r3 = ready.3 in
    let r4 = ready.4 in
    let o = h.sound.open_end in
    let homes1 : Homes = set s.homes (length v.items % (size + 1)) (some (Some x)) in
    let sound = sound_sent size c x one (omega (arith, el, fn, r3)) h.sound in
    let ring' = fits_ring size (with_sent c (x ∷ []) (weight x)) sound in
    let filled : Stored (size + 1) (with_sent c (x ∷ []) 0) homes1 = subst (λ k. Stored (size + 1) (with_sent c (x ∷ []) 0) (set s.homes k (some (Some x)))) (sym k_is) (fill size c s.homes x one h.wide (omega (arith, le)) (omega (arith, ring, one)) h.stored) in
    let held = hold size (with_sent c (x ∷ []) 0) homes1 refl (omega (arith, le, long)) (omega (arith, ring', elem)) filled in (
      (tt, subst (λ k. get_elem? homes1 k ≡ some (some None)) next_is held.0),
      sent_rule size id s h v x (set homes1 ((length v.items + 1) % (size + 1)) none) at ready.0 ready.1
          (length-set homes1 ((length v.items + 1) % (size + 1)) none ∙ length-set s.homes (length v.items % (size + 1)) (some (Some x)) ∙ h.wide)
          (omega (arith, o, one, el, r3, r4)) r3 sound
          (subst (λ (k : ℕ × ℕ). Stored (size + 1) (with_sent c (x ∷ []) k.0) (set homes1 k.1 none)) (λ i. (sym elem i, next_is i)) held.1),
    )

pub sends_at : (size id : ℕ) (v : Sight) (x : Item) → Filled size id v x
    → Allows (IsLaneState size) (size + 1) id (v, (length v.items % (size + 1), Some x) ∷ []) 16 (λ n. (n + 1) % 2 ^ 64) (sent_one (step (size + 1) 16 1 0 none) (v, (length v.items % (size + 1), Some x) ∷ []))
sends_at size id v (Elem e) ready s h wide at lt =
    let k = sends_elem size id v (Elem e) refl ready s h at in (
      record v { items = v.items ++ Elem e ∷ []; slots = 1 },
      chain gives (takes ((length v.items + 1) % (size + 1)) None),
      k.0,
      k.1,
      refl,
    )
sends_at size id v Ended ready s h wide at lt = (record v { items = v.items ++ Ended ∷ []; slots = 0 }, gives, tt, sends_end size id v Ended refl ready s h at, refl)
sends_at size id v (Failed d) ready s h wide at lt = (record v { items = v.items ++ Failed d ∷ []; slots = 0 }, gives, tt, sends_end size id v (Failed d) refl ready s h at, refl)

-- an item is announced
pub sends : (size id k : ℕ) (me : Me (Option Item) Sight) (x : Item) → me.1 ≡ (k, Some x) ∷ [] → k ≡ length me.0.items % (size + 1) → Filled size id me.0 x
    → Allows (IsLaneState size) (size + 1) id me 16 (λ n. (n + 1) % 2 ^ 64) (sent_one (step (size + 1) 16 1 0 none) me)
sends size id k me x has k_is ready = subst (λ (l : List (ℕ × Option Item)). Allows (IsLaneState size) (size + 1) id (me.0, l) 16 (λ n. (n + 1) % 2 ^ 64) (sent_one (step (size + 1) 16 1 0 none) (me.0, l))) (sym (has ∙ ap (λ (i : ℕ). (i, Some x) ∷ []) k_is)) (sends_at size id me.0 x ready)
