-- The table at its start, and the seats that are cut and joined, keep the rule of a lane.
use Rattle.std.proofs.Common.{◌≡◌, ◌≢◌, ⊎_elim, ℕ, zero, suc, ◌+◌, ◌%◌, List, [], ◌∷◌, ◌++◌, length, set, replicate, Option, None, true, true≢false, refl, sym, ◌∙◌, subst, arith, length-set}
use Rattle.std.proofs.lemmas.Nat.{mod_below}
use mathlib.Core.Option.{none, some, some-ne-none, some-injective}
use lib.ListN.{get_elem?, length-map, length-replicate}
use Rattle.atomic_table.specs.Table.{Me, step, keeps, Allows, Splits, Joins, opening}
use Rattle.atomic_table.proofs.Lists.{at_set, set_again}
use Rattle.elem_core.specs.Prefix.{IsPrefix}
use Rattle.elem_core.proofs.Prefixes.{prefix_nil}
use Rattle.elem_core.specs.declared.item.Item.{Item}
use Rattle.lane_core.specs.declared.sight.Sight.{Sight}
use Rattle.lane_core.specs.Lane.{SightFits, IsLaneState, both_ends, nobody, input_sight, output_end, note, informed, compared}
use Rattle.lane_core.proofs.Lists.{at_end, all_vacant, views_after}
use Rattle.lane_core.proofs.Words.{St, stays, same_0}

pub opens : (size : ℕ) → IsLaneState size (opening (replicate 17 0) (replicate (size + 1) None) both_ends)
opens size = record {
  core = record { sent = []; taken = []; hand = []; held = 0; asked = 0; asks = 0; cancel = 0; sender = 0; receiver = 0 };
  words = refl;
  wide = length-map (replicate (size + 1) None) (λ (o : Option Item). some o) ∙ length-replicate (size + 1) None;
  sound = record {
    order = prefix_nil [];
    hand_one = omega arith;
    held_one = omega arith;
    cancel_one = omega arith;
    open_end = omega arith;
    end_last = refl;
    used = omega arith;
    bound = omega arith;
  };
  stored = record {
    waiting = λ p a b. absurd (omega (arith, b));
    free = λ p a b. all_vacant (size + 1) (p % (size + 1)) None (mod_below p (size + 1) (omega arith));
  };
  each = one;
}
  where
    one : (j : ℕ) (v : Sight) → get_elem? (both_ends ∷ []) j ≡ some v → SightFits record { sent = []; taken = []; hand = []; held = 0; asked = 0; asks = 0; cancel = 0; sender = 0; receiver = 0 } j v
    one zero v e = subst (SightFits record { sent = []; taken = []; hand = []; held = 0; asked = 0; asks = 0; cancel = 0; sender = 0; receiver = 0 } 0) (some-injective both_ends v e) record {
      items = prefix_nil [];
      number = omega arith;
      cancel = omega arith;
      known = omega arith;
      told = prefix_nil [];
      told_number = omega arith;
      told_cancel = omega arith;
      finds = omega arith;
      told_finds = omega arith;
      closed = λ k. absurd (omega (arith, k));
      told_closed = λ k. absurd (omega (arith, k));
      sends = λ _. (refl, refl, refl, omega arith, omega arith);
      gets = λ _. (refl, refl, refl, refl, refl, refl);
    }
    one (suc j) v e = absurd (some-ne-none v (sym e))

pub compares : (size id : ℕ) (me : Me (Option Item) Sight) → Allows (IsLaneState size) (size + 1) id me 0 (λ n. n) (compared (step (size + 1) 0 0 0 none) me)
compares size id me s h wide at lt =
    let v = me.0 in
    let c = h.core in
    let f = h.each id v at in (
      v,
      keeps,
      tt,
      stays size id 0 s h v (same_0 size s h) f,
      (
        refl,
        λ e. subst (λ (l : List Item). IsPrefix v.told l) (sym (f.sends e).1) f.told,
        λ e. let g = f.gets e in let gn = g.3 in let gc = g.4 in let ga = g.5 in let tn = f.told_number in let tc = f.told_cancel in let tf = f.told_finds in (omega (arith, gn, tn), omega (arith, gc, tc), omega (arith, gc, ga, tf), λ k. f.told_closed k ∙ sym gn),
      ),
    )

-- the same core, with other views
pub viewed : (size : ℕ) (s : St) (h : IsLaneState size s) (views : List Sight) → ((j : ℕ) (u : Sight) → get_elem? views j ≡ some u → SightFits h.core j u) → IsLaneState size record { words = s.words; homes = s.homes; views = views }
viewed size s h views each = record { core = h.core; words = h.words; wide = h.wide; sound = h.sound; stored = h.stored; each = each }

-- one end writes a note of what it knows
pub notes : (size id : ℕ) (v : Sight) → Splits (IsLaneState size) id v v (note v)
notes size id v s h at = viewed size s h (set s.views id v ++ note v ∷ []) (λ j u e. ⊎_elim (λ t. h.each j u (subst (λ (l : List Sight). get_elem? l j ≡ some u) (set_again s.views id v at) t.1)) (λ t. subst (SightFits h.core j) t.1 (noted j)) (at_end (set s.views id v) (note v) u j e))
  where
    noted : (j : ℕ) → SightFits h.core j (note v)
    noted j =
        let f = h.each id v at in record {
          items = f.items;
          number = f.number;
          cancel = f.cancel;
          known = f.known;
          told = prefix_nil h.core.sent;
          told_number = omega arith;
          told_cancel = omega arith;
          finds = f.finds;
          told_finds = omega arith;
          closed = f.closed;
          told_closed = λ k. absurd (omega (arith, k));
          sends = λ e. absurd (true≢false (sym e));
          gets = λ e. absurd (true≢false (sym e));
        }

-- the other end takes it in
pub joins : (size id : ℕ) (v : Sight) (other : ℕ) (w : Sight) → Joins (IsLaneState size) id v other w (informed v w) nobody
joins size id v other w s h at ne there =
    let f = h.each id v at in
    let t = ⊎_elim (λ (t : (other ≡ id) × (informed v w ≡ w)). absurd (ne t.0)) (λ (t : (other ≢ id) × (get_elem? s.views other ≡ some w)). h.each other w t.1) (at_set s.views id other (informed v w) w there) in
    viewed size s h (set (set s.views id (informed v w)) other nobody)
    (views_after (SightFits h.core) (set s.views id (informed v w)) other nobody (blank other)
    (λ j u _ e. views_after (SightFits h.core) s.views id (informed v w)
    record {
      items = f.items;
      number = f.number;
      cancel = f.cancel;
      known = f.known;
      told = t.items;
      told_number = t.number;
      told_cancel = t.cancel;
      finds = f.finds;
      told_finds = t.finds;
      closed = f.closed;
      told_closed = t.closed;
      sends = f.sends;
      gets = f.gets;
    }
    (λ i y _ a. h.each i y a) j u e))
  where
    blank : (j : ℕ) → SightFits h.core j nobody
    blank j = record {
      items = prefix_nil h.core.sent;
      number = omega arith;
      cancel = omega arith;
      known = omega arith;
      told = prefix_nil h.core.sent;
      told_number = omega arith;
      told_cancel = omega arith;
      finds = omega arith;
      told_finds = omega arith;
      closed = λ k. absurd (omega (arith, k));
      told_closed = λ k. absurd (omega (arith, k));
      sends = λ e. absurd (true≢false (sym e));
      gets = λ e. absurd (true≢false (sym e));
    }

-- the table's first seat is cut into the two ends
pub parts : (size id : ℕ) (v : Sight) → v.sends ≡ true → v.gets ≡ true → Splits (IsLaneState size) id v (input_sight v) (output_end v)
parts size id v sends gets s h at = record {
  core = record h.core { sender = length s.views };
  words = h.words;
  wide = h.wide;
  sound = let r = h.sound in record { order = r.order; hand_one = r.hand_one; held_one = r.held_one; cancel_one = r.cancel_one; open_end = r.open_end; end_last = r.end_last; used = r.used; bound = r.bound };
  stored = record { waiting = h.stored.waiting; free = h.stored.free };
  each = λ j u e. ⊎_elim (λ t. olds j u t.1) (λ t. subst (SightFits (record h.core { sender = length s.views }) j) t.1 (new j (t.0 ∙ length-set s.views id (input_sight v)))) (at_end (set s.views id (input_sight v)) (output_end v) u j e);
}
  where
    new : (j : ℕ) → j ≡ length s.views → SightFits (record h.core { sender = length s.views }) j (output_end v)
    new j here =
        let f = h.each id v at in
        let m = f.sends sends in record {
          items = f.items;
          number = f.number;
          cancel = f.cancel;
          known = f.known;
          told = f.told;
          told_number = f.told_number;
          told_cancel = f.told_cancel;
          finds = f.finds;
          told_finds = f.told_finds;
          closed = f.closed;
          told_closed = f.told_closed;
          sends = λ _. (here, m.1, m.2, m.3, m.4);
          gets = λ e. absurd (true≢false (sym e));
        }

    olds : (j : ℕ) (u : Sight) → get_elem? (set s.views id (input_sight v)) j ≡ some u → SightFits (record h.core { sender = length s.views }) j u
    olds = views_after (SightFits (record h.core { sender = length s.views })) s.views id (input_sight v)
        (let f = h.each id v at in record {
          items = f.items;
          number = f.number;
          cancel = f.cancel;
          known = f.known;
          told = f.told;
          told_number = f.told_number;
          told_cancel = f.told_cancel;
          finds = f.finds;
          told_finds = f.told_finds;
          closed = f.closed;
          told_closed = f.told_closed;
          sends = λ e. absurd (true≢false (sym e));
          gets = f.gets;
        })
        (λ j u ne e. let f = h.each j u e in record {
          items = f.items;
          number = f.number;
          cancel = f.cancel;
          known = f.known;
          told = f.told;
          told_number = f.told_number;
          told_cancel = f.told_cancel;
          finds = f.finds;
          told_finds = f.told_finds;
          closed = f.closed;
          told_closed = f.told_closed;
          sends = λ y. absurd (ne ((f.sends y).0 ∙ sym ((h.each id v at).sends sends).0));
          gets = f.gets;
        })
