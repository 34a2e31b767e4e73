-- What a step does to the core of a lane and to its places.
use Rattle.std.proofs.Common.{◌≡◌, ◌≢◌, ℕ, suc, ◌+◌, ◌%◌, ◌<◌, ◌≤◌, List, [], ◌∷◌, ◌++◌, length, set, take, Option, Some, None, Bool, true, false, cond, ◌&&◌, ◌==◌, eq-eqb, slice_get, refl, sym, ap, ◌∙◌, subst, arith, length-append, length-set}
use Rattle.std.proofs.lemmas.List.{append-nil}
use Rattle.std.proofs.Math.Nat.{add-mod_right}
use Rattle.std.proofs.lemmas.Nat.{mod_below}
use mathlib.Core.Option.{none, some, some-ne-none, some-injective}
use mathlib.Core.Option as maybe
use native.Mathlib.Decide.{ℕ_discrete}
use lib.ListN.{get_elem?}
use Rattle.atomic_table.specs.Table.{Act, keeps, gives, Valid, carried_after, homes_after}
use Rattle.atomic_table.proofs.Lists.{set_here}
use Rattle.elem_core.specs.Prefix.{IsPrefix}
use Rattle.elem_core.specs.Items.{elements}
use Rattle.elem_core.proofs.Prefixes.{prefix_append, prefix_trans, prefix_length}
use Rattle.elem_core.specs.declared.item.Item.{Item}
use Rattle.lane_core.specs.declared.sight.Sight.{Sight}
use Rattle.lane_core.specs.Lane.{weight, LaneCore, Sound, Stored, SightFits, is_new, empty_hand}
use Rattle.lane_core.proofs.Lists.{prefix_more, some_at, get_front, get_last, set_apart, elements_first, elements-append, weight_le, elements_le, put_last}

abbrev pub Homes : Type 0
Homes = List (maybe.Option (Option Item))

-- a look finds something new once at most, and nothing where it found the same before
pub new_le : (a x b y : ℕ) → is_new a x b y ≤ 1
new_le a x b y = by_cases ((a == b) && (x == y))
  where
    by_cases : (t : Bool) → cond t 0 1 ≤ 1
    by_cases true = omega arith
    by_cases false = omega arith

pub nothing_new : (a x : ℕ) → is_new a x a x ≡ 0
nothing_new a x = ap (λ t. cond (t && (x == x)) 0 1) (eq-eqb a a refl) ∙ ap (λ t. cond t 0 1) (eq-eqb x x refl)

-- the core after more was sent
abbrev pub with_sent : LaneCore → List Item → ℕ → LaneCore
with_sent c xs h = record c { sent = c.sent ++ xs; held = h }

-- the core after a step of the input end
abbrev pub with_got : LaneCore → List Item → List Item → ℕ → ℕ → ℕ → LaneCore
with_got c taken hand asked asks cancel = record c { taken = taken; hand = hand; asked = asked; asks = asks; cancel = cancel }

pub later_sent : (c : LaneCore) (xs : List Item) (h j : ℕ) (u : Sight) → j ≢ c.sender → SightFits c j u → SightFits (with_sent c xs h) j u
later_sent c xs h j u ne f = record {
  items = prefix_trans f.items (prefix_append c.sent xs);
  number = f.number;
  cancel = f.cancel;
  known = let k = f.known in omega (arith, k, length-append c.sent xs);
  told = prefix_trans f.told (prefix_append c.sent xs);
  told_number = f.told_number;
  told_cancel = f.told_cancel;
  finds = f.finds;
  told_finds = f.told_finds;
  closed = f.closed;
  told_closed = f.told_closed;
  sends = λ e. absurd (ne (f.sends e).0);
  gets = f.gets;
}

-- what is new to find after a step of the input end is paid by that step
abbrev pub Pays : LaneCore → ℕ → ℕ → ℕ → Type 0
Pays c asked asks cancel = (number mark : ℕ) → is_new number mark asked cancel + (c.asks + c.cancel) ≤ is_new number mark c.asked c.cancel + (asks + cancel)

pub later_got : (c : LaneCore) (taken hand : List Item) (asked asks cancel j : ℕ) (u : Sight) → c.asked ≤ asked → c.asks ≤ asks → c.cancel ≤ cancel → (1 ≤ c.cancel → asked ≡ c.asked) → Pays c asked asks cancel → j ≢ c.receiver → SightFits c j u → SightFits (with_got c taken hand asked asks cancel) j u
later_got c taken hand asked asks cancel j u more again once frozen pays ne f = record {
  items = f.items;
  number = let k = f.number in omega (arith, k);
  cancel = let k = f.cancel in omega (arith, k);
  known = f.known;
  told = f.told;
  told_number = let k = f.told_number in omega (arith, k);
  told_cancel = let k = f.told_cancel in omega (arith, k);
  finds = let k = f.finds in omega (arith, k);
  told_finds = let k = f.told_finds in omega (arith, k);
  closed = λ e. let k = f.cancel in f.closed e ∙ sym (frozen (omega (arith, e, k)));
  told_closed = λ e. let k = f.told_cancel in f.told_closed e ∙ sym (frozen (omega (arith, e, k)));
  sends = λ e. let g = f.sends e in let k = g.3 in let p = pays u.number u.cancel in (g.0, g.1, g.2, omega (arith, k, p), g.4);
  gets = λ e. absurd (ne (f.gets e).0);
}

-- what was sent fits the ring
pub fits_ring : (size : ℕ) (c : LaneCore) → Sound size c → length c.sent + c.held ≤ length c.taken + (size + 1)
fits_ring size c s = let a = s.open_end in let b = s.used in let d = s.bound in let e = elements_le c.taken in omega (arith, a, b, d, e)

pub order_le : (size : ℕ) (c : LaneCore) → Sound size c → length c.taken + length c.hand ≤ length c.sent
order_le size c s = let a = prefix_length s.order in omega (arith, a, length-append c.taken c.hand)

-- the place in hand goes back
abbrev pub returned : LaneCore → LaneCore
returned c = record c { taken = c.taken ++ c.hand; hand = [] }

pub sound_back : (size : ℕ) (c : LaneCore) → Sound size c → Sound size (returned c)
sound_back size c s = record {
  order = subst (λ (l : List Item). IsPrefix l c.sent) (sym (append-nil (c.taken ++ c.hand))) s.order;
  hand_one = omega arith;
  held_one = s.held_one;
  cancel_one = s.cancel_one;
  open_end = s.open_end;
  end_last = s.end_last;
  used = s.used;
  bound = let b = s.bound in omega (arith, b, elements-append c.taken c.hand);
}

abbrev pub Back : ℕ → LaneCore → Homes → List (ℕ × Option Item) → Type 0
Back n c homes car = (a : Act (Option Item)) × Valid homes car a × (carried_after car a ≡ []) × (length (homes_after homes car a) ≡ length homes) × Stored n (returned c) (homes_after homes car a)

pub back_none : (size : ℕ) (c : LaneCore) (homes : Homes) → c.hand ≡ [] → Stored (size + 1) c homes → Back (size + 1) c homes []
back_none size c homes is st =
    let long : length (c.taken ++ c.hand) ≡ length c.taken = ap (λ h. length (c.taken ++ h)) is ∙ ap length (append-nil c.taken) in
    let none_there : length c.hand ≡ 0 = ap length is in (
      keeps,
      tt,
      refl,
      refl,
      record {
        waiting = λ p a b. st.waiting p (omega (arith, a, long, none_there)) b;
        free = λ p a b. st.free p a (omega (arith, b, long));
      },
    )

pub back_one : (size : ℕ) (c : LaneCore) (homes : Homes) (x : Item) → c.hand ≡ x ∷ [] → length homes ≡ size + 1 → Sound size c → Stored (size + 1) c homes
    → Back (size + 1) c homes ((length c.taken % (size + 1), None) ∷ [])
back_one size c homes x is wide s st =
    let n : ℕ = size + 1 in
    let one : length c.hand ≡ 1 = ap length is in
    let long : length (c.taken ++ c.hand) ≡ length c.taken + 1 = length-append c.taken c.hand ∙ ap (λ k. length c.taken + k) one in
    let ring = fits_ring size c s in
    let le = order_le size c s in (
      gives,
      tt,
      refl,
      length-set homes (length c.taken % n) (some None),
      record {
        waiting = λ p a b. set_apart homes p (length c.taken) n (some None) (omega (arith, ring, b)) (omega (arith, a, long)) (λ e. absurd (omega (arith, a, long, e))) ∙ st.waiting p (omega (arith, a, long, one)) b;
        free = λ p a b. freed one long ring le p a b (ℕ_discrete p (length c.taken + n));
      },
    )
  where
    freed : length c.hand ≡ 1 → length (c.taken ++ c.hand) ≡ length c.taken + 1 → length c.sent + c.held ≤ length c.taken + (size + 1) → length c.taken + length c.hand ≤ length c.sent
        → (p : ℕ) → length c.sent + c.held ≤ p → p < length (c.taken ++ c.hand) + (size + 1) → Dec (p ≡ length c.taken + (size + 1)) → get_elem? (set homes (length c.taken % (size + 1)) (some None)) (p % (size + 1)) ≡ some (some None)
    freed one long ring le p a b (yes e) =
        let same : p % (size + 1) ≡ length c.taken % (size + 1) = ap (λ k. k % (size + 1)) e ∙ add-mod_right (length c.taken) (size + 1) in
        let below = mod_below (length c.taken) (size + 1) (omega arith) in
        subst (λ k. get_elem? (set homes (length c.taken % (size + 1)) (some None)) k ≡ some (some None)) (sym same) (set_here homes (length c.taken % (size + 1)) (some None) (subst (λ k. length c.taken % (size + 1) < k) (sym wide) below))
    freed one long ring le p a b (no ne) =
        let near : p < length c.taken + (size + 1) = omega (arith, b, long, ne) in
        set_apart homes p (length c.taken) (size + 1) (some None) near (omega (arith, a, le)) (λ e. absurd (omega (arith, a, le, one, e))) ∙ st.free p a near

-- the input end's seat has the place of the item in hand, or none
pub back : (size : ℕ) (c : LaneCore) (homes : Homes) (hand : List Item) (car : List (ℕ × Option Item)) → c.hand ≡ hand → car ≡ empty_hand (length hand) (length c.taken % (size + 1)) → length homes ≡ size + 1 → Sound size c → Stored (size + 1) c homes
    → Back (size + 1) c homes car
back size c homes [] car is has wide s st = subst (Back (size + 1) c homes) (sym has) (back_none size c homes is st)
back size c homes (x ∷ []) car is has wide s st = subst (Back (size + 1) c homes) (sym has) (back_one size c homes x is wide s st)
back size c homes (x ∷ y ∷ r) car is has wide s st = let h = s.hand_one in let e : length c.hand ≡ suc (suc (length r)) = ap length is in absurd (omega (arith, h, e))

-- the next item is taken into the hand
pub lift : (size : ℕ) (c : LaneCore) (homes : Homes) → c.hand ≡ [] → length c.taken < length c.sent → Sound size c → Stored (size + 1) c homes
    → (x : Item) × (get_elem? homes (length c.taken % (size + 1)) ≡ some (some (Some x))) × Sound size (record c { hand = x ∷ [] }) × Stored (size + 1) (record c { hand = x ∷ [] }) (set homes (length c.taken % (size + 1)) none)
lift size c homes is lt s st =
    let none_there : length c.hand ≡ 0 = ap length is in
    let ring = fits_ring size c s in
    let begins : IsPrefix c.taken c.sent = subst (λ (l : List Item). IsPrefix l c.sent) (ap (λ h. c.taken ++ h) is ∙ append-nil c.taken) s.order in
    let it = some_at c.sent (length c.taken) lt in (
      it.0,
      st.waiting (length c.taken) (omega (arith, none_there)) lt ∙ ap (λ (o : Option Item). some (some o)) it.1,
      record {
        order = prefix_more c.taken c.sent it.0 begins it.1;
        hand_one = omega arith;
        held_one = s.held_one;
        cancel_one = s.cancel_one;
        open_end = s.open_end;
        end_last = s.end_last;
        used = s.used;
        bound = s.bound;
      },
      record {
        waiting = λ p a b. set_apart homes p (length c.taken) (size + 1) none (omega (arith, ring, b)) (omega (arith, a)) (λ e. absurd (omega (arith, a, e))) ∙ st.waiting p (omega (arith, a, none_there)) b;
        free = λ p a b. set_apart homes p (length c.taken) (size + 1) none b (omega (arith, a, lt)) (λ e. absurd (omega (arith, a, lt, e))) ∙ st.free p a b;
      },
    )

-- the output end takes the next place, which is empty
pub hold : (size : ℕ) (c : LaneCore) (homes : Homes) → c.held ≡ 0 → length c.taken ≤ length c.sent → length c.sent + 1 ≤ length c.taken + (size + 1) → Stored (size + 1) c homes
    → (get_elem? homes (length c.sent % (size + 1)) ≡ some (some None)) × Stored (size + 1) (record c { held = 1 }) (set homes (length c.sent % (size + 1)) none)
hold size c homes none_held le room st = (
  st.free (length c.sent) (omega (arith, none_held)) (omega (arith, room)),
  record {
    waiting = λ p a b. set_apart homes p (length c.sent) (size + 1) none (omega (arith, b)) (omega (arith, a, room)) (λ e. absurd (omega (arith, b, e))) ∙ st.waiting p a b;
    free = λ p a b. set_apart homes p (length c.sent) (size + 1) none (omega (arith, b, le)) (omega (arith, a)) (λ e. absurd (omega (arith, a, e))) ∙ st.free p (omega (arith, a, none_held)) b;
  },
)

-- an item goes to the place that the output end has
pub fill : (size : ℕ) (c : LaneCore) (homes : Homes) (x : Item) → c.held ≡ 1 → length homes ≡ size + 1 → length c.taken ≤ length c.sent → length c.sent + 1 ≤ length c.taken + (size + 1) → Stored (size + 1) c homes
    → Stored (size + 1) (with_sent c (x ∷ []) 0) (set homes (length c.sent % (size + 1)) (some (Some x)))
fill size c homes x one wide le room st =
    let long : length (c.sent ++ x ∷ []) ≡ length c.sent + 1 = length-append c.sent (x ∷ []) in record {
      waiting = λ p a b. filled p a (omega (arith, b, long)) (ℕ_discrete p (length c.sent));
      free = λ p a b. set_apart homes p (length c.sent) (size + 1) (some (Some x)) (omega (arith, b, le)) (omega (arith, a, long)) (λ e. absurd (omega (arith, a, long, e))) ∙ st.free p (omega (arith, a, long, one)) b;
    }
  where
    filled : (p : ℕ) → length c.taken + length c.hand ≤ p → p < length c.sent + 1 → Dec (p ≡ length c.sent) → get_elem? (set homes (length c.sent % (size + 1)) (some (Some x))) (p % (size + 1)) ≡ some (some (slice_get (c.sent ++ x ∷ []) p))
    filled p a b (yes e) =
        let below = mod_below (length c.sent) (size + 1) (omega arith) in
        subst (λ k. get_elem? (set homes (length c.sent % (size + 1)) (some (Some x))) (k % (size + 1)) ≡ some (some (slice_get (c.sent ++ x ∷ []) k))) (sym e)
        (set_here homes (length c.sent % (size + 1)) (some (Some x)) (subst (λ k. length c.sent % (size + 1) < k) (sym wide) below) ∙ ap (λ (o : Option Item). some (some o)) (sym (get_last c.sent x)))
    filled p a b (no ne) =
        let under : p < length c.sent = omega (arith, b, ne) in
        set_apart homes p (length c.sent) (size + 1) (some (Some x)) (omega (arith, under)) (omega (arith, a, room)) ne ∙ st.waiting p a under ∙ ap (λ (o : Option Item). some (some o)) (sym (get_front c.sent (x ∷ []) p under))

pub sound_sent : (size : ℕ) (c : LaneCore) (x : Item) → c.held ≡ 1 → elements c.sent + weight x ≤ c.asked → Sound size c → Sound size (with_sent c (x ∷ []) (weight x))
sound_sent size c x one room s =
    let e = elements-append c.sent (x ∷ []) in
    let w = elements_first x [] in
    let l = length-append c.sent (x ∷ []) in
    let o = s.open_end in
    let few = elements_le c.sent in
    let count : elements (c.sent ++ x ∷ []) ≡ length c.sent + weight x = omega (arith, e, w, o, one, few) in record {
      order = prefix_trans s.order (prefix_append c.sent (x ∷ []));
      hand_one = s.hand_one;
      held_one = weight_le x;
      cancel_one = s.cancel_one;
      open_end = omega (arith, e, w, l, o, one);
      end_last = ap (λ (n : ℕ). elements (take n (c.sent ++ x ∷ []))) count ∙ put_last c.sent x (length c.sent + weight x) (omega (arith, o, one)) refl ∙ sym count;
      used = omega (arith, e, w, room);
      bound = s.bound;
    }
