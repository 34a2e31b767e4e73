-- What a table of the wires at ports knows after one more wire.
use Rattle.std.proofs.Common.{◌≡◌, ℕ, ◌+◌, ◌<◌, Bool, true, false, cond, ◌==◌, ◌&&◌, List, [], ◌∷◌, ◌++◌, length, map, take, get_or, Option, Some, None, refl, ap, sym, ◌∙◌, subst, ⊎_elim, arith}
use Rattle.std.specs.HashMap.{HashMap, Updates}
use Rattle.std.specs.Option.{option_or}
use Rattle.std.proofs.lemmas.Bool.{cases_Bool, and_parts, eqb-true}
use Rattle.std.proofs.lemmas.Grind.{common_steps}
use Rattle.std.proofs.lemmas.List.{map_more, get_or_default}
use Rattle.stream_model.specs.Graph.{Edge, find_by, find_wire, find_source}
use Rattle.blue_names.specs.First.{when}
use Rattle.blue_names.specs.Wiring.{found_in, FindsWires, FindsSources}

pub none_of : (o : Option ℕ) → ((x : ℕ) → o ≡ Some x → ⊥) → o ≡ None
none_of None h = refl
none_of (Some x) h = absurd (h x refl)

option_or-none : {X : Type 0} (o : Option X) → option_or o None ≡ o
option_or-none None = refl
option_or-none (Some x) = refl

module _ {S : Type 0} (m n : HashMap (ℕ × ℕ) ℕ S) (node port k : ℕ) (u : Updates (λ (x y : ℕ × ℕ). (x.0 == y.0) && (x.1 == y.1)) m n (node, port) (Some k)) where
  -- a wire that is noted at a port that had none
  pub noted_free : None ≡ found_in m node port → (x p : ℕ) → found_in n x p ≡ option_or (found_in m x p) (when ((node == x) && (port == p)) k)
  noted_free h x p =
      let f : found_in n x p ≡ cond ((node == x) && (port == p)) (Some k) (found_in m x p) = u.0 (x, p) in
      ⊎_elim
      (λ (t : ((node == x) && (port == p)) ≡ true).
      let both = and_parts (node == x) (port == p) t in
      let a : node ≡ x = eqb-true node x both.0 in
      let b : port ≡ p = eqb-true port p both.1 in
      let g : found_in m x p ≡ None = subst (λ y. found_in m y p ≡ None) a (subst (λ y. found_in m node y ≡ None) b (sym h)) in
      grind (arith, t, g, f))
      (λ (t : ((node == x) && (port == p)) ≡ false). grind (arith, t, f, option_or-none (found_in m x p)))
      (cases_Bool ((node == x) && (port == p)))

  -- a port that had a wire keeps it
  pub noted_again : (l : HashMap (ℕ × ℕ) ℕ S) (first : ℕ) → Updates (λ (x y : ℕ × ℕ). (x.0 == y.0) && (x.1 == y.1)) n l (node, port) (Some first) → Some first ≡ found_in m node port
      → (x p : ℕ) → found_in l x p ≡ option_or (found_in m x p) (when ((node == x) && (port == p)) k)
  noted_again l first v h x p =
      let f : found_in n x p ≡ cond ((node == x) && (port == p)) (Some k) (found_in m x p) = u.0 (x, p) in
      let e : found_in l x p ≡ cond ((node == x) && (port == p)) (Some first) (found_in n x p) = v.0 (x, p) in
      ⊎_elim
      (λ (t : ((node == x) && (port == p)) ≡ true).
      let both = and_parts (node == x) (port == p) t in
      let a : node ≡ x = eqb-true node x both.0 in
      let b : port ≡ p = eqb-true port p both.1 in
      let g : found_in m x p ≡ Some first = subst (λ y. found_in m y p ≡ Some first) a (subst (λ y. found_in m node y ≡ Some first) b (sym h)) in
      grind (arith, t, g, e))
      (λ (t : ((node == x) && (port == p)) ≡ false). grind (arith, t, e, f, option_or-none (found_in m x p)))
      (cases_Bool ((node == x) && (port == p)))

-- the first wire at a port, among wires with one more at the end
pub find_by-push : (place port : Edge → ℕ) (node p n : ℕ) (ws : List Edge) (w : Edge)
    → find_by place port node p n (ws ++ w ∷ []) ≡ option_or (find_by place port node p n ws) (when ((place w == node) && (port w == p)) (n + length ws))
find_by-push place port node p n [] w = grind arith
find_by-push place port node p n (v ∷ ws) w = grind (arith, find_by-push place port node p (n + 1) ws w)

module _ {L S : Type 0} (g : L → Edge) (m n : HashMap (ℕ × ℕ) ℕ S) (ls : List L) (i : ℕ) (l : L) (place port : Edge → ℕ) (lt : i < length ls) (is : l ≡ get_or ls i l)
    (new : (x p : ℕ) → found_in n x p ≡ option_or (found_in m x p) (when ((place (g l) == x) && (port (g l) == p)) i)) where
  -- one more wire in the table and in the list
  found-more : ((x p : ℕ) → found_in m x p ≡ find_by place port x p 0 (map g (take i ls))) → (x p : ℕ) → found_in n x p ≡ find_by place port x p 0 (map g (take (i + 1) ls))
  found-more old x p =
      let t : map g (take (i + 1) ls) ≡ map g (take i ls) ++ g (get_or ls i l) ∷ [] = map_more g ls i l lt in
      let s : map g (take (i + 1) ls) ≡ map g (take i ls) ++ g l ∷ [] = t ∙ ap (λ y. map g (take i ls) ++ g y ∷ []) (sym is) in
      let len : 0 + length (map g (take i ls)) ≡ i = grind (arith, common_steps) in
      let b = find_by-push place port x p 0 (map g (take i ls)) (g l) in
      let c : find_by place port x p 0 (map g (take i ls) ++ g l ∷ []) ≡ option_or (find_by place port x p 0 (map g (take i ls))) (when ((place (g l) == x) && (port (g l) == p)) i) = rw len at b in
      new x p ∙ ap (λ o. option_or o (when ((place (g l) == x) && (port (g l) == p)) i)) (old x p) ∙ sym c ∙ sym (ap (find_by place port x p 0) s)

pub FindsWires-more : {L S : Type 0} (g : L → Edge) (m n : HashMap (ℕ × ℕ) ℕ S) (ls : List L) (i : ℕ) (l : L) → i < length ls → l ≡ get_or ls i l
    → ((x p : ℕ) → found_in n x p ≡ option_or (found_in m x p) (when (((g l).to == x) && ((g l).input == p)) i)) → FindsWires m (map g (take i ls)) → FindsWires n (map g (take (i + 1) ls))
FindsWires-more g m n ls i l lt is new old = record { wire_at = found-more g m n ls i l (λ w. w.to) (λ w. w.input) lt is new old.wire_at }

pub FindsSources-more : {L S : Type 0} (g : L → Edge) (m n : HashMap (ℕ × ℕ) ℕ S) (ls : List L) (i : ℕ) (l : L) → i < length ls → l ≡ get_or ls i l
    → ((x p : ℕ) → found_in n x p ≡ option_or (found_in m x p) (when (((g l).from == x) && ((g l).output == p)) i)) → FindsSources m (map g (take i ls)) → FindsSources n (map g (take (i + 1) ls))
FindsSources-more g m n ls i l lt is new old = record { wire_at = found-more g m n ls i l (λ w. w.from) (λ w. w.output) lt is new old.wire_at }

-- the same for the element as code reads it
pub FindsWires-at : {L S : Type 0} (g : L → Edge) (m n : HashMap (ℕ × ℕ) ℕ S) (ls : List L) (i : ℕ) (d : L) → i < length ls
    → ((x p : ℕ) → found_in n x p ≡ option_or (found_in m x p) (when (((g (get_or ls i d)).to == x) && ((g (get_or ls i d)).input == p)) i)) → FindsWires m (map g (take i ls)) → FindsWires n (map g (take (i + 1) ls))
FindsWires-at g m n ls i d lt new old = FindsWires-more g m n ls i (get_or ls i d) lt (get_or_default ls i d (get_or ls i d) lt) new old

pub FindsSources-at : {L S : Type 0} (g : L → Edge) (m n : HashMap (ℕ × ℕ) ℕ S) (ls : List L) (i : ℕ) (d : L) → i < length ls
    → ((x p : ℕ) → found_in n x p ≡ option_or (found_in m x p) (when (((g (get_or ls i d)).from == x) && ((g (get_or ls i d)).output == p)) i)) → FindsSources m (map g (take i ls)) → FindsSources n (map g (take (i + 1) ls))
FindsSources-at g m n ls i d lt new old = FindsSources-more g m n ls i (get_or ls i d) lt (get_or_default ls i d (get_or ls i d) lt) new old
