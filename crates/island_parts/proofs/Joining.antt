-- The loops over the lists of all islands.
use Rattle.std.proofs.Common.{◌≡◌, ℕ, zero, suc, ◌+◌, ◌<◌, List, [], ◌∷◌, ◌++◌, length, map, drop, get_or, Some, refl, ap, sym, ◌∙◌, subst, length-append, append_assoc, arith}
use Rattle.std.specs.Prelude.{slice_get}
use Rattle.std.specs.declared.vec.Vec.{Vec}
use Rattle.std.specs.declared.alloc.Global.{Global}
use Rattle.std.proofs.lemmas.Option.{slice_get-get_or}
use Rattle.interpreter.specs.declared.parts.Link.{Link}
use Rattle.interpreter.specs.declared.parts.Parts.{Parts}
use Rattle.interpreter.specs.declared.parts.Place.{Place}
use Rattle.interpreter.specs.declared.parts.Seated.{Seated}
use Rattle.interpreter.specs.declared.room.IslandRoom.{IslandRoom}
use Rattle.scatter.specs.Shares.{of_home, items_in, items_at, AreShares}
use Rattle.island_parts.specs.Split.{IsSpace, AreSpaces, IsPart, AreJoined, AreIslands}
use Rattle.island_parts.specs.declared.spaces.Space.{Space}
use Rattle.island_parts.specs.declared.split.Split.{Split}

-- the next of what is left of a list
pub next_of : {X : Type 0} (all : List X) (k : ℕ) (x : X) (later : List X) → drop k all ≡ x ∷ later → (slice_get all k ≡ Some x) × (drop (k + 1) all ≡ later)
next_of [] zero x later e = cc
next_of [] (suc k) x later e = cc
next_of (y ∷ ys) zero x later e = (cc, cc)
next_of (y ∷ ys) (suc k) x later e = let r = next_of ys k x later e in let plus : suc k + 1 ≡ suc (k + 1) = omega arith in (r.0, ap (λ m. drop m (y ∷ ys)) plus ∙ r.1)

-- what holds of each item of a list holds of each of one with one more
pub pushed : {X : Type 0} (P : ℕ → X → Type 0) (xs new : List X) (x : X) → new ≡ xs ++ x ∷ [] → ((k : ℕ) (y : X) → slice_get xs k ≡ Some y → P k y) → P (length xs) x → (k : ℕ) (y : X) → slice_get new k ≡ Some y → P k y
pushed {X = X} P xs new x e each last k y at = by P xs each last k y (sym (ap (λ l. slice_get l k) e) ∙ at)
  where
    by : (Q : ℕ → X → Type 0) (us : List X) → ((i : ℕ) (z : X) → slice_get us i ≡ Some z → Q i z) → Q (length us) x → (i : ℕ) (z : X) → slice_get (us ++ x ∷ []) i ≡ Some z → Q i z
    by Q [] h l zero z a = let same : x ≡ z = cc in subst (Q 0) same l
    by Q [] h l (suc i) z a = cc
    by Q (u ∷ us) h l zero z a = h 0 z a
    by Q (u ∷ us) h l (suc i) z a = by (λ j. Q (suc j)) us (λ j w b. h (suc j) w b) l i z a

-- ---- spaces

module _ {S D L H B : Type 0} (places : List (Vec Place Global)) (all : List (Vec Link Global)) where
  pub record Spacing (k : ℕ) (rest : List (Vec Link Global)) (spaces : List (Space S D L H B)) : Type 0 where
    pub counted : length spaces ≡ k
    pub left : rest ≡ drop k all
    pub within : k + length rest ≡ length all
    pub each : (i : ℕ) (s : Space S D L H B) → slice_get spaces i ≡ Some s → IsSpace (items_at places i) (items_at all i) s

  pub spacing_first : (spaces : List (Space S D L H B)) → spaces ≡ [] → Spacing 0 all spaces
  spacing_first spaces e = record { counted = ap length e; left = refl; within = omega arith; each = λ i s at. none i s (sym (ap (λ l. slice_get l i) e) ∙ at) }
    where
      none : (i : ℕ) (s : Space S D L H B) → slice_get {X = Space S D L H B} [] i ≡ Some s → IsSpace (items_at places i) (items_at all i) s
      none i s at = cc

  pub spacing_below : (k : ℕ) (rest later : List (Vec Link Global)) (l : Vec Link Global) (spaces : List (Space S D L H B)) → Spacing k rest spaces → rest ≡ l ∷ later → k < length all
  spacing_below k rest later l spaces s e = let size : length rest ≡ suc (length later) = ap length e in omega (arith, size, s.within)

  pub spacing_list : (k : ℕ) (rest later : List (Vec Link Global)) (l : Vec Link Global) (spaces : List (Space S D L H B)) → Spacing k rest spaces → rest ≡ l ∷ later → items_at all k ≡ l.items
  spacing_list k rest later l spaces s e = ap items_in (next_of all k l later (sym s.left ∙ e)).0

  pub spacing_next : (k : ℕ) (rest later : List (Vec Link Global)) (l : Vec Link Global) (p : Vec Place Global) (ps : List Place) (spaces new : List (Space S D L H B)) (s : Space S D L H B) → Spacing k rest spaces → rest ≡ l ∷ later → k < length places → p ≡ get_or places k p → ps ≡ p.items
      → IsSpace ps l.items s → new ≡ spaces ++ s ∷ [] → Spacing (k + 1) later new
  spacing_next k rest later l p ps spaces new s a e lt is same space more =
      let size : length rest ≡ suc (length later) = ap length e in
      let next = next_of all k l later (sym a.left ∙ e) in
      let place : items_at places k ≡ ps = ap items_in (slice_get-get_or places k p lt ∙ ap Some (sym is)) ∙ sym same in
      let here : IsSpace (items_at places k) (items_at all k) s = subst (λ x. IsSpace x (items_at all k) s) (sym place) (subst (λ x. IsSpace ps x s) (sym (ap items_in next.0)) space) in
      record {
        counted = let one : length new ≡ length spaces + 1 = ap length more ∙ length-append spaces (s ∷ []) in omega (arith, one, a.counted);
        left = sym next.1;
        within = omega (arith, a.within, size);
        each = pushed (λ i x. IsSpace (items_at places i) (items_at all i) x) spaces new s more a.each (subst (λ i. IsSpace (items_at places i) (items_at all i) s) (sym a.counted) here);
      }

  pub spacing_last : (k : ℕ) (rest : List (Vec Link Global)) (spaces : List (Space S D L H B)) → Spacing k rest spaces → rest ≡ [] → AreSpaces places all spaces
  spacing_last k rest spaces a e = record { many = let none : length rest ≡ 0 = ap length e in omega (arith, a.counted, a.within, none); each = a.each }

-- ---- islands

module _ {S D L H B : Type 0} (all_spaces : List (Space S D L H B)) (lists : List (Vec (Seated S D L H B) Global)) where
  pub record Parting (rest : List (Vec (Seated S D L H B) Global)) (spaces : List (Space S D L H B)) (islands : List (Parts S D L H B × IslandRoom S D L H B)) : Type 0 where
    pub left : rest ≡ drop (length islands) lists
    pub spaces_left : spaces ≡ drop (length islands) all_spaces
    pub within : length islands + length rest ≡ length lists
    pub spaces_within : length rest ≡ length spaces
    pub each : (k : ℕ) (x : Parts S D L H B × IslandRoom S D L H B) → slice_get islands k ≡ Some x → IsPart lists all_spaces k x

  pub parting_first : (rest : List (Vec (Seated S D L H B) Global)) (spaces : List (Space S D L H B)) (islands : List (Parts S D L H B × IslandRoom S D L H B)) → rest ≡ lists → spaces ≡ all_spaces → length lists ≡ length all_spaces → islands ≡ [] → Parting rest spaces islands
  parting_first rest spaces islands a b c e = record {
    left = a ∙ ap (λ m. drop m lists) (sym none);
    spaces_left = b ∙ ap (λ m. drop m all_spaces) (sym none);
    within = let size : length rest ≡ length lists = ap length a in omega (arith, none, size);
    spaces_within = ap length a ∙ c ∙ sym (ap length b);
    each = λ k x at. nothing k x (sym (ap (λ l. slice_get l k) e) ∙ at);
  }
    where
      none : length islands ≡ 0
      none = ap length e

      nothing : (k : ℕ) (x : Parts S D L H B × IslandRoom S D L H B) → slice_get {X = Parts S D L H B × IslandRoom S D L H B} [] k ≡ Some x → IsPart lists all_spaces k x
      nothing k x at = cc

  pub parting_next : (rest later : List (Vec (Seated S D L H B) Global)) (nodes : Vec (Seated S D L H B) Global) (spaces fewer : List (Space S D L H B)) (s : Space S D L H B) (islands new : List (Parts S D L H B × IslandRoom S D L H B)) (x : Parts S D L H B × IslandRoom S D L H B) → Parting rest spaces islands → rest ≡ nodes ∷ later
      → spaces ≡ s ∷ fewer → new ≡ islands ++ x ∷ [] → x.0.nodes.items ≡ nodes.items → x.0.links.items ≡ s.links.items → x.1 ≡ s.room → Parting later fewer new
  parting_next rest later nodes spaces fewer s islands new x a e f more here links room =
      let next = next_of lists (length islands) nodes later (sym a.left ∙ e) in
      let space = next_of all_spaces (length islands) s fewer (sym a.spaces_left ∙ f) in
      let one : length new ≡ length islands + 1 = ap length more ∙ length-append islands (x ∷ []) in
      let size : length rest ≡ suc (length later) = ap length e in
      let size2 : length spaces ≡ suc (length fewer) = ap length f in
      record {
        left = sym (ap (λ m. drop m lists) one ∙ next.1);
        spaces_left = sym (ap (λ m. drop m all_spaces) one ∙ space.1);
        within = omega (arith, a.within, size, one);
        spaces_within = omega (arith, a.spaces_within, size, size2);
        each = pushed (IsPart lists all_spaces) islands new x more a.each (record { nodes_are = here ∙ sym (ap items_in next.0); space = s; space_at = space.0; links_are = links; room_is = room });
      }

  pub parting_some : (rest later : List (Vec (Seated S D L H B) Global)) (nodes : Vec (Seated S D L H B) Global) (spaces : List (Space S D L H B)) (islands : List (Parts S D L H B × IslandRoom S D L H B)) → Parting rest spaces islands → rest ≡ nodes ∷ later → 0 < length spaces
  parting_some rest later nodes spaces islands a e = let size : length rest ≡ suc (length later) = ap length e in omega (arith, size, a.spaces_within)

  pub parting_last : (rest : List (Vec (Seated S D L H B) Global)) (spaces : List (Space S D L H B)) (islands : List (Parts S D L H B × IslandRoom S D L H B)) → length lists ≡ length all_spaces → Parting rest spaces islands → rest ≡ [] → AreJoined lists all_spaces islands
  parting_last rest spaces islands many a e = record { many = let none : length rest ≡ 0 = ap length e in omega (arith, a.within, none, many); each = a.each }

-- the islands of a split by the shares of what stands at all places
pub islands_are : {S D L H B : Type 0} (split : Split S D L H B) (homes : List ℕ) (seats : List (Seated S D L H B)) (lists : List (Vec (Seated S D L H B) Global)) (islands : List (Parts S D L H B × IslandRoom S D L H B)) → homes ≡ split.homes.items → AreShares homes seats lists → AreJoined lists split.spaces.items islands → AreIslands split seats islands
islands_are split homes seats lists islands same shares a = record {
  many = a.many;
  each = λ k x at.
      let p = a.each k x at in
      record { nodes_are = p.nodes_are ∙ shares.shares k ∙ ap (λ hs. of_home hs k seats) same; space = p.space; space_at = p.space_at; links_are = p.links_are; room_is = p.room_is };
}

-- a list to which the image of the next was put, where all have one image
pub same_next : {X Y : Type 0} (f : X → Y) (xs : List X) (i : ℕ) (all new whole : List Y) (y : Y) → i < length xs → all ++ map f (drop i xs) ≡ whole → new ≡ all ++ y ∷ [] → ((x : X) → f x ≡ y) → new ++ map f (drop (i + 1) xs) ≡ whole
same_next {X = X} {Y = Y} f xs i all new whole y lt was more is =
    let next = step xs i lt in
    ap (λ l. l ++ map f (drop (i + 1) xs)) more ∙ append_assoc all (y ∷ []) (map f (drop (i + 1) xs)) ∙ ap (λ l. all ++ l) (sym next) ∙ was
  where
    step : (us : List X) (k : ℕ) → k < length us → map f (drop k us) ≡ y ∷ map f (drop (k + 1) us)
    step [] k h = absurd (omega (arith, h))
    step (u ∷ us) zero h = ap (λ z. z ∷ map f us) (is u)
    step (u ∷ us) (suc k) h = let plus : suc k + 1 ≡ suc (k + 1) = omega arith in step us k (omega (arith, h)) ∙ ap (λ m. y ∷ map f (drop m (u ∷ us))) (sym plus)

-- an iterator that gave one item has one less
pub fewer : {X : Type 0} (old later : List X) (x : X) (a b : ℕ) → old ≡ x ∷ later → a ≡ b + 1 → a ≡ length old → b ≡ length later
fewer old later x a b e less was = let size : length old ≡ suc (length later) = ap length e in omega (arith, size, less, was)

pub none_left : {X : Type 0} (xs : List X) (n : ℕ) → n ≡ 0 → n ≡ length xs → xs ≡ []
none_left [] n a b = refl
none_left (x ∷ xs) n a b = absurd (omega (arith, a, b))
