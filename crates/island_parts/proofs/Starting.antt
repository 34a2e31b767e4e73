-- The islands go through loops one by one.
use Rattle.std.proofs.Common.{◌≡◌, ℕ, zero, suc, ◌+◌, ◌<◌, true, false, List, [], ◌∷◌, ◌++◌, length, map, Some, refl, ap, sym, ◌∙◌, subst, append_assoc, arith}
use Rattle.std.specs.Prelude.{slice_get, ⊤}
use Rattle.std.proofs.lemmas.List.{append-nil}
use Rattle.stream_io.specs.State.{SourceState, DrainState}
use Rattle.stream_model.specs.Linear.{Book}
use Rattle.interpreter.specs.declared.island.IslandEnd.{IslandEnd}
use Rattle.interpreter.specs.declared.parts.Parts.{Parts}
use Rattle.interpreter.specs.declared.room.IslandRoom.{IslandRoom}
use Rattle.interpreter.specs.Island.{Kept}
use Rattle.island_parts.specs.Starts.{AreOf, Appends, CanStart, CanAllStart, IslandLeaves, HasStarted, AllGiveBack, GivesBack, TakenApart}

-- the same by steps
abbrev EachOf : {X Y : Type 0} → (X → Y → Type 0) → List X → List Y → Type 0
EachOf r [] [] = ⊤
EachOf r [] (y ∷ ys) = ⊥
EachOf r (x ∷ xs) [] = ⊥
EachOf r (x ∷ xs) (y ∷ ys) = r x y × EachOf r xs ys

by_steps : {X Y : Type 0} (r : X → Y → Type 0) (xs : List X) (ys : List Y) → AreOf r xs ys → EachOf r xs ys
by_steps r [] [] a = tt
by_steps r [] (y ∷ ys) a = absurd (omega (arith, a.many))
by_steps r (x ∷ xs) [] a = absurd (omega (arith, a.many))
by_steps r (x ∷ xs) (y ∷ ys) a = (a.each 0 x y refl refl, by_steps r xs ys (record { many = omega (arith, a.many); each = λ k u v p q. a.each (suc k) u v p q }))

by_places : {X Y : Type 0} (r : X → Y → Type 0) (xs : List X) (ys : List Y) → EachOf r xs ys → AreOf r xs ys
by_places {X = X} {Y = Y} r [] [] e = record { many = refl; each = λ k x y p q. none k x y p }
  where
    none : (k : ℕ) (x : X) (y : Y) → slice_get {X = X} [] k ≡ Some x → r x y
    none k x y p = cc
by_places r [] (y ∷ ys) e = absurd e
by_places r (x ∷ xs) [] e = absurd e
by_places {X = X} {Y = Y} r (x ∷ xs) (y ∷ ys) e = let rest = by_places r xs ys e.1 in record { many = ap suc rest.many; each = by rest }
  where
    by : AreOf r xs ys → (k : ℕ) (u : X) (v : Y) → slice_get (x ∷ xs) k ≡ Some u → slice_get (y ∷ ys) k ≡ Some v → r u v
    by rest zero u v p q = let a : x ≡ u = cc in let b : y ≡ v = cc in subst (λ z. r z v) a (subst (λ z. r x z) b e.0)
    by rest (suc k) u v p q = rest.each k u v p q

steps_append : {X Y : Type 0} (r : X → Y → Type 0) (xs us : List X) (ys vs : List Y) → EachOf r xs ys → EachOf r us vs → EachOf r (xs ++ us) (ys ++ vs)
steps_append r [] us [] vs e f = f
steps_append r [] us (y ∷ ys) vs e f = absurd e
steps_append r (x ∷ xs) us [] vs e f = absurd e
steps_append r (x ∷ xs) us (y ∷ ys) vs e f = (e.0, steps_append r xs us ys vs e.1 f)

steps_joined : {X Y Z : Type 0} (r : X → Y → Type 0) (s : Y → Z → Type 0) (t : X → Z → Type 0) → ((x : X) (y : Y) (z : Z) → r x y → s y z → t x z) → (xs : List X) (ys : List Y) (zs : List Z) → EachOf r xs ys → EachOf s ys zs → EachOf t xs zs
steps_joined r s t h [] [] [] e f = tt
steps_joined r s t h [] [] (z ∷ zs) e f = absurd f
steps_joined r s t h [] (y ∷ ys) zs e f = absurd e
steps_joined r s t h (x ∷ xs) [] zs e f = absurd e
steps_joined r s t h (x ∷ xs) (y ∷ ys) [] e f = absurd f
steps_joined r s t h (x ∷ xs) (y ∷ ys) (z ∷ zs) e f = (h x y z e.0 f.0, steps_joined r s t h xs ys zs e.1 f.1)

module _ {X Y : Type 0} (r : X → Y → Type 0) (all : List X) (old : List Y) where
  -- some of all are done, and for each of them one was put behind what stood in the list
  pub record Going (rest : List X) (new : List Y) : Type 0 where
    pub done : List X
    pub more : List Y
    pub all_are : all ≡ done ++ rest
    pub new_is : new ≡ old ++ more
    pub are : EachOf r done more

  pub going_first : (rest : List X) (new : List Y) → rest ≡ all → new ≡ old → Going rest new
  going_first rest new a b = record { done = []; more = []; all_are = sym a; new_is = b ∙ sym (append-nil old); are = tt }

  pub going_next : (rest later : List X) (x : X) (new newer : List Y) (y : Y) → Going rest new → rest ≡ x ∷ later → newer ≡ new ++ y ∷ [] → r x y → Going later newer
  going_next rest later x new newer y g e f h = record {
    done = g.done ++ x ∷ [];
    more = g.more ++ y ∷ [];
    all_are = g.all_are ∙ ap (λ l. g.done ++ l) e ∙ sym (append_assoc g.done (x ∷ []) later);
    new_is = f ∙ ap (λ l. l ++ y ∷ []) g.new_is ∙ append_assoc old g.more (y ∷ []);
    are = steps_append r g.done (x ∷ []) g.more (y ∷ []) g.are (h, tt);
  }

  pub going_last : (rest : List X) (new : List Y) → Going rest new → rest ≡ [] → Appends r all old new
  going_last rest new g e = record {
    more = g.more;
    new_is = g.new_is;
    are = by_places r all g.more (subst (λ l. EachOf r l g.more) (sym (g.all_are ∙ ap (λ l. g.done ++ l) e ∙ append-nil g.done)) g.are);
  }

-- what was put into an empty list is all of it
pub all_added : {X Y : Type 0} (r : X → Y → Type 0) (xs : List X) (old new : List Y) → old ≡ [] → Appends r xs old new → AreOf r xs new
all_added r xs old new e a = subst (AreOf r xs) (sym (a.new_is ∙ ap (λ l. l ++ a.more) e)) a.are

-- an iterator that gave one item has one less, and one that gives none is empty
pub fewer : {X : Type 0} (old later : List X) (x : X) (a b : ℕ) → old ≡ x ∷ later → a ≡ b + 1 → a ≡ length old → b ≡ length later
fewer old later x a b e less was = let size : length old ≡ suc (length later) = ap length e in omega (arith, size, less, was)

pub none_left : {X : Type 0} (xs : List X) (n : ℕ) → n ≡ 0 → n ≡ length xs → xs ≡ []
none_left [] n a b = refl
none_left (x ∷ xs) n a b = absurd (omega (arith, a, b))

pub none_more : {X : Type 0} (xs : List X) (n : ℕ) → (0 < n → false ≡ true) → n ≡ length xs → xs ≡ []
none_more [] n h e = refl
none_more (x ∷ xs) n h e = absurd (differ (h (omega (arith, e))))
  where
    differ : false ≡ true → ⊥
    differ d = cc

module _ {S D L H B : Type 0} where
  -- the next of some that can start, and those behind it
  pub next_can : (rest later : List (Parts S D L H B × IslandRoom S D L H B)) (x : Parts S D L H B × IslandRoom S D L H B) → CanAllStart rest → rest ≡ x ∷ later → CanStart x
  next_can rest later x can e = can 0 x (ap (λ l. slice_get l 0) e)

  pub later_can : (rest later : List (Parts S D L H B × IslandRoom S D L H B)) (x : Parts S D L H B × IslandRoom S D L H B) → CanAllStart rest → rest ≡ x ∷ later → CanAllStart later
  later_can rest later x can e = λ k y at. can (suc k) y (ap (λ l. slice_get l (suc k)) e ∙ at)

  module _ (sources : S → SourceState) (drains : D → DrainState) (book : Book) where
    abbrev pub Started : Parts S D L H B × IslandRoom S D L H B → Kept S D L H B → Type 0
    Started x i = HasStarted sources drains book x.0 i

    -- what an island that had started leaves has its handles as they were handed in
    started_gives : (x : Parts S D L H B × IslandRoom S D L H B) (i : Kept S D L H B) (e : IslandEnd S D) → HasStarted sources drains book x.0 i → IslandLeaves i e → GivesBack sources drains x e
    started_gives x i e s l = record { readers = ap (map sources) l.readers ∙ s.handles.readers; writers = ap (map drains) l.writers ∙ s.handles.writers }

    -- so all do, where the islands before one have started and that one has not
    pub all_apart : (all rest later : List (Parts S D L H B × IslandRoom S D L H B)) (x : Parts S D L H B × IslandRoom S D L H B) (started : List (Kept S D L H B)) (end : IslandEnd S D) (ends : List (IslandEnd S D)) → Going Started all [] rest started → rest ≡ x ∷ later → GivesBack sources drains x end
        → TakenApart sources drains started end later ends → AllGiveBack sources drains all ends
    all_apart all rest later x started end ends g e h t =
        let r = GivesBack sources drains in
        let here : EachOf Started g.done started = subst (EachOf Started g.done) (sym g.new_is) g.are in
        let front : EachOf r g.done t.front = steps_joined Started IslandLeaves r started_gives g.done started t.front here (by_steps IslandLeaves started t.front t.front_are) in
        let behind : EachOf r (x ∷ later) (end ∷ t.behind) = (h, by_steps r later t.behind t.behind_are) in
        let both = by_places r (g.done ++ (x ∷ later)) (t.front ++ (end ∷ t.behind)) (steps_append r g.done (x ∷ later) t.front (end ∷ t.behind) front behind) in
        subst (λ l. AreOf r l ends) (sym (g.all_are ∙ ap (λ l. g.done ++ l) e)) (subst (AreOf r (g.done ++ (x ∷ later))) (sym t.all_are) both)

  module _ (sources : S → SourceState) (drains : D → DrainState) where
    -- an end between two others
    pub apart_of : (started : List (Kept S D L H B)) (end : IslandEnd S D) (rest : List (Parts S D L H B × IslandRoom S D L H B)) (none one two ends : List (IslandEnd S D)) → none ≡ [] → Appends IslandLeaves started none one → two ≡ one ++ end ∷ [] → Appends (GivesBack sources drains) rest two ends
        → TakenApart sources drains started end rest ends
    apart_of started end rest none one two ends e a f b = record {
      front = a.more;
      behind = b.more;
      all_are = b.new_is ∙ ap (λ l. l ++ b.more) (f ∙ ap (λ l. l ++ end ∷ []) (a.new_is ∙ ap (λ l. l ++ a.more) e)) ∙ append_assoc a.more (end ∷ []) b.more;
      front_are = a.are;
      behind_are = b.are;
    }
