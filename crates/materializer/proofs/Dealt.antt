-- The seats of switches are handed out.
use Rattle.std.proofs.Common.{◌≡◌, ◌≢◌, ℕ, zero, suc, ◌+◌, ◌<◌, ◌≤◌, true, false, List, [], ◌∷◌, ◌++◌, length, map, set, refl, sym, ap, ◌∙◌, subst, arith, Option, Some, None, ◌⊎◌, inl, inr, ⊎_elim, vec_len, vec_capacity, drop, length-append, length-set}
use Rattle.std.specs.Prelude.{slice_get}
use Rattle.std.specs.Arc.{arc_value}
use Rattle.std.specs.declared.alloc.Global.{Global}
use Rattle.std.specs.declared.sync.Arc.{Arc}
use Rattle.std.specs.declared.vec.Vec.{Vec}
use Rattle.std.specs.List.{All}
use Rattle.std.proofs.lemmas.List.{length-map}
use Rattle.std.proofs.lemmas.List.Elements.{All-pop}
use Rattle.stage_switch.specs.declared.end.SwitchEnd.{SwitchEnd}
use Rattle.stage_switch.specs.Public.{SwitchState, SeatState, IsNewSeat}
use Rattle.stream_model.specs.declared.kind.Kind.{Kind}
use Rattle.materializer.specs.declared.switch_board.Board.{Board}
use Rattle.materializer.specs.Board.{switch_of, place_by, switch_place, places_in, sits, count_at, IsBoard, switch_at, switch_held, switch_behind, IsSeatAt, AreAtSwitches, IsHandedAt, AreHanded, seat_of_end}
use Rattle.materializer.specs.Dealing.{IsEndOfSwitch, IsHandedSeat, IsDealt, IsSwitchMade, owns, nothing}
use Rattle.materializer.proofs.Places.{unmapped_at, mapped_at, is_within, has_place, place_names}
use Rattle.materializer.proofs.Sitting.{sits_own, some_sit, differs, count_first, tally_is}

-- ---- lists that grow, and that are written

pub pushed_old : {A : Type 0} (xs ys : List A) (i : ℕ) (x : A) → slice_get xs i ≡ Some x → slice_get (xs ++ ys) i ≡ Some x
pushed_old [] ys i x e = absurd cc
pushed_old (z ∷ xs) ys zero x e = e
pushed_old (z ∷ xs) ys (suc i) x e = pushed_old xs ys i x e

pub pushed_new : {A : Type 0} (xs : List A) (y : A) → slice_get (xs ++ y ∷ []) (length xs) ≡ Some y
pushed_new [] y = refl
pushed_new (x ∷ xs) y = pushed_new xs y

pub pushed_cases : {A : Type 0} (xs : List A) (y : A) (i : ℕ) (x : A) → slice_get (xs ++ y ∷ []) i ≡ Some x → (slice_get xs i ≡ Some x) ⊎ ((i ≡ length xs) × (y ≡ x))
pushed_cases [] y zero x e = inr (refl, (let s : y ≡ x = cc in s))
pushed_cases [] y (suc i) x e = absurd cc
pushed_cases (z ∷ xs) y zero x e = inl e
pushed_cases (z ∷ xs) y (suc i) x e = ⊎_elim (λ a. inl a) (λ a. inr (ap suc a.0, a.1)) (pushed_cases xs y i x e)

pub written : {A : Type 0} (xs : List A) (k : ℕ) (v : A) → k < length xs → slice_get (set xs k v) k ≡ Some v
written [] k v less = absurd (omega (arith, less))
written (x ∷ xs) zero v less = refl
written (x ∷ xs) (suc k) v less = written xs k v (omega (arith, less))

pub unwritten : {A : Type 0} (xs : List A) (k i : ℕ) (v : A) → i ≢ k → slice_get (set xs k v) i ≡ slice_get xs i
unwritten [] k i v n = refl
unwritten (x ∷ xs) zero zero v n = absurd (n refl)
unwritten (x ∷ xs) zero (suc i) v n = refl
unwritten (x ∷ xs) (suc k) zero v n = refl
unwritten (x ∷ xs) (suc k) (suc i) v n = unwritten xs k i v (λ e. n (ap suc e))

pub is_same : (a b : ℕ) → (a ≡ b) ⊎ (a ≢ b)
is_same zero zero = inl refl
is_same zero (suc b) = inr (λ e. cc)
is_same (suc a) zero = inr (λ e. cc)
is_same (suc a) (suc b) = ⊎_elim (λ e. inl (ap suc e)) (λ n. inr (λ e. n (let s : a ≡ b = omega (arith, e) in s))) (is_same a b)

-- ---- one switch

module _ (j : ℕ) (s : SwitchState) (places : List (Option ℕ)) (old : List (Option SwitchEnd)) where
  -- the nodes before node n
  pub record DealtTo (n : ℕ) (now : List (Option SwitchEnd)) : Type 0 where
    pub many : length now ≡ length old
    pub dealt : (k : ℕ) (p : Option ℕ) → k < n → slice_get places k ≡ Some p → sits j p ≡ true → IsEndOfSwitch s (slice_get now k)
    pub kept : (k : ℕ) (p : Option ℕ) → slice_get places k ≡ Some p → sits j p ≡ false → slice_get now k ≡ slice_get old k

  pub dealt_start : DealtTo 0 old
  dealt_start = record { many = refl; dealt = λ k p less at sit. absurd (omega (arith, less)); kept = λ k p at sit. refl }

  pub dealt_own : (n : ℕ) (p : Option ℕ) (was now : List (Option SwitchEnd)) (e : SwitchEnd) → DealtTo n was → slice_get places n ≡ Some p → sits j p ≡ true → n < length was → now ≡ set was n (Some e) → arc_value e.switch ≡ s → IsNewSeat s e.seat → DealtTo (n + 1) now
  dealt_own n p was now e d at sit less is switch seat = record {
    many = ap length is ∙ length-set was n (Some e) ∙ d.many;
    dealt = λ k q before at' sit'. ⊎_elim
        (λ (same : k ≡ n). record { end = e; is = ap (λ l. slice_get l k) is ∙ ap (slice_get (set was n (Some e))) same ∙ written was n (Some e) less; switch = switch; seat = seat })
        (λ other. subst (IsEndOfSwitch s) (sym (ap (λ l. slice_get l k) is ∙ unwritten was n k (Some e) other)) (d.dealt k q (apart n k before other) at' sit'))
        (is_same k n);
    kept = λ k q at' sit'. ap (λ l. slice_get l k) is ∙ unwritten was n k (Some e) (not_here n p k q at sit at' sit') ∙ d.kept k q at' sit';
  }
    where
      apart : (n k : ℕ) → k < n + 1 → k ≢ n → k < n
      apart n k less other = omega (arith, less, other)

      not_here : (n : ℕ) (p : Option ℕ) (k : ℕ) (q : Option ℕ) → slice_get places n ≡ Some p → sits j p ≡ true → slice_get places k ≡ Some q → sits j q ≡ false → k ≢ n
      not_here n p k q at sit at' sit' same = let e : Some p ≡ Some q = sym at ∙ ap (slice_get places) (sym same) ∙ at' in let f : p ≡ q = cc in let g : true ≡ false = sym sit ∙ ap (sits j) f ∙ sit' in cc

  pub dealt_skip : (n : ℕ) (p : Option ℕ) (now : List (Option SwitchEnd)) → DealtTo n now → slice_get places n ≡ Some p → sits j p ≡ false → DealtTo (n + 1) now
  dealt_skip n p now d at sit = record {
    many = d.many;
    dealt = λ k q before at' sit'. ⊎_elim
        (λ (same : k ≡ n). let e : Some p ≡ Some q = sym at ∙ ap (slice_get places) (sym same) ∙ at' in let f : p ≡ q = cc in let g : true ≡ false = sym sit' ∙ ap (sits j) (sym f) ∙ sit in absurd cc)
        (λ other. d.dealt k q (apart k before other) at' sit')
        (is_same k n);
    kept = d.kept;
  }
    where
      apart : (k : ℕ) → k < n + 1 → k ≢ n → k < n
      apart k less other = omega (arith, less, other)

  -- a seat for each node that is left
  pub left_own : (n : ℕ) (p : Option ℕ) (rest rest' : List (Option ℕ)) (seats left : List SeatState) (x : SeatState) (m : ℕ) → rest ≡ p ∷ rest' → sits j p ≡ true → m ≡ count_at j rest → m ≡ length seats → seats ≡ left ++ x ∷ [] → length left ≡ count_at j rest'
  left_own n p rest rest' seats left x m e sit size is more =
      let one : count_at j rest ≡ count_at j rest' + 1 = ap (count_at j) e ∙ count_first j p rest' ∙ ap (λ b. count_at j rest' + tally_is b) sit in
      let two : length seats ≡ length left + 1 = ap length more ∙ length-append left (x ∷ []) in
      omega (arith, one, two, size, is)

  pub left_skip : (p : Option ℕ) (rest rest' : List (Option ℕ)) → rest ≡ p ∷ rest' → sits j p ≡ false → count_at j rest ≡ count_at j rest'
  left_skip p rest rest' e sit = let one : count_at j rest ≡ count_at j rest' + 0 = ap (count_at j) e ∙ count_first j p rest' ∙ ap (λ b. count_at j rest' + tally_is b) sit in omega (arith, one)

  pub left_some : (p : Option ℕ) (rest rest' : List (Option ℕ)) → rest ≡ p ∷ rest' → sits j p ≡ true → 0 < count_at j rest
  left_some p rest rest' e sit = let one : count_at j rest ≡ count_at j rest' + 1 = ap (count_at j) e ∙ count_first j p rest' ∙ ap (λ b. count_at j rest' + tally_is b) sit in omega (arith, one)

  -- one node more
  after : (n : ℕ) (p : Option ℕ) (ps : List (Option ℕ)) → slice_get ps n ≡ Some p → drop n ps ≡ p ∷ drop (n + 1) ps
  after n p [] at = cc
  after zero p (q ∷ ps) at = let same : q ≡ p = cc in ap (λ x. x ∷ ps) same
  after (suc n) p (q ∷ ps) at = let e : suc (n + 1) ≡ suc n + 1 = omega arith in after n p ps at ∙ ap (λ m. p ∷ drop m (q ∷ ps)) e

  pub deal_own : (n : ℕ) (p : Option ℕ) (was now : List (Option SwitchEnd)) (seats left : Vec SeatState Global) → slice_get places n ≡ Some p → sits j p ≡ true → length old ≡ length places
      → vec_len seats ≡ count_at j (drop n places) → All (IsNewSeat s) seats.items → DealtTo n was → IsHandedSeat s n seats.items left.items was now
      → (vec_len left ≡ count_at j (drop (n + 1) places)) × All (IsNewSeat s) left.items × DealtTo (n + 1) now
  deal_own n p was now seats left at sit each many new d h =
      let new_ones = All-pop (IsNewSeat s) seats.items left.items (Some h.end.seat) h.seat new in
      let less = is_within places n p at in
      let room : n < length was = (let size = d.many in omega (arith, less, size, each)) in (
        left.ok.0 ∙ left_own n p (drop n places) (drop (n + 1) places) seats.items left.items h.end.seat (vec_len seats) (after n p places at) sit many seats.ok.0 h.seat,
        new_ones.0,
        dealt_own n p was now h.end d at sit room h.is h.switch new_ones.1,
      )

  pub deal_skip : (n : ℕ) (p : Option ℕ) (now : List (Option SwitchEnd)) (seats : Vec SeatState Global) → slice_get places n ≡ Some p → sits j p ≡ false
      → vec_len seats ≡ count_at j (drop n places) → All (IsNewSeat s) seats.items → DealtTo n now → (vec_len seats ≡ count_at j (drop (n + 1) places)) × All (IsNewSeat s) seats.items × DealtTo (n + 1) now
  deal_skip n p now seats at sit many new d = (many ∙ left_skip p (drop n places) (drop (n + 1) places) (after n p places at) sit, new, dealt_skip n p now d at sit)

  pub deal_some : (n : ℕ) (p : Option ℕ) (seats : Vec SeatState Global) → slice_get places n ≡ Some p → sits j p ≡ true → vec_len seats ≡ count_at j (drop n places) → 0 < vec_len seats
  deal_some n p seats at sit many = let some = left_some p (drop n places) (drop (n + 1) places) (after n p places at) sit in omega (arith, some, many)

  -- how far it is
  abbrev pub Deals : ℕ → Vec SeatState Global → Vec (Option SwitchEnd) Global → Type 0
  Deals n seats ends = (vec_len seats ≡ count_at j (drop n places)) × All (IsNewSeat s) seats.items × DealtTo n ends.items

  pub deal_moved : (n : ℕ) (seats seats' : Vec SeatState Global) (ends ends' : Vec (Option SwitchEnd) Global) → seats' ≡ seats → ends' ≡ ends → Deals n seats ends → Deals n seats' ends'
  deal_moved n seats seats' ends ends' e f h = subst (λ (x : Vec SeatState Global). Deals n x ends') (sym e) (subst (λ (x : Vec (Option SwitchEnd) Global). Deals n seats x) (sym f) h)

  pub dealt_end : (n : ℕ) (now : List (Option SwitchEnd)) → length places ≤ n → DealtTo n now → IsDealt j s places old now
  dealt_end n now all d = record { many = d.many; dealt = λ k p at sit. d.dealt k p (let less = is_within places k p at in omega (arith, less, all)) at sit; kept = d.kept }

-- ---- all switches

module _ (places : List (Option ℕ)) where
  -- those of the places before place n
  pub record MadeTo (n : ℕ) (switches : List (Option (Arc SwitchState Global))) (lists : List (Vec SeatState Global)) (ends : List (Option SwitchEnd)) : Type 0 where
    pub switches_many : length switches ≡ n
    pub lists_many : length lists ≡ n
    pub ends_many : length ends ≡ length places
    pub switch_is : (j : ℕ) (s : Arc SwitchState Global) → slice_get switches j ≡ Some (Some s) → ((arc_value s).seats ≡ count_at j places) × (0 < count_at j places)
    pub given : (k j : ℕ) → slice_get places k ≡ Some (Some j) → j < n → (s : Arc SwitchState Global) × ((slice_get switches j ≡ Some (Some s)) × IsEndOfSwitch (arc_value s) (slice_get ends k))
    pub none : (k : ℕ) → slice_get places k ≡ Some None → slice_get ends k ≡ Some None
    pub empty : (j : ℕ) (list : Vec SeatState Global) → slice_get lists j ≡ Some list → list.items ≡ []
    pub room : (j : ℕ) (list : Vec SeatState Global) → slice_get lists j ≡ Some list → count_at j places ≤ vec_capacity list

  pub made_start : (switches : List (Option (Arc SwitchState Global))) (lists : List (Vec SeatState Global)) (ends : List (Option SwitchEnd)) → switches ≡ [] → lists ≡ [] → length ends ≡ length places → ((k : ℕ) (e : Option SwitchEnd) → slice_get ends k ≡ Some e → e ≡ None) → ((k : ℕ) (p : Option ℕ) → slice_get places k ≡ Some p → (e : Option SwitchEnd) × (slice_get ends k ≡ Some e)) → MadeTo 0 switches lists ends
  made_start switches lists ends no_switch no_list many none there = record {
    switches_many = ap length no_switch;
    lists_many = ap length no_list;
    ends_many = many;
    switch_is = λ j s at. let e : slice_get [] j ≡ Some (Some s) = ap (λ l. slice_get l j) (sym no_switch) ∙ at in absurd cc;
    given = λ k j at less. absurd (omega (arith, less));
    none = λ k at. let e = there k None at in e.1 ∙ ap (λ x. Some x) (none k e.0 e.1);
    empty = λ j list at. let e : slice_get [] j ≡ Some list = ap (λ l. slice_get l j) (sym no_list) ∙ at in absurd cc;
    room = λ j list at. let e : slice_get [] j ≡ Some list = ap (λ l. slice_get l j) (sym no_list) ∙ at in absurd cc;
  }

  -- what a place adds
  record Adds (n : ℕ) (old new : List (Option SwitchEnd)) (x : Option (Arc SwitchState Global)) (list : Vec SeatState Global) : Type 0 where
    many : length new ≡ length old
    switch : (s : Arc SwitchState Global) → x ≡ Some s → ((arc_value s).seats ≡ count_at n places) × (0 < count_at n places)
    given : (k : ℕ) → slice_get places k ≡ Some (Some n) → (s : Arc SwitchState Global) × ((x ≡ Some s) × IsEndOfSwitch (arc_value s) (slice_get new k))
    kept : (k : ℕ) (p : Option ℕ) → slice_get places k ≡ Some p → sits n p ≡ false → slice_get new k ≡ slice_get old k
    empty : list.items ≡ []
    room : count_at n places ≤ vec_capacity list

  adds : (n : ℕ) (old new : List (Option SwitchEnd)) (x : Option (Arc SwitchState Global)) (list : Vec SeatState Global) → IsSwitchMade n places old new x list → Adds n old new x list
  adds n old new x list (owns s some is size none room dealt) = record {
    many = dealt.many;
    switch = λ t e. let same : s ≡ t = (let f : Some s ≡ Some t = sym is ∙ e in cc) in (ap (λ (y : Arc SwitchState Global). (arc_value y).seats) (sym same) ∙ size, some);
    given = λ k at. (s, (is, dealt.dealt k (Some n) at (sits_own n)));
    kept = dealt.kept;
    empty = none;
    room = room;
  }
  adds n old new x list (nothing nobody is none same) = record {
    many = ap length same;
    switch = λ t e. let f : None ≡ Some t = sym is ∙ e in absurd cc;
    given = λ k at. absurd (omega (arith, nobody, some_sit n k places (Some n) at (sits_own n)));
    kept = λ k p at sit. ap (λ l. slice_get l k) same;
    empty = none;
    room = omega (arith, nobody);
  }

  pub made_next : (n : ℕ) (was now : List (Option (Arc SwitchState Global))) (lists more : List (Vec SeatState Global)) (old new : List (Option SwitchEnd)) (x : Option (Arc SwitchState Global)) (list : Vec SeatState Global)
      → MadeTo n was lists old → IsSwitchMade n places old new x list → now ≡ was ++ x ∷ [] → more ≡ lists ++ list ∷ [] → MadeTo (n + 1) now more new
  made_next n was now lists more old new x list m made s_is l_is =
      let a = adds n old new x list made in
      record {
        switches_many = ap length s_is ∙ length-append was (x ∷ []) ∙ ap (λ i. i + 1) m.switches_many;
        lists_many = ap length l_is ∙ length-append lists (list ∷ []) ∙ ap (λ i. i + 1) m.lists_many;
        ends_many = a.many ∙ m.ends_many;
        switch_is = λ j s at. ⊎_elim (λ e. m.switch_is j s e)
            (λ e. let same : n ≡ j = sym (e.0 ∙ m.switches_many) in subst (λ i. ((arc_value s).seats ≡ count_at i places) × (0 < count_at i places)) same (a.switch s e.1))
            (pushed_cases was x j (Some s) (ap (λ l. slice_get l j) (sym s_is) ∙ at));
        given = λ k j at less. ⊎_elim
            (λ (same : j ≡ n).
            let g = a.given k (at ∙ ap (λ i. Some (Some i)) same) in
            let there : slice_get now j ≡ Some x = ap (λ l. slice_get l j) s_is ∙ ap (slice_get (was ++ x ∷ [])) (same ∙ sym m.switches_many) ∙ pushed_new was x in
            (g.0, (there ∙ ap (λ y. Some y) g.1.0, g.1.1)))
            (λ other.
            let g = m.given k j at (apart j less other) in
            let there : slice_get now j ≡ Some (Some g.0) = ap (λ l. slice_get l j) s_is ∙ pushed_old was (x ∷ []) j (Some g.0) g.1.0 in
            (g.0, (there, subst (IsEndOfSwitch (arc_value g.0)) (sym (a.kept k (Some j) at (differs n j other))) g.1.1)))
            (is_same j n);
        none = λ k at. a.kept k None at refl ∙ m.none k at;
        empty = λ j l at. ⊎_elim (λ e. m.empty j l e) (λ e. ap (λ (y : Vec SeatState Global). y.items) (sym e.1) ∙ a.empty) (pushed_cases lists list j l (ap (λ y. slice_get y j) (sym l_is) ∙ at));
        room = λ j l at. ⊎_elim (λ e. m.room j l e)
            (λ e. let same : n ≡ j = sym (e.0 ∙ m.lists_many) in subst (λ i. count_at i places ≤ vec_capacity l) same (subst (λ (y : Vec SeatState Global). count_at n places ≤ vec_capacity y) e.1 a.room))
            (pushed_cases lists list j l (ap (λ y. slice_get y j) (sym l_is) ∙ at));
      }
    where
      apart : (j : ℕ) → j < n + 1 → j ≢ n → j < n
      apart j less other = omega (arith, less, other)

-- ---- the board

module _ (kinds : List Kind) (board : Board) (ends : List (Option SwitchEnd)) (made : MadeTo board.places.items (length board.places.items) board.switches.items board.seats.items ends) (places_are : board.places.items ≡ places_in kinds) where
  many : length board.places.items ≡ length kinds
  many = ap length places_are ∙ length-map kinds (switch_place kinds)

  pub place_is : (k : ℕ) (p : Option ℕ) → slice_get board.places.items k ≡ Some p → slice_get (places_in kinds) k ≡ Some p
  place_is k p at = ap (λ l. slice_get l k) (sym places_are) ∙ at

  below : (k j : ℕ) → slice_get board.places.items k ≡ Some (Some j) → j < length board.places.items
  below k j at =
      let u = unmapped_at (switch_place kinds) kinds k (Some j) (place_is k (Some j) at) in
      let f = place_names kinds (switch_of u.0) j (sym u.1.1) in
      let less = is_within kinds j f.kind f.at in
      omega (arith, less, many)

  pub is_board : IsBoard kinds board
  is_board = record {
    places_are = places_are;
    switches_many = made.switches_many ∙ many;
    seats_many = made.lists_many ∙ many;
    switches = made.switch_is;
    some = λ k j at. let g = made.given k j at (below k j at) in (g.0, g.1.0);
    empty = made.empty;
    room = made.room;
  }

  -- what node k has
  place_here : (k : ℕ) (kind : Kind) → slice_get kinds k ≡ Some kind → slice_get board.places.items k ≡ Some (switch_place kinds kind)
  place_here k kind at = ap (λ l. slice_get l k) places_are ∙ mapped_at (switch_place kinds) kinds k kind at

  record IsGiven (k : ℕ) (e : Option SwitchEnd) : Type 0 where
    end : SwitchEnd
    is : e ≡ Some end
    switch : SwitchState
    at : switch_at board k ≡ Some switch
    handle : arc_value end.switch ≡ switch
    new : IsNewSeat switch end.seat

  given : (k : ℕ) (kind : Kind) (name : List ℕ) (e : Option SwitchEnd) → slice_get kinds k ≡ Some kind → switch_of kind ≡ Some name → slice_get ends k ≡ Some e → IsGiven k e
  given k kind name e at names is =
      let p = has_place kinds k kind name at names in
      let here : slice_get board.places.items k ≡ Some (Some p.0) = place_here k kind at ∙ ap (λ x. Some x) p.1 in
      let g = made.given k p.0 here (below k p.0 here) in
      let same : Some e ≡ Some (Some g.1.1.end) = sym is ∙ g.1.1.is in
      record {
        end = g.1.1.end;
        is = (let s : e ≡ Some g.1.1.end = cc in s);
        switch = arc_value g.0;
        at = ap (switch_behind board) here ∙ ap switch_held g.1.0;
        handle = g.1.1.switch;
        new = g.1.1.seat;
      }

  not_given : (k : ℕ) (kind : Kind) (e : Option SwitchEnd) → slice_get kinds k ≡ Some kind → switch_of kind ≡ None → slice_get ends k ≡ Some e → e ≡ None
  not_given k kind e at names is =
      let here : slice_get board.places.items k ≡ Some None = place_here k kind at ∙ ap (λ o. Some (place_by kinds o)) names in
      let same : Some e ≡ Some None = sym is ∙ made.none k here in cc

  seat_here : (k : ℕ) (kind : Kind) (e : Option SwitchEnd) (o : Option (List ℕ)) → switch_of kind ≡ o → slice_get kinds k ≡ Some kind → slice_get ends k ≡ Some e → IsSeatAt o (switch_at board k) (seat_of_end e)
  seat_here k kind e None names at is = ap seat_of_end (not_given k kind e at names is)
  seat_here k kind e (Some name) names at is =
      let g = given k kind name e at names is in
      (g.end.seat, (ap seat_of_end g.is, g.at ∙ ap (λ (t : SeatState). Some t.switch) (sym g.new)))

  pub at_switches : AreAtSwitches kinds board (map seat_of_end ends)
  at_switches = record {
    many = length-map ends seat_of_end ∙ made.ends_many ∙ many;
    each = λ k kind s at is.
        let u = unmapped_at seat_of_end ends k s is in
        subst (IsSeatAt (switch_of kind) (switch_at board k)) (sym u.1.1) (seat_here k kind u.0 (switch_of kind) refl at u.1.0);
  }

  handed_here : (k : ℕ) (kind : Kind) (e : Option SwitchEnd) (o : Option (List ℕ)) → switch_of kind ≡ o → slice_get kinds k ≡ Some kind → slice_get ends k ≡ Some e → IsHandedAt o e
  handed_here k kind e None names at is = not_given k kind e at names is
  handed_here k kind e (Some name) names at is =
      let g = given k kind name e at names is in
      (g.end, (g.is, (ap (λ (t : SeatState). t.switch) g.new ∙ sym g.handle, (ap (λ (t : SeatState). t.gave) g.new, ap (λ (t : SeatState). t.knows) g.new))))

  handed_all : (ks : List Kind) (es : List (Option SwitchEnd)) → length es ≡ length ks → ((i : ℕ) (kind : Kind) (e : Option SwitchEnd) → slice_get ks i ≡ Some kind → slice_get es i ≡ Some e → IsHandedAt (switch_of kind) e) → AreHanded ks es
  handed_all [] [] l h = tt
  handed_all [] (e ∷ es) l h = absurd (omega (arith, l))
  handed_all (kind ∷ ks) [] l h = absurd (omega (arith, l))
  handed_all (kind ∷ ks) (e ∷ es) l h = (h 0 kind e refl refl, handed_all ks es (omega (arith, l)) (λ i. h (suc i)))

  pub are_handed : AreHanded kinds ends
  are_handed = handed_all kinds ends (made.ends_many ∙ many) (λ i kind e at is. handed_here i kind e (switch_of kind) refl at is)
