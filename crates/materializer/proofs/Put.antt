-- Seats are put into the lists of their places, and the lists are settled.
use Rattle.std.proofs.Common.{◌≡◌, ℕ, zero, suc, ◌+◌, ◌<◌, ◌≤◌, true, false, List, [], ◌∷◌, ◌++◌, length, get_or, set, refl, sym, ap, ◌∙◌, subst, arith, Option, Some, None, vec_len, vec_capacity, ◌⊎◌, inl, inr, ⊎_elim, length-append, append_assoc, append-nil, length-set}
use Rattle.std.specs.Prelude.{slice_get, IfSome}
use Rattle.std.proofs.lemmas.Option.{slice_get_read}
use Rattle.std.specs.Arc.{arc_value}
use Rattle.std.specs.declared.alloc.Global.{Global}
use Rattle.std.specs.declared.sync.Arc.{Arc}
use Rattle.std.specs.declared.vec.Vec.{Vec}
use Rattle.stage_switch.specs.Public.{SwitchState, SeatState}
use Rattle.materializer.specs.Board.{sits}
use Rattle.materializer.specs.Dealing.{own_seat, sits_in, seats_at, HasRoom, IsSeatPut, HaveLists, AreEmpty, HaveRoom, HaveSeats, HasAllSeats, AllWhole, IsSettledAt, ListsSettled}
use Rattle.materializer.proofs.Places.{there_is, is_within}
use Rattle.materializer.proofs.Sitting.{sits_own, differs, seats_less}
use Rattle.materializer.proofs.Dealt.{pushed_old, pushed_new, written, unwritten, is_same}

-- ---- putting

-- the entries behind those that are left were put into their lists
pub record PutFrom (places : List (Option ℕ)) (first : List (Vec SeatState Global)) (entries left : List (ℕ × SeatState)) (lists : List (Vec SeatState Global)) : Type 0 where
  pub done : List (ℕ × SeatState)
  pub are : entries ≡ left ++ done
  pub many : length lists ≡ length first
  pub each : (j : ℕ) (was now : Vec SeatState Global) → slice_get first j ≡ Some was → slice_get lists j ≡ Some now → (vec_capacity now ≡ vec_capacity was) × (now.items ≡ seats_at j places done)

one_list : (lists : List (Vec SeatState Global)) (j : ℕ) (a b : Vec SeatState Global) → slice_get lists j ≡ Some a → slice_get lists j ≡ Some b → a ≡ b
one_list lists j a b e f = let g : Some a ≡ Some b = sym e ∙ f in cc

pub put_start : (places : List (Option ℕ)) (first lists : List (Vec SeatState Global)) (entries left : List (ℕ × SeatState)) → AreEmpty first → lists ≡ first → left ≡ entries → PutFrom places first entries left lists
put_start places first lists entries left empty same all = record {
  done = [];
  are = sym all ∙ sym (append-nil left);
  many = ap length same;
  each = λ j was now e f.
      let g = one_list first j was now e (ap (λ l. slice_get l j) (sym same) ∙ f) in
      (ap (λ (v : Vec SeatState Global). vec_capacity v) (sym g), ap (λ (v : Vec SeatState Global). v.items) (sym g) ∙ empty j was e);
}

-- the list of the next entry has room
pub has_room : (places : List (Option ℕ)) (first : List (Vec SeatState Global)) (entries old left : List (ℕ × SeatState)) (lists : List (Vec SeatState Global)) (x : ℕ × SeatState) → PutFrom places first entries old lists → old ≡ left ++ x ∷ [] → HaveLists places first → HaveRoom places entries first
    → HasRoom (slice_get places x.0) lists
has_room places first entries old left lists x p e have room = λ j place.
    let within = have x.0 j place in
    let was = there_is first j within in
    let now = there_is lists j (omega (arith, within, p.many)) in
    let each = p.each j was.0 now.0 was.1 now.1 in
    let all : entries ≡ left ++ (x ∷ p.done) = p.are ∙ ap (λ l. l ++ p.done) e ∙ append_assoc left (x ∷ []) p.done in
    let enough = room j was.0 was.1 in
    let size : length (seats_at j places entries) ≡ length (seats_at j places (left ++ (x ∷ p.done))) = ap (λ l. length (seats_at j places l)) all in
    let less = seats_less j places left (x ∷ p.done) in
    let here : own_seat (sits_in j (slice_get places x.0)) x.1 ≡ x.1 ∷ [] = ap (λ b. own_seat b x.1) (ap (sits_in j) place ∙ sits_own j) in
    let more : length (seats_at j places (x ∷ p.done)) ≡ length (seats_at j places p.done) + 1 = ap (λ l. length (seats_at j places p.done ++ l)) here ∙ length-append (seats_at j places p.done) (x.1 ∷ []) in
    let had : vec_len now.0 ≡ length (seats_at j places p.done) = now.0.ok.0 ∙ ap length each.1 in
    (now.0, (now.1, omega (arith, had, more, less, size, enough, each.0)))

pub put_next : (places : List (Option ℕ)) (first : List (Vec SeatState Global)) (entries old left : List (ℕ × SeatState)) (was now : List (Vec SeatState Global)) (x : ℕ × SeatState) → PutFrom places first entries old was → old ≡ left ++ x ∷ [] → IsSeatPut (slice_get places x.0) x.1 was now
    → PutFrom places first entries left now
put_next places first entries old left was now x p e put = record {
  done = x ∷ p.done;
  are = p.are ∙ ap (λ l. l ++ p.done) e ∙ append_assoc left (x ∷ []) p.done;
  many = put.many ∙ p.many;
  each = λ j a c at is.
      let less = is_within now j c is in
      let b = there_is was j (omega (arith, less, put.many)) in
      let old = p.each j a b.0 at b.1 in
      let new = put.each j b.0 c b.1 is in
      (new.0 ∙ old.0, new.1 ∙ ap (λ l. l ++ own_seat (sits_in j (slice_get places x.0)) x.1) old.1);
}

pub put_end : (places : List (Option ℕ)) (first : List (Vec SeatState Global)) (entries left : List (ℕ × SeatState)) (lists : List (Vec SeatState Global)) → PutFrom places first entries left lists → left ≡ [] → HaveSeats places entries lists
put_end places first entries left lists p none = λ j list at.
    let less = is_within lists j list at in
    let was = there_is first j (omega (arith, less, p.many)) in
    let all : entries ≡ p.done = p.are ∙ ap (λ l. l ++ p.done) none in
    (p.each j was.0 list was.1 at).1 ∙ ap (seats_at j places) (sym all)

-- the seat of a node with a place goes into its list alone
pub put_in : (o : Option (Option ℕ)) (j : ℕ) (s : SeatState) (lists : List (Vec SeatState Global)) (old v : Vec SeatState Global) → o ≡ Some (Some j) → slice_get lists j ≡ Some old → vec_capacity v ≡ vec_capacity old → v.items ≡ old.items ++ s ∷ [] → IsSeatPut o s lists (set lists j v)
put_in o j s lists old v place at room items = record {
  many = length-set lists j v;
  each = λ i was now before after. ⊎_elim
      (λ (same : i ≡ j).
      let less = is_within lists j old at in
      let a : was ≡ old = one_list lists j was old (ap (slice_get lists) (sym same) ∙ before) at in
      let b : now ≡ v = one_list (set lists j v) j now v (ap (slice_get (set lists j v)) (sym same) ∙ after) (written lists j v less) in
      let own : sits_in i o ≡ true = ap (sits_in i) place ∙ ap (λ k. sits k (Some j)) same ∙ sits_own j in (
        ap (λ (x : Vec SeatState Global). vec_capacity x) b ∙ room ∙ ap (λ (x : Vec SeatState Global). vec_capacity x) (sym a),
        ap (λ (x : Vec SeatState Global). x.items) b ∙ items ∙ ap (λ (x : Vec SeatState Global). x.items ++ s ∷ []) (sym a) ∙ ap (λ b. was.items ++ own_seat b s) (sym own),
      ))
      (λ other.
      let a : now ≡ was = one_list lists i now was (sym (unwritten lists j i v other) ∙ after) before in
      let none : sits_in i o ≡ false = ap (sits_in i) place ∙ differs i j (λ e. other (sym e)) in
      (ap (λ (x : Vec SeatState Global). vec_capacity x) a, ap (λ (x : Vec SeatState Global). x.items) a ∙ sym (append-nil was.items) ∙ ap (λ b. was.items ++ own_seat b s) (sym none)))
      (is_same i j);
}

pub put_nowhere : (o : Option (Option ℕ)) (s : SeatState) (lists : List (Vec SeatState Global)) → o ≡ Some None → IsSeatPut o s lists lists
put_nowhere o s lists place = record {
  many = refl;
  each = λ i was now before after.
      let a : now ≡ was = one_list lists i now was after before in
      (ap (λ (x : Vec SeatState Global). vec_capacity x) a, ap (λ (x : Vec SeatState Global). x.items) a ∙ sym (append-nil was.items) ∙ ap (λ b. was.items ++ own_seat b s) (sym (ap (sits_in i) place)));
}

pub read_at : {A : Type 0} (xs : List A) (i : ℕ) (x : A) → i < length xs → x ≡ get_or xs i x → slice_get xs i ≡ Some x
read_at xs i x less e = slice_get_read xs (length xs) i x refl less e

pub none_of : (o : Option ℕ) → ((x : ℕ) → o ≡ Some x → ⊥) → o ≡ None
none_of None h = refl
none_of (Some x) h = absurd (h x refl)

-- ---- settling

pub whole_at : (switches : List (Option (Arc SwitchState Global))) (lists : List (Vec SeatState Global)) (k : ℕ) (o : Option (Arc SwitchState Global)) (x : Vec SeatState Global) → AllWhole switches lists → slice_get switches k ≡ Some o → slice_get lists k ≡ Some x → IfSome o (λ s. HasAllSeats (arc_value s) x)
whole_at switches lists k None x all at is = tt
whole_at switches lists k (Some s) x all at is = all k s x at is

pub settled_at : (o : Option (Arc SwitchState Global)) (x : Vec SeatState Global) (switches : List (Option (Arc SwitchState Global))) (k : ℕ) → slice_get switches k ≡ Some o → IfSome o (λ s. IsSettledAt x) → (s : Arc SwitchState Global) → slice_get switches k ≡ Some (Some s) → IsSettledAt x
settled_at None x switches k at h s is = let e : Some None ≡ Some (Some s) = sym at ∙ is in absurd cc
settled_at (Some t) x switches k at h s is = h

-- the lists behind those that are left were settled
pub record SettledFrom (switches : List (Option (Arc SwitchState Global))) (lists left : List (Vec SeatState Global)) : Type 0 where
  pub done : List (Vec SeatState Global)
  pub are : lists ≡ left ++ done
  pub so : (j : ℕ) (s : Arc SwitchState Global) (list : Vec SeatState Global) → length left ≤ j → slice_get switches j ≡ Some (Some s) → slice_get lists j ≡ Some list → IsSettledAt list

pub settled_start : (switches : List (Option (Arc SwitchState Global))) (lists left : List (Vec SeatState Global)) → left ≡ lists → SettledFrom switches lists left
settled_start switches lists left same = record {
  done = [];
  are = sym same ∙ sym (append-nil left);
  so = λ j s list past at is. let less = is_within lists j list is in absurd (omega (arith, less, past, ap length same));
}

-- the last of those that are left
pub last_there : (lists old left done : List (Vec SeatState Global)) (x : Vec SeatState Global) → lists ≡ old ++ done → old ≡ left ++ x ∷ [] → slice_get lists (length left) ≡ Some x
last_there lists old left done x all e =
    ap (λ l. slice_get l (length left)) (all ∙ ap (λ l. l ++ done) e) ∙ pushed_old (left ++ x ∷ []) done (length left) x (pushed_new left x)

pub settled_next : (switches : List (Option (Arc SwitchState Global))) (lists old left : List (Vec SeatState Global)) (x : Vec SeatState Global) → SettledFrom switches lists old → old ≡ left ++ x ∷ []
    → ((s : Arc SwitchState Global) → slice_get switches (length left) ≡ Some (Some s) → IsSettledAt x) → SettledFrom switches lists left
settled_next switches lists old left x p e here = record {
  done = x ∷ p.done;
  are = p.are ∙ ap (λ l. l ++ p.done) e ∙ append_assoc left (x ∷ []) p.done;
  so = λ j s list past at is. ⊎_elim
      (λ (same : length left ≡ j).
      let last = last_there lists old left p.done x p.are e in
      let f : x ≡ list = one_list lists j x list (ap (slice_get lists) (sym same) ∙ last) is in
      subst IsSettledAt f (here s (ap (slice_get switches) same ∙ at)))
      (λ (further : length left < j). p.so j s list (let size : length old ≡ length left + 1 = ap length e ∙ length-append left (x ∷ []) in omega (arith, size, further)) at is)
      (at_or_past (length left) j past);
}
  where
    at_or_past : (a b : ℕ) → a ≤ b → (a ≡ b) ⊎ (a < b)
    at_or_past zero zero le = inl refl
    at_or_past zero (suc b) le = inr (omega arith)
    at_or_past (suc a) zero le = absurd (omega (arith, le))
    at_or_past (suc a) (suc b) le = ⊎_elim (λ e. inl (ap suc e)) (λ l. inr (omega (arith, l))) (at_or_past a b (omega (arith, le)))

pub settled_end : (switches : List (Option (Arc SwitchState Global))) (lists left : List (Vec SeatState Global)) → SettledFrom switches lists left → left ≡ [] → ListsSettled switches lists
settled_end switches lists left p none = λ j s list at is. p.so j s list (let size = ap length none in omega (arith, size)) at is
