-- What an island keeps of an input boundary.
use Rattle.std.proofs.Common.{◌≡◌, ◌≢◌, ◌+◌, ◌*◌, ◌/◌, ◌<◌, ◌≤◌, max, ℕ, zero, suc, Bool, true, false, cond, List, [], ◌∷◌, ◌++◌, length, refl, sym, ap, ◌∙◌, arith, append-nil, length-append}
use Rattle.std.specs.Prelude.{Option}
use Rattle.elem_core.specs.Tree.{Tree}
use Rattle.elem_core.specs.Items.{elements}
use Rattle.elem_core.specs.declared.item.Item.{Item}
use Rattle.elem_core.specs.declared.item.Item.TheVariants as item
use Rattle.elem_core.specs.declared.why.Cause.{Cause}
use Rattle.elem_core.proofs.Prefixes.{prefix_append}
use Rattle.stream_model.specs.Outlook.{End, unended, ended, failed}
use Rattle.stream_model.specs.Lane.{Carries}
use Rattle.stage_core.specs.Held.{told, end_items}
use Rattle.stage_core.proofs.Told.{told-append, told-end}
use Rattle.lane_core.specs.declared.state.State.{State}
use Rattle.lane_core.specs.declared.state.State.TheVariants.{Flowing, Closed, Cancelled}
use Rattle.lane_core.specs.Flow.{is_failure, drops, handed_by, Flow, AsksByHalves}
use Rattle.stream_model.specs.Lane.{loss_of}
use Rattle.lane_core.proofs.Flows.{elements_append}

few_elements : (l : List Item) → elements l ≤ length l
few_elements [] = omega arith
few_elements (item.Elem e ∷ l) = let r = few_elements l in omega (arith, r)
few_elements (item.Ended ∷ l) = let r = few_elements l in omega (arith, r)
few_elements (item.Failed c ∷ l) = let r = few_elements l in omega (arith, r)

-- elements alone are a list that was told
pub record ListOf (h : List Item) : Type 0 where
  pub list : List Tree
  pub is : h ≡ told list unended
  pub count : length list ≡ length h

list_of : (h : List Item) → elements h ≡ length h → ListOf h
list_of [] e = record { list = []; is = refl; count = refl }
list_of (item.Elem t ∷ h) e = let r = list_of h (omega (arith, e)) in record { list = t ∷ r.list; is = ap (λ (x : List Item). item.Elem t ∷ x) r.is; count = ap suc r.count }
list_of (item.Ended ∷ h) e = let r = few_elements h in absurd (omega (arith, e, r))
list_of (item.Failed c ∷ h) e = let r = few_elements h in absurd (omega (arith, e, r))

-- how a list stands behind which this end came, or none
pub record EndBy (E : List Item) : Type 0 where
  pub end : End
  pub is : E ≡ end_items end
  pub fails : (c : Cause) → end ≡ failed c → is_failure E ≡ true
  pub normal : end ≡ ended → is_failure E ≡ false
  pub none : end ≡ unended → length E ≡ 0

end_by : (E : List Item) → length E ≤ 1 → elements E ≡ 0 → EndBy E
end_by [] l e = record { end = unended; is = refl; fails = λ c x. cc; normal = λ x. refl; none = λ x. refl }
end_by (item.Ended ∷ []) l e = record { end = ended; is = refl; fails = λ c x. cc; normal = λ x. refl; none = λ x. cc }
end_by (item.Failed d ∷ []) l e = record { end = failed d; is = refl; fails = λ c x. refl; normal = λ x. cc; none = λ x. cc }
end_by (item.Elem t ∷ []) l e = absurd (omega (arith, e))
end_by (x ∷ y ∷ E) l e = absurd (omega (arith, l))

drops_normal : (keep : Bool) (E : List Item) → is_failure E ≡ false → drops keep E ≡ false
drops_normal true E h = refl
drops_normal false E h = h

one_at_most : (over : Bool) (n : ℕ) → n ≡ cond over 1 0 → n ≤ 1
one_at_most true n e = omega (arith, e)
one_at_most false n e = omega (arith, e)

-- what was taken and what was handed on, as lists and their ends
pub record Carried (s : ℕ) (T G : List Item) (S : State) : Type 0 where
  pub taken_list : List Tree
  pub taken_end : End
  pub given_list : List Tree
  pub given_end : End
  pub taken_is : T ≡ told taken_list taken_end
  pub given_is : G ≡ told given_list given_end
  pub carries : Carries s taken_list taken_end given_list given_end
  pub goes_on : S ≢ Closed → given_end ≡ unended
  pub closed : S ≡ Closed → given_end ≢ unended

nil_of : {A : Type 0} → (x : List A) → length x ≡ 0 → x ≡ []
nil_of [] h = refl
nil_of (y ∷ x) h = absurd (omega (arith, h))

module _ (keep : Bool) (s : ℕ) (T G L : List Item) (W : List Tree) (E : List Item) (P : Option Item) (over : Bool) (S : State) (c : ℕ) (f : Flow keep s T G L W E P over S c) (g : ListOf G) (l : ListOf L) (e : EndBy E) where
  abbrev all : List Tree
  all = g.list ++ (l.list ++ W)

  all_told : T ≡ told all e.end
  all_told =
      f.taken_is ∙ (ap (λ (x : List Item). x ++ (L ++ (told W unended ++ E))) g.is ∙ (ap (λ (x : List Item). told g.list unended ++ (x ++ (told W unended ++ E))) l.is ∙ (ap (λ (x : List Item). told g.list unended ++ (told l.list unended ++ (told W unended ++ x))) e.is ∙ joined)))
    where
      joined : told g.list unended ++ (told l.list unended ++ (told W unended ++ end_items e.end)) ≡ told all e.end
      joined =
          ap (λ (x : List Item). told g.list unended ++ (told l.list unended ++ x)) (sym (told-end W e.end))
          ∙ (ap (λ (x : List Item). told g.list unended ++ x) (sym (told-append l.list W e.end)) ∙ sym (told-append g.list (l.list ++ W) e.end))

  some_given : S ≢ Closed → G ++ handed_by S E ≡ told g.list unended → Carried (loss_of keep s) T (G ++ handed_by S E) S
  some_given unclosed given = record { taken_list = all; taken_end = e.end; given_list = g.list; given_end = unended; taken_is = all_told; given_is = given; carries = prefix_append g.list (l.list ++ W); goes_on = λ n. refl; closed = λ is. absurd (unclosed is) }

  none_handed : handed_by S E ≡ [] → G ++ handed_by S E ≡ told g.list unended
  none_handed n = ap (λ (x : List Item). G ++ x) n ∙ (append-nil G ∙ g.is)

  closed_not : S ≡ Closed → S ≢ Cancelled
  closed_not is = λ x. let two : Closed ≡ Cancelled = sym is ∙ x in cc

  none_waits : S ≡ Closed → W ≡ []
  none_waits is = f.none_waits (λ x. let two : Closed ≡ Flowing = sym is ∙ x in cc)

  lost_length : length l.list + length W ≤ s → length all ≤ length g.list + s
  lost_length h = let a = length-append g.list (l.list ++ W) in let b = length-append l.list W in omega (arith, a, b, h)

  nothing_left : S ≡ Closed → L ≡ [] → l.list ++ W ≡ []
  nothing_left is none =
      let short : length l.list ≡ 0 = l.count ∙ ap length none in
      ap (λ (x : List Tree). x ++ W) (nil_of l.list short) ∙ none_waits is

  closed_carries : S ≡ Closed → (z : End) → e.end ≡ z → Carries (loss_of keep s) all z g.list z
  closed_carries is unended at = prefix_append g.list (l.list ++ W)
  closed_carries is ended at =
      let none : L ≡ [] = f.none_lost (closed_not is) (drops_normal keep E (e.normal at)) in
      (refl, sym (ap (λ (x : List Tree). g.list ++ x) (nothing_left is none) ∙ append-nil g.list))
  closed_carries is (failed d) at = (refl, prefix_append g.list (l.list ++ W), few_lost keep refl)
    where
      few_lost : (b : Bool) → keep ≡ b → length all ≤ length g.list + loss_of b s
      few_lost true k =
          let none : L ≡ [] = f.none_lost (closed_not is) (ap (λ (x : Bool). drops x E) k) in
          let n = ap length (nothing_left is none) in
          let a = length-append g.list (l.list ++ W) in
          omega (arith, a, n)
      few_lost false k =
          let few = f.few (closed_not is) in
          let same = l.count in
          lost_length (omega (arith, few, same))

  carried_by : Carried (loss_of keep s) T (G ++ handed_by S E) S
  carried_by = by S refl
    where
      by : (z : State) → S ≡ z → Carried (loss_of keep s) T (G ++ handed_by S E) S
      by Flowing is = some_given (λ x. let two : Flowing ≡ Closed = sym is ∙ x in cc) (none_handed (ap (λ (x : State). handed_by x E) is))
      by Cancelled is = some_given (λ x. let two : Cancelled ≡ Closed = sym is ∙ x in cc) (none_handed (ap (λ (x : State). handed_by x E) is))
      by Closed is = record {
        taken_list = all;
        taken_end = e.end;
        given_list = g.list;
        given_end = e.end;
        taken_is = all_told;
        given_is = ap (λ (x : State). G ++ handed_by x E) is ∙ (ap (λ (x : List Item). x ++ E) g.is ∙ (ap (λ (x : List Item). told g.list unended ++ x) e.is ∙ sym (told-end g.list e.end)));
        carries = closed_carries is e.end refl;
        goes_on = λ n. absurd (n is);
        closed = λ z none. let short = e.none none in let one = f.one_end in let over_one = ap (λ (b : Bool). cond {A = ℕ} b 1 0) (f.closed is) in absurd (omega (arith, short, one, over_one));
      }

module _ (keep : Bool) (s : ℕ) (T G L : List Item) (W : List Tree) (E : List Item) (P : Option Item) (over : Bool) (S : State) (c : ℕ) (f : Flow keep s T G L W E P over S c) where
  pub carried : Carried (loss_of keep s) T (G ++ handed_by S E) S
  carried = carried_by keep s T G L W E P over S c f (list_of G f.gave_elements) (list_of L f.lost_elements) (end_by E (one_at_most over (length E) f.one_end) f.no_element)

  -- an end is no element
  handed_none : elements (handed_by S E) ≡ 0
  handed_none = by S refl
    where
      by : (z : State) → S ≡ z → elements (handed_by S E) ≡ 0
      by Flowing is = ap (λ (x : State). elements (handed_by x E)) is
      by Closed is = ap (λ (x : State). elements (handed_by x E)) is ∙ f.no_element
      by Cancelled is = ap (λ (x : State). elements (handed_by x E)) is

  pub given_count : elements (G ++ handed_by S E) ≡ elements G
  given_count = let a = elements_append G (handed_by S E) in let b = handed_none in omega (arith, a, b)

-- ---- what was asked for

half_fits : (s half : ℕ) → half ≡ max 1 (s / 2) → 1 ≤ s → half ≤ s
half_fits s half h one = omega (arith, h, one)

times_least : (n k : ℕ) → 1 ≤ n → k ≤ n * k
times_least zero k h = absurd (omega (arith, h))
times_least (suc n) k h = omega arith

times_more : (n k : ℕ) → 1 ≤ k → n ≤ n * k
times_more zero k h = omega arith
times_more (suc n) k h = let r = times_more n k h in omega (arith, r, h)

module _ (s half asked calls pushed passed : ℕ) (a : AsksByHalves s half asked calls pushed passed) where
  pub most : asked ≤ pushed + s
  most = let x = a.asked_is in let y = a.pushed_is in omega (arith, x, y)

  pub more : half ≡ max 1 (s / 2) → 1 ≤ s → pushed < asked
  more h one = let x = a.asked_is in let y = a.pushed_is in let z = half_fits s half h one in let w = a.less in omega (arith, x, y, z, w)

  pub least : s ≤ asked
  least = let x = a.asked_is in let y = times_least calls half a.begun in omega (arith, x, y)

  pub few_calls : calls ≤ pushed + 1
  few_calls = by calls a.begun a.pushed_is
    where
      by : (n : ℕ) → 1 ≤ n → pushed + half ≡ n * half + passed → n ≤ pushed + 1
      by zero b y = omega arith
      by (suc n) b y = let w = a.less in let r = times_more n half (omega (arith, w)) in omega (arith, y, w, r)
