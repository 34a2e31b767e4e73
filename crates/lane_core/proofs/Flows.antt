-- How the flow of an input boundary goes on.
use Rattle.std.proofs.Common.{◌≡◌, ◌≢◌, ◌+◌, ◌*◌, ◌<◌, ◌≤◌, ◌^◌, ℕ, Bool, true, false, cond, List, [], ◌∷◌, ◌++◌, length, refl, sym, ap, subst, ◌∙◌, arith, append_assoc, append-nil, length-append}
use Rattle.std.specs.Option.{option_to_list}
use Rattle.std.specs.Prelude.{Option, Some, None}
use Rattle.elem_core.specs.Tree.{Tree}
use Rattle.elem_core.specs.Items.{elements}
use Rattle.elem_core.specs.declared.item.Item.{Item}
use Rattle.elem_core.specs.declared.item.Item.TheVariants as item
use Rattle.elem_core.specs.declared.count.TheConstants.{MOST_COUNT}
use Rattle.lane_core.specs.Lane.{ends}
use Rattle.stream_model.specs.Outlook.{unended}
use Rattle.stage_core.specs.Held.{told}
use Rattle.stage_core.proofs.Told.{told-append}
use Rattle.lane_core.specs.declared.state.State.{State}
use Rattle.lane_core.specs.declared.state.State.TheVariants.{Flowing, Closed, Cancelled}
use Rattle.lane_core.specs.Flow.{drops, pending_by, handed_by, cancelled_by, Flow, AsksByHalves}

-- ---- counts

pub elements_append : (a b : List Item) → elements (a ++ b) ≡ elements a + elements b
elements_append [] b = omega arith
elements_append (item.Elem e ∷ a) b = let r = elements_append a b in omega (arith, r)
elements_append (item.Ended ∷ a) b = let r = elements_append a b in omega (arith, r)
elements_append (item.Failed c ∷ a) b = let r = elements_append a b in omega (arith, r)

pub elements_told : (l : List Tree) → elements (told l unended) ≡ length l
elements_told [] = refl
elements_told (t ∷ l) = let r = elements_told l in omega (arith, r)

pub length_told : (l : List Tree) → length (told l unended) ≡ length l
length_told [] = refl
length_told (t ∷ l) = let r = length_told l in omega (arith, r)

-- the last of a list is one that is told in another way
pub behind : (l l' : List Item) (x y : Item) → l' ≡ l ++ x ∷ [] → x ≡ y → l' ≡ l ++ y ∷ []
behind l l' x y e is = e ∙ ap (λ (z : Item). l ++ z ∷ []) is

-- where nothing waited, one waits at most once an element or an end came
pub one_behind : (W V : List Tree) (e : Tree) → V ≡ W ++ e ∷ [] → W ≡ [] → length V ≤ 1
one_behind W V e v w = rw (v, w) (omega arith)

pub end_behind : (keep : Bool) (x : Item) (L M : List Item) (W V : List Tree) → (drops keep (x ∷ []) ≡ false → (M ≡ L) × (V ≡ W)) → (drops keep (x ∷ []) ≡ true → (M ≡ L ++ told W unended) × (V ≡ [])) → W ≡ [] → length V ≤ 1
end_behind keep x L M W V keeps lets_go w = by (drops keep (x ∷ [])) refl
  where
    by : (b : Bool) → drops keep (x ∷ []) ≡ b → length V ≤ 1
    by false e = rw ((keeps e).1, w) (omega arith)
    by true e = rw (lets_go e).1 (omega arith)

none_of : {A : Type 0} → (l : List A) → length l ≡ 0 → l ≡ []
none_of [] e = refl
none_of (x ∷ l) e = absurd (omega (arith, e))

both : (a b : List Item) → elements a ≡ length a → elements b ≡ length b → elements (a ++ b) ≡ length (a ++ b)
both a b p q = let r = elements_append a b in let l = length-append a b in omega (arith, p, q, r, l)

open_none : {E : List Item} {over : Bool} → length E ≡ cond over 1 0 → over ≡ false → E ≡ []
open_none {E = E} {over = over} l o = none_of E (l ∙ ap (λ (b : Bool). cond b 1 0) o)

drops_none : (keep : Bool) → drops keep [] ≡ false
drops_none true = refl
drops_none false = refl

one_over : (over : Bool) → ◌≡◌ {A = ℕ} 1 (cond over 1 0) → over ≡ true
one_over true e = refl
one_over false e = absurd (omega (arith, e))

module _ (keep : Bool) (s : ℕ) (T G L : List Item) (W : List Tree) (E : List Item) (P : Option Item) (over : Bool) (S : State) (c : ℕ) (f : Flow keep s T G L W E P over S c) where
  -- all that was taken is at least what was handed on and what waits
  pub count : elements T ≡ elements G + (elements L + length W)
  count =
      let a = ap elements f.taken_is in
      let b = elements_append G (L ++ (told W unended ++ E)) in
      let d = elements_append L (told W unended ++ E) in
      let e = elements_append (told W unended) E in
      let t = elements_told W in
      let n = f.no_element in
      omega (arith, a, b, d, e, t, n)

  -- where all that was taken was handed on, nothing waits
  pub none_behind : T ≡ G ++ handed_by S E → W ≡ []
  none_behind e =
      let n = count in
      let t = ap elements e in
      let a = elements_append G (handed_by S E) in
      let h = handed S in
      none_of W (omega (arith, n, t, a, h))
    where
      handed : (z : State) → elements (handed_by z E) ≡ 0
      handed Flowing = refl
      handed Closed = f.no_element
      handed Cancelled = refl

  -- no end was taken yet
  no_end : over ≡ false → E ≡ []
  no_end o = open_none f.one_end o

  flows_not : S ≡ Flowing → S ≢ Cancelled
  flows_not e = λ x. let two : Flowing ≡ Cancelled = sym e ∙ x in cc

  none_failed : over ≡ false → drops keep E ≡ false
  none_failed o = ap (drops keep) (no_end o) ∙ drops_none keep

  lost_none : S ≡ Flowing → over ≡ false → L ≡ []
  lost_none e o = f.none_lost (flows_not e) (none_failed o)

  pub few_wait : S ≡ Flowing → length W ≤ s
  few_wait e = let n = f.few (flows_not e) in omega (arith, n)

  -- an element came, and waits
  pub took_elem : (e : Tree) (T' : List Item) (W' : List Tree) → S ≡ Flowing → over ≡ false → length W < s → T' ≡ T ++ item.Elem e ∷ [] → W' ≡ W ++ e ∷ [] → Flow keep s T' G L W' E P over S c
  took_elem e T' W' fl o less t w =
      let nothing : E ≡ [] = no_end o in
      record {
        taken_is = t ∙ (ap (λ (l : List Item). l ++ item.Elem e ∷ []) f.taken_is ∙ (moved nothing ∙ ap (λ (v : List Tree). G ++ (L ++ (told v unended ++ E))) (sym w)));
        gave_elements = f.gave_elements;
        lost_elements = f.lost_elements;
        one_end = f.one_end;
        no_element = f.no_element;
        pending_is = f.pending_is;
        cancelled_is = f.cancelled_is;
        closed = f.closed;
        none_waits = λ n. absurd (n fl);
        none_lost = f.none_lost;
        few = λ n. let l = ap length (lost_none fl o) in let v = ap length w in let a = length-append W (e ∷ []) in omega (arith, l, v, a, less);
        failure = λ x. let no : drops keep E ≡ false = none_failed o in absurd cc;
      }
    where
      moved : E ≡ [] → (G ++ (L ++ (told W unended ++ E))) ++ item.Elem e ∷ [] ≡ G ++ (L ++ (told (W ++ e ∷ []) unended ++ E))
      moved n = rw n (ap (λ (l : List Item). (G ++ (L ++ l)) ++ item.Elem e ∷ []) (append-nil (told W unended)) ∙ (append_assoc G (L ++ told W unended) (item.Elem e ∷ []) ∙ ap (λ (l : List Item). G ++ l) (append_assoc L (told W unended) (item.Elem e ∷ []) ∙ ap (λ (l : List Item). L ++ l) (sym (told-append W (e ∷ []) unended) ∙ sym (append-nil (told (W ++ e ∷ []) unended))))))

  -- where it is not open and no end came, it was cancelled
  was_cancelled : S ≢ Flowing → over ≡ false → S ≡ Cancelled
  was_cancelled n o = by S refl
    where
      by : (z : State) → S ≡ z → S ≡ Cancelled
      by Flowing e = absurd (n e)
      by Closed e = let yes : over ≡ true = f.closed e in absurd cc
      by Cancelled e = e

  -- an element came behind the cancel, and is dropped
  pub dropped_elem : (e : Tree) (T' L' : List Item) → S ≢ Flowing → over ≡ false → T' ≡ T ++ item.Elem e ∷ [] → L' ≡ L ++ item.Elem e ∷ [] → Flow keep s T' G L' W E P over S c
  dropped_elem e T' L' fl o t l =
      let is : S ≡ Cancelled = was_cancelled fl o in
      record {
        taken_is = t ∙ (ap (λ (x : List Item). x ++ item.Elem e ∷ []) f.taken_is ∙ (moved (no_end o) (f.none_waits fl) ∙ ap (λ (x : List Item). G ++ (x ++ (told W unended ++ E))) (sym l)));
        gave_elements = f.gave_elements;
        lost_elements = subst (λ (x : List Item). elements x ≡ length x) (sym l) (both L (item.Elem e ∷ []) f.lost_elements refl);
        one_end = f.one_end;
        no_element = f.no_element;
        pending_is = f.pending_is;
        cancelled_is = f.cancelled_is;
        closed = f.closed;
        none_waits = f.none_waits;
        none_lost = λ n. absurd (n is);
        few = λ n. absurd (n is);
        failure = f.failure;
      }
    where
      moved : E ≡ [] → W ≡ [] → (G ++ (L ++ (told W unended ++ E))) ++ item.Elem e ∷ [] ≡ G ++ ((L ++ item.Elem e ∷ []) ++ (told W unended ++ E))
      moved n w = rw (n, w) (ap (λ (x : List Item). (G ++ x) ++ item.Elem e ∷ []) (append-nil L) ∙ (append_assoc G L (item.Elem e ∷ []) ∙ ap (λ (x : List Item). G ++ x) (sym (append-nil (L ++ item.Elem e ∷ [])))))

  -- an end came: it is noted behind all that was taken
  ended_taken : (x : Item) → E ≡ [] → (G ++ (L ++ (told W unended ++ E))) ++ x ∷ [] ≡ G ++ (L ++ (told W unended ++ (E ++ x ∷ [])))
  ended_taken x n = append_assoc G (L ++ (told W unended ++ E)) (x ∷ []) ∙ ap (λ (l : List Item). G ++ l) (append_assoc L (told W unended ++ E) (x ∷ []) ∙ ap (λ (l : List Item). L ++ l) (append_assoc (told W unended) E (x ∷ [])))

  end_weight : (x : Item) → ends x ≡ true → elements (x ∷ []) ≡ 0
  end_weight (item.Elem e) h = cc
  end_weight item.Ended h = refl
  end_weight (item.Failed d) h = refl

  -- an end came: a failure finds nothing waiting, since it drops what waits
  pub took_end : (x : Item) (T' L' E' : List Item) (W' : List Tree) (P' : Option Item) → ends x ≡ true → over ≡ false → T' ≡ T ++ x ∷ [] → E' ≡ E ++ x ∷ []
      → (drops keep (x ∷ []) ≡ false → (L' ≡ L) × (W' ≡ W)) → (drops keep (x ∷ []) ≡ true → (L' ≡ L ++ told W unended) × (W' ≡ [])) → option_to_list P' ≡ pending_by S E' → Flow keep s T' G L' W' E' P' true S c
  took_end x T' L' E' W' P' h o t en keeps lets_go p =
      let nothing : E ≡ [] = no_end o in
      let now : E' ≡ x ∷ [] = en ∙ ap (λ (l : List Item). l ++ x ∷ []) nothing in
      record {
        taken_is = t ∙ (ap (λ (l : List Item). l ++ x ∷ []) f.taken_is ∙ (ended_taken x nothing ∙ (ap (λ (l : List Item). G ++ (L ++ (told W unended ++ l))) (sym en) ∙ regrouped)));
        gave_elements = f.gave_elements;
        lost_elements = by_lost (drops keep (x ∷ [])) refl;
        one_end = ap length now;
        no_element = ap elements now ∙ end_weight x h;
        pending_is = p;
        cancelled_is = f.cancelled_is;
        closed = λ e. refl;
        none_waits = λ n. by_none n (drops keep (x ∷ [])) refl;
        none_lost = λ n fl. let old : L ≡ [] = f.none_lost n (none_failed o) in (keeps (sym (ap (drops keep) now) ∙ fl)).0 ∙ old;
        few = λ n. let old = f.few n in by_few old (drops keep (x ∷ [])) refl;
        failure = λ fl. (lets_go (sym (ap (drops keep) now) ∙ fl)).1;
      }
    where
      same : (b : Bool) → drops keep (x ∷ []) ≡ b → L' ++ told W' unended ≡ L ++ told W unended
      same false e = ap (λ (l : List Item). l ++ told W' unended) (keeps e).0 ∙ ap (λ (v : List Tree). L ++ told v unended) (keeps e).1
      same true e = ap (λ (l : List Item). l ++ told W' unended) (lets_go e).0 ∙ (ap (λ (v : List Tree). (L ++ told W unended) ++ told v unended) (lets_go e).1 ∙ append-nil (L ++ told W unended))

      regrouped : G ++ (L ++ (told W unended ++ E')) ≡ G ++ (L' ++ (told W' unended ++ E'))
      regrouped = ap (λ (l : List Item). G ++ l) (sym (append_assoc L (told W unended) E') ∙ (ap (λ (l : List Item). l ++ E') (sym (same (drops keep (x ∷ [])) refl)) ∙ append_assoc L' (told W' unended) E'))

      by_lost : (b : Bool) → drops keep (x ∷ []) ≡ b → elements L' ≡ length L'
      by_lost false e = subst (λ (l : List Item). elements l ≡ length l) (sym (keeps e).0) f.lost_elements
      by_lost true e = subst (λ (l : List Item). elements l ≡ length l) (sym (lets_go e).0) (both L (told W unended) f.lost_elements (elements_told W ∙ sym (length_told W)))

      by_none : S ≢ Flowing → (b : Bool) → drops keep (x ∷ []) ≡ b → W' ≡ []
      by_none n false e = (keeps e).1 ∙ f.none_waits n
      by_none n true e = (lets_go e).1

      by_few : length L + length W ≤ s → (b : Bool) → drops keep (x ∷ []) ≡ b → length L' + length W' ≤ s
      by_few old false e = let l = ap length (keeps e).0 in let w = ap length (keeps e).1 in omega (arith, l, w, old)
      by_few old true e = let l = ap length (lets_go e).0 in let w = ap length (lets_go e).1 in let a = length-append L (told W unended) in let b = length_told W in omega (arith, l, w, a, b, old)

  -- where it is open, the end that came waits; and where it is not, nothing does
  pending_some : (x : Item) (E' : List Item) → over ≡ false → S ≡ Flowing → E' ≡ E ++ x ∷ [] → option_to_list (Some x) ≡ pending_by S E'
  pending_some x E' o fl en = sym (ap (λ (z : State). pending_by z E') fl ∙ (en ∙ ap (λ (l : List Item). l ++ x ∷ []) (no_end o)))

  pending_none : (E' : List Item) → S ≢ Flowing → option_to_list P ≡ pending_by S E'
  pending_none E' n = by S refl
    where
      by : (z : State) → S ≡ z → option_to_list P ≡ pending_by S E'
      by Flowing e = absurd (n e)
      by Closed e = f.pending_is ∙ (ap (λ (z : State). pending_by z E) e ∙ sym (ap (λ (z : State). pending_by z E') e))
      by Cancelled e = f.pending_is ∙ (ap (λ (z : State). pending_by z E) e ∙ sym (ap (λ (z : State). pending_by z E') e))

  -- the end that came waits exactly where it is open
  pub pending_end : (x : Item) (E' : List Item) (P' : Option Item) → over ≡ false → E' ≡ E ++ x ∷ [] → (S ≡ Flowing → P' ≡ Some x) → (S ≢ Flowing → P' ≡ P) → option_to_list P' ≡ pending_by S E'
  pending_end x E' P' o en flows stays = by S refl
    where
      still : S ≢ Flowing → option_to_list P' ≡ pending_by S E'
      still n = ap option_to_list (stays n) ∙ pending_none E' n

      by : (z : State) → S ≡ z → option_to_list P' ≡ pending_by S E'
      by Flowing is = ap option_to_list (flows is) ∙ pending_some x E' o is en
      by Closed is = still (λ x. let two : Closed ≡ Flowing = sym is ∙ x in cc)
      by Cancelled is = still (λ x. let two : Cancelled ≡ Flowing = sym is ∙ x in cc)

  -- it is open while an element waits
  pub flows_on : (e : Tree) (V : List Tree) → W ≡ e ∷ V → S ≡ Flowing
  flows_on e V w = by S refl
    where
      no : S ≢ Flowing → ⊥
      no n = let z : W ≡ [] = f.none_waits n in cc

      by : (z : State) → S ≡ z → S ≡ Flowing
      by Flowing is = is
      by Closed is = absurd (no (λ x. let two : Closed ≡ Flowing = sym is ∙ x in cc))
      by Cancelled is = absurd (no (λ x. let two : Cancelled ≡ Flowing = sym is ∙ x in cc))

  -- where an element waits, none was dropped
  waits_none_lost : (e : Tree) (V : List Tree) → W ≡ e ∷ V → L ≡ []
  waits_none_lost e V w = f.none_lost (flows_not (flows_on e V w)) (by (drops keep E) refl)
    where
      by : (b : Bool) → drops keep E ≡ b → drops keep E ≡ false
      by false is = is
      by true is = let z : W ≡ [] = f.failure is in absurd cc

  -- the first that waits is handed on
  pub gave_elem : (e : Tree) (V : List Tree) (G' : List Item) → W ≡ e ∷ V → G' ≡ G ++ item.Elem e ∷ [] → Flow keep s T G' L V E P over S c
  gave_elem e V G' w g =
      let none : L ≡ [] = waits_none_lost e V w in
      let flowing : S ≡ Flowing = flows_on e V w in
      record {
        taken_is = f.taken_is ∙ (moved none w ∙ ap (λ (l : List Item). l ++ (L ++ (told V unended ++ E))) (sym g));
        gave_elements = subst (λ (x : List Item). elements x ≡ length x) (sym g) (both G (item.Elem e ∷ []) f.gave_elements refl);
        lost_elements = f.lost_elements;
        one_end = f.one_end;
        no_element = f.no_element;
        pending_is = f.pending_is;
        cancelled_is = f.cancelled_is;
        closed = f.closed;
        none_waits = λ n. absurd (n flowing);
        none_lost = f.none_lost;
        few = λ n. let old = f.few n in let l = ap length w in omega (arith, old, l);
        failure = λ x. let z : W ≡ [] = f.failure x in absurd cc;
      }
    where
      moved : L ≡ [] → W ≡ e ∷ V → G ++ (L ++ (told W unended ++ E)) ≡ (G ++ item.Elem e ∷ []) ++ (L ++ (told V unended ++ E))
      moved n v = rw (n, v) (sym (append_assoc G (item.Elem e ∷ []) (told V unended ++ E)))

  -- the end that waits is the one that was taken, and it is open
  pub end_is : (x : Item) → P ≡ Some x → (S ≡ Flowing) × (E ≡ x ∷ [])
  end_is x p = by S refl (sym (ap option_to_list p) ∙ f.pending_is)
    where
      by : (z : State) → S ≡ z → x ∷ [] ≡ pending_by S E → (S ≡ Flowing) × (E ≡ x ∷ [])
      by Flowing is e = (is, sym (e ∙ ap (λ (y : State). pending_by y E) is))
      by Closed is e = let no : x ∷ [] ≡ [] = e ∙ ap (λ (y : State). pending_by y E) is in absurd cc
      by Cancelled is e = let no : x ∷ [] ≡ [] = e ∙ ap (λ (y : State). pending_by y E) is in absurd cc

  -- the end is handed on, where no element waits
  pub gave_end : (x : Item) (P' : Option Item) → P ≡ Some x → W ≡ [] → P' ≡ None → Flow keep s T G L W E P' over Closed c
  gave_end x P' p w q =
      let at = end_is x p in
      record {
        taken_is = f.taken_is;
        gave_elements = f.gave_elements;
        lost_elements = f.lost_elements;
        one_end = f.one_end;
        no_element = f.no_element;
        pending_is = ap option_to_list q;
        cancelled_is = f.cancelled_is ∙ ap (λ (z : State). cancelled_by z) at.0;
        closed = λ e. one_over over (sym (ap length at.1) ∙ f.one_end);
        none_waits = λ n. w;
        none_lost = λ n. f.none_lost (flows_not at.0);
        few = λ n. f.few (flows_not at.0);
        failure = f.failure;
      }

  -- the lane is cancelled, and what waits is dropped
  pub cancelled : (L' : List Item) (W' : List Tree) (P' : Option Item) (c' : ℕ) → L' ≡ L ++ told W unended → W' ≡ [] → P' ≡ None → c' ≡ 1 → Flow keep s T G L' W' E P' over Cancelled c'
  cancelled L' W' P' c' l w p one = record {
    taken_is = f.taken_is ∙ (ap (λ (x : List Item). G ++ x) (sym (append_assoc L (told W unended) E)) ∙ rw (l, w) refl);
    gave_elements = f.gave_elements;
    lost_elements = subst (λ (x : List Item). elements x ≡ length x) (sym l) (both L (told W unended) f.lost_elements (elements_told W ∙ sym (length_told W)));
    one_end = f.one_end;
    no_element = f.no_element;
    pending_is = ap option_to_list p;
    cancelled_is = one;
    closed = λ e. cc;
    none_waits = λ n. w;
    none_lost = λ n. absurd (n refl);
    few = λ n. absurd (n refl);
    failure = λ x. w;
  }

-- the lane's end may be another that has the same size and took the same
pub at_lane : (keep : Bool) (s s' : ℕ) (T T' G L : List Item) (W : List Tree) (E : List Item) (P : Option Item) (over : Bool) (S : State) (c c' : ℕ) → s' ≡ s → T' ≡ T → c' ≡ c → Flow keep s T G L W E P over S c → Flow keep s' T' G L W E P over S c'
at_lane keep s s' T T' G L W E P over S c c' es et ec f = rw (es, et, ec) f

-- ---- asks

module _ (s half asked calls pushed passed : ℕ) (a : AsksByHalves s half asked calls pushed passed) where
  -- what waits has a place
  pub room : (taken waits lost : ℕ) → taken ≡ pushed + (lost + waits) → taken + 1 ≤ asked → waits < s
  room taken waits lost t h = let x = a.asked_is in let y = a.pushed_is in omega (arith, x, y, t, h)

  -- one element more was handed on: another half is asked for, or fewer than a half were handed on since
  pub refilled : passed + 1 ≡ half → AsksByHalves s half (asked + half) (calls + 1) (pushed + 1) 0
  refilled h = record {
    begun = omega arith;
    asked_is = let x = a.asked_is in let m = more in omega (arith, x, m);
    pushed_is = let y = a.pushed_is in let m = more in omega (arith, y, m, h);
    less = omega (arith, h);
  }
    where
      more : (calls + 1) * half ≡ calls * half + half
      more = omega arith

  pub passed_on : passed + 1 < half → AsksByHalves s half asked calls (pushed + 1) (passed + 1)
  passed_on h = record { begun = a.begun; asked_is = a.asked_is; pushed_is = let y = a.pushed_is in omega (arith, y); less = h }

  -- the places that were handed on may be asked for again
  pub may_ask : (taken waits lost : ℕ) → taken ≡ pushed + (lost + waits) → 1 ≤ waits → s ≤ 1024 → pushed < MOST_COUNT → passed + 1 ≡ half → (asked + half ≤ taken + s) × (asked + half < 2 ^ 62)
  may_ask taken waits lost t w z few h = let x = a.asked_is in let y = a.pushed_is in (omega (arith, x, y, t, w, h), omega (arith, x, y, z, few, h))

-- an element that came was asked for, so it has a place
pub place : (keep : Bool) (s : ℕ) (T G L : List Item) (W : List Tree) (E : List Item) (P : Option Item) (over : Bool) (S : State) (c : ℕ) → Flow keep s T G L W E P over S c → (half asked calls passed : ℕ) → AsksByHalves s half asked calls (elements G) passed
    → (T' : List Item) (w asked' : ℕ) → elements T' ≡ elements T + w → w ≡ 1 → elements T' ≤ asked' → asked' ≡ asked → length W < s
place keep s T G L W E P over S c f half asked calls passed a T' w asked' t one few same =
    room s half asked calls (elements G) passed a (elements T) (length W) (elements L) (count keep s T G L W E P over S c f) (omega (arith, t, one, few, same))

-- so many elements were handed on that the lane may be asked for as many
pub may_refill : (keep : Bool) (s : ℕ) (T G L : List Item) (W : List Tree) (E : List Item) (P : Option Item) (over : Bool) (S : State) (c : ℕ) → Flow keep s T G L W E P over S c → (half asked calls passed : ℕ) → AsksByHalves s half asked calls (elements G) passed
    → (e : Tree) (V : List Tree) → W ≡ e ∷ V → s ≤ 1024 → (H : List Item) → elements (G ++ H) < MOST_COUNT → passed + 1 ≡ half → (asked + half ≤ elements T + s) × (asked + half < 2 ^ 62) × (c ≡ 0)
may_refill keep s T G L W E P over S c f half asked calls passed a e V w few H less h =
    let n = count keep s T G L W E P over S c f in
    let some = ap length w in
    let given = elements_append G H in
    let m = may_ask s half asked calls (elements G) passed a (elements T) (length W) (elements L) n (omega (arith, some)) few (omega (arith, given, less)) h in
    (m.0, m.1, f.cancelled_is ∙ ap (λ (z : State). cancelled_by z) (flows_on keep s T G L W E P over S c f e V w))

-- one element more was handed on, and the lane was asked for half of its places or was not
pub asks_on : (s s' half asked asked' calls calls' passed passed' : ℕ) (G G' : List Item) (e : Tree) (b : Bool) → AsksByHalves s half asked calls (elements G) passed → s' ≡ s → G' ≡ G ++ item.Elem e ∷ []
    → (b ≡ true → (passed + 1 ≡ half) × (passed' ≡ 0) × (asked' ≡ asked + half) × (calls' ≡ calls + 1)) → (b ≡ false → (passed' ≡ passed + 1) × (passed' < half) × (asked' ≡ asked) × (calls' ≡ calls)) → AsksByHalves s' half asked' calls' (elements G') passed'
asks_on s s' half asked asked' calls calls' passed passed' G G' e b a es g asks rests = rw (es, ap elements g ∙ elements_append G (item.Elem e ∷ [])) (by b refl)
  where
    by : (d : Bool) → b ≡ d → AsksByHalves s half asked' calls' (elements G + 1) passed'
    by true is = let y = asks is in rw (y.1, y.2, y.3) (refilled s half asked calls (elements G) passed a y.0)
    by false is = let n = rests is in rw (n.0, n.2, n.3) (passed_on s half asked calls (elements G) passed a (let l = n.1 in let p = n.0 in omega (arith, l, p)))
