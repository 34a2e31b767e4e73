-- The two ends that were brought together lie where they lay, and all others are as they were.
use Rattle.std.proofs.Common.{◌≡◌, ◌≢◌, ℕ, zero, suc, Some, List, [], ◌∷◌, length, get_or, set, slice_get, refl, sym, ap, subst, ◌∙◌}
use Rattle.std.proofs.lemmas.List.{length-set}
use Rattle.lane_core.specs.declared.lane_out.LaneOut.{LaneOut}
use Rattle.lane_core.specs.declared.lane_in.LaneIn.{LaneIn}
use Rattle.lane_core.specs.declared.room.Waits.{Waits}
use Rattle.lane_core.specs.Ends.{sent, learnt, asked_in_all, has_cancelled, told_asked, told_cancel, told_sent, IsLaneHistory, WaitsAre}
use Rattle.lane_core.specs.declared.ends.LaneEnds.{LaneEnds}
use Rattle.lane_core.specs.Meeting.{KeepsOut, KeepsIn, AreTold, MeetsOne}

some_is : {A : Type 0} (x y : A) → Some x ≡ Some y → x ≡ y
some_is x y e = cc

module _ {A : Type 0} where
  get_set_same : (xs : List A) (n : ℕ) (y p : A) → slice_get (set xs n y) n ≡ Some p → y ≡ p
  get_set_same [] n y p e = cc
  get_set_same (x ∷ xs) zero y p e = some_is y p e
  get_set_same (x ∷ xs) (suc n) y p e = get_set_same xs n y p e

  get_set_other : (xs : List A) (n k : ℕ) (y : A) → k ≢ n → slice_get (set xs n y) k ≡ slice_get xs k
  get_set_other [] n k y ne = refl
  get_set_other (x ∷ xs) zero zero y ne = absurd (ne refl)
  get_set_other (x ∷ xs) zero (suc k) y ne = refl
  get_set_other (x ∷ xs) (suc n) zero y ne = refl
  get_set_other (x ∷ xs) (suc n) (suc k) y ne = get_set_other xs n k y (λ e. ne (ap suc e))

  get_here : (xs : List A) (n : ℕ) (d p : A) → slice_get xs n ≡ Some p → get_or xs n d ≡ p
  get_here [] n d p e = cc
  get_here (x ∷ xs) zero d p e = some_is x p e
  get_here (x ∷ xs) (suc n) d p e = get_here xs n d p e

pub meets_one : (from to from' to' : LaneEnds) (out inp : ℕ) (o p : LaneOut) (i j : LaneIn) (w : Waits) → o ≡ get_or from.outs.items out o → i ≡ get_or to.ins.items inp i → from'.outs.items ≡ set from.outs.items out p → to'.ins.items ≡ set to.ins.items inp j
    → KeepsOut o p → KeepsIn i j → learnt p ≡ asked_in_all j → (told_asked p ≡ asked_in_all j) × (told_cancel p ≡ has_cancelled j) × (told_sent j ≡ length (sent p)) → WaitsAre p j w → IsLaneHistory p j → MeetsOne from out to inp from' to' w
meets_one from to from' to' out inp o p i j w oi ii os is ko ki l td wa h = record {
  outs_count = ap length os ∙ length-set _ _ _;
  ins_count = ap length is ∙ length-set _ _ _;
  outs_other = λ k ne. ap (λ xs. slice_get xs k) os ∙ get_set_other from.outs.items out k p ne;
  ins_other = λ k ne. ap (λ xs. slice_get xs k) is ∙ get_set_other to.ins.items inp k j ne;
  keeps_out = λ a b ea eb. subst (λ x. KeepsOut x b) (oi ∙ get_here from.outs.items out o a ea) (subst (λ x. KeepsOut o x) (there b eb) ko);
  keeps_in = λ a b ea eb. subst (λ x. KeepsIn x b) (ii ∙ get_here to.ins.items inp i a ea) (subst (λ x. KeepsIn i x) (here b eb) ki);
  learnt = λ a b ea eb. subst (λ x. learnt x ≡ asked_in_all b) (there a ea) (subst (λ x. learnt p ≡ asked_in_all x) (here b eb) l);
  told = λ a b ea eb. subst (λ x. AreTold x b) (there a ea) (subst (λ x. AreTold p x) (here b eb) (record { asked_is = td.0; cancel_is = td.1; sent_is = td.2 }));
  waits = λ a b ea eb. subst (λ x. WaitsAre x b w) (there a ea) (subst (λ x. WaitsAre p x w) (here b eb) wa);
  history = λ a b ea eb. subst (λ x. IsLaneHistory x b) (there a ea) (subst (λ x. IsLaneHistory p x) (here b eb) h);
}
  where
    there : (a : LaneOut) → slice_get from'.outs.items out ≡ Some a → p ≡ a
    there a e = get_set_same from.outs.items out p a (sym (ap (λ xs. slice_get xs out) os) ∙ e)

    here : (b : LaneIn) → slice_get to'.ins.items inp ≡ Some b → j ≡ b
    here b e = get_set_same to.ins.items inp j b (sym (ap (λ xs. slice_get xs inp) is) ∙ e)
