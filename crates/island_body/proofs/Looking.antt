-- What the last looks at the ends of a body found.
use Rattle.std.proofs.Common.{◌≡◌, ◌≢◌, inl, inr, ℕ, ◌+◌, ◌<◌, ◌≤◌, List, [], Some, length, set, slice_get, refl, sym, ap, ◌∙◌, subst, arith}
use Rattle.std.proofs.lemmas.Option.{slice_get_within}
use Rattle.std.specs.declared.vec.Vec.{Vec}
use Rattle.fused_net.proofs.Reading.{same_or_not, get_set_other}
use Rattle.lane_core.specs.Ends.{found_sent, told_sent, told_asked, told_cancel}
use Rattle.island_body.specs.declared.output.OutputBoundary.{OutputBoundary}
use Rattle.island_body.specs.declared.input.IslandInput.{IslandInput}
use Rattle.island_body.specs.Ends.{AllDone}
use Rattle.island_body.specs.Keeping.{BodyGoes}
use Rattle.island_body.specs.Lasting.{map_count, there_after}
use Rattle.island_body.specs.Moving.{LeftNone, SawAll, KeepsFound, KeepsSeen, OnlyIn, OnlyOut, KeepsLooks, LeftNoneAt, SawAllAt, HasLooked}
use Rattle.island_body.specs.declared.body.Body.{Body}
use Rattle.island_body.proofs.Lists.{some_same, at_set, at_one}

-- what was found stands
found_still : (x : IslandInput) → KeepsFound x x
found_still x = record { taken_is = refl; found_is = refl; told_is = refl; over_is = refl }

found_on : (x y z : IslandInput) → KeepsFound x y → KeepsFound y z → KeepsFound x z
found_on x y z f g = record { taken_is = g.taken_is ∙ f.taken_is; found_is = g.found_is ∙ f.found_is; told_is = g.told_is ∙ f.told_is; over_is = g.over_is ∙ f.over_is }

seen_still : (o : OutputBoundary) → KeepsSeen o o
seen_still o = record { seen_is = refl; cancel_is = refl }

seen_on : (o p q : OutputBoundary) → KeepsSeen o p → KeepsSeen p q → KeepsSeen o q
seen_on o p q f g = record { seen_is = g.seen_is ∙ f.seen_is; cancel_is = g.cancel_is ∙ f.cancel_is }

left_stands : (x y z : IslandInput) → LeftNone x y → KeepsFound y z → LeftNone x z
left_stands x y z n s = record {
  why = elim n.why [
    | inl over ↦ inl (s.over_is ∙ over)
    | inr found ↦ inr (s.found_is ∙ (found.0 ∙ ap length (sym s.taken_is)), subst (λ (m : ℕ). told_sent x.boundary.lane ≤ m) (sym s.found_is) found.1)
  ];
}

saw_stands : (o p q : OutputBoundary) → SawAll o p → KeepsSeen p q → SawAll o q
saw_stands o p q s k = record {
  told = λ e. let t = s.told e in (subst (λ (m : ℕ). told_asked o.lane ≤ m) (sym k.seen_is) t.0, subst (λ (m : ℕ). told_cancel o.lane ≤ m) (sym k.cancel_is) t.1);
}

-- ---- the last look

pub left_none_here : (xs : List IslandInput) (k : ℕ) (x y : IslandInput) → slice_get xs k ≡ Some x → LeftNone x y → LeftNoneAt xs (set xs k y) k
left_none_here xs k x y at n u v eu ev = elim (at_set xs k k x y v at ev) [
  | inl here ↦ subst (λ (z : IslandInput). LeftNone z v) (some_same x u (sym at ∙ eu)) (subst (λ (z : IslandInput). LeftNone x z) (sym here.1) n)
  | inr there ↦ absurd (there.0 refl)
]

pub saw_all_here : (os : List OutputBoundary) (k : ℕ) (o p : OutputBoundary) → slice_get os k ≡ Some o → SawAll o p → SawAllAt os (set os k p) k
saw_all_here os k o p at s u v eu ev = elim (at_set os k k o p v at ev) [
  | inl here ↦ subst (λ (z : OutputBoundary). SawAll z v) (some_same o u (sym at ∙ eu)) (subst (λ (z : OutputBoundary). SawAll o z) (sym here.1) s)
  | inr there ↦ absurd (there.0 refl)
]

-- looks at one end after another: those at later places are as they were, and what was found at earlier ones stands
pub above_next : {A : Type 0} (xs ys zs : List A) (k : ℕ) → ((j : ℕ) → k ≤ j → slice_get ys j ≡ slice_get xs j) → ((j : ℕ) → j ≢ k → slice_get zs j ≡ slice_get ys j) → (j : ℕ) → k + 1 ≤ j → slice_get zs j ≡ slice_get xs j
above_next xs ys zs k above others j h = others j (λ e. absurd (omega (arith, e, h))) ∙ above j (omega (arith, h))

pub below_next : {A : Type 0} (R : A → A → Type 0) (xs ys zs : List A) (k : ℕ) → ((j : ℕ) → k ≤ j → slice_get ys j ≡ slice_get xs j) → ((j : ℕ) → j < k → (x y : A) → slice_get xs j ≡ Some x → slice_get ys j ≡ Some y → R x y) → ((j : ℕ) → j ≢ k → slice_get zs j ≡ slice_get ys j)
    → ((x y : A) → slice_get ys k ≡ Some x → slice_get zs k ≡ Some y → R x y) → (j : ℕ) → j < k + 1 → (x y : A) → slice_get xs j ≡ Some x → slice_get zs j ≡ Some y → R x y
below_next R xs ys zs k above below others here j h x y ex ey = elim (same_or_not j k) [
  | inl same ↦ here x y (above k (omega arith) ∙ (ap (λ (n : ℕ). slice_get xs n) (sym same) ∙ ex)) (ap (λ (n : ℕ). slice_get zs n) (sym same) ∙ ey)
  | inr other ↦ below j (omega (arith, h, other)) x y ex (sym (others j other) ∙ ey)
]

pub below_all : {A : Type 0} (R : A → A → Type 0) (xs ys : List A) (n : ℕ) → n ≡ length xs → ((j : ℕ) → j < n → (x y : A) → slice_get xs j ≡ Some x → slice_get ys j ≡ Some y → R x y) → (k : ℕ) (x y : A) → slice_get xs k ≡ Some x → slice_get ys k ≡ Some y → R x y
below_all R xs ys n e below k x y ex ey = below k (subst (λ (m : ℕ). k < m) (sym e) (slice_get_within xs k x ex)) x y ex ey

module _ {S D L H B : Type 0} where
  -- as many ends
  ins_count : (a b : Body S D L H B) → BodyGoes a b → length b.ins.items ≡ length a.ins.items
  ins_count a b g = map_count (λ (w : IslandInput). w.wire) a.ins.items b.ins.items g.lanes.ins_wires

  outs_count : (a b : Body S D L H B) → BodyGoes a b → length b.outs.items ≡ length a.outs.items
  outs_count a b g = map_count (λ (w : OutputBoundary). w.wire) a.outs.items b.outs.items g.lanes.outs_wires

  -- ---- what looks found stands

  pub keeps_looks_same : (a b : Body S D L H B) → b.ins ≡ a.ins → b.outs ≡ a.outs → KeepsLooks a b
  keeps_looks_same a b ins_is outs_is = record {
    ins = λ k x y ex ey. let is : x ≡ y = some_same x y (sym ex ∙ (ap (λ (v : Vec IslandInput _). slice_get v.items k) (sym ins_is) ∙ ey)) in subst (λ (z : IslandInput). KeepsFound x z) is (found_still x);
    outs = λ k o p eo ep. let is : o ≡ p = some_same o p (sym eo ∙ (ap (λ (v : Vec OutputBoundary _). slice_get v.items k) (sym outs_is) ∙ ep)) in subst (λ (z : OutputBoundary). KeepsSeen o z) is (seen_still o);
  }

  pub keeps_looks_still : (b : Body S D L H B) → KeepsLooks b b
  keeps_looks_still b = keeps_looks_same b b refl refl

  pub keeps_looks_on : (a b c : Body S D L H B) → BodyGoes a b → KeepsLooks a b → KeepsLooks b c → KeepsLooks a c
  keeps_looks_on a b c g f h = record {
    ins = λ k x z ex ez. let y = there_after a.ins.items b.ins.items k x (ins_count a b g) ex in found_on x y.0 z (f.ins k x y.0 ex y.1) (h.ins k y.0 z y.1 ez);
    outs = λ k o q eo eq. let p = there_after a.outs.items b.outs.items k o (outs_count a b g) eo in seen_on o p.0 q (f.outs k o p.0 eo p.1) (h.outs k p.0 q p.1 eq);
  }

  -- the end at place k acted
  pub keeps_looks_in : (b nb : Body S D L H B) (k : ℕ) (x y : IslandInput) → slice_get b.ins.items k ≡ Some x → KeepsFound x y → nb.ins.items ≡ set b.ins.items k y → nb.outs ≡ b.outs → KeepsLooks b nb
  keeps_looks_in b nb k x y at f ins_is outs_is = record {
    ins = rw ins_is (at_one KeepsFound b.ins.items k x y at found_still f);
    outs = (keeps_looks_same b (record nb { ins = b.ins }) refl outs_is).outs;
  }

  pub keeps_looks_out : (b nb : Body S D L H B) (k : ℕ) (o p : OutputBoundary) → slice_get b.outs.items k ≡ Some o → KeepsSeen o p → nb.outs.items ≡ set b.outs.items k p → nb.ins ≡ b.ins → KeepsLooks b nb
  keeps_looks_out b nb k o p at f outs_is ins_is = record {
    ins = (keeps_looks_same b (record nb { outs = b.outs }) ins_is refl).ins;
    outs = rw outs_is (at_one KeepsSeen b.outs.items k o p at seen_still f);
  }

  -- ---- one end alone

  pub only_in_still : (b : Body S D L H B) (k : ℕ) → OnlyIn b b k
  only_in_still b k = record { outs = refl; told = λ x y ex ey. ap (λ (z : IslandInput). told_sent z.boundary.lane) (some_same y x (sym ey ∙ ex)); others = λ j ne. refl }

  pub only_in_on : (a b c : Body S D L H B) (k : ℕ) → BodyGoes a b → OnlyIn a b k → OnlyIn b c k → OnlyIn a c k
  only_in_on a b c k goes f g = record {
    outs = g.outs ∙ f.outs;
    told = λ x z ex ez. let y = there_after a.ins.items b.ins.items k x (ins_count a b goes) ex in g.told y.0 z y.1 ez ∙ f.told x y.0 ex y.1;
    others = λ j ne. g.others j ne ∙ f.others j ne;
  }

  pub only_in_here : (b nb : Body S D L H B) (k : ℕ) (x y : IslandInput) → slice_get b.ins.items k ≡ Some x → told_sent y.boundary.lane ≡ told_sent x.boundary.lane → nb.ins.items ≡ set b.ins.items k y → nb.outs ≡ b.outs → OnlyIn b nb k
  only_in_here b nb k x y at told ins_is outs_is = record {
    outs = outs_is;
    told = rw ins_is (at_one (λ (u v : IslandInput). told_sent v.boundary.lane ≡ told_sent u.boundary.lane) b.ins.items k x y at (λ u. refl) told k);
    others = λ j ne. rw ins_is (get_set_other b.ins.items k j y ne);
  }

  pub only_out_still : (b : Body S D L H B) (k : ℕ) → OnlyOut b b k
  only_out_still b k = record { ins = refl; others = λ j ne. refl }

  pub only_out_here : (b nb : Body S D L H B) (k : ℕ) (p : OutputBoundary) → nb.outs.items ≡ set b.outs.items k p → nb.ins ≡ b.ins → OnlyOut b nb k
  only_out_here b nb k p outs_is ins_is = record { ins = ins_is; others = λ j ne. rw outs_is (get_set_other b.outs.items k j p ne) }

  -- a look behind others at the same end
  pub left_none_on : (a b c : Body S D L H B) (k : ℕ) → BodyGoes a b → OnlyIn a b k → LeftNoneAt b.ins.items c.ins.items k → LeftNoneAt a.ins.items c.ins.items k
  left_none_on a b c k goes only left x z ex ez =
      let y = there_after a.ins.items b.ins.items k x (ins_count a b goes) ex in
      let n = left y.0 z y.1 ez in
      record {
        why = elim n.why [
          | inl over ↦ inl over
          | inr found ↦ inr (found.0, subst (λ (m : ℕ). m ≤ found_sent z.boundary.lane) (only.told x y.0 ex y.1) found.1)
        ];
      }

  -- a turn took from all its input ends, then looked at its output ends, and then its island ran until no event was left
  pub has_looked : (a b c d : Body S D L H B) → BodyGoes a b → b.outs ≡ a.outs → ((k : ℕ) → LeftNoneAt a.ins.items b.ins.items k) → BodyGoes b c → c.ins ≡ b.ins → ((k : ℕ) → SawAllAt b.outs.items c.outs.items k) → KeepsLooks c d → d.island.net.queue ≡ [] → AllDone d.island d.ins.items d.outs.items → HasLooked a d
  has_looked a b c d goes outs_is left later ins_is saw keeps ring done = record {
    ring = ring;
    ins = λ k x z ex ez.
        let y = there_after a.ins.items b.ins.items k x (ins_count a b goes) ex in
        left_stands x y.0 z (left k x y.0 ex y.1) (keeps.ins k y.0 z (ap (λ (v : Vec IslandInput _). slice_get v.items k) ins_is ∙ y.1) ez);
    outs = λ k o q eo eq.
        let before : slice_get b.outs.items k ≡ Some o = ap (λ (v : Vec OutputBoundary _). slice_get v.items k) outs_is ∙ eo in
        let p = there_after b.outs.items c.outs.items k o (outs_count b c later) before in
        saw_stands o p.0 q (saw k o p.0 before p.1) (keeps.outs k p.0 q p.1 eq);
    done = done;
  }
