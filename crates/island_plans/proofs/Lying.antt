-- The ends of lanes lie in the lists of their islands, by the order of lanes.
use Rattle.std.proofs.Common.{◌≡◌, ℕ, zero, suc, ◌<◌, ◌≤◌, List, [], ◌∷◌, length, map, take, Some, refl, ap, sym, ◌∙◌, subst, ⊎_elim, ◌⊎◌, inl, inr, arith}
use Rattle.std.specs.Prelude.{slice_get, slice_index}
use Rattle.std.specs.Option.{option_map}
use Rattle.std.specs.List.{All}
use Rattle.std.proofs.lemmas.List.{length-map}
use Rattle.std.proofs.lemmas.List.Elements.{All-from_get_or}
use Rattle.std.specs.declared.vec.Vec.{Vec}
use Rattle.std.specs.declared.alloc.Global.{Global}
use Rattle.std.proofs.lemmas.Bool.{cases_Bool, cases_eq, eq-eqb}
use Rattle.std.proofs.lemmas.Option.{slice_get_within, slice_get-map, get_or_from_slice_get}
use Rattle.std.specs.Prelude.{◌==◌, true, false}
use Rattle.island_body.specs.declared.input.IslandInput.{IslandInput}
use Rattle.island_body.specs.declared.output.OutputBoundary.{OutputBoundary}
use Rattle.lane_core.specs.declared.crossing.Crossing.{Crossing}
use Rattle.scatter.specs.Shares.{of_home, share_of, rank_of, items_at, AreShares}
use Rattle.scatter.proofs.Sharing.{count_here, count_elsewhere, count_within, share_count, share_at, share_from}
use Rattle.blue_check.specs.declared.plan.LanePlan.{LanePlan}
use Rattle.island_plans.specs.declared.lane_ends.AllEnds.{AllEnds}
use Rattle.island_plans.specs.LaneEnds.{AreRising, AreMade, AreCrossingsOf, IsLaneEndOf, LieBy, AreAllEnds}

-- what stands at a place of a list
there : {X : Type 0} (xs : List X) (n : ℕ) → n < length xs → (x : X) × (slice_get xs n ≡ Some x)
there [] n lt = absurd (omega (arith, lt))
there (x ∷ xs) zero lt = (x, refl)
there (x ∷ xs) (suc n) lt = there xs n (omega (arith, lt))

split : (m n : ℕ) → (m < n) ⊎ (n ≤ m)
split m zero = inr (omega arith)
split zero (suc n) = inl (omega arith)
split (suc m) (suc n) = ⊎_elim (λ (l : m < n). inl (omega (arith, l))) (λ (l : n ≤ m). inr (omega (arith, l))) (split m n)

-- of two items of one home the later one has the greater rank
count_grows : (hs : List ℕ) (m n k : ℕ) → m < n → slice_get hs m ≡ Some k → share_of k (take m hs) < share_of k (take n hs)
count_grows [] m n k lt at = absurd cc
count_grows (h ∷ hs) m zero k lt at = absurd (omega (arith, lt))
count_grows (h ∷ hs) zero (suc n) k lt at = let same : h ≡ k = cc in let one = count_here h k (take n hs) (eq-eqb h k same) in omega (arith, one)
count_grows (h ∷ hs) (suc m) (suc n) k lt at =
    let r = count_grows hs m n k (omega (arith, lt)) at in
    ⊎_elim
    (λ (t : (h == k) ≡ true). let a = count_here h k (take m hs) t in let b = count_here h k (take n hs) t in omega (arith, a, b, r))
    (λ (f : (h == k) ≡ false). let a = count_elsewhere h k (take m hs) f in let b = count_elsewhere h k (take n hs) f in omega (arith, a, b, r))
    (cases_Bool (h == k))

-- so ranks order the items of one home
rank_order : (hs : List ℕ) (m n k : ℕ) → slice_get hs n ≡ Some k → share_of k (take m hs) < share_of k (take n hs) → m < n
rank_order hs m n k at lt =
    ⊎_elim
    (λ (l : m < n). l)
    (λ (l : n ≤ m).
    ⊎_elim
    (λ (e : m ≡ n). let same : share_of k (take m hs) ≡ share_of k (take n hs) = ap (λ i. share_of k (take i hs)) e in absurd (omega (arith, same, lt)))
    (λ (ne : m ≡ n → ⊥). let more = count_grows hs n m k (below l ne) at in absurd (omega (arith, more, lt)))
    (cases_eq m n))
    (split m n)
  where
    below : n ≤ m → (m ≡ n → ⊥) → n < m
    below l ne = omega (arith, l, ne)

rank_one : (hs : List ℕ) (m n k : ℕ) → slice_get hs m ≡ Some k → slice_get hs n ≡ Some k → share_of k (take m hs) ≡ share_of k (take n hs) → m ≡ n
rank_one hs m n k a b e =
    ⊎_elim
    (λ (l : m < n). let more = count_grows hs m n k l a in absurd (omega (arith, more, e)))
    (λ (l : n ≤ m).
    ⊎_elim
    (λ (s : m ≡ n). s)
    (λ (ne : m ≡ n → ⊥). let more = count_grows hs n m k (omega (arith, l, ne)) b in absurd (omega (arith, more, e)))
    (cases_eq m n))
    (split m n)

module _ {X : Type 0} (lanes : List LanePlan) (home : LanePlan → ℕ) (homes : List ℕ) (homes_are : homes ≡ map home lanes) (xs : List X) (many : length xs ≡ length lanes) (lists : List (Vec X Global)) (shares : AreShares homes xs lists) where
  home_at : (n : ℕ) (l : LanePlan) → slice_get lanes n ≡ Some l → slice_get homes n ≡ Some (home l)
  home_at n l at = ap (λ hs. slice_get hs n) homes_are ∙ slice_get-map home lanes n ∙ ap (option_map home) at

  -- the end of a lane lies in the list of its island
  pub lies_at : (n : ℕ) (l : LanePlan) (x : X) → slice_get lanes n ≡ Some l → slice_get xs n ≡ Some x → slice_get (items_at lists (home l)) (rank_of homes n) ≡ Some x
  lies_at n l x at here =
      let h = home_at n l at in
      let is : slice_index homes n ≡ home l = get_or_from_slice_get homes n (home l) 0 h in
      ap (λ ys. slice_get ys (rank_of homes n)) (shares.shares (home l)) ∙ ap (λ k. slice_get (of_home homes (home l) xs) (share_of k (take n homes))) is ∙ share_at homes xs n (home l) x here h

  -- no list is longer than that of the lanes
  pub few_at : (k : ℕ) → length (items_at lists k) ≤ length lanes
  few_at k =
      let own : length (items_at lists k) ≡ length (of_home homes k xs) = ap length (shares.shares k) in
      let counted : length (of_home homes k xs) ≡ share_of k homes = share_count homes xs k shares.each in
      let within : share_of k homes ≤ length homes = count_within k homes in
      omega (arith, own, counted, within, shares.each, many)

  -- each has as many as there are lanes of its island
  pub count_at : (k : ℕ) → length (items_at lists k) ≡ share_of k (map home lanes)
  count_at k = ap length (shares.shares k) ∙ (share_count homes xs k shares.each ∙ ap (λ hs. share_of k hs) homes_are)

  module _ (island place : Crossing → ℕ) (wire : X → ℕ) (crossings : List Crossing) (crossings_many : length crossings ≡ length lanes)
      (islands_are : (n : ℕ) (l : LanePlan) (c : Crossing) → slice_get lanes n ≡ Some l → slice_get crossings n ≡ Some c → island c ≡ home l)
      (places_are : (n : ℕ) (l : LanePlan) (c : Crossing) → slice_get lanes n ≡ Some l → slice_get crossings n ≡ Some c → place c ≡ rank_of homes n)
      (wires_are : (n : ℕ) (l : LanePlan) (x : X) → slice_get lanes n ≡ Some l → slice_get xs n ≡ Some x → wire x ≡ l.wire) (rising : AreRising lanes) where
    end_of : (k p : ℕ) (x : X) → slice_get (items_at lists k) p ≡ Some x → IsLaneEndOf island place crossings k p
    end_of k p x at =
        let f = share_from homes xs k p x (ap (λ ys. slice_get ys p) (sym (shares.shares k)) ∙ at) in
        let n = f.from in
        let within = slice_get_within xs n x f.at in
        let l = there lanes n (omega (arith, within, many)) in
        let c = there crossings n (omega (arith, within, many, crossings_many)) in
        let same : Some (home l.0) ≡ Some k = sym (home_at n l.0 l.1) ∙ f.home in
        let here : home l.0 ≡ k = cc in
        record {
          lane = n;
          crossing = c.0;
          there = c.1;
          island_is = islands_are n l.0 c.0 l.1 c.1 ∙ here;
          place_is = places_are n l.0 c.0 l.1 c.1 ∙ ap (λ h. share_of h (take n homes)) (get_or_from_slice_get homes n k 0 f.home) ∙ f.rank;
        }

    end_one : (m n : ℕ) (c d : Crossing) → slice_get crossings m ≡ Some c → slice_get crossings n ≡ Some d → island c ≡ island d → place c ≡ place d → m ≡ n
    end_one m n c d at at' e f =
        let w = slice_get_within crossings m c at in
        let w' = slice_get_within crossings n d at' in
        let l = there lanes m (omega (arith, w, crossings_many)) in
        let l' = there lanes n (omega (arith, w', crossings_many)) in
        let same : home l.0 ≡ home l'.0 = sym (islands_are m l.0 c l.1 at) ∙ e ∙ islands_are n l'.0 d l'.1 at' in
        let h = home_at m l.0 l.1 in
        let h' : slice_get homes n ≡ Some (home l.0) = home_at n l'.0 l'.1 ∙ ap Some (sym same) in
        let r : rank_of homes m ≡ share_of (home l.0) (take m homes) = ap (λ k. share_of k (take m homes)) (get_or_from_slice_get homes m (home l.0) 0 h) in
        let r' : rank_of homes n ≡ share_of (home l.0) (take n homes) = ap (λ k. share_of k (take n homes)) (get_or_from_slice_get homes n (home l.0) 0 h') in
        rank_one homes m n (home l.0) h h' (sym r ∙ sym (places_are m l.0 c l.1 at) ∙ f ∙ places_are n l'.0 d l'.1 at' ∙ r')

    end_rise : (k p q : ℕ) (x y : X) → p < q → slice_get (items_at lists k) p ≡ Some x → slice_get (items_at lists k) q ≡ Some y → wire x < wire y
    end_rise k p q x y lt at at' =
        let f = share_from homes xs k p x (ap (λ ys. slice_get ys p) (sym (shares.shares k)) ∙ at) in
        let g = share_from homes xs k q y (ap (λ ys. slice_get ys q) (sym (shares.shares k)) ∙ at') in
        let more : share_of k (take f.from homes) < share_of k (take g.from homes) = omega (arith, f.rank, g.rank, lt) in
        let before = rank_order homes f.from g.from k g.home more in
        let w = slice_get_within xs f.from x f.at in
        let w' = slice_get_within xs g.from y g.at in
        let l = there lanes f.from (omega (arith, w, many)) in
        let l' = there lanes g.from (omega (arith, w', many)) in
        let up = rising f.from g.from l.0 l'.0 before l.1 l'.1 in
        let a = wires_are f.from l.0 x l.1 f.at in
        let b = wires_are g.from l'.0 y l'.1 g.at in
        omega (arith, up, a, b)

    pub lie_by : LieBy island place wire crossings lists
    lie_by = record { each = end_of; one = end_one; rise = end_rise }

-- the islands of lanes are below their number
pub homes_below : (lanes : List LanePlan) (home : LanePlan → ℕ) (count : ℕ) (homes : List ℕ) → homes ≡ map home lanes → ((n : ℕ) (l : LanePlan) → slice_get lanes n ≡ Some l → home l < count) → All (λ h. h < count) homes
homes_below lanes home count homes is below = All-from_get_or (λ h. h < count) homes 0 (λ i lt.
    let size : length homes ≡ length lanes = ap length is ∙ length-map lanes home in
    let l = there lanes i (omega (arith, size, lt)) in
    let here : slice_get homes i ≡ Some (home l.0) = ap (λ hs. slice_get hs i) is ∙ slice_get-map home lanes i ∙ ap (option_map home) l.1 in
    subst (λ h. h < count) (sym (get_or_from_slice_get homes i (home l.0) 0 here)) (below i l.0 l.1))

-- the ends that were made, and shared out by their islands
pub all_ends : (lanes : List LanePlan) (count : ℕ) (e : AllEnds) (outs : List OutputBoundary) (ins : List IslandInput) (froms tos out_ranks in_ranks : List ℕ) → AreRising lanes → AreMade lanes outs ins → froms ≡ map (λ (l : LanePlan). l.from) lanes → tos ≡ map (λ (l : LanePlan). l.to) lanes
    → AreShares froms outs e.outs.items → AreShares tos ins e.ins.items → length e.outs.items ≡ count → length e.ins.items ≡ count → ((i : ℕ) → i < length froms → slice_index out_ranks i ≡ rank_of froms i) → ((i : ℕ) → i < length tos → slice_index in_ranks i ≡ rank_of tos i)
    → AreCrossingsOf lanes out_ranks in_ranks e.crossings.items → AreAllEnds lanes count e
all_ends lanes count e outs ins froms tos out_ranks in_ranks rising made froms_are tos_are so si outs_count ins_count ro ri cs =
    let crossings = e.crossings.items in
    let from_of : LanePlan → ℕ = λ l. l.from in
    let to_of : LanePlan → ℕ = λ l. l.to in
    let out_rank : (n : ℕ) (l : LanePlan) → slice_get lanes n ≡ Some l → slice_index out_ranks n ≡ rank_of froms n = λ n l at. ro n (slice_get_within froms n l.from (home_at lanes from_of froms froms_are outs made.outs_many e.outs.items so n l at)) in
    let in_rank : (n : ℕ) (l : LanePlan) → slice_get lanes n ≡ Some l → slice_index in_ranks n ≡ rank_of tos n = λ n l at. ri n (slice_get_within tos n l.to (home_at lanes to_of tos tos_are ins made.ins_many e.ins.items si n l at)) in
    record {
      outs_many = outs_count;
      ins_many = ins_count;
      many = cs.many;
      each = λ n l c at here.
          let w = slice_get_within lanes n l at in
          let o = there outs n (omega (arith, w, made.outs_many)) in
          let i = there ins n (omega (arith, w, made.ins_many)) in
          let is = cs.each n l c at here in
          record {
            from_is = ap (λ (x : Crossing). x.from) is;
            to_is = ap (λ (x : Crossing). x.to) is;
            out = o.0;
            inp = i.0;
            out_at = ap (λ (x : Crossing). slice_get (items_at e.outs.items x.from) x.out) is ∙ ap (λ r. slice_get (items_at e.outs.items l.from) r) (out_rank n l at) ∙ lies_at lanes from_of froms froms_are outs made.outs_many e.outs.items so n l o.0 at o.1;
            inp_at = ap (λ (x : Crossing). slice_get (items_at e.ins.items x.to) x.inp) is ∙ ap (λ r. slice_get (items_at e.ins.items l.to) r) (in_rank n l at) ∙ lies_at lanes to_of tos tos_are ins made.ins_many e.ins.items si n l i.0 at i.1;
            ends = made.each n l o.0 i.0 at o.1 i.1;
          };
      outs_few = few_at lanes from_of froms froms_are outs made.outs_many e.outs.items so;
      ins_few = few_at lanes to_of tos tos_are ins made.ins_many e.ins.items si;
      outs_count = count_at lanes from_of froms froms_are outs made.outs_many e.outs.items so;
      ins_count = count_at lanes to_of tos tos_are ins made.ins_many e.ins.items si;
      outs_lie = lie_by lanes from_of froms froms_are outs made.outs_many e.outs.items so (λ c. c.from) (λ c. c.out) (λ (o : OutputBoundary). o.wire) crossings cs.many
          (λ n l c at here. ap (λ (x : Crossing). x.from) (cs.each n l c at here))
          (λ n l c at here. ap (λ (x : Crossing). x.out) (cs.each n l c at here) ∙ out_rank n l at)
          (λ n l o at here. let i = there ins n (let w = slice_get_within lanes n l at in omega (arith, w, made.ins_many)) in (made.each n l o i.0 at here i.1).out_wire)
          rising;
      ins_lie = lie_by lanes to_of tos tos_are ins made.ins_many e.ins.items si (λ c. c.to) (λ c. c.inp) (λ (i : IslandInput). i.wire) crossings cs.many
          (λ n l c at here. ap (λ (x : Crossing). x.to) (cs.each n l c at here))
          (λ n l c at here. ap (λ (x : Crossing). x.inp) (cs.each n l c at here) ∙ in_rank n l at)
          (λ n l i at here. let o = there outs n (let w = slice_get_within lanes n l at in omega (arith, w, made.outs_many)) in (made.each n l o.0 i at o.1 here).in_wire)
          rising;
    }
