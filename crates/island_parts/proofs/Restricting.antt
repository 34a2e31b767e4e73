-- A wiring of all islands, in which no link joins two of them, is one of each alone.
use Rattle.std.proofs.Common.{◌≡◌, ℕ, zero, suc, ◌<◌, ◌≤◌, ◌^◌, true, false, ◌==◌, List, [], ◌∷◌, length, map, take, Some, refl, ap, sym, ◌∙◌, subst, ⊎_elim, arith}
use Rattle.std.specs.Prelude.{slice_get, slice_index}
use Rattle.std.specs.Option.{option_map}
use Rattle.std.proofs.lemmas.Bool.{cases_Bool, eq-eqb}
use Rattle.std.proofs.lemmas.List.{length-map}
use Rattle.std.proofs.lemmas.Option.{slice_get_within, slice_get-map, slice_get-get_or, get_or_from_slice_get}
use Rattle.fused_net.specs.declared.net.WireEnds.{WireEnds}
use Rattle.fused_net.specs.Net.{end_at}
use Rattle.interpreter.specs.declared.parts.Link.{Link}
use Rattle.interpreter.specs.declared.parts.Seated.{Seated}
use Rattle.interpreter.specs.Parts.{ends_of, work_inputs, work_outputs, inputs_at, outputs_at, AllUnused, IsWiring, AreParts}
use Rattle.interpreter.specs.Ways.{IsOnce, lane_comes, lane_goes, comes_in, goes_out}
use Rattle.scatter.specs.Shares.{of_home, share_of, rank_of}
use Rattle.scatter.proofs.Sharing.{here, elsewhere, count_here, count_elsewhere, count_within, share_count, share_at, share_from}
use Rattle.island_parts.specs.Whole.{link_home, local_link}
use Rattle.island_parts.proofs.Wiring.{there, end_get}

-- ---- ranks

pub home_at : (hs : List ℕ) (i k : ℕ) → i < length hs → slice_index hs i ≡ k → slice_get hs i ≡ Some k
home_at hs i k lt e = slice_get-get_or hs i 0 lt ∙ ap Some e

pub rank_is : (hs : List ℕ) (i k : ℕ) → slice_index hs i ≡ k → rank_of hs i ≡ share_of k (take i hs)
rank_is hs i k e = ap (λ h. share_of h (take i hs)) e

pub rank_below : (hs : List ℕ) (i k : ℕ) → slice_get hs i ≡ Some k → share_of k (take i hs) < share_of k hs
rank_below hs i k at =
    let lt = slice_get_within (of_home hs k hs) (share_of k (take i hs)) k (share_at hs hs i k k at at) in
    let e : length (of_home hs k hs) ≡ share_of k hs = share_count hs hs k refl in
    omega (arith, lt, e)

pub rank_one : (hs : List ℕ) (i j k : ℕ) → slice_get hs i ≡ Some k → slice_get hs j ≡ Some k → share_of k (take i hs) ≡ share_of k (take j hs) → i ≡ j
rank_one [] i j k a b e = absurd cc
rank_one (h ∷ hs) zero zero k a b e = refl
rank_one (h ∷ hs) zero (suc j) k a b e =
    let same : h ≡ k = cc in
    let more = count_here h k (take j hs) (eq-eqb h k same) in
    absurd (omega (arith, e, more))
rank_one (h ∷ hs) (suc i) zero k a b e =
    let same : h ≡ k = cc in
    let more = count_here h k (take i hs) (eq-eqb h k same) in
    absurd (omega (arith, e, more))
rank_one (h ∷ hs) (suc i) (suc j) k a b e =
    ⊎_elim
    (λ (t : (h == k) ≡ true).
    let p = count_here h k (take i hs) t in
    let q = count_here h k (take j hs) t in
    let next : share_of k (take i hs) ≡ share_of k (take j hs) = omega (arith, p, q, e) in
    ap suc (rank_one hs i j k a b next))
    (λ (f : (h == k) ≡ false).
    let next : share_of k (take i hs) ≡ share_of k (take j hs) = sym (count_elsewhere h k (take i hs) f) ∙ e ∙ count_elsewhere h k (take j hs) f in
    ap suc (rank_one hs i j k a b next))
    (cases_Bool (h == k))

pub rank_there : (hs : List ℕ) (k m : ℕ) → m < share_of k hs → (i : ℕ) × ((slice_get hs i ≡ Some k) × (share_of k (take i hs) ≡ m))
rank_there hs k m lt =
    let e : length (of_home hs k hs) ≡ share_of k hs = share_count hs hs k refl in
    let x = there (of_home hs k hs) m (omega (arith, lt, e)) in
    let f = share_from hs hs k m x.0 x.1 in
    (f.from, (f.home, f.rank))

-- what a mapped list has at a place comes from there
pub from_map : {X Y : Type 0} (f : X → Y) (xs : List X) (i : ℕ) (y : Y) → slice_get (map f xs) i ≡ Some y → (x : X) × ((slice_get xs i ≡ Some x) × (f x ≡ y))
from_map f [] i y at = absurd cc
from_map f (x ∷ xs) zero y at = (x, (refl, cc))
from_map f (x ∷ xs) (suc i) y at = from_map f xs i y at

-- ---- the links of an island

module _ (homes : List ℕ) (links : List Link) (k : ℕ) where
  abbrev pub link_homes : List ℕ
  link_homes = map (link_home homes) links

  abbrev pub mine : List Link
  mine = of_home link_homes k (map (local_link homes) links)

  -- which link this is
  pub record IsMine (q : ℕ) (l : Link) : Type 0 where
    pub at : ℕ
    pub link : Link
    pub is : slice_get links at ≡ Some link
    pub local : local_link homes link ≡ l
    pub home : slice_index homes link.from ≡ k
    pub rank : share_of k (take at link_homes) ≡ q

  pub mine_from : (q : ℕ) (l : Link) → slice_get mine q ≡ Some l → IsMine q l
  mine_from q l at =
      let f = share_from link_homes (map (local_link homes) links) k q l at in
      let x = from_map (local_link homes) links f.from l f.at in
      let home : Some (link_home homes x.0) ≡ Some k = sym (slice_get-map (link_home homes) links f.from ∙ ap (option_map (link_home homes)) x.1.0) ∙ f.home in
      record { at = f.from; link = x.0; is = x.1.0; local = x.1.1; home = some_one home; rank = f.rank }
    where
      some_one : {a b : ℕ} → Some a ≡ Some b → a ≡ b
      some_one e = cc

  pub mine_at : (p : ℕ) (l : Link) → slice_get links p ≡ Some l → slice_index homes l.from ≡ k → slice_get mine (share_of k (take p link_homes)) ≡ Some (local_link homes l)
  mine_at p l at home =
      share_at link_homes (map (local_link homes) links) p k (local_link homes l) (slice_get-map (local_link homes) links p ∙ ap (option_map (local_link homes)) at)
      (slice_get-map (link_home homes) links p ∙ ap (option_map (link_home homes)) at ∙ ap Some home)

  pub mine_few : length mine ≤ length links
  mine_few =
      let a : length (map (local_link homes) links) ≡ length links = length-map links (local_link homes) in
      let b : length link_homes ≡ length links = length-map links (link_home homes) in
      let c : length mine ≡ share_of k link_homes = share_count link_homes (map (local_link homes) links) k (a ∙ sym b) in
      let d = count_within k link_homes in
      omega (arith, b, c, d)

  module _ (ins outs mine_ins mine_outs : ℕ → ℕ) (wiring : IsWiring ins outs (length homes) (map ends_of links))
      (same : (p : ℕ) (l : Link) → slice_get links p ≡ Some l → slice_index homes l.from ≡ slice_index homes l.to) where
    in_all : (p : ℕ) (l : Link) → slice_get links p ≡ Some l → p < length (map ends_of links)
    in_all p l at = let e : length (map ends_of links) ≡ length links = length-map links ends_of in let lt : p < length links = slice_get_within links p l at in omega (arith, lt, e)

    pub from_there : (p : ℕ) (l : Link) → slice_get links p ≡ Some l → l.from < length homes
    from_there p l at = subst (λ (e : WireEnds). e.from < length homes) (end_get links p l at) (wiring.from_within p (in_all p l at))

    pub to_there : (p : ℕ) (l : Link) → slice_get links p ≡ Some l → l.to < length homes
    to_there p l at = subst (λ (e : WireEnds). e.to < length homes) (end_get links p l at) (wiring.to_within p (in_all p l at))

    from_home : (q : ℕ) (l : Link) (m : IsMine q l) → slice_get homes m.link.from ≡ Some k
    from_home q l m = home_at homes m.link.from k (from_there m.at m.link m.is) m.home

    to_home : (q : ℕ) (l : Link) (m : IsMine q l) → slice_get homes m.link.to ≡ Some k
    to_home q l m = home_at homes m.link.to k (to_there m.at m.link m.is) (sym (same m.at m.link m.is) ∙ m.home)

    from_rank : (q : ℕ) (l : Link) (m : IsMine q l) → l.from ≡ share_of k (take m.link.from homes)
    from_rank q l m = ap (λ (x : Link). x.from) (sym m.local) ∙ rank_is homes m.link.from k m.home

    to_rank : (q : ℕ) (l : Link) (m : IsMine q l) → l.to ≡ share_of k (take m.link.to homes)
    to_rank q l m = ap (λ (x : Link). x.to) (sym m.local) ∙ rank_is homes m.link.to k (sym (same m.at m.link m.is) ∙ m.home)

    output_same : (q : ℕ) (l : Link) (m : IsMine q l) → l.output ≡ m.link.output
    output_same q l m = ap (λ (x : Link). x.output) (sym m.local)

    input_same : (q : ℕ) (l : Link) (m : IsMine q l) → l.input ≡ m.link.input
    input_same q l m = ap (λ (x : Link). x.input) (sym m.local)

    same_place : (q r : ℕ) (l n : Link) (x : IsMine q l) (y : IsMine r n) → x.at ≡ y.at → q ≡ r
    same_place q r l n x y e = sym x.rank ∙ ap (λ a. share_of k (take a link_homes)) e ∙ y.rank

    one_out : (q r : ℕ) (l n : Link) → IsMine q l → IsMine r n → l.from ≡ n.from → l.output ≡ n.output → q ≡ r
    one_out q r l n x y e o =
        let from : x.link.from ≡ y.link.from = rank_one homes x.link.from y.link.from k (from_home q l x) (from_home r n y) (sym (from_rank q l x) ∙ e ∙ from_rank r n y) in
        let output : x.link.output ≡ y.link.output = sym (output_same q l x) ∙ o ∙ output_same r n y in
        let a = end_get links x.at x.link x.is in
        let b = end_get links y.at y.link y.is in
        same_place q r l n x y
        (wiring.one_output x.at y.at (in_all x.at x.link x.is) (in_all y.at y.link y.is) (ap (λ (z : WireEnds). z.from) a ∙ from ∙ sym (ap (λ (z : WireEnds). z.from) b)) (ap (λ (z : WireEnds). z.output) a ∙ output ∙ sym (ap (λ (z : WireEnds). z.output) b)))

    one_in : (q r : ℕ) (l n : Link) → IsMine q l → IsMine r n → l.to ≡ n.to → l.input ≡ n.input → q ≡ r
    one_in q r l n x y e o =
        let to : x.link.to ≡ y.link.to = rank_one homes x.link.to y.link.to k (to_home q l x) (to_home r n y) (sym (to_rank q l x) ∙ e ∙ to_rank r n y) in
        let input : x.link.input ≡ y.link.input = sym (input_same q l x) ∙ o ∙ input_same r n y in
        let a = end_get links x.at x.link x.is in
        let b = end_get links y.at y.link y.is in
        same_place q r l n x y
        (wiring.one_input x.at y.at (in_all x.at x.link x.is) (in_all y.at y.link y.is) (ap (λ (z : WireEnds). z.to) a ∙ to ∙ sym (ap (λ (z : WireEnds). z.to) b)) (ap (λ (z : WireEnds). z.input) a ∙ input ∙ sym (ap (λ (z : WireEnds). z.input) b)))

    link_at : (q : ℕ) → q < length (map ends_of mine) → (l : Link) × ((end_at (map ends_of mine) q ≡ ends_of l) × IsMine q l)
    link_at q lt =
        let e : length (map ends_of mine) ≡ length mine = length-map mine ends_of in
        let l = there mine q (omega (arith, lt, e)) in
        (l.0, (end_get mine q l.0 l.1, mine_from q l.0 l.1))

    in_mine : (q : ℕ) (l : Link) → slice_get mine q ≡ Some l → q < length (map ends_of mine)
    in_mine q l at = let e : length (map ends_of mine) ≡ length mine = length-map mine ends_of in let lt : q < length mine = slice_get_within mine q l at in omega (arith, lt, e)

    by_link : (P : WireEnds → Type 0) (q : ℕ) (lt : q < length (map ends_of mine)) → ((l : Link) → IsMine q l → P (ends_of l)) → P (end_at (map ends_of mine) q)
    by_link P q lt h = let l = link_at q lt in subst P (sym l.1.0) (h l.0 l.1.1)

    module _ (ins_are : (i : ℕ) → slice_get homes i ≡ Some k → mine_ins (share_of k (take i homes)) ≡ ins i) (outs_are : (i : ℕ) → slice_get homes i ≡ Some k → mine_outs (share_of k (take i homes)) ≡ outs i) where
      output_ok : (q : ℕ) (l : Link) → IsMine q l → l.output < mine_outs l.from
      output_ok q l m =
          let a = subst (λ (e : WireEnds). e.output < outs e.from) (end_get links m.at m.link m.is) (wiring.output_within m.at (in_all m.at m.link m.is)) in
          let b : mine_outs l.from ≡ outs m.link.from = ap mine_outs (from_rank q l m) ∙ outs_are m.link.from (from_home q l m) in
          omega (arith, a, b, output_same q l m)

      input_ok : (q : ℕ) (l : Link) → IsMine q l → l.input < mine_ins l.to
      input_ok q l m =
          let a = subst (λ (e : WireEnds). e.input < ins e.to) (end_get links m.at m.link m.is) (wiring.input_within m.at (in_all m.at m.link m.is)) in
          let b : mine_ins l.to ≡ ins m.link.to = ap mine_ins (to_rank q l m) ∙ ins_are m.link.to (to_home q l m) in
          omega (arith, a, b, input_same q l m)

      an_output : (x j : ℕ) → x < share_of k homes → j < mine_outs x → (q : ℕ) × ((q < length (map ends_of mine)) × (((end_at (map ends_of mine) q).from ≡ x) × ((end_at (map ends_of mine) q).output ≡ j)))
      an_output x j lt port =
          let i = rank_there homes k x lt in
          let ports : mine_outs x ≡ outs i.0 = ap mine_outs (sym i.1.1) ∙ outs_are i.0 i.1.0 in
          let w = wiring.each_output i.0 j (slice_get_within homes i.0 k i.1.0) (omega (arith, port, ports)) in
          let e : length (map ends_of links) ≡ length links = length-map links ends_of in
          let l = there links w.0 (omega (arith, w.1.0, e)) in
          let ends = end_get links w.0 l.0 l.1 in
          let from : l.0.from ≡ i.0 = sym (ap (λ (z : WireEnds). z.from) ends) ∙ w.1.1.0 in
          let home : slice_index homes l.0.from ≡ k = ap (slice_index homes) from ∙ get_or_from_slice_get homes i.0 k 0 i.1.0 in
          let at = mine_at w.0 l.0 l.1 home in
          let is = end_get mine _ _ at in
          (_, (in_mine _ _ at, (ap (λ (z : WireEnds). z.from) is ∙ rank_is homes l.0.from k home ∙ ap (λ a. share_of k (take a homes)) from ∙ i.1.1, ap (λ (z : WireEnds). z.output) is ∙ sym (ap (λ (z : WireEnds). z.output) ends) ∙ w.1.1.1)))

      an_input : (x j : ℕ) → x < share_of k homes → j < mine_ins x → (q : ℕ) × ((q < length (map ends_of mine)) × (((end_at (map ends_of mine) q).to ≡ x) × ((end_at (map ends_of mine) q).input ≡ j)))
      an_input x j lt port =
          let i = rank_there homes k x lt in
          let ports : mine_ins x ≡ ins i.0 = ap mine_ins (sym i.1.1) ∙ ins_are i.0 i.1.0 in
          let w = wiring.each_input i.0 j (slice_get_within homes i.0 k i.1.0) (omega (arith, port, ports)) in
          let e : length (map ends_of links) ≡ length links = length-map links ends_of in
          let l = there links w.0 (omega (arith, w.1.0, e)) in
          let ends = end_get links w.0 l.0 l.1 in
          let to : l.0.to ≡ i.0 = sym (ap (λ (z : WireEnds). z.to) ends) ∙ w.1.1.0 in
          let home : slice_index homes l.0.to ≡ k = ap (slice_index homes) to ∙ get_or_from_slice_get homes i.0 k 0 i.1.0 in
          let at = mine_at w.0 l.0 l.1 (same w.0 l.0 l.1 ∙ home) in
          let is = end_get mine _ _ at in
          (_, (in_mine _ _ at, (ap (λ (z : WireEnds). z.to) is ∙ rank_is homes l.0.to k home ∙ ap (λ a. share_of k (take a homes)) to ∙ i.1.1, ap (λ (z : WireEnds). z.input) is ∙ sym (ap (λ (z : WireEnds). z.input) ends) ∙ w.1.1.1)))

      pub restricted : IsWiring mine_ins mine_outs (share_of k homes) (map ends_of mine)
      restricted = record {
        from_within = λ q lt. by_link (λ e. e.from < share_of k homes) q lt (λ l m. let a = rank_below homes m.link.from k (from_home q l m) in omega (arith, a, from_rank q l m));
        to_within = λ q lt. by_link (λ e. e.to < share_of k homes) q lt (λ l m. let a = rank_below homes m.link.to k (to_home q l m) in omega (arith, a, to_rank q l m));
        output_within = λ q lt. by_link (λ e. e.output < mine_outs e.from) q lt (λ l m. output_ok q l m);
        input_within = λ q lt. by_link (λ e. e.input < mine_ins e.to) q lt (λ l m. input_ok q l m);
        one_output = λ q r lq lr e o.
            let l = link_at q lq in
            let n = link_at r lr in
            one_out q r l.0 n.0 l.1.1 n.1.1 (sym (ap (λ (z : WireEnds). z.from) l.1.0) ∙ e ∙ ap (λ (z : WireEnds). z.from) n.1.0) (sym (ap (λ (z : WireEnds). z.output) l.1.0) ∙ o ∙ ap (λ (z : WireEnds). z.output) n.1.0);
        one_input = λ q r lq lr e o.
            let l = link_at q lq in
            let n = link_at r lr in
            one_in q r l.0 n.0 l.1.1 n.1.1 (sym (ap (λ (z : WireEnds). z.to) l.1.0) ∙ e ∙ ap (λ (z : WireEnds). z.to) n.1.0) (sym (ap (λ (z : WireEnds). z.input) l.1.0) ∙ o ∙ ap (λ (z : WireEnds). z.input) n.1.0);
        each_output = an_output;
        each_input = an_input;
      }

    -- the ends of lanes stand apart in an island, where they do in all
    module _ {S D L H B : Type 0} (places : List (Seated S D L H B)) (long : length places ≡ length homes) where
      pub seat_of : (i : ℕ) → slice_get homes i ≡ Some k → slice_get (of_home homes k places) (share_of k (take i homes)) ≡ slice_get places i
      seat_of i home =
          let lt : i < length homes = slice_get_within homes i k home in
          let x = there places i (omega (arith, lt, long)) in
          share_at homes places i k x.0 x.1 home ∙ sym x.1

      came : (q : ℕ) (l : Link) (m : IsMine q l) → comes_in (of_home homes k places) l.from ≡ comes_in places m.link.from
      came q l m = ap (comes_in (of_home homes k places)) (from_rank q l m) ∙ ap lane_comes (seat_of m.link.from (from_home q l m))

      went : (q : ℕ) (l : Link) (m : IsMine q l) → goes_out (of_home homes k places) l.to ≡ goes_out places m.link.to
      went q l m = ap (goes_out (of_home homes k places)) (to_rank q l m) ∙ ap lane_goes (seat_of m.link.to (to_home q l m))

      wire_same : (q : ℕ) (l : Link) (m : IsMine q l) → l.wire ≡ m.link.wire
      wire_same q l m = ap (λ (x : Link). x.wire) (sym m.local)

      pub once_mine : IsOnce places links → IsOnce (of_home homes k places) mine
      once_mine o = record {
        ins = λ q r l n a b c d e.
            let x = mine_from q l a in
            let y = mine_from r n b in
            same_place q r l n x y (o.ins x.at y.at x.link y.link x.is y.is (sym (came q l x) ∙ c) (sym (came r n y) ∙ d) (sym (wire_same q l x) ∙ e ∙ wire_same r n y));
        outs = λ q r l n a b c d e.
            let x = mine_from q l a in
            let y = mine_from r n b in
            same_place q r l n x y (o.outs x.at y.at x.link y.link x.is y.is (sym (went q l x) ∙ c) (sym (went r n y) ∙ d) (sym (wire_same q l x) ∙ e ∙ wire_same r n y));
      }

-- ---- the parts of an island

module _ {S D L H B : Type 0} where
  pub unused_mine : (hs : List ℕ) (k : ℕ) (places : List (Seated S D L H B)) → AllUnused places → AllUnused (of_home hs k places)
  unused_mine [] k places a = tt
  unused_mine (h ∷ hs) k [] a = tt
  unused_mine (h ∷ hs) k (p ∷ ps) a =
      ⊎_elim
      (λ (t : (h == k) ≡ true). subst AllUnused (sym (here h k hs p ps t)) (a.0, unused_mine hs k ps a.1))
      (λ (f : (h == k) ≡ false). subst AllUnused (sym (elsewhere h k hs p ps f)) (unused_mine hs k ps a.1))
      (cases_Bool (h == k))

  pub inputs_by : (places : List (Seated S D L H B)) (i : ℕ) (p : Seated S D L H B) → slice_get places i ≡ Some p → inputs_at places i ≡ work_inputs p.work
  inputs_by [] i p at = absurd cc
  inputs_by (x ∷ xs) zero p at = let same : x ≡ p = cc in ap (λ (z : Seated S D L H B). work_inputs z.work) same
  inputs_by (x ∷ xs) (suc i) p at = inputs_by xs i p at

  pub outputs_by : (places : List (Seated S D L H B)) (i : ℕ) (p : Seated S D L H B) → slice_get places i ≡ Some p → outputs_at places i ≡ work_outputs p.work
  outputs_by [] i p at = absurd cc
  outputs_by (x ∷ xs) zero p at = let same : x ≡ p = cc in ap (λ (z : Seated S D L H B). work_outputs z.work) same
  outputs_by (x ∷ xs) (suc i) p at = outputs_by xs i p at

  pub island_parts : (homes : List ℕ) (links : List Link) (k : ℕ) (places : List (Seated S D L H B)) → length places ≡ length homes → AllUnused places → IsWiring (inputs_at places) (outputs_at places) (length places) (map ends_of links)
      → ((p : ℕ) (l : Link) → slice_get links p ≡ Some l → slice_index homes l.from ≡ slice_index homes l.to) → IsOnce places links → length links < 2 ^ 32 → AreParts (of_home homes k places) (mine homes links k)
  island_parts homes links k places long unused wiring same once few =
      let all : IsWiring (inputs_at places) (outputs_at places) (length homes) (map ends_of links) = subst (λ n. IsWiring (inputs_at places) (outputs_at places) n (map ends_of links)) long wiring in
      let count : length (of_home homes k places) ≡ share_of k homes = share_count homes places k long in
      let local = restricted homes links k (inputs_at places) (outputs_at places) (inputs_at (of_home homes k places)) (outputs_at (of_home homes k places)) all same (λ i home. ins i home) (λ i home. outs i home) in
      record {
        unused = unused_mine homes k places unused;
        wiring = subst (λ n. IsWiring (inputs_at (of_home homes k places)) (outputs_at (of_home homes k places)) n (map ends_of (mine homes links k))) (sym count) local;
        once = once_mine homes links k (inputs_at places) (outputs_at places) (inputs_at places) (outputs_at places) all same places long once;
        few = let m = mine_few homes links k in omega (arith, m, few);
      }
    where
      ins : (i : ℕ) → slice_get homes i ≡ Some k → inputs_at (of_home homes k places) (share_of k (take i homes)) ≡ inputs_at places i
      ins i home =
          let lt : i < length homes = slice_get_within homes i k home in
          let x = there places i (omega (arith, lt, long)) in
          inputs_by (of_home homes k places) _ x.0 (share_at homes places i k x.0 x.1 home) ∙ sym (inputs_by places i x.0 x.1)

      outs : (i : ℕ) → slice_get homes i ≡ Some k → outputs_at (of_home homes k places) (share_of k (take i homes)) ≡ outputs_at places i
      outs i home =
          let lt : i < length homes = slice_get_within homes i k home in
          let x = there places i (omega (arith, lt, long)) in
          outputs_by (of_home homes k places) _ x.0 (share_at homes places i k x.0 x.1 home) ∙ sym (outputs_by places i x.0 x.1)
