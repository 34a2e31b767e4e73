-- Islands of places and wires: each list goes to the islands by homes that are below their number.
use Rattle.std.proofs.Common.{◌≡◌, ℕ, zero, suc, ◌+◌, ◌-◌, ◌<◌, ◌≤◌, ◌^◌, List, [], ◌∷◌, ◌++◌, length, map, get_or, Some, refl, ap, sym, ◌∙◌, subst, ⊎_elim, ◌⊎◌, inl, inr, arith}
use Rattle.std.specs.Prelude.{slice_get, slice_index}
use Rattle.std.specs.List.{All}
use Rattle.std.specs.Option.{option_map}
use Rattle.std.specs.declared.vec.Vec.{Vec}
use Rattle.std.specs.declared.alloc.Global.{Global}
use Rattle.std.proofs.lemmas.List.{length-map}
use Rattle.std.proofs.lemmas.List.Elements.{All-get_or, All-from_get_or}
use Rattle.std.proofs.lemmas.Option.{slice_get-get_or, slice_get-map}
use Rattle.stream_model.specs.Graph.{Edge}
use Rattle.blue_names.specs.declared.links.NumberedWire.{NumberedWire}
use Rattle.blue_names.specs.Links.{AreInRange, wire_of_link, wires_of_links}
use Rattle.interpreter.specs.declared.parts.Link.{Link}
use Rattle.blue_check.specs.declared.plan.LanePlan.{LanePlan}
use Rattle.blue_check.specs.Plan.{lanes_from}
use Rattle.scatter.specs.Shares.{items_at, rank_of, share_of, AreRanks, AreEmptyFor, AreShares}
use Rattle.island_parts.specs.Whole.{nears_from, fars_from, lanes_in, whole_links, whole_homes, link_home, local_link, at_ranks}
use Rattle.scatter.proofs.Sharing.{share_count, count_within}
use Rattle.island_parts.proofs.Cutting.{lane_below, lanes_count, lane_there}
use Rattle.island_parts.proofs.Wiring.{there, AtOutput, AtEntry, AtInput, AtExit, out_side, in_side}
use Rattle.island_parts.proofs.Restricting.{from_map}
use Rattle.island_parts.proofs.Wholes.{homes_count, node_home, entry_home, exit_home}

-- the ends of each wire are nodes
pub in_range : (n : ℕ) (ls : List NumberedWire) (i : ℕ) (v : Edge) → AreInRange n ls → slice_get (wires_of_links ls) i ≡ Some v → (v.from < n) × (v.to < n)
in_range n ls i v range at =
    let x = from_map wire_of_link ls i v at in
    let l : NumberedWire = x.0 in
    let both = All-get ls i l x.1.0 range in
    subst (λ (w : Edge). (w.from < n) × (w.to < n)) x.1.1 both
  where
    All-get : (us : List NumberedWire) (k : ℕ) (u : NumberedWire) → slice_get us k ≡ Some u → All (λ (w : NumberedWire). (w.from < n) × (w.to < n)) us → (u.from < n) × (u.to < n)
    All-get us k u at all = let e = get_is us k u at in subst (λ (w : NumberedWire). (w.from < n) × (w.to < n)) e.1 (All-get_or (λ (w : NumberedWire). (w.from < n) × (w.to < n)) us k u e.0 all)
      where
        get_is : (xs : List NumberedWire) (j : ℕ) (x : NumberedWire) → slice_get xs j ≡ Some x → (j < length xs) × (get_or xs j u ≡ x)
        get_is [] j x a = cc
        get_is (y ∷ ys) zero x a = (omega arith, cc)
        get_is (y ∷ ys) (suc j) x a = let r = get_is ys j x a in (omega (arith, r.0), r.1)

module _ (n : ℕ) (ws : List Edge) (from_node : (i : ℕ) (v : Edge) → slice_get ws i ≡ Some v → v.from < n) (to_node : (i : ℕ) (v : Edge) → slice_get ws i ≡ Some v → v.to < n) where
  pub ends_within : (p : ℕ) (l : Link) → slice_get (whole_links n ws) p ≡ Some l → (l.from < n + lanes_in ws + lanes_in ws) × (l.to < n + lanes_in ws + lanes_in ws)
  ends_within p l at = (
    ⊎_elim
        (λ (o : AtOutput n ws p l). let h = from_node p o.wire o.is in omega (arith, h, o.from))
        (λ (e : AtEntry n ws p l). let h : l.from ≡ n + e.j = ap (λ (x : Link). x.from) e.is in omega (arith, h, e.below))
        (out_side n ws p l at),
    ⊎_elim
        (λ (o : AtInput n ws p l). let h = to_node o.at o.wire o.is in omega (arith, h, o.to))
        (λ (x : AtExit n ws p l). let b = lane_below ws p x.wire x.size x.is x.lane in omega (arith, x.to, b))
        (in_side n ws p l at),
  )

  split : (x y : ℕ) → (x < y) ⊎ (y ≤ x)
  split x zero = inr (omega arith)
  split zero (suc y) = inl (omega arith)
  split (suc x) (suc y) = ⊎_elim (λ (h : x < y). inl (omega (arith, h))) (λ (h : y ≤ x). inr (omega (arith, h))) (split x y)

  -- the homes of all places are homes of nodes
  pub whole_below : (homes : List ℕ) (count : ℕ) → length homes ≡ n → All (λ h. h < count) homes → All (λ h. h < count) (whole_homes homes (lanes_from homes 0 ws))
  whole_below homes count each all = All-from_get_or (λ h. h < count) (whole_homes homes (lanes_from homes 0 ws)) 0 (λ k lt. below k (omega (arith, lt, size)))
    where
      size : length (whole_homes homes (lanes_from homes 0 ws)) ≡ n + lanes_in ws + lanes_in ws
      size = homes_count homes ws n each

      home : (k : ℕ) → k < n → slice_index homes k < count
      home k lt = All-get_or (λ h. h < count) homes k 0 (omega (arith, lt, each)) all

      below : (k : ℕ) → k < n + lanes_in ws + lanes_in ws → slice_index (whole_homes homes (lanes_from homes 0 ws)) k < count
      below k lt =
          ⊎_elim
          (λ (h : k < n). let e = node_home homes ws n each k h in omega (arith, e, home k h))
          (λ (h : n ≤ k).
          ⊎_elim
          (λ (g : k < n + lanes_in ws).
          let x = lane_there ws (k - n) (omega (arith, g, h)) in
          let e = entry_home homes ws n each k (k - n) x (omega (arith, h)) in
          omega (arith, e, home x.wire.to (to_node x.at x.wire x.is)))
          (λ (g : n + lanes_in ws ≤ k).
          let x = lane_there ws (k - (n + lanes_in ws)) (omega (arith, g, lt)) in
          let e = exit_home homes ws n each k (k - (n + lanes_in ws)) x (omega (arith, g)) in
          omega (arith, e, home x.wire.from (from_node x.at x.wire x.is)))
          (split k (n + lanes_in ws)))
          (split k n)

pub links_below : (homes : List ℕ) (count : ℕ) (links : List Link) → All (λ h. h < count) homes → ((p : ℕ) (l : Link) → slice_get links p ≡ Some l → l.from < length homes) → All (λ h. h < count) (map (link_home homes) links)
links_below homes count links all within = All-from_get_or (λ h. h < count) (map (link_home homes) links) 0 (λ p lt.
    let e : length (map (link_home homes) links) ≡ length links = length-map links (link_home homes) in
    let l = there links p (omega (arith, lt, e)) in
    let at : slice_get (map (link_home homes) links) p ≡ Some (link_home homes l.0) = slice_get-map (link_home homes) links p ∙ ap (option_map (link_home homes)) l.1 in
    let is : Some (get_or (map (link_home homes) links) p 0) ≡ Some (link_home homes l.0) = sym (slice_get-get_or (map (link_home homes) links) p 0 lt) ∙ at in
    let same : get_or (map (link_home homes) links) p 0 ≡ link_home homes l.0 = cc in
    let b : slice_index homes l.0.from < count = All-get_or (λ h. h < count) homes l.0.from 0 (within p l.0 l.1) all in
    omega (arith, same, b))

pub local_same : (homes ranks counts : List ℕ) (count : ℕ) (links : List Link) → AreRanks homes count ranks counts → ((p : ℕ) (l : Link) → slice_get links p ≡ Some l → (l.from < length homes) × (l.to < length homes)) → map (at_ranks ranks) links ≡ map (local_link homes) links
local_same homes ranks counts count [] are within = refl
local_same homes ranks counts count (l ∷ ls) are within =
    let w = within 0 l refl in
    let from : slice_index ranks l.from ≡ rank_of homes l.from = are.ranks_are l.from w.0 in
    let to : slice_index ranks l.to ≡ rank_of homes l.to = are.ranks_are l.to w.1 in
    let here : at_ranks ranks l ≡ local_link homes l =
    ap (λ i. record { wire = l.wire; from = i; output = l.output; to = slice_index ranks l.to; input = l.input }) from ∙ ap (λ i. record { wire = l.wire; from = rank_of homes l.from; output = l.output; to = i; input = l.input }) to in
    ap (λ (m : Link). m ∷ map (at_ranks ranks) ls) here ∙ ap (λ (ms : List Link). local_link homes l ∷ ms) (local_same homes ranks counts count ls are (λ p m at. within (suc p) m at))

pub links_whole : (ws : List Edge) (links : List Link) (n big outs m : ℕ) → links ≡ nears_from outs 0 ws ++ fars_from n 0 ws → outs ≡ n + m → m ≡ lanes_in ws → n ≡ big → links ≡ whole_links big ws
links_whole ws links n big outs m is e f g = is ∙ ap (λ o. nears_from o 0 ws ++ fars_from n 0 ws) (e ∙ ap (λ k. n + k) f) ∙ ap (λ k. whole_links k ws) g

-- lists with room for so many of each home
pub empty_for : {X : Type 0} (homes ranks counts : List ℕ) (count : ℕ) (lists : List (Vec X Global)) → AreRanks homes count ranks counts → ((hs : List ℕ) → ((k : ℕ) → k < length counts → slice_index counts k ≡ share_of k hs) → AreEmptyFor hs (length counts) lists) → AreEmptyFor homes count lists
empty_for homes ranks counts count lists a rooms = subst (λ m. AreEmptyFor homes m lists) a.many (rooms homes (λ k lt. a.counts_are k (omega (arith, lt, a.many))))

-- ---- what code made of them

pub empty_as : {X : Type 0} (homes seen_homes ranks counts seen : List ℕ) (count size : ℕ) (lists : List (Vec X Global)) → AreRanks homes count ranks counts → seen ≡ counts → seen_homes ≡ homes → size ≡ length lists
    → ((hs : List ℕ) → ((k : ℕ) → k < length seen → slice_index seen k ≡ share_of k hs) → AreEmptyFor hs (length seen) lists) → AreEmptyFor seen_homes size lists × (size ≡ count)
empty_as homes seen_homes ranks counts seen count size lists a same homes_same long rooms =
    let e = empty_for homes ranks seen count lists (subst (λ c. AreRanks homes count ranks c) (sym same) a) rooms in
    let many : size ≡ count = long ∙ e.many in
    (subst (λ hs. AreEmptyFor hs size lists) (sym homes_same) (subst (λ m. AreEmptyFor homes m lists) (sym many) e), many)

pub below_as : (homes seen : List ℕ) (count size : ℕ) → All (λ h. h < count) homes → seen ≡ homes → size ≡ count → All (λ h. h < size) seen
below_as homes seen count size all same e = subst (λ hs. All (λ h. h < size) hs) (sym same) (subst (λ m. All (λ h. h < m) homes) (sym e) all)

pub few_each : {X : Type 0} (homes : List ℕ) (items : List X) (lists : List (Vec X Global)) → AreShares homes items lists → length items < 2 ^ 32 → (k : ℕ) → length (items_at lists k) < 2 ^ 32
few_each homes items lists a few k =
    let size : length (items_at lists k) ≡ share_of k homes = ap length (a.shares k) ∙ share_count homes items k a.each in
    let most = count_within k homes in
    omega (arith, size, most, a.each, few)

module _ (wires : List NumberedWire) (n : ℕ) (homes : List ℕ) (count : ℕ) (lanes : List LanePlan) (range : AreInRange n wires) (each : length homes ≡ n) (below : All (λ h. h < count) homes) (lanes_are : lanes ≡ lanes_from homes 0 (wires_of_links wires))
    (all : List ℕ) (are : all ≡ whole_homes homes lanes) where
  pub all_is : all ≡ whole_homes homes (lanes_from homes 0 (wires_of_links wires))
  all_is = are ∙ ap (whole_homes homes) lanes_are

  pub all_below : All (λ h. h < count) all
  all_below = subst (All (λ h. h < count)) (sym all_is) (whole_below n (wires_of_links wires) (λ i v at. (in_range n wires i v range at).0) (λ i v at. (in_range n wires i v range at).1) homes count each below)

  pub many_lanes : length lanes ≡ lanes_in (wires_of_links wires)
  many_lanes = ap length lanes_are ∙ lanes_count homes 0 (wires_of_links wires)

  module _ (links : List Link) (is : links ≡ whole_links n (wires_of_links wires)) where
    pub links_within : (p : ℕ) (l : Link) → slice_get links p ≡ Some l → (l.from < length all) × (l.to < length all)
    links_within p l at =
        let size : length all ≡ n + lanes_in (wires_of_links wires) + lanes_in (wires_of_links wires) = ap length all_is ∙ homes_count homes (wires_of_links wires) n each in
        let w = ends_within n (wires_of_links wires) (λ i v h. (in_range n wires i v range h).0) (λ i v h. (in_range n wires i v range h).1) p l (sym (ap (λ ls. slice_get ls p) is) ∙ at) in
        (omega (arith, size, w.0), omega (arith, size, w.1))

    pub homes_below : (found seen_links : List ℕ) (seen_all : List ℕ) (of_links : List Link) → found ≡ map (link_home seen_all) of_links → seen_all ≡ all → of_links ≡ links → All (λ h. h < count) found × (found ≡ map (link_home all) links)
    homes_below found seen seen_all of_links e a l =
        let same : found ≡ map (link_home all) links = e ∙ ap (λ hs. map (link_home hs) of_links) a ∙ ap (map (link_home all)) l in
        (subst (All (λ h. h < count)) (sym same) (links_below all count links all_below (λ p m at. (links_within p m at).0)), same)

    pub locals_are : (local : List Link) (seen_links : List Link) (ranks counts seen_ranks seen_all : List ℕ) → AreRanks seen_all count ranks counts → seen_all ≡ all → seen_ranks ≡ ranks → seen_links ≡ links → local ≡ map (at_ranks seen_ranks) seen_links → local ≡ map (local_link all) links
    locals_are local seen_links ranks counts seen_ranks seen_all a h r l e =
        e ∙ ap (λ rs. map (at_ranks rs) seen_links) r ∙ ap (map (at_ranks ranks)) l ∙ local_same all ranks counts count links (subst (λ hs. AreRanks hs count ranks counts) h a) links_within
