-- The counts of an island's wires are the share of what the account tells of all wires, and behind them those at the inputs of lanes.
use Rattle.std.specs.Prelude.{slice_get, slice_index, if◌then◌else◌}
use Rattle.std.proofs.Common.{◌≡◌, ℕ, suc, ◌+◌, ◌<◌, ◌==◌, Bool, true, false, List, [], ◌∷◌, ◌++◌, length, map, Option, Some, None, refl, ap, sym, ◌∙◌, subst, length-append, arith}
use Rattle.std.proofs.lemmas.List.{length-map}
use Rattle.std.proofs.lemmas.Option.{slice_get_within, get_or_from_slice_get}
use Rattle.stream_model.specs.Graph.{Edge}
use Rattle.stream_model.specs.declared.outcome.WireCount.{WireCount}
use Rattle.port_core.specs.Cell.{WireState}
use Rattle.port_core.specs.Reading.{no_wire}
use Rattle.fused_net.specs.Net.{Net, wire_at}
use Rattle.nodes.specs.declared.node.IslandNode.{IslandNode}
use Rattle.interpreter.specs.Island.{counts_of, state_count as told_of}
use Rattle.interpreter.specs.Parts.{ends_of, wire_number}
use Rattle.interpreter.specs.declared.parts.Link.{Link}
use Rattle.interpreter.specs.declared.parts.Seated.{Seated}
use Rattle.scatter.specs.Shares.{of_home, rank_of, share_of}
use Rattle.scatter.proofs.Sharing.{share_map, share_both}
use Rattle.island_parts.specs.Whole.{one_lane, lanes_in, near_at, nears_from, fars_from, whole_links, link_home, local_link, own_links}
use Rattle.island_parts.proofs.Cutting.{nears_count}
use Rattle.island_parts.proofs.Restricting.{home_at}
use Rattle.island_parts.proofs.Wiring.{there}
use Rattle.island_plans.specs.Ends.{wire_home}
use Rattle.bodies_run.specs.Islands.{place_homes, link_homes, link_place, links_in, AreSeated, AreNets}
use Rattle.bodies_run.proofs.Bringing.{AreBelow, IsWhole, bring, whole_at, IsParted, part, get_first}
use Rattle.bodies_run.proofs.Standing.{size, from_node, same_home, stands, links_in_count}
use Rattle.bodies_run.specs.Counts.{told_from}
use Rattle.island_runs.proofs.Numbers.{map_both}

-- ---- counts of two lists

pub counts_both : (ms ns : List ℕ) (cs ds : List WireState) → length cs ≡ length ms → counts_of (ms ++ ns) (cs ++ ds) ≡ counts_of ms cs ++ counts_of ns ds
counts_both [] ns [] ds e = refl
counts_both [] ns (c ∷ cs) ds e = absurd (omega (arith, e))
counts_both (m ∷ ms) ns [] ds e = absurd (omega (arith, e))
counts_both (m ∷ ms) ns (c ∷ cs) ds e = ap (λ l. (m, told_of c) ∷ l) (counts_both ms ns cs ds (omega (arith, e)))

pub counts_many : (ms : List ℕ) (cs : List WireState) → length cs ≡ length ms → length (counts_of ms cs) ≡ length ms
counts_many [] cs e = refl
counts_many (m ∷ ms) [] e = absurd (omega (arith, e))
counts_many (m ∷ ms) (c ∷ cs) e = ap suc (counts_many ms cs (omega (arith, e)))

counts_step : (b : Bool) (m : ℕ) (c : WireState) (ms : List ℕ) (cs : List WireState) (r : List (ℕ × WireCount)) → counts_of ms cs ≡ r → counts_of (if b then m ∷ ms else ms) (if b then c ∷ cs else cs) ≡ (if b then (m, told_of c) ∷ r else r)
counts_step true m c ms cs r e = ap (λ l. (m, told_of c) ∷ l) e
counts_step false m c ms cs r e = e

-- the counts of shares are the share of the counts
pub share_counts : (hs : List ℕ) (k : ℕ) (ms : List ℕ) (cs : List WireState) → length ms ≡ length hs → length cs ≡ length hs → counts_of (of_home hs k ms) (of_home hs k cs) ≡ of_home hs k (counts_of ms cs)
share_counts [] k ms cs a b = refl
share_counts (h ∷ hs) k [] cs a b = absurd (omega (arith, a))
share_counts (h ∷ hs) k (m ∷ ms) [] a b = absurd (omega (arith, b))
share_counts (h ∷ hs) k (m ∷ ms) (c ∷ cs) a b = counts_step (h == k) m c (of_home hs k ms) (of_home hs k cs) (of_home hs k (counts_of ms cs)) (share_counts hs k ms cs (omega (arith, a)) (omega (arith, b)))

-- ---- the links at the outputs of wires

near_number : (out u : ℕ) (w : Edge) (o : Option ℕ) → wire_number (near_at out u w o) ≡ u
near_number out u w None = refl
near_number out u w (Some s) = refl

near_from : (out u : ℕ) (w : Edge) (o : Option ℕ) → (near_at out u w o).from ≡ w.from
near_from out u w None = refl
near_from out u w (Some s) = refl

-- what is told of wires that stand so is told of their links
told_near : (near : ℕ → WireState) (out u : ℕ) (ws : List Edge) (cs : List WireState) → length cs ≡ length ws → ((j : ℕ) (c : WireState) → slice_get cs j ≡ Some c → near (u + j) ≡ c) → counts_of (map wire_number (nears_from out u ws)) cs ≡ told_from near u ws
told_near near out u [] cs e h = refl
told_near near out u (w ∷ ws) [] e h = absurd (omega (arith, e))
told_near near out u (w ∷ ws) (c ∷ cs) e h =
    let first : near u ≡ c = ap near (let z : u ≡ u + 0 = omega arith in z) ∙ h 0 c refl in
    let rest = told_near near (one_lane w.lane out) (u + 1) ws cs (omega (arith, e)) (λ j d at. let z : u + 1 + j ≡ u + suc j = omega arith in ap near z ∙ h (suc j) d at) in
    ap (λ (m : ℕ). (m, told_of c) ∷ counts_of (map wire_number (nears_from (one_lane w.lane out) (u + 1) ws)) cs) (near_number out u w w.lane) ∙ (ap (λ (d : WireState). (u, told_of d) ∷ counts_of (map wire_number (nears_from (one_lane w.lane out) (u + 1) ws)) cs) (sym first) ∙ ap (λ l. (u, told_of (near u)) ∷ l) rest)

pub told_many : (near : ℕ → WireState) (u : ℕ) (ws : List Edge) → length (told_from near u ws) ≡ length ws
told_many near u [] = refl
told_many near u (w ∷ ws) = ap suc (told_many near (u + 1) ws)

-- they are at home where their wires begin
near_homes : (homes hs : List ℕ) (out u : ℕ) (ws : List Edge) → ((i : ℕ) (w : Edge) → slice_get ws i ≡ Some w → slice_index hs w.from ≡ slice_index homes w.from) → map (link_home hs) (nears_from out u ws) ≡ map (wire_home homes) ws
near_homes homes hs out u [] h = refl
near_homes homes hs out u (w ∷ ws) h =
    ap (λ (j : ℕ). j ∷ map (link_home hs) (nears_from (one_lane w.lane out) (u + 1) ws)) (ap (slice_index hs) (near_from out u w w.lane) ∙ h 0 w refl) ∙ ap (λ l. wire_home homes w ∷ l) (near_homes homes hs (one_lane w.lane out) (u + 1) ws (λ i v e. h (suc i) v e))

local_number : (hs : List ℕ) (ls : List Link) → map wire_number (map (local_link hs) ls) ≡ map wire_number ls
local_number hs [] = refl
local_number hs (l ∷ ls) = ap (λ t. l.wire ∷ t) (local_number hs ls)

-- ---- the counts of lists in two parts

parted : (hs gs lhs : List ℕ) (ms ns all : List ℕ) (cs ds cells : List WireState) (told : List (ℕ × WireCount)) (k : ℕ) → lhs ≡ hs ++ gs → all ≡ ms ++ ns → cells ≡ cs ++ ds → length ms ≡ length hs → length ns ≡ length gs → length cs ≡ length hs → length ds ≡ length gs
    → counts_of ms cs ≡ told → counts_of (of_home lhs k all) (of_home lhs k cells) ≡ of_home hs k told ++ of_home gs k (counts_of ns ds)
parted hs gs lhs ms ns all cs ds cells told k e f g a b c d t =
    let la = length-append ms ns in
    let lc = length-append cs ds in
    let lh = length-append hs gs in
    ap (λ (h : List ℕ). counts_of (of_home h k all) (of_home h k cells)) e
    ∙ (ap (λ (n : List ℕ). counts_of (of_home (hs ++ gs) k n) (of_home (hs ++ gs) k cells)) f
    ∙ (ap (λ (n : List WireState). counts_of (of_home (hs ++ gs) k (ms ++ ns)) (of_home (hs ++ gs) k n)) g
    ∙ (share_counts (hs ++ gs) k (ms ++ ns) (cs ++ ds) (omega (arith, la, lh, a, b)) (omega (arith, lc, lh, c, d))
    ∙ (ap (of_home (hs ++ gs) k) (counts_both ms ns cs ds (c ∙ sym a))
    ∙ (share_both hs gs (counts_of ms cs) (counts_of ns ds) k (counts_many ms cs (c ∙ sym a) ∙ a)
    ∙ ap (λ (r : List (ℕ × WireCount)). of_home hs k r ++ of_home gs k (counts_of ns ds)) t)))))

-- ---- the wires of islands

module _ {S D L H B : Type 0} (homes : List ℕ) (count : ℕ) (ws : List Edge) (nodes : List (Seated S D L H B)) (a : AreSeated homes count ws nodes) (nets : ℕ → Net (IslandNode S D L H B)) (b : AreNets homes ws nodes count nets) where
  abbrev hs : List ℕ
  hs = place_homes homes ws

  abbrev links : List Link
  links = whole_links (length homes) ws

  abbrev lhs : List ℕ
  lhs = link_homes homes ws

  abbrev out : ℕ
  out = length homes + lanes_in ws

  abbrev nears : List Link
  nears = nears_from out 0 ws

  abbrev fars : List Link
  fars = fars_from (length homes) 0 ws

  below : AreBelow count lhs
  below i lt =
      let within : i < length links = subst (λ (n : ℕ). i < n) (length-map links (link_home hs)) lt in
      let l = there links i within in
      (stands homes count ws nodes a i l.0 l.1).below

  many : (k : ℕ) → k < count → length (nets k).wires ≡ share_of k lhs
  many k lt =
      sym (b.wired k lt).each_wire ∙ (ap length (b.ends_are k lt) ∙ (length-map (links_in homes ws nodes k) ends_of ∙ (ap (λ (n : ℕ). length (own_links hs (whole_links n ws) k)) (size homes count ws nodes a) ∙ links_in_count homes count ws nodes a k)))

  -- all wires in one list
  all_cells : (cells : List WireState) × IsWhole lhs count (λ (k : ℕ). (nets k).wires) cells
  all_cells = bring lhs count (λ (k : ℕ). (nets k).wires) below many

  abbrev cells : List WireState
  cells = all_cells.0

  links_many : length lhs ≡ length ws + length fars
  links_many =
      let m = length-map links (link_home hs) in
      let p = length-append nears fars in
      let n = nears_count out 0 ws in
      omega (arith, m, p, n)

  two : (cs : List WireState) × ((ds : List WireState) × IsParted (length ws) cells cs ds)
  two = part (length ws) cells (let e = all_cells.1.each in let m = links_many in omega (arith, e, m))

  abbrev near : ℕ → WireState
  near u = wire_at (nets (link_place homes ws u).island) (link_place homes ws u).at

  near_is : (j : ℕ) (c : WireState) → slice_get two.0 j ≡ Some c → near (0 + j) ≡ c
  near_is j c at =
      let p = two.1.1 in
      let lt : j < length two.0 = slice_get_within two.0 j c at in
      let wide = links_many in
      let in_links : j < length lhs = (let f = p.first in omega (arith, lt, f, wide)) in
      let here : slice_get cells j ≡ Some c = ap (λ (l : List WireState). slice_get l j) p.is ∙ (sym (get_first two.0 two.1.0 j lt) ∙ at) in
      let there_is : slice_get (nets (slice_index lhs j)).wires (rank_of lhs j) ≡ Some c = sym (whole_at lhs count (λ (k : ℕ). (nets k).wires) cells j (slice_index lhs j) all_cells.1 (home_at lhs j (slice_index lhs j) in_links refl) in_links (below j in_links)) ∙ here in
      let same : wire_at (nets (slice_index lhs j)) (rank_of lhs j) ≡ c = get_or_from_slice_get (nets (slice_index lhs j)).wires (rank_of lhs j) c no_wire there_is in
      let z : 0 + j ≡ j = omega arith in
      ap near z ∙ same

  told_is : counts_of (map wire_number nears) two.0 ≡ told_from near 0 ws
  told_is = told_near near out 0 ws two.0 two.1.1.first near_is

  numbers_are : (k : ℕ) → map wire_number (links_in homes ws nodes k) ≡ of_home lhs k (map wire_number links)
  numbers_are k =
      ap (λ (n : ℕ). map wire_number (own_links hs (whole_links n ws) k)) (size homes count ws nodes a) ∙ (sym (share_map wire_number lhs (map (local_link hs) links) k) ∙ ap (of_home lhs k) (local_number hs links))

  -- where the links at the inputs of lanes are at home
  abbrev far_homes : List ℕ
  far_homes = map (link_home hs) fars

  homes_are : lhs ≡ map (wire_home homes) ws ++ far_homes
  homes_are =
      map_both (link_home hs) nears fars ∙ ap (λ l. l ++ map (link_home hs) fars) (near_homes homes hs out 0 ws (λ i w at. same_home homes count ws nodes a w.from (from_node homes count ws nodes a i w at)))

  -- the counts of the wires of island k
  pub wires_are : (k : ℕ) → k < count → (fars_told : List (ℕ × WireCount)) × (counts_of (map wire_number (links_in homes ws nodes k)) (nets k).wires ≡ of_home (map (wire_home homes) ws) k (told_from near 0 ws) ++ fars_told)
  wires_are k lt =
      let n1 = length-map nears wire_number in
      let n2 = nears_count out 0 ws in
      let w = length-map ws (wire_home homes) in
      let f1 = length-map fars wire_number in
      let f2 = length-map fars (link_home hs) in
      let p = two.1.1 in
      let first = p.first in
      let later = p.later in
      let each = all_cells.1.each in
      let wide = links_many in (
        of_home far_homes k (counts_of (map wire_number fars) two.1.0),
        ap (λ (ms : List ℕ). counts_of ms (nets k).wires) (numbers_are k)
            ∙ (ap (λ (cs : List WireState). counts_of (of_home lhs k (map wire_number links)) cs) (sym (all_cells.1.shares k lt))
            ∙ parted (map (wire_home homes) ws) far_homes lhs (map wire_number nears) (map wire_number fars) (map wire_number links) two.0 two.1.0 cells (told_from near 0 ws) k homes_are (map_both wire_number nears fars) p.is (omega (arith, n1, n2, w)) (f1 ∙ sym f2) (first ∙ sym w)
            (let z : length two.1.0 ≡ length fars = omega (arith, later, each, wide) in z ∙ sym f2) told_is),
      )
