-- Closed walks, and numbers that never fall along a wire.
use Rattle.std.proofs.Common.{◌≡◌, ℕ, zero, suc, ◌+◌, ◌<◌, ◌≤◌, true, List, [], ◌∷◌, ◌++◌, length, map, take, get_or, Some, ap, sym, ◌∙◌, subst, ⊎_elim, arith}
use Rattle.std.specs.Prelude.{nat_lt, slice_get, slice_index}
use Rattle.std.specs.List.{list_all}
use Rattle.std.proofs.lemmas.Bool.{cases_lt, and_parts, ltb-true}
use Rattle.std.proofs.lemmas.Option.{slice_get-get_or, slice_get_within}
use Rattle.std.proofs.lemmas.List.{get_or-map, length-map, map_more}
use Rattle.stream_model.specs.Graph.{Edge}
use Rattle.blue_names.proofs.OutRows.{slice_get-push_cases}
use Rattle.blue_names.specs.declared.links.NumberedWire.{NumberedWire}
use Rattle.blue_names.specs.Links.{wire_of_link, wires_of_links}
use Rattle.blue_names.specs.Paths.{Path, stay, along, LiesOnClosedWalk, IsFirstClosed, HasNoClosedWalk}
use Rattle.blue_check.specs.Ranks.{NeverFalls}

-- nor do they along a walk
pub rises_along : (ws : List Edge) (ranks : List ℕ) (a b : ℕ) → NeverFalls ws ranks → Path ws a b → slice_index ranks a ≤ slice_index ranks b
rises_along ws ranks a b n stay = omega arith
rises_along ws ranks a b n (along f p) =
    let one : slice_index ranks f.is.from ≤ slice_index ranks f.is.to = n.along f.wire f.is f.at in
    let from : slice_index ranks f.is.from ≡ slice_index ranks a = ap (slice_index ranks) f.from in
    let to = ap (slice_index ranks) f.to in
    let rest = rises_along ws ranks _ b n p in
    omega (arith, one, from, to, rest)

-- the wire of a link, at its place
pub link_at_place : (ls : List NumberedWire) (i : ℕ) (d : NumberedWire) → i < length ls → slice_get (wires_of_links ls) i ≡ Some (wire_of_link (get_or ls i d))
link_at_place ls i d lt =
    let long : i < length (wires_of_links ls) = omega (arith, length-map ls wire_of_link) in
    slice_get-get_or (wires_of_links ls) i (wire_of_link d) long ∙ ap Some (get_or-map wire_of_link ls i d (wire_of_link d) lt)

-- so far no wire lies on a closed walk
pub record NoneBelow (ws : List Edge) (i : ℕ) : Type 0 where
  pub none : (j : ℕ) → LiesOnClosedWalk ws j → i ≤ j

pub NoneBelow-none : (ws : List Edge) → NoneBelow ws 0
NoneBelow-none ws = record { none = λ j h. omega arith }

pub NoneBelow-more : (ws : List Edge) (i : ℕ) (w : Edge) → slice_get ws i ≡ Some w → (Path ws w.to w.from → ⊥) → NoneBelow ws i → NoneBelow ws (i + 1)
NoneBelow-more ws i w at open_ n = record {
  none = λ j h.
      let le : i ≤ j = n.none j h in
      ⊎_elim
      (λ (lt : i < j). omega arith)
      (λ (ge : j ≤ i).
      let same : j ≡ i = omega arith in
      let got : Some h.wire ≡ Some w = sym h.at ∙ ap (slice_get ws) same ∙ at in
      let e : h.wire ≡ w = cc in
      absurd (open_ (subst (λ (u : Edge). Path ws u.to u.from) e h.back)))
      (cases_lt i j);
}

pub IsFirstClosed-here : (ws : List Edge) (i : ℕ) (w : Edge) → slice_get ws i ≡ Some w → Path ws w.to w.from → NoneBelow ws i → IsFirstClosed ws i
IsFirstClosed-here ws i w at back n = record { lies = record { wire = w; at = at; back = back }; least = n.none }

pub HasNoClosedWalk-end : (ws : List Edge) (i : ℕ) → length ws ≤ i → NoneBelow ws i → HasNoClosedWalk ws
HasNoClosedWalk-end ws i le n = record {
  none = λ j h.
      let lt : j < length ws = slice_get_within ws j h.wire h.at in
      let ge : i ≤ j = n.none j h in absurd (omega arith);
}

-- numbers that never fall along one more wire
pub NeverFalls-more : {L : Type 0} (g : L → Edge) (ranks : List ℕ) (ls : List L) (i : ℕ) (d : L) (a b : ℕ) → i < length ls → a ≡ slice_index ranks (g (get_or ls i d)).from → b ≡ slice_index ranks (g (get_or ls i d)).to → a ≤ b
    → NeverFalls (map g (take i ls)) ranks → NeverFalls (map g (take (i + 1) ls)) ranks
NeverFalls-more g ranks ls i d a b lt from to order n = record {
  along = λ j w at.
      let le : slice_index ranks (g (get_or ls i d)).from ≤ slice_index ranks (g (get_or ls i d)).to = subst (λ x. x ≤ slice_index ranks (g (get_or ls i d)).to) from (subst (λ x. a ≤ x) to order) in
      let t : map g (take (i + 1) ls) ≡ map g (take i ls) ++ g (get_or ls i d) ∷ [] = map_more g ls i d lt in
      let at' : slice_get (map g (take i ls) ++ g (get_or ls i d) ∷ []) j ≡ Some w = ap (λ us. slice_get us j) (sym t) ∙ at in
      ⊎_elim (λ o. n.along j w o) (λ e. subst (λ (u : Edge). slice_index ranks u.from ≤ slice_index ranks u.to) (sym e.1) le) (slice_get-push_cases (map g (take i ls)) (g (get_or ls i d)) w j at');
}

-- the same for the links as code reads them
pub NoneBelow-link : (ls : List NumberedWire) (i : ℕ) (d : NumberedWire) → i < length ls → (Path (wires_of_links ls) (get_or ls i d).to (get_or ls i d).from → ⊥) → NoneBelow (wires_of_links ls) i → NoneBelow (wires_of_links ls) (i + 1)
NoneBelow-link ls i d lt open_ n = NoneBelow-more (wires_of_links ls) i (wire_of_link (get_or ls i d)) (link_at_place ls i d lt) open_ n

pub IsFirstClosed-link : (ls : List NumberedWire) (i : ℕ) (d : NumberedWire) → i < length ls → Path (wires_of_links ls) (get_or ls i d).to (get_or ls i d).from → NoneBelow (wires_of_links ls) i → IsFirstClosed (wires_of_links ls) i
IsFirstClosed-link ls i d lt back n = IsFirstClosed-here (wires_of_links ls) i (wire_of_link (get_or ls i d)) (link_at_place ls i d lt) back n

pub HasNoClosedWalk-links : (ls : List NumberedWire) (i : ℕ) → length ls ≤ i → NoneBelow (wires_of_links ls) i → HasNoClosedWalk (wires_of_links ls)
HasNoClosedWalk-links ls i le n = HasNoClosedWalk-end (wires_of_links ls) i (omega (arith, length-map ls wire_of_link)) n

-- a wire that leads to a later node, where each does
later_at : (ls : List NumberedWire) (i : ℕ) (w : Edge) → list_all (λ l. nat_lt l.from l.to) ls ≡ true → slice_get (wires_of_links ls) i ≡ Some w → w.from < w.to
later_at [] i w h at = cc
later_at (l ∷ ls) zero w h at =
    let both = and_parts (nat_lt l.from l.to) (list_all (λ k. nat_lt k.from k.to) ls) h in
    let one : l.from < l.to = ltb-true l.from l.to both.0 in
    let got : Some (wire_of_link l) ≡ Some w = at in
    let e : wire_of_link l ≡ w = cc in
    subst (λ (u : Edge). u.from < u.to) e one
later_at (l ∷ ls) (suc i) w h at =
    let both = and_parts (nat_lt l.from l.to) (list_all (λ k. nat_lt k.from k.to) ls) h in
    later_at ls i w both.1 at

-- along such wires no walk leads to an earlier node
leads_later : (ls : List NumberedWire) (a b : ℕ) → list_all (λ l. nat_lt l.from l.to) ls ≡ true → Path (wires_of_links ls) a b → a ≤ b
leads_later ls a b h stay = omega arith
leads_later ls a b h (along f p) =
    let one : f.is.from < f.is.to = later_at ls f.wire f.is h f.at in
    let rest = leads_later ls _ b h p in
    omega (arith, one, f.from, f.to, rest)

-- so none is closed
pub none_closed : (ls : List NumberedWire) → list_all (λ l. nat_lt l.from l.to) ls ≡ true → HasNoClosedWalk (wires_of_links ls)
none_closed ls h = record {
  none = λ j c.
      let one : c.wire.from < c.wire.to = later_at ls j c.wire h c.at in
      let back = leads_later ls c.wire.to c.wire.from h c.back in
      absurd (omega (arith, one, back));
}
