-- Visits of the wires out of one node.
use Rattle.std.proofs.Common.{◌≡◌, ℕ, zero, suc, ◌+◌, ◌<◌, ◌≤◌, Bool, true, ◌==◌, List, [], ◌∷◌, ◌++◌, length, take, get_or, Some, None, refl, ap, sym, ◌∙◌, subst, ⊎_elim, arith}
use Rattle.std.specs.Prelude.{slice_get}
use Rattle.std.proofs.lemmas.Bool.{or_cases, eqb-true}
use Rattle.std.proofs.lemmas.List.{take_more}
use Rattle.std.proofs.lemmas.Option.{slice_get_within, slice_get-get_or}
use Rattle.std.specs.declared.vec.Vec.{Vec}
use Rattle.std.specs.declared.alloc.Global.{Global}
use Rattle.stream_model.specs.Graph.{Edge}
use Rattle.blue_names.specs.declared.links.NumberedWire.{NumberedWire}
use Rattle.blue_names.specs.Links.{AreInRange, wire_of_link, wires_of_links}
use Rattle.blue_names.specs.Outs.{IsOuts, row_at}
use Rattle.blue_names.specs.Paths.{Path}
use Rattle.blue_names.specs.Members.{is_in}
use Rattle.blue_check.specs.Marks.{Reaches}
use Rattle.blue_check.specs.Visits.{Visits}
use Rattle.blue_check.proofs.Reaching.{is_in-push, is_in-at, path_on}

-- a wire of a list of links is one of them
link_of : (ls : List NumberedWire) (i : ℕ) (w : Edge) → slice_get (wires_of_links ls) i ≡ Some w → (l : NumberedWire) × (slice_get ls i ≡ Some l) × (wire_of_link l ≡ w)
link_of [] i w h = cc
link_of (l ∷ ls) zero w h = (l, refl, cc)
link_of (l ∷ ls) (suc i) w h = link_of ls i w h

-- its ends are in range
pub wire_in_range : (count : ℕ) (ls : List NumberedWire) (i : ℕ) (w : Edge) → AreInRange count ls → slice_get (wires_of_links ls) i ≡ Some w → (w.from < count) × (w.to < count)
wire_in_range count ls i w range h =
    let l = link_of ls i w h in
    let lt : i < length ls = slice_get_within ls i l.0 l.1 in
    let got : Some (get_or ls i l.0) ≡ Some l.0 = sym (slice_get-get_or ls i l.0 lt) ∙ l.1 in
    let is : get_or ls i l.0 ≡ l.0 = cc in
    let at = range i l.0 lt in
    let r : (l.0.from < count) × (l.0.to < count) = subst (λ (k : NumberedWire). (k.from < count) × (k.to < count)) is at in
    subst (λ (u : Edge). (u.from < count) × (u.to < count)) l.2 r

pub Visits-none : (ws : List Edge) (node count : ℕ) (marks : List Bool) (order : List ℕ) → Visits ws node count marks marks order order []
Visits-none ws node count marks order = record {
  reaches = λ start p r. r;
  leads = λ start p r i w at h. cc;
  longer = omega arith;
  front = λ k le. refl;
  kept = λ i h. h;
}

-- the target of a wire out of a node is reached with it
pub target_path : (ws : List Edge) (start node i target : ℕ) (w : Edge) → slice_get ws i ≡ Some w → w.from ≡ node → w.to ≡ target → Path ws start node → Path ws start target
target_path ws start node i target w at from to p = path_on ws start node target p (record { wire = i; is = w; at = at; from = from; to = to })

module _ (ws : List Edge) (node count : ℕ) (marks now next : List Bool) (order mid later : List ℕ) (row : List ℕ) (v : Visits ws node count marks now order mid row) where
  -- one more wire, whose target arrives
  pub Visits-more : (n target : ℕ) → ((w : Edge) → slice_get ws n ≡ Some w → Some target ≡ Some w.to) → ((start : ℕ) → Path ws start node → Path ws start target) → target < count
      → ((start : ℕ) → Path ws start target → target < count → Reaches ws start count now mid → Reaches ws start count next later)
      → length mid ≤ length later → ((k : ℕ) → k ≤ length mid → take k later ≡ take k mid) → ((i : ℕ) → is_in i mid ≡ true → is_in i later ≡ true)
      → ((start : ℕ) → Reaches ws start count now mid → is_in target later ≡ true) → Visits ws node count marks next order later (row ++ n ∷ [])
  Visits-more n target to path lt reaches longer front kept here = record {
    reaches = λ start p r. reaches start (path start p) lt (v.reaches start p r);
    leads = λ start p r i w at h.
        ⊎_elim
        (λ (o : is_in i row ≡ true). kept w.to (v.leads start p r i w at o))
        (λ (o : (n == i) ≡ true).
        let same : n ≡ i = eqb-true n i o in
        let t : Some target ≡ Some w.to = to w (subst (λ x. slice_get ws x ≡ Some w) (sym same) at) in
        let e : target ≡ w.to = cc in
        subst (λ x. is_in x later ≡ true) e (here start (v.reaches start p r)))
        (or_cases (is_in i row) (n == i) (sym (is_in-push i n row) ∙ h));
    longer = let a : length order ≤ length mid = v.longer in omega arith;
    front = λ k le. let a : length order ≤ length mid = v.longer in front k (omega arith) ∙ v.front k le;
    kept = λ i h. kept i (v.kept i h);
  }

  -- a number of no wire
  pub Visits-no_wire : (n : ℕ) → ((w : Edge) → slice_get ws n ≡ Some w → None ≡ Some w.to) → Visits ws node count marks now order mid (row ++ n ∷ [])
  Visits-no_wire n none = record {
    reaches = v.reaches;
    leads = λ start p r i w at h.
        ⊎_elim
        (λ (o : is_in i row ≡ true). v.leads start p r i w at o)
        (λ (o : (n == i) ≡ true).
        let same : n ≡ i = eqb-true n i o in
        let t : None ≡ Some w.to = none w (subst (λ x. slice_get ws x ≡ Some w) (sym same) at) in cc)
        (or_cases (is_in i row) (n == i) (sym (is_in-push i n row) ∙ h));
    longer = v.longer;
    front = v.front;
    kept = v.kept;
  }

-- the wires in the row of a node come from it
pub from_row : (rows : List (Vec ℕ Global)) (ws : List Edge) (node : ℕ) (row : List ℕ) (k d : ℕ) → IsOuts rows ws → row ≡ row_at rows node → k < length row
    → (w : Edge) → slice_get ws (get_or row k d) ≡ Some w → w.from ≡ node
from_row rows ws node row k d outs is lt w at =
    let there : is_in (get_or row k d) (row_at rows node) ≡ true = ap (is_in (get_or row k d)) (sym is) ∙ is_in-at row k d lt in
    let s = outs.sound node (get_or row k d) there in
    let same : Some s.0 ≡ Some w = sym s.1 ∙ at in
    let e : s.0 ≡ w = cc in
    subst (λ (u : Edge). u.from ≡ node) e s.2

-- one more of a row
pub Visits-take : (ws : List Edge) (node count : ℕ) (marks marks' : List Bool) (order order' : List ℕ) (row : List ℕ) (k d : ℕ) → k < length row
    → Visits ws node count marks marks' order order' (take k row ++ get_or row k d ∷ []) → Visits ws node count marks marks' order order' (take (k + 1) row)
Visits-take ws node count marks marks' order order' row k d lt v = subst (Visits ws node count marks marks' order order') (sym (take_more row k d lt)) v
