-- The numbers of islands are in the order of their least nodes.
use Rattle.std.proofs.Common.{◌≡◌, ℕ, ◌<◌, ◌≤◌, List, length, refl, sym, ◌∙◌, subst, arith}
use Rattle.std.specs.Prelude.{is_none, slice_index}
use Rattle.std.specs.List.{filter}
use Rattle.blue_names.specs.declared.links.NumberedWire.{NumberedWire}
use Rattle.blue_names.specs.Links.{wires_of_links}
use Rattle.blue_check.specs.Homes.{AreNumbered}
use Rattle.blue_check.specs.Labels.{AreLabels}
use Rattle.blue_check.specs.Plan.{AreHomes}
use Rattle.blue_check.proofs.Planning.{homes_below}
use Rattle.island_plans.specs.Homes.{AreNumberedHomes}

-- labels of the wires without a lane, as code reads them
pub labels_read : (nodes : ℕ) (links fused told : List NumberedWire) (labels seen : List ℕ) → told ≡ fused → fused ≡ filter (λ (l : NumberedWire). is_none l.lane) links → seen ≡ labels → AreLabels (wires_of_links told) nodes labels
    → AreLabels (wires_of_links (filter (λ (l : NumberedWire). is_none l.lane) links)) nodes seen
labels_read nodes links fused told labels seen a b c is =
    subst (λ xs. AreLabels (wires_of_links (filter (λ (l : NumberedWire). is_none l.lane) links)) nodes xs) (sym c) (subst (λ ls. AreLabels (wires_of_links ls) nodes labels) (a ∙ b) is)

pub numbered_homes : (nodes : ℕ) (links : List NumberedWire) (labels homes firsts : List ℕ) (count : ℕ) → AreHomes nodes (wires_of_links links) homes → AreNumbered labels homes firsts → count ≡ length firsts → AreNumberedHomes nodes count (wires_of_links links) homes
numbered_homes nodes links labels homes firsts count are n many = record {
  are = are;
  below = homes_below labels homes firsts homes count n refl many;
  some = λ k lt.
      let f = n.first k (omega (arith, lt, many)) in
      let each : length homes ≡ nodes = are.each in
      (slice_index firsts k, (omega (arith, f.0, each), f.1));
  in_order = λ a k lt less.
      let each : length homes ≡ nodes = are.each in
      let here : slice_index homes a < length firsts = n.here a (omega (arith, lt, each)) in
      let rise : slice_index firsts k < slice_index firsts (slice_index homes a) = n.rising k (slice_index homes a) less here in
      let least : slice_index firsts (slice_index homes a) ≤ a = n.least a (omega (arith, lt, each)) in
      let f = n.first k (omega (arith, less, here)) in
      (slice_index firsts k, (omega (arith, rise, least), f.1));
}
