-- The laws of the islands of a blueprint.
use Rattle.std.proofs.Common.{◌≡◌, ◌<◌, ℕ, Some, length, refl, subst, arith}
use Rattle.std.specs.Prelude.{slice_get}
use Rattle.std.proofs.lemmas.Option.{slice_get_within}
use Rattle.stream_model.specs.Graph.{Edge}
use Rattle.fused_net.specs.declared.net.WireEnds.{WireEnds}
use Rattle.island_parts.proofs.Wholes.{all_parts, places_whole}
use Rattle.island_parts.proofs.laws.islands_have_parts.Goals as goal

pub returns-clause-parts : goal.returns-clause-parts
returns-clause-parts g c = λ homes ws nodes k each inside are few.
    let within : (i : ℕ) (v : Edge) → slice_get ws i ≡ Some v → i < length are.ends = λ i v at. (let lt : i < length ws = slice_get_within ws i v at in omega (arith, lt, are.each_wire)) in
    all_parts homes ws nodes (length nodes) refl each (λ i v at. subst (λ (e : WireEnds). e.from < length nodes) (are.ends_are i v at) (are.wiring.from_within i (within i v at)))
    (λ i v at. subst (λ (e : WireEnds). e.to < length nodes) (are.ends_are i v at) (are.wiring.to_within i (within i v at))) inside.inside are.no_ends are.ends are.wiring are.each_wire are.ends_are are.unused few k

pub returns-clause-places : goal.returns-clause-places
returns-clause-places g c = λ nodes lanes. places_whole nodes lanes
