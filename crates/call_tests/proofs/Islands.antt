-- The last of a blueprint's islands can be started.
use Rattle.std.proofs.Common.{◌≡◌, List, [], ◌∷◌, ◌++◌, length, slice_get, Some, refl, subst, sym}
use Rattle.stream_model.specs.declared.blueprint.Blueprint.{Blueprint}
use Rattle.blue_check.specs.Wires.{blueprint_wires}
use Rattle.interpreter.specs.declared.parts.Parts.{Parts}
use Rattle.interpreter.specs.declared.room.IslandRoom.{IslandRoom}
use Rattle.island_plans.specs.Plans.{IsIslandOf, IsFilled}
use Rattle.island_plans.specs.declared.plans.Filled.{Filled}

last_at : {A : Type 0} (xs : List A) (y : A) → slice_get (xs ++ y ∷ []) (length xs) ≡ Some y
last_at [] y = refl
last_at (x ∷ xs) y = last_at xs y

pub last_island : {S D L H B : Type 0} (b : Blueprint) (ss : List S) (ds : List D) (f : Filled S D L H B) (before : List (Parts S D L H B × IslandRoom S D L H B)) (x : Parts S D L H B × IslandRoom S D L H B) (h : IsFilled b ss ds f) → f.islands.items ≡ before ++ x ∷ [] → IsIslandOf f.homes.items (blueprint_wires b) f.lanes.items h.nodes (length before) x
last_island b ss ds f before x h is = h.each (length before) x (subst (λ xs. slice_get xs (length before) ≡ Some x) (sym is) (last_at before x))
