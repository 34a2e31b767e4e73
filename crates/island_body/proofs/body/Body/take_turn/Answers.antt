-- The goals of `body::Body::take_turn` that the search leaves.
use Rattle.std.proofs.Common.{◌≡◌, ◌<◌, ◌⊎◌, inl, refl, true, false}
use Rattle.lane_core.proofs.Each.{if_then}
use Rattle.island_body.specs.Keeping.{is_pending}
use Rattle.island_body.specs.Moving.{HasLooked}
use Rattle.island_body.proofs.body.Body.take_turn.Goals as goal

pub returns-clause-found : goal.returns-clause-found
returns-clause-found g c =
    if_then c.turn_by.result
    (λ used. used < c.args.limit → (false ≡ false) ⊎ (is_pending c.turn_by.new.self ≡ false) → HasLooked c.args.self.now c.turn_by.new.self)
    (λ used. used < c.args.limit → HasLooked c.args.self.now c.turn_by.new.self)
    (λ n h less. h less (inl refl)) c.turn_by.ensures.found
