use Rattle.stage_sub.proofs.places.add_place.Goals as goal

pub returns : goal.returns
returns c = λ k. c.in_ok-insert.ensures.updates.0 k
