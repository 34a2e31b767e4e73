-- The goals of `board::put` that the search leaves.
use Rattle.std.proofs.Common.{◌≡◌, ◌∙◌, ◌<◌, length, ap, Some, None}
use Rattle.std.specs.Prelude.{slice_get}
use Rattle.std.proofs.lemmas.Option.{slice_get-get_or}
use Rattle.materializer.proofs.Places.{is_within}
use Rattle.materializer.proofs.Put.{put_in, put_nowhere, read_at, none_of}
use Rattle.materializer.proofs.switch_board.put.Goals as goal

pub returns-in-Some : goal.returns-in-Some
returns-in-Some c =
    let places = c.args.places.now in
    let lists = c.args.lists.now.items in
    let j = c.in-Some.j in
    let place : slice_get places c.args.node ≡ Some (Some j) = slice_get-get_or places c.args.node None c.requires.within ∙ ap (λ p. Some p) c.in-Some.is in
    let room = c.requires.room j place in
    let less : j < length lists = is_within lists j room.0 room.1.0 in
    put_in _ j c.args.seat lists c.index_mut.result.now c.push_reserved.new.self place (read_at lists j c.index_mut.result.now less c.index_mut.ensures.value) c.push_reserved.ensures.capacity c.push_reserved.ensures.items

pub returns-in_default : goal.returns-in_default
returns-in_default c =
    put_nowhere _ _ _ (slice_get-get_or c.args.places.now c.args.node None c.requires.within ∙ ap (λ p. Some p) (none_of _ c.in_default.not-Some))
