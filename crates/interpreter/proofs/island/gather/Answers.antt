-- The goals of `island::gather` that the search leaves.
use Rattle.std.proofs.Common.{◌≡◌, length, refl, rules}
use Rattle.std.specs.Vec.Iter.{into_iter_items, into_iter_len}
use Rattle.interpreter.proofs.Gathering.{gathers_first, gathers_next, gathers_last}
use Rattle.interpreter.proofs.island.gather.Goals as goal

pub loop-node-init : goal.loop-node-init
loop-node-init g c =
    let r = c.into_iter-node-iterator.result in
    let all : into_iter_items r ≡ c.args.nodes.items = search rules in
    let left : into_iter_len r ≡ length (into_iter_items r) = search rules in (
      tt,
      tt,
      gathers_first c.args.nodes.items _ c.args.end (into_iter_items r) (into_iter_len r) _ all left c.args.nodes.ok.0 c.requires.places c.requires.no_sinks c.requires.no_picks c.requires.no_seats c.requires.no_readers c.requires.no_writers c.requires.no_misfit c.requires.room,
    )

pub loop-node-preserved : goal.loop-node-preserved
loop-node-preserved g c =
    let a = c.add.ensures in (
      tt,
      tt,
      gathers_next _ _ _ _ _ _ _ _ _ _ _ _ _ c.loop-node.invariant.2 c.in-Some.ensures.steps.0 c.in-Some.ensures.steps.1 refl refl
          (record { sinks = a.sinks; picks = a.picks; seats = a.seats; misfit = a.misfit; readers = a.readers; writers = a.writers; wires = a.wires; room = a.room }),
    )

pub returns : goal.returns
returns g c =
    let all = gathers_last _ _ _ _ _ _ _ c.loop-node.invariant.2 c.in-None.ensures.steps.0 in
    record { sinks = all.0; picks = all.1.0; misfit = all.1.1.1.1.1.1; seats = all.1.1.0; readers = all.1.1.1.0; writers = all.1.1.1.1.0; wires = all.1.1.1.1.1.0 }
