-- The goals of `lane_ends::list_ins` that the search leaves.
use Rattle.std.proofs.Common.{◌≡◌, ◌∙◌, length, refl, rules, arith}
use Rattle.std.proofs.lemmas.Option.{slice_get-get_or}
use Rattle.interpreter.specs.declared.parts.Link.{Link}
use Rattle.interpreter.specs.Ways.{comes_in}
use Rattle.interpreter.proofs.Listing.{lists_none, lists_step, ins_whole}
use Rattle.interpreter.proofs.lane_ends.list_ins.Goals as goal

pub loop-q-init : goal.loop-q-init
loop-q-init g c = (lists_none (λ (l : Link). comes_in c.args.works.now l.from) c.args.links.now _ c.requires.empty, refl)

pub list_one-requires : goal.list_one-requires
list_one-requires g c =
    let few = c.loop-q.invariant.0.few in
    let stay = c.loop-q.invariant.1 in
    let room = c.requires.room in
    let below = c.loop-q-test.true in
    let many = c.loop-q.lanes.ok.0 in
    omega (arith, few, stay, room, below, many)

pub loop-q-preserved : goal.loop-q-preserved
loop-q-preserved g c = (
  lists_step (λ (l : Link). comes_in c.args.works.now l.from) c.args.links.now c.requires.once.ins _ _ c.loop-q.q _ c.comes_in.result (slice_get-get_or c.args.links.now c.loop-q.q _ c.loop-q-test.true) c.comes_in.ensures c.list_one.ensures.items c.loop-q.invariant.0,
  c.list_one.ensures.stay ∙ c.loop-q.invariant.1,
)

pub returns : goal.returns
returns g c = let all : c.loop-q.q ≡ length c.args.links.now = search rules in ins_whole c.args.works.now c.args.links.now _ c.loop-q.q all c.loop-q.invariant.0
