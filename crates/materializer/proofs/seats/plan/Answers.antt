-- The goals of `seats::plan` that the search leaves.
use Rattle.std.proofs.Common.{◌∙◌, ◌≡◌, [], Some, map, refl, subst, sym, ap, arith}
use Rattle.materializer.specs.Choosers.{PlanFits, moves_of}
use Rattle.materializer.specs.Graphs.{graph_chain}
use Rattle.materializer.proofs.Leading.{led_may, followed_plan, follows_plan, seat_stays, types_stay}
use Rattle.materializer.proofs.seats.plan.Goals as goal

pub led-requires : goal.led-requires
led-requires g c = led_may (record { chains = map graph_chain c.args.chains.now; wires = [] }) c.args.k c.args.node c.in_ok-planned.planned c.args.moves (c.in_ok-planned.ensures.free c.args.node refl refl) c.requires.follows

pub returns-clause-planned : goal.returns-clause-planned
returns-clause-planned g c = λ wires ports. record {
  node = refl;
  planned = followed_plan (record { chains = map graph_chain c.args.chains.now; wires = wires }) c.args.k c.args.node c.in_ok-planned.planned c.led.result (moves_of c.args.moves) (c.in_ok-planned.ensures.planned wires c.args.node refl refl ports) c.led.ensures;
}

pub returns-clause-seat : goal.returns-clause-seat
returns-clause-seat g c = seat_stays (moves_of c.args.moves) c.in_ok-planned.planned c.led.result c.led.ensures ∙ c.in_ok-planned.ensures.seat

pub returns-clause-plan : goal.returns-clause-plan
returns-clause-plan g c = follows_plan (record { chains = map graph_chain c.args.chains.now; wires = [] }) c.args.k c.args.node c.in_ok-planned.planned c.led.result (moves_of c.args.moves) (c.in_ok-planned.ensures.free c.args.node refl refl) c.led.ensures

pub returns-clause-types : goal.returns-clause-types
returns-clause-types g c = types_stay (moves_of c.args.moves) c.in_ok-planned.planned c.led.result c.led.ensures ∙ c.in_ok-planned.ensures.types
