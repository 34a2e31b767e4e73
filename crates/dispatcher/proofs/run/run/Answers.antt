-- The goals of `run::run` that the search leaves.
use Rattle.std.proofs.Common.{arith, sym, subst}
use Rattle.lane_core.specs.Bodies.{AllOf, EachOf, BrokeOff}
use Rattle.lane_core.specs.Crossings.{AreCrossings, AllJoined, FirstEvent}
use Rattle.lane_core.proofs.Each.{each_on, broke_after}
use Rattle.dispatcher.specs.Broken.{WholeOrBroken}
use Rattle.dispatcher.proofs.Lists.{taken_whole}
use Rattle.dispatcher.proofs.Taking.{went_goes, went_keeps, either_met, whole_broke, crossings_either, not_false}
use Rattle.dispatcher.proofs.run.run.Goals as goal

pub settled-requires : goal.settled-requires
settled-requires g c =
    let t = g.B.Turning in let m = (g.met.B.Turning g.world.𝓛 g.world.𝓜 g.world.𝓡 ((λ s x. x), (λ x. x), (λ x. x), λ x. x)) in let left = c.run_workers-bodies in
    record { lanes = crossings_either t.keeps t.goes t.breaks g.B.Meet.may_meet m.meet_goes_out m.meet_goes_inp m.meet_breaks_out m.meet_breaks_inp c.args.bodies.items left.result.bodies.items c.args.lanes.now left.ensures.each c.requires.lanes }

pub returns-then-lack-clause-broke : goal.returns-then-lack-clause-broke
returns-then-lack-clause-broke g c =
    let t = g.B.Turning in let m = (g.met.B.Turning g.world.𝓛 g.world.𝓜 g.world.𝓡 ((λ s x. x), (λ x. x), (λ x. x), λ x. x)) in let left = c.run_workers-bodies in
    either_met t.keeps t.goes t.breaks t.stands m.goes_on m.breaks_stands m.keeps_stands c.args.bodies.items left.result.bodies.items c.settled.result.items left.ensures.each c.settled.ensures.stands c.settled.ensures.goes

pub go_on-requires-clause-keeps : goal.go_on-requires-clause-keeps
go_on-requires-clause-keeps g c =
    let t = g.B.Turning in let left = c.run_workers-bodies in
    subst (AllOf t.keeps) (sym c.as_mut_slice.ensures.value) (went_keeps t.keeps t.goes t.breaks c.args.bodies.items left.result.bodies.items (left.ensures.whole c.if-lack.false))

pub go_on-requires-clause-lanes : goal.go_on-requires-clause-lanes
go_on-requires-clause-lanes g c =
    let t = g.B.Turning in let m = (g.met.B.Turning g.world.𝓛 g.world.𝓜 g.world.𝓡 ((λ s x. x), (λ x. x), (λ x. x), λ x. x)) in let left = c.run_workers-bodies in
    subst (λ l. AreCrossings g.B.Meet.may_meet l c.args.lanes.now) (sym c.as_mut_slice.ensures.value)
    (crossings_either t.keeps t.goes t.breaks g.B.Meet.may_meet m.meet_goes_out m.meet_goes_inp m.meet_breaks_out m.meet_breaks_inp c.args.bodies.items left.result.bodies.items c.args.lanes.now left.ensures.each c.requires.lanes)

pub returns-in_default-clause-broke : goal.returns-in_default-clause-broke
returns-in_default-clause-broke g c =
    let t = g.B.Turning in let m = (g.met.B.Turning g.world.𝓛 g.world.𝓜 g.world.𝓡 ((λ s x. x), (λ x. x), (λ x. x), λ x. x)) in let left = c.run_workers-bodies in
    let old = c.args.bodies.items in let bodies = left.result.bodies in let new = c.go_on.new.bodies in let broke = subst (λ l. BrokeOff t.keeps t.goes t.breaks l new) c.as_mut_slice.ensures.value c.in_default.ensures.broke in let count = broke.count in
    let went = went_goes t.keeps t.goes t.breaks old bodies.items (left.ensures.whole c.if-lack.false) in
    subst (λ l. WholeOrBroken t.keeps t.goes t.breaks old l) (sym (taken_whole bodies.len new _ (omega (arith, bodies.ok, count))))
    (whole_broke t.keeps t.goes t.breaks old new (broke_after t.keeps t.goes t.breaks m.goes_on m.goes_breaks old bodies.items new went broke))

pub returns-clause-goes : goal.returns-clause-goes
returns-clause-goes g c =
    let t = g.B.Turning in let m = (g.met.B.Turning g.world.𝓛 g.world.𝓜 g.world.𝓡 ((λ s x. x), (λ x. x), (λ x. x), λ x. x)) in let left = c.run_workers-bodies in
    let old = c.args.bodies.items in let bodies = left.result.bodies in let new = c.go_on.new.bodies in let goes = subst (λ l. EachOf t.goes l new) c.as_mut_slice.ensures.value c.in-Ok.ensures.goes in let count = goes.count in
    let went = went_goes t.keeps t.goes t.breaks old bodies.items (left.ensures.whole c.if-lack.false) in
    subst (λ l. EachOf t.goes old l) (sym (taken_whole bodies.len new _ (omega (arith, bodies.ok, count)))) (each_on t.goes t.goes t.goes m.goes_on old bodies.items new went goes)

pub returns-clause-joined : goal.returns-clause-joined
returns-clause-joined g c =
    let t = g.B.Turning in let bodies = c.run_workers-bodies.result.bodies in let count = c.in-Ok.ensures.goes.count in
    subst (λ l. AllJoined t.joined l c.args.lanes.now) (sym (taken_whole bodies.len c.go_on.new.bodies _ (omega (arith, bodies.ok, count)))) c.in-Ok.ensures.joined

pub returns-clause-more : goal.returns-clause-more
returns-clause-more g c = λ more.
    let t = g.B.Turning in let bodies = c.run_workers-bodies.result.bodies in let count = c.in-Ok.ensures.goes.count in
    let end = c.in-Ok.ensures.more (not_false c.in-Ok.end.at_rest more) in
    (end.0, (end.1.0, subst (λ l. FirstEvent t.pending t.joined l c.args.lanes.now end.1.0) (sym (taken_whole bodies.len c.go_on.new.bodies _ (omega (arith, bodies.ok, count)))) end.1.1))
