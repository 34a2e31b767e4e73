use Rattle.std.proofs.Common.{rules, ◌<◌, length, refl, sym, ap, subst}
use Rattle.lane_core.specs.Ends.{taken_items}
use Rattle.lane_core.specs.Lane.{weight}
use Rattle.lane_core.proofs.Flows.{took_elem, dropped_elem, took_end, place, at_lane, behind, pending_end, none_behind, one_behind, end_behind}
use Rattle.lane_core.proofs.boundary.InputBoundary.look.Goals as goal

pub hold-requires : goal.hold-requires
hold-requires c =
    subst (λ n. length c.args.self.now.buffer.items < n) (sym c.args.self.now.wide)
    (place _ _ _ _ _ _ _ _ _ _ _ c.args.self.now.flow _ _ _ _ c.args.self.now.asking (taken_items c.take.new.self) _ _ c.in-Some-Elem.ensures.counts (ap weight c.in-Some-Elem.field-0-is) c.in-Some-Elem.ensures.few c.in-Some-Elem.ensures.lane.1)

pub invariant_of-self-in-Flowing-clause-flow : goal.invariant_of-self-in-Flowing-clause-flow
invariant_of-self-in-Flowing-clause-flow c =
    at_lane _ _ _ _ _ _ _ _ _ _ _ _ _ _ c.in-Some-Elem.ensures.lane.0.1 refl c.in-Some-Elem.ensures.lane.3
    (took_elem _ _ _ _ _ _ _ _ _ _ _ c.args.self.now.flow c.in-Some-Elem.e _ _ c.in-Flowing.is c.if-self.false
    (place _ _ _ _ _ _ _ _ _ _ _ c.args.self.now.flow _ _ _ _ c.args.self.now.asking (taken_items c.take.new.self) _ _ c.in-Some-Elem.ensures.counts (ap weight c.in-Some-Elem.field-0-is) c.in-Some-Elem.ensures.few c.in-Some-Elem.ensures.lane.1)
    (behind _ _ _ _ c.in-Some-Elem.ensures.some c.in-Some-Elem.field-0-is) c.hold.ensures.0)

pub invariant_of-self-in_default-clause-flow : goal.invariant_of-self-in_default-clause-flow
invariant_of-self-in_default-clause-flow c =
    at_lane _ _ _ _ _ _ _ _ _ _ _ _ _ _ c.in-Some-Elem.ensures.lane.0.1 refl c.in-Some-Elem.ensures.lane.3
    (dropped_elem _ _ _ _ _ _ _ _ _ _ _ c.args.self.now.flow c.in-Some-Elem.e _ _ c.in_default.not-Flowing c.if-self.false
    (behind _ _ _ _ c.in-Some-Elem.ensures.some c.in-Some-Elem.field-0-is) c.drop_one.ensures)

pub invariant_of-self-in-Some-clause-flow : goal.invariant_of-self-in-Some-clause-flow
invariant_of-self-in-Some-clause-flow c =
    at_lane _ _ _ _ _ _ _ _ _ _ _ _ _ _ c.in-Some.ensures.lane.0.1 refl c.in-Some.ensures.lane.3
    (took_end _ _ _ _ _ _ _ _ _ _ _ c.args.self.now.flow c.in-Some.end _ _ _ _ _ (search rules) c.if-self.false c.in-Some.ensures.some c.and.ensures c.end_with.ensures.normal c.end_with.ensures.failure
    (pending_end _ _ _ _ _ _ _ _ _ _ _ c.args.self.now.flow c.in-Some.end _ _ c.if-self.false c.and.ensures c.end_with.ensures.flows c.end_with.ensures.stays))

pub returns-in-Flowing-clause-behind : goal.returns-in-Flowing-clause-behind
returns-in-Flowing-clause-behind c = λ e t. one_behind _ _ c.in-Some-Elem.e c.hold.ensures.0 (none_behind _ _ _ _ _ _ _ _ _ _ _ c.args.self.now.flow t)

pub returns-in-Some : goal.returns-in-Some
returns-in-Some c = record {
  lane = search rules;
  given = search rules;
  took = search rules;
  still = search rules;
  none = search rules;
  over = search rules;
  told = search rules;
  behind = λ e t. end_behind c.args.self.now.keep c.in-Some.end _ _ _ _ c.end_with.ensures.normal c.end_with.ensures.failure (none_behind _ _ _ _ _ _ _ _ _ _ _ c.args.self.now.flow t);
}
