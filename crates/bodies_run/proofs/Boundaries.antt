-- What an input boundary keeps between any two calls.
use Rattle.std.proofs.Common.{◌≤◌, ◌<◌, ◌+◌, ◌/◌, max, sym, subst}
use Rattle.elem_core.specs.Items.{elements}
use Rattle.lane_core.specs.Ends.{asked_in_all, ask_calls, in_size}
use Rattle.lane_core.specs.Boundary.{BoundaryKeeps}
use Rattle.lane_core.specs.Flow.{AsksByHalves}
use Rattle.lane_core.specs.declared.boundary.InputBoundary.{InputBoundary}
use Rattle.lane_core.proofs.Keeps.{carried, given_count, most, more, least, few_calls}

pub boundary_keeps : (b : InputBoundary) → BoundaryKeeps b
boundary_keeps b =
    let k = carried _ _ _ _ _ _ _ _ _ _ _ b.flow in
    let n = given_count _ _ _ _ _ _ _ _ _ _ _ b.flow in
    record {
      taken_list = k.taken_list;
      taken_end = k.taken_end;
      given_list = k.given_list;
      given_end = k.given_end;
      taken_is = k.taken_is;
      given_is = k.given_is;
      carries = k.carries;
      goes_on = k.goes_on;
      closed = k.closed;
      cancelled = b.flow.cancelled_is;
      since = b.passed;
      by_halves = subst (λ m. AsksByHalves (in_size b.lane) (max 1 (in_size b.lane / 2)) (asked_in_all b.lane) (ask_calls b.lane) m b.passed) (sym n) (subst (λ h. AsksByHalves (in_size b.lane) h (asked_in_all b.lane) (ask_calls b.lane) (elements b.gave.items) b.passed) b.halves b.asking);
      asked_for = subst (λ m. asked_in_all b.lane ≤ m + in_size b.lane) (sym n) (most _ _ _ _ _ _ b.asking);
      more = subst (λ m. m < asked_in_all b.lane) (sym n) (more _ _ _ _ _ _ b.asking b.halves b.lane.sized.0);
      least = least _ _ _ _ _ _ b.asking;
      calls = subst (λ m. ask_calls b.lane ≤ m + 1) (sym n) (few_calls _ _ _ _ _ _ b.asking);
    }
