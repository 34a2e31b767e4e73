use Rattle.std.proofs.Common.{rules, ap, ◌∙◌, ℕ, subst}
use Rattle.lane_core.specs.Lane.{HasTaken}
use Rattle.lane_core.proofs.Calls.{taken_count, taken_bound, taken_hand, taken_elements}
use Rattle.lane_core.proofs.lane_in.LaneIn.take.Goals as goal

got : (c : goal.After-next_place-self) → (r : ℕ) × HasTaken c.args.self.now.size c.args.self.now.seat.me c.in-Some.item r c.fetch.new.seat.me
got c =
    let t = c.in-Some.ensures.some in
    (t.0, subst (λ k. HasTaken k c.args.self.now.seat.me c.in-Some.item t.0 c.fetch.new.seat.me) (ap (λ t. t.shared.key) c.deref.ensures ∙ c.args.self.now.same_table.1) t.1)

pub overflow_add-self : goal.overflow_add-self
overflow_add-self c = let b = c.in-Some.ensures.below in search (rules, b)

pub invariant_of-self-in-Some-clause-role : goal.invariant_of-self-in-Some-clause-role
invariant_of-self-in-Some-clause-role c = let o = c.args.self.now in let t = got c in (ap (λ a. a.0.gets) t.1 ∙ o.role.0, ap (λ a. a.0.sends) t.1 ∙ o.role.1)

pub invariant_of-self-in-Some-clause-count : goal.invariant_of-self-in-Some-clause-count
invariant_of-self-in-Some-clause-count c = let o = c.args.self.now in let t = got c in taken_count o.size t.0 o.taken o.seat.me c.fetch.new.seat.me c.in-Some.item t.1 o.count

pub invariant_of-self-in-Some-clause-asked_is : goal.invariant_of-self-in-Some-clause-asked_is
invariant_of-self-in-Some-clause-asked_is c =
    let o = c.args.self.now in
    let t = got c in
    (ap (λ a. a.0.number) t.1 ∙ o.asked_is.0, ap (λ a. a.0.cancel) t.1 ∙ o.asked_is.1, taken_bound o.size t.0 o.asked o.seat.me c.fetch.new.seat.me c.in-Some.item t.1 o.asked_is.2, o.asked_is.3)

pub invariant_of-self-in-Some-clause-hand : goal.invariant_of-self-in-Some-clause-hand
invariant_of-self-in-Some-clause-hand c = let o = c.args.self.now in let t = got c in taken_hand o.size t.0 o.seat.me c.fetch.new.seat.me c.in-Some.item t.1

pub returns-in-Some-clause-counts : goal.returns-in-Some-clause-counts
returns-in-Some-clause-counts c = let t = c.in-Some.ensures.some in taken_elements c.deref.result.now.shared.key t.0 c.args.self.now.seat.me c.fetch.new.seat.me c.in-Some.item t.1
