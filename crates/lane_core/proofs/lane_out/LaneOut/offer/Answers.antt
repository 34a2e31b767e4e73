use Rattle.std.proofs.Common.{arith, ap, ◌∙◌, ◌≡◌, ◌+◌, subst, cond, length, sym}
use Rattle.lane_core.specs.Lane.{weight, empty_hand, HasSent}
use Rattle.lane_core.proofs.Calls.{sent_elements, sent_length, sent_hand, sent_front, sent_all}
use Rattle.lane_core.proofs.lane_out.LaneOut.offer.Goals.{After-announce}
use Rattle.lane_core.proofs.lane_out.LaneOut.offer.Goals as goal

has : (c : After-announce) → HasSent c.args.self.now.size c.args.self.now.seat.me c.args.item c.announce.new.seat.me
has c = subst (λ k. HasSent k c.args.self.now.seat.me c.args.item c.announce.new.seat.me) (ap (λ t. t.shared.key) c.deref.ensures ∙ c.args.self.now.same_table.1) c.announce.ensures.1

has-2 : (c : goal.After-next_place-self) → HasSent c.args.self.now.size c.args.self.now.seat.me c.args.item c.announce-2.new.seat.me
has-2 c = subst (λ k. HasSent k c.args.self.now.seat.me c.args.item c.announce-2.new.seat.me) (ap (λ t. t.shared.key) c.deref-2.ensures ∙ c.args.self.now.same_table.1) c.announce-2.ensures.1

light : (c : After-announce) → weight c.args.item ≡ 0
light c = c.is_end.ensures.1 ∙ ap (λ b. cond b 0 1) c.if-is_end.true

heavy : (c : goal.After-next_place-self) → weight c.args.item ≡ 1
heavy c = c.is_end.ensures.1 ∙ ap (λ b. cond b 0 1) c.if-is_end.false

pub invariant_of-self-clause-role : goal.invariant_of-self-clause-role
invariant_of-self-clause-role c = let o = c.args.self.now in let t = has c in (ap (λ a. a.0.sends) t ∙ o.role.0, ap (λ a. a.0.gets) t ∙ o.role.1)

pub invariant_of-self-clause-count : goal.invariant_of-self-clause-count
invariant_of-self-clause-count c =
    let o = c.args.self.now in
    let t = has c in
    let w = light c in
    let e = sent_elements o.size o.seat.me c.announce.new.seat.me c.args.item t in
    let l = sent_length o.size o.seat.me c.announce.new.seat.me c.args.item t in
    let unended : length o.seat.me.0.items ≡ o.used + 0 = o.count.1 ∙ ap (λ b. o.used + cond b 1 0) c.requires.0 in
    let u = o.count.0 in
    (omega (arith, e, u, w), omega (arith, l, unended))

pub invariant_of-self-clause-seen_is : goal.invariant_of-self-clause-seen_is
invariant_of-self-clause-seen_is c = let o = c.args.self.now in let t = has c in (ap (λ a. a.0.number) t ∙ o.seen_is.0, ap (λ a. a.0.cancel) t ∙ o.seen_is.1, o.seen_is.2)

pub invariant_of-self-clause-hand : goal.invariant_of-self-clause-hand
invariant_of-self-clause-hand c =
    let o = c.args.self.now in
    let unended : length o.seat.me.0.items ≡ o.used + 0 = o.count.1 ∙ ap (λ b. o.used + cond b 1 0) c.requires.0 in
    sent_hand o.size 0 (o.used + 1) o.seat.me c.announce.new.seat.me c.args.item (has c) (light c) (omega (arith, unended))

pub invariant_of-self-2-clause-role : goal.invariant_of-self-2-clause-role
invariant_of-self-2-clause-role c = let o = c.args.self.now in let t = has-2 c in (ap (λ a. a.0.sends) t ∙ o.role.0, ap (λ a. a.0.gets) t ∙ o.role.1)

pub invariant_of-self-2-clause-count : goal.invariant_of-self-2-clause-count
invariant_of-self-2-clause-count c =
    let o = c.args.self.now in
    let t = has-2 c in
    let w = heavy c in
    let e = sent_elements o.size o.seat.me c.announce-2.new.seat.me c.args.item t in
    let l = sent_length o.size o.seat.me c.announce-2.new.seat.me c.args.item t in
    let u = o.count.0 in
    let k = o.count.1 in
    (omega (arith, e, u, w), omega (arith, l, k))

pub invariant_of-self-2-clause-seen_is : goal.invariant_of-self-2-clause-seen_is
invariant_of-self-2-clause-seen_is c =
    let o = c.args.self.now in
    let t = has-2 c in
    let room = o.seen_is.2 in
    let ne = c.if-self.false in
    (ap (λ a. a.0.number) t ∙ o.seen_is.0, ap (λ a. a.0.cancel) t ∙ o.seen_is.1, omega (arith, room, ne))

pub invariant_of-self-2-clause-hand : goal.invariant_of-self-2-clause-hand
invariant_of-self-2-clause-hand c =
    let o = c.args.self.now in
    let l : length o.seat.me.0.items ≡ o.used + 0 = o.count.1 ∙ ap (λ b. o.used + cond b 1 0) c.requires.0 in
    let on : length o.seat.me.0.items + 1 ≡ o.used + 1 = omega (arith, l) in
    let unended : cond o.ended 0 1 ≡ 1 = ap (λ b. cond b 0 1) c.requires.0 in
    let next = c.next_place-self.ensures o.used o.next in
    let hand = sent_hand o.size (cond o.ended 0 1) (o.used + 1) o.seat.me c.announce-2.new.seat.me c.args.item (has-2 c) (heavy c ∙ sym unended) on in
    (hand.0, hand.1 ∙ ap (empty_hand (cond o.ended 0 1)) (sym next))

pub invariant_of-self-clause-all_elements : goal.invariant_of-self-clause-all_elements
invariant_of-self-clause-all_elements c =
    let o = c.args.self.now in
    let l : length o.seat.me.0.items ≡ o.used + 0 = o.count.1 ∙ ap (λ b. o.used + cond b 1 0) c.requires.0 in
    sent_front o.size o.used o.seat.me c.announce.new.seat.me c.args.item (has c) (omega (arith, l)) o.count.0

pub invariant_of-self-2-clause-all_elements : goal.invariant_of-self-2-clause-all_elements
invariant_of-self-2-clause-all_elements c =
    let o = c.args.self.now in
    let t = has-2 c in
    let w = heavy c in
    let e = sent_elements o.size o.seat.me c.announce-2.new.seat.me c.args.item t in
    let k = sent_length o.size o.seat.me c.announce-2.new.seat.me c.args.item t in
    let u = o.count.0 in
    let l : length o.seat.me.0.items ≡ o.used + 0 = o.count.1 ∙ ap (λ b. o.used + cond b 1 0) c.requires.0 in
    sent_all (o.used + 1) c.announce-2.new.seat.me.0.items (omega (arith, k, l)) (omega (arith, e, u, w))
