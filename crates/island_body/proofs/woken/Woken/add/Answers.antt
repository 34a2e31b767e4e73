-- The goals of `woken::Woken::add` that the search leaves.
use Rattle.std.proofs.Common.{◌≡◌, ◌<◌, ◌≤◌, ◌+◌, ◌-◌, get_or, false, length, rules, arith}
use Rattle.island_body.proofs.Wakes.{room_from, joined_from}
use Rattle.island_body.proofs.woken.Woken.add.Goals as goal

pub push_reserved-requires : goal.push_reserved-requires
push_reserved-requires c =
    let low : c.self.inside.least ≤ c.args.island = search rules in
    let high : c.args.island < c.self.inside.least + length c.self.inside.marks.items = search rules in
    let is : c.args.island ≡ c.self.inside.least + (c.args.island - c.self.inside.least) = omega (arith, low) in
    let within : c.args.island - c.self.inside.least < length c.self.inside.marks.items = omega (arith, low, high) in
    let free : get_or c.self.inside.marks.items (c.args.island - c.self.inside.least) false ≡ false = search rules in
    search (rules, room_from _ _ _ _ _ _ is c.self.invariant within free)

pub invariant_of-self : goal.invariant_of-self
invariant_of-self c =
    let low : c.self.inside.least ≤ c.args.island = search rules in
    let high : c.args.island < c.self.inside.least + length c.self.inside.marks.items = search rules in
    let is : c.args.island ≡ c.self.inside.least + (c.args.island - c.self.inside.least) = omega (arith, low) in
    let within : c.args.island - c.self.inside.least < length c.self.inside.marks.items = omega (arith, low, high) in
    let free : get_or c.self.inside.marks.items (c.args.island - c.self.inside.least) false ≡ false = search rules in
    rw (c.push_reserved.ensures.items, c.push_reserved.ensures.capacity) (joined_from _ _ _ _ _ _ is c.self.invariant within free)

pub returns-clause-once : goal.returns-clause-once
returns-clause-once c =
    let low : c.self.inside.least ≤ c.args.island = search rules in
    let high : c.args.island < c.self.inside.least + length c.self.inside.marks.items = search rules in
    let is : c.args.island ≡ c.self.inside.least + (c.args.island - c.self.inside.least) = omega (arith, low) in
    let within : c.args.island - c.self.inside.least < length c.self.inside.marks.items = omega (arith, low, high) in
    let free : get_or c.self.inside.marks.items (c.args.island - c.self.inside.least) false ≡ false = search rules in
    rw c.push_reserved.ensures.items (joined_from _ _ _ _ _ _ is c.self.invariant within free).marked.distinct
