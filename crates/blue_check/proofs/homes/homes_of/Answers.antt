use Rattle.std.proofs.Common.{◌≡◌, length, refl, sym, ◌∙◌, subst, arith, rules}
use Rattle.blue_check.proofs.Numbering.{Numbering, Numbering-more, same_table, numbered}
use Rattle.blue_check.proofs.Planning.{AreHomes-numbered}
use Rattle.blue_check.proofs.homes.homes_of.Goals as goal

pub loop-node-preserved : goal.loop-node-preserved
loop-node-preserved c =
    let v = c.loop-node.invariant in
    let homes = c.loop-node.homes in
    let table = c.loop-node.numbers in
    let table' = c.home_of.new.numbers in
    let done = c.in_ok-home.ensures in
    let same : length table'.items ≡ length table.items = same_table _ _ _ _ _ _ _ done in
    let more = Numbering-more c.args.labels.now homes.items c.loop-node.firsts.items c.home_of.new.firsts.items table.items table'.items _ c.loop-node.node c.in_ok-home.home v.numbering (sym v.each ∙ homes.ok.0) refl done in
    record {
      each = omega (arith, v.each, c.in_ok-push.ensures.len);
      table = omega (arith, same, v.table, table.ok.0, table'.ok.0);
      numbering = subst (λ hs. Numbering c.args.labels.now hs c.home_of.new.firsts.items table'.items) (sym c.in_ok-push.ensures.items) more;
    }

pub returns-clause-homes : goal.returns-clause-homes
returns-clause-homes c = λ count links are range.
    let v = c.loop-node.invariant in
    let homes = c.loop-node.homes in
    let labels = c.args.labels.now in
    let long : length homes.items ≡ length labels = search (rules, arith) in
    AreHomes-numbered count links labels homes.items c.loop-node.firsts.items are (numbered labels homes.items c.loop-node.firsts.items c.loop-node.numbers.items v.numbering) long range
