-- The goals of `make::make_all` that the search leaves.
use Rattle.std.proofs.Common.{◌≡◌, length, ap, sym, arith, rules}
use Rattle.std.specs.Vec.Iter.{into_iter_items, into_iter_len}
use Rattle.island_plans.proofs.Making.{each_first, each_next, fewer, none_left, behind_at, one_there, beside_first, beside_next, going_first, going_next, going_size}
use Rattle.island_plans.proofs.Bodies.{MadeAt, PeersAt, made_at, peers_at, all_made, all_have}
use Rattle.island_plans.proofs.body_make.make_all.Goals as goal

pub loop-island-init : goal.loop-island-init
loop-island-init g c =
    let r = c.into_iter-island-iterator.result in
    let t = c.into_iter-takers.result in
    let s = c.into_iter-senders.result in
    let b = c.into_iter-blanks.result in
    let p = c.into_iter-others.result in
    let all : into_iter_items r ≡ c.args.islands.items = search rules in
    let all_ins : into_iter_items t ≡ c.args.ins.items = search rules in
    let all_outs : into_iter_items s ≡ c.args.outs.items = search rules in
    let all_peers : into_iter_items p ≡ c.args.peers.items = search rules in
    let left_peers : into_iter_len p ≡ length (into_iter_items p) = search rules in
    let all_tables : into_iter_items b ≡ c.args.tables.items = search rules in
    let left : into_iter_len r ≡ length (into_iter_items r) = search rules in
    let left_ins : into_iter_len t ≡ length (into_iter_items t) = search rules in
    let left_outs : into_iter_len s ≡ length (into_iter_items s) = search rules in
    let left_tables : into_iter_len b ≡ length (into_iter_items b) = search rules in
    let size : length (into_iter_items r) ≡ length c.args.islands.items = ap length all in
    let none : length c.args.bodies.items ≡ 0 = ap length c.requires.none_made in (
      tt,
      tt,
      left,
      omega (arith, none, left, size, c.args.bodies.ok.0, c.args.islands.ok.0, c.requires.room),
      left_ins,
      left_outs,
      left_tables,
      beside_first _ _ c.args.bodies.items all_ins c.requires.none_made,
      beside_first _ _ c.args.bodies.items all_outs c.requires.none_made,
      beside_first _ _ c.args.bodies.items all_tables c.requires.none_made,
      going_first (MadeAt g.S.Source.state g.D.Drain.state g.B.PlugBook.lists c.args.islands.items c.args.ins.items c.args.outs.items) c.args.islands.items _ _ all c.requires.none_made,
      left_peers,
      beside_first _ _ c.args.bodies.items all_peers c.requires.none_made,
      each_first (PeersAt c.args.peers.items) c.args.bodies.items c.requires.none_made,
    )

pub first-table-requires : goal.first-table-requires
first-table-requires g c =
    let kept = c.loop-island.invariant in
    record { len = kept.6; some = one_there c.args.islands.items _ _ _ c.args.tables.items _ _ _ kept.10.behind c.in-Some.ensures.steps.0 kept.9 c.requires.begin.tables_many kept.6 }

pub first-takes-requires : goal.first-takes-requires
first-takes-requires g c =
    let kept = c.loop-island.invariant in
    record { len = kept.4; some = one_there c.args.islands.items _ _ _ c.args.ins.items _ _ _ kept.10.behind c.in-Some.ensures.steps.0 kept.7 c.requires.begin.ins_many kept.4 }

pub first-sends-requires : goal.first-sends-requires
first-sends-requires g c =
    let kept = c.loop-island.invariant in
    record { len = kept.5; some = one_there c.args.islands.items _ _ _ c.args.outs.items _ _ _ kept.10.behind c.in-Some.ensures.steps.0 kept.8 c.requires.begin.outs_many kept.5 }

pub first-peers-requires : goal.first-peers-requires
first-peers-requires g c =
    let kept = c.loop-island.invariant in
    record { len = kept.11; some = one_there c.args.islands.items _ _ _ c.args.peers.items _ _ _ kept.10.behind c.in-Some.ensures.steps.0 kept.12 c.requires.begin.peers_many kept.11 }

pub new-requires : goal.new-requires
new-requires g c =
    let kept = c.loop-island.invariant in
    let at = behind_at c.args.islands.items _ _ _ _ kept.10.behind c.in-Some.ensures.steps.0 in
    let x = behind_at c.args.ins.items _ _ _ _ kept.7 c.first-takes.ensures.items in
    let o = behind_at c.args.outs.items _ _ _ _ kept.8 c.first-sends.ensures.items in
    let t = behind_at c.args.tables.items _ _ _ _ kept.9 c.first-table.ensures.items in
    record {
      begins = c.requires.begin.begin _ _ _ _ at x o;
      blank = c.requires.begin.blank _ _ _ at t;
      few = (c.requires.begin.few_ins _ _ x, c.requires.begin.few_outs _ _ o);
      peers = let p = behind_at c.args.peers.items _ _ _ _ kept.12 c.first-peers.ensures.items in (c.requires.begin.in_peers _ _ _ x p, c.requires.begin.out_peers _ _ _ o p);
    }

pub loop-island-preserved : goal.loop-island-preserved
loop-island-preserved g c =
    let kept = c.loop-island.invariant in
    let next = c.in-Some.ensures.steps in
    let put = c.push_reserved.ensures in
    let takes = c.first-takes.ensures in
    let sends = c.first-sends.ensures in
    let table = c.first-table.ensures in
    let peers = c.first-peers.ensures in
    let made = c.new.ensures in
    let at = behind_at c.args.islands.items _ _ _ _ kept.10.behind next.0 in
    let x = behind_at c.args.ins.items _ _ _ _ kept.7 takes.items in
    let o = behind_at c.args.outs.items _ _ _ _ kept.8 sends.items in (
      tt,
      tt,
      fewer _ _ _ _ _ next.0 (sym next.1) kept.2,
      omega (arith, kept.3, next.1, put.len, put.capacity),
      fewer _ _ _ _ _ takes.items takes.len kept.4,
      fewer _ _ _ _ _ sends.items sends.len kept.5,
      fewer _ _ _ _ _ table.items table.len kept.6,
      beside_next c.args.ins.items _ _ _ _ _ _ kept.7 takes.items put.items,
      beside_next c.args.outs.items _ _ _ _ _ _ kept.8 sends.items put.items,
      beside_next c.args.tables.items _ _ _ _ _ _ kept.9 table.items put.items,
      going_next (MadeAt g.S.Source.state g.D.Drain.state g.B.PlugBook.lists c.args.islands.items c.args.ins.items c.args.outs.items) c.args.islands.items _ _ _ _ _ _ kept.10 next.0 put.items
          (made_at g.S.Source.state g.D.Drain.state g.B.PlugBook.lists c.args.islands.items c.args.ins.items c.args.outs.items _ _ _ _ _ at x o (record { keeps = made.keeps; goes = made.goes; lanes = made.lanes; unspent = made.spent })),
      fewer _ _ _ _ _ peers.items peers.len kept.11,
      beside_next c.args.peers.items _ _ _ _ _ _ kept.12 peers.items put.items,
      each_next (PeersAt c.args.peers.items) _ _ _ kept.13 put.items (peers_at c.args.peers.items _ c.first-peers.result c.new.result (behind_at c.args.peers.items _ _ _ _ kept.12 peers.items) made.peers.0 made.peers.1),
    )

pub returns-clause-peers : goal.returns-clause-peers
returns-clause-peers g c = all_have c.args.peers.items _ c.loop-island.invariant.13

pub returns-clause-all : goal.returns-clause-all
returns-clause-all g c =
    let kept = c.loop-island.invariant in
    let made = MadeAt g.S.Source.state g.D.Drain.state g.B.PlugBook.lists c.args.islands.items c.args.ins.items c.args.outs.items in
    all_made g.S.Source.state g.D.Drain.state g.B.PlugBook.lists c.args.islands.items c.args.ins.items c.args.outs.items _ (going_size made c.args.islands.items _ _ kept.10 (none_left _ _ c.in-None.ensures.steps.0 kept.2)) kept.10.each
