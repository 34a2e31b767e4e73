-- The goals of `run::begin` that the search leaves.
use Rattle.std.proofs.Common.{◌≡◌, ◌∙◌, ap, map, length, sym, subst, arith}
use Rattle.island_plans.specs.LaneEnds.{AreRising}
use Rattle.island_runs.proofs.Preparing.{same_ends, same_tables, same_peers, same_room}
use Rattle.island_runs.proofs.run.begin.Goals as goal

pub start_all-requires-clause-can : goal.start_all-requires-clause-can
start_all-requires-clause-can g c = λ k x here.
    let e = c.fill-filled.ensures.filled.0.each k x here in
    record { parts = e.parts; room = e.room }

pub join_handles-requires-clause-ends : goal.join_handles-requires-clause-ends
join_handles-requires-clause-ends g c =
    let f = c.fill-filled.result in
    let ends = c.in-Err.ends.items in
    let u = c.unmade_islands_hand_back.ensures.are c.args.prepared.plans.blueprint.value c.args.sources.items c.args.drains.items f ends c.fill-filled.ensures.filled.0 c.in-Err.ensures.ended in
    (u.0, (u.1.0, u.1.1))

pub returns-in-Err-clause-unmade : goal.returns-in-Err-clause-unmade
returns-in-Err-clause-unmade g c =
    let b = c.args.prepared.plans.blueprint.value in
    let ss = c.args.sources.items in
    let ds = c.args.drains.items in
    let f = c.fill-filled.result in
    let ends = c.in-Err.ends.items in
    let filled = c.fill-filled.ensures.filled.0 in
    let u = c.unmade_islands_hand_back.ensures.are b ss ds f ends filled c.in-Err.ensures.ended in
    let same = c.unmade_islands_hand_back.ensures.same b ss ds f ends u.0 u.1.0 filled c.in-Err.ensures.ended u.1.1 in
    record {
      readers = ap (map g.S.Source.state) (c.join_handles.ensures.readers u.0 u.1.0 u.1.1) ∙ same.0;
      writers = ap (map g.D.Drain.state) (c.join_handles.ensures.writers u.0 u.1.0 u.1.1) ∙ same.1;
    }

pub make_all-bodies_made-requires-clause-begin : goal.make_all-bodies_made-requires-clause-begin
make_all-bodies_made-requires-clause-begin g c =
    let p = c.args.prepared in
    let is = c.requires.prepared in
    let f = c.fill-filled.result in
    let e = c.fill-filled.ensures in
    c.started_islands_begin_bodies.ensures p.plans.blueprint.value c.args.sources.items c.args.drains.items f c.in-Ok.islands.items p.ends p.bodies.tables.items p.bodies.peers.items (c.filled_islands_are_seated.ensures.few p.plans is.plans_are) e.filled.0 c.in-Ok.ensures.started
    (same_ends p.plans.lanes f.lanes p.plans.count f.count p.ends e.lanes e.count is.ends_are)
    (same_tables p.plans.ends f.ends p.plans.lanes f.lanes p.plans.count f.count p.bodies.tables.items e.ends e.lanes e.count is.bodies_room.blank)
    (same_peers p.plans.lanes f.lanes p.plans.count f.count p.bodies.peers.items e.lanes e.count is.bodies_room.peers)

pub returns-clause-begun : goal.returns-clause-begun
returns-clause-begun g c =
    let p = c.args.prepared in
    let is = c.requires.prepared in
    let b = p.plans.blueprint.value in
    let ss = c.args.sources.items in
    let ds = c.args.drains.items in
    let f = c.fill-filled.result in
    let e = c.fill-filled.ensures in
    let started = c.in-Ok.islands.items in
    let all = c.in-Ok.ensures.started in
    let few = c.filled_islands_are_seated.ensures.few p.plans is.plans_are in
    let ends = same_ends p.plans.lanes f.lanes p.plans.count f.count p.ends e.lanes e.count is.ends_are in
    let made = c.make_all-bodies_made.ensures.all in
    let bodies = c.make_all-bodies_made.result.items in
    let law = c.made_bodies_begin_their_blueprint.ensures in (
      record {
        heads = is.plans_are.runs.heads;
        taken = is.plans_are.runs.taken;
        fit = is.plans_are.runs.fit;
        unread = c.requires.unread;
        homes = f.homes.items;
        count = f.count;
        islands = e.filled.0.homes_are;
        nodes = e.filled.0.nodes;
        seats = e.filled.0.seats;
        bodies_are = law.are b ss ds f started p.ends bodies few e.filled.0 all ends made;
        numbered = law.numbered b ss ds f started p.ends bodies e.filled.0 all ends made;
        unspent = law.unspent f started p.ends bodies all.many e.filled.0.many ends made;
        meet = law.meet f started p.ends bodies all.many e.filled.0.many ends made;
        lanes_are = e.filled.0.lanes_are;
        rise = subst (λ (l : _). AreRising l.items) (sym e.lanes) (c.filled_islands_are_seated.ensures.rise p.plans is.plans_are);
        many = ends.many;
        aligned = law.aligned f started p.ends bodies all.many e.filled.0.many ends made;
        homes_are = e.filled.0.ends_are;
        room = same_room p.plans.ends f.ends p.plans.count f.count p.room e.ends e.count is.ends_room;
        none_ended = is.bodies_room.no_ends;
        room_to_end = omega (arith, e.count, is.bodies_room.room_for_ends);
        none_asked = is.none_asked;
        room_to_ask = let same : length f.lanes.items ≡ length p.plans.lanes.items = ap (λ l. length l.items) e.lanes in omega (arith, same, is.room_to_ask);
        none_counted = is.none_counted;
        room_to_count = is.room_to_count;
        board_is = e.filled.0.board_is;
        at_switches = e.filled.0.at_switches;
        rooms = e.filled.0.rooms;
      },
      e.filled.1,
      e.filled.2,
    )
