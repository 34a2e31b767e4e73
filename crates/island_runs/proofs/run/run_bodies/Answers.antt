-- The goals of `run::run_bodies` that the search leaves.
use Rattle.std.proofs.Common.{◌∙◌, refl, sym, subst}
use denote.Exit.{no}
use denote.Param.Send.{param_send, arg_send}
use Rattle.lane_core.specs.Crossings.{AreCrossings}
use Rattle.island_body.proofs.Sending.{body_send}
use Rattle.island_body.specs.Meeting.{BodiesMayMeet}
use Rattle.island_runs.proofs.Running.{have_run, have_broken, receipt_of}
use Rattle.island_runs.proofs.run.run_bodies.Goals as goal

pub run-requires-clause-keeps : goal.run-requires-clause-keeps
run-requires-clause-keeps g c = λ κs lives. c.requires.begun.1.1.1.bodies_are.begun_are.keep

pub run-requires-clause-unspent : goal.run-requires-clause-unspent
run-requires-clause-unspent g c = λ κs lives. c.requires.begun.1.1.1.unspent

pub run-requires-clause-lanes : goal.run-requires-clause-lanes
run-requires-clause-lanes g c = λ κs lives. subst (λ cs. AreCrossings BodiesMayMeet c.args.begun.bodies.items cs) (sym c.deref.ensures.value) c.requires.begun.1.1.1.meet

pub stop-requires : goal.stop-requires
stop-requires g c =
    let b = c.requires.begun.0 in
    let ss = c.requires.begun.1.0 in
    let ds = c.requires.begun.1.1.0 in
    let e = c.in-Ok.ensures in
    let f = c.in-Ok.finish in (
      b,
      (
        ss,
        (
          ds,
          (
            c.args.begun.bodies.items,
            (
              c.args.budget,
              (have_run g.S.Source.state g.D.Drain.state g.B.PlugBook.lists b ss ds c.args.begun.bodies.items f.bodies.items c.deref.result.now c.args.begun.crossings.items c.deref-in-Ok.result.now c.args.begun.remains c.requires.begun.1.1.1 c.deref.ensures.value c.deref-in-Ok.ensures.value e.joined c.args.budget f.used f.more e.keeps e.goes e.spent e.within e.rest (λ more. (e.more more).0)).0,
            ),
          ),
        ),
      ),
    )

pub returns-in-Ok-clause-leaves : goal.returns-in-Ok-clause-leaves
returns-in-Ok-clause-leaves g c = λ b ss ds h.
    let e = c.in-Ok.ensures in
    let f = c.in-Ok.finish in
    let run = have_run g.S.Source.state g.D.Drain.state g.B.PlugBook.lists b ss ds c.args.begun.bodies.items f.bodies.items c.deref.result.now c.args.begun.crossings.items c.deref-in-Ok.result.now c.args.begun.remains h c.deref.ensures.value c.deref-in-Ok.ensures.value e.joined c.args.budget f.used f.more e.keeps e.goes e.spent e.within e.rest (λ more. (e.more more).0) in
    let left = c.stop.ensures.leaves b ss ds c.args.begun.bodies.items c.args.budget run.0 in
    (left.0, left.1 ∙ run.1)

pub returns-in-Ok-clause-receipt : goal.returns-in-Ok-clause-receipt
returns-in-Ok-clause-receipt g c = λ b ss ds h.
    let e = c.in-Ok.ensures in
    let f = c.in-Ok.finish in
    let same = c.stop.ensures.same in
    receipt_of b c.args.workers h.count f.used c.stop.result.used f.more c.stop.result.at_rest c.stop.result.ran _ h.homes h.islands refl (c.len-islands.ensures ∙ (c.args.begun.bodies.ok.0 ∙ h.bodies_are.begun_are.many)) refl refl same.0 same.1 same.2

pub give_up-requires : goal.give_up-requires
give_up-requires g c =
    let b = c.requires.begun.0 in
    let ss = c.requires.begun.1.0 in
    let ds = c.requires.begun.1.1.0 in
    let e = c.in-Err.ensures in (
      b,
      (
        ss,
        (
          ds,
          (
            c.args.begun.bodies.items,
            have_broken g.S.Source.state g.D.Drain.state g.B.PlugBook.lists b ss ds c.args.begun.bodies.items c.in-Err.bodies.items c.deref.result.now c.args.begun.crossings.items c.deref-in-Err.result.now c.args.begun.remains c.requires.begun.1.1.1 c.deref.ensures.value c.deref-in-Err.ensures.value e.broke_joined e.broke,
          ),
        ),
      ),
    )

pub returns-clause-breaks : goal.returns-clause-breaks
returns-clause-breaks g c = λ b ss ds h.
    let e = c.in-Err.ensures in
    c.give_up.ensures b ss ds c.args.begun.bodies.items
    (have_broken g.S.Source.state g.D.Drain.state g.B.PlugBook.lists b ss ds c.args.begun.bodies.items c.in-Err.bodies.items c.deref.result.now c.args.begun.crossings.items c.deref-in-Err.result.now c.args.begun.remains h c.deref.ensures.value c.deref-in-Err.ensures.value e.broke_joined e.broke)

pub run-requires-send-B : goal.run-requires-send-B
run-requires-send-B g c = λ κs lives. param_send 0 _ (arg_send _ no _ (body_send g.row.S g.row.D g.row.L g.row.H g.row.B g.S.Source g.D.Drain g.L.Logic g.H.Handlers g.B.PlugBook c.type_bounds.send-S c.type_bounds.send-D c.type_bounds.send-L c.type_bounds.send-H c.type_bounds.send-B))
