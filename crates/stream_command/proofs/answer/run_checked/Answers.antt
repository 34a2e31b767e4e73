-- The goals of `answer::run_checked` that the search leaves.
use Rattle.std.proofs.Common.{◌≡◌, ◌≤◌, ◌∙◌, List, length, ap, map, sym, subst}
use Rattle.blue_check.specs.Checked.{checked_blueprint}
use Rattle.stream_model.specs.declared.blueprint.Node.{Node}
use Rattle.run_blueprint.specs.Tracing.{IsApart}
use Rattle.materializer.specs.Choosers.{moves_of, PlansFit}
use Rattle.materializer.specs.Fit.{CanRun}
use Rattle.materializer.proofs.Fitting.{can_run}
use Rattle.materializer.proofs.Used.{has_guests}
use Rattle.materializer.specs.HandedCustoms.{handed_heads, HasGuests}
use Rattle.stream_command.specs.AfterRun.{of_outcome}
use Rattle.stream_command.specs.Asked.{plugged_by}
use Rattle.stream_command.proofs.MovesRead.{without_told, without_raised, without_reads, without_tells, run_told, run_tells, run_reads, run_raised, run_moves}
use Rattle.stream_command.proofs.answer.run_checked.Goals as goal

pub plans_of_file-requires-clause-few : goal.plans_of_file-requires-clause-few
plans_of_file-requires-clause-few g c =
    let few : length c.deref.result.now ≤ 1024 = subst (λ (ns : List Node). length ns ≤ 1024) (sym (c.deref.ensures.value ∙ ap (λ b. b.nodes.items) c.into_blueprint-b.ensures)) c.requires.few in
    search few

pub run_fit-requires-clause-runs : goal.run_fit-requires-clause-runs
run_fit-requires-clause-runs g c = λ κs lives. subst CanRun (sym c.into_blueprint-b.ensures) (can_run (checked_blueprint c.args.checked) _ c.requires.fit.0 c.requires.fit.1)

pub run_fit-requires-clause-has : goal.run_fit-requires-clause-has
run_fit-requires-clause-has g c =
    λ κs lives. subst (λ b. HasGuests (handed_heads c.args.plugs.items c.args.customs.items) b.wires.items b.nodes.items) (sym c.into_blueprint-b.ensures) (has_guests (checked_blueprint c.args.checked) _ c.requires.fit.0 c.requires.fit.1)

pub run_fit-requires-clause-apart : goal.run_fit-requires-clause-apart
run_fit-requires-clause-apart g c = λ κs lives. subst (λ b. IsApart b c.args.trace) (sym c.into_blueprint-b.ensures) c.requires.apart

pub run_fit-requires-clause-follow : goal.run_fit-requires-clause-follow
run_fit-requires-clause-follow g c = λ κs lives. subst (λ (ns : List Node). PlansFit (map (λ n. n.kind) ns) (map moves_of c.in-Ok.plans.items)) c.deref.ensures.value c.in-Ok.ensures.fit

pub returns-clause-told : goal.returns-clause-told
returns-clause-told g c =
    run_told (plugged_by g.B.PlugBook.lists c.args.plugs.items c.args.customs.items) (g.F.Folder.state c.args.folder.now) (g.F.Folder.state c.plans_of_file.new.folder) (g.F.Folder.state c.run_fit.new.folder) _ (checked_blueprint c.args.checked) c.args.trace _ c.args.replay _ c.args.turns (of_outcome c.run_fit.result) c.run_fit.result.status c.into_blueprint-b.ensures c.as_ref.ensures.value c.deref.ensures.value c.in-Ok.plans c.in-Ok.ensures.reads
    c.requires.other c.run_fit.ensures.told

pub returns-clause-tells : goal.returns-clause-tells
returns-clause-tells g c = λ tells.
    run_tells (plugged_by g.B.PlugBook.lists c.args.plugs.items c.args.customs.items) (g.F.Folder.state c.args.folder.now) (g.F.Folder.state c.plans_of_file.new.folder) (g.F.Folder.state c.run_fit.new.folder) _ (checked_blueprint c.args.checked) c.args.trace _ c.args.replay _ c.args.turns (of_outcome c.run_fit.result) c.run_fit.result.status c.into_blueprint-b.ensures c.as_ref.ensures.value c.deref.ensures.value c.in-Ok.plans c.in-Ok.ensures.reads
    (c.run_fit.ensures.tells tells)

pub returns-clause-causes : goal.returns-clause-causes
returns-clause-causes g c =
    run_raised (plugged_by g.B.PlugBook.lists c.args.plugs.items c.args.customs.items) (g.F.Folder.state c.args.folder.now) (g.F.Folder.state c.plans_of_file.new.folder) (g.F.Folder.state c.run_fit.new.folder) _ (checked_blueprint c.args.checked) c.args.trace _ c.args.replay _ c.args.turns (of_outcome c.run_fit.result) c.run_fit.result.status c.into_blueprint-b.ensures c.as_ref.ensures.value c.deref.ensures.value c.in-Ok.plans c.in-Ok.ensures.reads
    c.run_fit.ensures.reads c.run_fit.ensures.causes

pub returns-clause-reads : goal.returns-clause-reads
returns-clause-reads g c =
    run_reads (plugged_by g.B.PlugBook.lists c.args.plugs.items c.args.customs.items) (g.F.Folder.state c.args.folder.now) (g.F.Folder.state c.plans_of_file.new.folder) (g.F.Folder.state c.run_fit.new.folder) _ (checked_blueprint c.args.checked) c.args.trace _ c.args.replay _ c.args.turns (of_outcome c.run_fit.result) c.run_fit.result.status c.into_blueprint-b.ensures c.as_ref.ensures.value c.deref.ensures.value c.in-Ok.plans c.in-Ok.ensures.reads
    c.run_fit.ensures.reads

pub returns-clause-reads_moves : goal.returns-clause-reads_moves
returns-clause-reads_moves g c =
    run_moves (plugged_by g.B.PlugBook.lists c.args.plugs.items c.args.customs.items) (g.F.Folder.state c.args.folder.now) (g.F.Folder.state c.plans_of_file.new.folder) (g.F.Folder.state c.run_fit.new.folder) _ (checked_blueprint c.args.checked) c.args.trace _ c.args.replay _ c.args.turns (of_outcome c.run_fit.result) c.run_fit.result.status c.into_blueprint-b.ensures c.as_ref.ensures.value c.deref.ensures.value c.in-Ok.plans c.in-Ok.ensures.reads
    c.in-Ok.ensures.most c.requires.other c.run_fit.ensures.reads

pub returns-in-Err-clause-told : goal.returns-in-Err-clause-told
returns-in-Err-clause-told g c =
    let made = c.without_plans in
    without_told (plugged_by g.B.PlugBook.lists c.args.plugs.items c.args.customs.items) (g.F.Folder.state c.args.folder.now) (g.F.Folder.state c.plans_of_file.new.folder) (g.F.Folder.state c.plans_of_file.new.folder) _ (checked_blueprint c.args.checked) c.args.trace _ c.args.replay _ c.args.turns (of_outcome made.result) made.result.status c.into_blueprint-b.ensures c.as_ref.ensures.value c.deref.ensures.value c.in-Err.end c.in-Err.ensures.reads
    made.ensures.blank made.ensures.status

pub returns-in-Err-clause-tells : goal.returns-in-Err-clause-tells
returns-in-Err-clause-tells g c =
    let made = c.without_plans in
    without_tells (plugged_by g.B.PlugBook.lists c.args.plugs.items c.args.customs.items) (g.F.Folder.state c.args.folder.now) (g.F.Folder.state c.plans_of_file.new.folder) (g.F.Folder.state c.plans_of_file.new.folder) _ (checked_blueprint c.args.checked) c.args.trace _ c.args.replay _ c.args.turns (of_outcome made.result) made.result.status c.into_blueprint-b.ensures c.as_ref.ensures.value c.deref.ensures.value c.in-Err.end c.in-Err.ensures.reads

pub returns-in-Err-clause-causes : goal.returns-in-Err-clause-causes
returns-in-Err-clause-causes g c =
    let made = c.without_plans in
    without_raised (plugged_by g.B.PlugBook.lists c.args.plugs.items c.args.customs.items) (g.F.Folder.state c.args.folder.now) (g.F.Folder.state c.plans_of_file.new.folder) (g.F.Folder.state c.plans_of_file.new.folder) _ (checked_blueprint c.args.checked) c.args.trace _ c.args.replay _ c.args.turns (of_outcome made.result) made.result.status c.into_blueprint-b.ensures c.as_ref.ensures.value c.deref.ensures.value c.in-Err.end c.in-Err.ensures.reads
    made.ensures.status

pub returns-in-Err-clause-reads : goal.returns-in-Err-clause-reads
returns-in-Err-clause-reads g c =
    let made = c.without_plans in
    without_reads (plugged_by g.B.PlugBook.lists c.args.plugs.items c.args.customs.items) (g.F.Folder.state c.args.folder.now) (g.F.Folder.state c.plans_of_file.new.folder) (g.F.Folder.state c.plans_of_file.new.folder) _ (checked_blueprint c.args.checked) c.args.trace _ c.args.replay _ c.args.turns (of_outcome made.result) made.result.status c.into_blueprint-b.ensures c.as_ref.ensures.value c.deref.ensures.value c.in-Err.end c.in-Err.ensures.reads

pub returns-in-Err-clause-reads_moves : goal.returns-in-Err-clause-reads_moves
returns-in-Err-clause-reads_moves g c = λ t e. c.in-Err.ensures.most t (c.as_ref.ensures.value ∙ e)
