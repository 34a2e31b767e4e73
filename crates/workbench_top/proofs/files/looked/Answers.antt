use Rattle.std.proofs.Common.{◌≡◌, ◌∙◌, List, Ok, ap, subst}
use Rattle.stream_model.specs.declared.blueprint.Blueprint.{Blueprint}
use Rattle.stream_model.specs.declared.blueprint.Node.{Node}
use Rattle.blue_check.specs.Checked.{checked_blueprint}
use Rattle.workbench_top.specs.Files.{MissesOne, OpensFiles}
use Rattle.workbench_top.proofs.Looking.{finds, misses}
use Rattle.workbench_top.proofs.files.looked.Goals as goal

pub returns-then-branch-clause-answers : goal.returns-then-branch-clause-answers
returns-then-branch-clause-answers g c =
    let e = c.in_ok-look_for_all.ensures in
    let ok = ap Ok c.if-branch.true in
    let nodes : c.deref.result.now ≡ (checked_blueprint c.args.c.now).nodes.items = c.deref.ensures.value ∙ ap (λ (b : Blueprint). b.nodes.items) c.blueprint.ensures in
    finds c.args.text.now c.args.file.now c.in_ok-told.told.items c.look_for_all.new.out.items (checked_blueprint c.args.c.now) (g.F.Folder.state c.args.folder.now) (g.F.Folder.state c.look_for_all.new.folder) c.telling.result
    c.requires c.telling.ensures.ending c.telling.ensures.said c.telling.ensures.told (e.told ok) c.in_ok-told.ensures (subst (λ (ns : List Node). OpensFiles ns (g.F.Folder.state c.args.folder.now) (g.F.Folder.state c.look_for_all.new.folder)) nodes (e.opens ok))

pub returns-else-branch-clause-answers : goal.returns-else-branch-clause-answers
returns-else-branch-clause-answers g c =
    let e = c.in_ok-look_for_all.ensures in
    let nodes : c.deref.result.now ≡ (checked_blueprint c.args.c.now).nodes.items = c.deref.ensures.value ∙ ap (λ (b : Blueprint). b.nodes.items) c.blueprint.ensures in
    misses c.args.text.now c.args.file.now (checked_blueprint c.args.c.now) (g.F.Folder.state c.args.folder.now) (g.F.Folder.state c.look_for_all.new.folder) c.telling-else-branch.result
    c.requires c.telling-else-branch.ensures.ending c.telling-else-branch.ensures.said (subst (λ (ns : List Node). MissesOne ns (g.F.Folder.state c.args.folder.now) (g.F.Folder.state c.look_for_all.new.folder)) nodes (e.misses (ap Ok c.if-branch.false)))
