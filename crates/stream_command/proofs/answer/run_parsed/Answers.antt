-- The goals of `answer::run_parsed` that the search leaves.
use Rattle.std.proofs.Common.{◌≤◌, ◌∙◌, inr, ap, length, map, sym, subst}
use Rattle.std.specs.Prelude.{IfSome}
use Rattle.stream_model.specs.Known.{head_shape}
use Rattle.stream_model.specs.declared.blueprint.Blueprint.{Blueprint}
use Rattle.blue_check.specs.Checked.{checked_blueprint}
use Rattle.blue_check.specs.Ending.{IsCheckEnd}
use Rattle.blue_check.specs.Fitness.{IsFit, IsFirstFault}
use Rattle.materializer.specs.HandedCustoms.{handed_heads}
use Rattle.stream_command.specs.Asked.{plugged_by}
use Rattle.stream_command.specs.AfterRun.{of_outcome}
use Rattle.stream_command.specs.Outcome.{EndedChecked}
use Rattle.stream_command.specs.RunReceipts.{RanIslands}
use Rattle.stream_command.proofs.CallAnswering.{as_handed, apart_of, read_apart_of, causes_parsed, reads_parsed, unfit_told}
use Rattle.stream_command.proofs.answer.run_parsed.Goals as goal

pub returns-in-Ok-check-clause-causes : goal.returns-in-Ok-check-clause-causes
returns-in-Ok-check-clause-causes g c =
    let plugs = c.deref-3.ensures.value ∙ c.in-Ok.ensures ∙ ap (map (λ p. p.head)) c.deref.ensures.value in
    let shapes = ap (map head_shape) c.deref-4.ensures.value ∙ c.in-Ok-custom_heads_of.ensures ∙ ap (map (λ x. head_shape x.head)) c.deref-2.ensures.value in
    let fit = as_handed (λ h. IsFit c.args.b h c.args.taken.now) c.args.plugs.items c.args.customs.items c.deref-3.result.now c.deref-4.result.now plugs shapes c.in-Ok-check.ensures.fit in
    causes_parsed (plugged_by g.B.PlugBook.lists c.args.plugs.items c.args.customs.items) c.run_checked.result.status (of_outcome c.run_checked.result) c.args.b (checked_blueprint c.in-Ok-check.checked) c.args.taken.now c.args.trace c.args.replay c.args.turns _ _ fit c.in-Ok-check.ensures.blueprint c.run_checked.ensures.causes

pub returns-in-Ok-check-clause-reads : goal.returns-in-Ok-check-clause-reads
returns-in-Ok-check-clause-reads g c =
    let plugs = c.deref-3.ensures.value ∙ c.in-Ok.ensures ∙ ap (map (λ p. p.head)) c.deref.ensures.value in
    let shapes = ap (map head_shape) c.deref-4.ensures.value ∙ c.in-Ok-custom_heads_of.ensures ∙ ap (map (λ x. head_shape x.head)) c.deref-2.ensures.value in
    let fit = as_handed (λ h. IsFit c.args.b h c.args.taken.now) c.args.plugs.items c.args.customs.items c.deref-3.result.now c.deref-4.result.now plugs shapes c.in-Ok-check.ensures.fit in
    reads_parsed (plugged_by g.B.PlugBook.lists c.args.plugs.items c.args.customs.items) c.args.b (checked_blueprint c.in-Ok-check.checked) c.args.taken.now c.args.replay _ _ fit c.in-Ok-check.ensures.blueprint c.run_checked.ensures.reads

pub run_checked-requires-clause-apart : goal.run_checked-requires-clause-apart
run_checked-requires-clause-apart g c = λ κs lives.
    let plugs = c.deref-3.ensures.value ∙ c.in-Ok.ensures ∙ ap (map (λ p. p.head)) c.deref.ensures.value in
    let shapes = ap (map head_shape) c.deref-4.ensures.value ∙ c.in-Ok-custom_heads_of.ensures ∙ ap (map (λ x. head_shape x.head)) c.deref-2.ensures.value in
    let fit = as_handed (λ h. IsFit c.args.b h c.args.taken.now) c.args.plugs.items c.args.customs.items c.deref-3.result.now c.deref-4.result.now plugs shapes c.in-Ok-check.ensures.fit in
    apart_of (plugged_by g.B.PlugBook.lists c.args.plugs.items c.args.customs.items) c.args.b (checked_blueprint c.in-Ok-check.checked) c.args.taken.now c.args.trace fit c.in-Ok-check.ensures.blueprint c.requires.taken

pub run_checked-requires-clause-few : goal.run_checked-requires-clause-few
run_checked-requires-clause-few g c = λ κs lives. subst (λ (b : Blueprint). length b.nodes.items ≤ 1024) (sym c.in-Ok-check.ensures.blueprint) c.requires.few

pub run_checked-requires-clause-other : goal.run_checked-requires-clause-other
run_checked-requires-clause-other g c = λ κs lives.
    let plugs = c.deref-3.ensures.value ∙ c.in-Ok.ensures ∙ ap (map (λ p. p.head)) c.deref.ensures.value in
    let shapes = ap (map head_shape) c.deref-4.ensures.value ∙ c.in-Ok-custom_heads_of.ensures ∙ ap (map (λ x. head_shape x.head)) c.deref-2.ensures.value in
    let fit = as_handed (λ h. IsFit c.args.b h c.args.taken.now) c.args.plugs.items c.args.customs.items c.deref-3.result.now c.deref-4.result.now plugs shapes c.in-Ok-check.ensures.fit in
    read_apart_of (plugged_by g.B.PlugBook.lists c.args.plugs.items c.args.customs.items) c.args.b (checked_blueprint c.in-Ok-check.checked) c.args.taken.now c.args.replay fit c.in-Ok-check.ensures.blueprint c.requires.moves

pub returns-in-Err-Fault-clause-told : goal.returns-in-Err-Fault-clause-told
returns-in-Err-Fault-clause-told g c =
    let plugs = c.deref-3.ensures.value ∙ c.in-Ok.ensures ∙ ap (map (λ p. p.head)) c.deref.ensures.value in
    let shapes = ap (map head_shape) c.deref-4.ensures.value ∙ c.in-Ok-custom_heads_of.ensures ∙ ap (map (λ x. head_shape x.head)) c.deref-2.ensures.value in
    let ends = subst (λ e. IsCheckEnd c.args.b (record { plugs = c.deref-3.result.now; customs = map head_shape c.deref-4.result.now }) c.args.taken.now e) c.in-Err-Fault.field-0-is c.in-Err-Fault.ensures.unfit in
    let first = as_handed (λ h. IsFirstFault c.args.b h c.args.taken.now c.in-Err-Fault.fault) c.args.plugs.items c.args.customs.items c.deref-3.result.now c.deref-4.result.now plugs shapes ends in
    λ tells. unfit_told (plugged_by g.B.PlugBook.lists c.args.plugs.items c.args.customs.items) _ (of_outcome c.unfit.result) c.args.b c.args.taken.now c.args.trace c.args.replay c.args.turns c.in-Err-Fault.fault c.unfit.ensures.status c.unfit.ensures.blank first

pub run_checked-requires-clause-fit : goal.run_checked-requires-clause-fit
run_checked-requires-clause-fit g c = λ κs lives.
    let plugs = c.deref-3.ensures.value ∙ c.in-Ok.ensures ∙ ap (map (λ p. p.head)) c.deref.ensures.value in
    let shapes = ap (map head_shape) c.deref-4.ensures.value ∙ c.in-Ok-custom_heads_of.ensures ∙ ap (map (λ x. head_shape x.head)) c.deref-2.ensures.value in
    let fit = as_handed (λ h. IsFit c.args.b h c.args.taken.now) c.args.plugs.items c.args.customs.items c.deref-3.result.now c.deref-4.result.now plugs shapes c.in-Ok-check.ensures.fit in
    (c.args.taken.now, subst (λ (b : Blueprint). IsFit b (handed_heads c.args.plugs.items c.args.customs.items) c.args.taken.now) (sym c.in-Ok-check.ensures.blueprint) fit)

pub returns-in-Ok-check-clause-told : goal.returns-in-Ok-check-clause-told
returns-in-Ok-check-clause-told g c = λ tells.
    let plugs = c.deref-3.ensures.value ∙ c.in-Ok.ensures ∙ ap (map (λ p. p.head)) c.deref.ensures.value in
    let shapes = ap (map head_shape) c.deref-4.ensures.value ∙ c.in-Ok-custom_heads_of.ensures ∙ ap (map (λ x. head_shape x.head)) c.deref-2.ensures.value in
    let fit = as_handed (λ h. IsFit c.args.b h c.args.taken.now) c.args.plugs.items c.args.customs.items c.deref-3.result.now c.deref-4.result.now plugs shapes c.in-Ok-check.ensures.fit in
    let plugged = plugged_by g.B.PlugBook.lists c.args.plugs.items c.args.customs.items in
    inr (fit, subst (λ (b : Blueprint). EndedChecked plugged c.run_checked.result.status (of_outcome c.run_checked.result) b c.args.trace c.args.replay c.args.turns (g.F.Folder.state c.args.folder.now) (g.F.Folder.state c.run_checked.new.folder)) c.in-Ok-check.ensures.blueprint (c.run_checked.ensures.told tells))

pub returns-in-Ok-check-clause-islands : goal.returns-in-Ok-check-clause-islands
returns-in-Ok-check-clause-islands g c =
    let plugs = c.deref-3.ensures.value ∙ c.in-Ok.ensures ∙ ap (map (λ p. p.head)) c.deref.ensures.value in
    let shapes = ap (map head_shape) c.deref-4.ensures.value ∙ c.in-Ok-custom_heads_of.ensures ∙ ap (map (λ x. head_shape x.head)) c.deref-2.ensures.value in
    let fit = as_handed (λ h. IsFit c.args.b h c.args.taken.now) c.args.plugs.items c.args.customs.items c.deref-3.result.now c.deref-4.result.now plugs shapes c.in-Ok-check.ensures.fit in
    let plugged = plugged_by g.B.PlugBook.lists c.args.plugs.items c.args.customs.items in
    let checked = subst (λ (b : Blueprint). IsFit b (handed_heads c.args.plugs.items c.args.customs.items) c.args.taken.now) (sym c.in-Ok-check.ensures.blueprint) fit in
    subst (λ (b : Blueprint). IfSome c.run_checked.result.ran (λ r. RanIslands plugged b c.args.taken.now r)) c.in-Ok-check.ensures.blueprint (c.run_checked.ensures.islands c.args.taken.now checked)
