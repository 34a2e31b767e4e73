use Rattle.std.proofs.Common.{◌≡◌, ap, None}
use Rattle.stage_in.specs.Logics.{Begins}
use Rattle.stage_in.specs.Moves.{in_plan}
use Rattle.stage_in.proofs.Begun.{concat_new, interleave_new, sorted_new, zip_new, merge_new, hub_new, free_plan}
use Rattle.stage_in.proofs.logic.InLogic.new.Goals.{in-Concat+in_ok-new-in-Concat, in-Interleave+in_ok-new-in-Interleave, in-MergeSorted, in-Zip, in-Merge+in_ok-new-in-Merge, in-MergeHub+in_ok-new-in-MergeHub}
use Rattle.stage_in.proofs.logic.InLogic.new.Goals as goal

pub returns-clause-begins : goal.returns-clause-begins
returns-clause-begins c =
    let node = c.args.stage in
    let kind = c.args.kind in
    let d = c.args.decider in
    let to = c.match-kind.result in
    elim c.match-kind.branch as (λ _. Begins node kind d to) [
      | in-Concat+in_ok-new-in-Concat w ↦ concat_new node kind d to w.in-Concat.inputs w.in_ok-new-in-Concat.field-0 c.requires w.in-Concat.is w.result-is w.in_ok-new-in-Concat.ensures
      | in-Interleave+in_ok-new-in-Interleave w ↦
          interleave_new node kind d to w.in-Interleave.inputs w.in-Interleave.segment w.in_ok-new-in-Interleave.field-0 c.requires w.in-Interleave.is w.result-is w.in_ok-new-in-Interleave.ensures
      | in-MergeSorted w ↦ sorted_new node kind d to w.new-in-MergeSorted.result w.in-MergeSorted.is w.result-is w.new-in-MergeSorted.ensures
      | in-Zip w ↦ zip_new node kind d to w.new-in-Zip.result w.in-Zip.is w.result-is w.new-in-Zip.ensures
      | in-Merge+in_ok-new-in-Merge w ↦ merge_new node kind d to w.in-Merge.inputs w.in_ok-new-in-Merge.field-0 c.requires w.in-Merge.is w.result-is w.in_ok-new-in-Merge.ensures.begins
      | in-MergeHub+in_ok-new-in-MergeHub w ↦
          hub_new node kind d to _ w.in-MergeHub.producers w.in_ok-new-in-MergeHub.field-0 c.requires w.in-MergeHub.is w.result-is w.in_ok-new-in-MergeHub.ensures.begins
    ]

pub returns-clause-free : goal.returns-clause-free
returns-clause-free c =
    let to = c.match-kind.result in
    elim c.match-kind.branch as (λ _. in_plan to ≡ None) [
      | in-Concat+in_ok-new-in-Concat w ↦ ap in_plan w.result-is
      | in-Interleave+in_ok-new-in-Interleave w ↦ ap in_plan w.result-is
      | in-MergeSorted w ↦ ap in_plan w.result-is
      | in-Zip w ↦ ap in_plan w.result-is
      | in-Merge+in_ok-new-in-Merge w ↦ free_plan to w.in_ok-new-in-Merge.field-0 w.result-is w.in_ok-new-in-Merge.ensures.free
      | in-MergeHub+in_ok-new-in-MergeHub w ↦ free_plan to w.in_ok-new-in-MergeHub.field-0 w.result-is w.in_ok-new-in-MergeHub.ensures.free
    ]
