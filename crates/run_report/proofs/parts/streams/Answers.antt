use Rattle.std.proofs.Common.{rules, ap, ap₂, true, ◌≡◌, ◌∙◌}
use Rattle.std.proofs.lemmas.Result.{IfOk-weaker}
use Rattle.clap.specs.Walk.{rule_of}
use Rattle.clap.specs.Simple.{app_of, app_of_fields, on_top, with_rule}
use Rattle.run_report.specs.Shape.{bare_app, file_rule}
use Rattle.run_report.proofs.parts.streams.Goals as goal

pub returns : goal.returns
returns c =
    let bare : app_of c.disable_help_flag.result ≡ bare_app =
    ap app_of_fields c.disable_help_flag.ensures
    ∙ ap (on_top (λ s. record s { disable_help_flag = true })) (ap app_of_fields c.no_binary_name.ensures ∙ ap (on_top (λ s. record s { no_binary_name = true })) c.new-2.ensures.app) in
    let files_is : rule_of c.action-files.result ≡ file_rule = search rules in
    let files = c.in_ok-arg.ensures.shape (search rules) ∙ ap₂ with_rule bare files_is in
    let generate = c.in_ok-arg-2.ensures.shape c.option.ensures.local ∙ ap₂ with_rule files c.option.ensures.rule in
    let workers = c.in_ok-arg-3.ensures.shape c.option-2.ensures.local ∙ ap₂ with_rule generate c.option-2.ensures.rule in
    let turns = c.in_ok-arg-4.ensures.shape c.option-3.ensures.local ∙ ap₂ with_rule workers c.option-3.ensures.rule in
    let trace = c.in_ok-arg-5.ensures.shape c.option-4.ensures.local ∙ ap₂ with_rule turns c.option-4.ensures.rule in
    IfOk-weaker c.arg-6.result _ _ (λ m h. h.shape c.option-5.ensures.local ∙ ap₂ with_rule trace c.option-5.ensures.rule) c.arg-6.ensures
