-- The goals of `shipped_run::run_shipped` that the search leaves: memory was wanting before the call, and the boxes of custom stages behave
-- as the stages in them.
use mathlib.Core.Logic.{inl, inr}
use denote.Param.Object.{read_made}
use mir.Syntax.{Dict}
use Rattle.std.proofs.Common.{◌≡◌, Some, false, rules, refl, sym, subst}
use Rattle.plug_logic.specs.Shipped.{shipped_book}
use Rattle.run_report.specs.Asking.{Asked, asked_of}
use Rattle.stream_command.proofs.Answering.{gave_up}
use Rattle.stream_command.specs.Answers.{IsValidFor}
use Rattle.stream_command.specs.Asked.{Plugged, plugged_by}
use Rattle.stream_command.specs.Behaviours.{Behaves, alternate_behaviour, rude_behaviour}
use Rattle.stream_command.specs.Calls.{answer_of, RoseNowhere, WasRun}
use Rattle.stream_command.specs.Heads.{shipped_plugs}
use Rattle.stream_command.specs.contracts.shipped_run.hire_both.{dyn-1-ghosts}
use Rattle.stream_command.proofs.shipped_run.run_shipped.Object-2.{Members}
use Rattle.stream_command.proofs.shipped_run.run_shipped.OwnLists.{own-2, lawful-own-2}
use Rattle.stream_command.proofs.shipped_run.run_shipped.Hidden.{sends-own-2}
use Rattle.stream_command.proofs.shipped_run.run_shipped.Goals as goal

pub hire_both-requires-clause-alternate : goal.hire_both-requires-clause-alternate
hire_both-requires-clause-alternate g c =
    subst (λ (P : Type 0). P) (sym (read_made {G = Members} {C = Dict} (dyn-1-ghosts (own-2, lawful-own-2, sends-own-2)).0 _ (inl tt) refl (Type 0) (λ j v. Behaves j.1.does v alternate_behaviour) c.into_dyn_box-3.result.vtable c.into_dyn_box-3.result.value c.in-Ok-new-2.alternate.value c.into_dyn_box-3.ensures.1))
    (record { second = λ v. v.second; first = search rules; asks = λ old heard asks new d. d.0; turns = λ old heard asks new d. d.1 })

pub hire_both-requires-clause-rude : goal.hire_both-requires-clause-rude
hire_both-requires-clause-rude g c =
    subst (λ (P : Type 0). P) (sym (read_made {G = Members} {C = Dict} (dyn-1-ghosts (own-2, lawful-own-2, sends-own-2)).0 _ (inr (inl tt)) refl (Type 0) (λ j v. Behaves j.1.does v rude_behaviour) c.into_dyn_box-4.result.vtable c.into_dyn_box-4.result.value c.in-Ok-new-3.rude.value c.into_dyn_box-4.ensures.1))
    (record { second = λ v. false; first = refl; asks = λ old heard asks new d. d; turns = λ old heard asks new d. refl })

pub returns-in_default-clause-answers : goal.returns-in_default-clause-answers
returns-in_default-clause-answers g c =
    let made = c.end_before_run in
    gave_up shipped_plugs (asked_of c.args.words.now) (answer_of made.result) _ made.ensures.status made.ensures.blank

pub returns-in_default-new-clause-answers : goal.returns-in_default-new-clause-answers
returns-in_default-new-clause-answers g c =
    let made = c.end_before_run-in_default-new in
    gave_up shipped_plugs (asked_of c.args.words.now) (answer_of made.result) _ made.ensures.status made.ensures.blank

pub returns-then-is_err-clause-answers : goal.returns-then-is_err-clause-answers
returns-then-is_err-clause-answers g c =
    let made = c.end_before_run-then-is_err in
    gave_up shipped_plugs (asked_of c.args.words.now) (answer_of made.result) _ made.ensures.status made.ensures.blank

pub returns-in_default-new-2-clause-answers : goal.returns-in_default-new-2-clause-answers
returns-in_default-new-2-clause-answers g c =
    let made = c.end_before_run-in_default-new-2 in
    gave_up shipped_plugs (asked_of c.args.words.now) (answer_of made.result) _ made.ensures.status made.ensures.blank

pub returns-in_default-new-3-clause-answers : goal.returns-in_default-new-3-clause-answers
returns-in_default-new-3-clause-answers g c =
    let made = c.end_before_run-in_default-new-3 in
    gave_up shipped_plugs (asked_of c.args.words.now) (answer_of made.result) _ made.ensures.status made.ensures.blank

pub returns-then-is_err-2-clause-answers : goal.returns-then-is_err-2-clause-answers
returns-then-is_err-2-clause-answers g c =
    let made = c.end_before_run-then-is_err-2 in
    gave_up shipped_plugs (asked_of c.args.words.now) (answer_of made.result) _ made.ensures.status made.ensures.blank

pub returns-clause-complete : goal.returns-clause-complete
returns-clause-complete g c =
    let old = g.F.Folder.state c.args.folder.now in
    let new = g.F.Folder.state c.run_streams.new.folder in
    let same : plugged_by shipped_book c.add_both.new.plugs.items c.hire_both.new.customs.items ≡ shipped_plugs = search rules in
    subst (λ (p : Plugged). (a : Asked) → asked_of c.args.words.now ≡ Some a → IsValidFor p a.generated a.file a.trace a.replay old new → RoseNowhere old new → WasRun c.run_streams.result.status)
    same c.run_streams.ensures.complete
