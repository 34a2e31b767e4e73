use Rattle.std.proofs.Common.{ap, sym, subst, map, List, ℕ, ◌∙◌}
use Rattle.clap.specs.Kinds.{HasKind}
use Rattle.clap.specs.Simple.{is_simple, matches_of}
use Rattle.clap.specs.Faults.{fault_of, is_simple_and_free}
use Rattle.run_report.proofs.Telling.{ok_says, err_says}
use Rattle.run_report.proofs.parts.matches_of.Goals as goal

pub returns-in-Ok-clause-ok : goal.returns-in-Ok-clause-ok
returns-in-Ok-clause-ok c =
    let app = c.in_ok-streams.ensures in
    let words : List (List ℕ) = map (λ text. text.now) c.args.texts.now in
    let none = c.in-Ok.ensures.kinds (ap is_simple_and_free app) in
    let rows = (c.in-Ok.ensures.matches (ap is_simple app)).0 in
    ok_says words c.in-Ok.matches c.requires (ap (λ a. fault_of a words) (sym app) ∙ none) (rows ∙ ap (λ a. matches_of a words) app)

pub returns : goal.returns
returns c =
    let app = c.in_ok-streams.ensures in
    let words : List (List ℕ) = map (λ text. text.now) c.args.texts.now in
    let has = c.in-Err.ensures.kinds (ap is_simple_and_free app) in
    record {
      ok = tt;
      usage = λ _. err_says words c.in-Err.error c.requires (subst (λ a. HasKind (fault_of a words) c.in-Err.error) app has) (λ e. c.in_default.not-OutOfMemory (c.kind.ensures ∙ e));
    }
