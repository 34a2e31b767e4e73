-- The goal of `report::put_refused_texts` that the search leaves.
use Rattle.std.proofs.Common.{◌≡◌, ◌∙◌, ◌++◌, List, ℕ, [], sym, ap, subst, codes, OnOk}
use Rattle.std.proofs.lemmas.List.{append_assoc, append-nil}
use Rattle.stream_io.specs.Putting.{Puts}
use Rattle.run_report.proofs.report.put_refused_texts.Goals as goal

four : (a b c d : List ℕ) → a ++ (b ++ (c ++ (d ++ []))) ≡ ((a ++ b) ++ c) ++ d
four a b c d = sym (append_assoc a b (c ++ (d ++ []))) ∙ sym (append_assoc (a ++ b) c (d ++ [])) ∙ ap (λ x. ((a ++ b) ++ c) ++ x) (append-nil d)

pub returns-clause-ok : goal.returns-clause-ok
returns-clause-ok g c =
    subst (λ x. OnOk c.put_parts.result (Puts (g.D.Drain.state c.args.console.now) (g.D.Drain.state c.put_parts.new.drain) (codes "refused line " ++ x)))
    (four c.args.line.now (codes " fault ") c.args.number.now (codes "\n")) c.put_parts.ensures.ok
