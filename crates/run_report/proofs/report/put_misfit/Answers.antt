-- The goal of `report::put_misfit` that the search leaves.
use Rattle.std.proofs.Common.{◌≡◌, ◌∙◌, ◌++◌, List, ℕ, sym, subst, codes, OnOk, rules}
use Rattle.std.proofs.lemmas.List.{append_assoc}
use Rattle.std.specs.Fmt.{decimal}
use Rattle.stream_io.specs.Putting.{Puts}
use Rattle.run_report.proofs.report.put_misfit.Goals as goal

four : (a b c d : List ℕ) → a ++ (b ++ (c ++ d)) ≡ ((a ++ b) ++ c) ++ d
four a b c d = sym (append_assoc a b (c ++ d)) ∙ sym (append_assoc (a ++ b) c d)

pub returns-clause-ok : goal.returns-clause-ok
returns-clause-ok g c =
    let node : c.as_bytes.result.now ≡ decimal c.args.node = search rules in
    let place : c.as_bytes-2.result.now ≡ decimal c.args.place = search rules in
    subst (λ x. OnOk c.put_parts.result (Puts (g.D.Drain.state c.args.console.now) (g.D.Drain.state c.put_parts.new.drain) (codes "misfit stage " ++ x)))
    (four (decimal c.args.node) (codes " pick ") (decimal c.args.place) (codes "\n")) (rw (node, place) at c.put_parts.ensures.ok)
