use Rattle.std.proofs.Common.{◌≡◌, ◌∷◌, rules}
use Rattle.blue_lang.proofs.Printing.{all_steps}
use Rattle.blue_lang.proofs.print.print_steps.Goals as goal

pub returns-in_ok-print_later-in-Some : goal.returns-in_ok-print_later-in-Some
returns-in_ok-print_later-in-Some c =
    let parts : c.args.steps.now ≡ c.in-Some.first.now ∷ c.in-Some.rest.now = search rules in
    all_steps _ _ _ _ _ _ parts c.in_ok-print_step-in-Some.ensures c.in_ok-print_later-in-Some.ensures
