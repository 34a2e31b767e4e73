-- The goals of `comments::says_same` that the search leaves.
use Rattle.std.proofs.Common.{◌≤◌, ◌∙◌, ℕ, List, length, subst, rules, arith}
use Rattle.blue_modules.specs.Text.{plain_text}
use Rattle.workbench_top.proofs.Commenting.{says_same}
use Rattle.workbench_top.proofs.comments.says_same.Goals as goal

pub returns-in_ok-is-in-Ok : goal.returns-in_ok-is-in-Ok
returns-in_ok-is-in-Ok c = λ is.
    let short : length c.args.wanted.now ≤ 1048576 = search (rules, arith) in
    says_same c.args.text.now c.args.said.now (plain_text c.args.meant.now) (plain_text c.in-Ok.again) c.requires.says c.in-Ok.ensures.ok (c.in_ok-is-in-Ok.ensures is ∙ c.requires.canonical) (subst (λ (t : List ℕ). length t ≤ 1048576) c.requires.canonical short)
