use Rattle.std.proofs.Common.{◌≡◌, ◌∙◌, ℕ, List, sym, subst}
use Rattle.std.specs.Option.{option_or}
use Rattle.elem_core.specs.Values.{same_text}
use Rattle.blue_names.specs.First.{when}
use Rattle.blue_names.specs.Table.{number_in}
use Rattle.blue_names.proofs.NameTables.{noted_free, noted_again}
use Rattle.blue_names.proofs.table.note_name.Goals as goal

pub returns-in-None-clause-noted : goal.returns-in-None-clause-noted
returns-in-None-clause-noted c =
    let P : List ℕ → Type 0 = λ s. (q : List ℕ) → number_in c.insert.new.self q ≡ option_or (number_in c.args.table.now q) (when (same_text q s) c.args.number) in
    subst P c.bytes-name.ensures.value
    (noted_free c.args.table.now c.insert.new.self c.bytes-name.result.now c.args.number c.in_ok-insert.ensures.updates (sym c.in-None.is ∙ c.in_ok-insert.ensures.old))

pub returns-in_ok-insert-in-Some-clause-noted : goal.returns-in_ok-insert-in-Some-clause-noted
returns-in_ok-insert-in-Some-clause-noted c =
    let P : List ℕ → Type 0 = λ s. (q : List ℕ) → number_in c.insert-in-Some.new.self q ≡ option_or (number_in c.args.table.now q) (when (same_text q s) c.args.number) in
    subst P c.bytes-name.ensures.value
    (noted_again c.args.table.now c.insert.new.self c.bytes-name.result.now c.args.number c.in_ok-insert.ensures.updates c.insert-in-Some.new.self c.in-Some.first c.in_ok-insert-in-Some.ensures.updates (sym c.in-Some.is ∙ c.in_ok-insert.ensures.old))
