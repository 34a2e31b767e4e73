use Rattle.std.proofs.Common.{◌≡◌, ◌++◌, drop}
use Rattle.blue_lang.specs.Spaced.{spaced}
use Rattle.blue_lang.specs.Canonical.{later_words}
use Rattle.blue_lang.proofs.print.print_later.Given as goal

abbrev pub invariant-loop-step : goal.invariant-loop-step
invariant-loop-step l =
    l.out.items ++ spaced (later_words (drop l.step-index l.steps)) ≡ l.initial.out.items ++ spaced (later_words l.steps)
