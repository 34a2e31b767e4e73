use Rattle.std.proofs.Common.{◌≡◌, ◌≢◌, false, [], ◌∷◌, sym, ◌∙◌, rules}
use Rattle.std.specs.Prelude.{codes}
use Rattle.std.proofs.lemmas.Bool.{true≢false}
use Rattle.blue_words.specs.Reading.{begins_with}
use Rattle.blue_kinds.proofs.StepReading.{steps_err, steps_end, steps_stop, steps_more}
use Rattle.blue_kinds.proofs.steps.read_steps.Goals as goal

pub returns-in-Err : goal.returns-in-Err
returns-in-Err c = steps_err _ _ _ _ _ c.in-Err.end c.loop-step.invariant c.in-Err.ensures

pub returns-then-is_empty : goal.returns-then-is_empty
returns-then-is_empty c =
    let none : c.read_step.new.words ≡ [] = c.is_empty.ensures.0 c.if-is_empty.true in
    steps_end _ _ _ _ _ _ _ c.loop-step.invariant c.in-Ok.ensures none c.in-Ok-with_step.ensures

pub returns-then-not-skip : goal.returns-then-not-skip
returns-then-not-skip c =
    let some : c.read_step.new.words ≢ [] = λ e. true≢false (sym (c.is_empty.ensures.1 e) ∙ c.if-is_empty.false) in
    let other : begins_with (codes "|") c.read_step.new.words ≡ false = search rules in
    steps_stop _ _ _ _ _ _ c.loop-step.invariant c.in-Ok.ensures other some

pub loop-step-smaller : goal.loop-step-smaller
loop-step-smaller c =
    let next : c.read_step.new.words ≡ codes "|" ∷ c.skip.new.self = search rules in
    (steps_more _ _ _ _ _ _ _ _ c.loop-step.invariant c.in-Ok.ensures next c.in-Ok-with_step.ensures).1

pub loop-step-preserved : goal.loop-step-preserved
loop-step-preserved c =
    let next : c.read_step.new.words ≡ codes "|" ∷ c.skip.new.self = search rules in
    (steps_more _ _ _ _ _ _ _ _ c.loop-step.invariant c.in-Ok.ensures next c.in-Ok-with_step.ensures).0
