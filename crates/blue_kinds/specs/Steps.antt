-- The steps of a chain. Rule: Akka Streams 2.6 reference for what they do, own for their words.
use Rattle.std.specs.Prelude.{ℕ, zero, suc, List, [], ◌∷◌, ◌++◌, length, Some, None, codes}
use Rattle.blue_modules.specs.declared.text.StepText.{StepText}
use Rattle.blue_words.specs.declared.fault.Version.{Version}
use Rattle.blue_words.specs.Reading.{At, Reading, at_map, both, made, with_second, then_read, behind_word}
use Rattle.blue_kinds.specs.Kinds.{linear_kind, may_decide, decider_of}

-- one stage of a chain, with its decider
abbrev pub read_step : Version → List (List ℕ) → Reading StepText
read_step v [] = None
read_step v (w ∷ ws) =
    made (λ r. record { kind = r.0; decider = r.1 }) (then_read (linear_kind w ws) (decider_of v (may_decide w)))

-- the steps behind the first: none where no word is left, else those behind `|`
abbrev pub later_steps : At StepText → (List (List ℕ) → Reading (List StepText)) → List (List ℕ) → Reading (List StepText)
later_steps first next [] = Some (at_map (λ s. s ∷ []) first, [])
later_steps first next (w ∷ ws) = made (λ r. r.0 ∷ r.1) (with_second first (behind_word (codes "|") next (w ∷ ws)))

-- the first step and those behind it
abbrev pub with_steps : Reading StepText → (List (List ℕ) → Reading (List StepText)) → Reading (List StepText)
with_steps None next = None
with_steps (Some r) next = later_steps r.0 next r.1

-- one step or more, parted by `|`, of which at most n are read; a step has a word, so n words have at most n steps
abbrev pub read_steps : Version → ℕ → List (List ℕ) → Reading (List StepText)
read_steps v zero ws = None
read_steps v (suc n) ws = with_steps (read_step v ws) (read_steps v n)

-- all the steps that the words say
abbrev pub read_chain : Version → List (List ℕ) → Reading (List StepText)
read_chain v ws = read_steps v (length ws) ws

-- the step put behind the steps, or what is wrong with the first that has a fault
abbrev pub pushed : At (List StepText) → At StepText → At (List StepText)
pushed steps step = at_map (λ r. r.0 ++ r.1 ∷ []) (both steps step)
