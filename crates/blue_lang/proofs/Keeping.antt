-- The mark of a lane that keeps what came before a failure, as it is read.
use Rattle.std.specs.Prelude.{if◌then◌else◌, Ok, codes}
use Rattle.std.proofs.Common.{◌≡◌, ℕ, Bool, true, false, List, [], ◌∷◌, Some, refl, sym, ap, ◌∙◌}
use Rattle.blue_words.specs.Reading.{said, begins_with}
use Rattle.blue_words.specs.declared.fault.Version.TheVariants.{First, Second}
use Rattle.blue_lang.specs.Declarations.{read_keep}

-- version 1 has none
pub none_kept : (ws : List (List ℕ)) → Some (Ok false, ws) ≡ read_keep First ws
none_kept [] = refl
none_kept (w ∷ ws) = refl

pub kept_word : (old new : List (List ℕ)) (r : Bool) → r ≡ begins_with (codes "keep") old → old ≡ (if r then codes "keep" ∷ new else new) → Some (Ok r, new) ≡ read_keep Second old
kept_word [] new true a b = absurd cc
kept_word [] new false a b = ap (λ x. Some (Ok false, x)) (sym b)
kept_word (u ∷ us) new true a b = let same : us ≡ new = cc in ap (λ x. Some (Ok true, x)) (sym same) ∙ ap (λ t. if t then said true us else said false (u ∷ us)) a
kept_word (u ∷ us) new false a b = ap (λ x. Some (Ok false, x)) (sym b) ∙ ap (λ t. if t then said true us else said false (u ∷ us)) a
