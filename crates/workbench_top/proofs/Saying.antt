-- Answers on a text that says a blueprint which breaks no rule.
use Rattle.std.proofs.Common.{◌≡◌, ◌≤◌, ◌⊎◌, ◌∙◌, inl, inr, ℕ, List, [], length, sym, subst}
use Rattle.blue_lang.proofs.Roundtrip.{canonical_says}
use Rattle.blue_lang.specs.Texts.{Says}
use Rattle.blue_lang.specs.Canonical.{canonical}
use Rattle.blue_modules.specs.Text.{PlainText}
use Rattle.stream_model.specs.declared.blueprint.Blueprint.{Blueprint}
use Rattle.stream_model.specs.Shape.{IsPolytree}
use Rattle.blue_check.specs.Forest.{wiring}
use Rattle.blue_check.specs.Wires.{blueprint_wires}
use Rattle.workbench_draw.specs.Judging.{IsFitText}
use Rattle.workbench_draw.specs.Drawing.{IsDrawingOf}
use Rattle.workbench_draw.specs.Turns.{Suffices}
use Rattle.workbench_top.specs.Answer.{Checks, Counts, DrawsFit, DrawsAnswer, DrawsInput, RefusesReport}
use Rattle.workbench_top.specs.Rows.{SaysRow}
use Rattle.workbench_top.specs.declared.answer.Answer.{Answer}
use Rattle.workbench_top.specs.declared.answer.Ending.TheVariants as ending

-- nothing is said, and warnings are told at most
pub passes : (text file told : List ℕ) (b : Blueprint) (a : Answer) → IsFitText text file b → a.ending ≡ ending.Done → a.said.items ≡ [] → a.told.items ≡ told
    → (IsPolytree (wiring (blueprint_wires b)) → told ≡ []) → Checks text file a
passes text file told b a fit done said is none = inl (record { ending = done; blueprint = b; fit = fit; said = said; told = λ tree. is ∙ none tree })

-- a drawing is said
pub draws_fit : (text file drawing : List ℕ) (b : Blueprint) (a : Answer) → IsFitText text file b → a.ending ≡ ending.Done → a.said.items ≡ drawing → IsDrawingOf b drawing → DrawsFit text file a
draws_fit text file drawing b a fit done said draws = record { ending = done; blueprint = b; fit = fit; said = subst (λ t. IsDrawingOf b t) (sym said) draws }

-- a drawing is said, or a fault told, of the text, or a report that was read is told to be none of it
pub draws_input : (text file report : List ℕ) (a : Answer) → DrawsAnswer text file a ⊎ RefusesReport report a → DrawsInput text file a
draws_input text file report a answers = elim answers [
  | inl drawn ↦ inl drawn
  | inr refused ↦ inr (inl refused.tells)
]

-- the units are said
pub says_units : (text file counts units : List ℕ) (b : Blueprint) (a : Answer) → IsFitText text file b → a.ending ≡ ending.Done → a.said.items ≡ units → Suffices b counts units → Counts text file counts a
says_units text file counts units b a fit done said suffices = inl (record { ending = done; blueprint = b; fit = fit; said = subst (λ t. Suffices b counts t) (sym said) suffices })

-- no units are said
pub misses : (text file counts : List ℕ) (b : Blueprint) (a : Answer) → IsFitText text file b → (a.ending ≡ ending.Words) ⊎ (a.ending ≡ ending.NoMemory) → (a.ending ≡ ending.Words → a.said.items ≡ []) → Counts text file counts a
misses text file counts b a fit ends said = elim ends [
  | inl words ↦ inr (inl (record { ending = words; blueprint = b; fit = fit; said = said words }))
  | inr memory ↦ inr (inr (inr memory))
]

-- the canonical text of a row is said, and is read again as the same
pub says_row : (text said : List ℕ) (b : PlainText) (a : Answer) → Says text b → a.ending ≡ ending.Done → a.said.items ≡ said → a.told.items ≡ [] → said ≡ canonical b → length said ≤ 1048576 → SaysRow text a
says_row text said b a says done same told is short =
    let whole : a.said.items ≡ canonical b = same ∙ is in
    record {
      ending = done;
      meant = b;
      says = says;
      said = whole;
      told = told;
      again = subst (λ t. Says t b) (sym whole) (canonical_says text b says (subst (λ t. length t ≤ 1048576) is short));
    }
