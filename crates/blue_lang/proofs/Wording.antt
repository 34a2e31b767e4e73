-- The words of a line whose first word may stand there.
use Rattle.std.proofs.Common.{◌≡◌, Bool, true, false, ℕ, List, ◌∷◌, length, Option, Some, None, Ok, Err, refl, sym, ap, ◌∙◌}
use Rattle.std.specs.Prelude.{Result, OnOk, is_some, if◌then◌else◌}
use Rattle.std.specs.Option.{option_map}
use Rattle.blue_modules.specs.Text.{PlainModule}
use Rattle.blue_words.specs.declared.fault.BlueKind.TheVariants.{BadLine, TooMany}
use Rattle.blue_words.specs.declared.fault.Version.{Version}
use Rattle.blue_words.specs.Reading.{At}
use Rattle.blue_lang.specs.Declarations.{Declaration, declaration, declared_by, is_misplaced, read_whole}
use Rattle.blue_lang.specs.Progress.{Sofar, context, with_declaration, with_declared, DeclaresWords}
use Rattle.blue_lang.specs.Texts.{declaration_at, declaration_fault, has_room, words_fault}

-- a module is open just where its ports are counted
same_open : (o : Option PlainModule) → is_some (option_map (λ m. length m.ports) o) ≡ is_some o
same_open None = refl
same_open (Some m) = refl

module _ (v : Version) (s : Sofar) (old : List (List ℕ)) (w : List ℕ) (ws : List (List ℕ)) (at : old ≡ w ∷ ws) (stands : is_misplaced (is_some s.opened) s.defaulted w ≡ false) (p : At Declaration) (reads : p ≡ read_whole (declaration v w ws)) where
  -- what is wrong with them is what is wrong with what they declare
  pub fault_of_words : words_fault v (context s) old ≡ declaration_fault (context s) p
  fault_of_words =
      ap (words_fault v (context s)) at
      ∙ (ap (λ (b : Bool). if is_misplaced b s.defaulted w then Some BadLine else declaration_fault (context s) (read_whole (declaration v w ws))) (same_open s.opened)
      ∙ (ap (λ (b : Bool). if b then Some BadLine else declaration_fault (context s) (read_whole (declaration v w ws))) stands
      ∙ ap (declaration_fault (context s)) (sym reads)))

  -- and they declare just that
  declared : declaration_at (declared_by v old) ≡ declaration_at p
  declared = ap (λ (x : List (List ℕ)). declaration_at (declared_by v x)) at ∙ ap declaration_at (sym reads)

-- where there is room for what they declare it is added
pub words_declare : (v : Version) (s s' : Sofar) (old : List (List ℕ)) (w : List ℕ) (ws : List (List ℕ)) → old ≡ w ∷ ws → is_misplaced (is_some s.opened) s.defaulted w ≡ false → (d : Declaration) → Ok d ≡ read_whole (declaration v w ws)
    → has_room (context s) d ≡ true → s' ≡ with_declaration s d → DeclaresWords v s old s'
words_declare v s s' old w ws at stands d reads room adds = record {
  faultless = fault_of_words v s old w ws at stands (Ok d) reads ∙ ap (λ (b : Bool). if b then None else Some TooMany) room;
  adds = adds ∙ ap (with_declared s) (sym (declared v s old w ws at stands (Ok d) reads));
}

-- what follows of two things holds where both hold of no error
pub on_ok_both : {T E P Q R : Type 0} (r : Result T E) → OnOk r P → OnOk r Q → (P → Q → R) → OnOk r R
on_ok_both (Ok x) p q f = f p q
on_ok_both (Err e) p q f = tt
