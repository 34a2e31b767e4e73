-- The text that is printed, piece by piece.
use Rattle.std.proofs.Common.{◌≡◌, ℕ, ◌+◌, ◌<◌, suc, List, [], ◌∷◌, ◌++◌, length, drop, get_or, map, refl, sym, ap, ◌∙◌, append_assoc, append-nil, add-one}
use Rattle.std.specs.Prelude.{codes}
use Rattle.std.specs.List.{flat_map}
use Rattle.std.proofs.Math.Seq.{drop-cons}
use Rattle.blue_modules.specs.declared.text.Module.{Module}
use Rattle.blue_modules.specs.declared.text.StepText.{StepText}
use Rattle.blue_modules.specs.Text.{PlainModule, plain_module}
use Rattle.blue_lang.specs.Spaced.{spaced}
use Rattle.blue_lang.proofs.Spacing.{spaced_behind}
use Rattle.blue_lang.specs.Declarations.{Declaration, opens, port, part, ends}
use Rattle.blue_lang.specs.Canonical.{step_words, later_words, steps_words, declaration_words, module_lines, line_text, version_words, declared_text}

-- one step more behind `|`
pub later_step : (steps : List StepText) (i : ℕ) (s : StepText) (out new whole : List ℕ) → i < length steps → s ≡ get_or steps i s → out ++ spaced (later_words (drop i steps)) ≡ whole → new ≡ out ++ spaced (codes "|" ∷ step_words s) → new ++ spaced (later_words (drop (i + 1) steps)) ≡ whole
later_step steps i s out new whole l e h n =
    let rest = later_words (drop (suc i) steps) in
    let first : drop i steps ≡ s ∷ drop (suc i) steps = drop-cons steps i s l ∙ ap (λ x. x ∷ drop (suc i) steps) (sym e) in
    let text : new ++ spaced rest ≡ out ++ spaced (later_words (drop i steps)) = spaced_behind out new (new ++ spaced rest) (codes "|" ∷ step_words s) rest n refl ∙ ap (λ x. out ++ spaced (later_words x)) (sym first) in
    rw (add-one i) (text ∙ h)

-- the first step and those behind it
pub all_steps : (steps rest : List StepText) (s : StepText) (old mid new : List ℕ) → steps ≡ s ∷ rest → mid ≡ old ++ spaced (step_words s) → new ≡ mid ++ spaced (later_words rest) → new ≡ old ++ spaced (steps_words steps)
all_steps steps rest s old mid new e m n =
    spaced_behind old mid new (step_words s) (later_words rest) m n ∙ ap (λ x. old ++ spaced (steps_words x)) (sym e)

-- ---- the text of declarations
declared_append : (a b : List Declaration) → declared_text (a ++ b) ≡ declared_text a ++ declared_text b
declared_append [] b = refl
declared_append (d ∷ a) b =
    ap (λ x. line_text (declaration_words d) ++ x) (declared_append a b) ∙ sym (append_assoc (line_text (declaration_words d)) (declared_text a) (declared_text b))

declared_behind : (old mid new : List ℕ) (a b : List Declaration) → mid ≡ old ++ declared_text a → new ≡ mid ++ declared_text b → new ≡ old ++ declared_text (a ++ b)
declared_behind old mid new a b e f =
    f ∙ (ap (λ x. x ++ declared_text b) e ∙ (append_assoc old (declared_text a) (declared_text b) ∙ ap (λ x. old ++ x) (sym (declared_append a b))))

-- one declaration
pub declared_one : (old new : List ℕ) (d : Declaration) → new ≡ old ++ line_text (declaration_words d) → new ≡ old ++ declared_text (d ∷ [])
declared_one old new d h = h ∙ ap (λ x. old ++ x) (sym (append-nil (line_text (declaration_words d))))

-- a module: its line, its ports, its body and its end
pub module_text : (old one two three four : List ℕ) (m : PlainModule) → one ≡ old ++ line_text (declaration_words (opens m.name m.attrs)) → two ≡ one ++ declared_text (map port m.ports) → three ≡ two ++ declared_text (map part m.body) → four ≡ three ++ line_text (declaration_words ends) → four ≡ old ++ declared_text (module_lines m)
module_text old one two three four m h1 h2 h3 h4 =
    let first = declared_one old one (opens m.name m.attrs) h1 in
    let last = declared_one three four ends h4 in
    let body : four ≡ two ++ declared_text (map part m.body ++ ends ∷ []) = declared_behind two three four (map part m.body) (ends ∷ []) h3 last in
    let inner : four ≡ one ++ declared_text (map port m.ports ++ (map part m.body ++ ends ∷ [])) = declared_behind one two four (map port m.ports) (map part m.body ++ ends ∷ []) h2 body in
    declared_behind old one four (opens m.name m.attrs ∷ []) (map port m.ports ++ (map part m.body ++ ends ∷ [])) first inner

-- one module more
pub later_module : (ms : List Module) (i : ℕ) (m : Module) (out new whole : List ℕ) → i < length ms → m ≡ get_or ms i m → out ++ declared_text (flat_map module_lines (map plain_module (drop i ms))) ≡ whole → new ≡ out ++ declared_text (module_lines (plain_module m)) → new ++ declared_text (flat_map module_lines (map plain_module (drop (i + 1) ms))) ≡ whole
later_module ms i m out new whole l e h n =
    let rest : List Declaration = flat_map module_lines (map plain_module (drop (suc i) ms)) in
    let first : drop i ms ≡ m ∷ drop (suc i) ms = drop-cons ms i m l ∙ ap (λ x. x ∷ drop (suc i) ms) (sym e) in
    let text : new ++ declared_text rest ≡ out ++ declared_text (flat_map module_lines (map plain_module (drop i ms))) = declared_behind out new (new ++ declared_text rest) (module_lines (plain_module m)) rest n refl ∙ ap (λ x. out ++ declared_text (flat_map module_lines (map plain_module x))) (sym first) in
    rw (add-one i) (text ∙ h)

-- the whole text: the version line, and five lists of declarations
pub whole_text : (start zero one two three four : List ℕ) (a b c d e : List Declaration) → start ≡ line_text version_words → zero ≡ start ++ declared_text a → one ≡ zero ++ declared_text b → two ≡ one ++ declared_text c → three ≡ two ++ declared_text d → four ≡ three ++ declared_text e → four ≡ line_text version_words ++ declared_text (a ++ (b ++ (c ++ (d ++ e))))
whole_text start zero one two three four a b c d e s h0 h1 h2 h3 h4 =
    let de : four ≡ two ++ declared_text (d ++ e) = declared_behind two three four d e h3 h4 in
    let cde : four ≡ one ++ declared_text (c ++ (d ++ e)) = declared_behind one two four c (d ++ e) h2 de in
    let bcde : four ≡ zero ++ declared_text (b ++ (c ++ (d ++ e))) = declared_behind zero one four b (c ++ (d ++ e)) h1 cde in
    let all : four ≡ start ++ declared_text (a ++ (b ++ (c ++ (d ++ e)))) = declared_behind start zero four a (b ++ (c ++ (d ++ e))) h0 bcde in
    all ∙ ap (λ x. x ++ declared_text (a ++ (b ++ (c ++ (d ++ e))))) s
