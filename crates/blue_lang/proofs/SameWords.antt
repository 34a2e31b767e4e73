-- What lines without fault declare is said by their words alone.
use Rattle.std.proofs.Common.{◌≡◌, ℕ, ◌+◌, Bool, true, false, not, cond, List, [], ◌∷◌, ◌++◌, length, map, Option, Some, None, Err, refl, sym, ap, ◌∙◌}
use Rattle.std.specs.Prelude.{nat_lt}
use Rattle.std.specs.List.{filter, cons_option}
use Rattle.elem_core.specs.Text.{words, lines}
use Rattle.blue_modules.specs.Text.{PlainText}
use Rattle.blue_words.specs.declared.fault.BlueKind.TheVariants.{BadLine, TooLong}
use Rattle.blue_words.specs.declared.fault.Version.{Version}
use Rattle.blue_words.specs.Line.{is_plain, is_passed_over}
use Rattle.blue_lang.specs.Declarations.{Declaration, declared_by}
use Rattle.blue_lang.specs.Texts.{Says, Context, context_of, text_of, version_of_words, version_of, words_fault, version_fault, behind_version, line_fault, version_in, declaration_at, declarations_from, declarations, fault_behind, first_fault, said_words}
use Rattle.blue_lang.proofs.Respelling.{Words}
use Rattle.blue_lang.proofs.Limits.{Each, none_after, fault_or_none}

-- a line that says something is plain
record Heard (l : List ℕ) : Type 0 where
  plain : is_passed_over l ≡ false → is_plain l ≡ true

plain_said : {A : Type 0} (t : Bool) (o : Option A) (x : A) → cond t o (Some x) ≡ None → t ≡ true
plain_said true o x h = refl
plain_said false o x h = absurd (let k : ⊥ = cc in k)

plain_version : (t : Bool) (o : Option Version) → version_fault (cond t o None) ≡ None → t ≡ true
plain_version true o h = refl
plain_version false o h = absurd (let k : ⊥ = cc in k)

behind_plain : (v : Option Version) (c : Context) (l : List ℕ) → behind_version v c l ≡ None → is_plain l ≡ true
behind_plain None c l h = plain_version (is_plain l) (version_of_words (words l)) h
behind_plain (Some v) c l h = plain_said (is_plain l) (words_fault v c (words l)) BadLine h

line_heard : (v : Option Version) (c : Context) (l : List ℕ) → line_fault v c l ≡ None → Heard l
line_heard v c l h =
    let long = none_after (nat_lt 1024 (length l)) TooLong (cond (is_passed_over l) None (behind_version v c l)) h in
    record { plain = λ e. behind_plain v c l (sym (ap (λ t. cond t None (behind_version v c l)) e) ∙ long.1) }

lines_heard : (before ls : List (List ℕ)) → first_fault before ls ≡ None → Each Heard ls
lines_heard before [] h = tt
lines_heard before (l ∷ ls) h =
    let k = fault_or_none (fault_behind before l) (length before + 1) (first_fault (before ++ l ∷ []) ls) h in
    (line_heard (version_in before) (context_of (declarations before)) l k.0, lines_heard (before ++ l ∷ []) ls k.1)

abbrev kept_lines : List (List ℕ) → List (List ℕ)
kept_lines ls = filter (λ l. not (is_passed_over l)) ls

-- what lists of words declare, where the version of those before them is this
abbrev heard_from : Option Version → List Words → List Declaration
heard_from v [] = []
heard_from None (ws ∷ wss) = heard_from (version_of_words ws) wss
heard_from (Some v) (ws ∷ wss) = cons_option (declaration_at (declared_by v ws)) (heard_from (Some v) wss)

passed_line : (v : Option Version) (l : List ℕ) (ls : List (List ℕ)) → is_passed_over l ≡ true → declarations_from v (l ∷ ls) ≡ declarations_from v ls
passed_line None l ls e = ap (λ t. declarations_from (cond t None (version_of l)) ls) e
passed_line (Some v) l ls e =
    ap (λ t. cons_option (cond t None (declaration_at (cond (is_plain l) (declared_by v (words l)) (Err BadLine)))) (declarations_from (Some v) ls)) e

heard_line : (v : Option Version) (l : List ℕ) (ls : List (List ℕ)) (wss : List Words) → is_passed_over l ≡ false → is_plain l ≡ true → ((w : Option Version) → declarations_from w ls ≡ heard_from w wss) → declarations_from v (l ∷ ls) ≡ heard_from v (words l ∷ wss)
heard_line None l ls wss e p h =
    ap (λ t. declarations_from (cond t None (version_of l)) ls) e ∙ (ap (λ t. declarations_from (cond t (version_of_words (words l)) None) ls) p ∙ h (version_of_words (words l)))
heard_line (Some v) l ls wss e p h =
    ap (λ t. cons_option (cond t None (declaration_at (cond (is_plain l) (declared_by v (words l)) (Err BadLine)))) (declarations_from (Some v) ls)) e
    ∙ (ap (λ t. cons_option (declaration_at (cond t (declared_by v (words l)) (Err BadLine))) (declarations_from (Some v) ls)) p ∙ ap (cons_option (declaration_at (declared_by v (words l)))) (h (Some v)))

-- one line more, whether it is passed over or not
one_line : (v : Option Version) (l : List ℕ) (ls : List (List ℕ)) (t : Bool) → is_passed_over l ≡ t → Heard l → ((w : Option Version) → declarations_from w ls ≡ heard_from w (map words (kept_lines ls))) → declarations_from v (l ∷ ls) ≡ heard_from v (map words (cond (not t) (l ∷ kept_lines ls) (kept_lines ls)))
one_line v l ls true e k h = passed_line v l ls e ∙ h v
one_line v l ls false e k h = heard_line v l ls (map words (kept_lines ls)) e (k.plain e) h

by_words : (v : Option Version) (ls : List (List ℕ)) → Each Heard ls → declarations_from v ls ≡ heard_from v (map words (kept_lines ls))
by_words v [] h = refl
by_words v (l ∷ ls) h = one_line v l ls (is_passed_over l) refl h.0 (λ w. by_words w ls h.1)

said_by_words : (text : List ℕ) (t : PlainText) → Says text t → text_of (heard_from None (said_words text)) ≡ t
said_by_words text t s =
    let clean = none_after (nat_lt 1048576 (length text)) (record { kind = TooLong; line = 0 }) (first_fault [] (lines text)) s.faultless in
    sym (ap text_of (by_words None (lines text) (lines_heard [] (lines text) clean.1))) ∙ s.declared

pub same_words : (text other : List ℕ) (s t : PlainText) → Says text s → Says other t → said_words text ≡ said_words other → s ≡ t
same_words text other s t x y e = sym (said_by_words text s x) ∙ (ap (λ ws. text_of (heard_from None ws)) e ∙ said_by_words other t y)
