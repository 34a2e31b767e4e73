-- Kinds with their deciders, and the steps of chains, are read again from their spelling.
use Rattle.std.proofs.Common.{◌≡◌, ℕ, zero, suc, ◌+◌, ◌≤◌, ◌<◌, Bool, true, false, ◌&&◌, cond, List, [], ◌∷◌, ◌++◌, length, Option, Some, None, Ok, refl, sym, ap, subst, ◌∙◌, append_assoc, append-nil, length-append, arith}
use Rattle.std.specs.Prelude.{codes}
use Rattle.std.specs.List.{list_all}
use Rattle.std.specs.Str.{bytes_eq}
use Rattle.std.proofs.lemmas.Bool.{and_parts, and_from}
use Rattle.std.proofs.lemmas.List.Folds.{list_all-append}
use Rattle.std.proofs.lemmas.Slice.Eq.{bytes_eq-Decides}
use Rattle.elem_core.specs.declared.why.Decider.{Decider}
use Rattle.elem_core.specs.declared.why.Decider.TheVariants.{Stop, Resume, Restart}
use Rattle.stream_model.specs.declared.kind.Kind.{Kind}
use Rattle.blue_modules.specs.declared.text.StepText.{StepText}
use Rattle.blue_words.specs.declared.fault.Version.{Version}
use Rattle.blue_words.specs.declared.fault.Version.TheVariants.{First, Second}
use Rattle.blue_words.specs.Names.{is_word}
use Rattle.blue_words.specs.Reading.{At, Reading, at_map, said, made, with_second, then_read, behind_word, begins_with}
use Rattle.blue_kinds.specs.Functions.{one_of, said_if}
use Rattle.blue_kinds.specs.Kinds.{decider_word, named_decider, kept_decider, decider_of, may_decide, linear_kind}
use Rattle.blue_kinds.specs.Steps.{read_step, later_steps, with_steps, read_steps, read_chain}
use Rattle.blue_lang.specs.Spaced.{spaced}
use Rattle.blue_lang.specs.Kinds.{kind_words, decider_words}
use Rattle.blue_lang.specs.Kinds as spell
use Rattle.blue_lang.proofs.Spacing.{spaced_append}
use Rattle.blue_lang.specs.Canonical.{step_words, later_words, steps_words}
use Rattle.blue_lang.proofs.Respelling.{Words, AllWords, Kept, Respelled, Tabled, none_tabled, row_word, behind_word_respelled, made_of, then_of, second_of, same_value, same_rest, same_place, made_place, some_if_read}
use Rattle.blue_lang.proofs.Tables.{fixed, one_respelled}
use Rattle.blue_lang.proofs.KindTables.{linear_tabled}

-- ---- deciders
decider_tabled : (w : List ℕ) (ws : Words) → Tabled (fixed decider_word) (λ a. spell.set_decider_word a ∷ []) w ws (said_if (decider_word w) ws)
decider_tabled w ws =
    row_word (fixed decider_word) (λ a. spell.set_decider_word a ∷ []) w (codes "stop") ws Stop _ (λ _. refl) refl
    (row_word (fixed decider_word) (λ a. spell.set_decider_word a ∷ []) w (codes "resume") ws Resume _ (λ _. refl) refl
    (row_word (fixed decider_word) (λ a. spell.set_decider_word a ∷ []) w (codes "restart") ws Restart _ (λ _. refl) refl
    (none_tabled (fixed decider_word) (λ a. spell.set_decider_word a ∷ []) w ws)))

named_decider_respelled : (ws : Words) → Respelled named_decider (λ d. codes "decider" ∷ spell.set_decider_word d ∷ []) ws (named_decider ws)
named_decider_respelled ws =
    behind_word_respelled (codes "decider") (one_of decider_word) (λ d. spell.set_decider_word d ∷ []) refl (one_respelled decider_word spell.set_decider_word decider_tabled) ws

-- what is read again behind other words that are no decider
pub record KeptApart {A : Type 0} (R : Words → Reading A) (spelling : Words) (a : A) (ws rest : Words) : Type 0 where
  pub again : (more : Words) → begins_with (codes "decider") more ≡ false → R (spelling ++ more) ≡ Some (Ok a, more)
  pub shorter : length (spaced spelling) + length (spaced rest) ≤ length (spaced ws)
  pub words : AllWords spelling
  pub left : AllWords rest

none_again : (may : Bool) (more : Words) → begins_with (codes "decider") more ≡ false → decider_of Second may more ≡ Some (Ok None, more)
none_again true more h = ap (λ b. cond b (made (kept_decider Second) (named_decider more)) (said None more)) h
none_again false more h = refl

-- no decider is kept
empty_kept : (may : Bool) (ws rest : Words) → length (spaced rest) ≤ length (spaced ws) → AllWords rest → KeptApart (decider_of Second may) (decider_words None) None ws rest
empty_kept may ws rest l a = record { again = λ more h. none_again may more h; shorter = omega (arith, l); words = refl; left = a }

some_kept : (d : Decider) (ws rest : Words) → Kept named_decider (codes "decider" ∷ spell.set_decider_word d ∷ []) d ws rest → KeptApart (decider_of Second true) (decider_words (Some d)) (Some d) ws rest
some_kept Stop ws rest k = record { again = λ more h. refl; shorter = k.shorter; words = refl; left = k.left }
some_kept Resume ws rest k = record { again = λ more h. refl; shorter = k.shorter; words = refl; left = k.left }
some_kept Restart ws rest k = record { again = λ more h. refl; shorter = k.shorter; words = refl; left = k.left }

named_kept : (v : Version) (d : Decider) (ws rest : Words) → Kept named_decider (codes "decider" ∷ spell.set_decider_word d ∷ []) d ws rest → KeptApart (decider_of Second true) (decider_words (kept_decider v d)) (kept_decider v d) ws rest
named_kept First Stop ws rest k = empty_kept true ws rest (let s = k.shorter in omega arith) k.left
named_kept First Resume ws rest k = some_kept Resume ws rest k
named_kept First Restart ws rest k = some_kept Restart ws rest k
named_kept Second d ws rest k = some_kept d ws rest k

decider_kept_at : (v : Version) (may t : Bool) (ws rest : Words) (d : Option Decider) → (may && begins_with (codes "decider") ws) ≡ t → cond t (made (kept_decider v) (named_decider ws)) (said None ws) ≡ Some (Ok d, rest) → AllWords ws → KeptApart (decider_of Second may) (decider_words d) d ws rest
decider_kept_at v true true ws rest d e h a =
    let m = made_of (kept_decider v) (named_decider ws) d rest h in
    subst
    (λ x. KeptApart (decider_of Second true) (decider_words x) x ws rest)
    m.2
    (named_kept v m.0 ws rest ((named_decider_respelled ws).kept m.0 rest m.1 a))
decider_kept_at v false true ws rest d e h a = absurd (let k : ⊥ = cc in k)
decider_kept_at v may false ws rest d e h a =
    let s : None ≡ d = same_value None d ws rest h in
    let r : ws ≡ rest = same_rest (Ok None) (Ok d) ws rest h in
    subst
    (λ x. KeptApart (decider_of Second may) (decider_words x) x ws rest)
    s
    (empty_kept may ws rest (omega (arith, ap (λ x. length (spaced x)) r)) (subst AllWords r a))

pub decider_kept : (v : Version) (may : Bool) (ws rest : Words) (d : Option Decider) → decider_of v may ws ≡ Some (Ok d, rest) → AllWords ws → KeptApart (decider_of Second may) (decider_words d) d ws rest
decider_kept v may ws rest d h a = decider_kept_at v may (may && begins_with (codes "decider") ws) ws rest d refl h a

-- ---- a kind of a table, with its decider
abbrev pub deciding : Version → (List ℕ → Words → Reading Kind) → Words → Reading (Kind × Option Decider)
deciding v table [] = None
deciding v table (w ∷ ws) = then_read (table w ws) (decider_of v (may_decide w))

abbrev pub decided_words : Kind × Option Decider → Words
decided_words r = kind_words r.0 ++ decider_words r.1

pub deciding_kept : (v : Version) (table : List ℕ → Words → Reading Kind) → ((w : List ℕ) (ws : Words) → Tabled table kind_words w ws (table w ws)) → (ws rest : Words) (r : Kind × Option Decider) → deciding v table ws ≡ Some (Ok r, rest) → AllWords ws → KeptApart (deciding Second table) (decided_words r) r ws rest
deciding_kept v table tabled [] rest r h a = absurd (let k : ⊥ = cc in k)
deciding_kept v table tabled (w ∷ ws) rest r h a =
    let p = then_of (table w ws) (decider_of v (may_decide w)) r rest h in
    let parts = and_parts (is_word w) (list_all is_word ws) a in
    let k = (tabled w ws).kept r.0 p.0 p.1 parts.1 in
    let d = decider_kept v (may_decide w) p.0 rest r.1 p.2 k.left in
    let front : decided_words r ≡ w ∷ (k.tail ++ decider_words r.1) = ap (λ x. x ++ decider_words r.1) k.head in
    record {
      again = λ more f. ap (λ x. deciding Second table (x ++ more)) front ∙ (ap (λ x. then_read (table w x) (decider_of Second (may_decide w))) (append_assoc k.tail (decider_words r.1) more) ∙ (ap (λ x. then_read x (decider_of Second (may_decide w))) (k.again (decider_words r.1 ++ more)) ∙ ap (with_second (Ok r.0)) (d.again more f)));
      shorter = omega (arith, ap (λ x. length (spaced x)) front, length-append w (spaced (k.tail ++ decider_words r.1)), ap length (spaced_append k.tail (decider_words r.1)), length-append (spaced k.tail) (spaced (decider_words r.1)), length-append w (spaced ws), k.shorter, d.shorter);
      words = ap (list_all is_word) front ∙ and_from _ _ parts.0 (list_all-append is_word k.tail (decider_words r.1) ∙ and_from _ _ k.words d.words);
      left = d.left;
    }

-- ---- steps
abbrev step_from : Kind × Option Decider → StepText
step_from r = record { kind = r.0; decider = r.1 }

step_is : (v : Version) (ws : Words) → read_step v ws ≡ made step_from (deciding v linear_kind ws)
step_is v [] = refl
step_is v (w ∷ ws) = refl

step_kept : (v : Version) (ws rest : Words) (s : StepText) → read_step v ws ≡ Some (Ok s, rest) → AllWords ws → KeptApart (read_step Second) (step_words s) s ws rest
step_kept v ws rest s h a =
    let m = made_of step_from (deciding v linear_kind ws) s rest (sym (step_is v ws) ∙ h) in
    let k = deciding_kept v linear_kind linear_tabled ws rest m.0 m.1 a in
    subst
    (λ x. KeptApart (read_step Second) (step_words x) x ws rest)
    m.2
    (record {
      again = λ more f. step_is Second (decided_words m.0 ++ more) ∙ ap (made step_from) (k.again more f);
      shorter = k.shorter;
      words = k.words;
      left = k.left;
    })

-- a word stands in every step
step_some : (s : StepText) (ws rest : Words) → KeptApart (read_step Second) (step_words s) s ws rest → 0 < length (step_words s)
step_some s ws rest k = from_words (step_words s) (k.again [] refl)
  where
    from_words : (xs : Words) → read_step Second (xs ++ []) ≡ Some (Ok s, []) → 0 < length xs
    from_words [] h = absurd (let c : ⊥ = cc in c)
    from_words (x ∷ xs) h = omega arith

-- the steps of a chain, up to the end of the words
pub record KeptSteps (ss : List StepText) (ws rest : Words) : Type 0 where
  pub again : (n : ℕ) → length (steps_words ss) ≤ n → read_steps Second n (steps_words ss) ≡ Some (Ok ss, [])
  pub some : (later_words ss ≡ codes "|" ∷ steps_words ss) × (0 < length (steps_words ss))
  pub shorter : length (spaced (steps_words ss)) ≤ length (spaced ws)
  pub words : AllWords (steps_words ss)
  pub done : rest ≡ []

one_step : (s : StepText) (ws rest : Words) → KeptApart (read_step Second) (step_words s) s ws rest → KeptSteps (s ∷ []) ws []
one_step s ws rest k =
    let n = step_some s ws rest k in
    let whole : read_step Second (step_words s ++ []) ≡ Some (Ok s, []) = k.again [] refl in
    record {
      again = λ m l. again m (omega (arith, length-append (step_words s) [])) whole;
      some = (refl, omega (arith, length-append (step_words s) []));
      shorter = omega (arith, ap (λ x. length (spaced x)) (append-nil (step_words s)), k.shorter);
      words = ap (list_all is_word) (append-nil (step_words s)) ∙ k.words;
      done = refl;
    }
  where
    again : (m : ℕ) → 0 < m → read_step Second (step_words s ++ []) ≡ Some (Ok s, []) → read_steps Second m (step_words s ++ []) ≡ Some (Ok (s ∷ []), [])
    again zero l h = absurd (omega arith)
    again (suc m) l h = ap (λ r. with_steps r (read_steps Second m)) h

more_steps : (s : StepText) (ts : List StepText) (ws vs us : Words) → KeptApart (read_step Second) (step_words s) s ws vs → 2 + length (spaced us) ≤ length (spaced vs) → KeptSteps ts us [] → KeptSteps (s ∷ ts) ws []
more_steps s ts ws vs us k l t =
    let n = step_some s ws vs k in
    let words : steps_words (s ∷ ts) ≡ step_words s ++ codes "|" ∷ steps_words ts = ap (λ x. step_words s ++ x) t.some.0 in
    let first : read_step Second (step_words s ++ codes "|" ∷ steps_words ts) ≡ Some (Ok s, codes "|" ∷ steps_words ts) = k.again (codes "|" ∷ steps_words ts) refl in
    let count = length-append (step_words s) (codes "|" ∷ steps_words ts) in
    record {
      again = λ m j. ap (read_steps Second m) words ∙ again m (omega (arith, ap length words, count)) first t.again;
      some = (refl, omega (arith, ap length words, count));
      shorter = omega (arith, ap (λ x. length (spaced x)) words, ap length (spaced_append (step_words s) (codes "|" ∷ steps_words ts)), length-append (spaced (step_words s)) (spaced (codes "|" ∷ steps_words ts)), k.shorter, t.shorter);
      words = ap (list_all is_word) words ∙ (list_all-append is_word (step_words s) (codes "|" ∷ steps_words ts) ∙ and_from _ _ k.words t.words);
      done = refl;
    }
  where
    again : (m : ℕ) → length (steps_words ts) < m → read_step Second (step_words s ++ codes "|" ∷ steps_words ts) ≡ Some (Ok s, codes "|" ∷ steps_words ts) → ((n : ℕ) → length (steps_words ts) ≤ n → read_steps Second n (steps_words ts) ≡ Some (Ok ts, [])) → read_steps Second m (step_words s ++ codes "|" ∷ steps_words ts) ≡ Some (Ok (s ∷ ts), [])
    again zero l h f = absurd (omega arith)
    again (suc m) l h f =
        ap (λ r. with_steps r (read_steps Second m)) h ∙ ap (λ r. made (λ q. q.0 ∷ q.1) (with_second (Ok s) r)) (f m (omega arith))

abbrev IsKept : Version → ℕ → Type 0
IsKept v n = (ws rest : Words) (ss : List StepText) → read_steps v n ws ≡ Some (Ok ss, rest) → AllWords ws → KeptSteps ss ws rest

abbrev one_of_steps : StepText → List StepText
one_of_steps s = s ∷ []

abbrev onto_steps : StepText × List StepText → List StepText
onto_steps q = q.0 ∷ q.1

steps_behind : (v : Version) (n : ℕ) → IsKept v n → (ws rest : Words) (ss : List StepText) (p : At StepText) (vs : Words) → read_step v ws ≡ Some (p, vs) → later_steps p (read_steps v n) vs ≡ Some (Ok ss, rest) → AllWords ws → KeptSteps ss ws rest
steps_behind v n ih ws rest ss p [] e h a =
    let m = made_place one_of_steps p ss (same_place (at_map one_of_steps p) (Ok ss) [] rest h) in
    let step : read_step v ws ≡ Some (Ok m.0, []) = e ∙ ap (λ x. Some (x, [])) m.1 in
    let k = one_step m.0 ws [] (step_kept v ws [] m.0 step a) in
    subst (λ x. KeptSteps x ws rest) m.2 (subst (KeptSteps (m.0 ∷ []) ws) (same_rest (at_map one_of_steps p) (Ok ss) [] rest h) k)
steps_behind v n ih ws rest ss p (u ∷ us) e h a =
    let m = made_of onto_steps (with_second p (behind_word (codes "|") (read_steps v n) (u ∷ us))) ss rest h in
    let q = second_of p (behind_word (codes "|") (read_steps v n) (u ∷ us)) m.0 rest m.1 in
    let b = some_if_read (bytes_eq u (codes "|")) (read_steps v n us) m.0.1 rest q.1 in
    let step : read_step v ws ≡ Some (Ok m.0.0, u ∷ us) = e ∙ ap (λ x. Some (x, u ∷ us)) q.0 in
    let k = step_kept v ws (u ∷ us) m.0.0 step a in
    let parts = and_parts (is_word u) (list_all is_word us) k.left in
    let t = ih us rest m.0.1 b.1 parts.1 in
    let bar : u ≡ codes "|" = (bytes_eq-Decides u (codes "|")).0 b.0 in
    let room : 2 + length (spaced us) ≤ length (spaced (u ∷ us)) = omega (arith, length-append u (spaced us), ap length bar) in
    let whole = more_steps m.0.0 m.0.1 ws (u ∷ us) us k room (subst (KeptSteps m.0.1 us) t.done t) in
    subst (λ x. KeptSteps x ws rest) m.2 (subst (KeptSteps (m.0.0 ∷ m.0.1) ws) (sym t.done) whole)

steps_from : (v : Version) (n : ℕ) → IsKept v n → (ws rest : Words) (ss : List StepText) (r : Reading StepText) → read_step v ws ≡ r → with_steps r (read_steps v n) ≡ Some (Ok ss, rest) → AllWords ws → KeptSteps ss ws rest
steps_from v n ih ws rest ss None e h a = absurd (let k : ⊥ = cc in k)
steps_from v n ih ws rest ss (Some r) e h a = steps_behind v n ih ws rest ss r.0 r.1 e h a

steps_kept : (v : Version) (n : ℕ) → IsKept v n
steps_kept v zero ws rest ss h a = absurd (let k : ⊥ = cc in k)
steps_kept v (suc n) ws rest ss h a = steps_from v n (steps_kept v n) ws rest ss (read_step v ws) refl h a

pub chain_kept : (v : Version) (ws rest : Words) (ss : List StepText) → read_chain v ws ≡ Some (Ok ss, rest) → AllWords ws → KeptSteps ss ws rest
chain_kept v ws rest ss h a = steps_kept v (length ws) ws rest ss h a
