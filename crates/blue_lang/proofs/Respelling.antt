-- What is read is read again from its one spelling, which is no longer than what was read.
use Rattle.std.proofs.Common.{◌≡◌, ℕ, ◌+◌, ◌≤◌, Bool, true, false, cond, List, [], ◌∷◌, ◌++◌, length, Option, Some, None, Ok, Err, unwrap_or, refl, sym, ap, subst, ◌∙◌, ⊎_elim, append_assoc, length-append, arith}
use Rattle.std.specs.List.{list_all}
use Rattle.std.specs.Str.{bytes_eq}
use Rattle.std.specs.Result.{result_unwrap_or}
use Rattle.std.proofs.lemmas.Bool.{cases_Bool, and_parts, and_from}
use Rattle.std.proofs.lemmas.List.Folds.{list_all-append}
use Rattle.std.proofs.lemmas.Slice.Eq.{bytes_eq-Decides}
use Rattle.blue_words.specs.Names.{is_word}
use Rattle.blue_words.specs.Reading.{At, Reading, at_map, both, said, made, with_second, then_read, read_place, behind_word, before_word}
use Rattle.blue_kinds.specs.Functions.{said_if}
use Rattle.blue_lang.specs.Spaced.{spaced}
use Rattle.blue_lang.proofs.Spacing.{spaced_append}
pub use Rattle.blue_lang.specs.Spelling.{AllWords}

abbrev pub Words : Type 0
Words = List (List ℕ)

-- a value that was read of the words is read again of its spelling, whatever follows; the spelling is words, and no
-- longer than what was read
pub record Kept {A : Type 0} (R : Words → Reading A) (spelling : Words) (a : A) (ws rest : Words) : Type 0 where
  pub again : (more : Words) → R (spelling ++ more) ≡ Some (Ok a, more)
  pub shorter : length (spaced spelling) + length (spaced rest) ≤ length (spaced ws)
  pub words : AllWords spelling
  pub left : AllWords rest

-- the same of whatever value r reads
pub record Respelled {A : Type 0} (R : Words → Reading A) (S : A → Words) (ws : Words) (r : Reading A) : Type 0 where
  pub kept : (a : A) (rest : Words) → r ≡ Some (Ok a, rest) → AllWords ws → Kept R (S a) a ws rest

-- the same of a table, at its first word
pub record KeptAt {B : Type 0} (table : List ℕ → Words → Reading B) (spelling : Words) (b : B) (w : List ℕ) (ws rest : Words) : Type 0 where
  pub tail : Words
  pub head : spelling ≡ w ∷ tail
  pub again : (more : Words) → table w (tail ++ more) ≡ Some (Ok b, more)
  pub shorter : length (spaced tail) + length (spaced rest) ≤ length (spaced ws)
  pub words : AllWords tail
  pub left : AllWords rest

pub record Tabled {B : Type 0} (table : List ℕ → Words → Reading B) (S : B → Words) (w : List ℕ) (ws : Words) (r : Reading B) : Type 0 where
  pub kept : (b : B) (rest : Words) → r ≡ Some (Ok b, rest) → AllWords ws → KeptAt table (S b) b w ws rest

-- ---- what an equation of readings says
pub same_value : {A : Type 0} (a b : A) (us vs : Words) → ◌≡◌ {A = Reading A} (Some (Ok a, us)) (Some (Ok b, vs)) → a ≡ b
same_value {A} a b us vs h = ap (λ (o : Reading A). result_unwrap_or (unwrap_or {T = At A × Words} o (Ok a, us)).0 a) h

pub same_rest : {A : Type 0} (p q : At A) (us vs : Words) → ◌≡◌ {A = Reading A} (Some (p, us)) (Some (q, vs)) → us ≡ vs
same_rest {A} p q us vs h = ap (λ (o : Reading A). (unwrap_or {T = At A × Words} o (p, us)).1) h

pub same_place : {A : Type 0} (p q : At A) (us vs : Words) → ◌≡◌ {A = Reading A} (Some (p, us)) (Some (q, vs)) → p ≡ q
same_place {A} p q us vs h = ap (λ (o : Reading A). (unwrap_or {T = At A × Words} o (p, us)).0) h

pub made_place : {A B : Type 0} (f : A → B) (p : At A) (b : B) → at_map f p ≡ Ok b → (a : A) × (p ≡ Ok a) × (f a ≡ b)
made_place f (Ok a) b h = (a, refl, ap (λ q. result_unwrap_or q (f a)) h)
made_place f (Err k) b h = absurd (let k : ⊥ = cc in k)

-- what was made was made of something
pub made_of : {A B : Type 0} (f : A → B) (r : Reading A) (b : B) (rest : Words) → made f r ≡ Some (Ok b, rest) → (a : A) × (r ≡ Some (Ok a, rest)) × (f a ≡ b)
made_of f None b rest h = absurd (let k : ⊥ = cc in k)
made_of {A} {B} f (Some r) b rest h =
    let e = same_place (at_map f r.0) (Ok b) r.1 rest h in
    let w = made_place f r.0 b e in
    let s = same_rest (at_map f r.0) (Ok b) r.1 rest h in
    (w.0, ap (λ p. Some (p, r.1)) w.1 ∙ ap (λ vs. Some (Ok w.0, vs)) s, w.2)

pub both_of : {A B : Type 0} (p : At A) (q : At B) (c : A × B) → both p q ≡ Ok c → (p ≡ Ok c.0) × (q ≡ Ok c.1)
both_of (Ok a) (Ok b) c h = let e = ap (λ x. result_unwrap_or x (a, b)) h in (ap (λ x. Ok x.0) e, ap (λ x. Ok x.1) e)
both_of (Ok a) (Err k) c h = absurd (let k : ⊥ = cc in k)
both_of (Err k) q c h = absurd (let k : ⊥ = cc in k)

pub second_of : {A B : Type 0} (p : At A) (r : Reading B) (c : A × B) (rest : Words) → with_second p r ≡ Some (Ok c, rest) → (p ≡ Ok c.0) × (r ≡ Some (Ok c.1, rest))
second_of p None c rest h = absurd (let k : ⊥ = cc in k)
second_of p (Some r) c rest h =
    let e = both_of p r.0 c (same_place (both p r.0) (Ok c) r.1 rest h) in
    let s = same_rest (both p r.0) (Ok c) r.1 rest h in
    (e.0, ap (λ q. Some (q, r.1)) e.1 ∙ ap (λ vs. Some (Ok c.1, vs)) s)

-- two parts were read, one behind the other
pub then_of : {A B : Type 0} (r : Reading A) (next : Words → Reading B) (c : A × B) (rest : Words) → then_read r next ≡ Some (Ok c, rest) → (vs : Words) × (r ≡ Some (Ok c.0, vs)) × (next vs ≡ Some (Ok c.1, rest))
then_of None next c rest h = absurd (let k : ⊥ = cc in k)
then_of (Some r) next c rest h =
    let e = second_of r.0 (next r.1) c rest h in (r.1, ap (λ p. Some (p, r.1)) e.0, e.1)

-- ---- the parts of readings
pub none_respelled : {A : Type 0} (R : Words → Reading A) (S : A → Words) (ws : Words) → Respelled R S ws None
none_respelled R S ws = record { kept = λ a rest h. absurd (let k : ⊥ = cc in k) }

pub none_tabled : {B : Type 0} (table : List ℕ → Words → Reading B) (S : B → Words) (w : List ℕ) (ws : Words) → Tabled table S w ws None
none_tabled table S w ws = record { kept = λ a rest h. absurd (let k : ⊥ = cc in k) }

-- a place, whose values are spelled by s
pub place_respelled : {A : Type 0} (f : List ℕ → At A) (s : A → List ℕ) → ((w : List ℕ) (a : A) → f w ≡ Ok a → is_word w ≡ true → (f (s a) ≡ Ok a) × (length (s a) ≤ length w) × (is_word (s a) ≡ true)) → (ws : Words) → Respelled (read_place f) (λ a. s a ∷ []) ws (read_place f ws)
place_respelled f s h [] = none_respelled (read_place f) (λ a. s a ∷ []) []
place_respelled f s h (w ∷ ws) =
    record {
      kept = λ a rest e t. let parts = and_parts (is_word w) (list_all is_word ws) t in
          let k = h w a (same_place (f w) (Ok a) ws rest e) parts.0 in
          let r = same_rest (f w) (Ok a) ws rest e in
          let l : length (spaced ws) ≡ length (spaced rest) = ap (λ x. length (spaced x)) r in
          record {
            again = λ more. ap (λ p. Some (p, more)) k.0;
            shorter = omega (arith, length-append (s a) [], length-append w (spaced ws), k.1);
            words = and_from _ _ k.2 refl;
            left = subst (λ x. AllWords x) r parts.1;
          };
    }

-- two parts, one behind the other
pub then_respelled : {A B : Type 0} (R : Words → Reading A) (next : Words → Reading B) (S : A → Words) (T : B → Words) (ws : Words) → Respelled R S ws (R ws) → ((vs : Words) → Respelled next T vs (next vs)) → Respelled (λ vs. then_read (R vs) next) (λ c. S c.0 ++ T c.1) ws (then_read (R ws) next)
then_respelled R next S T ws first second =
    record {
      kept = λ c rest e t. let p = then_of (R ws) next c rest e in
          let k = first.kept c.0 p.0 p.1 t in
          let m = (second p.0).kept c.1 rest p.2 k.left in
          record {
            again = λ more. ap (λ x. then_read (R x) next) (append_assoc (S c.0) (T c.1) more) ∙ (ap (λ x. then_read x next) (k.again (T c.1 ++ more)) ∙ ap (with_second (Ok c.0)) (m.again more));
            shorter = omega (arith, ap length (spaced_append (S c.0) (T c.1)), length-append (spaced (S c.0)) (spaced (T c.1)), k.shorter, m.shorter);
            words = list_all-append is_word (S c.0) (T c.1) ∙ and_from _ _ k.words m.words;
            left = m.left;
          };
    }

pub made_again : {A B : Type 0} (f : A → B) (r : Reading A) (a : A) (b : B) (rest : Words) → r ≡ Some (Ok a, rest) → f a ≡ b → made f r ≡ Some (Ok b, rest)
made_again f r a b rest h e = ap (made f) h ∙ ap (λ x. Some (Ok x, rest)) e

-- a row of a table: its word, and behind it what another reader reads
row_at : {A B : Type 0} (table : List ℕ → Words → Reading B) (S : B → Words) (R : Words → Reading A) (T : A → Words) (w word : List ℕ) (ws : Words) (f : A → B) → ((vs : Words) → table word vs ≡ made f (R vs)) → ((a : A) → S (f a) ≡ word ∷ T a) → Respelled R T ws (R ws) → w ≡ word → Tabled table S w ws (made f (R ws))
row_at table S R T w word ws f same spelled inner e =
    record {
      kept = λ b rest h t. let m = made_of f (R ws) b rest h in
          let k = inner.kept m.0 rest m.1 t in
          record {
            tail = T m.0;
            head = ap S (sym m.2) ∙ (spelled m.0 ∙ ap (λ x. x ∷ T m.0) (sym e));
            again = λ more. ap (λ x. table x (T m.0 ++ more)) e ∙ (same (T m.0 ++ more) ∙ made_again f (R (T m.0 ++ more)) m.0 b more (k.again more) m.2);
            shorter = k.shorter;
            words = k.words;
            left = k.left;
          };
    }

pub if_tabled : {B : Type 0} (table : List ℕ → Words → Reading B) (S : B → Words) (w word : List ℕ) (ws : Words) (r other : Reading B) → (w ≡ word → Tabled table S w ws r) → Tabled table S w ws other → Tabled table S w ws (cond (bytes_eq w word) r other)
if_tabled table S w word ws r other here later =
    ⊎_elim
    (λ t. subst (Tabled table S w ws) (sym (ap (λ b. cond b r other) t)) (here ((bytes_eq-Decides w word).0 t)))
    (λ f. subst (Tabled table S w ws) (sym (ap (λ b. cond b r other) f)) later)
    (cases_Bool (bytes_eq w word))

pub row : {A B : Type 0} (table : List ℕ → Words → Reading B) (S : B → Words) (R : Words → Reading A) (T : A → Words) (w word : List ℕ) (ws : Words) (f : A → B) (other : Reading B) → ((vs : Words) → table word vs ≡ made f (R vs)) → ((a : A) → S (f a) ≡ word ∷ T a) → Respelled R T ws (R ws) → Tabled table S w ws other → Tabled table S w ws (cond (bytes_eq w word) (made f (R ws)) other)
row table S R T w word ws f other same spelled inner later =
    if_tabled table S w word ws (made f (R ws)) other (λ e. row_at table S R T w word ws f same spelled inner e) later

-- a row without a place
said_at : {B : Type 0} (table : List ℕ → Words → Reading B) (S : B → Words) (w word : List ℕ) (ws : Words) (v : B) → ((vs : Words) → table word vs ≡ said v vs) → S v ≡ word ∷ [] → w ≡ word → Tabled table S w ws (said v ws)
said_at table S w word ws v same spelled e =
    record {
      kept = λ b rest h t. let a = same_value v b ws rest h in
          let r = same_rest (Ok v) (Ok b) ws rest h in
          let l : length (spaced ws) ≡ length (spaced rest) = ap (λ x. length (spaced x)) r in
          record {
            tail = [];
            head = ap S (sym a) ∙ (spelled ∙ ap (λ x. x ∷ []) (sym e));
            again = λ more. ap (λ x. table x more) e ∙ (same more ∙ ap (λ x. Some (Ok x, more)) a);
            shorter = omega (arith, l);
            words = refl;
            left = subst (λ x. AllWords x) r t;
          };
    }

pub row_said : {B : Type 0} (table : List ℕ → Words → Reading B) (S : B → Words) (w word : List ℕ) (ws : Words) (v : B) (other : Reading B) → ((vs : Words) → table word vs ≡ said v vs) → S v ≡ word ∷ [] → Tabled table S w ws other → Tabled table S w ws (cond (bytes_eq w word) (said v ws) other)
row_said table S w word ws v other same spelled later =
    if_tabled table S w word ws (said v ws) other (λ e. said_at table S w word ws v same spelled e) later

-- a row of a table of fixed words
pub row_word : {B : Type 0} (table : List ℕ → Words → Reading B) (S : B → Words) (w word : List ℕ) (ws : Words) (v : B) (other : Option B) → ((vs : Words) → table word vs ≡ said v vs) → S v ≡ word ∷ [] → Tabled table S w ws (said_if other ws) → Tabled table S w ws (said_if (cond (bytes_eq w word) (Some v) other) ws)
row_word table S w word ws v other same spelled later =
    ⊎_elim
    (λ t. subst (Tabled table S w ws) (sym (ap (λ b. said_if (cond b (Some v) other) ws) t)) (said_at table S w word ws v same spelled ((bytes_eq-Decides w word).0 t)))
    (λ f. subst (Tabled table S w ws) (sym (ap (λ b. said_if (cond b (Some v) other) ws) f)) later)
    (cases_Bool (bytes_eq w word))

-- the reader of a table
abbrev pub headed : {B : Type 0} → (List ℕ → Words → Reading B) → Words → Reading B
headed table [] = None
headed table (w ∷ ws) = table w ws

pub headed_respelled : {B : Type 0} (table : List ℕ → Words → Reading B) (S : B → Words) → ((w : List ℕ) (ws : Words) → Tabled table S w ws (table w ws)) → (ws : Words) → Respelled (headed table) S ws (headed table ws)
headed_respelled table S h [] = none_respelled (headed table) S []
headed_respelled table S h (w ∷ ws) =
    record {
      kept = λ b rest e t. let parts = and_parts (is_word w) (list_all is_word ws) t in
          let k = (h w ws).kept b rest e parts.1 in
          let l : length (spaced (S b)) ≡ length (spaced (w ∷ k.tail)) = ap (λ x. length (spaced x)) k.head in
          record {
            again = λ more. ap (λ x. headed table (x ++ more)) k.head ∙ k.again more;
            shorter = omega (arith, l, k.shorter, length-append w (spaced k.tail), length-append w (spaced ws));
            words = ap (list_all is_word) k.head ∙ and_from _ _ parts.0 k.words;
            left = k.left;
          };
    }

-- ---- fixed words before and behind what is read
pub some_if_read : {A : Type 0} (t : Bool) (r : Reading A) (a : A) (rest : Words) → cond t r None ≡ Some (Ok a, rest) → (t ≡ true) × (r ≡ Some (Ok a, rest))
some_if_read true r a rest e = (refl, e)
some_if_read false r a rest e = absurd (let k : ⊥ = cc in k)

pub behind_word_respelled : {A : Type 0} (word : List ℕ) (R : Words → Reading A) (S : A → Words) → bytes_eq word word ≡ true → ((vs : Words) → Respelled R S vs (R vs)) → (ws : Words) → Respelled (behind_word word R) (λ a. word ∷ S a) ws (behind_word word R ws)
behind_word_respelled word R S same h [] = none_respelled (behind_word word R) (λ a. word ∷ S a) []
behind_word_respelled word R S same h (w ∷ ws) =
    record {
      kept = λ a rest e t. let parts = and_parts (is_word w) (list_all is_word ws) t in
          let here = some_if_read (bytes_eq w word) (R ws) a rest e in
          let k = (h ws).kept a rest here.1 parts.1 in
          let word_is : w ≡ word = (bytes_eq-Decides w word).0 here.0 in
          let l : length w ≡ length word = ap length word_is in
          record {
            again = λ more. ap (λ b. cond b (R (S a ++ more)) None) same ∙ k.again more;
            shorter = omega (arith, l, k.shorter, length-append w (spaced ws), length-append word (spaced (S a)));
            words = and_from _ _ (subst (λ x. is_word x ≡ true) word_is parts.0) k.words;
            left = k.left;
          };
    }

at_word : {A : Type 0} (word : List ℕ) (a : A) (rest : Words) (p : At A) (v : List ℕ) (vs : Words) (t : Bool) → bytes_eq v word ≡ t → ◌≡◌ {A = Reading A} (cond t (Some (p, vs)) None) (Some (Ok a, rest)) → (u : List ℕ) × (◌≡◌ {A = Reading A} (Some (p, v ∷ vs)) (Some (Ok a, u ∷ rest))) × (u ≡ word)
at_word word a rest p v vs true e h =
    let q = same_place p (Ok a) vs rest h in
    let s = same_rest p (Ok a) vs rest h in
    (v, ap (λ x. Some (x, v ∷ vs)) q ∙ ap (λ x. Some (Ok a, v ∷ x)) s, (bytes_eq-Decides v word).0 e)
at_word word a rest p v vs false e h = absurd (let k : ⊥ = cc in k)

at_end : {A : Type 0} (word : List ℕ) (a : A) (rest : Words) (p : At A) (vs : Words) → ◌≡◌ {A = Reading A} (behind_word word (λ ws. Some (p, ws)) vs) (Some (Ok a, rest)) → (u : List ℕ) × (◌≡◌ {A = Reading A} (Some (p, vs)) (Some (Ok a, u ∷ rest))) × (u ≡ word)
at_end word a rest p [] h = absurd (let k : ⊥ = cc in k)
at_end word a rest p (v ∷ vs) h = at_word word a rest p v vs (bytes_eq v word) refl h

ending_of : {A : Type 0} (word : List ℕ) (r : Reading A) (a : A) (rest : Words) → before_word word r ≡ Some (Ok a, rest) → (v : List ℕ) × (r ≡ Some (Ok a, v ∷ rest)) × (v ≡ word)
ending_of word None a rest h = absurd (let k : ⊥ = cc in k)
ending_of word (Some r) a rest h = at_end word a rest r.0 r.1 h

pub ending_respelled : {A : Type 0} (word : List ℕ) (R : Words → Reading A) (S : A → Words) → bytes_eq word word ≡ true → (ws : Words) → Respelled R S ws (R ws) → Respelled (λ vs. before_word word (R vs)) (λ a. S a ++ word ∷ []) ws (before_word word (R ws))
ending_respelled word R S same ws inner =
    record {
      kept = λ a rest e t. let n = ending_of word (R ws) a rest e in
          let k = inner.kept a (n.0 ∷ rest) n.1 t in
          let parts = and_parts (is_word n.0) (list_all is_word rest) k.left in
          let l : length n.0 ≡ length word = ap length n.2 in
          record {
            again = λ more. ap (λ x. before_word word (R x)) (append_assoc (S a) (word ∷ []) more) ∙ (ap (before_word word) (k.again (word ∷ more)) ∙ ap (λ b. cond b (Some (Ok a, more)) None) same);
            shorter = omega (arith, ap length (spaced_append (S a) (word ∷ [])), length-append (spaced (S a)) (spaced (word ∷ [])), length-append word [], length-append n.0 (spaced rest), l, k.shorter);
            words = list_all-append is_word (S a) (word ∷ []) ∙ and_from _ _ k.words (and_from _ _ (subst (λ x. is_word x ≡ true) n.2 parts.0) refl);
            left = parts.1;
          };
    }

-- a row of a table whose second word is fixed too
second_at : {A B : Type 0} (table : List ℕ → Words → Reading B) (S : B → Words) (R : Words → Reading A) (T : A → Words) (w word v second : List ℕ) (vs : Words) (f : A → B) → ((us : Words) → table word (second ∷ us) ≡ made f (R us)) → ((a : A) → S (f a) ≡ word ∷ second ∷ T a) → Respelled R T vs (R vs) → w ≡ word → v ≡ second → Tabled table S w (v ∷ vs) (made f (R vs))
second_at table S R T w word v second vs f same spelled inner e d =
    record {
      kept = λ b rest h t. let m = made_of f (R vs) b rest h in
          let parts = and_parts (is_word v) (list_all is_word vs) t in
          let k = inner.kept m.0 rest m.1 parts.1 in
          let l : length v ≡ length second = ap length d in
          record {
            tail = second ∷ T m.0;
            head = ap S (sym m.2) ∙ (spelled m.0 ∙ ap (λ x. x ∷ second ∷ T m.0) (sym e));
            again = λ more. ap (λ x. table x (second ∷ (T m.0 ++ more))) e ∙ (same (T m.0 ++ more) ∙ made_again f (R (T m.0 ++ more)) m.0 b more (k.again more) m.2);
            shorter = omega (arith, l, length-append v (spaced vs), length-append second (spaced (T m.0)), k.shorter);
            words = and_from _ _ (subst (λ x. is_word x ≡ true) d parts.0) k.words;
            left = k.left;
          };
    }

pub second_row : {A B : Type 0} (table : List ℕ → Words → Reading B) (S : B → Words) (R : Words → Reading A) (T : A → Words) (w word v second : List ℕ) (vs : Words) (f : A → B) (other : Reading B) → ((us : Words) → table word (second ∷ us) ≡ made f (R us)) → ((a : A) → S (f a) ≡ word ∷ second ∷ T a) → Respelled R T vs (R vs) → w ≡ word → Tabled table S w (v ∷ vs) other → Tabled table S w (v ∷ vs) (cond (bytes_eq v second) (made f (R vs)) other)
second_row table S R T w word v second vs f other same spelled inner e later =
    ⊎_elim
    (λ t. subst (Tabled table S w (v ∷ vs)) (sym (ap (λ b. cond b (made f (R vs)) other) t)) (second_at table S R T w word v second vs f same spelled inner e ((bytes_eq-Decides v second).0 t)))
    (λ t. subst (Tabled table S w (v ∷ vs)) (sym (ap (λ b. cond b (made f (R vs)) other) t)) later)
    (cases_Bool (bytes_eq v second))
