-- How a word is cut, by the grammar and by clap.
use Rattle.std.proofs.Common.{◌≡◌, ◌∙◌, ◌+◌, ◌||◌, not, ℕ, Bool, cond, true, false, suc, refl, sym, ap, subst, arith, List, [], ◌∷◌, take, drop, Some, None, inl, inr, true≢false, nat_lt, bytes_eq, one-add}
use Rattle.std.specs.Prelude.{◌==◌}
use Rattle.std.specs.List.{before_first, list_any, list_all, position_or_len}
use Rattle.std.proofs.lemmas.Bool.{cases_Bool, and_parts, eqb-true}
use Rattle.clap.specs.Lexer.{long_of, short_of}
use Rattle.run_report.specs.Parts.{is_dashed, name_in, value_in, setting_of}
use Rattle.run_report.specs.Shape.{is_text}

abbrev is_equals : ℕ → Bool
is_equals x = x == 61

name_cut : (bs : List ℕ) → name_in bs ≡ before_first (λ x. x == 61) bs
name_cut [] = refl
name_cut (b ∷ bs) = go (b == 61) (name_cut bs)
  where
    go : (t : Bool) → name_in bs ≡ take (position_or_len (λ x. x == 61) bs) bs
        → cond t [] (b ∷ name_in bs) ≡ take (cond (not t) (1 + position_or_len (λ x. x == 61) bs) 0) (b ∷ bs)
    go true e = refl
    go false e = rw one-add (ap (λ r. b ∷ r) e)

value_cut : (bs : List ℕ) → value_in bs ≡ cond (list_any (λ x. x == 61) bs) (Some (drop (position_or_len (λ x. x == 61) bs + 1) bs)) None
value_cut [] = refl
value_cut (b ∷ bs) = go (b == 61) (value_cut bs)
  where
    go : (t : Bool) → value_in bs ≡ cond (list_any (λ x. x == 61) bs) (Some (drop (position_or_len (λ x. x == 61) bs + 1) bs)) None
        → cond t (Some bs) (value_in bs) ≡ cond (t || list_any (λ x. x == 61) bs) (Some (drop (cond (not t) (1 + position_or_len (λ x. x == 61) bs) 0 + 1) (b ∷ bs))) None
    go true e = refl
    go false e =
        let step : (1 + position_or_len (λ x. x == 61) bs) + 1 ≡ suc (position_or_len (λ x. x == 61) bs + 1) = omega arith in
        rw step e

-- the word is no flag
pub record IsPlainWord (w : List ℕ) : Type 0 where
  pub dashes : bytes_eq w (45 ∷ 45 ∷ []) ≡ false
  pub dashed : is_dashed w ≡ false
  pub long : long_of w ≡ None
  pub short : short_of w ≡ None

-- the word is `--` and more
pub record IsLongWord (w : List ℕ) : Type 0 where
  pub rest : List ℕ
  pub dashes : bytes_eq w (45 ∷ 45 ∷ []) ≡ false
  pub dashed : is_dashed w ≡ true
  pub name : name_in w ≡ 45 ∷ 45 ∷ name_in rest
  pub value : value_in w ≡ value_in rest
  pub long : long_of w ≡ Some (name_in rest, value_in rest)

-- the word is `-` and a letter
pub record IsShortWord (w : List ℕ) : Type 0 where
  pub first : ℕ
  pub rest : List ℕ
  pub ascii : nat_lt first 128 ≡ true
  pub dashes : bytes_eq w (45 ∷ 45 ∷ []) ≡ false
  pub dashed : is_dashed w ≡ true
  pub none : setting_of (name_in w) ≡ None
  pub long : long_of w ≡ None
  pub short : short_of w ≡ Some (first ∷ rest)

pub data View (w : List ℕ) : Type 0 where
  plain : IsPlainWord w → View w
  dashes : w ≡ 45 ∷ 45 ∷ [] → View w
  long : IsLongWord w → View w
  short : IsShortWord w → View w

no_setting : (c : ℕ) (cs : List ℕ) → (45 == c) ≡ false → setting_of (name_in (45 ∷ c ∷ cs)) ≡ None
no_setting c cs e = go (c == 61)
  where
    go : (t : Bool) → setting_of (45 ∷ cond t [] (c ∷ name_in cs)) ≡ None
    go true = refl
    go false = rw e refl

flip_false : (b c : ℕ) → (b == c) ≡ false → (c == b) ≡ false
flip_false b c e = elim (cases_Bool (c == b)) [
  | inl t ↦ absurd (true≢false (sym (subst (λ k. (b == k) ≡ true) (sym (eqb-true c b t)) (same b)) ∙ e))
  | inr f ↦ f
]
  where
    same : (k : ℕ) → (k == k) ≡ true
    same k = grind arith

pub view : (w : List ℕ) → is_text w ≡ true → View w
view [] t = plain (record { dashes = refl; dashed = refl; long = refl; short = refl })
view (b ∷ bs) t = elim (cases_Bool (b == 45)) [
  | inl is ↦ subst (λ k. View (k ∷ bs)) (sym (eqb-true b 45 is)) (behind bs (subst (λ k. is_text (k ∷ bs) ≡ true) (eqb-true b 45 is) t))
  | inr not_is ↦ plain (record { dashes = rw not_is refl; dashed = not_is; long = rw not_is refl; short = rw not_is refl })
]
  where
    long_word : (d : ℕ) (ds : List ℕ) → View (45 ∷ 45 ∷ d ∷ ds)
    long_word d ds = long (record { rest = d ∷ ds; dashes = refl; dashed = refl; name = refl; value = refl; long = rw (name_cut (d ∷ ds), value_cut (d ∷ ds)) refl })

    two : (cs : List ℕ) → View (45 ∷ 45 ∷ cs)
    two [] = dashes refl
    two (d ∷ ds) = long_word d ds

    behind : (bs : List ℕ) → is_text (45 ∷ bs) ≡ true → View (45 ∷ bs)
    behind [] t = absurd (true≢false (sym t))
    behind (c ∷ cs) t = elim (cases_Bool (c == 45)) [
      | inl is ↦ subst (λ k. View (45 ∷ k ∷ cs)) (sym (eqb-true c 45 is)) (two cs)
      | inr not_is ↦ short (record {
        first = c;
        rest = cs;
        ascii = (and_parts (nat_lt c 128) _ (and_parts (list_all (λ b. nat_lt b 128) (c ∷ cs)) _ t).0).0;
        dashes = rw not_is refl;
        dashed = refl;
        none = no_setting c cs (flip_false c 45 not_is);
        long = rw not_is refl;
        short = rw not_is refl;
      })
    ]
