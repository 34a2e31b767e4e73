-- Classes of nodes: labels, and lists of the nodes of each label.
use Rattle.std.proofs.Common.{◌≡◌, ℕ, zero, suc, ◌+◌, ◌<◌, ◌≤◌, Bool, true, false, cond, ◌==◌, ◌||◌, List, [], ◌∷◌, ◌++◌, length, take, get_or, refl, ap, sym, ◌∙◌, subst, ⊎_elim, arith}
use Rattle.std.specs.Prelude.{slice_index}
use Rattle.std.specs.declared.vec.Vec.{Vec}
use Rattle.std.specs.declared.alloc.Global.{Global}
use Rattle.std.proofs.lemmas.Bool.{cases_eq, cases_Bool, eq-eqb, ne_eqb}
use Rattle.std.proofs.lemmas.Grind.{common_steps}
use Rattle.std.proofs.lemmas.List.{take_more, take_all}
use Rattle.blue_names.specs.Outs.{row_at}
use Rattle.blue_names.specs.Members.{is_in}
use Rattle.blue_check.specs.Classes.{AreListed, IsRelabeled}
use Rattle.blue_check.proofs.Reaching.{is_in-push, or_true}

-- a node of a row stands in a row that is there
pub row_in_range : (rows : List (Vec ℕ Global)) (i n : ℕ) → is_in i (row_at rows n) ≡ true → n < length rows
row_in_range [] i n h = let e : false ≡ true = h in cc
row_in_range (r ∷ rows) i zero h = omega arith
row_in_range (r ∷ rows) i (suc n) h = let lt = row_in_range rows i n h in omega arith

-- the listed nodes of one label have got another
pub record Relabels (old new nodes : List ℕ) (from to : ℕ) : Type 0 where
  pub long : length new ≡ length old
  pub at : (i : ℕ) → i < length old → slice_index new i ≡ cond (is_in i nodes) (cond (slice_index old i == from) to (slice_index old i)) (slice_index old i)

pub Relabels-none : (old : List ℕ) (from to : ℕ) → Relabels old old [] from to
Relabels-none old from to = record { long = refl; at = λ i lt. refl }

relabel_twice : (from to x : ℕ) (listed here : Bool) → cond here (cond (cond listed (cond (x == from) to x) x == from) to (cond listed (cond (x == from) to x) x)) (cond listed (cond (x == from) to x) x) ≡ cond (listed || here) (cond (x == from) to x) x
relabel_twice from to x true false = refl
relabel_twice from to x false false = refl
relabel_twice from to x false true = refl
relabel_twice from to x true true = ⊎_elim (λ t. again true t) (λ f. again false f) (cases_Bool (x == from))
  where
    again : (b : Bool) → (x == from) ≡ b → cond (cond (x == from) to x == from) to (cond (x == from) to x) ≡ cond (x == from) to x
    again true e = rw e (⊎_elim (λ t. ap (λ c. cond c to to) t) (λ f. ap (λ c. cond c to to) f) (cases_Bool (to == from)))
    again false e = rw e (ap (λ c. cond c to x) e)

pub Relabels-more : (old mid new nodes : List ℕ) (from to k d n : ℕ) → k < length nodes → n ≡ get_or nodes k d → Relabels old mid (take k nodes) from to → length new ≡ length mid
    → ((i : ℕ) → i < length mid → slice_index new i ≡ cond (n == i) (cond (slice_index mid i == from) to (slice_index mid i)) (slice_index mid i)) → Relabels old new (take (k + 1) nodes) from to
Relabels-more old mid new nodes from to k d n lt is r long at = record {
  long = long ∙ r.long;
  at = λ i below.
      let x = slice_index old i in
      let more : take (k + 1) nodes ≡ take k nodes ++ n ∷ [] = take_more nodes k d lt ∙ ap (λ j. take k nodes ++ j ∷ []) (sym is) in
      let inside : is_in i (take (k + 1) nodes) ≡ (is_in i (take k nodes) || (n == i)) = ap (is_in i) more ∙ is_in-push i n (take k nodes) in
      at i (omega (arith, below, r.long)) ∙ ap (λ y. cond (n == i) (cond (y == from) to y) y) (r.at i below) ∙ relabel_twice from to x (is_in i (take k nodes)) (n == i) ∙ ap (λ b. cond b (cond (x == from) to x) x) (sym inside);
}

pub Relabels-all : (old new nodes : List ℕ) (from to k : ℕ) → length nodes ≤ k → ((i : ℕ) → i < length old → slice_index old i ≡ from → is_in i nodes ≡ true) → Relabels old new (take k nodes) from to → IsRelabeled old new from to
Relabels-all old new nodes from to k le all r = record {
  at = λ i lt.
      let x = slice_index old i in
      let whole : is_in i (take k nodes) ≡ is_in i nodes = ap (is_in i) (take_all k nodes le) in
      r.at i lt ∙ ⊎_elim
      (λ (e : x ≡ from). ap (λ b. cond b (cond (x == from) to x) x) (whole ∙ all i lt e))
      (λ (ne : x ≡ from → ⊥).
      let f : (x == from) ≡ false = ne_eqb x from ne in
      ap (λ c. cond (is_in i (take k nodes)) (cond c to x) x) f ∙ alike (is_in i (take k nodes)) x ∙ ap (λ c. cond c to x) (sym f))
      (cases_eq x from);
}
  where
    alike : (b : Bool) (x : ℕ) → cond b x x ≡ x
    alike true x = refl
    alike false x = refl

is_in-append_left : (i : ℕ) (ms ns : List ℕ) → is_in i ms ≡ true → is_in i (ms ++ ns) ≡ true
is_in-append_left i [] ns h = cc
is_in-append_left i (m ∷ ms) ns h = ⊎_elim (λ t. ap (λ b. b || is_in i (ms ++ ns)) t) (λ f. ap (λ b. b || is_in i (ms ++ ns)) f ∙ is_in-append_left i ms ns (sym (ap (λ b. b || is_in i ms) f) ∙ h)) (cases_Bool (m == i))

is_in-append_right : (i : ℕ) (ms ns : List ℕ) → is_in i ns ≡ true → is_in i (ms ++ ns) ≡ true
is_in-append_right i [] ns h = h
is_in-append_right i (m ∷ ms) ns h = ap (λ b. (m == i) || b) (is_in-append_right i ms ns h) ∙ or_true (m == i)

-- the nodes of a label other than that of its number stand in its list, also when that one has got another label
pub rest_listed : (old mid : List ℕ) (rows : List (Vec ℕ Global)) (nodes : List ℕ) (from to : ℕ) → (from ≡ to → ⊥) → length mid ≡ length old → AreListed old rows → nodes ≡ row_at rows from
    → ((i : ℕ) → i < length old → slice_index mid i ≡ cond (from == i) (cond (slice_index old i == from) to (slice_index old i)) (slice_index old i))
    → (i : ℕ) → i < length mid → slice_index mid i ≡ from → is_in i nodes ≡ true
rest_listed old mid rows nodes from to apart long l taken at i lt label =
    let below : i < length old = omega (arith, lt, long) in
    let x = slice_index old i in
    ⊎_elim
    (λ (t : (from == i) ≡ true).
    let moved : cond (x == from) to x ≡ from = sym (at i below ∙ ap (λ b. cond b (cond (x == from) to x) x) t) ∙ label in
    ⊎_elim
    (λ (e : x ≡ from). absurd (apart (sym (sym (ap (λ c. cond c to x) (eq-eqb x from e)) ∙ moved))))
    (λ (ne : x ≡ from → ⊥). absurd (ne (sym (ap (λ c. cond c to x) (ne_eqb x from ne)) ∙ moved)))
    (cases_eq x from))
    (λ (f : (from == i) ≡ false).
    let same : x ≡ from = sym (at i below ∙ ap (λ b. cond b (cond (x == from) to x) x) f) ∙ label in
    let here : is_in i (from ∷ row_at rows from) ≡ true = subst (λ n. is_in i (n ∷ row_at rows n) ≡ true) same (l.listed i below) in
    ap (is_in i) taken ∙ (sym (ap (λ b. b || is_in i (row_at rows from)) f) ∙ here))
    (cases_Bool (from == i))

-- all nodes of a label have got another, once that of its number has and then those that are listed
pub relabeled_both : (old mid new : List ℕ) (from to : ℕ) → length mid ≡ length old
    → ((i : ℕ) → i < length old → slice_index mid i ≡ cond (from == i) (cond (slice_index old i == from) to (slice_index old i)) (slice_index old i))
    → IsRelabeled mid new from to → IsRelabeled old new from to
relabeled_both old mid new from to long at r = record {
  at = λ i lt.
      let x = slice_index old i in
      r.at i (omega (arith, lt, long)) ∙ (ap (λ y. cond (y == from) to y) (at i lt) ∙ (relabel_twice from to x (from == i) true ∙ ap (λ b. cond b (cond (x == from) to x) x) (or_true (from == i))));
}

-- lists and labels of one class go into another
pub AreListed-join : (old new : List ℕ) (rows mid later : List (Vec ℕ Global)) (nodes : List ℕ) (from to : ℕ) → (from ≡ to → ⊥) → length new ≡ length old → length later ≡ length rows → AreListed old rows
    → nodes ≡ row_at rows from → ((n : ℕ) → (n ≡ from → ⊥) → row_at mid n ≡ row_at rows n) → row_at later to ≡ row_at mid to ++ from ∷ nodes
    → ((n : ℕ) → (n ≡ to → ⊥) → row_at later n ≡ row_at mid n) → IsRelabeled old new from to → AreListed new later
AreListed-join old new rows mid later nodes from to apart long rows_long l taken kept here others r = record {
  many = omega (arith, l.many, long, rows_long);
  listed = λ i lt.
      let below : i < length old = omega (arith, lt, long) in
      let x = slice_index old i in
      ⊎_elim
      (λ (e : x ≡ from).
      let label : slice_index new i ≡ to = r.at i below ∙ ap (λ c. cond c to x) (eq-eqb x from e) in
      let moved : is_in i (from ∷ nodes) ≡ true = ap (λ ns. is_in i (from ∷ ns)) taken ∙ subst (λ n. is_in i (n ∷ row_at rows n) ≡ true) e (l.listed i below) in
      let found : is_in i (row_at later to) ≡ true = ap (is_in i) here ∙ is_in-append_right i (row_at mid to) (from ∷ nodes) moved in
      ap (λ n. is_in i (n ∷ row_at later n)) label ∙ (ap (λ b. (to == i) || b) found ∙ or_true (to == i)))
      (λ (ne : x ≡ from → ⊥).
      let label : slice_index new i ≡ x = r.at i below ∙ ap (λ c. cond c to x) (ne_eqb x from ne) in
      let old_row : is_in i (x ∷ row_at mid x) ≡ true = ap (λ ns. is_in i (x ∷ ns)) (kept x ne) ∙ l.listed i below in
      ap (λ n. is_in i (n ∷ row_at later n)) label ∙ ⊎_elim
      (λ (e : x ≡ to).
      let at_to : is_in i (to ∷ row_at mid to) ≡ true = subst (λ n. is_in i (n ∷ row_at mid n) ≡ true) e old_row in
      let longer : is_in i (to ∷ (row_at mid to ++ from ∷ nodes)) ≡ true = is_in-append_left i (to ∷ row_at mid to) (from ∷ nodes) at_to in
      ap (λ n. is_in i (n ∷ row_at later n)) e ∙ (ap (λ ns. is_in i (to ∷ ns)) here ∙ longer))
      (λ (no : x ≡ to → ⊥). ap (λ ns. is_in i (x ∷ ns)) (others x no) ∙ old_row)
      (cases_eq x to))
      (cases_eq x from);
}

-- at first each node has its own number as its label
pub AreListed-own : (labels : List ℕ) (rows : List (Vec ℕ Global)) (n : ℕ) → length labels ≡ n → ((i : ℕ) → i < n → slice_index labels i ≡ i) → length rows ≡ n → AreListed labels rows
AreListed-own labels rows n long own many = record {
  many = omega (arith, long, many);
  listed = λ i lt.
      let below : i < n = omega (arith, lt, long) in
      ap (λ k. is_in i (k ∷ row_at rows k)) (own i below) ∙ ap (λ b. b || is_in i (row_at rows i)) (eq-eqb i i refl);
}
