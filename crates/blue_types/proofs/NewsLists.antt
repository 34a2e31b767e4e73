-- The news of a round, one more at a time.
use Rattle.std.proofs.Common.{◌≡◌, ℕ, zero, suc, ◌+◌, ◌<◌, Bool, true, false, cond, ◌==◌, ◌||◌, List, [], ◌∷◌, ◌++◌, length, map, take, get_or, Option, Some, None, is_some, refl, ap, sym, ◌∙◌, subst, ⊎_elim, inl, inr, arith}
use Rattle.std.specs.Prelude.{slice_get}
use Rattle.std.specs.List.{list_any}
use Rattle.std.specs.Option.{option_or}
use Rattle.std.proofs.lemmas.Bool.{cases_Bool, eqb-true, eq-eqb, or_cases}
use Rattle.elem_core.specs.Sort.{Sort}
use Rattle.stream_model.specs.Graph.{Edge}
use Rattle.blue_names.specs.First.{when}
use Rattle.blue_types.specs.declared.news.Fixed.{Fixed}
use Rattle.blue_names.specs.Members.{is_in}
use Rattle.blue_types.specs.News.{AreNews, AreBelow, news_at}

pub option_or_assoc : {X : Type 0} (a b c : Option X) → option_or (option_or a b) c ≡ option_or a (option_or b c)
option_or_assoc None b c = refl
option_or_assoc (Some x) b c = refl

pub option_or-none : {X : Type 0} (o : Option X) → option_or o None ≡ o
option_or-none None = refl
option_or-none (Some x) = refl

pub news_at-push : (fs : List Fixed) (f : Fixed) (i : ℕ) → news_at (fs ++ f ∷ []) i ≡ option_or (news_at fs i) (when (f.node == i) f.fixed)
news_at-push [] f i = option_or-none (when (f.node == i) f.fixed)
news_at-push (g ∷ fs) f i =
    ap (option_or (when (g.node == i) g.fixed)) (news_at-push fs f i) ∙ sym (option_or_assoc (when (g.node == i) g.fixed) (news_at fs i) (when (f.node == i) f.fixed))

pub is_in-push : (i n : ℕ) (ns : List ℕ) → is_in i (ns ++ n ∷ []) ≡ (is_in i ns || (n == i))
is_in-push i n [] = grind arith
is_in-push i n (k ∷ ns) = grind (arith, is_in-push i n ns)

either_way : {X : Type 0} (b : Bool) (x : X) → option_or (cond b (Some x) None) (Some x) ≡ Some x
either_way true x = refl
either_way false x = refl

or_true : (b : Bool) → (b || true) ≡ true
or_true true = refl
or_true false = refl

or_false : (b : Bool) → (b || false) ≡ b
or_false true = refl
or_false false = refl

module _ (types fix : ℕ → Option Sort) (front : List ℕ) (news : List Fixed) (f : Fixed) (is : fix f.node ≡ Some f.fixed) (old : AreNews types fix front news) where
  at_node : (i : ℕ) → types i ≡ None → (f.node == i) ≡ true → news_at (news ++ f ∷ []) i ≡ cond (is_in i (front ++ f.node ∷ [])) (fix i) None
  at_node i none t =
      let e : f.node ≡ i = eqb-true f.node i t in
      let v : fix i ≡ Some f.fixed = subst (λ k. fix k ≡ Some f.fixed) e is in
      let o : news_at news i ≡ cond (is_in i front) (fix i) None = old.of_node i none in
      let a : option_or (news_at news i) (when (f.node == i) f.fixed) ≡ option_or (cond (is_in i front) (Some f.fixed) None) (Some f.fixed) =
      ap (λ x. option_or x (when (f.node == i) f.fixed)) (o ∙ ap (λ x. cond (is_in i front) x None) v) ∙ ap (λ b. option_or (cond (is_in i front) (Some f.fixed) None) (when b f.fixed)) t in
      let b : is_in i (front ++ f.node ∷ []) ≡ true = is_in-push i f.node front ∙ ap (λ x. is_in i front || x) t ∙ or_true (is_in i front) in
      news_at-push news f i ∙ a ∙ either_way (is_in i front) f.fixed ∙ sym v ∙ sym (ap (λ x. cond x (fix i) None) b)

  at_others : (i : ℕ) → types i ≡ None → (f.node == i) ≡ false → news_at (news ++ f ∷ []) i ≡ cond (is_in i (front ++ f.node ∷ [])) (fix i) None
  at_others i none t =
      let o : news_at news i ≡ cond (is_in i front) (fix i) None = old.of_node i none in
      let a : option_or (news_at news i) (when (f.node == i) f.fixed) ≡ news_at news i = ap (λ b. option_or (news_at news i) (when b f.fixed)) t ∙ option_or-none (news_at news i) in
      let b : is_in i (front ++ f.node ∷ []) ≡ is_in i front = is_in-push i f.node front ∙ ap (λ x. is_in i front || x) t ∙ or_false (is_in i front) in
      news_at-push news f i ∙ a ∙ o ∙ sym (ap (λ x. cond x (fix i) None) b)

  -- with one more node that has something to fix
  pub AreNews-push : AreNews types fix (front ++ f.node ∷ []) (news ++ f ∷ [])
  AreNews-push = record { of_node = λ i none. ⊎_elim (at_node i none) (at_others i none) (cases_Bool (f.node == i)) }

pub AreBelow-push : (n : ℕ) (fs : List Fixed) (f : Fixed) → f.node < n → AreBelow n fs → AreBelow n (fs ++ f ∷ [])
AreBelow-push n [] f lt h = (lt, tt)
AreBelow-push n (g ∷ fs) f lt h = (h.0, AreBelow-push n fs f lt h.1)

-- what is said of a place only where there is one
pub below_from_some : {X Y : Type 0} (xs : List X) (i : ℕ) (g : Option X → Option Y) (y : Y) → g None ≡ None → g (slice_get xs i) ≡ Some y → i < length xs
below_from_some [] i g y none h = let e : Some y ≡ None = sym h ∙ none in cc
below_from_some (x ∷ xs) zero g y none h = omega arith
below_from_some (x ∷ xs) (suc i) g y none h = let lt : i < length xs = below_from_some xs i g y none h in omega arith

-- the targets of these wires, beside what was in the list
pub record Leads (ws : List Edge) (old new row : List ℕ) : Type 0 where
  pub kept : (q : ℕ) → is_in q old ≡ true → is_in q new ≡ true
  pub added : (i : ℕ) (w : Edge) → slice_get ws i ≡ Some w → is_in i row ≡ true → is_in w.to new ≡ true

pub Leads-none : (ws : List Edge) (old : List ℕ) → Leads ws old old []
Leads-none ws old = record { kept = λ q h. h; added = λ i w at h. cc }

in_kept : (q n : ℕ) (ns : List ℕ) → is_in q ns ≡ true → is_in q (ns ++ n ∷ []) ≡ true
in_kept q n ns h = is_in-push q n ns ∙ ap (λ b. b || (n == q)) h

in_last : (q n : ℕ) (ns : List ℕ) → n ≡ q → is_in q (ns ++ n ∷ []) ≡ true
in_last q n ns e = is_in-push q n ns ∙ ap (λ b. is_in q ns || b) (eq-eqb n q e) ∙ or_true (is_in q ns)

-- with the target of one more wire
pub Leads-target : (ws : List Edge) (old new row : List ℕ) (k target : ℕ) → ((w : Edge) → slice_get ws k ≡ Some w → Some target ≡ Some w.to) → Leads ws old new row
    → Leads ws old (new ++ target ∷ []) (row ++ k ∷ [])
Leads-target ws old new row k target is h = record {
  kept = λ q i. in_kept q target new (h.kept q i);
  added = λ i w at e.
      ⊎_elim
      (λ (o : is_in i row ≡ true). in_kept w.to target new (h.added i w at o))
      (λ (o : (k == i) ≡ true).
      let same : k ≡ i = eqb-true k i o in
      let t : Some target ≡ Some w.to = is w (subst (λ x. slice_get ws x ≡ Some w) (sym same) at) in
      in_last w.to target new (cc))
      (or_cases (is_in i row) (k == i) (sym (is_in-push i k row) ∙ e));
}

-- with a number of no wire
pub Leads-no_wire : (ws : List Edge) (old new row : List ℕ) (k : ℕ) → ((w : Edge) → slice_get ws k ≡ Some w → None ≡ Some w.to) → Leads ws old new row
    → Leads ws old new (row ++ k ∷ [])
Leads-no_wire ws old new row k is h = record {
  kept = h.kept;
  added = λ i w at e.
      ⊎_elim
      (λ (o : is_in i row ≡ true). h.added i w at o)
      (λ (o : (k == i) ≡ true).
      let same : k ≡ i = eqb-true k i o in
      let t : None ≡ Some w.to = is w (subst (λ x. slice_get ws x ≡ Some w) (sym same) at) in
      cc)
      (or_cases (is_in i row) (k == i) (sym (is_in-push i k row) ∙ e));
}
