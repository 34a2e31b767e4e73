-- Two readings of one text are one.
use Rattle.std.specs.Prelude.{slice_get, take, Some, ⊤}
use Rattle.std.specs.List.{flat_map}
use Rattle.std.proofs.Common.{◌≡◌, ◌⊎◌, inl, inr, ℕ, zero, suc, ◌≤◌, ◌<◌, true, List, [], ◌∷◌, ◌++◌, length, map, refl, sym, ap, subst, ◌∙◌, arith, append_assoc}
use Rattle.std.proofs.lemmas.Bool.{cases_order}
use Rattle.plan_reader.specs.Text.{move_text, pick_line, trace_text, AllSmall, IsRest}
use Rattle.plan_reader.specs.Plans.{fits_shape, Begins, SaysPlans, IsFault}
use Rattle.plan_reader.specs.declared.plans.Chooser.{Chooser}
use Rattle.plan_reader.proofs.Numbers.{same_rest}
use Rattle.plan_reader.proofs.Lines.{line_parts, same_behind, rest_of}

behind_lf : (x y : List ℕ) → 10 ∷ x ≡ 10 ∷ y → x ≡ y
behind_lf x y h = cc

-- two lines of one name that begin one text are one, and so is what stands behind them
line_same : (name p q x y : List ℕ) → pick_line name p ++ x ≡ pick_line name q ++ y → AllSmall p → AllSmall q → (p ≡ q) × (x ≡ y)
line_same name p q x y e sp sq =
    let other : IsRest (flat_map move_text p ++ 10 ∷ x) q y = rest_of name (pick_line name p ++ x) (name ++ (flat_map move_text p ++ 10 ∷ x)) (flat_map move_text p ++ 10 ∷ x) q y (line_parts name (pick_line name p ++ x) p x refl) refl e sq in
    let same : p ≡ q = same_rest (flat_map move_text p ++ 10 ∷ x) p q x y (record { is = refl; small = sp }) other in
    (same, behind_lf x y (same_behind (flat_map move_text q) (10 ∷ x) (10 ∷ y) (ap (λ (l : List ℕ). flat_map move_text l ++ 10 ∷ x) (sym same) ∙ other.is)))

abbrev text_of : List Chooser → List (List ℕ) → List ℕ
text_of cs ps = trace_text (map (λ c. c.name) (take (length ps) cs)) ps

abbrev Smalls : List (List ℕ) → Type 0
Smalls [] = ⊤
Smalls (p ∷ ps) = AllSmall p × Smalls ps

smalls : (cs : List Chooser) (ps : List (List ℕ)) → length ps ≤ length cs → ((i : ℕ) (c : Chooser) (ms : List ℕ) → slice_get cs i ≡ Some c → slice_get ps i ≡ Some ms → AllSmall ms) → Smalls ps
smalls cs [] few g = tt
smalls [] (p ∷ ps) few g = absurd (omega (arith, few))
smalls (c ∷ cs) (p ∷ ps) few g = (g zero c p refl refl, smalls cs ps (omega (arith, few)) (λ i d ms x y. g (suc i) d ms x y))

all_small : (cs : List Chooser) (text : List ℕ) (ps : List (List ℕ)) (r : List ℕ) → Begins cs text ps r → Smalls ps
all_small cs text ps r b = smalls cs ps b.few (λ i c ms x y. (b.good i c ms x y).0)

equal_long : (cs : List Chooser) (ps qs : List (List ℕ)) (x y : List ℕ) → length ps ≡ length qs → length ps ≤ length cs → Smalls ps → Smalls qs → text_of cs ps ++ x ≡ text_of cs qs ++ y → (ps ≡ qs) × (x ≡ y)
equal_long cs [] [] x y long few sp sq e = (refl, e)
equal_long cs [] (q ∷ qs) x y long few sp sq e = absurd (omega (arith, long))
equal_long cs (p ∷ ps) [] x y long few sp sq e = absurd (omega (arith, long))
equal_long [] (p ∷ ps) (q ∷ qs) x y long few sp sq e = absurd (omega (arith, few))
equal_long (c ∷ cs) (p ∷ ps) (q ∷ qs) x y long few sp sq e =
    let s = line_same c.name p q (text_of cs ps ++ x) (text_of cs qs ++ y) (sym (append_assoc (pick_line c.name p) (text_of cs ps) x) ∙ e ∙ append_assoc (pick_line c.name q) (text_of cs qs) y) sp.0 sq.0 in
    let r = equal_long cs ps qs x y (omega (arith, long)) (omega (arith, few)) sp.1 sq.1 s.1 in
    (ap (λ (z : List ℕ). z ∷ ps) s.0 ∙ ap (λ (l : List (List ℕ)). q ∷ l) r.0, r.1)

-- where one reading has more lines, the next line stands behind those of the other
record More (cs : List Chooser) (ps qs : List (List ℕ)) (x : List ℕ) : Type 0 where
  pub next : Chooser
  pub moves : List ℕ
  pub rest : List ℕ
  pub at : slice_get cs (length ps) ≡ Some next
  pub there : slice_get qs (length ps) ≡ Some moves
  pub front : take (length ps) qs ≡ ps
  pub line : x ≡ pick_line next.name moves ++ rest

longer : (cs : List Chooser) (ps qs : List (List ℕ)) (x y : List ℕ) → length ps < length qs → length qs ≤ length cs → Smalls ps → Smalls qs → text_of cs ps ++ x ≡ text_of cs qs ++ y → More cs ps qs x
longer cs ps [] x y less few sp sq e = absurd (omega (arith, less))
longer [] ps (q ∷ qs) x y less few sp sq e = absurd (omega (arith, few))
longer (c ∷ cs) [] (q ∷ qs) x y less few sp sq e = record {
  next = c;
  moves = q;
  rest = text_of cs qs ++ y;
  at = refl;
  there = refl;
  front = refl;
  line = e ∙ append_assoc (pick_line c.name q) (text_of cs qs) y;
}
longer (c ∷ cs) (p ∷ ps) (q ∷ qs) x y less few sp sq e =
    let s = line_same c.name p q (text_of cs ps ++ x) (text_of cs qs ++ y) (sym (append_assoc (pick_line c.name p) (text_of cs ps) x) ∙ e ∙ append_assoc (pick_line c.name q) (text_of cs qs) y) sp.0 sq.0 in
    let r = longer cs ps qs x y (omega (arith, less)) (omega (arith, few)) sp.1 sq.1 s.1 in
    record {
      next = r.next;
      moves = r.moves;
      rest = r.rest;
      at = r.at;
      there = r.there;
      front = ap (λ (l : List (List ℕ)). q ∷ l) r.front ∙ ap (λ (z : List ℕ). z ∷ ps) (sym s.0);
      line = r.line;
    }

-- no reading goes further than the first fault
fault_first : (cs : List Chooser) (text : List ℕ) (k : ℕ) (f : IsFault cs text k) (qs : List (List ℕ)) (y : List ℕ) → Begins cs text qs y → length f.plans < length qs → ⊥
fault_first cs text k f qs y b less =
    let m = longer cs f.plans qs f.behind y less b.few (all_small cs text f.plans f.behind f.begins) (all_small cs text qs y b) (sym f.begins.is ∙ b.is) in
    let good = b.good (length f.plans) m.next m.moves m.at m.there in
    f.none m.next m.at m.moves m.rest (record {
      is = m.line;
      small = good.0;
      fits = subst (λ (l : List (List ℕ)). fits_shape m.next.shape (take (length f.plans) cs) l m.moves ≡ true) m.front good.1;
    })

pub says_same : (cs : List Chooser) (text : List ℕ) (ps qs : List (List ℕ)) → SaysPlans cs text ps → SaysPlans cs text qs → ps ≡ qs
says_same cs text ps qs a b = (equal_long cs ps qs [] [] (a.all ∙ sym b.all) a.begins.few (all_small cs text ps [] a.begins) (all_small cs text qs [] b.begins) (sym a.begins.is ∙ b.begins.is)).0

pub never_both : (cs : List Chooser) (text : List ℕ) (ps : List (List ℕ)) (k : ℕ) → SaysPlans cs text ps → IsFault cs text k → ⊥
never_both cs text ps k a f = by_order (cases_order (length f.plans) (length ps))
  where
    by_order : (length f.plans ≡ length ps) ⊎ ((length f.plans < length ps) ⊎ (length ps < length f.plans)) → ⊥
    by_order (inl e) = f.extra (e ∙ a.all) (equal_long cs f.plans ps f.behind [] e f.begins.few (all_small cs text f.plans f.behind f.begins) (all_small cs text ps [] a.begins) (sym f.begins.is ∙ a.begins.is)).1
    by_order (inr (inl l)) = fault_first cs text k f ps [] a.begins l
    by_order (inr (inr l)) = let few = f.begins.few in let all = a.all in omega (arith, l, few, all)

pub one_fault : (cs : List Chooser) (text : List ℕ) (k l : ℕ) → IsFault cs text k → IsFault cs text l → k ≡ l
one_fault cs text k l f g = by_order (cases_order (length f.plans) (length g.plans))
  where
    by_order : (length f.plans ≡ length g.plans) ⊎ ((length f.plans < length g.plans) ⊎ (length g.plans < length f.plans)) → k ≡ l
    by_order (inl e) = let a = f.before in let b = g.before in omega (arith, a, b, e)
    by_order (inr (inl less)) = absurd (fault_first cs text k f g.plans g.behind g.begins less)
    by_order (inr (inr less)) = absurd (fault_first cs text l g f.plans f.behind f.begins less)
