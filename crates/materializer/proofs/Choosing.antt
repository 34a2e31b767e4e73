-- The stages of a blueprint that choose, and the moves that a text says for them, one after another.
use Rattle.std.specs.Prelude.{◌≡◌, ◌⊎◌, ◌<◌, ◌≤◌, ◌^◌, ◌&&◌, ◌||◌, ◌==◌, nat_le, ℕ, ◌+◌, Bool, true, false, if◌then◌else◌, List, [], ◌∷◌, ◌++◌, codes, length, map, take, drop, slice_get, replicate, Option, Some, None}
use Rattle.std.specs.List.{flat_map}
use Rattle.std.proofs.Common.{inl, inr, zero, suc, refl, sym, ap, ◌∙◌, subst, arith, length-append}
use Rattle.std.proofs.lemmas.Bool.{and_parts, eqb-true}
use Rattle.std.proofs.lemmas.Bool.Decides.{nat_tests, Decides-eqb}
use Rattle.stream_model.specs.declared.blueprint.Node.{Node}
use Rattle.stream_model.specs.declared.kind.Kind.{Kind}
use Rattle.stream_model.specs.declared.kind.Kind.TheVariants as kind
use Rattle.stream_model.specs.declared.kind.Policy.{Policy}
use Rattle.stream_model.specs.declared.kind.Policy.TheVariants.{Backpressure, DropHead, DropTail, DropBuffer, DropNew, Fail}
use Rattle.stream_model.specs.declared.kind.Joining.TheVariants as joining
use Rattle.stream_model.specs.Picks.{all_below, acted}
use Rattle.stage_switch.specs.States.{moves_by}
use Rattle.blue_names.specs.Picks.{picks}
use Rattle.plan_reader.specs.Plans.{fits_shape, order_fits, shown_before, SaysPlans}
use Rattle.plan_reader.specs.Text.{move_text, pick_line, trace_text}
use Rattle.plan_reader.specs.declared.plans.Chooser.{Chooser}
use Rattle.plan_reader.specs.declared.plans.Shape.{Shape}
use Rattle.plan_reader.specs.declared.plans.Shape.TheVariants.{Below, Any, AtMostOne, OrderOf}
use Rattle.materializer.specs.Choosers.{drop_shape, chooser_shape, with_chooser, choosers_in, moves_behind, plans_in, KindMayFollow, PlanFits, PlansFit}

-- ---- a line is no shorter than its moves

few_moves : (ms : List ℕ) → length ms ≤ length (flat_map move_text ms)
few_moves [] = omega arith
few_moves (m ∷ ms) =
    let rest = few_moves ms in
    let more = length-append (move_text m) (flat_map move_text ms) in
    omega (arith, rest, more)

few_in_line : (name ms : List ℕ) → length ms ≤ length (pick_line name ms)
few_in_line name ms =
    let few = few_moves ms in
    let whole = length-append (codes "pick " ++ name) (flat_map move_text ms ++ codes "\n") in
    let part = length-append (flat_map move_text ms) (codes "\n") in
    omega (arith, few, whole, part)

few_in_text : (names : List (List ℕ)) (lists : List (List ℕ)) (i : ℕ) (ms : List ℕ) → length lists ≤ length names → slice_get lists i ≡ Some ms → length ms ≤ length (trace_text names lists)
few_in_text names [] i ms each at = absurd cc
few_in_text [] (l ∷ lists) i ms each at = absurd (omega (arith, each))
few_in_text (n ∷ names) (l ∷ lists) zero ms each at =
    let same : l ≡ ms = cc in
    let few = few_in_line n l in
    let size : length l ≡ length ms = ap length same in
    let whole = length-append (pick_line n l) (trace_text names lists) in
    omega (arith, few, size, whole)
few_in_text (n ∷ names) (l ∷ lists) (suc i) ms each at =
    let few = few_in_text names lists i ms (omega (arith, each)) at in
    let whole = length-append (pick_line n l) (trace_text names lists) in
    omega (arith, few, whole)

-- ---- moves of the shape of a kind are moves that it may follow

some_true : (x y : Bool) → (x || y) ≡ true → (x ≡ true) ⊎ (y ≡ true)
some_true true y e = inl refl
some_true false y e = inr e

ordered_by : (o k : ℕ) → (o ≡ 1) ⊎ (o ≡ 2) → o ∷ k ∷ [] ≡ moves_by (acted (o ∷ k ∷ []))
ordered_by o k (inl e) = subst (λ (n : ℕ). n ∷ k ∷ [] ≡ moves_by (acted (n ∷ k ∷ []))) (sym e) refl
ordered_by o k (inr e) = subst (λ (n : ℕ). n ∷ k ∷ [] ≡ moves_by (acted (n ∷ k ∷ []))) (sym e) refl

ordered : (o k : ℕ) (b : Bool) → ((((o == 1) || (o == 2)) && b) ≡ true) → o ∷ k ∷ [] ≡ moves_by (acted (o ∷ k ∷ []))
ordered o k b h = ordered_by o k (either (some_true (o == 1) (o == 2) (and_parts ((o == 1) || (o == 2)) b h).0))
  where
    either : ((o == 1) ≡ true) ⊎ ((o == 2) ≡ true) → (o ≡ 1) ⊎ (o ≡ 2)
    either (inl e) = inl (eqb-true o 1 e)
    either (inr e) = inr (eqb-true o 2 e)

order_follows : (switch : List ℕ) (cs : List Chooser) (mss : List (List ℕ)) (ms : List ℕ) → order_fits switch cs mss ms ≡ true → (length ms ≤ 2) × (ms ≡ moves_by (acted ms))
order_follows switch cs mss [] h = (omega arith, refl)
order_follows switch cs mss (o ∷ []) h = absurd cc
order_follows switch cs mss (o ∷ k ∷ []) h = (omega arith, ordered o k (shown_before switch o cs mss) h)
order_follows switch cs mss (o ∷ k ∷ m ∷ ms) h = absurd cc

none_some : {A : Type 0} {x : A} → None ≡ Some x → ⊥
none_some e = cc

shape_is : (s t : Shape) (cs : List Chooser) (mss : List (List ℕ)) (ms : List ℕ) → Some s ≡ Some t → fits_shape t cs mss ms ≡ true → fits_shape s cs mss ms ≡ true
shape_is s t cs mss ms e h = let same : s ≡ t = cc in ap (λ x. fits_shape x cs mss ms) same ∙ h

drops : (n : ℕ) (p : Policy) (s : Shape) (cs : List Chooser) (mss : List (List ℕ)) (ms : List ℕ) → drop_shape p ≡ Some s → fits_shape s cs mss ms ≡ true → KindMayFollow (kind.Buffer n p) ms
drops n Backpressure s cs mss ms e h = absurd (none_some e)
drops n DropHead s cs mss ms e h = ((λ is. cc), shape_is (Below 2) s cs mss ms e h)
drops n DropTail s cs mss ms e h = ((λ is. cc), shape_is (Below 2) s cs mss ms e h)
drops n DropBuffer s cs mss ms e h = ((λ is. cc), shape_is (Below 2) s cs mss ms e h)
drops n DropNew s cs mss ms e h = ((λ is. cc), shape_is (Below 2) s cs mss ms e h)
drops n Fail s cs mss ms e h = ((λ is. cc), shape_is (Below 2) s cs mss ms e h)

kind_follows : (k : Kind) (s : Shape) (cs : List Chooser) (mss : List (List ℕ)) (ms : List ℕ) → chooser_shape k ≡ Some s → fits_shape s cs mss ms ≡ true → KindMayFollow k ms
kind_follows (kind.Merge n) s cs mss ms e h = shape_is (Below n) s cs mss ms e h
kind_follows (kind.MergeHub size n) s cs mss ms e h = shape_is (Below n) s cs mss ms e h
kind_follows (kind.Balance n) s cs mss ms e h = shape_is (Below n) s cs mss ms e h
kind_follows (kind.Buffer n p) s cs mss ms e h = drops n p s cs mss ms e h
kind_follows (kind.Valve switch) s cs mss ms e h = order_follows switch cs mss ms (shape_is (OrderOf switch) s cs mss ms e h)
kind_follows (kind.RecoverNum n) s cs mss ms e h = let few = shape_is AtMostOne s cs mss ms e h in grind (arith, nat_tests, few)
kind_follows (kind.RecoverText t) s cs mss ms e h = let few = shape_is AtMostOne s cs mss ms e h in grind (arith, nat_tests, few)
kind_follows (kind.GroupBy n f chain) s cs mss ms e h = tt
kind_follows (kind.SplitWhen p chain joining.Merge) s cs mss ms e h = refl
kind_follows (kind.SplitWhen p chain joining.Concat) s cs mss ms e h = absurd (none_some e)
kind_follows (kind.SplitAfter p chain joining.Merge) s cs mss ms e h = refl
kind_follows (kind.SplitAfter p chain joining.Concat) s cs mss ms e h = absurd (none_some e)
kind_follows k s cs mss ms e h = absurd (none_some e)

-- ---- the kinds that choose are those that have a shape

abbrev pub Chooses : Kind → Type 0
Chooses k = (picks k ≡ true) × ((s : Shape) × (chooser_shape k ≡ Some s))

abbrev pub StaysFree : Kind → Type 0
StaysFree k = (picks k ≡ false) × (chooser_shape k ≡ None)

buffers : (n : ℕ) (p : Policy) → Chooses (kind.Buffer n p) ⊎ StaysFree (kind.Buffer n p)
buffers n Backpressure = inr (refl, refl)
buffers n DropHead = inl (refl, (Below 2, refl))
buffers n DropTail = inl (refl, (Below 2, refl))
buffers n DropBuffer = inl (refl, (Below 2, refl))
buffers n DropNew = inl (refl, (Below 2, refl))
buffers n Fail = inl (refl, (Below 2, refl))

pub chooses_or : (k : Kind) → Chooses k ⊎ StaysFree k
chooses_or (kind.Merge n) = inl (refl, (Below n, refl))
chooses_or (kind.MergeHub s n) = inl (refl, (Below n, refl))
chooses_or (kind.Balance n) = inl (refl, (Below n, refl))
chooses_or (kind.Buffer n p) = buffers n p
chooses_or (kind.Valve switch) = inl (refl, (OrderOf switch, refl))
chooses_or (kind.RecoverNum n) = inl (refl, (AtMostOne, refl))
chooses_or (kind.RecoverText t) = inl (refl, (AtMostOne, refl))
chooses_or (kind.GroupBy n f chain) = inl (refl, (Any, refl))
chooses_or (kind.SplitWhen p chain joining.Merge) = inl (refl, (Any, refl))
chooses_or (kind.SplitWhen p chain joining.Concat) = inr (refl, refl)
chooses_or (kind.SplitAfter p chain joining.Merge) = inl (refl, (Any, refl))
chooses_or (kind.SplitAfter p chain joining.Concat) = inr (refl, refl)
chooses_or k = inr (refl, refl)

-- ---- so the moves of each node are such

-- each of these lists is of the shape of its chooser, and short enough
abbrev pub EachFits : List Chooser → List (List ℕ) → Type 0
EachFits choosers lists = (i : ℕ) (c : Chooser) (ms : List ℕ) → slice_get choosers i ≡ Some c → slice_get lists i ≡ Some ms
    → (length ms < 2 ^ 32) × ((cs : List Chooser) × ((mss : List (List ℕ)) × (fits_shape c.shape cs mss ms ≡ true)))

pub if_true : {A : Type 0} (b : Bool) (x y : A) → b ≡ true → (if b then x else y) ≡ x
if_true true x y e = refl
if_true false x y e = absurd cc

pub if_false : {A : Type 0} (b : Bool) (x y : A) → b ≡ false → (if b then x else y) ≡ y
if_false true x y e = absurd cc
if_false false x y e = refl

-- a node that chooses, of which this is the first of the lists
with_shape : (n : Node) (ns : List Node) (s : Shape) (ls : List (List ℕ)) → chooser_shape n.kind ≡ Some s → length ls ≡ length (with_chooser n.name (Some s) (choosers_in ns)) → EachFits (with_chooser n.name (Some s) (choosers_in ns)) ls
    → (length (drop 1 ls) ≡ length (choosers_in ns) → EachFits (choosers_in ns) (drop 1 ls) → PlansFit (map (λ (m : Node). m.kind) ns) (plans_in ns (drop 1 ls))) → PlansFit (n.kind ∷ map (λ (m : Node). m.kind) ns) (slice_get ls 0 ∷ plans_in ns (drop 1 ls))
with_shape n ns s [] is many each rest = absurd (omega (arith, many))
with_shape n ns s (l ∷ ls) is many each rest =
    let first = each zero (record { name = n.name; shape = s }) l refl refl in (
      (first.0, kind_follows n.kind s first.1.0 first.1.1.0 l is first.1.1.1),
      rest (omega (arith, many)) (λ i c ms at there. each (suc i) c ms at there),
    )

-- by whether the first of the nodes chooses, where the ones behind it fit what is left
by_first : (n : Node) (ns : List Node) (lists : List (List ℕ)) → length lists ≡ length (choosers_in (n ∷ ns)) → EachFits (choosers_in (n ∷ ns)) lists → Chooses n.kind ⊎ StaysFree n.kind
    → ((ls : List (List ℕ)) → length ls ≡ length (choosers_in ns) → EachFits (choosers_in ns) ls → PlansFit (map (λ (m : Node). m.kind) ns) (plans_in ns ls)) → PlansFit (n.kind ∷ map (λ (m : Node). m.kind) ns) (plans_in (n ∷ ns) lists)
by_first n ns lists many each (inl h) rest =
    subst (PlansFit (n.kind ∷ map (λ (m : Node). m.kind) ns)) (sym (ap (λ o. o ∷ plans_in ns (moves_behind n.kind lists)) (if_true (picks n.kind) (slice_get lists 0) None h.0) ∙ ap (λ l. slice_get lists 0 ∷ plans_in ns l) (if_true (picks n.kind) (drop 1 lists) lists h.0)))
    (with_shape n ns h.1.0 lists h.1.1 (many ∙ ap (λ o. length (with_chooser n.name o (choosers_in ns))) h.1.1) (subst (λ o. EachFits (with_chooser n.name o (choosers_in ns)) lists) h.1.1 each) (rest (drop 1 lists)))
by_first n ns lists many each (inr h) rest =
    subst (PlansFit (n.kind ∷ map (λ (m : Node). m.kind) ns)) (sym (ap (λ o. o ∷ plans_in ns (moves_behind n.kind lists)) (if_false (picks n.kind) (slice_get lists 0) None h.0) ∙ ap (λ l. None ∷ plans_in ns l) (if_false (picks n.kind) (drop 1 lists) lists h.0)))
    (tt, rest lists (many ∙ ap (λ o. length (with_chooser n.name o (choosers_in ns))) h.1) (subst (λ o. EachFits (with_chooser n.name o (choosers_in ns)) lists) h.1 each))

plans_fit_all : (nodes : List Node) (lists : List (List ℕ)) → length lists ≡ length (choosers_in nodes) → EachFits (choosers_in nodes) lists → PlansFit (map (λ (n : Node). n.kind) nodes) (plans_in nodes lists)
plans_fit_all [] lists many each = tt
plans_fit_all (n ∷ ns) lists many each = by_first n ns lists many each (chooses_or n.kind) (λ ls. plans_fit_all ns ls)

taken_all : {A : Type 0} (xs : List A) (n : ℕ) → n ≡ length xs → take n xs ≡ xs
taken_all [] zero e = refl
taken_all [] (suc n) e = absurd (omega (arith, e))
taken_all (x ∷ xs) zero e = absurd (omega (arith, e))
taken_all (x ∷ xs) (suc n) e = ap (λ ys. x ∷ ys) (taken_all xs n (omega (arith, e)))

pub mapped_length : {A B : Type 0} (f : A → B) (xs : List A) → length (map f xs) ≡ length xs
mapped_length f [] = refl
mapped_length f (x ∷ xs) = ap suc (mapped_length f xs)

appended_none : (xs : List ℕ) → length (xs ++ []) ≡ length xs
appended_none xs = let more = length-append xs [] in omega (arith, more)

-- what a text says, whose length fits 32 bits, each node may follow
pub plans_fit : (nodes : List Node) (lists : List (List ℕ)) (text : List ℕ) → length text < 2 ^ 32 → SaysPlans (choosers_in nodes) text lists → PlansFit (map (λ (n : Node). n.kind) nodes) (plans_in nodes lists)
plans_fit nodes lists text few says =
    plans_fit_all nodes lists says.all (λ i c ms at there.
    let good = says.begins.good i c ms at there in
    let names : length (map (λ (c : Chooser). c.name) (take (length lists) (choosers_in nodes))) ≡ length lists = mapped_length (λ (c : Chooser). c.name) (take (length lists) (choosers_in nodes)) ∙ ap length (taken_all (choosers_in nodes) (length lists) says.all) ∙ sym says.all in
    let short = few_in_text (map (λ (c : Chooser). c.name) (take (length lists) (choosers_in nodes))) lists i ms (omega (arith, names)) there in
    let whole : length text ≡ length (trace_text (map (λ (c : Chooser). c.name) (take (length lists) (choosers_in nodes))) lists) = ap length says.begins.is ∙ appended_none (trace_text (map (λ (c : Chooser). c.name) (take (length lists) (choosers_in nodes))) lists) in
    (omega (arith, few, short, whole), (take i (choosers_in nodes), (take i lists, good.1))))

-- nodes that follow nothing may do so
pub none_fit : (nodes : List Node) (n : ℕ) → length nodes ≡ n → PlansFit (map (λ (m : Node). m.kind) nodes) (replicate n None)
none_fit [] zero e = tt
none_fit [] (suc n) e = absurd (omega (arith, e))
none_fit (m ∷ nodes) zero e = absurd (omega (arith, e))
none_fit (m ∷ nodes) (suc n) e = (tt, none_fit nodes n (omega (arith, e)))

-- ---- no more stages choose than there are

few_with : (name : List ℕ) (o : Option Shape) (cs : List Chooser) → length (with_chooser name o cs) ≤ length cs + 1
few_with name None cs = omega arith
few_with name (Some s) cs = omega arith

pub few_choosers : (nodes : List Node) → length (choosers_in nodes) ≤ length nodes
few_choosers [] = omega arith
few_choosers (n ∷ ns) =
    let rest = few_choosers ns in
    let more = few_with n.name (chooser_shape n.kind) (choosers_in ns) in
    omega (arith, rest, more)
