-- What the loops over a blueprint's nodes know of those that choose and of their moves.
use Rattle.std.proofs.Common.{◌≡◌, ◌⊎◌, inl, inr, ℕ, zero, suc, ◌+◌, ◌<◌, ◌≤◌, true, false, List, [], ◌∷◌, ◌++◌, length, map, drop, get_or, replicate, Option, Some, None, refl, ap, sym, ◌∙◌, subst, arith, append_assoc, append-nil}
use Rattle.std.specs.Prelude.{slice_get}
use Rattle.std.specs.declared.vec.Vec.{Vec}
use Rattle.std.specs.declared.alloc.Global.{Global}
use Rattle.std.proofs.lemmas.Grind.{replicate_next}
use Rattle.stream_model.specs.declared.blueprint.Node.{Node}
use Rattle.stream_model.specs.declared.kind.Kind.{Kind}
use Rattle.blue_names.specs.Picks.{picks}
use Rattle.plan_reader.specs.declared.plans.Chooser.{Chooser}
use Rattle.plan_reader.specs.declared.plans.Shape.{Shape}
use Rattle.materializer.specs.Choosers.{chooser_shape, with_chooser, choosers_in, first_moves, moves_behind, moves_of, plans_in}
use Rattle.materializer.proofs.Choosing.{Chooses, StaysFree, chooses_or, if_true, if_false, mapped_length}
use Rattle.materializer.proofs.HandingGuests.{here}

map_behind : {A B : Type 0} (f : A → B) (xs : List A) (x : A) → map f (xs ++ x ∷ []) ≡ map f xs ++ f x ∷ []
map_behind f [] x = refl
map_behind f (y ∷ ys) x = ap (λ l. f y ∷ l) (map_behind f ys x)

-- ---- the stages that choose

with_behind : (name : List ℕ) (o : Option Shape) (cs : List Chooser) → with_chooser name o [] ++ cs ≡ with_chooser name o cs
with_behind name None cs = refl
with_behind name (Some s) cs = refl

pub choosers_next : (nodes : List Node) (i : ℕ) (n : Node) (old new : List Chooser) → i < length nodes → n ≡ get_or nodes i n → new ≡ old ++ with_chooser n.name (chooser_shape n.kind) [] → old ++ choosers_in (drop i nodes) ≡ choosers_in nodes
    → new ++ choosers_in (drop (i + 1) nodes) ≡ choosers_in nodes
choosers_next nodes i n old new less is more h =
    let behind = drop (i + 1) nodes in
    ap (λ l. l ++ choosers_in behind) more ∙ append_assoc old (with_chooser n.name (chooser_shape n.kind) []) (choosers_in behind) ∙ ap (λ l. old ++ l) (with_behind n.name (chooser_shape n.kind) (choosers_in behind)) ∙ ap (λ l. old ++ choosers_in l) (sym (here nodes i n less is)) ∙ h

pub choosers_all : (nodes behind : List Node) (all : List Chooser) → behind ≡ [] → all ++ choosers_in behind ≡ choosers_in nodes → all ≡ choosers_in nodes
choosers_all nodes behind all none h = sym (append-nil all) ∙ ap (λ l. all ++ choosers_in l) (sym none) ∙ h

-- ---- the moves of each node

abbrev pub Lists : List (Vec ℕ Global) → List (List ℕ)
Lists left = map (λ (p : Vec ℕ Global). p.items) left

-- a node that chooses is handed the first of those that are left
pub first_taken : (k : Kind) (m : Vec ℕ Global) (old new : List (Vec ℕ Global)) → picks k ≡ true → old ≡ m ∷ new → moves_of (Some m) ≡ first_moves k (Lists old)
first_taken k m old new chooses is = sym (if_true (picks k) (slice_get (Lists old) 0) None chooses ∙ ap (λ l. slice_get (Lists l) 0) is)

pub behind_taken : (k : Kind) (m : Vec ℕ Global) (old new : List (Vec ℕ Global)) → picks k ≡ true → old ≡ m ∷ new → Lists new ≡ moves_behind k (Lists old)
behind_taken k m old new chooses is = sym (if_true (picks k) (drop 1 (Lists old)) (Lists old) chooses ∙ ap (λ l. drop 1 (Lists l)) is)

pub each_taken : {A : Type 0} (m : A) (old new : List A) (o n : ℕ) → old ≡ m ∷ new → o ≡ n + 1 → o ≡ length old → n ≡ length new
each_taken m old new o n is less each = let size : length old ≡ suc (length new) = ap (λ (l : List _). length l) is in omega (arith, size, less, each)

-- there are as many as nodes that are left choose
count_by : (n : Node) (ns : List Node) (before after : List (Vec ℕ Global)) → Chooses n.kind ⊎ StaysFree n.kind → length before ≡ length (choosers_in (n ∷ ns)) → Lists after ≡ moves_behind n.kind (Lists before) → length after ≡ length (choosers_in ns)
count_by n ns [] after (inl h) many e =
    let size : length (choosers_in (n ∷ ns)) ≡ suc (length (choosers_in ns)) = ap (λ o. length (with_chooser n.name o (choosers_in ns))) h.1.1 in
    absurd (omega (arith, many, size))
count_by n ns (b ∷ bs) after (inl h) many e =
    let size : length (choosers_in (n ∷ ns)) ≡ suc (length (choosers_in ns)) = ap (λ o. length (with_chooser n.name o (choosers_in ns))) h.1.1 in
    let went : Lists after ≡ Lists bs = e ∙ if_true (picks n.kind) (drop 1 (Lists (b ∷ bs))) (Lists (b ∷ bs)) h.0 in
    let same : length after ≡ length bs = sym (mapped_length (λ (p : Vec ℕ Global). p.items) after) ∙ ap (λ (l : List (List ℕ)). length l) went ∙ mapped_length (λ (p : Vec ℕ Global). p.items) bs in
    omega (arith, many, size, same)
count_by n ns before after (inr h) many e =
    let size : length (choosers_in (n ∷ ns)) ≡ length (choosers_in ns) = ap (λ o. length (with_chooser n.name o (choosers_in ns))) h.1 in
    let went : Lists after ≡ Lists before = e ∙ if_false (picks n.kind) (drop 1 (Lists before)) (Lists before) h.0 in
    let same : length after ≡ length before = sym (mapped_length (λ (p : Vec ℕ Global). p.items) after) ∙ ap (λ (l : List (List ℕ)). length l) went ∙ mapped_length (λ (p : Vec ℕ Global). p.items) before in
    omega (arith, many, size, same)

pub count_next : (nodes : List Node) (i : ℕ) (n : Node) (before after : List (Vec ℕ Global)) → i < length nodes → n ≡ get_or nodes i n → length before ≡ length (choosers_in (drop i nodes)) → Lists after ≡ moves_behind n.kind (Lists before)
    → length after ≡ length (choosers_in (drop (i + 1) nodes))
count_next nodes i n before after less is many e = count_by n (drop (i + 1) nodes) before after (chooses_or n.kind) (many ∙ ap (λ l. length (choosers_in l)) (here nodes i n less is)) e

some_by : (n : Node) (ns : List Node) (m : ℕ) → Chooses n.kind ⊎ StaysFree n.kind → m ≡ length (choosers_in (n ∷ ns)) → picks n.kind ≡ true → 0 < m
some_by n ns m (inl h) many chooses =
    let size : length (choosers_in (n ∷ ns)) ≡ suc (length (choosers_in ns)) = ap (λ o. length (with_chooser n.name o (choosers_in ns))) h.1.1 in
    omega (arith, many, size)
some_by n ns m (inr h) many chooses = let both : true ≡ false = sym chooses ∙ h.0 in absurd cc

-- so one is left for a node that chooses
pub some_left : (nodes : List Node) (i : ℕ) (n : Node) (left m : ℕ) → i < length nodes → n ≡ get_or nodes i n → m ≡ length (choosers_in (drop i nodes)) → left ≡ m → picks n.kind ≡ true → 0 < left
some_left nodes i n left m less is many each chooses = some_by n (drop (i + 1) nodes) left (chooses_or n.kind) (each ∙ many ∙ ap (λ l. length (choosers_in l)) (here nodes i n less is)) chooses

pub plans_first : (nodes : List Node) (none : List (Option (Vec ℕ Global))) (left plans : List (Vec ℕ Global)) → none ≡ [] → left ≡ plans → map moves_of none ++ plans_in nodes (Lists left) ≡ plans_in nodes (Lists plans)
plans_first nodes none left plans empty same = ap (λ l. map moves_of l ++ plans_in nodes (Lists left)) empty ∙ ap (λ l. plans_in nodes (Lists l)) same

pub plans_next : (nodes : List Node) (i : ℕ) (n : Node) (old new : List (Option (Vec ℕ Global))) (m : Option (Vec ℕ Global)) (before after : List (Vec ℕ Global)) (all : List (Option (List ℕ))) → i < length nodes → n ≡ get_or nodes i n → new ≡ old ++ m ∷ []
    → moves_of m ≡ first_moves n.kind (Lists before) → Lists after ≡ moves_behind n.kind (Lists before) → map moves_of old ++ plans_in (drop i nodes) (Lists before) ≡ all → map moves_of new ++ plans_in (drop (i + 1) nodes) (Lists after) ≡ all
plans_next nodes i n old new m before after all less is more first behind h =
    let rest = plans_in (drop (i + 1) nodes) (Lists after) in
    ap (λ l. map moves_of l ++ rest) more
    ∙ ap (λ l. l ++ rest) (map_behind moves_of old m)
    ∙ append_assoc (map moves_of old) (moves_of m ∷ []) rest
    ∙ ap (λ o. map moves_of old ++ o ∷ rest) first
    ∙ ap (λ l. map moves_of old ++ first_moves n.kind (Lists before) ∷ plans_in (drop (i + 1) nodes) l) behind
    ∙ ap (λ l. map moves_of old ++ plans_in l (Lists before)) (sym (here nodes i n less is))
    ∙ h

pub plans_all : (behind : List Node) (made : List (Option (Vec ℕ Global))) (left : List (Vec ℕ Global)) (all : List (Option (List ℕ))) → behind ≡ [] → map moves_of made ++ plans_in behind (Lists left) ≡ all → map moves_of made ≡ all
plans_all behind made left all none h = sym (append-nil (map moves_of made)) ∙ ap (λ l. map moves_of made ++ plans_in l (Lists left)) (sym none) ∙ h

-- ---- and where none follows any

pub none_more : (n : ℕ) (old new : List (Option (Vec ℕ Global))) → new ≡ old ++ None ∷ [] → map moves_of old ≡ replicate n None → map moves_of new ≡ replicate (n + 1) None
none_more n old new more h = ap (map moves_of) more ∙ map_behind moves_of old None ∙ ap (λ (l : List (Option (List ℕ))). l ++ None ∷ []) h ∙ sym (replicate_next n None)

pub none_all : (n m : ℕ) (made : List (Option (Vec ℕ Global))) → n ≤ m → m ≤ n → map moves_of made ≡ replicate n None → map moves_of made ≡ replicate m None
none_all n m made most least h = let same : n ≡ m = omega (arith, most, least) in subst (λ (k : ℕ). map moves_of made ≡ replicate k None) same h
