-- How many elements a merge_sorted gave: as many as it took of its two inputs, but for what waits.
use Rattle.std.specs.Option.{option_to_list}
use Rattle.std.specs.Ordering.{is_lt}
use Rattle.std.proofs.Common.{◌≡◌, ℕ, suc, ◌+◌, ◌≤◌, Bool, true, false, List, [], ◌∷◌, ◌++◌, length, map, refl, ap, ◌∙◌, subst, arith, length-append}
use Rattle.std.specs.Prelude.{if◌then◌else◌, ◌==◌}
use Rattle.std.proofs.lemmas.Bool.Decides.{nat_tests}
use Rattle.std.proofs.lemmas.List.{length-map}
use Rattle.elem_core.specs.Tree.{Tree}
use Rattle.elem_core.specs.Order.{tree_cmp}
use Rattle.stream_model.specs.FanIn.{Tagged, tag, Inflow, flow, against, sorted_of}
use Rattle.stream_model.specs.Outlook.{Outlook}
use Rattle.stage_core.specs.Inflows.{nothing_came, joined, joined_all}
use Rattle.stage_core.specs.Fans.{FanKept, fan_gives, used}
use Rattle.stage_core.proofs.FanTurns.{used-append}
use Rattle.stage_in.specs.Kinds.{sorting}
use Rattle.stage_in.specs.Pairings.{Pairing, inlet_flow}
use Rattle.stage_in.specs.Sortings.{nowhere}

-- all are of the inputs 0 and 1
abbrev Full : List Tagged → Type 0
Full l = used 0 l + used 1 l ≡ length l

first_full : (t : Tree) (l : List Tagged) → Full l → Full (tag 0 t ∷ l)
first_full t l h = omega (arith, h)

second_full : (t : Tree) (l : List Tagged) → Full l → Full (tag 1 t ∷ l)
second_full t l h = omega (arith, h)

all_first : (l : List Tree) → Full (map (tag 0) l)
all_first [] = refl
all_first (t ∷ l) = first_full t (map (tag 0) l) (all_first l)

all_second : (l : List Tree) → Full (map (tag 1) l)
all_second [] = refl
all_second (t ∷ l) = second_full t (map (tag 1) l) (all_second l)

by_end : (b : Bool) (l : List Tagged) → Full l → Full (if b then l else [])
by_end true l h = h
by_end false l h = refl

either : (b : Bool) (l m : List Tagged) → Full l → Full m → Full (if b then l else m)
either true l m h k = h
either false l m h k = k

against_full : (x : Tree) (rest : List Tagged) (k : List Tree → List Tagged) (ys : List Tree) → Full rest → ((zs : List Tree) → Full (k zs)) → Full (against x rest k ys)
against_full x rest k [] r h = r
against_full x rest k (y ∷ ys) r h = either (is_lt (tree_cmp y x)) (tag 1 y ∷ against x rest k ys) (tag 0 x ∷ k (y ∷ ys)) (second_full y (against x rest k ys) (against_full x rest k ys r h)) (first_full x (k (y ∷ ys)) (h (y ∷ ys)))

sorted_full : (e f : Bool) (xs ys : List Tree) → Full (sorted_of e f xs ys)
sorted_full e f [] ys = by_end e (map (tag 1) ys) (all_second ys)
sorted_full e f (x ∷ xs) ys = against_full x (if f then map (tag 0) (x ∷ xs) else []) (sorted_of e f xs) ys (by_end f (map (tag 0) (x ∷ xs)) (all_first (x ∷ xs))) (λ zs. sorted_full e f xs zs)

-- no more are of them than there are
used_at : (b c : Bool) (m n k : ℕ) → m + n ≤ k → (b ≡ true → c ≡ false) → (if b then suc m else m) + (if c then suc n else n) ≤ suc k
used_at true true m n k le apart = let f : true ≡ false = apart refl in absurd cc
used_at true false m n k le apart = omega (arith, le)
used_at false true m n k le apart = omega (arith, le)
used_at false false m n k le apart = omega (arith, le)

one_port : (k : ℕ) → (k == 0) ≡ true → (k == 1) ≡ false
one_port k e = let z : k ≡ 0 = grind (arith, nat_tests) in ap (λ (m : ℕ). m == 1) z

used_two : (l : List Tagged) → used 0 l + used 1 l ≤ length l
used_two [] = omega arith
used_two (x ∷ l) = used_at (x.port == 0) (x.port == 1) (used 0 l) (used 1 l) (length l) (used_two l) (one_port x.port)

full_first : (a b : List Tagged) → Full (a ++ b) → Full a
full_first a b h =
    let long = length-append a b in
    let zeros = used-append 0 a b in
    let ones = used-append 1 a b in
    let few = used_two a in
    let less = used_two b in
    omega (arith, h, long, zeros, ones, few, less)

-- what came on its two inputs went out, but for what waits
pub sorted_count : (l : Pairing) (a b : Inflow) (g : List Tree) → FanKept sorting nowhere nowhere (inlet_flow l.left ∷ inlet_flow l.right ∷ []) (a ∷ b ∷ []) g
    → length a.list + length b.list ≡ length g + (length (option_to_list l.left.held) + length (option_to_list l.right.held))
sorted_count l a b g k =
    let p : Outlook = flow (joined a nothing_came) in
    let q : Outlook = flow (joined b nothing_came) in
    let later : List Tagged = fan_gives sorting nowhere (joined_all 0 (inlet_flow l.left ∷ inlet_flow l.right ∷ []) (λ n. nothing_came)) in
    let whole : sorted_of p.ends q.ends p.list q.list ≡ k.given ++ later = k.rest (λ n. nothing_came) in
    let all : Full (k.given ++ later) = subst (λ (x : List Tagged). Full x) whole (sorted_full p.ends q.ends p.list q.list) in
    let first = full_first k.given later all in
    let gave : length g ≡ length k.given = ap length k.gave_is ∙ length-map k.given (λ (x : Tagged). x.item) in
    let left = k.uses.0.0 in
    let right = k.uses.1.0.0 in
    omega (arith, first, gave, left, right)
