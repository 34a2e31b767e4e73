-- The islands of what some nodes leave, node by node.
use Rattle.std.proofs.Common.{◌≡◌, ℕ, ◌+◌, ◌<◌, List, [], ◌∷◌, ◌++◌, take, length, get_or, ap, sym, ◌∙◌, arith, append_assoc, append-nil}
use Rattle.std.proofs.lemmas.List.{take_more, length-take-le}
use Rattle.stream_model.specs.declared.blueprint.Node.{Node}
use Rattle.island_plans.specs.Ends.{own_home, homes_in}
use Rattle.island_plans.specs.declared.ends.EndList.{EndList}

homes_push : (list : EndList) (ns : List Node) (hs : List ℕ) (n : Node) (h : ℕ) → length hs ≡ length ns → homes_in list (ns ++ n ∷ []) (hs ++ h ∷ []) ≡ homes_in list ns hs ++ own_home list n h
homes_push list [] [] n h e = append-nil (own_home list n h)
homes_push list [] (x ∷ hs) n h e = absurd (omega (arith, e))
homes_push list (m ∷ ns) [] n h e = absurd (omega (arith, e))
homes_push list (m ∷ ns) (x ∷ hs) n h e =
    ap (λ l. own_home list m x ++ l) (homes_push list ns hs n h (omega (arith, e))) ∙ sym (append_assoc (own_home list m x) (homes_in list ns hs) (own_home list n h))

-- one node more, as code lists it
pub homes_more : (list : EndList) (nodes : List Node) (homes : List ℕ) (i : ℕ) (n : Node) (old new : List ℕ) → length homes ≡ length nodes → i < length nodes → get_or nodes i n ≡ n → old ≡ homes_in list (take i nodes) (take i homes)
    → new ≡ old ++ own_home list n (get_or homes i 0) → new ≡ homes_in list (take (i + 1) nodes) (take (i + 1) homes)
homes_more list nodes homes i n old new each lt at was is =
    let size : length (take i homes) ≡ length (take i nodes) = length-take-le i homes (omega (arith, lt, each)) ∙ sym (length-take-le i nodes (omega (arith, lt))) in
    let step : homes_in list (take (i + 1) nodes) (take (i + 1) homes) ≡ homes_in list (take i nodes) (take i homes) ++ own_home list n (get_or homes i 0) =
    ap (λ ns. homes_in list ns (take (i + 1) homes)) (take_more nodes i n lt) ∙ ap (λ hs. homes_in list (take i nodes ++ get_or nodes i n ∷ []) hs) (take_more homes i 0 (omega (arith, lt, each)))
    ∙ homes_push list (take i nodes) (take i homes) (get_or nodes i n) (get_or homes i 0) size ∙ ap (λ (m : Node). homes_in list (take i nodes) (take i homes) ++ own_home list m (get_or homes i 0)) at in
    is ∙ ap (λ l. l ++ own_home list n (get_or homes i 0)) was ∙ sym step
