-- The places of keys are those of the substreams of the model.
use Rattle.std.specs.Prelude.{if◌then◌else◌}
use Rattle.std.specs.Ordering.{is_eq}
use Rattle.std.specs.Cmp.{eq_by_cmp_equiv}
use Rattle.std.specs.declared.cmp.Ordering.{Ordering}
use Rattle.std.specs.declared.cmp.Ordering.TheVariants.{Less, Equal, Greater}
use Rattle.std.proofs.Common.{◌≡◌, ℕ, Bool, true, false, List, [], ◌∷◌, ◌++◌, length, Option, Some, None, refl, sym, ap, ◌∙◌, arith}
use Rattle.elem_core.specs.Tree.{Tree}
use Rattle.elem_core.specs.Order.{tree_cmp}
use Rattle.stream_model.specs.Substreams.{Sub, find_key}
use Rattle.elem_core.specs.OrderLaws.{tree_exact, trees_total}
use Rattle.stage_sub.proofs.Groups.{or_last, find_new}

equal_by : (o : Ordering) → is_eq o ≡ true → o ≡ Equal
equal_by Less h = cc
equal_by Equal h = refl
equal_by Greater h = cc

-- a key that is new goes to the place behind all
pub new_key : (old new : Tree → Option ℕ) (ss : List Sub) (s : Sub) → ((k : Tree) → old k ≡ find_key k 0 ss) → old s.key ≡ None
    → ((k : Tree) → new k ≡ (if is_eq (tree_cmp s.key k) then Some (length ss) else old k)) → (k : Tree) → new k ≡ find_key k 0 (ss ++ s ∷ [])
new_key old new ss s same none adds k =
    adds k ∙ ap (λ (o : Option ℕ). if is_eq (tree_cmp s.key k) then Some (length ss) else o) (same k)
    ∙ by_found (find_key k 0 ss) refl (is_eq (tree_cmp s.key k)) refl ∙ ap (λ j. or_last k s j (find_key k 0 ss)) (omega arith) ∙ sym (find_new k 0 ss s)
  where
    by_found : (r : Option ℕ) → find_key k 0 ss ≡ r → (b : Bool) → is_eq (tree_cmp s.key k) ≡ b → (if b then Some (length ss) else r) ≡ or_last k s (length ss) r
    by_found None is b e =
        let flip : is_eq (tree_cmp k s.key) ≡ b = (eq_by_cmp_equiv trees_total).symm k s.key ∙ e in
        sym (ap (λ x. if x then Some (length ss) else None) flip)
    by_found (Some i) is false e = refl
    by_found (Some i) is true e =
        let one : s.key ≡ k = tree_exact s.key k (equal_by (tree_cmp s.key k) e) in
        let two : Some i ≡ None = sym is ∙ sym (same k) ∙ ap old (sym one) ∙ none in
        cc
