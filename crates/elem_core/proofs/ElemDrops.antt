-- What a drop of an element goes on with is smaller than the element.
use Rattle.std.proofs.Common.{◌≡◌, ◌+◌, ◌*◌, ◌<◌, ◌≤◌, List, [], ◌∷◌, ℕ, ap, sym, ◌∙◌, arith, Vec, Global}
use denote.Param.Weighed.{most}
use Rattle.elem_core.specs.Tree.{Tree, seq, row, size_of, size_of_row}
use Rattle.elem_core.specs.Form.{tree_of}
use Rattle.elem_core.specs.declared.elem.Elem.TheDeep.{size-Elem}
use Rattle.elem_core.specs.declared.elem.Elem.{Elem}
use Rattle.elem_core.specs.declared.elem.Form.{Form}
use Rattle.elem_core.specs.declared.elem.Form.TheVariants.{Seq}

-- no item weighs more than its row
pub most_of_row : (ts : List Tree) → most size-Elem ts ≤ 3 * (size_of_row (row ts) + 1)
most_of_row [] = omega arith
most_of_row (t ∷ ts) = omega (arith, most_of_row ts)

-- the items of a list weigh less than the list
pub items_fall : (f : Form) (v : Vec Elem Global) (e : Tree) (t : ℕ) → f ≡ Seq v → tree_of f ≡ e → size-Elem e ≡ t → most size-Elem v.items < t
items_fall f v e t is view size =
    let whole : size_of (seq (row v.items)) ≡ size_of e = ap size_of (sym (ap tree_of is) ∙ view) in
    omega (arith, whole, size, most_of_row v.items)
