-- Lists of items, as the history of a wire or of a lane.
use Rattle.std.specs.Prelude.{ℕ, suc, List, [], ◌∷◌}
use Rattle.elem_core.specs.declared.item.Item.{Item}
use Rattle.elem_core.specs.declared.item.Item.TheVariants as item

-- how many elements are among these
abbrev pub elements : List Item → ℕ
elements [] = 0
elements (item.Elem e ∷ items) = suc (elements items)
elements (item.Ended ∷ items) = elements items
elements (item.Failed c ∷ items) = elements items
