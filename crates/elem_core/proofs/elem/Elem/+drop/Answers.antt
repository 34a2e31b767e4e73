-- The items of a list are smaller than the list.
use Rattle.std.proofs.Common.{rules}
use Rattle.elem_core.proofs.ElemDrops.{items_fall}
use Rattle.elem_core.proofs.elem.Elem.+drop.Goals as goal

pub drop-requires : goal.drop-requires
drop-requires t c κs = (((search (items_fall, rules), tt), tt), (search rules, search rules))
