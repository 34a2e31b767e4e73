-- The plug `maximum`, and the book in which it stands.
use Rattle.std.specs.Prelude.{◌==◌, if◌then◌else◌, ℕ, List, [], ◌∷◌, Option, None, Some, codes}
use Rattle.std.specs.Cmp.Lexicographic.{pointwise}
use Rattle.std.specs.Ordering.{is_lt}
use Rattle.elem_core.specs.Tree.{Tree}
use Rattle.elem_core.specs.Order.{tree_cmp}
use Rattle.stream_model.specs.Linear.{Book, plugs_book}
use Rattle.plug_logic.specs.Gives.{Gives}
use Rattle.plug_logic.specs.Shipped.{reply_with, silent}

-- the greater of two, and the first where they are equal
abbrev pub greatest : Option Tree → Tree → Tree
greatest None t = t
greatest (Some best) t = if is_lt (tree_cmp best t) then t else best

-- the greatest of a list, behind one that came before it
abbrev pub greatest_behind : Option Tree → List Tree → Option Tree
greatest_behind best [] = best
greatest_behind best (t ∷ l) = greatest_behind (Some (greatest best t)) l

-- what it gives where this was the greatest so far: behind each element the greatest, and nothing at the end
abbrev pub maximum_after : Option Tree → Gives
maximum_after best = record { reply = λ l t. reply_with (greatest (greatest_behind best l) t ∷ []); closing = λ l. reply_with [] }

-- what the plug of this name gives; one of any other name gives nothing
abbrev pub own_plug : List ℕ → Gives
own_plug name = if pointwise ◌==◌ name (codes "maximum") then maximum_after None else silent

-- the book of the worked example: what the plug of each name gives
abbrev pub own_book : Book
own_book = plugs_book (λ name. (own_plug name).reply) (λ name. (own_plug name).closing)
