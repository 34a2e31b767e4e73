-- The plugs that the program ships, and their book.
use Rattle.std.specs.Prelude.{◌==◌, if◌then◌else◌, ℕ, List, [], ◌∷◌, Option, None, Some, Result, Ok, Err, codes}
use Rattle.std.specs.Cmp.Lexicographic.{pointwise}
use Rattle.std.specs.Ordering.{is_eq}
use Rattle.elem_core.specs.Tree.{Tree}
use Rattle.elem_core.specs.Order.{tree_cmp}
use Rattle.elem_core.specs.Values.{sum_step}
use Rattle.elem_core.specs.declared.why.Why.{Why}
use Rattle.stream_model.specs.Linear.{Book, plugs_book, Reply, go, fail}
use Rattle.plug_logic.specs.Gives.{Gives}

-- these outputs, and it goes on
abbrev pub reply_with : List Tree → Reply
reply_with l = record { gave = l; verdict = go }

-- ---- dedup

-- the last element that came, of a list behind one that came before it
abbrev pub last_behind : Option Tree → List Tree → Option Tree
last_behind x [] = x
last_behind x (t ∷ l) = last_behind (Some t) l

-- an element that is equal to the one before it is left out
abbrev pub unrepeated : Option Tree → Tree → List Tree
unrepeated None t = t ∷ []
unrepeated (Some last) t = if is_eq (tree_cmp last t) then [] else t ∷ []

-- what it gives where this element came last
abbrev pub dedup_after : Option Tree → Gives
dedup_after x = record { reply = λ l t. reply_with (unrepeated (last_behind x l) t); closing = λ l. reply_with [] }

-- ---- pairsum

-- the number that waits for its neighbour, behind a list
abbrev pub waiting : Option Tree → List Tree → Option Tree
waiting x [] = x
waiting None (t ∷ l) = waiting (Some t) l
waiting (Some a) (t ∷ l) = waiting None l

-- a sum, or code 1 where it is out of range
abbrev pub summed : Result Tree Why → Reply
summed (Ok s) = reply_with (s ∷ [])
summed (Err w) = record { gave = []; verdict = fail 1 }

-- what `pairsum` replies to a number: nothing where none waits, and else the sum of the two
abbrev pub pair_reply : Option Tree → Tree → Reply
pair_reply None t = reply_with []
pair_reply (Some a) t = summed (sum_step a t)

-- an odd last number
abbrev pub odd : Option Tree → Reply
odd None = reply_with []
odd (Some a) = reply_with (a ∷ [])

-- what it gives where this number waits
abbrev pub sums_after : Option Tree → Gives
sums_after x = record { reply = λ l. pair_reply (waiting x l); closing = λ l. odd (waiting x l) }

-- ---- the book

-- a plug that gives nothing
abbrev pub silent : Gives
silent = record { reply = λ l t. reply_with []; closing = λ l. reply_with [] }

-- what the plug of this name gives
abbrev pub shipped : List ℕ → Gives
shipped name = if pointwise ◌==◌ name (codes "dedup") then dedup_after None else if pointwise ◌==◌ name (codes "pairsum") then sums_after None else silent

-- the book of the plugs that the program ships: what each gives by its name
abbrev pub shipped_book : Book
shipped_book = plugs_book (λ name. (shipped name).reply) (λ name. (shipped name).closing)
