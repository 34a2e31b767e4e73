-- Plugs that finish, that fail, that give at their end and that meet, and the book in which they stand.
use Rattle.std.specs.Prelude.{◌==◌, if◌then◌else◌, ℕ, Bool, true, false, List, [], ◌∷◌, Option, None, Some, codes}
use Rattle.std.specs.Cmp.Lexicographic.{pointwise}
use Rattle.elem_core.specs.Tree.{Tree}
use Rattle.stream_model.specs.Linear.{Book, plugs_book, Reply, finish, fail}
use Rattle.plug_logic.specs.Gives.{Gives}
use Rattle.plug_logic.specs.Shipped.{reply_with, silent, last_behind}

-- the first element twice, and it is done
abbrev pub twin_gives : Gives
twin_gives = record { reply = λ l t. record { gave = t ∷ t ∷ []; verdict = finish }; closing = λ l. reply_with [] }

-- whether an element came, where this says so of those before a list
abbrev pub element_came : Bool → List Tree → Bool
element_came b [] = b
element_came b (t ∷ l) = true

-- what `halts` replies to an element: the first one, and a failure with code 7 at the second
abbrev pub halted : Bool → Tree → Reply
halted false t = reply_with (t ∷ [])
halted true t = record { gave = []; verdict = fail 7 }

-- what `halts` gives, by whether an element came: the first element, and a failure with code 7 at the second
abbrev pub halts_after : Bool → Gives
halts_after b = record { reply = λ l. halted (element_came b l); closing = λ l. reply_with [] }

-- each element, and code 9 at the end
abbrev pub spoils_gives : Gives
spoils_gives = record { reply = λ l t. reply_with (t ∷ []); closing = λ l. record { gave = []; verdict = fail 9 } }

-- an element twice, where there is one
abbrev pub twice : Option Tree → List Tree
twice None = []
twice (Some t) = t ∷ t ∷ []

-- what `tail` gives where this element came last: nothing, and at the end the last element twice
abbrev pub tail_after : Option Tree → Gives
tail_after x = record { reply = λ l t. reply_with []; closing = λ l. reply_with (twice (last_behind x l)) }

-- each element
abbrev pub passes_all : Gives
passes_all = record { reply = λ l t. reply_with (t ∷ []); closing = λ l. reply_with [] }

-- what the plug of this name gives; one of any other name gives nothing
abbrev pub sample : List ℕ → Gives
sample name =
    if pointwise ◌==◌ name (codes "twin") then twin_gives
    else if pointwise ◌==◌ name (codes "halts") then halts_after false
    else if pointwise ◌==◌ name (codes "spoils") then spoils_gives
    else if pointwise ◌==◌ name (codes "tail") then tail_after None
    else if pointwise ◌==◌ name (codes "left") then passes_all
    else if pointwise ◌==◌ name (codes "right") then passes_all
    else silent

-- the book of these plugs: what the plug of each name gives
abbrev pub sample_book : Book
sample_book = plugs_book (λ name. (sample name).reply) (λ name. (sample name).closing)
