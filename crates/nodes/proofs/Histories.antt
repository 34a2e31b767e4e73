-- A history of one port that grows by one item, and what the stage knows of the port then.
use Rattle.std.proofs.Common.{◌≡◌, List, [], ◌∷◌, ◌++◌, refl, sym, ap, ◌∙◌, append-nil}
use Rattle.elem_core.specs.Tree.{Tree}
use Rattle.elem_core.specs.declared.item.Item.{Item}
use Rattle.elem_core.specs.declared.item.Item.TheVariants as item
use Rattle.port_core.specs.Call.{came}
use Rattle.stream_model.specs.Outlook.{End, unended, ended, failed}
use Rattle.stage_core.specs.Held.{told}
use Rattle.stage_core.specs.Law.{TookAs}
use Rattle.stage_core.proofs.Told.{told-append}

-- how a list stands once this item came behind it, and what it is then
abbrev pub end_after : Item → End
end_after (item.Elem t) = unended
end_after item.Ended = ended
end_after (item.Failed c) = failed c

abbrev pub list_after : Item → List Tree → List Tree
list_after (item.Elem t) l = l ++ t ∷ []
list_after item.Ended l = l
list_after (item.Failed c) l = l

-- what is told of it
pub told_after : (i : Item) (l : List Tree) → told l unended ++ i ∷ [] ≡ told (list_after i l) (end_after i)
told_after (item.Elem t) l = sym (told-append l (t ∷ []) unended)
told_after item.Ended l = sym (told-append l [] ended) ∙ ap (λ (k : List Tree). told k ended) (append-nil l)
told_after (item.Failed c) l = sym (told-append l [] (failed c)) ∙ ap (λ (k : List Tree). told k (failed c)) (append-nil l)

-- an input at which it came stands so
pub took_after : (i : Item) → TookAs (came i) (end_after i)
took_after (item.Elem t) = refl
took_after item.Ended = tt
took_after (item.Failed c) = tt
