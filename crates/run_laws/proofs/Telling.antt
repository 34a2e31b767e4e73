-- Histories as lists: what a first part of one is.
use Rattle.std.proofs.Common.{◌≡◌, List, [], ◌∷◌, ◌++◌, ap}
use Rattle.elem_core.specs.Prefix.{IsPrefix}
use Rattle.elem_core.proofs.Prefixes.{prefix_refl, prefix_nil}
use Rattle.elem_core.specs.Tree.{Tree}
use Rattle.elem_core.specs.declared.item.Item.{Item}
use Rattle.stream_model.specs.Outlook.{Outlook, End, unended, ended, failed, Agrees}
use Rattle.stage_core.specs.Held.{told}
use Rattle.run_laws.specs.Items.{AgreesWith, WithinOutlook}

-- a first part of a history tells a first part of its list
told_part : (l k : List Tree) (e f : End) (r : List Item) → told k f ≡ told l e ++ r → IsPrefix l k
told_part [] k e f r h = prefix_nil k
told_part (t ∷ l) [] e unended r h = cc
told_part (t ∷ l) [] e ended r h = cc
told_part (t ∷ l) [] e (failed c) r h = cc
told_part (t ∷ l) (u ∷ k) e f r h =
    let i : told k f ≡ told l e ++ r = cc in
    let rest : IsPrefix l k = told_part l k e f r i in
    let here : u ≡ t = cc in
    record { rest = rest.rest; is = rw here (ap (λ (x : List Tree). t ∷ x) rest.is) }

pub told_prefix : (l k : List Tree) (e f : End) → IsPrefix (told l e) (told k f) → IsPrefix l k
told_prefix l k e f p = told_part l k e f p.rest p.is

-- what may pass by an outlook is a first part of its list
pub agrees_part : (o : Outlook) (l : List Tree) (e : End) → Agrees o l e → IsPrefix l o.list
agrees_part o l unended h = h
agrees_part o l ended h = rw h.1 (prefix_refl o.list)
agrees_part o l (failed c) h = h.0

pub agrees_passes : (o : Outlook) (items : List Item) → AgreesWith o items → WithinOutlook o items
agrees_passes o items a = record { list = a.list; end = a.end; is = a.is; part = agrees_part o a.list a.end a.agrees }
