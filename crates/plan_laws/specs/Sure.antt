-- Outlooks in which nothing fails, and what a valve gave that has not acted yet.
use Rattle.std.specs.Prelude.{◌≡◌, ◌≤◌, ℕ, List, [], ◌∷◌, length, ⊤}
use Rattle.elem_core.specs.Tree.{Tree}
use Rattle.stream_model.specs.Outlook.{Outlook, End, unended}
use Rattle.stream_model.specs.Picks.{Acted, untouched, completed, aborted}

-- no failure may come on any of these wires
abbrev pub AllSure : List Outlook → Type 0
AllSure [] = ⊤
AllSure (o ∷ os) = (o.fails ≡ []) × AllSure os

-- what a valve gave that has not acted: where it is to act, no end, and no more elements than are to pass before
abbrev pub HeldTo : Acted → List Tree → End → Type 0
HeldTo untouched g e = ⊤
HeldTo (completed k) g e = (e ≡ unended) × (length g ≤ k)
HeldTo (aborted k) g e = (e ≡ unended) × (length g ≤ k)
