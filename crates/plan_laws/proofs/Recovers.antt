-- A recover that has a move and whose input does not fail has a plan that does not fit; without one it made what it follows.
use Rattle.std.proofs.Common.{◌≡◌, ℕ, Bool, true, false, List, [], ◌∷◌, ◌++◌, length, refl, sym, ap, ◌∙◌, subst}
use Rattle.std.specs.Prelude.{◌&&◌, nat_le}
use Rattle.std.proofs.lemmas.Bool.{and_parts}
use Rattle.elem_core.specs.Tree.{Tree}
use Rattle.stream_model.specs.Outlook.{Outlook, Entry, End, Agrees}
use Rattle.stream_model.specs.FanIn.{Inflow}
use Rattle.stream_model.specs.Picks.{may_fail_at, recover_fits, recover_outlook, RecoverStands}
use Rattle.stream_model.proofs.PickTraces.{recover_trace}

-- a move wants a failure that may come there
moves_fail : (plan : List ℕ) (o : Outlook) → recover_fits plan o ≡ true → o.fails ≡ [] → plan ≡ []
moves_fail [] o h s = refl
moves_fail (k ∷ []) o h s =
    let p = and_parts (nat_le k (length o.list)) (may_fail_at k o.fails) h in
    let none : may_fail_at k [] ≡ true = sym (ap (λ (es : List Entry). may_fail_at k es) s) ∙ p.1 in cc
moves_fail (k ∷ j ∷ js) o h s = cc

no_parts : (made rest : List ℕ) → made ++ rest ≡ [] → made ≡ []
no_parts [] rest h = refl
no_parts (k ∷ made) rest h = cc

pub recover_serves : (t : Tree) (made rest : List ℕ) (o : Outlook) (f : Inflow) (g : List Tree) (e : End) → recover_fits (made ++ rest) o ≡ true → o.fails ≡ [] → Agrees o f.list f.end → RecoverStands t made f g e
    → Agrees (recover_outlook t (made ++ rest) o) g e
recover_serves t made rest o f g e fits sure a s =
    let all = moves_fail (made ++ rest) o fits sure in
    let none = no_parts made rest all in
    subst (λ (ms : List ℕ). Agrees (recover_outlook t ms o) g e) (none ∙ sym all) (recover_trace t made o f g e a s)
