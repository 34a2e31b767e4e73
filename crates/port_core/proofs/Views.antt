-- What a stage sees of its ports as its actions follow one another.
use Rattle.std.proofs.Common.{◌≡◌, ℕ, List, [], ◌∷◌, ◌++◌, length, refl, sym, ◌∙◌, ap, append_assoc}
use Rattle.std.proofs.lemmas.List.{length-set}
use Rattle.elem_core.specs.declared.item.Item.{Item}
use Rattle.port_core.specs.declared.act.Act.{Act}
use Rattle.port_core.specs.declared.act.Act.TheVariants.{Pull, Push, Complete, FailOut, Cancel}
use Rattle.port_core.specs.View.{View, acted, ActsAllowed, acted_all}
use Rattle.port_core.specs.Call.{given_by, given_on}

pub acted_append : (v : View) (a b : List Act) → acted_all v (a ++ b) ≡ acted_all (acted_all v a) b
acted_append v [] b = refl
acted_append v (x ∷ a) b = acted_append (acted v x) a b

pub allowed_append : (v : View) (a b : List Act) → ActsAllowed v a → ActsAllowed (acted_all v a) b → ActsAllowed v (a ++ b)
allowed_append v [] b h k = k
allowed_append v (x ∷ a) b h k = (h.0, allowed_append (acted v x) a b h.1 k)

pub allowed_parts : (v : View) (a b : List Act) → ActsAllowed v (a ++ b) → ActsAllowed v a × ActsAllowed (acted_all v a) b
allowed_parts v [] b h = (tt, h)
allowed_parts v (x ∷ a) b h = let r = allowed_parts (acted v x) a b h.1 in ((h.0, r.0), r.1)

pub given_append : (j : ℕ) (a b : List Act) → given_on j (a ++ b) ≡ given_on j a ++ given_on j b
given_append j [] b = refl
given_append j (x ∷ a) b = ap (λ (l : List Item). given_by j x ++ l) (given_append j a b) ∙ sym (append_assoc (given_by j x) (given_on j a) (given_on j b))

-- no action makes a port
pub ins_stay : (v : View) (a : Act) → length (acted v a).ins ≡ length v.ins
ins_stay v (Pull i) = length-set v.ins i _
ins_stay v (Push j e) = refl
ins_stay v (Complete j) = refl
ins_stay v (FailOut j c) = refl
ins_stay v (Cancel i) = length-set v.ins i _

pub outs_stay : (v : View) (a : Act) → length (acted v a).outs ≡ length v.outs
outs_stay v (Pull i) = refl
outs_stay v (Push j e) = length-set v.outs j _
outs_stay v (Complete j) = length-set v.outs j _
outs_stay v (FailOut j c) = length-set v.outs j _
outs_stay v (Cancel i) = refl
