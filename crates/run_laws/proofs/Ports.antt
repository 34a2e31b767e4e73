-- What is known of the one port of a node that has one on that side, and of the ports of one that has none.
use Rattle.std.specs.Prelude.{slice_get}
use Rattle.std.proofs.Common.{◌≡◌, ℕ, zero, suc, List, [], ◌∷◌, Some, subst}
use Rattle.elem_core.specs.declared.item.Item.{Item}
use Rattle.port_core.specs.View.{View, in_at}
use Rattle.run_laws.specs.KindLaws.{IsHistoryOf}

pub none_at : (hs : List (List Item)) (p : ℕ) (h : List Item) → hs ≡ [] → slice_get hs p ≡ Some h → ⊥
none_at [] p h e at = cc
none_at (x ∷ hs) p h e at = cc

pub heard_one : (v : View) (hs : List (List Item)) (x : List Item) → hs ≡ x ∷ [] → IsHistoryOf (in_at v 0) x → (p : ℕ) (h : List Item) → slice_get hs p ≡ Some h → IsHistoryOf (in_at v p) h
heard_one v [] x e r p h at = cc
heard_one v (y ∷ hs) x e r zero h at = let same : x ≡ h = cc in subst (λ (z : List Item). IsHistoryOf (in_at v 0) z) same r
heard_one v (y ∷ []) x e r (suc p) h at = cc
heard_one v (y ∷ z ∷ hs) x e r (suc p) h at = cc
