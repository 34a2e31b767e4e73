-- What a call brings to inputs.
use Rattle.std.specs.Prelude.{◌==◌}
use Rattle.std.proofs.Common.{◌≡◌, ℕ, ◌+◌, ◌<◌, false, List, [], ◌∷◌, ◌++◌, refl, ap, ◌∙◌, arith}
use Rattle.elem_core.specs.declared.item.Item.{Item}
use Rattle.port_core.specs.Call.{arrives}
use Rattle.stream_model.specs.FanIn.{Inflow}
use Rattle.stage_core.specs.Inflows.{joined_all, coming}
use Rattle.stage_core.proofs.Inflows.{joined_all-nothing_came}
use Rattle.stage_core.proofs.Flags.{other}

-- what a call brings to other inputs is nothing
pub not_here : (n i : ℕ) (b : Item) (fs : List Inflow) → i < n → joined_all n fs (coming (arrives i b)) ≡ fs
not_here n i b [] h = refl
not_here n i b (f ∷ fs) h =
    let x : (i == n) ≡ false = other i n (λ e. absurd (omega (arith, h, e))) in
    let first : joined_all n (f ∷ []) (coming (arrives i b)) ≡ f ∷ [] = rw x (joined_all-nothing_came n (f ∷ [])) in
    ap (λ (g : List Inflow). g ++ joined_all (n + 1) fs (coming (arrives i b))) first ∙ ap (λ (g : List Inflow). f ∷ g) (not_here (n + 1) i b fs (omega (arith, h)))
