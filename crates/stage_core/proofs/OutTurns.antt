-- A call keeps the law of each output of a stage with one input.
use Rattle.std.proofs.Common.{◌≡◌, ℕ, ◌+◌, List, [], ◌∷◌, ◌++◌, length}
use Rattle.elem_core.specs.declared.item.Item.{Item}
use Rattle.port_core.specs.declared.act.Act.{Act}
use Rattle.port_core.specs.View.{View, ActsAllowed, acted_all}
use Rattle.port_core.specs.Call.{Call, CallAllowed, seen, brought_to, given_on}
use Rattle.stage_core.specs.Held.{Held}
use Rattle.stage_core.specs.Outs.{Outlet, OutsLaw, TurnsAt, owe}
use Rattle.stage_core.proofs.Calls.{call_law}

module _ {S : Type 0} where
  pub outs_call : (n : ℕ) (call : Call) (os : List (Outlet S)) (hs : List (Held S)) (v : View) (took : List Item) (gave : ℕ → List Item) (acts : List Act) → length v.ins ≡ 1 → CallAllowed call v → ActsAllowed (seen call v) acts
      → TurnsAt n call os acts hs → OutsLaw n os v took gave → OutsLaw n (owe os hs) (acted_all (seen call v) acts) (took ++ brought_to 0 call) (λ j. gave j ++ given_on j acts)
  outs_call n call [] [] v took gave acts one may allowed turns law = tt
  outs_call n call [] (h ∷ hs) v took gave acts one may allowed turns law = absurd turns
  outs_call n call (o ∷ os) [] v took gave acts one may allowed turns law = absurd turns
  outs_call n call (o ∷ os) (h ∷ hs) v took gave acts one may allowed turns law =
      (call_law o.machine o.start n call o.held h v took (gave n) acts one may allowed turns.0 law.0, outs_call (n + 1) call os hs v took gave acts one may allowed turns.1 law.1)
