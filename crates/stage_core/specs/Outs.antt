-- The law of a stage with one input and several outputs: each output is a machine of its own over the same input.
use Rattle.std.specs.Prelude.{ℕ, ◌+◌, List, [], ◌∷◌, ⊤}
use Rattle.elem_core.specs.Tree.{Tree}
use Rattle.elem_core.specs.declared.item.Item.{Item}
use Rattle.stream_model.specs.Machine.{Run, Machine}
use Rattle.port_core.specs.declared.act.Act.{Act}
use Rattle.port_core.specs.View.{View, in_at, out_at}
use Rattle.port_core.specs.Call.{Call, given_on}
use Rattle.stage_core.specs.Held.{Held}
use Rattle.stage_core.specs.Turn.{TurnAt}
use Rattle.stage_core.specs.Law.{Law}

-- an output: its machine, how it starts, and what is owed there
pub record Outlet (S : Type 0) : Type 0 where
  pub machine : Machine S Tree
  pub start : Run S Tree
  pub held : Held S

module _ {S : Type 0} where
  -- the law of each output from number n on, over what was taken and what each gave
  abbrev pub OutsLaw : ℕ → List (Outlet S) → View → List Item → (ℕ → List Item) → Type 0
  OutsLaw n [] v took gave = ⊤
  OutsLaw n (o ∷ os) v took gave = Law o.machine o.start o.held (in_at v 0) (out_at v n) took (gave n) × OutsLaw (n + 1) os v took gave

  -- what a handler owes at each output from number n on, which owes this then
  abbrev pub TurnsAt : ℕ → Call → List (Outlet S) → List Act → List (Held S) → Type 0
  TurnsAt n call [] acts [] = ⊤
  TurnsAt n call (o ∷ os) acts (h ∷ hs) = TurnAt o.machine n call o.held (given_on n acts) h × TurnsAt (n + 1) call os acts hs
  TurnsAt _ _ _ _ _ = ⊥

  -- the outputs, owing this
  abbrev pub owe : List (Outlet S) → List (Held S) → List (Outlet S)
  owe [] hs = []
  owe (o ∷ os) [] = o ∷ os
  owe (o ∷ os) (h ∷ hs) = record o { held = h } ∷ owe os hs
