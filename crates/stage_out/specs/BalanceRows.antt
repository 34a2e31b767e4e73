-- The row of a balance in a picture that rests where it follows moves, and the cause of a misfit over outlooks.
use Rattle.std.specs.Prelude.{◌≡◌, ◌⊎◌, ℕ, List, length, slice_get, Some, ⊤}
use Rattle.port_core.specs.declared.pick_log.Next.{Next}
use Rattle.port_core.specs.declared.pick_log.Next.TheVariants.{Free, Move, UsedUp}
use Rattle.port_core.specs.View.{View}
use Rattle.elem_core.specs.Tree.{Tree}
use Rattle.stream_model.specs.Outlook.{Outlook}
use Rattle.stream_model.specs.View.{SeenWire, EachWire}
use Rattle.stream_model.specs.Rests.{Waits, IsShut, IsUnasked, OneToMany, BalanceRests}
use Rattle.stage_core.specs.Over.{EndsAt}
use Rattle.stage_out.specs.Outs.{own_ins, own_outs}

-- output j is open, and is not asked
abbrev pub OutputUnasked : ℕ → List SeenWire → Type 0
OutputUnasked j os = (o : SeenWire) → slice_get os j ≡ Some o → IsUnasked o

-- The row of a balance by what its next move is to be. One that follows moves waits for its input, or for the output of the next move, or
-- made all its moves.
abbrev pub BalanceRestsBy : Next → SeenWire → List SeenWire → Type 0
BalanceRestsBy Free i os = BalanceRests i os
BalanceRestsBy (Move j) i os = Waits i ⊎ OutputUnasked j os
BalanceRestsBy UsedUp i os = ⊤

-- it has closed its ports, or has nothing to do, where it took l and gave these
abbrev pub BalanceRestsOwn : Next → View → List Tree → (ℕ → List Tree) → Type 0
BalanceRestsOwn next v l g = (EachWire IsShut (own_ins v.ins l) × EachWire IsShut (own_outs 0 v.outs g))
    ⊎ OneToMany (BalanceRestsBy next) (own_ins v.ins l) (own_outs 0 v.outs g)

-- The cause of a misfit over the outlook of the input: a move is next, the input ends, and its moves gave all its elements.
abbrev pub BalanceMisfits : Next → List ℕ → Outlook → Type 0
BalanceMisfits (Move j) moves o = EndsAt o (length moves)
BalanceMisfits _ moves o = ⊥
