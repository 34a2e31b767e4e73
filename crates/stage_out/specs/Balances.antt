-- The law of a balance: its moves say to which output each element went that it took, and what was not given waits.
use Rattle.std.specs.Prelude.{◌≡◌, ◌≢◌, ℕ, ◌≤◌, ◌<◌, Bool, true, false, List, [], ◌++◌, length}
use Rattle.elem_core.specs.Tree.{Tree}
use Rattle.elem_core.specs.declared.item.Item.{Item}
use Rattle.elem_core.specs.declared.why.Cause.{Cause}
use Rattle.stream_model.specs.Outlook.{End, unended, ended, failed}
use Rattle.stream_model.specs.FanIn.{Inflow}
use Rattle.port_core.specs.View.{View, in_at, out_at}
use Rattle.port_core.specs.Call.{Call}
use Rattle.stage_core.specs.Held.{told}
use Rattle.stage_core.specs.Law.{TookAs, GaveAs}
use Rattle.stage_core.specs.Inflows.{joined, coming}
use Rattle.stage_out.specs.Dealings.{Dealt, DealStands}

-- between two calls: its moves, which outputs may lack elements, and what came and did not go out yet; or all its outputs are closed
pub data BalanceHeld : Type 0 where
  waits : List ℕ → (ℕ → Bool) → Inflow → BalanceHeld
  shut : List ℕ → (ℕ → Bool) → BalanceHeld

-- what a call pushes at each output: these further moves give it of l, and `left` is left. No output that might lack elements gets any,
-- and one that may lack none now might lack none before.
pub record GivesByMoves (moves : List ℕ) (was : ℕ → Bool) (l : List Tree) (out : ℕ → List Item) (ends : ℕ → End) (now : List ℕ) (lacks : ℕ
    → Bool) (left : List Tree) : Type 0 where
  pub more : List ℕ
  pub given : ℕ → List Tree
  pub now_is : now ≡ moves ++ more
  pub out_is : (j : ℕ) → out j ≡ told (given j) (ends j)
  pub dealt : Dealt lacks more l given left
  pub less : (j : ℕ) → lacks j ≡ false → was j ≡ false
  pub none : (j : ℕ) → was j ≡ true → given j ≡ []

-- how it goes on: no output is given an end
pub record BalanceTurn (moves : List ℕ) (was : ℕ → Bool) (waited : Inflow) (out : ℕ → List Item) (now : List ℕ) (lacks : ℕ → Bool) (us : Inflow) : Type 0 where
  pub gives : GivesByMoves moves was waited.list out (λ j. unended) now lacks us.list
  pub end_is : us.end ≡ waited.end

-- How it closes its outputs. An output is given an end only where it lacks nothing. It completes only where the input has ended and
-- nothing is left, and fails only as the input failed, with at most one element left.
pub record BalanceClose (moves : List ℕ) (was : ℕ → Bool) (waited : Inflow) (out : ℕ → List Item) (now : List ℕ) (lacks : ℕ → Bool) : Type 0 where
  pub ends : ℕ → End
  pub left : List Tree
  pub gives : GivesByMoves moves was waited.list out ends now lacks left
  pub closes : (j : ℕ) → ends j ≢ unended → lacks j ≡ false
  pub completes : (j : ℕ) → ends j ≡ ended → (waited.end ≡ ended) × (left ≡ [])
  pub fails : (j : ℕ) (c : Cause) → ends j ≡ failed c → (waited.end ≡ failed c) × (length left ≤ 1)

-- what is owed by these moves of what waited
abbrev pub BalanceTurnTo : List ℕ → (ℕ → Bool) → Inflow → (ℕ → List Item) → BalanceHeld → Type 0
BalanceTurnTo moves was w out (waits now lacks us) = BalanceTurn moves was w out now lacks us
BalanceTurnTo moves was w out (shut now lacks) = BalanceClose moves was w out now lacks

-- what a handler owes, once its call brought this; one that has closed its outputs is not called
abbrev pub BalanceTurnBy : Inflow → BalanceHeld → (ℕ → List Item) → BalanceHeld → Type 0
BalanceTurnBy r (shut moves lacks) out new = ⊥
BalanceTurnBy r (waits moves lacks w) out new = BalanceTurnTo moves lacks (joined w r) out new

-- the same by its call
abbrev pub BalanceTurnAt : Call → BalanceHeld → (ℕ → List Item) → BalanceHeld → Type 0
BalanceTurnAt call old out new = BalanceTurnBy (coming call 0) old out new

-- one that waits gave by its moves what came but what waits; one that is closed may have given what it gave
abbrev pub BalanceKeeps : BalanceHeld → Inflow → (ℕ → List Tree) → (ℕ → End) → Type 0
BalanceKeeps (waits moves lacks w) f g e = ((j : ℕ) → e j ≡ unended) × (Dealt lacks moves f.list g w.list × (w.end ≡ f.end))
BalanceKeeps (shut moves lacks) f g e = (j : ℕ) → DealStands (lacks j) moves j f (g j) (e j)

-- the moves that it made
abbrev pub moves_of : BalanceHeld → List ℕ
moves_of (waits moves lacks w) = moves
moves_of (shut moves lacks) = moves

-- the outputs that may lack elements
abbrev pub lacks_of : BalanceHeld → ℕ → Bool
lacks_of (waits moves lacks w) = lacks
lacks_of (shut moves lacks) = lacks

-- the law of a balance over its whole history: what it took and what it gave at each output are lists with ends, which are
-- as it knows of its ports
pub record BalanceLaw (x : BalanceHeld) (v : View) (took : List Item) (gave : ℕ → List Item) : Type 0 where
  pub flow : Inflow
  pub lists : ℕ → List Tree
  pub ends : ℕ → End
  pub took_is : took ≡ told flow.list flow.end
  pub took_as : TookAs (in_at v 0) flow.end
  pub gave_is : (j : ℕ) → j < length v.outs → gave j ≡ told (lists j) (ends j)
  pub gave_as : (j : ℕ) → j < length v.outs → GaveAs (out_at v j) (ends j)
  pub keeps : BalanceKeeps x flow lists ends
