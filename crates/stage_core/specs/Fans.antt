-- The law of a stage with several inputs that takes their elements in an order which their lists determine: concat,
-- interleave and merge_sorted.
use Rattle.std.specs.Prelude.{◌≡◌, ℕ, suc, ◌+◌, ◌==◌, ◌≤◌, if◌then◌else◌, IsTrue, List, [], ◌∷◌, ◌++◌, map, length, slice_get, Some, ⊤}
use Rattle.elem_core.specs.Tree.{Tree}
use Rattle.elem_core.specs.declared.item.Item.{Item}
use Rattle.elem_core.specs.declared.item.Item.TheVariants as item
use Rattle.elem_core.specs.declared.why.Cause.{Cause}
use Rattle.stream_model.specs.Outlook.{Outlook, End, unended, ended, failed}
use Rattle.stream_model.specs.FanIn.{Tagged, Inflow, flow, all_end, FanStands}
use Rattle.port_core.specs.View.{View}
use Rattle.port_core.specs.Call.{Call, cancels}
use Rattle.stage_core.specs.Held.{told}
use Rattle.stage_core.specs.Inflows.{joined_all, coming, PortsLaw}

-- it takes its inputs from a state on so; of what waits at an input a failure may rob `hold` elements
pub record Fan (S : Type 0) : Type 0 where
  pub from : S → List Outlook → List Tagged
  pub hold : ℕ

-- between two calls: a state, and what came to each input and did not go out yet, with how that input stands; or its output is closed
pub data FanHeld (S : Type 0) : Type 0 where
  waits : S → List Inflow → FanHeld S
  shut : FanHeld S

-- a state that serves each kind: the input whose turn it is, and how many more elements of its segment are to come
pub record FanPlace : Type 0 where
  pub current : ℕ
  pub left : ℕ

-- the elements without their inputs
abbrev pub untagged : List Tagged → List Tree
untagged l = map (λ x. x.item) l

-- how many of some elements are of input n
abbrev pub used : ℕ → List Tagged → ℕ
used n [] = 0
used n (x ∷ l) = if x.port == n then suc (used n l) else used n l

-- of each input from n on these used elements and then what waits are all that came, and what waits stands as the input does
abbrev pub UsesInputs : ℕ → List Tagged → List Inflow → List Inflow → Type 0
UsesInputs n l [] [] = ⊤
UsesInputs n l (w ∷ ws) (f ∷ fs) = ((used n l + length w.list ≡ length f.list) × (w.end ≡ f.end)) × UsesInputs (n + 1) l ws fs
UsesInputs _ _ _ _ = ⊥

-- no more than h wait at an input
abbrev pub AllFew : ℕ → List Inflow → Type 0
AllFew h [] = ⊤
AllFew h (w ∷ ws) = (length w.list ≤ h) × AllFew h ws

module _ {S : Type 0} (k : Fan S) where
  -- what it gives of these lists, from a state on
  abbrev pub fan_gives : S → List Inflow → List Tagged
  fan_gives s ws = k.from s (map flow ws)

  -- The residual law of a call: for every rest and every end of each input, what was given from now on for what waited and
  -- came, and then the rest, is what is pushed and then what is given from the new state.
  -- Choice: docs/DECISIONS.md#law-keeps-every-rest
  pub record FanTurn (s : S) (waited : List Inflow) (out : List Item) (t : S) (waits_then : List Inflow) : Type 0 where
    pub given : List Tagged
    pub out_is : out ≡ told (untagged given) unended
    pub uses : UsesInputs 0 given waits_then waited
    pub few : AllFew k.hold waits_then
    pub same : (more : ℕ → Inflow) → fan_gives s (joined_all 0 waited more) ≡ given ++ fan_gives t (joined_all 0 waits_then more)

  -- how it closes its output: every input has ended, and all that waited is given; or an input failed, and what waits is dropped
  pub data FanClose (s : S) (waited : List Inflow) (out : List Item) : Type 0 where
    completes : IsTrue (all_end (map flow waited)) → out ≡ told (untagged (fan_gives s waited)) ended → FanClose s waited out
    fails : (i : ℕ) (f : Inflow) (c : Cause) → slice_get waited i ≡ Some f → f.end ≡ failed c → length f.list ≤ k.hold → out ≡ item.Failed c ∷ []
        → FanClose s waited out

  -- What a handler owes by its call: a cancel ends the stage; whatever else comes is a turn or closes the output. One that
  -- has closed its output is not called.
  -- Choice: docs/DECISIONS.md#closed-fans-are-not-called
  abbrev pub FanTurnAt : Call → FanHeld S → List Item → FanHeld S → Type 0
  FanTurnAt call shut out new = ⊥
  FanTurnAt (cancels j) (waits s ws) out new = (out ≡ []) × (new ≡ shut)
  FanTurnAt call (waits s ws) out (waits t us) = FanTurn s (joined_all 0 ws (coming call)) out t us
  FanTurnAt call (waits s ws) out shut = FanClose s (joined_all 0 ws (coming call)) out

  module _ (start : S) where
    -- for every rest of every input: what it gives in all is what it gave, and then what it gives from now on
    pub record FanKept (s : S) (ws : List Inflow) (ins : List Inflow) (g : List Tree) : Type 0 where
      pub given : List Tagged
      pub gave_is : g ≡ untagged given
      pub uses : UsesInputs 0 given ws ins
      pub few : AllFew k.hold ws
      pub rest : (more : ℕ → Inflow) → fan_gives start (joined_all 0 ins more) ≡ given ++ fan_gives s (joined_all 0 ws more)

    -- one that waits keeps that; one that is closed may have given what it gave
    abbrev pub FanKeeps : FanHeld S → List Inflow → List Tree → End → Type 0
    FanKeeps (waits s ws) ins g f = (f ≡ unended) × FanKept s ws ins g
    FanKeeps shut ins g f = FanStands k.hold (k.from start) ins g f

    -- the law of such a stage over its whole history
    abbrev pub FanLaw : FanHeld S → View → (ℕ → List Item) → List Item → Type 0
    FanLaw x v took gave = PortsLaw (FanKeeps x) v took gave
