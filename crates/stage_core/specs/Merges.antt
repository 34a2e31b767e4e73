-- The law of a merge: its moves say of which input each element was that it gave, and what came and was not given waits. A stage that
-- gathers, which a merge hub does, is a merge that takes each failure of an input as its end.
use Rattle.std.specs.Prelude.{◌≡◌, ℕ, Bool, true, false, IsTrue, List, [], ◌∷◌, ◌++◌, map, slice_get, slice_set, Option, Some, None, ⊤}
use Rattle.elem_core.specs.Tree.{Tree}
use Rattle.elem_core.specs.declared.item.Item.{Item}
use Rattle.elem_core.specs.declared.item.Item.TheVariants as item
use Rattle.elem_core.specs.declared.why.Cause.{Cause}
use Rattle.stream_model.specs.Outlook.{End, unended, ended}
use Rattle.stream_model.specs.FanIn.{Inflow, flow, merge_of, Finds}
use Rattle.stream_model.specs.Picks.{used_up, FailsWithin, MergeStands, softened_by}
use Rattle.port_core.specs.View.{View}
use Rattle.port_core.specs.Call.{Call, starts, pulls, arrives, cancels}
use Rattle.stage_core.specs.Held.{told}
use Rattle.stage_core.specs.Inflows.{joined_all, coming, PortsLaw}
use Rattle.stage_core.specs.Fans.{untagged}

-- between two calls: its moves, and what came to each input and did not go out yet; or its output is closed
pub data MergeHeld : Type 0 where
  waits : List ℕ → List Inflow → MergeHeld
  shut : List ℕ → MergeHeld

-- what waits of each input, as lists
abbrev pub lists_of : List Inflow → List (List Tree)
lists_of fs = map (λ f. f.list) fs

-- without the first element of list i, where there is one
abbrev pub left_at : ℕ → List (List Tree) → Option (List Tree) → List (List Tree)
left_at i ls None = ls
left_at i ls (Some []) = ls
left_at i ls (Some (t ∷ ts)) = slice_set ls i ts

-- what is left once each move took the next element of its list
abbrev pub left_by : List ℕ → List (List Tree) → List (List Tree)
left_by [] ls = ls
left_by (i ∷ is) ls = left_by is (left_at i ls (slice_get ls i))

-- each input stands as the one at its place
abbrev pub SameEnds : List Inflow → List Inflow → Type 0
SameEnds [] [] = ⊤
SameEnds (w ∷ ws) (f ∷ fs) = (w.end ≡ f.end) × SameEnds ws fs
SameEnds _ _ = ⊥

-- by these moves g is what was given of these inputs, and the others wait
pub record Merged (moves : List ℕ) (ins : List Inflow) (g : List Tree) (ws : List Inflow) : Type 0 where
  pub finds : Finds moves (lists_of ins)
  pub gave : g ≡ untagged (merge_of moves (lists_of ins))
  pub left : left_by moves (lists_of ins) ≡ lists_of ws
  pub ends : SameEnds ws ins

-- how it goes on: these further moves give what is pushed
pub record MergeTurn (moves : List ℕ) (waited : List Inflow) (out : List Item) (now : List ℕ) (us : List Inflow) : Type 0 where
  pub more : List ℕ
  pub given : List Tree
  pub now_is : now ≡ moves ++ more
  pub out_is : out ≡ told given unended
  pub merged : Merged more waited given us

-- how it closes its output: further moves use up all that waited, and every input has ended; or an input failed, of which
-- at most one element waits, and what waits is dropped
pub data MergeClose (moves : List ℕ) (waited : List Inflow) (out : List Item) (now : List ℕ) : Type 0 where
  completes : (more : List ℕ) (given : List Tree) (us : List Inflow) → now ≡ moves ++ more → out ≡ told given ended → Merged more waited given us
      → IsTrue (used_up more 0 (map flow waited)) → MergeClose moves waited out now
  fails : (c : Cause) → now ≡ moves → out ≡ item.Failed c ∷ [] → FailsWithin [] 0 waited c → MergeClose moves waited out now

-- what a handler owes by its call; one that has closed its output is not called
abbrev pub MergeTurnAt : Call → MergeHeld → List Item → MergeHeld → Type 0
MergeTurnAt call (shut moves) out new = ⊥
MergeTurnAt (cancels j) (waits moves ws) out new = (out ≡ []) × (new ≡ shut moves)
MergeTurnAt call (waits moves ws) out (waits now us) = MergeTurn moves (joined_all 0 ws (coming call)) out now us
MergeTurnAt call (waits moves ws) out (shut now) = MergeClose moves (joined_all 0 ws (coming call)) out now

-- one that waits gave by its moves what came but what waits; one that is closed may have given what it gave
abbrev pub MergeKeeps : MergeHeld → List Inflow → List Tree → End → Type 0
MergeKeeps (waits moves ws) ins g f = (f ≡ unended) × Merged moves ins g ws
MergeKeeps (shut moves) ins g f = MergeStands moves ins g f

-- the same by the flag whether it gathers: then an input that failed has ended
abbrev pub GathersAs : Bool → MergeHeld → List Inflow → List Tree → End → Type 0
GathersAs gathers x ins g f = MergeKeeps x (softened_by gathers ins) g f

-- an item that comes, as one that gathers takes it: a failure is an end
abbrev pub item_by : Bool → Item → Item
item_by gathers (item.Elem t) = item.Elem t
item_by gathers item.Ended = item.Ended
item_by true (item.Failed c) = item.Ended
item_by false (item.Failed c) = item.Failed c

-- the same of a call
abbrev pub call_by : Bool → Call → Call
call_by gathers starts = starts
call_by gathers (pulls j) = pulls j
call_by gathers (arrives i x) = arrives i (item_by gathers x)
call_by gathers (cancels j) = cancels j

-- the moves that it made
abbrev pub moves_of : MergeHeld → List ℕ
moves_of (waits moves ws) = moves
moves_of (shut moves) = moves

-- the law of a merge, or of one that gathers, over its whole history
abbrev pub MergeLaw : Bool → MergeHeld → View → (ℕ → List Item) → List Item → Type 0
MergeLaw gathers x v took gave = PortsLaw (GathersAs gathers x) v took gave
