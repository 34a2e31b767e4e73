-- A run whose stages follow moves: what they made of them, what it leaves by all of them, and the cause of a misfit.
-- Choice: docs/DECISIONS.md#replays-by-their-moves
use Rattle.std.specs.Prelude.{◌≡◌, ◌⊎◌, ◌<◌, ℕ, true, List, [], length, slice_get, Option, Some, None}
use Rattle.elem_core.specs.Prefix.{IsPrefix}
use Rattle.stream_model.specs.declared.blueprint.Blueprint.{Blueprint}
use Rattle.stream_model.specs.declared.blueprint.Node.{Node}
use Rattle.stream_model.specs.Linear.{Book}
use Rattle.stream_model.specs.Listed.{tells_none}
use Rattle.stream_model.specs.Node.{World}
use Rattle.interpreter.specs.Picks.{Pick}
use Rattle.materializer.specs.Choosers.{plan_at}
use Rattle.materializer.specs.Graphs.{graph_of, graph_node}
use Rattle.run_laws.specs.Replayed.{IsAtOnce}
use Rattle.run_laws.specs.Serving.{IsSureAt}
use Rattle.run_blueprint.specs.Drawing.{Drawn, IsSource}

-- the stage that is node k made these moves
abbrev pub HasMade : List Pick → ℕ → List ℕ → Type 0
HasMade picks k moves = (i : ℕ) × (slice_get picks i ≡ Some (k, moves))

-- A stage that follows moves made the first of them; a valve and a recover made all of them or none.
abbrev pub MakesItsMoves : Blueprint → List (Option (List ℕ)) → List Pick → Type 0
MakesItsMoves b plans picks = (k : ℕ) (n : Node) (plan moves : List ℕ) → slice_get b.nodes.items k ≡ Some n → plan_at plans k ≡ Some plan
    → HasMade picks k moves
    → IsPrefix moves plan × (IsAtOnce n.kind → (moves ≡ []) ⊎ (moves ≡ plan))

-- The world has the plugs and the custom stages as this book lists them, each input file as it was read, of each stage that follows moves
-- all of those, and of each other stage that chose the moves that it made; and what each custom stage gave that tells no list is as it was.
pub record IsReplayOf (book : Book) (nodes : List Node) (plans : List (Option (List ℕ))) (d : Drawn) (w : World) : Type 0 where
  pub book_is : w.book ≡ book
  pub files : (k : ℕ) (file : List ℕ) → IsSource nodes k file → w.file file ≡ record { bytes = d.bytes k; read = d.given k; faulted = d.faulted k }
  pub followed : (k : ℕ) (plan : List ℕ) → plan_at plans k ≡ Some plan → w.moves k ≡ plan
  pub chosen : (k : ℕ) (moves : List ℕ) → plan_at plans k ≡ None → HasMade d.picks k moves → w.moves k ≡ moves
  pub gave : (k : ℕ) (n : Node) (p : ℕ) → slice_get nodes k ≡ Some n → tells_none book n.kind ≡ true → w.given k p ≡ d.given_by k p

-- Each stage that follows moves made all of them, or no failure may come on any of its wires.
abbrev pub ServesItsMoves : Blueprint → List (Option (List ℕ)) → List Pick → World → Type 0
ServesItsMoves b plans picks w = (k : ℕ) (n : Node) (plan : List ℕ) → slice_get b.nodes.items k ≡ Some n → plan_at plans k ≡ Some plan
    → HasMade picks k plan ⊎ IsSureAt (graph_of b) w k (graph_node b.wires.items n)

-- This stage could not make its move at this place: those before it are the moves that it made, of a valve or a recover none, it has that one
-- too, and this is the cause.
pub record IsMisfit (b : Blueprint) (plans : List (Option (List ℕ))) (picks : List Pick) (Cause : ℕ → Node → Type 0) (stage place : ℕ) : Type 0 where
  pub node : Node
  pub there : slice_get b.nodes.items stage ≡ Some node
  pub plan : List ℕ
  pub follows : plan_at plans stage ≡ Some plan
  pub moves : List ℕ
  pub made : HasMade picks stage moves
  pub place_is : place ≡ length moves
  pub more : place < length plan
  pub first : IsPrefix moves plan
  pub cause : Cause stage node
