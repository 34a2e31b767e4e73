-- What a handler did at an output, as one step of the machine, and the residual law, for stages with one input.
use Rattle.std.specs.Prelude.{◌≡◌, ℕ, ◌==◌, MatchBool, ◌+◌, ◌≤◌, IsTrue, ◌⊎◌, false, List, [], ◌∷◌, ◌++◌, length, ⊤, Option, None, Some}
use Rattle.std.specs.Option.{option_to_list}
use Rattle.elem_core.specs.Tree.{Tree}
use Rattle.elem_core.specs.declared.why.Cause.{Cause}
use Rattle.stream_model.specs.Outlook.{unended}
use Rattle.stream_model.specs.Machine.{State, going, Run, refuses, Machine, is_going, feed, close}
use Rattle.elem_core.specs.declared.item.Item.{Item}
use Rattle.elem_core.specs.declared.item.Item.TheVariants as item
use Rattle.port_core.specs.Call.{Call, starts, pulls, arrives, cancels}
use Rattle.stage_core.specs.Held.{told, told_of, Held, owing, shut, after, gives}

module _ {S : Type 0} (m : Machine S Tree) where
  -- what y owes: the first of its outputs went out, and the others are held; or all of them went out, and its end
  abbrev pub Emits : Run S Tree → List Item → Held S → Type 0
  Emits y out (owing z) = (told y.gave unended ≡ out ++ told z.gave unended) × (z.state ≡ y.state)
  Emits y out shut = (is_going y.state ≡ false) × (out ≡ told_of (close m y unended))

  -- After the element t no more is held than what the last `hold` elements brought: the machine's outputs are never lost; or
  -- what is held came with t; or each element brings one output, and no more than `hold` are held.
  pub data Few (x : Run S Tree) (t : Tree) (z : Run S Tree) : Type 0 where
    none_lost : m.hold ≡ 0 → Few x t z
    last_held : 1 ≤ m.hold → length x.gave + length z.gave ≤ length (feed m x t).gave → Few x t z
    each_held : ((s : S) (u : Tree) → length (m.step s u).gave ≡ 1) → length z.gave ≤ m.hold → Few x t z

  -- the same of what the output owes
  abbrev pub FewIn : Run S Tree → Tree → Held S → Type 0
  FewIn x t (owing z) = Few x t z
  FewIn x t shut = ⊤

  -- what is held may be dropped: nothing is, or the machine may lose outputs
  -- Choice: docs/DECISIONS.md#loss-is-a-step
  abbrev pub MayDrop : Run S Tree → Type 0
  MayDrop x = (x.gave ≡ []) ⊎ (1 ≤ m.hold)

  -- an end of the input that fails the stage, and what is held is dropped
  abbrev pub DropsAtEnd : Run S Tree → List Item → Held S → Type 0
  DropsAtEnd x out new = (s : S) × ((c : Cause) × ((x.state ≡ going s) × ((m.finish s ≡ refuses c)
      × ((MayDrop x × (m.hold ≤ m.early)) × ((out ≡ item.Failed c ∷ []) × (new ≡ shut))))))

  -- a failure of the input, and what is held is dropped
  abbrev pub DropsAtFailure : Run S Tree → Cause → List Item → Held S → Type 0
  DropsAtFailure x c out new = (IsTrue (is_going x.state) × MayDrop x) × ((out ≡ item.Failed c ∷ []) × (new ≡ shut))

  -- a stage that owed x took what an event brought, pushed `out`, and is new
  abbrev pub Turn : Run S Tree → Option Item → List Item → Held S → Type 0
  Turn x None out new = Emits x out new
  Turn x (Some (item.Elem t)) out new = Emits (feed m x t) out new × FewIn x t new
  Turn x (Some item.Ended) out new = Emits (after m x item.Ended) out new ⊎ DropsAtEnd x out new
  Turn x (Some (item.Failed c)) out new = Emits (after m x (item.Failed c)) out new ⊎ DropsAtFailure x c out new

  -- a normal end fails the stage
  abbrev pub Refuses : State S → Type 0
  Refuses st = (s : S) × ((c : Cause) × ((st ≡ going s) × (m.finish s ≡ refuses c)))

  -- what may be lost: nothing, but at a failure of the input, or at an end that fails the stage, all that was held
  abbrev pub MayLose : Run S Tree → Option Item → List Tree → Type 0
  MayLose x None lost = lost ≡ []
  MayLose x (Some (item.Elem t)) lost = lost ≡ []
  MayLose x (Some item.Ended) lost = (lost ≡ []) ⊎ ((lost ≡ x.gave) × (MayDrop x × Refuses x.state))
  MayLose x (Some (item.Failed c)) lost = (lost ≡ []) ⊎ ((lost ≡ x.gave) × MayDrop x)

  -- The residual law: what is pushed, and then what the stage gives from now on, is what it gave before for what came and
  -- then the rest, for every rest and every end; where a failure drops what is held, that and no more is lost.
  pub record Residual (x : Run S Tree) (brought : Option Item) (out : List Item) (new : Held S) : Type 0 where
    pub lost : List Tree
    pub may : MayLose x brought lost
    pub same : (rest : List Item) → gives m (owing x) (option_to_list brought ++ rest) ≡ told lost unended ++ (out ++ gives m new rest)

  -- What a handler owes to the law, at output j, by its call: a cancel of the output ends it; whatever else comes is one step
  -- of the machine; an output that is closed gives nothing more.
  abbrev pub TurnAt : ℕ → Call → Held S → List Item → Held S → Type 0
  TurnAt j call shut out new = (out ≡ []) × (new ≡ shut)
  TurnAt j starts (owing x) out new = Turn x None out new
  TurnAt j (pulls k) (owing x) out new = Turn x None out new
  TurnAt j (arrives i b) (owing x) out new = Turn x (Some b) out new
  TurnAt j (cancels k) (owing x) out new = MatchBool (k == j) ((out ≡ []) × (new ≡ shut)) (Turn x None out new)

  -- the residual law by calls; where an output is cancelled or closed, nothing is given
  abbrev pub ResidualAt : ℕ → Call → Held S → List Item → Held S → Type 0
  ResidualAt j call shut out new = out ≡ []
  ResidualAt j starts (owing x) out new = Residual x None out new
  ResidualAt j (pulls k) (owing x) out new = Residual x None out new
  ResidualAt j (arrives i b) (owing x) out new = Residual x (Some b) out new
  ResidualAt j (cancels k) (owing x) out new = MatchBool (k == j) (out ≡ []) (Residual x None out new)
