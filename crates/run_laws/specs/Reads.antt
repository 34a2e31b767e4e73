-- What a source of lines read of its file, by what was sent on its wire.
use Rattle.std.specs.Prelude.{◌≡◌, ℕ, ◌+◌, ◌≤◌, ◌⊎◌, List, ◌++◌, map, length, Some}
use Rattle.elem_core.specs.Line.{longest_line}
use Rattle.elem_core.specs.Text.{lines}
use Rattle.elem_core.specs.Tree.{text}
use Rattle.elem_core.specs.declared.item.Item.{Item}
use Rattle.stream_model.specs.Outlook.{End}
use Rattle.stream_io.specs.Counts.{Rose}
use Rattle.stream_io.specs.State.{SourceState}
use Rattle.stream_io.specs.Reading.{FirstTooLong, largest_piece}
use Rattle.stage_core.specs.Held.{told}
use Rattle.run_laws.specs.Account.{Account}
use Rattle.nodes.specs.declared.node.IslandNode.{IslandNode}
use Rattle.nodes.specs.declared.node.IslandNode.TheVariants.{Reading}
use Rattle.nodes.specs.Drawing.{ended_lines}
use Rattle.nodes.specs.Source.{Lines}

-- a source of lines is node k, as it was handed in and now
pub record IsSourceAt {S D L H B : Type 0} (a : Account (IslandNode S D L H B)) (k : ℕ) (first now : Lines S) : Type 0 where
  pub at_first : a.firsts k ≡ Some (Reading first)
  pub at_last : a.nodes k ≡ Some (Reading now)

-- of that many bytes of lines, no more was read than one piece; or than one longest line and its LF besides, where a read
-- failed or the next line is too long
abbrev pub ReadsAhead : SourceState → SourceState → List (List ℕ) → ℕ → Type 0
ReadsAhead first now later drawn =
    (now.given ≤ drawn + largest_piece) ⊎ ((Rose first.faults now.faults ⊎ FirstTooLong later) × (now.given ≤ drawn + (largest_piece + (longest_line + 1))))

-- the first lines of the file were sent, each as one element, and little more than those was read
pub record SentLines (bytes : List ℕ) (first now : SourceState) (sent : List Item) : Type 0 where
  pub drawn : List (List ℕ)
  pub later : List (List ℕ)
  pub end : End
  pub lines_are : lines bytes ≡ drawn ++ later
  pub sent_is : sent ≡ told (map text drawn) end
  pub ahead : ReadsAhead first now later (length (ended_lines drawn))

-- texts were sent, and how they stand
pub record GivesTexts (sent : List Item) : Type 0 where
  pub texts : List (List ℕ)
  pub end : End
  pub is : sent ≡ told (map text texts) end
