-- The loop of `board::plug_place`.
use Rattle.std.proofs.Common.{◌≡◌, drop}
use Rattle.elem_core.specs.Values.{same_text}
use Rattle.blue_names.specs.First.{first_from, when}
use Rattle.materializer.specs.Handing.{plug_place}
use Rattle.materializer.proofs.plug_board.plug_place.Given as goal

-- none of the plugs so far
abbrev pub invariant-loop-k : goal.invariant-loop-k
invariant-loop-k g l = plug_place l.name l.plugs ≡ first_from (λ k p. when (same_text l.name p.head.name) k) l.k (drop l.k l.plugs)
