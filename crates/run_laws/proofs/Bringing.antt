-- What the input of a wire that is no lane got, of what was sent at its output.
use Rattle.std.proofs.Common.{◌∙◌, ℕ, List, refl, sym, arith, None}
use Rattle.elem_core.specs.Prefix.{IsPrefix}
use Rattle.elem_core.specs.Tree.{Tree}
use Rattle.elem_core.specs.declared.item.Item.{Item}
use Rattle.elem_core.proofs.Prefixes.{prefix_trans, prefix_refl}
use Rattle.port_core.specs.Wire.{JointPorts}
use Rattle.port_core.specs.Joint.{IsSound}
use Rattle.stream_model.specs.Outlook.{End, unended, ended, failed}
use Rattle.stream_model.specs.Lane.{Carries}
use Rattle.run_laws.specs.Items.{list_of, end_of_items, ArrivedOf}
use Rattle.run_laws.proofs.Histories.{Begun, begun, got_begins}

-- what is carried on of a first part of a history is so of the history
pub carries_sent : (s : ℕ) (t : List Tree) (e : End) (l : List Tree) (f : End) (sent : List Item) → Carries s t e l f → Begun t e sent → Carries s (list_of sent) (end_of_items sent) l f
carries_sent s t e l unended sent c b = prefix_trans c b.part
carries_sent s t e l ended sent c b = let all = b.ended_all c.0 in (all.1, c.1 ∙ sym all.0)
carries_sent s t e l (failed d) sent c b =
    let all = b.failed_all d c.0 in
    let part : IsPrefix l (list_of sent) = rw (all.0) (c.1) in
    let few = c.2 in
    (all.1, part, rw (all.0) few)

-- one that loses nothing
plain : (l : List Tree) (e : End) → Carries 0 l e l e
plain l unended = prefix_refl l
plain l ended = (refl, refl)
plain l (failed c) = (refl, prefix_refl l, omega arith)

pub fused_brings : (w : JointPorts) (q : _) → IsSound w q → ArrivedOf None w.sent w.got
fused_brings w q h l e is = carries_sent 0 l e l e w.sent (plain l e) (begun l e w.got w.sent is (got_begins w q h))
