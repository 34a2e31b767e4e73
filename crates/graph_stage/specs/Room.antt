-- How many actions a call can append, and how many more: two for each port that is open, one where one of them is over.
use Rattle.std.specs.Prelude.{◌≡◌, ℕ, ◌+◌, ◌*◌, ◌≤◌, Bool, true, false, if◌then◌else◌, List, [], ◌∷◌, ◌++◌, length, None, Some}
use Rattle.elem_core.specs.Sort.{Sort}
use Rattle.port_core.specs.declared.act.Act.{Act}
use Rattle.graph_stage.specs.declared.ask.Ask.{Ask}
use Rattle.graph_stage.specs.declared.occasion.Occasion.{Occasion}
use Rattle.graph_stage.specs.declared.sight.InSight.{InSight}
use Rattle.graph_stage.specs.declared.sight.OutSight.{OutSight}
use Rattle.graph_stage.specs.OwnView.{Seen, forbidden, acts_of, sees_behind, fails_by}

-- the most that a call can append: two for each port
abbrev pub most_acts : Seen → ℕ
most_acts s = 2 * (length s.ins + length s.outs)

-- at an input, which may be pulled and cancelled
abbrev pub acts_to_come_in : InSight → ℕ
acts_to_come_in x = if x.closed then 0 else (if x.asked then 1 else 2)

-- at an output, which may be pushed at and closed
abbrev pub acts_to_come_out : OutSight → ℕ
acts_to_come_out y = if y.closed then 0 else (if y.asked then 2 else 1)

-- at all inputs
abbrev pub acts_to_come_ins : List InSight → ℕ
acts_to_come_ins [] = 0
acts_to_come_ins (x ∷ xs) = acts_to_come_in x + acts_to_come_ins xs

-- at all outputs
abbrev pub acts_to_come_outs : List OutSight → ℕ
acts_to_come_outs [] = 0
acts_to_come_outs (y ∷ ys) = acts_to_come_out y + acts_to_come_outs ys

-- at all ports
abbrev pub acts_to_come : Seen → ℕ
acts_to_come s = acts_to_come_ins s.ins + acts_to_come_outs s.outs

-- at most eight inputs and eight outputs
pub record FewPorts (s : Seen) : Type 0 where
  pub ins : length s.ins ≤ 8
  pub outs : length s.outs ≤ 8

-- one ask was carried out, and the next one may be; or it was forbidden, and the stage has failed
abbrev pub Steps : List Sort → Occasion → Seen → Ask → List Act → Seen → List Act → Bool → Type 0
Steps types o s a before t after true = (forbidden types o s a ≡ None) × ((after ≡ before ++ acts_of o s a) × (t ≡ sees_behind s a))
Steps types o s a before t after false = (code : ℕ) × ((forbidden types o s a ≡ Some code)
    × ((after ≡ before ++ (fails_by o s code).acts) × (t ≡ (fails_by o s code).sight)))
