-- What the plugs that a caller hands in give.
use Rattle.std.specs.Prelude.{List, []}
use Rattle.stream_model.specs.Linear.{Book}
use Rattle.plug_logic.specs.declared.plug.Plug.{Plug}
use Rattle.plug_logic.specs.Gives.{Gives, listed}
use Rattle.stage_linear.specs.Plugs.{Is}

-- it gives what the book lists of its name
abbrev pub GivesAsListed : {L : Type 0} → (L → Gives) → Book → Plug L → Type 0
GivesAsListed gives book p = Is (gives p.logic) [] (listed book p.head.name)
