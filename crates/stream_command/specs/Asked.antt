-- What is asked of a call.
use Rattle.std.specs.Prelude.{ℕ, List, Option}
use Rattle.stream_model.specs.Known.{HeadLists}
use Rattle.stream_model.specs.Linear.{Book}
use Rattle.graph_stage.specs.declared.custom.Custom.{Custom}
use Rattle.materializer.specs.HandedCustoms.{handed_heads}
use Rattle.plug_logic.specs.declared.plug.Plug.{Plug}

-- the run of a file's blueprint, by so many units at most, and perhaps a file for the trace, and a file of the moves to follow
pub record AskedRun : Type 0 where
  pub file : List ℕ
  pub trace : Option (List ℕ)
  pub replay : Option (List ℕ)
  pub turns : ℕ

-- what a caller hands in: what is known of each plug and custom stage, and the book of what the plugs give and the custom stages tell
pub record Plugged : Type 0 where
  pub heads : HeadLists
  pub book : Book

-- what is known of these plugs and custom stages, with the book of what they give
abbrev pub plugged_by : {L H : Type 0} → Book → List (Plug L) → List (Custom H) → Plugged
plugged_by book plugs customs = record { heads = handed_heads plugs customs; book = book }
