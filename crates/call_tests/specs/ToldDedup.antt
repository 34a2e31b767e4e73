-- A book in which a custom stage tells a list.
use Rattle.std.specs.Prelude.{true, codes}
use Rattle.elem_core.specs.Sort.{text_type}
use Rattle.stream_model.specs.Linear.{Book}
use Rattle.plug_logic.specs.Gives.{Gives, listed}
use Rattle.plug_logic.specs.Shipped.{shipped_book}
use Rattle.graph_stage.specs.Told.{typed_gives}

-- what the plug `dedup` gives, lifted over texts
abbrev pub told_dedup : Gives
told_dedup = typed_gives text_type (listed shipped_book (codes "dedup"))

-- the book of the shipped plugs, in which a custom stage of any name tells that
abbrev pub told_dedups : Book
told_dedups = record shipped_book { tells = λ name. true; told_reply = λ name. told_dedup.reply; told_closing = λ name. told_dedup.closing }
