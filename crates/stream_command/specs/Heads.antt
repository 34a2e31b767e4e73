-- What the program hands in, with its book.
use Rattle.stream_model.specs.Heads.{shipped_guests}
use Rattle.plug_logic.specs.Shipped.{shipped_book}
use Rattle.stream_command.specs.Calls.{HandedPlugs}

-- the plugs and the custom stages that the program hands in: their heads and their book
abbrev pub shipped_plugs : HandedPlugs
shipped_plugs = record { heads = shipped_guests; book = shipped_book }
