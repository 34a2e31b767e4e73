-- How a reading ends.
use Rattle.std.specs.Prelude.{ℕ}
use Rattle.blue_lang.specs.declared.parse.ParseEnd.{ParseEnd}
use Rattle.blue_lang.specs.declared.parse.ParseEnd.TheVariants as ended
use Rattle.blue_lang.specs.declared.parse.Stop.{Stop}
use Rattle.blue_lang.specs.declared.parse.Stop.TheVariants.{Fault, NoMemory}

-- what a reading ends with that stopped at a line
abbrev pub stop_end : Stop → ℕ → ParseEnd
stop_end (Fault k) n = ended.Fault (record { kind = k; line = n })
stop_end NoMemory n = ended.NoMemory
