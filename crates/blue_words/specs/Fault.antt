-- The numbers of faults.
use Rattle.std.specs.Prelude.{ℕ}
use Rattle.blue_words.specs.declared.fault.BlueKind.{BlueKind}
use Rattle.blue_words.specs.declared.fault.BlueKind.TheVariants.{BadVersion, BadLine, BadName, BadNumber, TooLong, TooMany}

-- the number of a kind of fault, 1 to 6, by which the report names it
abbrev pub number_of_kind : BlueKind → ℕ
number_of_kind BadVersion = 1
number_of_kind BadLine = 2
number_of_kind BadName = 3
number_of_kind BadNumber = 4
number_of_kind TooLong = 5
number_of_kind TooMany = 6
