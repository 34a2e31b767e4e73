-- Worked rows of the generated lines.
use Rattle.std.proofs.Common.{◌≡◌, refl, codes}
use Rattle.std.specs.Fmt.{digits}
use Rattle.run_report.specs.Texts.{line_of, numbered_lines}

four_lines : numbered_lines 4 ≡ codes "923\n842\n761\n680\n"
unfolding digits
four_lines = refl

one_line : numbered_lines 1 ≡ codes "920\n"
unfolding digits
one_line = refl

-- the thousandth line of a thousand is 0, and the last of ten million repeats that of its first thousand
thousandth : line_of 1000 1000 ≡ codes "0\n"
unfolding digits
thousandth = refl

last_line : line_of 10000000 10000000 ≡ codes "0\n"
unfolding digits
last_line = refl
