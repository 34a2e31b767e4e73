-- The texts of the generated files.
use Rattle.std.specs.Prelude.{ℕ, ◌+◌, ◌*◌, ◌%◌, List, ◌++◌, codes}
use Rattle.std.specs.Fmt.{decimal}
use Rattle.std.specs.List.{flat_map, range_with_len}
use Rattle.run_report.specs.declared.generator_put.Text.{Text}
use Rattle.run_report.specs.declared.generator_put.Text.TheVariants as text

-- the name of the file of lines that is generated
abbrev pub lines_file : List ℕ
lines_file = codes "gen.txt"

-- the name of the blueprint that is generated
abbrev pub blueprint_file : List ℕ
blueprint_file = codes "gen.blue"

-- the line with this number, of n lines
abbrev pub line_of : ℕ → ℕ → List ℕ
line_of n number = decimal ((7919 * number + n) % 1000) ++ codes "\n"

-- n lines, numbered from 1
abbrev pub numbered_lines : ℕ → List ℕ
numbered_lines n = flat_map (line_of n) (range_with_len 1 n)

-- the text of the blueprint: the even numbers among the lines, and the sum of all
abbrev pub blueprint_text : List ℕ
blueprint_text = codes "streams 1\n"
    ++ (codes "source src lines gen.txt\n"
    ++ (codes "stage n map num\n"
    ++ (codes "stage b broadcast 2\n"
    ++ (codes "stage e filter even\n"
    ++ (codes "stage f fold sum\n"
    ++ (codes "sink even lines gen.even\n"
    ++ (codes "sink sum lines gen.sum\n"
    ++ (codes "wire src.0 -> n.0 async 1\n"
    ++ (codes "wire n.0 -> b.0\n"
    ++ (codes "wire b.0 -> e.0 async 1\n"
    ++ (codes "wire b.1 -> f.0 async 1\n"
    ++ (codes "wire e.0 -> even.0\n"
    ++ codes "wire f.0 -> sum.0\n"))))))))))))

-- the text of each of the two generated files
abbrev pub text_of : Text → List ℕ
text_of (text.Lines n) = numbered_lines n
text_of text.Blueprint = blueprint_text
