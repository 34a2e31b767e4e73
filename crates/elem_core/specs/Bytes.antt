-- The bytes that part lines and words.
use Rattle.std.specs.Prelude.{ℕ}

-- LF, which ends a line
abbrev pub line_feed : ℕ
line_feed = 10

-- the space, which parts the words of a line
abbrev pub space_byte : ℕ
space_byte = 32

-- the point, which stands between a node's name and the number of a port, and in the names of files
abbrev pub point_byte : ℕ
point_byte = 46
