-- The files before the index stay, and have other names.
use Rattle.std.proofs.Common.{◌≡◌, ◌++◌, take, drop}
use Rattle.stream_io.specs.Files.{bytes_of_file, with_file}
use Rattle.stream_io.proofs.named_file.replace.Given as goal

abbrev pub invariant-loop-i : goal.invariant-loop-i
invariant-loop-i l =
    (l.files.items ≡ l.initial.files.items)
    × (take l.i l.files.items ++ with_file (drop l.i l.files.items) l.name l.bytes ≡ with_file l.files.items l.name l.bytes)
    × (bytes_of_file (drop l.i l.files.items) l.name ≡ bytes_of_file l.files.items l.name)
