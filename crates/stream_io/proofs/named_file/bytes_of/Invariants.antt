-- The files before the index have other names.
use Rattle.std.proofs.Common.{◌≡◌, drop}
use Rattle.stream_io.specs.Files.{bytes_of_file}
use Rattle.stream_io.proofs.named_file.bytes_of.Given as goal

abbrev pub invariant-loop-file : goal.invariant-loop-file
invariant-loop-file l = bytes_of_file (drop l.file-index l.files) l.name ≡ bytes_of_file l.files l.name
