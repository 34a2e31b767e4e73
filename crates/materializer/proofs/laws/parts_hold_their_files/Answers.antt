use Rattle.std.proofs.Common.{ap}
use Rattle.materializer.specs.Files.{output_of}
use Rattle.materializer.proofs.Handing.{reads_file, writes_file, writes_no_file}
use Rattle.materializer.proofs.laws.parts_hold_their_files.Goals as goal

pub returns : goal.returns
returns g c = record {
  sources = reads_file;
  drains = λ chains ns ss ds ps xs a b k n name at is. writes_file chains ns ss ds ps xs a b k n name at (ap output_of is);
  files = writes_file;
  ignores = writes_no_file;
}
