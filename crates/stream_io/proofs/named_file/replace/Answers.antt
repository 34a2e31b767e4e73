-- The first file of the name is written.
use Rattle.std.proofs.Common.{List, length, ap, sym, ◌∙◌, arith}
use Rattle.stream_io.specs.declared.named_file.NamedFile.{NamedFile}
use Rattle.stream_io.specs.Files.{with_file}
use Rattle.stream_io.proofs.NamedFiles.{set-read}
use Rattle.stream_io.proofs.named_file.replace.Goals as goal

pub returns-then-eq-clause-files : goal.returns-then-eq-clause-files
returns-then-eq-clause-files c =
    set-read c.loop-i.files.items c.loop-i.i c.index_mut-file.result.now c.args.name.now c.args.bytes (omega (arith, ap length c.loop-i.invariant.0)) c.index_mut-file.ensures.value c.loop-i.invariant.1 (sym c.eq.ensures ∙ c.if-eq.true) ∙ ap (λ (fs : List NamedFile). with_file fs c.args.name.now c.args.bytes) c.loop-i.invariant.0
