-- The file of the name is the one that was put.
use Rattle.std.proofs.Common.{sym, true, false}
use Rattle.stream_io.specs.Files.{bytes_of_file}
use Rattle.stream_io.proofs.NamedFiles.{bytes_of_file-with_file, bytes_of_file-other, bytes_of_file-added, bytes_of_file-added_other, is_some-read}
use Rattle.stream_io.proofs.named_file.put_file.Goals as goal

pub returns-then-is_some-clause-this : goal.returns-then-is_some-clause-this
returns-then-is_some-clause-this c =
    let is = rw c.deref.ensures.value at c.bytes_of.ensures in
    let there = is_some-read _ c.bytes_of.result (bytes_of_file c.args.files.now.items c.args.file.name) true is (sym c.if-is_some.ensures) in
    rw c.replace.ensures.files (bytes_of_file-with_file c.args.files.now.items c.args.file.name c.args.file.bytes there)

pub returns-then-is_some-clause-others : goal.returns-then-is_some-clause-others
returns-then-is_some-clause-others c =
    rw c.replace.ensures.files (λ n other. bytes_of_file-other c.args.files.now.items c.args.file.name n c.args.file.bytes other)

pub returns-clause-this : goal.returns-clause-this
returns-clause-this c =
    let is = rw c.deref.ensures.value at c.bytes_of.ensures in
    let lacks = is_some-read _ c.bytes_of.result (bytes_of_file c.args.files.now.items c.args.file.name) false is (sym c.if-is_some.ensures) in
    rw c.in_ok-push.ensures.items (bytes_of_file-added c.args.files.now.items c.args.file lacks)

pub returns-clause-others : goal.returns-clause-others
returns-clause-others c =
    rw c.in_ok-push.ensures.items (λ n other. bytes_of_file-added_other c.args.files.now.items c.args.file n other)
