-- The goals of `text::read_up_to` that the search leaves.
use Rattle.stream_io.proofs.Quiets.{closed_quiet, closed_fault, file_read}
use Rattle.stream_io.proofs.text.read_up_to.Goals as goal

pub returns-in-Ok-read-clause-ok : goal.returns-in-Ok-read-clause-ok
returns-in-Ok-read-clause-ok g c =
    let opened = c.in-Ok.ensures in
    let read = c.in-Ok-read.ensures in
    let closed = c.close_in.ensures in
    file_read _ _ _ _ _ _ _ _ opened.opened opened.files opened.faults opened.no_refusal read.name read.no_fault read.text closed.closed closed.files
