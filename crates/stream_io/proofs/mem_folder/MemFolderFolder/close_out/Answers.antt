-- The file of the drain's name is what the drain held.
use Rattle.std.proofs.Common.{true, false, sym, ◌∙◌}
use Rattle.stream_io.proofs.NamedFiles.{ClosesDrain-file}
use Rattle.stream_io.proofs.mem_folder.MemFolderFolder.close_out.Goals as goal
use Rattle.stream_io.proofs.mem_folder.MemFolderFolder.close_out.Goals.{then-found, else-found}

pub returns-clause-closed : goal.returns-clause-closed
returns-clause-closed c =
    let files = c.args.self.now.files.items in
    rw c.replace-found.ensures.files (elim c.if-found.branch [
      | then-found w ↦ rw w.self-is (ClosesDrain-file c.args.self.now.tells true files _ _ c.args.h.name c.args.h.drain.faults c.args.h.drain.held c.close_out.ensures (sym w.if-found.true ∙ c.replace-found.ensures.found))
      | else-found w ↦ rw (w.self-is, w.if-found.false) (ClosesDrain-file c.args.self.now.tells false files _ _ c.args.h.name c.args.h.drain.faults c.args.h.drain.held c.close_out.ensures (sym w.if-found.false ∙ c.replace-found.ensures.found))
    ])
