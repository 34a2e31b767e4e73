use Rattle.std.proofs.Common.{ap, Err}
use Rattle.run_report.proofs.Joining.{stops_behind_lines}
use Rattle.run_report.proofs.generate.generate.Goals as goal

pub returns-clause-no_memory : goal.returns-clause-no_memory
returns-clause-no_memory g c =
    let state = g.F.Folder.state in
    λ _. stops_behind_lines (state c.args.folder.now) (state c.write_file.new.folder) (state c.write_file-2.new.folder) c.args.n _ _
    c.in_ok-lines.ensures c.in_ok-blueprint.ensures c.in-Ok.ensures.ok (c.in-Err-NoMemory-write_file.ensures.no_memory (ap Err c.in-Err-NoMemory-write_file.field-0-is))
