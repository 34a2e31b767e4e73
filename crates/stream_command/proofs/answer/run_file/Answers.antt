-- The goals of `answer::run_file` that the search leaves.
use Rattle.std.proofs.Common.{◌∙◌, ap, arith, refl, subst, Err}
use Rattle.std.specs.Option.{option_copied}
use Rattle.stream_command.specs.AfterRun.{of_outcome}
use Rattle.stream_command.specs.Asked.{plugged_by}
use Rattle.stream_command.specs.Outcome.{taken_files}
use Rattle.stream_command.specs.Texts.{EndedText, CausesText}
use Rattle.stream_io.proofs.Quiets.{tells_before, tells_behind}
use Rattle.run_report.specs.declared.outcome.Status.TheVariants as status
use Rattle.stream_command.proofs.CallAnswering.{told_text, causes_text, causes_before, unread_or, reads_text, moves_text, sinks_text, trace_among, moves_among}
use Rattle.stream_command.proofs.Receipts.{of_file}
use Rattle.stream_command.proofs.answer.run_file.Goals as goal

pub run_text-requires-clause-taken : goal.run_text-requires-clause-taken
run_text-requires-clause-taken g c =
    let taken = c.deref.ensures.value ∙ c.in-Ok.ensures.taken in
    λ κs lives. trace_among c.args.file.now (option_copied c.args.trace) (option_copied c.args.replay) c.in-Ok.names.trace _ c.in-Ok.ensures.trace taken

pub run_text-requires-clause-moves : goal.run_text-requires-clause-moves
run_text-requires-clause-moves g c =
    let taken = c.deref.ensures.value ∙ c.in-Ok.ensures.taken in
    λ κs lives. moves_among c.args.file.now (option_copied c.args.trace) (option_copied c.args.replay) c.in-Ok.names.replay _ c.in-Ok.ensures.replay taken

pub returns-in-Ok-read_file-clause-told : goal.returns-in-Ok-read_file-clause-told
returns-in-Ok-read_file-clause-told g c =
    let plugged = plugged_by g.B.PlugBook.lists c.args.plugs.items c.args.customs.items in
    let old = g.F.Folder.state c.args.folder.now in
    let mid = g.F.Folder.state c.read_file.new.folder in
    let new = g.F.Folder.state c.run_text.new.folder in
    let a = of_outcome c.run_text.result in
    let s = c.run_text.result.status in
    let file = c.args.file.now in
    let trace = option_copied c.args.trace in
    let replay = option_copied c.args.replay in
    let taken = c.deref.ensures.value ∙ c.in-Ok.ensures.taken in
    λ tells. told_text plugged a (record { file = file; trace = trace; replay = replay; turns = c.args.turns }) old mid new c.in-Ok-read_file.text.items c.in-Ok-read_file.ensures.ok tells
    (subst (λ y. EndedText plugged s a c.in-Ok-read_file.text.items y trace replay c.args.turns mid new) taken
    (subst (λ m. EndedText plugged s a c.in-Ok-read_file.text.items c.deref.result.now trace m c.args.turns mid new) c.in-Ok.ensures.replay
    (subst (λ z. EndedText plugged s a c.in-Ok-read_file.text.items c.deref.result.now z c.in-Ok.names.replay c.args.turns mid new) c.in-Ok.ensures.trace (c.run_text.ensures.told (tells_behind old mid c.in-Ok-read_file.ensures.ok.files tells)))))

pub returns-in-Ok-read_file-clause-causes : goal.returns-in-Ok-read_file-clause-causes
returns-in-Ok-read_file-clause-causes g c =
    let plugged = plugged_by g.B.PlugBook.lists c.args.plugs.items c.args.customs.items in
    let mid = g.F.Folder.state c.read_file.new.folder in
    let new = g.F.Folder.state c.run_text.new.folder in
    let a = of_outcome c.run_text.result in
    let s = c.run_text.result.status in
    let trace = option_copied c.args.trace in
    let replay = option_copied c.args.replay in
    let taken = c.deref.ensures.value ∙ c.in-Ok.ensures.taken in
    causes_text plugged (g.F.Folder.state c.args.folder.now) mid new c.args.file.now c.in-Ok-read_file.text.items c.in-Ok-read_file.ensures.ok s a trace replay c.args.turns
    (subst (λ y. CausesText plugged s a c.in-Ok-read_file.text.items y trace replay c.args.turns mid new) taken
    (subst (λ m. CausesText plugged s a c.in-Ok-read_file.text.items c.deref.result.now trace m c.args.turns mid new) c.in-Ok.ensures.replay
    (subst (λ z. CausesText plugged s a c.in-Ok-read_file.text.items c.deref.result.now z c.in-Ok.names.replay c.args.turns mid new) c.in-Ok.ensures.trace c.run_text.ensures.causes)))

pub returns-in-Ok-read_file-clause-sinks : goal.returns-in-Ok-read_file-clause-sinks
returns-in-Ok-read_file-clause-sinks g c = sinks_text c.run_text.result.status (of_outcome c.run_text.result) _ _ c.in-Ok.ensures.trace c.run_text.ensures.sinks

pub returns-in-Ok-read_file-clause-tells : goal.returns-in-Ok-read_file-clause-tells
returns-in-Ok-read_file-clause-tells g c =
    λ still. tells_before (g.F.Folder.state c.args.folder.now) (g.F.Folder.state c.read_file.new.folder) c.in-Ok-read_file.ensures.ok.files (c.run_text.ensures.tells still)

pub returns-in-Ok-read_file-clause-reads : goal.returns-in-Ok-read_file-clause-reads
returns-in-Ok-read_file-clause-reads g c =
    let taken = c.deref.ensures.value ∙ c.in-Ok.ensures.taken in
    reads_text (g.F.Folder.state c.args.folder.now).read (g.F.Folder.state c.read_file.new.folder).read (g.F.Folder.state c.run_text.new.folder).read c.args.file.now (option_copied c.args.trace) (option_copied c.args.replay) c.in-Ok.names.replay _ c.in-Ok.ensures.replay taken c.in-Ok-read_file.ensures.most c.run_text.ensures.reads

pub returns-in-Ok-read_file-clause-reads_moves : goal.returns-in-Ok-read_file-clause-reads_moves
returns-in-Ok-read_file-clause-reads_moves g c =
    moves_text (g.F.Folder.state c.args.folder.now).read (g.F.Folder.state c.read_file.new.folder).read (g.F.Folder.state c.run_text.new.folder).read c.args.file.now (option_copied c.args.replay) c.in-Ok.names.replay c.in-Ok.ensures.replay c.in-Ok-read_file.ensures.ok.read c.run_text.ensures.reads_moves

pub returns-in-Ok-read_file-clause-islands : goal.returns-in-Ok-read_file-clause-islands
returns-in-Ok-read_file-clause-islands g c =
    let plugged = plugged_by g.B.PlugBook.lists c.args.plugs.items c.args.customs.items in
    let taken = c.deref.ensures.value ∙ c.in-Ok.ensures.taken in
    λ tells. of_file plugged (g.F.Folder.state c.args.folder.now) (g.F.Folder.state c.read_file.new.folder) c.args.file.now c.in-Ok-read_file.text.items (option_copied c.args.trace) (option_copied c.args.replay) c.deref.result.now c.run_text.result.ran tells c.in-Ok-read_file.ensures.ok taken c.run_text.ensures.islands

pub returns-in-Err-Missing-clause-causes : goal.returns-in-Err-Missing-clause-causes
returns-in-Err-Missing-clause-causes g c =
    let h = c.in-Err-Missing.ensures.missing (ap Err c.in-Err-Missing.field-0-is) in
    let made = c.without_run-in-Err-Missing in
    causes_before (plugged_by g.B.PlugBook.lists c.args.plugs.items c.args.customs.items) made.result.status (status.Missing c.args.file.now) (of_outcome made.result) c.args.file.now (option_copied c.args.trace) (option_copied c.args.replay) c.args.turns _ _
    (made.ensures.status ∙ ap status.Missing c.in-Ok.ensures.file) ((0, omega arith, refl), h.why, h.refusals, h.rfaults, h.wfaults, unread_or c.args.file.now (option_copied c.args.replay) _ _ (λ n differs. h.read n))

pub returns-in-Err-Fault-clause-causes : goal.returns-in-Err-Fault-clause-causes
returns-in-Err-Fault-clause-causes g c =
    let h = c.in-Err-Fault.ensures.fault (ap Err c.in-Err-Fault.field-0-is) in
    let made = c.without_run-in-Err-Fault in
    causes_before (plugged_by g.B.PlugBook.lists c.args.plugs.items c.args.customs.items) made.result.status status.ReadFault (of_outcome made.result) c.args.file.now (option_copied c.args.trace) (option_copied c.args.replay) c.args.turns _ _
    made.ensures.status (h.refusals, (c.args.file.now, ((0, omega arith, refl), h.rose, h.rfaults)), h.wfaults, unread_or c.args.file.now (option_copied c.args.replay) _ _ h.read)

pub returns-clause-causes : goal.returns-clause-causes
returns-clause-causes g c =
    let h = c.in-Err-NoMemory.ensures.no_memory (ap Err c.in-Err-NoMemory.field-0-is) in
    let made = c.without_run-in-Err-NoMemory in
    causes_before (plugged_by g.B.PlugBook.lists c.args.plugs.items c.args.customs.items) made.result.status status.NoMemory (of_outcome made.result) c.args.file.now (option_copied c.args.trace) (option_copied c.args.replay) c.args.turns _ _
    made.ensures.status (h.refusals, h.rfaults, h.wfaults, unread_or c.args.file.now (option_copied c.args.replay) _ _ h.read)
