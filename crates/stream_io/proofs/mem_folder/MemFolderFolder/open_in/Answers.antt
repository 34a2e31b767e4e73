-- What each way out of an opening says.
use Rattle.std.proofs.Common.{refl}
use Rattle.stream_io.specs.Files.{folder_of}
use Rattle.stream_io.proofs.Answering.{no_ok, not_ok}
use Rattle.stream_io.proofs.HandleOpenings.{lacked, memory_came, unopened}
use Rattle.stream_io.proofs.Puttings.{on_err}
use Rattle.stream_io.proofs.mem_folder.MemFolderFolder.open_in.Goals as goal

pub returns-in_err-handles : goal.returns-in_err-handles
returns-in_err-handles c =
    let r = c.from_residual.result in
    let came = memory_came r _ _ c.from_residual.ensures.1 refl c.in_err-handles.ensures.no_memory in
    let u = unopened (folder_of c.args.self.now.tells c.args.self.now.files.items c.args.self.now.tally) c.args.name.now in
    record {
      opened = no_ok _ _ r came;
      missing = lacked r came;
      files = u.files;
      faults = u.faults;
      no_refusal = not_ok _ _ r came;
      one_more = not_ok _ _ r came;
      no_more = on_err r refl;
      no_memory = λ _. u.same;
      refusal = u.refusal;
    }

pub returns-in_err-spare : goal.returns-in_err-spare
returns-in_err-spare c =
    let r = c.from_residual-in_err-spare.result in
    let came = c.from_residual-in_err-spare.ensures.1 in
    let u = unopened (folder_of c.args.self.now.tells c.args.self.now.files.items c.args.self.now.tally) c.args.name.now in
    record {
      opened = no_ok _ _ r came;
      missing = lacked r came;
      files = u.files;
      faults = u.faults;
      no_refusal = not_ok _ _ r came;
      one_more = not_ok _ _ r came;
      no_more = on_err r refl;
      no_memory = λ _. u.same;
      refusal = u.refusal;
    }

pub returns-in_err-own : goal.returns-in_err-own
returns-in_err-own c =
    let r = c.from_residual-in_err-own.result in
    let came = c.from_residual-in_err-own.ensures.1 in
    let u = unopened (folder_of c.args.self.now.tells c.args.self.now.files.items c.args.self.now.tally) c.args.name.now in
    record {
      opened = no_ok _ _ r came;
      missing = lacked r came;
      files = u.files;
      faults = u.faults;
      no_refusal = not_ok _ _ r came;
      one_more = not_ok _ _ r came;
      no_more = on_err r refl;
      no_memory = λ _. u.same;
      refusal = u.refusal;
    }

pub returns-in_err-fails : goal.returns-in_err-fails
returns-in_err-fails c =
    let r = c.from_residual-in_err-fails.result in
    let came = c.from_residual-in_err-fails.ensures.1 in
    let u = unopened (folder_of c.args.self.now.tells c.args.self.now.files.items c.args.self.now.tally) c.args.name.now in
    record {
      opened = no_ok _ _ r came;
      missing = lacked r came;
      files = u.files;
      faults = u.faults;
      no_refusal = not_ok _ _ r came;
      one_more = not_ok _ _ r came;
      no_more = on_err r refl;
      no_memory = λ _. u.same;
      refusal = u.refusal;
    }
