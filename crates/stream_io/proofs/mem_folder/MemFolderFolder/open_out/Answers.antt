-- What each way out of an opening says.
use Rattle.std.proofs.Common.{refl, ◌∙◌}
use Rattle.stream_io.specs.Files.{folder_of}
use Rattle.stream_io.proofs.Answering.{no_ok, not_ok, ok_no_err}
use Rattle.stream_io.proofs.HandleOpenings.{lacked, refusal_only, memory_came, unopened, unopened_files, faults_stay, refusals_stay, opens_drain}
use Rattle.stream_io.proofs.Puttings.{on_err}
use Rattle.stream_io.proofs.mem_folder.MemFolderFolder.open_out.Goals as goal

pub returns-in_err-handles : goal.returns-in_err-handles
returns-in_err-handles c =
    let r = c.from_residual.result in
    let came = memory_came r _ _ c.from_residual.ensures.1 refl c.in_err-handles.ensures.no_memory in
    let u = unopened (folder_of c.args.self.now.tells c.args.self.now.files.items c.args.self.now.tally) c.args.name.now in
    record {
      opened = no_ok _ _ r came;
      missing = lacked r came;
      files = on_err r u.files;
      faults = u.faults;
      no_refusal = not_ok _ _ r came;
      one_more = not_ok _ _ r came;
      no_more = on_err r refl;
      no_memory = λ _. u.same;
      refusal = u.refusal;
    }

pub returns-in_err-spare : goal.returns-in_err-spare
returns-in_err-spare c =
    let r = c.from_residual-in_err-spare.result in
    let came = c.from_residual-in_err-spare.ensures.1 in
    let u = unopened (folder_of c.args.self.now.tells c.args.self.now.files.items c.args.self.now.tally) c.args.name.now in
    record {
      opened = no_ok _ _ r came;
      missing = lacked r came;
      files = on_err r u.files;
      faults = u.faults;
      no_refusal = not_ok _ _ r came;
      one_more = not_ok _ _ r came;
      no_more = on_err r refl;
      no_memory = λ _. u.same;
      refusal = u.refusal;
    }

pub returns-in_err-own : goal.returns-in_err-own
returns-in_err-own c =
    let r = c.from_residual-in_err-own.result in
    let came = c.from_residual-in_err-own.ensures.1 in
    let u = unopened (folder_of c.args.self.now.tells c.args.self.now.files.items c.args.self.now.tally) c.args.name.now in
    record {
      opened = no_ok _ _ r came;
      missing = lacked r came;
      files = on_err r u.files;
      faults = u.faults;
      no_refusal = not_ok _ _ r came;
      one_more = not_ok _ _ r came;
      no_more = on_err r refl;
      no_memory = λ _. u.same;
      refusal = u.refusal;
    }

pub returns-in_err-fails : goal.returns-in_err-fails
returns-in_err-fails c =
    let r = c.from_residual-in_err-fails.result in
    let came = c.from_residual-in_err-fails.ensures.1 in
    let u = unopened (folder_of c.args.self.now.tells c.args.self.now.files.items c.args.self.now.tally) c.args.name.now in
    record {
      opened = no_ok _ _ r came;
      missing = lacked r came;
      files = on_err r u.files;
      faults = u.faults;
      no_refusal = not_ok _ _ r came;
      one_more = not_ok _ _ r came;
      no_more = on_err r refl;
      no_memory = λ _. u.same;
      refusal = u.refusal;
    }

pub returns-in_err-drain : goal.returns-in_err-drain
returns-in_err-drain c =
    let r = c.from_residual-in_err-drain.result in
    let came = c.from_residual-in_err-drain.ensures.1 in
    let u = unopened (folder_of c.args.self.now.tells c.args.self.now.files.items c.args.self.now.tally) c.args.name.now in
    record {
      opened = no_ok _ _ r came;
      missing = lacked r came;
      files = on_err r u.files;
      faults = u.faults;
      no_refusal = not_ok _ _ r came;
      one_more = not_ok _ _ r came;
      no_more = on_err r refl;
      no_memory = λ _. u.same;
      refusal = u.refusal;
    }

pub returns-in_err-copy : goal.returns-in_err-copy
returns-in_err-copy c =
    let r = c.from_residual-in_err-copy.result in
    let came = c.from_residual-in_err-copy.ensures.1 in
    let u = unopened (folder_of c.args.self.now.tells c.args.self.now.files.items c.args.self.now.tally) c.args.name.now in
    record {
      opened = no_ok _ _ r came;
      missing = lacked r came;
      files = on_err r u.files;
      faults = u.faults;
      no_refusal = not_ok _ _ r came;
      one_more = not_ok _ _ r came;
      no_more = on_err r refl;
      no_memory = λ _. u.same;
      refusal = u.refusal;
    }

pub returns-in_err-reserve : goal.returns-in_err-reserve
returns-in_err-reserve c =
    let r = c.from_residual-in_err-reserve.result in
    let came = c.from_residual-in_err-reserve.ensures.1 in
    let u = unopened_files c.args.self.now.tells c.args.self.now.files.items _ c.args.self.now.tally c.args.name.now c.reserve.ensures.items in
    record {
      opened = no_ok _ _ r came;
      missing = lacked r came;
      files = on_err r u.files;
      faults = u.faults;
      no_refusal = not_ok _ _ r came;
      one_more = not_ok _ _ r came;
      no_more = on_err r refl;
      no_memory = λ _. u.same;
      refusal = u.refusal;
    }

pub returns-then-fires : goal.returns-then-fires
returns-then-fires c =
    let refuse = rw (c.in_ok-own.ensures, c.reserve.ensures.items) at c.refuse.ensures in
    record {
      opened = tt;
      missing = λ _. refuse.rose;
      files = refuse.files;
      faults = refuse.faults;
      no_refusal = tt;
      one_more = tt;
      no_more = refuse.handles;
      no_memory = refusal_only _ _ refl refuse.fault;
      refusal = refuse.refusal;
    }

pub returns-in_err-put_file : goal.returns-in_err-put_file
returns-in_err-put_file c =
    let r = c.from_residual-in_err-put_file.result in
    let came = c.from_residual-in_err-put_file.ensures.1 in
    let u = unopened_files c.args.self.now.tells c.args.self.now.files.items _ c.args.self.now.tally c.args.name.now (c.in_err-put_file.ensures.err ∙ c.reserve.ensures.items) in
    record {
      opened = no_ok _ _ r came;
      missing = lacked r came;
      files = on_err r u.files;
      faults = u.faults;
      no_refusal = not_ok _ _ r came;
      one_more = not_ok _ _ r came;
      no_more = on_err r refl;
      no_memory = λ _. u.same;
      refusal = u.refusal;
    }

pub returns : goal.returns
returns c =
    let self = c.args.self.now in
    record {
      opened = opens_drain self.tells self.files.items _ _ self.tally c.args.name.now _ _ _ _ _ c.in_ok-own.ensures c.in_ok-copy.ensures c.in_ok-drain.ensures c.new-2.ensures.items c.reserve.ensures.items c.in_ok-put_file.ensures.this c.in_ok-put_file.ensures.others;
      missing = ok_no_err _ _;
      files = tt;
      faults = faults_stay self.tells self.files.items _ self.tally;
      no_refusal = λ n. refl;
      one_more = c.in_ok-handles.ensures.more;
      no_more = tt;
      no_memory = ok_no_err _ _;
      refusal = refusals_stay self.tells self.files.items _ self.tally c.args.name.now;
    }
