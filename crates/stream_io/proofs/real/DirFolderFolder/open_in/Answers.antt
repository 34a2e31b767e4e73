-- What each way out of an opening says.
use Rattle.std.proofs.Common.{refl, inr}
use Rattle.stream_io.specs.declared.outside.OpenFault.TheVariants.{Missing}
use Rattle.stream_io.specs.Tally.{folder_of_counts}
use Rattle.stream_io.proofs.Answering.{no_ok, not_ok, ok_no_err}
use Rattle.stream_io.proofs.HandleOpenings.{lacked, refusal_only, memory_came, unopened, opens_untold_source}
use Rattle.stream_io.proofs.Puttings.{on_err}
use Rattle.stream_io.proofs.real.DirFolderFolder.open_in.Goals as goal

pub returns-in_err-handles : goal.returns-in_err-handles
returns-in_err-handles g c =
    let r = c.from_residual.result in
    let came = memory_came r _ _ c.from_residual.ensures.1 refl c.in_err-handles.ensures.no_memory in
    let u = unopened (folder_of_counts c.args.self.now.tally) c.args.name.now in
    record {
      opened = no_ok _ _ r came;
      missing = lacked r came;
      files = u.files;
      faults = u.faults;
      no_refusal = not_ok _ _ r came;
      one_more = not_ok _ _ r came;
      no_more = on_err r refl;
      no_memory = λ _. u.same;
      refusal = u.refusal;
    }

pub returns-in_err-spare : goal.returns-in_err-spare
returns-in_err-spare g c =
    let r = c.from_residual-in_err-spare.result in
    let came = c.from_residual-in_err-spare.ensures.1 in
    let u = unopened (folder_of_counts c.args.self.now.tally) c.args.name.now in
    record {
      opened = no_ok _ _ r came;
      missing = lacked r came;
      files = u.files;
      faults = u.faults;
      no_refusal = not_ok _ _ r came;
      one_more = not_ok _ _ r came;
      no_more = on_err r refl;
      no_memory = λ _. u.same;
      refusal = u.refusal;
    }

pub returns-in_err-own : goal.returns-in_err-own
returns-in_err-own g c =
    let r = c.from_residual-in_err-own.result in
    let came = c.from_residual-in_err-own.ensures.1 in
    let u = unopened (folder_of_counts c.args.self.now.tally) c.args.name.now in
    record {
      opened = no_ok _ _ r came;
      missing = lacked r came;
      files = u.files;
      faults = u.faults;
      no_refusal = not_ok _ _ r came;
      one_more = not_ok _ _ r came;
      no_more = on_err r refl;
      no_memory = λ _. u.same;
      refusal = u.refusal;
    }

pub returns-in_err-name_known : goal.returns-in_err-name_known
returns-in_err-name_known g c =
    let r = c.from_residual-in_err-name_known.result in
    let came = c.from_residual-in_err-name_known.ensures.1 in
    let u = unopened (folder_of_counts c.args.self.now.tally) c.args.name.now in
    record {
      opened = no_ok _ _ r came;
      missing = lacked r came;
      files = u.files;
      faults = u.faults;
      no_refusal = not_ok _ _ r came;
      one_more = not_ok _ _ r came;
      no_more = on_err r refl;
      no_memory = λ _. u.same;
      refusal = u.refusal;
    }

pub returns-in_err-reserve : goal.returns-in_err-reserve
returns-in_err-reserve g c =
    let r = c.from_residual-in_err-reserve.result in
    let came = c.from_residual-in_err-reserve.ensures.1 in
    let u = unopened (folder_of_counts c.args.self.now.tally) c.args.name.now in
    record {
      opened = no_ok _ _ r came;
      missing = lacked r came;
      files = u.files;
      faults = u.faults;
      no_refusal = not_ok _ _ r came;
      one_more = not_ok _ _ r came;
      no_more = on_err r refl;
      no_memory = λ _. u.same;
      refusal = u.refusal;
    }

pub returns-in_default : goal.returns-in_default
returns-in_default g c =
    let refuse = rw c.in_ok-own.ensures at c.refuse.ensures in
    record {
      opened = tt;
      missing = λ _. inr refuse.rose;
      files = record { telling = refl; files = λ _ n. refl };
      faults = refuse.faults;
      no_refusal = tt;
      one_more = tt;
      no_more = refl;
      no_memory = refusal_only _ Missing refl refl;
      refusal = refuse.refusal;
    }

pub returns : goal.returns
returns g c =
    let u = unopened (folder_of_counts c.args.self.now.tally) c.args.name.now in
    record {
      opened = opens_untold_source c.args.self.now.tally c.args.name.now _ c.in_ok-own.ensures;
      missing = ok_no_err _ _;
      files = u.files;
      faults = u.faults;
      no_refusal = u.same;
      one_more = c.in_ok-handles.ensures.more;
      no_more = tt;
      no_memory = ok_no_err _ _;
      refusal = u.refusal;
    }
