-- What is said of a fault: the line that a report has of it, and then words.
use Rattle.std.specs.Prelude.{ℕ, List, ◌++◌, codes}
use Rattle.elem_core.specs.Prefix.{IsPrefix}
use Rattle.run_report.specs.Report.{status_text}
use Rattle.run_report.specs.declared.outcome.Status.{Status}
use Rattle.run_report.specs.declared.outcome.Status.TheVariants as status
use Rattle.workbench_draw.specs.declared.judge.Unready.{Unready}
use Rattle.workbench_draw.specs.declared.judge.Unready.TheVariants.{Refused, Unfit, NoMemory}

-- the status of a run of such a text
abbrev pub status_of : Unready → Status
status_of (Refused f) = status.Refused f
status_of (Unfit f) = status.Unfit f
status_of NoMemory = status.NoMemory

-- the line of a report
abbrev pub report_line : Unready → List ℕ
report_line u = status_text (status_of u) 0 ++ codes "\n"

-- the message begins with the line that a report has
abbrev pub BeginsWithReport : Unready → List ℕ → Type 0
BeginsWithReport u message = IsPrefix (report_line u) message
