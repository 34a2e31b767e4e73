-- The two generated files, one after the other.
use Rattle.std.proofs.Common.{◌≡◌, ◌≢◌, ◌∙◌, ℕ, List, [], inl, inr, sym, subst, true≢false, append-nil}
use lib.Pointwise.{bytes_decides}
use Rattle.stream_io.specs.State.{FolderState}
use Rattle.stream_io.proofs.Counts.{quiet_two}
use Rattle.run_report.specs.Texts.{lines_file, blueprint_file, numbered_lines, blueprint_text}
use Rattle.run_report.specs.FileWriting.{Writes, StopsWriting}
use Rattle.run_report.specs.Generated.{StopsGenerating}

lines_differ : lines_file ≢ blueprint_file
lines_differ e = true≢false (sym ((bytes_decides lines_file blueprint_file).1 e))

blueprint_differs : blueprint_file ≢ lines_file
blueprint_differs e = lines_differ (sym e)

-- the lines were written, and then memory was wanting
pub stops_behind_lines : (a b c : FolderState) (n : ℕ) (first second : List ℕ) → first ≡ lines_file → second ≡ blueprint_file
    → Writes a b first (numbered_lines n) → StopsWriting b c second blueprint_text → StopsGenerating a c n
stops_behind_lines a b c n first second is_first is_second writes stops =
    let w = subst (λ name. Writes a b name (numbered_lines n)) is_first writes in
    let s = subst (λ name. StopsWriting b c name blueprint_text) is_second stops in
    record {
      two = record {
        told = λ t. w.only.told (s.only.told t);
        others = λ t m d e. s.only.others t m e ∙ w.only.others (s.only.told t) m d;
        read = λ m. s.only.read m ∙ w.only.read m;
        rfaults = quiet_two a.rfaults b.rfaults c.rfaults w.only.rfaults s.only.rfaults;
      };
      lines = λ t. inr (record {
        part = numbered_lines n;
        is_part = record { rest = []; is = sym (append-nil (numbered_lines n)) };
        holds = s.only.others t lines_file lines_differ ∙ w.file (s.only.told t);
      });
      blueprint = λ t. elim (s.file t) [
        | inl same ↦ inl (same ∙ w.only.others (s.only.told t) blueprint_file blueprint_differs)
        | inr part ↦ inr part
      ];
      refusals = quiet_two a.refusals b.refusals c.refusals w.refusals s.refusals;
      wfaults = quiet_two a.wfaults b.wfaults c.wfaults w.wfaults s.wfaults;
    }
