use Rattle.std.proofs.Common.{◌+◌, ◌≤◌, length}
use Rattle.elem_core.specs.Text.{lines}
use Rattle.blue_lang.specs.Progress.{sofar}
use Rattle.blue_lang.proofs.Reading.{IsRead}
use Rattle.blue_lang.proofs.parse.read_text.Given as goal

abbrev pub invariant-loop-line : goal.invariant-loop-line
invariant-loop-line l =
    record {
      read : IsRead (lines l.fn.text) l.number l.progress.version (sofar l.progress) (lines l.rest);
      short : l.number + length l.rest ≤ length l.fn.text;
    }

abbrev pub decreases-loop-line : goal.decreases-loop-line
decreases-loop-line l = length l.rest
