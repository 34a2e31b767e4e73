-- File names.
use Rattle.std.specs.Prelude.{◌≡◌, true, List, ℕ}
use Rattle.elem_core.specs.Line.{has_no_lf}
use Rattle.blue_words.specs.Names.{is_file_name}
use Rattle.blue_words.proofs.Plain.{no_lf_from_file}

-- a file name has no LF
pub file_lacks_lf : (name : List ℕ) → is_file_name name ≡ true → has_no_lf name ≡ true
file_lacks_lf = no_lf_from_file
