use Rattle.elem_core.proofs.Lines.{all_parts}
use Rattle.elem_core.proofs.word.skip_spaces.Goals as goal

pub returns-then-byte-ne32-clause-bytes : goal.returns-then-byte-ne32-clause-bytes
returns-then-byte-ne32-clause-bytes c = λ P h. (all_parts _ _ P (all_parts _ _ P h).1).0
