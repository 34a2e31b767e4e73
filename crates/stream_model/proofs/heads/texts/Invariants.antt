use Rattle.std.proofs.Common.{◌≡◌, replicate}
use Rattle.elem_core.specs.Sort.{text_type}
use Rattle.stream_model.proofs.heads.texts.Given as goal

abbrev pub invariant-loop-i : goal.invariant-loop-i
invariant-loop-i l = l.types.items ≡ replicate l._i text_type
