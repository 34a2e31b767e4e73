use Rattle.elem_core.specs.Sort.{sort_size}
use Rattle.blue_check.proofs.detail.+put_type.Given as goal

abbrev pub decreases-put_type : goal.decreases-put_type
decreases-put_type l = sort_size l.t.now
