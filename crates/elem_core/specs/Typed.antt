-- Whether an element is of a type.
use Rattle.std.specs.Prelude.{Bool, true, false, ◌&&◌}
use Rattle.elem_core.specs.Sort.{Sort, num_type, text_type, seq_type, pair_type}
use Rattle.elem_core.specs.Tree.{Tree, Row, num, text, seq, both, none, more}

-- the element is of that type: a list where each of its items is, a pair where both halves are
abbrev mutual
  pub is_of : Sort → Tree → Bool
  is_of num_type (num z) = true
  is_of text_type (text bs) = true
  is_of (seq_type t) (seq r) = all_of t r
  is_of (pair_type t u) (both a b) = is_of t a && is_of u b
  is_of _ _ = false

  -- each of the items is of that type
  pub all_of : Sort → Row → Bool
  all_of t none = true
  all_of t (more x r) = is_of t x && all_of t r
