-- The heads of the plugs and of the custom stages that the program ships.
use Rattle.std.specs.Prelude.{List, [], ◌∷◌, codes}
use Rattle.elem_core.specs.Sort.{text_type, num_type}
use Rattle.stream_model.specs.declared.head.PlugHead.{PlugHead}
use Rattle.stream_model.specs.Known.{CustomShape, HeadLists}

-- dedup takes and gives texts
abbrev pub dedup_head : PlugHead
dedup_head = record { name = codes "dedup"; input = text_type; output = text_type }

-- pairsum takes and gives numbers
abbrev pub pairsum_head : PlugHead
pairsum_head = record { name = codes "pairsum"; input = num_type; output = num_type }

-- both, in the order in which they are handed in
abbrev pub shipped_heads : List PlugHead
shipped_heads = dedup_head ∷ pairsum_head ∷ []

-- alternate has one input and two outputs of texts
abbrev pub alternate_shape : CustomShape
alternate_shape = record { name = codes "alternate"; inputs = text_type ∷ []; outputs = text_type ∷ text_type ∷ [] }

-- rude has one input and one output of texts
abbrev pub rude_shape : CustomShape
rude_shape = record { name = codes "rude"; inputs = text_type ∷ []; outputs = text_type ∷ [] }

-- both, in the order in which they are handed in
abbrev pub shipped_shapes : List CustomShape
shipped_shapes = alternate_shape ∷ rude_shape ∷ []

-- what is known of all that the program hands in
abbrev pub shipped_guests : HeadLists
shipped_guests = record { plugs = shipped_heads; customs = shipped_shapes }
