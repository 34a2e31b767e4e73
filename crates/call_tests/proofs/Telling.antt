-- What is told alike.
use Rattle.std.proofs.Common.{◌≡◌, ◌∙◌}
use Rattle.graph_stage.specs.Told.{ToldList}

-- what tells the same as one that tells this tells it too
pub tells_alike : {t u v : ToldList} → u ≡ v → t ≡ u → t ≡ v
tells_alike p q = q ∙ p
