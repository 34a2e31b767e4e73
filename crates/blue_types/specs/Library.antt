-- What the tables of plugs and chains know.
use Rattle.std.specs.Prelude.{map}
use Rattle.blue_names.specs.Table.{Numbers}
use Rattle.blue_types.specs.declared.library.Library.{Library}

-- the tables have the places of the plugs and the chains
pub record IsKnown (l : Library) : Type 0 where
  pub plugs : Numbers l.plug_places (map (λ p. p.name) l.heads.now.plugs)
  pub chains : Numbers l.chain_places (map (λ c. c.name) l.chains.now)
