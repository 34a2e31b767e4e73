-- The goals of `conn::Conn::decode_ending` that the search leaves.
use Rattle.std.proofs.Common.{rules}
use Rattle.port_core.proofs.conn.Conn.decode_ending.Goals as goal

pub arrive-requires : goal.arrive-requires
arrive-requires c = (c.self.inside.elem, search rules)

pub returns-clause-table : goal.returns-clause-table
returns-clause-table c = (c.self.inside.cause, search rules)
