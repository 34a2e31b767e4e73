-- The goals of `conn::Conn::decode` that the search leaves.
use Rattle.std.proofs.Common.{rules}
use Rattle.port_core.proofs.conn.Conn.decode.Goals as goal

pub arrive-requires : goal.arrive-requires
arrive-requires c = (c.self.inside.elem, search rules)
