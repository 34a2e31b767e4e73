use Rattle.std.proofs.Common.{◌≡◌, vec_len, take}
use Rattle.blue_names.specs.Links.{wires_of_links}
use Rattle.blue_names.specs.Outs.{IsOuts}
use Rattle.blue_names.proofs.outs.outs_of.Given as goal

abbrev pub invariant-loop-i : goal.invariant-loop-i
invariant-loop-i l = (vec_len l.rows ≡ l.count) × IsOuts l.rows.items (wires_of_links (take l.i l.links))
