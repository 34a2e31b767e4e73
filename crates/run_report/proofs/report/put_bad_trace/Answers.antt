-- The goal of `report::put_bad_trace` that the search leaves.
use Rattle.std.proofs.Common.{◌≡◌, rules}
use Rattle.std.specs.Fmt.{decimal}
use Rattle.run_report.proofs.report.put_bad_trace.Goals as goal

pub returns-clause-ok : goal.returns-clause-ok
returns-clause-ok g c = let e : c.as_bytes.result.now ≡ decimal c.args.line = search rules in rw e at c.put_parts.ensures.ok
