-- Ends of lanes stay where they lie.
use Rattle.island_runs.proofs.Staying.{went, broke, still_aligned, still_there}
use Rattle.island_runs.proofs.begin_laws.ends_stay_at_their_crossings.Goals as goal

pub returns : goal.returns
returns g c = record {
  went = λ begun now each. went begun now each;
  broke = λ begun now each. broke g.S.Source.state g.D.Drain.state g.B.PlugBook.lists begun now each;
  aligned = λ lanes crossings begun now old each. still_aligned begun now each lanes crossings old;
  lie = λ crossings begun now meet each. still_there begun now each crossings meet;
}
