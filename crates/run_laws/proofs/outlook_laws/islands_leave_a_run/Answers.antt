use Rattle.run_laws.proofs.Islands.{all_run, all_rest}
use Rattle.run_laws.proofs.outlook_laws.islands_leave_a_run.Goals as goal

pub returns : goal.returns
returns g c = record {
  run = λ graph nets seats asked is_joined covers settled lanes made. all_run g.S.Source.state g.D.Drain.state g.B.PlugBook.lists graph nets seats asked covers settled is_joined lanes made;
  still = λ graph nets seats asked covers settled empty rest. all_rest g.S.Source.state g.D.Drain.state g.B.PlugBook.lists graph nets seats asked covers settled empty rest;
}
