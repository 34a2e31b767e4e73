-- The goal of `start::start_one` that the search leaves.
use Rattle.island_parts.proofs.start.start_one.Goals as goal

pub returns-in-Ok-clause-started : goal.returns-in-Ok-clause-started
returns-in-Ok-clause-started g c =
    let e = c.in-Ok.ensures in
    record {
      whole = e.whole;
      unused = e.unused;
      laws = e.laws;
      firsts = e.firsts;
      ends = e.ends;
      numbers = e.numbers;
      places = e.places;
      enters = e.enters;
      leaves = e.leaves;
      begins_in = e.begins_in;
      begins_out = e.begins_out;
      handles = e.handles;
    }
