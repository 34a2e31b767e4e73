use Rattle.std.proofs.Common.{◌≡◌, ◌≤◌, ◌-◌, take, length}
use Rattle.std.specs.Prelude.{IfSome}
use Rattle.std.specs.Vec.{vec_len}
use Rattle.stream_io.proofs.text.read_all.Given as goal

abbrev pub invariant-loop-source : goal.invariant-loop-source
invariant-loop-source g l =
    let state = g.S.Source.state in
    record {
      limit : vec_len l.text ≤ l.limit;
      given : (state l.source).given ≡ vec_len l.text;
      bytes : IfSome (state l.initial.source).whole (λ whole. l.text.items ≡ take (vec_len l.text) whole);
      within : IfSome (state l.initial.source).whole (λ whole. vec_len l.text ≤ length whole);
      faults : (state l.source).faults ≡ (state l.initial.source).faults;
      name : (state l.source).name ≡ (state l.initial.source).name;
      whole : (state l.source).whole ≡ (state l.initial.source).whole;
    }

abbrev pub decreases-loop-source : goal.decreases-loop-source
decreases-loop-source g l = l.limit - vec_len l.text
