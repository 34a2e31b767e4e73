-- The place of a stage with substreams.
use Rattle.std.proofs.Common.{◌≡◌, ℕ, List, None, ap, sym, subst}
use Rattle.stream_model.specs.Graph as graph
use Rattle.stream_model.specs.Graph.{steps_of}
use Rattle.stream_model.specs.declared.kind.Kind.{Kind}
use Rattle.stream_model.specs.declared.kind.Kind.TheVariants.{GroupBy, SplitWhen, SplitAfter}
use Rattle.line_chain.specs.Line.{Line, IsLine, line_rest, line_is_open}
use Rattle.stage_sub.specs.States.{Logic}
use Rattle.stage_sub.specs.Handling.{IsSub, BeginsAs}
use Rattle.stage_sub.specs.Leds.{Led}
use Rattle.stage_sub.specs.LedLaws.{LedBegins}
use Rattle.run_laws.specs.Made.{chain_name}
use Rattle.materializer.specs.Seats.{StagesSub}

-- a new stage with substreams has the chain that it was made with
pub sub_chain : (k : Kind) (node : ℕ) (chain : Line) (x : Logic Line) → BeginsAs k node chain x → x.chain ≡ chain
sub_chain (GroupBy n f name) node chain x h = ap (λ (l : Logic Line). l.chain) h
sub_chain (SplitWhen p name j) node chain x h = ap (λ (l : Logic Line). l.chain) h
sub_chain (SplitAfter p name j) node chain x h = ap (λ (l : Logic Line). l.chain) h
sub_chain _ node chain x h = absurd h

-- so it goes through the chain of those steps
pub stages_sub : (chains : List graph.Chain) (node : ℕ) (k : Kind) (chain : Line) (x : Led Line) → IsSub k → LedBegins line_rest line_is_open node k chain x → x.left ≡ None → IsLine node (steps_of (chain_name k) chains) chain → StagesSub chains node k x
stages_sub chains node k chain x s b free l =
    let same : chain ≡ x.logic.chain = sym (sub_chain k node chain x.logic b.as_kind) in
    record {
      is_sub = s;
      begins = subst (λ (c : Line). LedBegins line_rest line_is_open node k c x) same b;
      free = free;
      line = subst (IsLine node (steps_of (chain_name k) chains)) same l;
    }
