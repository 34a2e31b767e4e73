-- An input that came to an end is over there, by its outlook.
use Rattle.std.proofs.Common.{◌≡◌, ◌≢◌, inl, inr, List, length, refl, sym, ap}
use Rattle.elem_core.specs.Tree.{Tree}
use Rattle.elem_core.specs.declared.why.Cause.{Cause}
use Rattle.elem_core.proofs.Prefixes.{prefix_length}
use Rattle.stream_model.specs.Outlook.{Outlook, End, unended, ended, failed, Agrees}
use Rattle.stream_model.proofs.Fitting.{may_fail}
use Rattle.stage_core.specs.Over.{EndsAt, FailsAt, IsOverAt}

pub ended_at : (o : Outlook) (l : List Tree) → Agrees o l ended → EndsAt o (length l)
ended_at o l a = (a.0, ap length (sym a.1))

pub failed_at : (o : Outlook) (l : List Tree) (c : Cause) → Agrees o l (failed c) → FailsAt o (length l)
failed_at o l c a = (may_fail o.fails c (length l) a.1, prefix_length a.0)

pub over_at : (o : Outlook) (l : List Tree) (e : End) → Agrees o l e → e ≢ unended → IsOverAt o (length l)
over_at o l unended a n = absurd (n refl)
over_at o l ended a n = inl (ended_at o l a)
over_at o l (failed c) a n = inr (failed_at o l c a)
