-- A custom stage's own view of its ports: what it sees, which of its asks are forbidden, and what the others do. Rule: own.
use Rattle.std.specs.Prelude.{ℕ, ◌+◌, Bool, true, false, ◌||◌, not, if◌then◌else◌, List, [], ◌∷◌, ◌++◌, slice_get, slice_set, slice_index_or, map, Option, Some, None}
use Rattle.elem_core.specs.Sort.{Sort}
use Rattle.elem_core.specs.Tree.{Tree}
use Rattle.elem_core.specs.declared.item.Item.TheVariants as item
use Rattle.elem_core.specs.declared.why.Cause.{Cause}
use Rattle.elem_core.specs.declared.why.Why.TheVariants as why
use Rattle.port_core.specs.declared.act.Act.{Act}
use Rattle.port_core.specs.declared.act.Act.TheVariants as act
use Rattle.port_core.specs.Call.{Call, starts, pulls, arrives, cancels}
use Rattle.elem_core.specs.Typed.{is_of}
use Rattle.graph_stage.specs.declared.ask.Ask.{Ask}
use Rattle.graph_stage.specs.declared.ask.Ask.TheVariants.{Pull, Push, Complete, Cancel, Finish, Fail, Pass}
use Rattle.graph_stage.specs.declared.occasion.Occasion.{Occasion}
use Rattle.graph_stage.specs.declared.sight.InSight.{InSight}
use Rattle.graph_stage.specs.declared.sight.OutSight.{OutSight}

-- its inputs and its outputs
pub record Seen : Type 0 where
  pub ins : List InSight
  pub outs : List OutSight

-- a call of one of its handlers, and what it sees then
pub record Called : Type 0 where
  pub call : Call
  pub sight : Seen

-- an input that is not there: it is closed, and nobody asks there
-- Choice: docs/DECISIONS.md#absent-port-is-closed
abbrev pub no_input : InSight
no_input = record { asked = false; closed = true }

-- an output that is not there
abbrev pub no_output : OutSight
no_output = record { asked = false; closed = true }

-- an input by its number
abbrev pub input_at : Seen → ℕ → InSight
input_at s i = slice_index_or s.ins i no_input

-- an output by its number
abbrev pub output_at : Seen → ℕ → OutSight
output_at s j = slice_index_or s.outs j no_output

-- whether an input is closed
abbrev pub is_closed_in : Seen → ℕ → Bool
is_closed_in s i = (input_at s i).closed

-- whether an output is
abbrev pub is_closed_out : Seen → ℕ → Bool
is_closed_out s j = (output_at s j).closed

-- the view once an input is so
abbrev pub with_input : Seen → ℕ → InSight → Seen
with_input s i x = record s { ins = slice_set s.ins i x }

-- the view once an output is so
abbrev pub with_output : Seen → ℕ → OutSight → Seen
with_output s j y = record s { outs = slice_set s.outs j y }

-- an input, closed
abbrev pub closed_in : InSight → InSight
closed_in x = record x { closed = true }

-- an output, closed
abbrev pub closed_out : OutSight → OutSight
closed_out y = record y { closed = true }

-- all ports, closed
abbrev pub all_closed : Seen → Seen
all_closed s = record { ins = map closed_in s.ins; outs = map closed_out s.outs }

-- what it sees once a call came: a pull, an element, the end of an input, or a cancel
abbrev pub sees_then : Call → Seen → Seen
sees_then starts s = s
sees_then (pulls j) s = with_output s j (record (output_at s j) { asked = true })
sees_then (arrives i (item.Elem e)) s = with_input s i (record (input_at s i) { asked = false })
sees_then (arrives i item.Ended) s = with_input s i (closed_in (input_at s i))
sees_then (arrives i (item.Failed c)) s = with_input s i (closed_in (input_at s i))
sees_then (cancels j) s = with_output s j (closed_out (output_at s j))

-- ---- which asks are forbidden, by a code: 3 where there is no such port, 1 for a pull and 2 for a push at a port that does not
-- allow it, 4 for an element of another type, 5 where no failure has just come

-- by a code where a test is met, else as the rest says
abbrev pub refused : ℕ → Bool → Option ℕ → Option ℕ
refused code true rest = Some code
refused code false rest = rest

-- why a pull is forbidden at an input
abbrev pub pull_code : Option InSight → Option ℕ
pull_code None = Some 3
pull_code (Some x) = refused 1 (x.asked || x.closed) None

-- why a push of this element is, by the type of the output
abbrev pub type_code : Option Sort → Tree → Option ℕ
type_code None e = Some 4
type_code (Some t) e = refused 4 (not (is_of t e)) None

-- why a push is forbidden at an output of this type
abbrev pub push_code : Option OutSight → Option Sort → Tree → Option ℕ
push_code None t e = Some 3
push_code (Some y) t e = refused 2 (not y.asked || y.closed) (type_code t e)

-- why a closing of a port is
abbrev pub port_code : {A : Type 0} → Option A → Option ℕ
port_code None = Some 3
port_code (Some x) = None

-- why it is forbidden to pass on the failure that came
-- Choice: docs/DECISIONS.md#failure-is-passed
abbrev pub pass_code : Option Cause → Option ℕ
pass_code None = Some 5
pass_code (Some c) = None

-- why an ask is forbidden
abbrev pub forbidden : List Sort → Occasion → Seen → Ask → Option ℕ
forbidden types o s (Pull i) = pull_code (slice_get s.ins i)
forbidden types o s (Push j e) = push_code (slice_get s.outs j) (slice_get types j) e
forbidden types o s (Complete j) = port_code (slice_get s.outs j)
forbidden types o s (Cancel i) = port_code (slice_get s.ins i)
forbidden types o s Finish = None
forbidden types o s (Fail n) = None
forbidden types o s Pass = pass_code o.failure

-- ---- what the others do

-- how it closes its outputs: they complete, or they fail
abbrev pub end_act : Option Cause → ℕ → Act
end_act None j = act.Complete j
end_act (Some c) j = act.FailOut j c

-- each output from number n on that is open is closed so
abbrev pub outs_ended : Option Cause → ℕ → List OutSight → List Act
outs_ended end n [] = []
outs_ended end n (y ∷ ys) = if y.closed then outs_ended end (n + 1) ys else end_act end n ∷ outs_ended end (n + 1) ys

-- each input from number n on that is open is cancelled
abbrev pub ins_cancelled : ℕ → List InSight → List Act
ins_cancelled n [] = []
ins_cancelled n (x ∷ xs) = if x.closed then ins_cancelled (n + 1) xs else act.Cancel n ∷ ins_cancelled (n + 1) xs

-- both of all ports
abbrev pub ports_ended : Option Cause → Seen → List Act
ports_ended end s = outs_ended end 0 s.outs ++ ins_cancelled 0 s.ins

-- the cause where it fails by itself with this code
abbrev pub own_cause : Occasion → ℕ → Cause
own_cause o n = record { stage = o.node; nth = o.nth; why = why.Plug n }

-- the cause where an ask was forbidden by this code
abbrev pub illegal_cause : Occasion → ℕ → Cause
illegal_cause o code = record { stage = o.node; nth = o.taken; why = why.IllegalCall code }

-- the actions of an ask that is not forbidden; one that changes nothing has none
abbrev pub acts_of : Occasion → Seen → Ask → List Act
acts_of o s (Pull i) = act.Pull i ∷ []
acts_of o s (Push j e) = act.Push j e ∷ []
acts_of o s (Complete j) = if is_closed_out s j then [] else act.Complete j ∷ []
acts_of o s (Cancel i) = if is_closed_in s i then [] else act.Cancel i ∷ []
acts_of o s Finish = ports_ended None s
acts_of o s (Fail n) = ports_ended (Some (own_cause o n)) s
acts_of o s Pass = ports_ended o.failure s

-- what the stage sees then
abbrev pub sees_behind : Seen → Ask → Seen
sees_behind s (Pull i) = with_input s i (record (input_at s i) { asked = true })
sees_behind s (Push j e) = with_output s j (record (output_at s j) { asked = false })
sees_behind s (Complete j) = with_output s j (closed_out (output_at s j))
sees_behind s (Cancel i) = with_input s i (closed_in (input_at s i))
sees_behind s Finish = all_closed s
sees_behind s (Fail n) = all_closed s
sees_behind s Pass = all_closed s

-- what comes of asks: actions, and what the stage sees then
pub record Outcome : Type 0 where
  pub acts : List Act
  pub sight : Seen

-- the same behind these actions
abbrev pub preceded_by : List Act → Outcome → Outcome
preceded_by acts r = record r { acts = acts ++ r.acts }

-- the stage fails, since an ask was forbidden by this code
abbrev pub fails_by : Occasion → Seen → ℕ → Outcome
fails_by o s code = record { acts = ports_ended (Some (illegal_cause o code)) s; sight = all_closed s }

-- by the code, where there is one
abbrev pub by_code : Option ℕ → Outcome → (ℕ → Outcome) → Outcome
by_code None goes fails = goes
by_code (Some code) goes fails = fails code

-- Those before the first that is forbidden are carried out, in order. Where there is one, the stage fails then, and the rest is dropped.
abbrev pub carried_out : List Sort → Occasion → Seen → List Ask → Outcome
carried_out types o s [] = record { acts = []; sight = s }
carried_out types o s (a ∷ more) = by_code (forbidden types o s a) (preceded_by (acts_of o s a) (carried_out types o (sees_behind s a) more)) (fails_by o s)
