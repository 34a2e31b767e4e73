-- What a stage that tells a list asks for at its ports, call by call, by what it gives: what the stage of a plug does, told as asks.
-- Choice: docs/DECISIONS.md#one-way-to-tell-a-list
use Rattle.std.specs.Prelude.{Bool, true, false, List, [], ◌∷◌, ◌++◌}
use Rattle.elem_core.specs.Tree.{Tree}
use Rattle.elem_core.specs.declared.item.Item.TheVariants as item
use Rattle.port_core.specs.Call.{Call, starts, pulls, arrives, cancels}
use Rattle.stream_model.specs.Linear.{Reply, go, finish, fail}
use Rattle.plug_logic.specs.Gives.{Gives, after}
use Rattle.stage_linear.specs.declared.course.Course.{Course}
use Rattle.stage_linear.specs.declared.course.Course.TheVariants.{Waits, Idles, Leaves, Closes, Ends}
use Rattle.graph_stage.specs.declared.ask.Ask.{Ask}
use Rattle.graph_stage.specs.declared.ask.Ask.TheVariants.{Pull, Push, Cancel, Finish, Fail, Pass}

-- the outputs that it holds, and what it does next
pub record Telling : Type 0 where
  pub pending : List Tree
  pub course : Course

-- it holds nothing, and nobody asks it
abbrev pub not_begun : Telling
not_begun = record { pending = []; course = Idles }

-- it is done: it holds nothing, and nothing more is asked of what it gives
abbrev pub over : Telling
over = record { pending = []; course = Ends }

-- whether it may be asked what it gives
abbrev pub may_reply : Course → Bool
may_reply Waits = true
may_reply Idles = true
may_reply Leaves = false
may_reply Closes = true
may_reply Ends = false

-- ---- outputs, beside what is held

-- the first goes out, and the others are held; where there is none it asks again
abbrev pub spread_asks : List Tree → List Ask
spread_asks [] = Pull 0 ∷ []
spread_asks (t ∷ l) = Push 0 t ∷ []

-- so it stands then
abbrev pub spread_to : List Tree → Telling
spread_to [] = record { pending = []; course = Waits }
spread_to (t ∷ l) = record { pending = l; course = Idles }

-- the same, and it is done: it ends with the last of them
abbrev pub leaving_asks : List Tree → List Ask
leaving_asks [] = Finish ∷ []
leaving_asks (t ∷ []) = Push 0 t ∷ Finish ∷ []
leaving_asks (t ∷ u ∷ l) = Push 0 t ∷ []

-- so it stands then
abbrev pub leaving_to : List Tree → Telling
leaving_to [] = record { pending = []; course = Leaves }
leaving_to (t ∷ l) = record { pending = l; course = Leaves }

-- the last outputs, once its input has ended and nothing is held: where its output is asked the first goes out
abbrev pub ended_asks : Course → List Tree → List Ask
ended_asks c [] = Finish ∷ []
ended_asks Waits (t ∷ []) = Push 0 t ∷ Finish ∷ []
ended_asks Waits (t ∷ u ∷ l) = Push 0 t ∷ []
ended_asks _ (t ∷ l) = []

-- so it stands then
abbrev pub ended_to : Course → List Tree → Telling
ended_to c [] = over
ended_to Waits (t ∷ l) = record { pending = l; course = Ends }
ended_to _ (t ∷ l) = record { pending = t ∷ l; course = Ends }

-- ---- what it replies

-- an element came to this, beside what is held
abbrev pub replied_asks : List Tree → Reply → List Ask
replied_asks p r = elim r.verdict as (λ _. List Ask) [ go ↦ spread_asks (p ++ r.gave) | finish ↦ leaving_asks (p ++ r.gave) | fail n ↦ Fail n ∷ [] ]

-- so it stands then
abbrev pub replied_to : List Tree → Reply → Telling
replied_to p r = elim r.verdict as (λ _. Telling) [ go ↦ spread_to (p ++ r.gave) | finish ↦ leaving_to (p ++ r.gave) | fail n ↦ over ]

-- the end of its input came to this, where nothing is held
abbrev pub closing_asks : Course → Reply → List Ask
closing_asks c r = elim r.verdict as (λ _. List Ask) [ go ↦ ended_asks c r.gave | finish ↦ ended_asks c r.gave | fail n ↦ Fail n ∷ [] ]

-- so it stands then
abbrev pub closing_to : Course → Reply → Telling
closing_to c r = elim r.verdict as (λ _. Telling) [ go ↦ ended_to c r.gave | finish ↦ ended_to c r.gave | fail n ↦ over ]

-- ---- its calls

-- the last of what it held went out
abbrev pub behind_last_asks : Gives → Course → List Ask
behind_last_asks p Waits = []
behind_last_asks p Idles = []
behind_last_asks p Leaves = Finish ∷ []
behind_last_asks p Closes = closing_asks Closes (p.closing [])
behind_last_asks p Ends = Finish ∷ []

-- so it stands then
abbrev pub behind_last_to : Gives → Course → Telling
behind_last_to p Waits = record { pending = []; course = Waits }
behind_last_to p Idles = record { pending = []; course = Idles }
behind_last_to p Leaves = record { pending = []; course = Leaves }
behind_last_to p Closes = closing_to Closes (p.closing [])
behind_last_to p Ends = over

-- what it does next where its output is asked and it holds nothing
abbrev pub asked_course : Course → Course
asked_course Waits = Waits
asked_course Idles = Waits
asked_course Leaves = Leaves
asked_course Closes = Waits
asked_course Ends = Ends

-- its output was asked: the first of what it holds goes out, or its input is asked
abbrev pub pulled_asks : Gives → Course → List Tree → List Ask
pulled_asks p c [] = Pull 0 ∷ []
pulled_asks p c (t ∷ []) = Push 0 t ∷ behind_last_asks p c
pulled_asks p c (t ∷ u ∷ l) = Push 0 t ∷ []

-- so it stands then
abbrev pub pulled_to : Gives → Course → List Tree → Telling
pulled_to p c [] = record { pending = []; course = asked_course c }
pulled_to p c (t ∷ []) = behind_last_to p c
pulled_to p c (t ∷ u ∷ l) = record { pending = u ∷ l; course = c }

-- an element came to this while it goes on; one that is over fails with code 0
abbrev pub came_asks : Bool → List Tree → Reply → List Ask
came_asks true held r = replied_asks held r
came_asks false held r = Fail 0 ∷ []

-- so it stands then
abbrev pub came_to : Bool → List Tree → Reply → Telling
came_to true held r = replied_to held r
came_to false held r = over

-- the end of its input came while it goes on and holds nothing; one that is over ends
abbrev pub closed_asks : Bool → Course → Reply → List Ask
closed_asks true c r = closing_asks c r
closed_asks false c r = Finish ∷ []

-- so it stands then
abbrev pub closed_to : Bool → Course → Reply → Telling
closed_to true c r = closing_to c r
closed_to false c r = over

-- its input has ended
abbrev pub finished_asks : Gives → Course → List Tree → List Ask
finished_asks p c [] = closed_asks (may_reply c) c (p.closing [])
finished_asks p c (t ∷ l) = []

-- what it does next where it still holds something
abbrev pub course_behind_end : Course → Course
course_behind_end Waits = Closes
course_behind_end Idles = Closes
course_behind_end Leaves = Ends
course_behind_end Closes = Closes
course_behind_end Ends = Ends

-- so it stands then
abbrev pub finished_to : Gives → Course → List Tree → Telling
finished_to p c [] = closed_to (may_reply c) c (p.closing [])
finished_to p c (t ∷ l) = record { pending = t ∷ l; course = course_behind_end c }

-- its input has failed: it passes that on, but where it is done
abbrev pub failed_asks : Course → List Ask
failed_asks Waits = Pass ∷ []
failed_asks Idles = Pass ∷ []
failed_asks Leaves = []
failed_asks Closes = Pass ∷ []
failed_asks Ends = Pass ∷ []

-- what it does next then
abbrev pub failed_course : Course → Course
failed_course Waits = Waits
failed_course Idles = Idles
failed_course Leaves = Ends
failed_course Closes = Closes
failed_course Ends = Ends

-- its output was cancelled
abbrev pub cancelled_asks : Course → List Ask
cancelled_asks Waits = Cancel 0 ∷ []
cancelled_asks Idles = Cancel 0 ∷ []
cancelled_asks Leaves = Cancel 0 ∷ []
cancelled_asks Closes = []
cancelled_asks Ends = []

-- what it asks for in a call, by what it gives and how it stands
abbrev pub lifted_asks : Gives → Telling → Call → List Ask
lifted_asks p s starts = []
lifted_asks p s (pulls j) = pulled_asks p s.course s.pending
lifted_asks p s (arrives i (item.Elem t)) = came_asks (may_reply s.course) s.pending (p.reply [] t)
lifted_asks p s (arrives i item.Ended) = finished_asks p s.course s.pending
lifted_asks p s (arrives i (item.Failed c)) = failed_asks s.course
lifted_asks p s (cancels j) = cancelled_asks s.course

-- how it stands then
abbrev pub lifted_to : Gives → Telling → Call → Telling
lifted_to p s starts = s
lifted_to p s (pulls j) = pulled_to p s.course s.pending
lifted_to p s (arrives i (item.Elem t)) = came_to (may_reply s.course) s.pending (p.reply [] t)
lifted_to p s (arrives i item.Ended) = finished_to p s.course s.pending
lifted_to p s (arrives i (item.Failed c)) = record { pending = s.pending; course = failed_course s.course }
lifted_to p s (cancels j) = s

-- what it gives behind a call, where it may be asked: an element was taken, or nothing was
abbrev pub gives_then : Gives → Call → Gives
gives_then p (arrives i (item.Elem t)) = after p t
gives_then p _ = p
