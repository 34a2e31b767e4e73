-- Where the turns of an interleave stop that gave all that it took: at its current input.
use Rattle.std.specs.Prelude.{◌==◌, if◌then◌else◌, nat_le, slice_get}
use Rattle.std.proofs.Common.{◌≡◌, ℕ, zero, suc, ◌+◌, ◌-◌, ◌≤◌, Bool, true, false, List, [], ◌∷◌, ◌++◌, length, map, refl, sym, ap, ◌∙◌, arith, append-nil, length-append, Option, Some, None}
use Rattle.std.proofs.lemmas.List.{map-append}
use Rattle.elem_core.specs.Tree.{Tree, text}
use Rattle.port_core.specs.View.{input_closed}
use Rattle.stream_model.specs.Outlook.{Outlook, End, unended, ended, failed}
use Rattle.stream_model.specs.Machine.{is_ended}
use Rattle.stream_model.specs.FanIn.{Tagged, tag, Inlet, Inflow, flow, inlets, interleave_of, turns_of, interleave_taken}
use Rattle.stream_model.specs.View.{total}
use Rattle.stream_model.specs.Rests.{InTurn, stops_at, turns_from, turns_stop}
use Rattle.stage_core.specs.Inflows.{nothing_came, joined, joined_all}
use Rattle.stage_core.specs.Fans.{FanPlace, FanKept, UsesInputs, fan_gives}
use Rattle.stage_core.specs.OwnRows.{own_inputs}
use Rattle.stage_core.specs.Seats.{end_by}
use Rattle.stage_in.specs.Kinds.{taking_by, after_element}
use Rattle.stage_in.specs.Seats.{seat, seats, none_of}
use Rattle.stage_in.specs.Takings.{Taking, place_of}
use Rattle.stage_in.proofs.Queues.{need, need-append, need_inlets}
use Rattle.stage_in.proofs.Steps.{FirstOf, AllNone, none_given, element_given}

-- ---- one more element behind each input that has not ended

-- an element
abbrev one_more : Tree
one_more = text []

abbrev grown : Bool → List Tree → List Tree
grown true l = l
grown false l = l ++ one_more ∷ []

abbrev grow : Inlet → Inlet
grow i = record i { list = grown i.ends i.list }

abbrev turn_of : Inlet → InTurn
turn_of i = record { port = i.port; left = length i.list; ended = i.ends }

head_grown : (e : Bool) (t : Tree) (ts : List Tree) → grown e (t ∷ ts) ≡ t ∷ grown e ts
head_grown true t ts = refl
head_grown false t ts = refl

-- what is left of an input
abbrev left_over : ℕ → List Tree → Bool → Inlet
left_over p ts e = record { port = p; list = ts; ends = e }

same_behind : (g r s : List Tagged) (a b : Tagged) → g ++ a ∷ r ≡ g ++ b ∷ s → a ≡ b
same_behind [] r s a b e = cc
same_behind (x ∷ g) r s a b e = let t : g ++ a ∷ r ≡ g ++ b ∷ s = cc in same_behind g r s a b t

module _ (segment : ℕ) where
  -- the turns stop nowhere, and the queue with more behind it gives no more; or they stop at an input, and then it gives the next of that
  data Outcome (f g left : ℕ) (q : List Inlet) : Type 0 where
    nowhere : stops_at segment f left (map turn_of q) ≡ None → interleave_of segment g left (map grow q) ≡ interleave_of segment f left q → Outcome f g left q
    somewhere : (p : ℕ) (r : List Tagged) → stops_at segment f left (map turn_of q) ≡ Some p → interleave_of segment g left (map grow q) ≡ interleave_of segment f left q ++ tag p one_more ∷ r → Outcome f g left q

  no_queue : (g left : ℕ) → interleave_of segment g left [] ≡ []
  no_queue zero left = refl
  no_queue (suc g) left = refl

  -- an input that has ended and has none left
  passes : (f g left p : ℕ) (q : List Inlet) → Outcome f g segment q → Outcome (suc f) (suc g) left (record { port = p; list = []; ends = true } ∷ q)
  passes f g left p q (nowhere s e) = nowhere s e
  passes f g left p q (somewhere o r s e) = somewhere o r s e

  first_takes : (n left p : ℕ) (t : Tree) (ts : List Tree) (e few : Bool) (q : List Inlet) → nat_le left 1 ≡ few
      → interleave_of segment (suc n) left (record { port = p; list = t ∷ ts; ends = e } ∷ q)
      ≡ tag p t ∷ (if few then interleave_of segment n segment (q ++ record { port = p; list = ts; ends = e } ∷ []) else interleave_of segment n (left - 1) (record { port = p; list = ts; ends = e } ∷ q))
  first_takes n left p t ts e few q h = rw h refl

  stop_takes : (n left p m : ℕ) (e few : Bool) (q : List InTurn) → nat_le left 1 ≡ few
      → stops_at segment (suc n) left (record { port = p; left = suc m; ended = e } ∷ q)
      ≡ (if few then stops_at segment n segment (q ++ record { port = p; left = m; ended = e } ∷ []) else stops_at segment n (left - 1) (record { port = p; left = m; ended = e } ∷ q))
  stop_takes n left p m e few q h = rw h refl

  grown_takes : (n left p : ℕ) (t : Tree) (ts : List Tree) (e few : Bool) (q : List Inlet) → nat_le left 1 ≡ few
      → interleave_of segment (suc n) left (record { port = p; list = grown e (t ∷ ts); ends = e } ∷ q)
      ≡ tag p t ∷ (if few then interleave_of segment n segment (q ++ record { port = p; list = grown e ts; ends = e } ∷ []) else interleave_of segment n (left - 1) (record { port = p; list = grown e ts; ends = e } ∷ q))
  grown_takes n left p t ts e few q h = ap (λ (l : List Tree). interleave_of segment (suc n) left (record { port = p; list = l; ends = e } ∷ q)) (head_grown e t ts) ∙ first_takes n left p t (grown e ts) e few q h

  -- an element that ends a segment
  last_of_segment : (f g left p : ℕ) (t : Tree) (ts : List Tree) (e : Bool) (q : List Inlet) → nat_le left 1 ≡ true → Outcome f g segment (q ++ record { port = p; list = ts; ends = e } ∷ []) → Outcome (suc f) (suc g) left (record { port = p; list = t ∷ ts; ends = e } ∷ q)
  last_of_segment f g left p t ts e q h o = by o
    where
      stops : stops_at segment (suc f) left (map turn_of (record { port = p; list = t ∷ ts; ends = e } ∷ q)) ≡ stops_at segment f segment (map turn_of (q ++ left_over p ts e ∷ []))
      stops = stop_takes f left p (length ts) e true (map turn_of q) h ∙ ap (λ (x : List InTurn). stops_at segment f segment x) (sym (map-append turn_of q (left_over p ts e ∷ [])))

      more : interleave_of segment (suc g) left (map grow (record { port = p; list = t ∷ ts; ends = e } ∷ q)) ≡ tag p t ∷ interleave_of segment g segment (map grow (q ++ left_over p ts e ∷ []))
      more = grown_takes g left p t ts e true (map grow q) h ∙ ap (λ (x : List Inlet). tag p t ∷ interleave_of segment g segment x) (sym (map-append grow q (left_over p ts e ∷ [])))

      few : interleave_of segment (suc f) left (record { port = p; list = t ∷ ts; ends = e } ∷ q) ≡ tag p t ∷ interleave_of segment f segment (q ++ left_over p ts e ∷ [])
      few = first_takes f left p t ts e true q h

      by : Outcome f g segment (q ++ left_over p ts e ∷ []) → Outcome (suc f) (suc g) left (record { port = p; list = t ∷ ts; ends = e } ∷ q)
      by (nowhere s i) = nowhere (stops ∙ s) (more ∙ (ap (λ (x : List Tagged). tag p t ∷ x) i ∙ sym few))
      by (somewhere c r s i) = somewhere c r (stops ∙ s) (more ∙ (ap (λ (x : List Tagged). tag p t ∷ x) i ∙ ap (λ (x : List Tagged). x ++ tag c one_more ∷ r) (sym few)))

  -- and one that does not
  within_segment : (f g left p : ℕ) (t : Tree) (ts : List Tree) (e : Bool) (q : List Inlet) → nat_le left 1 ≡ false → Outcome f g (left - 1) (record { port = p; list = ts; ends = e } ∷ q) → Outcome (suc f) (suc g) left (record { port = p; list = t ∷ ts; ends = e } ∷ q)
  within_segment f g left p t ts e q h o = by o
    where
      stops : stops_at segment (suc f) left (map turn_of (record { port = p; list = t ∷ ts; ends = e } ∷ q)) ≡ stops_at segment f (left - 1) (map turn_of (record { port = p; list = ts; ends = e } ∷ q))
      stops = stop_takes f left p (length ts) e false (map turn_of q) h

      more : interleave_of segment (suc g) left (map grow (record { port = p; list = t ∷ ts; ends = e } ∷ q)) ≡ tag p t ∷ interleave_of segment g (left - 1) (map grow (record { port = p; list = ts; ends = e } ∷ q))
      more = grown_takes g left p t ts e false (map grow q) h

      few : interleave_of segment (suc f) left (record { port = p; list = t ∷ ts; ends = e } ∷ q) ≡ tag p t ∷ interleave_of segment f (left - 1) (record { port = p; list = ts; ends = e } ∷ q)
      few = first_takes f left p t ts e false q h

      by : Outcome f g (left - 1) (record { port = p; list = ts; ends = e } ∷ q) → Outcome (suc f) (suc g) left (record { port = p; list = t ∷ ts; ends = e } ∷ q)
      by (nowhere s i) = nowhere (stops ∙ s) (more ∙ (ap (λ (x : List Tagged). tag p t ∷ x) i ∙ sym few))
      by (somewhere c r s i) = somewhere c r (stops ∙ s) (more ∙ (ap (λ (x : List Tagged). tag p t ∷ x) i ∙ ap (λ (x : List Tagged). x ++ tag c one_more ∷ r) (sym few)))

  outcome : (f g left : ℕ) (q : List Inlet) → need q ≤ f → need (map grow q) ≤ g → Outcome f g left q
  outcome zero g left [] h k = nowhere refl (no_queue g left)
  outcome (suc f) g left [] h k = nowhere refl (no_queue g left)
  outcome zero g left (i ∷ q) h k = absurd (omega (arith, h))
  outcome (suc f) zero left (i ∷ q) h k = absurd (omega (arith, k))
  outcome (suc f) (suc g) left (i ∷ q) h k = by_list i.port i.list i.ends (λ n r. outcome f g n r) (omega (arith, h)) (omega (arith, k))
    where
      Again : Type 0
      Again = (n : ℕ) (r : List Inlet) → need r ≤ f → need (map grow r) ≤ g → Outcome f g n r

      by_left : (p : ℕ) (t : Tree) (ts : List Tree) (e few : Bool) → nat_le left 1 ≡ few → Again → length ts + 1 + need q ≤ f → length (grown e ts) + 1 + need (map grow q) ≤ g → Outcome (suc f) (suc g) left (record { port = p; list = t ∷ ts; ends = e } ∷ q)
      by_left p t ts e true few again h k =
          let i : Inlet = record { port = p; list = ts; ends = e } in
          let w : need (q ++ i ∷ []) ≡ need q + (length ts + 1 + 0) = need-append q (i ∷ []) in
          let v : need (map grow (q ++ i ∷ [])) ≡ need (map grow q) + (length (grown e ts) + 1 + 0) = ap need (map-append grow q (i ∷ [])) ∙ need-append (map grow q) (grow i ∷ []) in
          last_of_segment f g left p t ts e q few (again segment (q ++ i ∷ []) (omega (arith, w, h)) (omega (arith, v, k)))
      by_left p t ts e false few again h k = within_segment f g left p t ts e q few (again (left - 1) (record { port = p; list = ts; ends = e } ∷ q) h k)

      by_list : (p : ℕ) (l : List Tree) (e : Bool) → Again → length l + need q ≤ f → length (grown e l) + need (map grow q) ≤ g → Outcome (suc f) (suc g) left (record { port = p; list = l; ends = e } ∷ q)
      by_list p [] true again h k = passes f g left p q (again segment q (omega (arith, h)) (omega (arith, k)))
      by_list p [] false again h k =
          somewhere p (if nat_le left 1 then interleave_of segment g segment (map grow q ++ record { port = p; list = []; ends = false } ∷ []) else interleave_of segment g (left - 1) (record { port = p; list = []; ends = false } ∷ map grow q)) refl refl
      by_list p (t ∷ ts) e again h k =
          let u : length (grown e (t ∷ ts)) ≡ suc (length (grown e ts)) = ap length (head_grown e t ts) in
          by_left p t ts e (nat_le left 1) refl again (omega (arith, h)) (omega (arith, k, u))

  -- where it gave this and then an element of input c, the turns stop at c
  stop_port : (f g : ℕ) (q : List Inlet) (given later : List Tagged) (c : ℕ) → Outcome f g segment q → interleave_of segment f segment q ≡ given → interleave_of segment g segment (map grow q) ≡ given ++ tag c one_more ∷ later → stops_at segment f segment (map turn_of q) ≡ Some c
  stop_port f g q given later c (nowhere s i) now later_gave =
      let same : given ≡ given ++ tag c one_more ∷ later = sym now ∙ (sym i ∙ later_gave) in
      let long = length-append given (tag c one_more ∷ later) in
      let counts = ap length same in
      absurd (omega (arith, counts, long))
  stop_port f g q given later c (somewhere p r s i) now later_gave =
      let same : given ++ tag p one_more ∷ r ≡ given ++ tag c one_more ∷ later = ap (λ (x : List Tagged). x ++ tag p one_more ∷ r) (sym now) ∙ (sym i ∙ later_gave) in
      let port : p ≡ c = ap (λ (t : Tagged). t.port) (same_behind given r later (tag p one_more) (tag c one_more) same) in
      s ∙ ap (λ (n : ℕ). Some n) port

-- ---- what an interleave took, and one more of each input that has not ended

abbrev more_came : Inflow
more_came = record { list = one_more ∷ []; end = unended }

-- the inputs from number n on as they are, and with one more
abbrev now_at : ℕ → List Inflow → List Inlet
now_at n ins = inlets n (map flow (joined_all n ins (λ k. nothing_came)))

abbrev then_at : ℕ → List Inflow → List Inlet
then_at n ins = inlets n (map flow (joined_all n ins (λ k. more_came)))

grown_flow : (b : Bool) (n : ℕ) (l : List Tree) (e : End) → e ≡ end_by b → (record { port = n; list = (flow (joined (record { list = l; end = e }) more_came)).list; ends = (flow (joined (record { list = l; end = e }) more_came)).ends })
    ≡ grow (record { port = n; list = (flow (joined (record { list = l; end = e }) nothing_came)).list; ends = (flow (joined (record { list = l; end = e }) nothing_came)).ends })
grown_flow true n l e h = rw h refl
grown_flow false n l e h = rw h (ap (λ (x : List Tree). record { port = n; list = x ++ one_more ∷ []; ends = false }) (sym (append-nil l)))

then_grows : (n : ℕ) (given : List Tagged) (over : List Bool) (ins : List Inflow) → UsesInputs n given (none_of over) ins → then_at n ins ≡ map grow (now_at n ins)
then_grows n given [] [] u = refl
then_grows n given [] (f ∷ ins) u = absurd u
then_grows n given (b ∷ over) [] u = absurd u
then_grows n given (b ∷ over) (f ∷ ins) u =
    ap (λ (i : Inlet). i ∷ then_at (n + 1) ins) (grown_flow b n f.list f.end (sym u.0.1))
    ∙ ap (λ (q : List Inlet). grow (record { port = n; list = (flow (joined f nothing_came)).list; ends = (flow (joined f nothing_came)).ends }) ∷ q) (then_grows (n + 1) given over ins u.1)

-- ---- what the stage shows of its inputs

open_seat : (here asked : Bool) → input_closed (seat false here asked) ≡ false
open_seat true true = refl
open_seat true false = refl
open_seat false true = refl
open_seat false false = refl

turn_same : (b here asked : Bool) (n : ℕ) (l : List Tree) (e : End) → e ≡ end_by b
    → turn_of (record { port = n; list = (flow (joined (record { list = l; end = e }) nothing_came)).list; ends = (flow (joined (record { list = l; end = e }) nothing_came)).ends }) ≡ record { port = n; left = length l; ended = input_closed (seat b here asked) }
turn_same true here asked n l e h = rw h refl
turn_same false here asked n l e h = rw (h, open_seat here asked) (ap (λ (x : List Tree). record { port = n; left = length x; ended = false }) (append-nil l))

turns_same : (n c : ℕ) (asked : Bool) (given : List Tagged) (over : List Bool) (ins : List Inflow) → UsesInputs n given (none_of over) ins → map turn_of (now_at n ins) ≡ turns_from n (own_inputs (seats n over c asked) ins)
turns_same n c asked given [] [] u = refl
turns_same n c asked given [] (f ∷ ins) u = absurd u
turns_same n c asked given (b ∷ over) [] u = absurd u
turns_same n c asked given (b ∷ over) (f ∷ ins) u =
    ap (λ (t : InTurn). t ∷ map turn_of (now_at (n + 1) ins)) (turn_same b (n == c) asked n f.list f.end (sym u.0.1))
    ∙ ap (λ (q : List InTurn). record { port = n; left = length f.list; ended = input_closed (seat b (n == c) asked) } ∷ q) (turns_same (n + 1) c asked given over ins u.1)

count_same : (l : List Tree) (e : End) → length (flow (joined (record { list = l; end = e }) nothing_came)).list ≡ length l
count_same l unended = ap length (append-nil l)
count_same l ended = refl
count_same l (failed c) = refl

fuel_same : (n c : ℕ) (asked : Bool) (over : List Bool) (ins : List Inflow) → length ins ≡ length over → turns_of (map flow (joined_all n ins (λ k. nothing_came))) ≡ total (λ v. v.sent + 1) (own_inputs (seats n over c asked) ins)
fuel_same n c asked [] [] h = refl
fuel_same n c asked [] (f ∷ ins) h = absurd (omega (arith, h))
fuel_same n c asked (b ∷ over) [] h = absurd (omega (arith, h))
fuel_same n c asked (b ∷ over) (f ∷ ins) h = let here = count_same f.list f.end in let rest = fuel_same (n + 1) c asked over ins (omega (arith, h)) in omega (arith, here, rest)

as_many : (n : ℕ) (given : List Tagged) (over : List Bool) (ins : List Inflow) → UsesInputs n given (none_of over) ins → length ins ≡ length over
as_many n given [] [] u = refl
as_many n given [] (f ∷ ins) u = absurd u
as_many n given (b ∷ over) [] u = absurd u
as_many n given (b ∷ over) (f ∷ ins) u = ap suc (as_many (n + 1) given over ins u.1)

-- ---- from its place on

-- nothing waits
none_waits : (n : ℕ) (over : List Bool) → AllNone (map flow (joined_all n (none_of over) (λ k. nothing_came)))
none_waits n [] = tt
none_waits n (true ∷ over) = (refl, none_waits (n + 1) over)
none_waits n (false ∷ over) = (refl, none_waits (n + 1) over)

-- the first that its current input brings
first_there : (n : ℕ) (over : List Bool) (c : ℕ) → slice_get over c ≡ Some false → (ps : List Outlook) × FirstOf c one_more (map flow (joined_all n (none_of over) (λ k. more_came))) ps
first_there n [] c h = cc
first_there n (b ∷ over) zero h =
    let e : b ≡ false = cc in
    let now : Outlook = record { list = []; ends = false; fails = [] } in
    let behind : List Outlook = map flow (joined_all (n + 1) (none_of over) (λ k. more_came)) in
    (now ∷ behind, record { before = []; behind = behind; now = now; place = refl; is = rw e refl; then_is = refl })
first_there n (b ∷ over) (suc c) h =
    let r = first_there (n + 1) over c h in
    let first : Outlook = flow (joined (record { list = []; end = end_by b }) more_came) in (
      first ∷ r.0,
      record { before = first ∷ r.1.before; behind = r.1.behind; now = r.1.now; place = ap suc r.1.place; is = ap (λ (os : List Outlook). first ∷ os) r.1.is; then_is = ap (λ (os : List Outlook). first ∷ os) r.1.then_is },
    )

-- ---- so it stops there

pub stops_here : (segment : ℕ) (first : FanPlace) (l : Taking) (ins : List Inflow) (g : List Tree) → (taking_by (Some segment)).from first ≡ interleave_taken segment → slice_get l.over l.current ≡ Some false → FanKept (taking_by (Some segment)) first (place_of l) (none_of l.over) ins g
    → turns_stop segment (own_inputs (seats 0 l.over l.current l.asked) ins) ≡ Some l.current
stops_here segment first l ins g from here k =
    let rest = first_there 0 l.over l.current here in
    let gave_none : fan_gives (taking_by (Some segment)) (place_of l) (joined_all 0 (none_of l.over) (λ k. nothing_came)) ≡ [] = none_given (Some segment) (place_of l) (map flow (joined_all 0 (none_of l.over) (λ k. nothing_came))) (none_waits 0 l.over) in
    let gives_one = element_given (Some segment) (length rest.0) (place_of l) one_more (map flow (joined_all 0 (none_of l.over) (λ k. more_came))) rest.0 rest.1 refl in
    let later : List Tagged = (taking_by (Some segment)).from (after_element (Some segment) (length rest.0) (place_of l)) rest.0 in
    let now : interleave_taken segment (map flow (joined_all 0 ins (λ k. nothing_came))) ≡ k.given =
    ap (λ (f : List Outlook → List Tagged). f (map flow (joined_all 0 ins (λ k. nothing_came)))) (sym from) ∙ (k.rest (λ k. nothing_came) ∙ (ap (λ (x : List Tagged). k.given ++ x) gave_none ∙ append-nil k.given)) in
    let later_gave : interleave_taken segment (map flow (joined_all 0 ins (λ k. more_came))) ≡ k.given ++ tag l.current one_more ∷ later =
    ap (λ (f : List Outlook → List Tagged). f (map flow (joined_all 0 ins (λ k. more_came)))) (sym from) ∙ (k.rest (λ k. more_came) ∙ ap (λ (x : List Tagged). k.given ++ x) gives_one) in
    let grows : then_at 0 ins ≡ map grow (now_at 0 ins) = then_grows 0 k.given l.over ins k.uses in
    let fuel = turns_of (map flow (joined_all 0 ins (λ k. nothing_came))) in
    let more = turns_of (map flow (joined_all 0 ins (λ k. more_came))) in
    let needs = need_inlets 0 (map flow (joined_all 0 ins (λ k. nothing_came))) in
    let wants : need (map grow (now_at 0 ins)) ≡ more = ap need (sym grows) ∙ need_inlets 0 (map flow (joined_all 0 ins (λ k. more_came))) in
    let stops : stops_at segment fuel segment (map turn_of (now_at 0 ins)) ≡ Some l.current =
    stop_port segment fuel more (now_at 0 ins) k.given later l.current (outcome segment fuel more segment (now_at 0 ins) (omega (arith, needs)) (omega (arith, wants))) now (ap (λ (q : List Inlet). interleave_of segment more segment q) (sym grows) ∙ later_gave) in
    let shown : stops_at segment fuel segment (map turn_of (now_at 0 ins)) ≡ turns_stop segment (own_inputs (seats 0 l.over l.current l.asked) ins) =
    ap (λ (q : List InTurn). stops_at segment fuel segment q) (turns_same 0 l.current l.asked k.given l.over ins k.uses)
    ∙ ap (λ (n : ℕ). stops_at segment n segment (turns_from 0 (own_inputs (seats 0 l.over l.current l.asked) ins))) (fuel_same 0 l.current l.asked l.over ins (as_many 0 k.given l.over ins k.uses)) in
    sym shown ∙ stops
