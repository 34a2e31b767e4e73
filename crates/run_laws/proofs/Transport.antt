-- A row of a picture that rests, proved once over a stage's own ports, is a row of the picture's wires: a wire shows what the
-- port shows, or it is a lane, which may be read as idling.
use Rattle.std.proofs.Common.{◌≡◌, ◌≢◌, ◌⊎◌, inl, inr, ℕ, zero, suc, ◌+◌, ◌≤◌, Bool, true, false, List, [], ◌∷◌, map, None, Some, refl, sym, ap, subst, ◌∙◌, arith}
use Rattle.port_core.specs.declared.view.InView.{InView}
use Rattle.port_core.specs.declared.view.InView.TheVariants.{Idle, Pulled, Finished, Cancelled}
use Rattle.port_core.specs.declared.view.OutView.{OutView}
use Rattle.port_core.specs.declared.view.OutView.TheVariants as outlet
use Rattle.elem_core.specs.Items.{elements}
use Rattle.stream_model.specs.Picks.{count_of}
use Rattle.stream_model.specs.View.{EachWire, SomeWire, total}
use Rattle.stream_model.specs.View as picture
use Rattle.stream_model.specs.Rests.{
  Waits,
  IsShut,
  IsLane,
  Idles,
  IsAsked,
  IsUnasked,
  IdlesOrShut,
  WaitsIdlesOrShut,
  FirstOpenWaits,
  WaitsAt,
  InTurn,
  stops_at,
  turns_from,
  turns_stop,
  IsOrLane,
  ZipInput,
  MergeInput,
  MergeWaits,
  MergeRests,
  ConcatRests,
  TurnRests,
  SortedInput,
  SortedStands,
  SortedRests,
  ZipRests,
  BroadcastRests,
  BalanceRests,
}
use Rattle.port_core.specs.View.{input_closed, output_closed}
use Rattle.stage_core.specs.OwnPorts.{is_waiting, is_asked}
use Rattle.stage_core.specs.Row.{InClosed, OutClosed}
use Rattle.stage_out.specs.Machines.{DealsRest}
use Rattle.stage_merge.specs.Rows.{InputWaits, MergeRestsBy}
use Rattle.stage_out.specs.BalanceRows.{OutputUnasked, BalanceRestsBy}
use Rattle.port_core.specs.declared.pick_log.Next.{Next}
use Rattle.port_core.specs.declared.pick_log.Next.TheVariants.{Free, Move, UsedUp}
use Rattle.run_laws.specs.Items.{list_of}
use Rattle.run_laws.specs.Ports.{InPort, OutPort, EachPort, InStands, OutStands, InRests, OutRests}

-- a node's own ports as wires, each read as no lane
abbrev pub own_in : InPort → picture.SeenWire
own_in i = record { wire = 0; sent = elements i.got; asked = is_waiting i.view; shut = input_closed i.view; lane = None; list = list_of i.got }

abbrev pub own_out : OutPort → picture.SeenWire
own_out o = record { wire = 0; sent = elements o.sent; asked = is_asked o.view; shut = output_closed o.view; lane = None; list = list_of o.sent }

waiting_is : (x : InView) → is_waiting x ≡ true → x ≡ Pulled
waiting_is Pulled e = refl
waiting_is Idle e = cc
waiting_is Finished e = cc
waiting_is Cancelled e = cc

idle_is : (x : InView) → is_waiting x ≡ false → input_closed x ≡ false → x ≡ Idle
idle_is Idle a b = refl
idle_is Pulled a b = cc
idle_is Finished a b = cc
idle_is Cancelled a b = cc

closed_is : (x : InView) → input_closed x ≡ true → InClosed x
closed_is Finished e = tt
closed_is Cancelled e = tt
closed_is Idle e = absurd cc
closed_is Pulled e = absurd cc

over_is : (x : InView) → input_closed x ≡ true → x ≢ Cancelled → x ≡ Finished
over_is Finished e n = refl
over_is Cancelled e n = absurd (n refl)
over_is Idle e n = cc
over_is Pulled e n = cc

asked_is : (y : OutView) → is_asked y ≡ true → y ≡ outlet.Available
asked_is outlet.Available e = refl
asked_is outlet.Unpulled e = cc
asked_is outlet.Closed e = cc
asked_is outlet.Cancelled e = cc

unasked_is : (y : OutView) → is_asked y ≡ false → output_closed y ≡ false → y ≡ outlet.Unpulled
unasked_is outlet.Unpulled a b = refl
unasked_is outlet.Available a b = cc
unasked_is outlet.Closed a b = cc
unasked_is outlet.Cancelled a b = cc

out_closed_is : (y : OutView) → output_closed y ≡ true → OutClosed y
out_closed_is outlet.Closed e = tt
out_closed_is outlet.Cancelled e = tt
out_closed_is outlet.Unpulled e = absurd cc
out_closed_is outlet.Available e = absurd cc

module _ (i : InPort) (r : InRests i) where
  pub waits : Waits (own_in i) → Waits i.wire
  waits h = (r.waits (waiting_is i.view h.0)).0

  waits_sent : Waits (own_in i) → i.wire.sent ≡ elements i.got
  waits_sent h = (r.waits (waiting_is i.view h.0)).1

  pub shuts : IsShut (own_in i) → IsShut i.wire
  shuts h = r.shut (closed_is i.view h)

  idles : Idles (own_in i) → Idles i.wire
  idles (inl l) = absurd cc
  idles (inr h) = elim (r.idles (idle_is i.view h.0 h.1)) [ inl l ↦ inl l | inr o ↦ inr o.0 ]

  pub idle_sent : Idles (own_in i) → IsLane i.wire ⊎ (i.wire.sent ≡ elements i.got)
  idle_sent (inl l) = absurd cc
  idle_sent (inr h) = elim (r.idles (idle_is i.view h.0 h.1)) [ inl l ↦ inl l | inr o ↦ inr o.1 ]

  quiet : IdlesOrShut (own_in i) → IdlesOrShut i.wire
  quiet (inl h) = inl (idles h)
  quiet (inr h) = inr (shuts h)

  any : WaitsIdlesOrShut (own_in i) → WaitsIdlesOrShut i.wire
  any (inl h) = inl (waits h)
  any (inr (inl h)) = inr (inl (idles h))
  any (inr (inr h)) = inr (inr (shuts h))

module _ (o : OutPort) (r : OutRests o) where
  asked : IsAsked (own_out o) → IsAsked o.wire
  asked h = r.asked (asked_is o.view h.0)

  pub unasked : IsUnasked (own_out o) → IsUnasked o.wire
  unasked h = r.unasked (unasked_is o.view h.0 h.1)

  pub out_shuts : IsShut (own_out o) → IsShut o.wire
  out_shuts h = r.shut (out_closed_is o.view h)

-- ---- over lists

pub each : (P Q : picture.SeenWire → Type 0) → ((i : InPort) → InRests i → P (own_in i) → Q i.wire) → (is : List InPort) → EachPort InRests is → EachWire P (map own_in is) → EachWire Q (map (λ (i : InPort). i.wire) is)
each P Q f [] r h = tt
each P Q f (i ∷ is) r h = (f i r.0 h.0, each P Q f is r.1 h.1)

some : (P Q : picture.SeenWire → Type 0) → ((i : InPort) → InRests i → P (own_in i) → Q i.wire) → (is : List InPort) → EachPort InRests is → SomeWire P (map own_in is) → SomeWire Q (map (λ (i : InPort). i.wire) is)
some P Q f [] r h = h
some P Q f (i ∷ is) r (inl h) = inl (f i r.0 h)
some P Q f (i ∷ is) r (inr h) = inr (some P Q f is r.1 h)

pub each_out : (P Q : picture.SeenWire → Type 0) → ((o : OutPort) → OutStands o → OutRests o → P (own_out o) → Q o.wire) → (os : List OutPort) → EachPort OutStands os → EachPort OutRests os → EachWire P (map own_out os) → EachWire Q (map (λ (o : OutPort). o.wire) os)
each_out P Q f [] s r h = tt
each_out P Q f (o ∷ os) s r h = (f o s.0 r.0 h.0, each_out P Q f os s.1 r.1 h.1)

some_out : (P Q : picture.SeenWire → Type 0) → ((o : OutPort) → OutRests o → P (own_out o) → Q o.wire) → (os : List OutPort) → EachPort OutRests os → SomeWire P (map own_out os) → SomeWire Q (map (λ (o : OutPort). o.wire) os)
some_out P Q f [] r h = h
some_out P Q f (o ∷ os) r (inl h) = inl (f o r.0 h)
some_out P Q f (o ∷ os) r (inr h) = inr (some_out P Q f os r.1 h)

first_open : (is : List InPort) → EachPort InRests is → FirstOpenWaits (map own_in is) → FirstOpenWaits (map (λ (i : InPort). i.wire) is)
first_open [] r h = h
first_open (i ∷ is) r (inl h) = inl (waits i r.0 h.0, each IdlesOrShut IdlesOrShut quiet is r.1 h.1)
first_open (i ∷ is) r (inr h) = inr (shuts i r.0 h.0, first_open is r.1 h.1)

waits_at : (p n : ℕ) (is : List InPort) → EachPort InRests is → WaitsAt p n (map own_in is) → WaitsAt p n (map (λ (i : InPort). i.wire) is)
waits_at p n [] r h = h
waits_at p n (i ∷ is) r (inl h) = inl (h.0, waits i r.0 h.1, each IdlesOrShut IdlesOrShut quiet is r.1 h.2)
waits_at p n (i ∷ is) r (inr h) = inr (quiet i r.0 h.0, waits_at p (n + 1) is r.1 h.1)

-- ---- the rows

module _ (is : List InPort) (o : OutPort) (r : EachPort InRests is) (ro : OutRests o) where
  pub concat_rests : ConcatRests (map own_in is) (own_out o) → ConcatRests (map (λ (i : InPort). i.wire) is) o.wire
  concat_rests (inl h) = inl (asked o ro h.0, first_open is r h.1)
  concat_rests (inr h) = inr (unasked o ro h.0, each IdlesOrShut IdlesOrShut quiet is r h.1)

  pub turn_rests : (p : ℕ) → TurnRests p (map own_in is) (own_out o) → TurnRests p (map (λ (i : InPort). i.wire) is) o.wire
  turn_rests p (inl h) = inl (asked o ro h.0, waits_at p 0 is r h.1)
  turn_rests p (inr h) = inr (unasked o ro h.0, each IdlesOrShut IdlesOrShut quiet is r h.1)

  waits_or_shut : (i : InPort) → InRests i → Waits (own_in i) ⊎ IsShut (own_in i) → Waits i.wire ⊎ IsShut i.wire
  waits_or_shut i q (inl h) = inl (waits i q h)
  waits_or_shut i q (inr h) = inr (shuts i q h)

  merge_input : (taken : ℕ) (i : InPort) → InRests i → MergeInput taken (own_in i) → MergeInput taken i.wire
  merge_input taken i q (inl h) = inl (waits i q h)
  merge_input taken i q (inr (inl h)) = inr (inl (shuts i q h))
  merge_input taken i q (inr (inr (inl h))) = absurd cc
  merge_input taken i q (inr (inr (inr h))) = elim (idle_sent i q h.0) [ inl l ↦ inr (inr (inl l)) | inr e ↦ inr (inr (inr (idles i q h.0, e ∙ h.1))) ]

  merge_waits : (moves : List ℕ) (n : ℕ) (js : List InPort) → EachPort InRests js → MergeWaits moves n (map own_in js) → MergeWaits moves n (map (λ (i : InPort). i.wire) js)
  merge_waits moves n [] q h = tt
  merge_waits moves n (i ∷ js) q h = (merge_input (count_of n moves) i q.0 h.0, merge_waits moves (n + 1) js q.1 h.1)

  pub merge_rests : (moves : List ℕ) → MergeRests moves (map own_in is) (own_out o) → MergeRests moves (map (λ (i : InPort). i.wire) is) o.wire
  merge_rests moves (inl h) = inl (asked o ro h.0, some Waits Waits waits is r h.1, each (λ i. Waits i ⊎ IsShut i) (λ i. Waits i ⊎ IsShut i) waits_or_shut is r h.2)
  merge_rests moves (inr h) = inr (unasked o ro h.0, merge_waits moves 0 is r h.1)

  input_waits : (m : ℕ) (js : List InPort) → EachPort InRests js → InputWaits m (map own_in js) → InputWaits m (map (λ (i : InPort). i.wire) js)
  input_waits m [] q h = λ v at. let no : None ≡ Some v = at in absurd cc
  input_waits zero (j ∷ js) q h = λ v at. let same : j.wire ≡ v = cc in subst Waits same (waits j q.0 (h (own_in j) refl))
  input_waits (suc m) (j ∷ js) q h = λ v at. input_waits m js q.1 (λ u there. h u there) v at

  -- the same of one that may follow moves, by what its next move is to be
  pub merge_rests_by : (next : Next) (moves : List ℕ) → MergeRestsBy next moves (map own_in is) (own_out o) → MergeRestsBy next moves (map (λ (i : InPort). i.wire) is) o.wire
  merge_rests_by Free moves h = merge_rests moves h
  merge_rests_by (Move m) moves (inl h) = inl (asked o ro h.0, input_waits m is r h.1)
  merge_rests_by (Move m) moves (inr h) = inr (unasked o ro h.0, merge_waits moves 0 is r h.1)
  merge_rests_by UsedUp moves (inl h) = inl (asked o ro h)
  merge_rests_by UsedUp moves (inr h) = inr (unasked o ro h.0, merge_waits moves 0 is r h.1)

  sorted_stands : SortedStands (map own_in is) (own_out o) → SortedStands (map (λ (i : InPort). i.wire) is) o.wire
  sorted_stands (inl h) = inl (asked o ro h.0, some Waits Waits waits is r h.1)
  sorted_stands (inr h) = inr (unasked o ro h.0, each WaitsIdlesOrShut WaitsIdlesOrShut any is r h.1)

  -- what an input was sent, beyond what it waits for
  open_or_lane : (n : ℕ) → (i : InPort) → i.view ≢ Cancelled → InStands i → InRests i → IdlesOrShut (own_in i) → IsOrLane (own_in i) n → IsOrLane i.wire n
  open_or_lane n i ne s q h m =
      let came = s.came in
      let some = m.0 in
      (omega (arith, came, some), by h (other m.1))
    where
      other : IsLane (own_in i) ⊎ (elements i.got ≡ n) → elements i.got ≡ n
      other (inl l) = absurd cc
      other (inr e) = e

      same : elements i.got ≡ n → IsLane i.wire ⊎ (i.wire.sent ≡ elements i.got) → IsLane i.wire ⊎ (i.wire.sent ≡ n)
      same e (inl l) = inl l
      same e (inr f) = inr (f ∙ e)

      by : IdlesOrShut (own_in i) → elements i.got ≡ n → IsLane i.wire ⊎ (i.wire.sent ≡ n)
      by (inl x) e = same e (idle_sent i q x)
      by (inr x) e = same e (q.over_sent (over_is i.view x ne))

  zip_input : (n : ℕ) → n ≡ elements o.sent → (i : InPort) → i.view ≢ Cancelled → InStands i → InRests i → ZipInput (elements o.sent) (own_in i) → ZipInput n i.wire
  zip_input n e i ne s q (inl h) = inl (waits i q h.0, waits_sent i q h.0 ∙ (h.1 ∙ sym e))
  zip_input n e i ne s q (inr h) = inr (quiet i q h.0, open_or_lane (n + 1) i ne s q h.0 (subst (λ m. IsOrLane (own_in i) (m + 1)) (sym e) h.1))

  zip_inputs : (n : ℕ) → n ≡ elements o.sent → (js : List InPort) → EachPort (λ i. i.view ≢ Cancelled) js → EachPort InStands js → EachPort InRests js → EachWire (ZipInput (elements o.sent)) (map own_in js) → EachWire (ZipInput n) (map (λ (i : InPort). i.wire) js)
  zip_inputs n e [] ne s q h = tt
  zip_inputs n e (i ∷ js) ne s q h = (zip_input n e i ne.0 s.0 q.0 h.0, zip_inputs n e js ne.1 s.1 q.1 h.1)

  zip_waits : (n : ℕ) → n ≡ elements o.sent → (i : InPort) → InRests i → Waits (own_in i) × (elements i.got ≡ elements o.sent) → Waits i.wire × (i.wire.sent ≡ n)
  zip_waits n e i q h = (waits i q h.0, waits_sent i q h.0 ∙ (h.1 ∙ sym e))

  pub zip_rests : OutStands o → EachPort (λ i. i.view ≢ Cancelled) is → EachPort InStands is → ZipRests (map own_in is) (own_out o) → ZipRests (map (λ (i : InPort). i.wire) is) o.wire
  zip_rests so ne s h = (zip_inputs o.wire.sent so.count is ne s r h.0, by h.1)
    where
      by : (IsAsked (own_out o) × SomeWire (λ i. Waits i × (i.sent ≡ elements o.sent)) (map own_in is)) ⊎ IsUnasked (own_out o)
          → (IsAsked o.wire × SomeWire (λ i. Waits i × (i.sent ≡ o.wire.sent)) (map (λ (i : InPort). i.wire) is)) ⊎ IsUnasked o.wire
      by (inl x) = inl (asked o ro x.0, some (λ i. Waits i × (i.sent ≡ elements o.sent)) (λ i. Waits i × (i.sent ≡ o.wire.sent)) (zip_waits o.wire.sent so.count) is r x.1)
      by (inr x) = inr (unasked o ro x)

-- what an input was sent that its node has not cancelled
sent_or_lane : (i : InPort) (x : InView) → i.view ≡ x → x ≢ Cancelled → InRests i → IsLane i.wire ⊎ (i.wire.sent ≡ elements i.got)
sent_or_lane i Pulled e ne q = inr (q.waits e).1
sent_or_lane i Idle e ne q = elim (q.idles e) [ inl l ↦ inl l | inr o ↦ inr o.1 ]
sent_or_lane i Finished e ne q = q.over_sent e
sent_or_lane i Cancelled e ne q = absurd (ne refl)

-- whether it is shut
shut_or_lane : (i : InPort) (x : InView) → i.view ≡ x → x ≢ Cancelled → InRests i → IsLane i.wire ⊎ (i.wire.shut ≡ input_closed x)
shut_or_lane i Pulled e ne q = inr (q.waits e).0.1
shut_or_lane i Idle e ne q = elim (q.idles e) [ inl l ↦ inl l | inr o ↦ inr o.0.1 ]
shut_or_lane i Finished e ne q = inr (q.shut (subst InClosed (sym e) tt))
shut_or_lane i Cancelled e ne q = absurd (ne refl)

-- where none is a lane, the wires of the inputs are those that the node shows, but for what may still come
abbrev AllShown : List InPort → Type 0
AllShown [] = Unit {0}
AllShown (i ∷ is) = ((i.wire.sent ≡ elements i.got) × (i.wire.shut ≡ input_closed i.view)) × AllShown is

all_shown : (is : List InPort) → EachPort InRests is → EachPort (λ i. i.view ≢ Cancelled) is → SomeWire IsLane (map (λ (i : InPort). i.wire) is) ⊎ AllShown is
all_shown [] q ne = inr tt
all_shown (i ∷ is) q ne = by (sent_or_lane i i.view refl ne.0 q.0) (shut_or_lane i i.view refl ne.0 q.0) (all_shown is q.1 ne.1)
  where
    by : IsLane i.wire ⊎ (i.wire.sent ≡ elements i.got) → IsLane i.wire ⊎ (i.wire.shut ≡ input_closed i.view) → SomeWire IsLane (map (λ (i : InPort). i.wire) is) ⊎ AllShown is → SomeWire IsLane (map (λ (i : InPort). i.wire) (i ∷ is)) ⊎ AllShown (i ∷ is)
    by (inl l) b c = inl (inl l)
    by (inr a) (inl l) c = inl (inl l)
    by (inr a) (inr b) (inl c) = inl (inr c)
    by (inr a) (inr b) (inr c) = inr ((a, b), c)

abbrev turn : ℕ → ℕ → Bool → InTurn
turn n left ended = record { port = n; left = left; ended = ended }

same_turns : (n : ℕ) (is : List InPort) → AllShown is → turns_from n (map own_in is) ≡ turns_from n (map (λ (i : InPort). i.wire) is)
same_turns n [] s = refl
same_turns n (i ∷ is) s =
    ap (λ (m : ℕ). turn n m (input_closed i.view) ∷ turns_from (n + 1) (map own_in is)) (sym s.0.0)
    ∙ (ap (λ (b : Bool). turn n i.wire.sent b ∷ turns_from (n + 1) (map own_in is)) (sym s.0.1)
    ∙ ap (λ (q : List InTurn). turn n i.wire.sent i.wire.shut ∷ q) (same_turns (n + 1) is s.1))

same_fuel : (is : List InPort) → AllShown is → total (λ v. v.sent + 1) (map own_in is) ≡ total (λ v. v.sent + 1) (map (λ (i : InPort). i.wire) is)
same_fuel [] s = refl
same_fuel (i ∷ is) s = let here = s.0.0 in let rest = same_fuel is s.1 in omega (arith, here, rest)

-- the turns stop where those of the node's own ports do
pub turns_stop_there : (segment : ℕ) (p : ℕ) (is : List InPort) → EachPort InRests is → EachPort (λ i. i.view ≢ Cancelled) is → turns_stop segment (map own_in is) ≡ Some p → SomeWire IsLane (map (λ (i : InPort). i.wire) is) ⊎ (turns_stop segment (map (λ (i : InPort). i.wire) is) ≡ Some p)
turns_stop_there segment p is q ne stops = elim (all_shown is q ne) [
  | inl l ↦ inl l
  | inr s ↦ inr (
      ap (λ (n : ℕ). stops_at segment n segment (turns_from 0 (map (λ (i : InPort). i.wire) is))) (sym (same_fuel is s))
      ∙ (ap (λ (t : List InTurn). stops_at segment (total (λ v. v.sent + 1) (map own_in is)) segment t) (sym (same_turns 0 is s)) ∙ stops)
      )
]

sorted_input : (i : InPort) → InRests i → (h : ℕ) → SortedInput (own_in i) h → SortedInput i.wire h
sorted_input i q h (inl w) = inl (waits i q w.0, w.1)
sorted_input i q h (inr (inl w)) =
    let one = w.2 in
    elim (q.idles (idle_is i.view w.0 w.1)) [ inl l ↦ inr (inr (inr l, omega (arith, one))) | inr e ↦ inr (inl (e.0.0, e.0.1, w.2)) ]
sorted_input i q h (inr (inr w)) = inr (inr (by w.0, w.1))
  where
    by : IsShut (own_in i) ⊎ IsLane (own_in i) → IsShut i.wire ⊎ IsLane i.wire
    by (inl s) = inl (shuts i q s)
    by (inr l) = absurd cc

module _ (i j : InPort) (o : OutPort) (r : EachPort InRests (i ∷ j ∷ [])) (ro : OutRests o) where
  pub sorted_rests : OutStands o → EachPort (λ i. i.view ≢ Cancelled) (i ∷ j ∷ []) → EachPort InStands (i ∷ j ∷ []) → SortedRests (own_in i ∷ own_in j ∷ []) (own_out o) → SortedRests (i.wire ∷ j.wire ∷ []) o.wire
  sorted_rests so ne s h =
      let came = s.0.came in
      let brought = s.1.0.came in
      let count = so.count in
      let few = h.1.4 in (
        sorted_stands (i ∷ j ∷ []) o r ro h.0,
        (h.1.0, h.1.1, sorted_input i r.0 h.1.0 h.1.2, sorted_input j r.1.0 h.1.1 h.1.3, omega (arith, came, brought, count, few), by h.1.5 (sent_or_lane i i.view refl ne.0 r.0) (sent_or_lane j j.view refl ne.1.0 r.1.0)),
      )
    where
      by : IsLane (own_in i) ⊎ IsLane (own_in j) ⊎ (elements i.got + elements j.got ≡ elements o.sent + (h.1.0 + h.1.1)) → IsLane i.wire ⊎ (i.wire.sent ≡ elements i.got) → IsLane j.wire ⊎ (j.wire.sent ≡ elements j.got)
          → IsLane i.wire ⊎ IsLane j.wire ⊎ (i.wire.sent + j.wire.sent ≡ o.wire.sent + (h.1.0 + h.1.1))
      by all (inl l) b = inl l
      by all (inr a) (inl l) = inr (inl l)
      by (inl l) (inr a) (inr b) = absurd cc
      by (inr (inl l)) (inr a) (inr b) = absurd cc
      by (inr (inr e)) (inr a) (inr b) = let count = so.count in inr (inr (omega (arith, e, a, b, count)))

module _ (i : InPort) (os : List OutPort) (s : InStands i) (r : InRests i) (ss : EachPort OutStands os) (ro : EachPort OutRests os) where
  open_asked : (o : OutPort) → OutStands o → OutRests o → IsShut (own_out o) ⊎ IsAsked (own_out o) → IsShut o.wire ⊎ IsAsked o.wire
  open_asked o t q (inl h) = inl (out_shuts o q h)
  open_asked o t q (inr h) = inr (asked o q h)

  copied : Waits (own_in i) → (o : OutPort) → OutStands o → OutRests o → IsShut (own_out o) ⊎ (elements o.sent ≡ elements i.got) → IsShut o.wire ⊎ (o.wire.sent ≡ i.wire.sent)
  copied w o t q (inl h) = inl (out_shuts o q h)
  copied w o t q (inr h) = inr (t.count ∙ (h ∙ sym (waits_sent i r w)))

  copied_some : Idles (own_in i) → (o : OutPort) → OutStands o → OutRests o → IsShut (own_out o) ⊎ ((elements o.sent ≤ elements i.got) × (IsLane (own_in i) ⊎ (elements o.sent ≡ elements i.got))) → IsShut o.wire ⊎ ((o.wire.sent ≤ i.wire.sent) × (IsLane i.wire ⊎ (o.wire.sent ≡ i.wire.sent)))
  copied_some w o t q (inl h) = inl (out_shuts o q h)
  copied_some w o t q (inr h) =
      let count = t.count in
      let few = h.0 in
      let came = s.came in
      inr (omega (arith, count, few, came), by h.1 (idle_sent i r w))
    where
      by : IsLane (own_in i) ⊎ (elements o.sent ≡ elements i.got) → IsLane i.wire ⊎ (i.wire.sent ≡ elements i.got) → IsLane i.wire ⊎ (o.wire.sent ≡ i.wire.sent)
      by a (inl l) = inl l
      by (inl l) (inr e) = absurd cc
      by (inr a) (inr e) = inr (t.count ∙ (a ∙ sym e))

  pub broadcast_rests : BroadcastRests (own_in i) (map own_out os) → BroadcastRests i.wire (map (λ (o : OutPort). o.wire) os)
  broadcast_rests (inl h) = inl (each_out (λ o. IsShut o ⊎ IsAsked o) (λ o. IsShut o ⊎ IsAsked o) open_asked os ss ro h.0, waits i r h.1, each_out (λ o. IsShut o ⊎ (o.sent ≡ elements i.got)) (λ o. IsShut o ⊎ (o.sent ≡ i.wire.sent)) (copied h.1) os ss ro h.2)
  broadcast_rests (inr h) =
      inr (
        some_out IsUnasked IsUnasked unasked os ro h.0,
        idles i r h.1,
        each_out (λ o. IsShut o ⊎ ((o.sent ≤ elements i.got) × (IsLane (own_in i) ⊎ (o.sent ≡ elements i.got)))) (λ o. IsShut o ⊎ ((o.sent ≤ i.wire.sent) × (IsLane i.wire ⊎ (o.sent ≡ i.wire.sent)))) (copied_some h.1) os ss ro h.2,
      )

  pub partition_rests : DealsRest (own_in i) (map own_out os) → DealsRest i.wire (map (λ (o : OutPort). o.wire) os)
  partition_rests (inl h) = inl (waits i r h)
  partition_rests (inr h) = inr (some_out IsUnasked IsUnasked unasked os ro h.0, quiet i r h.1)

  shut_or_unasked : (o : OutPort) → OutStands o → OutRests o → IsShut (own_out o) ⊎ IsUnasked (own_out o) → IsShut o.wire ⊎ IsUnasked o.wire
  shut_or_unasked o t q (inl h) = inl (out_shuts o q h)
  shut_or_unasked o t q (inr h) = inr (unasked o q h)

  pub balance_rests : BalanceRests (own_in i) (map own_out os) → BalanceRests i.wire (map (λ (o : OutPort). o.wire) os)
  balance_rests (inl h) = inl (some_out IsAsked IsAsked asked os ro h.0, waits i r h.1)
  balance_rests (inr h) =
      inr (
        some_out IsUnasked IsUnasked unasked os ro h.0,
        each_out (λ o. IsShut o ⊎ IsUnasked o) (λ o. IsShut o ⊎ IsUnasked o) shut_or_unasked os ss ro h.1,
        any i r h.2,
      )

  output_unasked : (j : ℕ) (ps : List OutPort) → EachPort OutRests ps → OutputUnasked j (map own_out ps) → OutputUnasked j (map (λ (o : OutPort). o.wire) ps)
  output_unasked j [] q h = λ v at. let no : None ≡ Some v = at in absurd cc
  output_unasked zero (o ∷ ps) q h = λ v at. let same : o.wire ≡ v = cc in subst IsUnasked same (unasked o q.0 (h (own_out o) refl))
  output_unasked (suc j) (o ∷ ps) q h = λ v at. output_unasked j ps q.1 (λ u there. h u there) v at

  -- the same of one that may follow moves, by what its next move is to be
  pub balance_rests_by : (next : Next) → BalanceRestsBy next (own_in i) (map own_out os) → BalanceRestsBy next i.wire (map (λ (o : OutPort). o.wire) os)
  balance_rests_by Free h = balance_rests h
  balance_rests_by (Move j) (inl h) = inl (waits i r h)
  balance_rests_by (Move j) (inr h) = inr (output_unasked j os ro h)
  balance_rests_by UsedUp h = tt
