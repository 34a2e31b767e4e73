-- The rows of a lawful picture of the stages that take their inputs in an order, by the moments of their asks.
use Rattle.std.specs.Prelude.{slice_get, slice_index_or, if◌then◌else◌, ◌==◌, ⊤}
use Rattle.std.proofs.Common.{◌≡◌, ◌≢◌, ℕ, zero, suc, ◌+◌, ◌-◌, ◌<◌, ◌≤◌, ◌⊎◌, inl, inr, Bool, true, false, List, [], ◌∷◌, map, length, take, Some, refl, sym, ap, subst, ◌∙◌, arith}
use Rattle.elem_core.specs.Prefix.{IsPrefix}
use Rattle.elem_core.specs.Tree.{Tree}
use Rattle.elem_core.specs.Items.{elements}
use Rattle.elem_core.specs.declared.item.Item.{Item}
use Rattle.port_core.specs.declared.view.InView.{InView}
use Rattle.port_core.specs.declared.view.InView.TheVariants.{Idle, Pulled, Finished, Cancelled}
use Rattle.stream_model.specs.Outlook.{End, unended, ended}
use Rattle.stream_model.specs.FanIn.{Tagged, Inflow}
use Rattle.stream_model.specs.View as picture
use Rattle.stream_model.specs.View.{demand, total, wanted, size_of}
use Rattle.stream_model.specs.Lawful.{sent_in, ConcatInputs, taken_or_wanted}
use Rattle.stream_model.specs.Rests.{IsShut}
use Rattle.stage_core.specs.Fans.{UsesInputs}
use Rattle.stage_core.specs.Held.{told}
use Rattle.stage_core.specs.Law.{TookAs}
use Rattle.stage_core.specs.Seats.{end_by}
use Rattle.stage_in.specs.Seats.{seat, seats, none_of}
use Rattle.stage_in.specs.Takings.{OverBetween}
use Rattle.stage_core.proofs.Flags.{other}
use Rattle.stage_in.proofs.Seats.{marked_before}
use Rattle.fused_net.proofs.Reading.{same_or_not}
use Rattle.run_laws.specs.Account.{AllBegin, WantedAt}
use Rattle.run_laws.specs.Ports.{InPort, EachPort, InStands, gots_of}
use Rattle.run_laws.proofs.Flows.{Flows, all_elements, some_elements, flow_count, ended_over, over_ended, done_same}
use Rattle.run_laws.proofs.Counting.{used_all, used_few}

abbrev pub Views : List InPort → List InView
Views is = map (λ (i : InPort). i.view) is

abbrev pub Wants : List InPort → List ℕ
Wants is = map (λ (i : InPort). i.want) is

abbrev pub Wires : List InPort → List picture.SeenWire
Wires is = map (λ (i : InPort). i.wire) is

-- ---- where nothing waits, all that came was used

uses_sum : (n : ℕ) (g : List Tagged) (over : List Bool) (xs : List InView) (hs : List (List Item)) (fs : List Inflow) → UsesInputs n g (none_of over) fs → Flows xs hs fs → all_elements hs ≡ used_all n (length hs) g
uses_sum n g [] [] [] [] u f = refl
uses_sum n g (b ∷ over) (x ∷ xs) (h ∷ hs) (w ∷ fs) u f =
    let here = flow_count w f.0.0 in
    let used_up = u.0.0 in
    let rest = uses_sum (n + 1) g over xs hs fs u.1 f.1 in
    omega (arith, here, used_up, rest)
uses_sum n g [] (x ∷ xs) [] [] u f = absurd f
uses_sum n g [] (x ∷ xs) (h ∷ hs) [] u f = absurd f
uses_sum n g [] [] (h ∷ hs) [] u f = absurd f
uses_sum n g [] xs hs (w ∷ fs) u f = absurd u
uses_sum n g (b ∷ over) xs hs [] u f = absurd u
uses_sum n g (b ∷ over) [] [] (w ∷ fs) u f = absurd f
uses_sum n g (b ∷ over) [] (h ∷ hs) (w ∷ fs) u f = absurd f
uses_sum n g (b ∷ over) (x ∷ xs) [] (w ∷ fs) u f = absurd f

pub used_up : (g : List Tagged) (over : List Bool) (xs : List InView) (hs : List (List Item)) (fs : List Inflow) → UsesInputs 0 g (none_of over) fs → Flows xs hs fs → all_elements hs ≤ length g
used_up g over xs hs fs u f = let a = uses_sum 0 g over xs hs fs u f in let b = used_few 0 (length hs) g in omega (arith, a, b)

-- ---- one after another

-- the first p inputs are shut
abbrev pub FirstShut : ℕ → List picture.SeenWire → Type 0
FirstShut zero is = ⊤
FirstShut (suc p) [] = ⊤
FirstShut (suc p) (i ∷ is) = IsShut i × FirstShut p is

-- of an input that is asked the ones before it are shut, and all that they gave and what it is asked for is wanted
abbrev AskedAt : ℕ → ℕ → List picture.SeenWire → Type 0
AskedAt given most is = (p : ℕ) (i : picture.SeenWire) → slice_get is p ≡ Some i → 1 ≤ demand i → FirstShut p is × (demand i + (given + sent_in (take p is)) ≤ most)

no_asks : (earlier : Type 0) (given most : ℕ) (is : List picture.SeenWire) → ((p : ℕ) (i : picture.SeenWire) → slice_get is p ≡ Some i → 1 ≤ demand i → ⊥) → ConcatInputs earlier given most is
no_asks earlier given most [] n = tt
no_asks earlier given most (i ∷ is) n = (λ some. absurd (n 0 i refl some), no_asks (earlier × IsShut i) (given + i.sent) most is (λ p j at some. n (suc p) j at some))

pub concat_inputs : (earlier : Type 0) → earlier → (given most : ℕ) (is : List picture.SeenWire) → AskedAt given most is → ConcatInputs earlier given most is
concat_inputs earlier e given most [] a = tt
concat_inputs earlier e given most (i ∷ is) a =
    (λ some. let r = (a 0 i refl some).1 in (e, omega (arith, r)), by i.shut refl (λ s. concat_inputs (earlier × IsShut i) (e, s) (given + i.sent) most is (λ p j at some. let r = a (suc p) j at some in let l = r.1 in (r.0.1, omega (arith, l)))))
  where
    by : (b : Bool) → i.shut ≡ b → (IsShut i → ConcatInputs (earlier × IsShut i) (given + i.sent) most is) → ConcatInputs (earlier × IsShut i) (given + i.sent) most is
    by true s later = later s
    by false s later = no_asks (earlier × IsShut i) (given + i.sent) most is (λ p j at some. let t : i.shut ≡ true = (a (suc p) j at some).0.0 in let f : true ≡ false = sym t ∙ s in cc)

-- an input by its wire
record PortAt (is : List InPort) (p : ℕ) (v : picture.SeenWire) : Type 0 where
  port : InPort
  wire : port.wire ≡ v
  stands : InStands port
  want : slice_index_or (Wants is) p 0 ≡ port.want

port_at : (is : List InPort) (p : ℕ) (v : picture.SeenWire) → EachPort InStands is → slice_get (Wires is) p ≡ Some v → PortAt is p v
port_at [] p v s e = cc
port_at (i ∷ is) zero v s e = let same : i.wire ≡ v = cc in record { port = i; wire = same; stands = s.0; want = refl }
port_at (i ∷ is) (suc p) v s e = let r = port_at is p v s.1 e in record { port = r.port; wire = r.wire; stands = r.stands; want = r.want }

-- the inputs that had ended are shut, and all that was sent to them had come
ended_before : (p n : ℕ) (g : List Tagged) (over : List Bool) (is : List InPort) (now : List Inflow) (xs : List InView) (hs : List (List Item)) (fs : List Inflow) → EachPort InStands is → Flows (Views is) (gots_of is) now → AllBegin hs (gots_of is)
    → Flows xs hs fs → UsesInputs n g (none_of over) fs → ((k : ℕ) → k < p → slice_get over k ≡ Some true) → FirstShut p (Wires is) × (sent_in (take p (Wires is)) ≤ all_elements (take p hs))
ended_before zero n g over is now xs hs fs s w b f u o = (tt, omega arith)
ended_before (suc p) n g over [] now xs hs fs s w b f u o = (tt, omega arith)
ended_before (suc p) n g (t ∷ over) (i ∷ is) (y ∷ now) (x ∷ xs) (h ∷ hs) (k ∷ fs) s w b f u o =
    let flag : Some t ≡ Some true = o 0 (omega arith) in
    let is_true : t ≡ true = cc in
    let end : k.end ≡ ended = sym u.0.1 ∙ ap end_by is_true in
    let not_open : k.end ≢ unended = λ e. let z : ended ≡ unended = sym end ∙ e in cc in
    let done = done_same k y h i.got f.0.0 w.0.0 b.0 not_open in
    let got : i.got ≡ told k.list ended = w.0.0 ∙ (ap (λ (l : List Tree). told l y.end) done.0 ∙ ap (λ (e : End). told k.list e) (done.1 ∙ end)) in
    let sent = s.0.ended_all k.list got in
    let count = flow_count k f.0.0 in
    let now_open : y.end ≢ unended = λ e. not_open (sym done.1 ∙ e) in
    let shut = s.0.over (ended_over i.view y.end w.0.1 now_open) in
    let rest = ended_before p (n + 1) g over is now xs hs fs s.1 w.1 b.1 f.1 u.1 (λ j l. o (suc j) (omega (arith, l))) in
    let more = rest.1 in
    ((shut, rest.0), omega (arith, sent, count, more))
ended_before (suc p) n g over (i ∷ is) [] xs hs fs s w b f u o = absurd w
ended_before (suc p) n g over (i ∷ is) (y ∷ now) xs [] fs s w b f u o = absurd b
ended_before (suc p) n g over (i ∷ is) (y ∷ now) [] (h ∷ hs) fs s w b f u o = absurd f
ended_before (suc p) n g over (i ∷ is) (y ∷ now) (x ∷ xs) (h ∷ hs) [] s w b f u o = absurd f
ended_before (suc p) n g [] (i ∷ is) (y ∷ now) (x ∷ xs) (h ∷ hs) (k ∷ fs) s w b f u o = absurd u

module _ (is : List InPort) (now : List Inflow) (stands : EachPort InStands is) (came : Flows (Views is) (gots_of is) now) where
  -- as input p asked, which was the only one that was asked, and all before it had ended
  pub concat_asked : (p : ℕ) (g : List Tagged) (over : List Bool) (xs : List InView) (hs : List (List Item)) (fs : List Inflow) (most : ℕ) → AllBegin hs (gots_of is) → Flows xs hs fs → UsesInputs 0 g (none_of over) fs → OverBetween over 0 p
      → slice_index_or (Wants is) p 0 ≡ elements (slice_index_or hs p []) + 1 → length g + 1 ≤ most → (v : picture.SeenWire) → slice_get (Wires is) p ≡ Some v → FirstShut p (Wires is) × (demand v + (0 + sent_in (take p (Wires is))) ≤ most)
  concat_asked p g over xs hs fs most begins f u o one enough v at =
      let i = port_at is p v stands at in
      let before = ended_before p 0 g over is now xs hs fs stands came begins f u (λ k l. o k (omega arith) l) in
      let sent = before.1 in
      let reach : demand v ≤ i.port.want = subst (λ (y : picture.SeenWire). demand y ≤ i.port.want) i.wire i.stands.reach in
      let want = i.want in
      let part = some_elements p hs in
      let all = used_up g over xs hs fs u f in
      (before.0, omega (arith, sent, reach, want, one, part, all, enough))

-- ---- in turn

-- how many inputs wait
abbrev pub waiting_count : List InView → ℕ
waiting_count [] = 0
waiting_count (Pulled ∷ xs) = suc (waiting_count xs)
waiting_count (Idle ∷ xs) = waiting_count xs
waiting_count (Finished ∷ xs) = waiting_count xs
waiting_count (Cancelled ∷ xs) = waiting_count xs

seat_quiet : (b x : Bool) (xs : List InView) → waiting_count (seat b x false ∷ xs) ≡ waiting_count xs
seat_quiet true x xs = refl
seat_quiet false true xs = refl
seat_quiet false false xs = refl

none_waits : (n c : ℕ) (over : List Bool) → waiting_count (seats n over c false) ≡ 0
none_waits n c [] = refl
none_waits n c (b ∷ over) = seat_quiet b (n == c) (seats (n + 1) over c false) ∙ none_waits (n + 1) c over

seat_one : (b x : Bool) (xs : List InView) → waiting_count (seat b x true ∷ xs) ≤ waiting_count xs + 1
seat_one true x xs = omega arith
seat_one false true xs = omega arith
seat_one false false xs = omega arith

seat_other : (b : Bool) (xs : List InView) → waiting_count (seat b false true ∷ xs) ≡ waiting_count xs
seat_other true xs = refl
seat_other false xs = refl

-- no more than one does
pub one_waits : (n c : ℕ) (over : List Bool) → waiting_count (seats n over c true) ≤ 1
one_waits n c [] = omega arith
one_waits n c (b ∷ over) = elim (same_or_not n c) [
  | inl e ↦
      let here = seat_one b (n == c) (seats (n + 1) over c true) in
      let quiet : seats (n + 1) over c true ≡ seats (n + 1) over 0 false = marked_before (n + 1) c 0 over true (omega (arith, e)) in
      let none = ap waiting_count quiet ∙ none_waits (n + 1) 0 over in
      omega (arith, here, none)
  | inr e ↦
      let here : waiting_count (seat b (n == c) true ∷ seats (n + 1) over c true) ≡ waiting_count (seats (n + 1) over c true) = rw (other n c e) (seat_other b (seats (n + 1) over c true)) in
      let rest = one_waits (n + 1) c over in
      omega (arith, here, rest)
]

few_wanted : (shut asked : Bool) (sent s : ℕ) → (if shut then sent else (if asked then sent + 1 else sent)) - s ≤ (if asked then sent + 1 else sent) - s
few_wanted true true sent s = omega arith
few_wanted true false sent s = omega arith
few_wanted false asked sent s = omega arith

shut_sent : (shut : Bool) (w sent s : ℕ) → shut ≡ true → (if shut then sent else w) - s ≤ sent - s
shut_sent true w sent s e = omega arith
shut_sent false w sent s e = cc

pub taken_demand : (v : picture.SeenWire) → taken_or_wanted v ≤ demand v
taken_demand v = few_wanted v.shut v.asked v.sent (size_of v)

-- an input at a moment from which it was not asked again
turn_port : (i : InPort) (x : InView) (h : List Item) (f y : Inflow) (xs : List InView) → InStands i → (i.got ≡ told y.list y.end) × TookAs i.view y.end → IsPrefix h i.got → (h ≡ told f.list f.end) × TookAs x f.end → x ≢ Cancelled → WantedAt x i.want (elements h)
    → taken_or_wanted i.wire + waiting_count xs ≤ elements h + waiting_count (x ∷ xs)
turn_port i Pulled h f y xs s w b k l st = let most = taken_demand i.wire in let reach = s.reach in omega (arith, most, reach, st)
turn_port i Idle h f y xs s w b k l st = let most = taken_demand i.wire in let reach = s.reach in omega (arith, most, reach, st)
turn_port i Cancelled h f y xs s w b k l st = absurd (l refl)
turn_port i Finished h f y xs s w b k l st =
    let not_open = over_ended Finished f.end k.1 refl in
    let done = done_same f y h i.got k.0 w.0 b not_open in
    let now_open : y.end ≢ unended = λ e. not_open (sym done.1 ∙ e) in
    let shut = s.over (ended_over i.view y.end w.1 now_open) in
    let few = s.ended_few y.list y.end w.0 now_open in
    let same = ap (λ (l : List Tree). length l) done.0 in
    let count = flow_count f k.0 in
    let cut = shut_sent i.wire.shut (wanted i.wire) i.wire.sent (size_of i.wire) shut in
    omega (arith, few, same, count, cut)

-- all of them
pub turn_ports : (is : List InPort) (now : List Inflow) (xs : List InView) (hs : List (List Item)) (fs : List Inflow) → EachPort InStands is → Flows (Views is) (gots_of is) now → AllBegin hs (gots_of is) → Flows xs hs fs → ((n : ℕ) → n < length xs → slice_index_or xs n Cancelled ≢ Cancelled)
    → ((n : ℕ) → WantedAt (slice_index_or xs n Cancelled) (slice_index_or (Wants is) n 0) (elements (slice_index_or hs n []))) → total taken_or_wanted (Wires is) ≤ all_elements hs + waiting_count xs
turn_ports [] now xs hs fs s w b f l st = omega arith
turn_ports (i ∷ is) (y ∷ now) (x ∷ xs) (h ∷ hs) (k ∷ fs) s w b f l st =
    let here = turn_port i x h k y xs s.0 w.0 b.0 f.0 (l 0 (omega arith)) (st 0) in
    let rest = turn_ports is now xs hs fs s.1 w.1 b.1 f.1 (λ n m. l (suc n) (omega (arith, m))) (λ n. st (suc n)) in
    omega (arith, here, rest)
turn_ports (i ∷ is) [] xs hs fs s w b f l st = absurd w
turn_ports (i ∷ is) (y ∷ now) xs [] fs s w b f l st = absurd b
turn_ports (i ∷ is) (y ∷ now) [] (h ∷ hs) fs s w b f l st = absurd f
turn_ports (i ∷ is) (y ∷ now) (x ∷ xs) (h ∷ hs) [] s w b f l st = absurd f

-- where no input was ever asked, none is wanted
pub never_asked : (is : List InPort) → EachPort InStands is → ((p : ℕ) → 1 ≤ slice_index_or (Wants is) p 0 → ⊥) → total taken_or_wanted (Wires is) ≡ 0
never_asked [] s n = refl
never_asked (i ∷ is) s n =
    let most = taken_demand i.wire in
    let reach = s.0.reach in
    let none : i.want ≡ 0 = not_some i.want (n 0) in
    let rest = never_asked is s.1 (λ p some. n (suc p) some) in
    omega (arith, most, reach, none, rest)
  where
    not_some : (k : ℕ) → (1 ≤ k → ⊥) → k ≡ 0
    not_some zero n = refl
    not_some (suc k) n = absurd (n (omega arith))

-- some input was asked, or none
pub asked_or_not : (ws : List ℕ) → ((p : ℕ) × (1 ≤ slice_index_or ws p 0)) ⊎ ((p : ℕ) → 1 ≤ slice_index_or ws p 0 → ⊥)
asked_or_not [] = inr (λ p some. absurd (omega (arith, some)))
asked_or_not (zero ∷ ws) = elim (asked_or_not ws) [ inl r ↦ inl (suc r.0, r.1) | inr n ↦ inr (none ws n) ]
  where
    none : (ws : List ℕ) → ((p : ℕ) → 1 ≤ slice_index_or ws p 0 → ⊥) → (p : ℕ) → 1 ≤ slice_index_or (0 ∷ ws) p 0 → ⊥
    none ws n zero some = absurd (omega (arith, some))
    none ws n (suc p) some = n p some
asked_or_not (suc k ∷ ws) = inl (0, omega arith)

-- an input of which more is wanted than a lane asks by itself was asked
pub wants_some : (is : List InPort) (p : ℕ) (v : picture.SeenWire) → EachPort InStands is → slice_get (Wires is) p ≡ Some v → 1 ≤ demand v → 1 ≤ slice_index_or (Wants is) p 0
wants_some is p v s e some =
    let i = port_at is p v s e in
    let reach : demand v ≤ i.port.want = subst (λ (y : picture.SeenWire). demand y ≤ i.port.want) i.wire i.stands.reach in
    let want = i.want in
    omega (arith, reach, want, some)
