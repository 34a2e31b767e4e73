-- How many actions asks have.
use Rattle.std.specs.Prelude.{slice_get, slice_set, slice_index_or, map, ◌||◌, not, if◌then◌else◌}
use Rattle.std.proofs.Common.{◌≡◌, ℕ, zero, suc, ◌+◌, ◌≤◌, Bool, true, false, List, [], ◌∷◌, ◌++◌, length, Option, None, Some, refl, sym, ap, ◌∙◌, subst, arith, append_assoc, length-append, length-set}
use Rattle.std.proofs.lemmas.List.{length-map}
use Rattle.elem_core.specs.Sort.{Sort}
use Rattle.elem_core.specs.Tree.{Tree}
use Rattle.elem_core.specs.declared.why.Cause.{Cause}
use Rattle.port_core.specs.declared.act.Act.{Act}
use Rattle.port_core.specs.declared.act.Act.TheVariants as act
use Rattle.graph_stage.specs.declared.ask.Ask.{Ask}
use Rattle.graph_stage.specs.declared.ask.Ask.TheVariants.{Pull, Push, Complete, Cancel, Finish, Fail, Pass}
use Rattle.graph_stage.specs.declared.occasion.Occasion.{Occasion}
use Rattle.graph_stage.specs.declared.sight.InSight.{InSight}
use Rattle.graph_stage.specs.declared.sight.OutSight.{OutSight}
use Rattle.graph_stage.specs.OwnView.{Seen, no_input, no_output, with_input, with_output, closed_in, closed_out, all_closed, end_act, outs_ended, ins_cancelled, ports_ended, refused, pull_code, type_code, push_code, port_code, forbidden, acts_of, sees_behind, own_cause, illegal_cause, Outcome, preceded_by, fails_by, by_code, carried_out}
use Rattle.graph_stage.specs.Room.{most_acts, acts_to_come_in, acts_to_come_out, acts_to_come_ins, acts_to_come_outs, acts_to_come, FewPorts, Steps}

-- ---- all ports are closed

one_out : (c a : Bool) (x : Act) (xs : List Act) (m : ℕ) → length xs ≤ m → length (if c then xs else x ∷ xs) ≤ (if c then 0 else (if a then 2 else 1)) + m
one_out true a x xs m h = omega (arith, h)
one_out false true x xs m h = omega (arith, h)
one_out false false x xs m h = omega (arith, h)

one_in : (c a : Bool) (x : Act) (xs : List Act) (m : ℕ) → length xs ≤ m → length (if c then xs else x ∷ xs) ≤ (if c then 0 else (if a then 1 else 2)) + m
one_in true a x xs m h = omega (arith, h)
one_in false true x xs m h = omega (arith, h)
one_in false false x xs m h = omega (arith, h)

outs_room : (end : Option Cause) (n : ℕ) (ys : List OutSight) → length (outs_ended end n ys) ≤ acts_to_come_outs ys
outs_room end n [] = omega arith
outs_room end n (y ∷ ys) = one_out y.closed y.asked (end_act end n) (outs_ended end (n + 1) ys) (acts_to_come_outs ys) (outs_room end (n + 1) ys)

ins_room : (n : ℕ) (xs : List InSight) → length (ins_cancelled n xs) ≤ acts_to_come_ins xs
ins_room n [] = omega arith
ins_room n (x ∷ xs) = one_in x.closed x.asked (act.Cancel n) (ins_cancelled (n + 1) xs) (acts_to_come_ins xs) (ins_room (n + 1) xs)

pub all_room : (end : Option Cause) (s : Seen) → length (ports_ended end s) ≤ acts_to_come s
all_room end s =
    let a = outs_room end 0 s.outs in
    let b = ins_room 0 s.ins in
    let c = length-append (outs_ended end 0 s.outs) (ins_cancelled 0 s.ins) in
    omega (arith, a, b, c)

none_left_in : (xs : List InSight) → acts_to_come_ins (map closed_in xs) ≡ 0
none_left_in [] = refl
none_left_in (x ∷ xs) = let r = none_left_in xs in omega (arith, r)

none_left_out : (ys : List OutSight) → acts_to_come_outs (map closed_out ys) ≡ 0
none_left_out [] = refl
none_left_out (y ∷ ys) = let r = none_left_out ys in omega (arith, r)

ended_room : (end : Option Cause) (s : Seen) → length (ports_ended end s) + acts_to_come (all_closed s) ≤ acts_to_come s
ended_room end s = let a = all_room end s in let b = none_left_in s.ins in let c = none_left_out s.outs in omega (arith, a, b, c)

-- ---- one port

set_in : (xs : List InSight) (i : ℕ) (x y : InSight) → slice_get xs i ≡ Some x → acts_to_come_ins (slice_set xs i y) + acts_to_come_in x ≡ acts_to_come_ins xs + acts_to_come_in y
set_in [] i x y e = cc
set_in (z ∷ xs) zero x y e = let same : z ≡ x = cc in rw same (omega arith)
set_in (z ∷ xs) (suc i) x y e = let r = set_in xs i x y e in omega (arith, r)

set_out : (ys : List OutSight) (j : ℕ) (y z : OutSight) → slice_get ys j ≡ Some y → acts_to_come_outs (slice_set ys j z) + acts_to_come_out y ≡ acts_to_come_outs ys + acts_to_come_out z
set_out [] j y z e = cc
set_out (w ∷ ys) zero y z e = let same : w ≡ y = cc in rw same (omega arith)
set_out (w ∷ ys) (suc j) y z e = let r = set_out ys j y z e in omega (arith, r)

pub at_in : (xs : List InSight) (i : ℕ) (x : InSight) → slice_get xs i ≡ Some x → slice_index_or xs i no_input ≡ x
at_in [] i x e = cc
at_in (z ∷ xs) zero x e = cc
at_in (z ∷ xs) (suc i) x e = at_in xs i x e

pub at_out : (ys : List OutSight) (j : ℕ) (y : OutSight) → slice_get ys j ≡ Some y → slice_index_or ys j no_output ≡ y
at_out [] j y e = cc
at_out (z ∷ ys) zero y e = cc
at_out (z ∷ ys) (suc j) y e = at_out ys j y e

-- what is known of a port where an ask there is not forbidden
pub not_refused : (code : ℕ) (b : Bool) (rest : Option ℕ) → refused code b rest ≡ None → (b ≡ false) × (rest ≡ None)
not_refused code true rest e = cc
not_refused code false rest e = (refl, e)

pub neither : (a c : Bool) → (a || c) ≡ false → (a ≡ false) × (c ≡ false)
neither false false h = (refl, refl)
neither true c h = cc
neither false true h = cc

pub not_false : (a : Bool) → not a ≡ false → a ≡ true
not_false true h = refl
not_false false h = cc

pub record MayPull (xs : List InSight) (i : ℕ) : Type 0 where
  pub is : InSight
  pub at : slice_get xs i ≡ Some is
  pub not_begun : is.asked ≡ false
  pub unclosed : is.closed ≡ false

pub may_pull : (xs : List InSight) (i : ℕ) (x : Option InSight) → slice_get xs i ≡ x → pull_code x ≡ None → MayPull xs i
may_pull xs i None at e = cc
may_pull xs i (Some x) at e =
    let k = neither x.asked x.closed (not_refused 1 (x.asked || x.closed) None e).0 in
    record { is = x; at = at; not_begun = k.0; unclosed = k.1 }

pub record MayPush (ys : List OutSight) (j : ℕ) : Type 0 where
  pub is : OutSight
  pub at : slice_get ys j ≡ Some is
  pub asked : is.asked ≡ true
  pub unclosed : is.closed ≡ false

pub may_push : (ys : List OutSight) (j : ℕ) (y : Option OutSight) (t : Option Sort) (e : Tree) → slice_get ys j ≡ y → push_code y t e ≡ None → MayPush ys j
may_push ys j None t e at h = cc
may_push ys j (Some y) t e at h =
    let k = neither (not y.asked) y.closed (not_refused 2 (not y.asked || y.closed) (type_code t e) h).0 in
    record { is = y; at = at; asked = not_false y.asked k.0; unclosed = k.1 }

pub record Has {A : Type 0} (xs : List A) (i : ℕ) : Type 0 where
  pub is : A
  pub at : slice_get xs i ≡ Some is

pub may_close : {A : Type 0} (xs : List A) (i : ℕ) (x : Option A) → slice_get xs i ≡ x → port_code x ≡ None → Has xs i
may_close xs i None at e = cc
may_close xs i (Some x) at e = record { is = x; at = at }

-- ---- one ask

-- what a port has left, by its marks
in_by : (x : InSight) (a c : Bool) → x.asked ≡ a → x.closed ≡ c → acts_to_come_in x ≡ (if c then 0 else (if a then 1 else 2))
in_by x a c ea ec = rw (ec, ea) refl

out_by : (y : OutSight) (a c : Bool) → y.asked ≡ a → y.closed ≡ c → acts_to_come_out y ≡ (if c then 0 else (if a then 2 else 1))
out_by y a c ea ec = rw (ec, ea) refl

pull_room : (s : Seen) (i : ℕ) → MayPull s.ins i → 1 + acts_to_come (sees_behind s (Pull i)) ≤ acts_to_come s
pull_room s i m =
    let same = at_in s.ins i m.is m.at in
    let r = set_in s.ins i m.is (record m.is { asked = true }) m.at in
    let old = in_by m.is false false m.not_begun m.unclosed in
    let new = in_by (record m.is { asked = true }) true false refl m.unclosed in
    rw same (omega (arith, r, old, new))

push_room : (s : Seen) (j : ℕ) (e : Tree) → MayPush s.outs j → 1 + acts_to_come (sees_behind s (Push j e)) ≤ acts_to_come s
push_room s j e m =
    let same = at_out s.outs j m.is m.at in
    let r = set_out s.outs j m.is (record m.is { asked = false }) m.at in
    let old = out_by m.is true false m.asked m.unclosed in
    let new = out_by (record m.is { asked = false }) false false refl m.unclosed in
    rw same (omega (arith, r, old, new))

one_act : (c : Bool) (x : Act) (n : ℕ) → (c ≡ false → 1 ≤ n) → length (if c then [] else x ∷ []) ≤ n
one_act true x n h = omega arith
one_act false x n h = let k = h refl in omega (arith, k)

some_left_in : (x : InSight) (a : Bool) → x.asked ≡ a → x.closed ≡ false → 1 ≤ acts_to_come_in x
some_left_in x true ea ec = rw (ec, ea) (omega arith)
some_left_in x false ea ec = rw (ec, ea) (omega arith)

some_left_out : (y : OutSight) (a : Bool) → y.asked ≡ a → y.closed ≡ false → 1 ≤ acts_to_come_out y
some_left_out y true ea ec = rw (ec, ea) (omega arith)
some_left_out y false ea ec = rw (ec, ea) (omega arith)

cancel_room : (o : Occasion) (s : Seen) (i : ℕ) → Has s.ins i → length (acts_of o s (Cancel i)) + acts_to_come (sees_behind s (Cancel i)) ≤ acts_to_come s
cancel_room o s i m =
    let same = at_in s.ins i m.is m.at in
    let r = set_in s.ins i m.is (closed_in m.is) m.at in
    let acts : length (acts_of o s (Cancel i)) ≤ acts_to_come_in m.is =
    subst (λ (x : InSight). length (if x.closed then [] else act.Cancel i ∷ []) ≤ acts_to_come_in m.is) (sym same) (one_act m.is.closed (act.Cancel i) (acts_to_come_in m.is) (λ e. some_left_in m.is m.is.asked refl e)) in
    let rest : acts_to_come_ins (slice_set s.ins i (closed_in (slice_index_or s.ins i no_input))) + acts_to_come_in m.is ≡ acts_to_come_ins s.ins =
    subst (λ (x : InSight). acts_to_come_ins (slice_set s.ins i (closed_in x)) + acts_to_come_in m.is ≡ acts_to_come_ins s.ins) (sym same) (omega (arith, r)) in
    omega (arith, rest, acts)

complete_room : (o : Occasion) (s : Seen) (j : ℕ) → Has s.outs j → length (acts_of o s (Complete j)) + acts_to_come (sees_behind s (Complete j)) ≤ acts_to_come s
complete_room o s j m =
    let same = at_out s.outs j m.is m.at in
    let r = set_out s.outs j m.is (closed_out m.is) m.at in
    let acts : length (acts_of o s (Complete j)) ≤ acts_to_come_out m.is =
    subst (λ (y : OutSight). length (if y.closed then [] else act.Complete j ∷ []) ≤ acts_to_come_out m.is) (sym same) (one_act m.is.closed (act.Complete j) (acts_to_come_out m.is) (λ e. some_left_out m.is m.is.asked refl e)) in
    let rest : acts_to_come_outs (slice_set s.outs j (closed_out (slice_index_or s.outs j no_output))) + acts_to_come_out m.is ≡ acts_to_come_outs s.outs =
    subst (λ (y : OutSight). acts_to_come_outs (slice_set s.outs j (closed_out y)) + acts_to_come_out m.is ≡ acts_to_come_outs s.outs) (sym same) (omega (arith, r)) in
    omega (arith, rest, acts)

pub ask_left : (types : List Sort) (o : Occasion) (s : Seen) (a : Ask) → forbidden types o s a ≡ None → length (acts_of o s a) + acts_to_come (sees_behind s a) ≤ acts_to_come s
ask_left types o s (Pull i) h = pull_room s i (may_pull s.ins i (slice_get s.ins i) refl h)
ask_left types o s (Push j e) h = push_room s j e (may_push s.outs j (slice_get s.outs j) (slice_get types j) e refl h)
ask_left types o s (Complete j) h = complete_room o s j (may_close s.outs j (slice_get s.outs j) refl h)
ask_left types o s (Cancel i) h = cancel_room o s i (may_close s.ins i (slice_get s.ins i) refl h)
ask_left types o s Finish h = ended_room None s
ask_left types o s (Fail n) h = ended_room (Some (own_cause o n)) s
ask_left types o s Pass h = ended_room o.failure s

pub ask_room : (types : List Sort) (o : Occasion) (s : Seen) (a : Ask) → forbidden types o s a ≡ None → length (acts_of o s a) ≤ acts_to_come s
ask_room types o s a h = let r = ask_left types o s a h in omega (arith, r)

-- ---- there stay as many ports

pub few_then : (s : Seen) (a : Ask) → FewPorts s → FewPorts (sees_behind s a)
few_then s (Pull i) f = record { ins = rw length-set f.ins; outs = f.outs }
few_then s (Push j e) f = record { ins = f.ins; outs = rw length-set f.outs }
few_then s (Complete j) f = record { ins = f.ins; outs = rw length-set f.outs }
few_then s (Cancel i) f = record { ins = rw length-set f.ins; outs = f.outs }
few_then s Finish f = record { ins = rw length-map f.ins; outs = rw length-map f.outs }
few_then s (Fail n) f = record { ins = rw length-map f.ins; outs = rw length-map f.outs }
few_then s Pass f = record { ins = rw length-map f.ins; outs = rw length-map f.outs }

-- ---- one ask after another

carried_next : (types : List Sort) (o : Occasion) (s : Seen) (a : Ask) (more : List Ask) (x : Option ℕ) → forbidden types o s a ≡ x
    → carried_out types o s (a ∷ more) ≡ by_code x (preceded_by (acts_of o s a) (carried_out types o (sees_behind s a) more)) (fails_by o s)
carried_next types o s a more x e = ap (λ (z : Option ℕ). by_code z (preceded_by (acts_of o s a) (carried_out types o (sees_behind s a) more)) (fails_by o s)) e

-- one that was carried out
pub step_on : (types : List Sort) (o : Occasion) (s : Seen) (a : Ask) (before : List Act) (t : Seen) (behind : List Act) (more : List Ask) → Steps types o s a before t behind true
    → (behind ++ (carried_out types o t more).acts ≡ before ++ (carried_out types o s (a ∷ more)).acts) × ((carried_out types o t more).sight ≡ (carried_out types o s (a ∷ more)).sight)
step_on types o s a before t behind more h =
    let e = carried_next types o s a more None h.0 in
    let acts : (carried_out types o s (a ∷ more)).acts ≡ acts_of o s a ++ (carried_out types o (sees_behind s a) more).acts = ap (λ (r : Outcome). r.acts) e in
    let sight : (carried_out types o s (a ∷ more)).sight ≡ (carried_out types o (sees_behind s a) more).sight = ap (λ (r : Outcome). r.sight) e in
    let same : carried_out types o t more ≡ carried_out types o (sees_behind s a) more = ap (λ (z : Seen). carried_out types o z more) h.1.1 in (
      ap (λ (z : List Act). z ++ (carried_out types o t more).acts) h.1.0
          ∙ ap (λ (r : Outcome). (before ++ acts_of o s a) ++ r.acts) same
          ∙ append_assoc before (acts_of o s a) (carried_out types o (sees_behind s a) more).acts
          ∙ ap (λ (z : List Act). before ++ z) (sym acts),
      ap (λ (r : Outcome). r.sight) same ∙ sym sight,
    )

-- one that was forbidden
pub step_off : (types : List Sort) (o : Occasion) (s : Seen) (a : Ask) (before : List Act) (t : Seen) (behind : List Act) (more : List Ask) → Steps types o s a before t behind false
    → (behind ≡ before ++ (carried_out types o s (a ∷ more)).acts) × (t ≡ (carried_out types o s (a ∷ more)).sight)
step_off types o s a before t behind more h =
    let e = carried_next types o s a more (Some h.0) h.1.0 in
    (h.1.1.0 ∙ ap (λ (r : Outcome). before ++ r.acts) (sym e), h.1.1.1 ∙ ap (λ (r : Outcome). r.sight) (sym e))

pub step_room : (types : List Sort) (o : Occasion) (s : Seen) (a : Ask) (before : List Act) (t : Seen) (behind : List Act) (n : ℕ) → Steps types o s a before t behind true → FewPorts s → length before + acts_to_come s ≤ n → FewPorts t × (length behind + acts_to_come t ≤ n)
step_room types o s a before t behind n h f r =
    let k = ask_left types o s a h.0 in
    let l = length-append before (acts_of o s a) in
    (rw h.1.1 (few_then s a f), rw (h.1.0, h.1.1) (omega (arith, k, l, r)))

-- an element is the one at its place, also by itself in place of the default
pub get_self : {A : Type 0} (xs : List A) (i : ℕ) (d : A) → slice_index_or xs i d ≡ slice_index_or xs i (slice_index_or xs i d)
get_self [] i d = refl
get_self (x ∷ xs) zero d = refl
get_self (x ∷ xs) (suc i) d = get_self xs i d

-- ---- what a call can append at most

in_most : (c a : Bool) → (if c then 0 else (if a then 1 else 2)) ≤ 2
in_most true a = omega arith
in_most false true = omega arith
in_most false false = omega arith

out_most : (c a : Bool) → (if c then 0 else (if a then 2 else 1)) ≤ 2
out_most true a = omega arith
out_most false true = omega arith
out_most false false = omega arith

ins_most : (xs : List InSight) → acts_to_come_ins xs ≤ length xs + length xs
ins_most [] = omega arith
ins_most (x ∷ xs) = let a = in_most x.closed x.asked in let r = ins_most xs in omega (arith, a, r)

outs_most : (ys : List OutSight) → acts_to_come_outs ys ≤ length ys + length ys
outs_most [] = omega arith
outs_most (y ∷ ys) = let a = out_most y.closed y.asked in let r = outs_most ys in omega (arith, a, r)

pub most_left : (s : Seen) → acts_to_come s ≤ most_acts s
most_left s = let a = ins_most s.ins in let b = outs_most s.outs in omega (arith, a, b)

-- and there stay as many ports
pub room_input : (s : Seen) (i : ℕ) (x : InSight) (n : ℕ) → most_acts s ≤ n → most_acts (with_input s i x) ≤ n
room_input s i x n h = rw length-set h

pub room_output : (s : Seen) (j : ℕ) (y : OutSight) (n : ℕ) → most_acts s ≤ n → most_acts (with_output s j y) ≤ n
room_output s j y n h = rw length-set h

pub few_input : (s : Seen) (i : ℕ) (x : InSight) → FewPorts s → FewPorts (with_input s i x)
few_input s i x f = record { ins = rw length-set f.ins; outs = f.outs }

pub few_output : (s : Seen) (j : ℕ) (y : OutSight) → FewPorts s → FewPorts (with_output s j y)
few_output s j y f = record { ins = f.ins; outs = rw length-set f.outs }

pub few_closed : (s : Seen) → FewPorts s → FewPorts (all_closed s)
few_closed s f = record { ins = rw length-map f.ins; outs = rw length-map f.outs }

-- ---- what a call appends at most

pub carried_room : (types : List Sort) (o : Occasion) (s : Seen) (asks : List Ask) → length (carried_out types o s asks).acts ≤ acts_to_come s
carried_room types o s [] = omega arith
carried_room types o s (a ∷ more) = by (forbidden types o s a) refl (carried_room types o (sees_behind s a) more)
  where
    by : (x : Option ℕ) → forbidden types o s a ≡ x → length (carried_out types o (sees_behind s a) more).acts ≤ acts_to_come (sees_behind s a)
        → length (by_code x (preceded_by (acts_of o s a) (carried_out types o (sees_behind s a) more)) (fails_by o s)).acts ≤ acts_to_come s
    by None e r =
        let k = ask_left types o s a e in
        let l = length-append (acts_of o s a) (carried_out types o (sees_behind s a) more).acts in
        omega (arith, k, l, r)
    by (Some code) e r = all_room (Some (illegal_cause o code)) s
