-- A step of a stage with substreams that follows moves keeps the law of its histories.
use Rattle.std.specs.Prelude.{◌≢◌, ◌⊎◌, ◌-◌, ◌<◌, take, option_to_list, IsTrue}
use Rattle.std.proofs.Common.{◌≡◌, inl, inr, ℕ, zero, suc, ◌+◌, ◌≤◌, Bool, true, false, List, [], ◌∷◌, ◌++◌, length, map, Option, None, Some, refl, sym, ap, ◌∙◌, subst, arith, append_assoc, append-nil}
use Rattle.std.proofs.lemmas.List.{length-append, length-map, map-append, length-take-le}
use Rattle.elem_core.specs.Prefix.{IsPrefix}
use Rattle.elem_core.proofs.Prefixes.{prefix_take}
use Rattle.elem_core.specs.Tree.{Tree}
use Rattle.elem_core.specs.declared.item.Item.{Item}
use Rattle.elem_core.specs.declared.item.Item.TheVariants as item
use Rattle.elem_core.specs.declared.why.Cause.{Cause}
use Rattle.port_core.specs.Picks.{next_move}
use Rattle.port_core.specs.declared.pick_log.Next.{Next}
use Rattle.port_core.specs.declared.pick_log.Next.TheVariants.{Free, Move, UsedUp}
use Rattle.port_core.specs.Call.{Call, starts, pulls, arrives, cancels}
use Rattle.port_core.specs.ListFunction.{ListFunction}
use Rattle.stream_model.specs.Outlook.{End, unended, ended, failed}
use Rattle.stream_model.specs.FanIn.{Tagged, Inflow}
use Rattle.stream_model.specs.Machine.{State, going, done, broken, Run, Machine, Given, Finish, refuses, is_going, run, close, CutBy, Fails, own_doing, at_finish, of_input}
use Rattle.stream_model.specs.Picks.{count_of}
use Rattle.stream_model.specs.Substreams.{Opening, Subs, substreams}
use Rattle.stage_core.specs.Fans.{untagged}
use Rattle.stage_core.specs.Held.{told}
use Rattle.stage_core.specs.Inflows.{joined, joined_at, coming, nothing_came}
use Rattle.stage_core.proofs.Inflows.{Stepped, joined-nothing_came}
use Rattle.stage_core.specs.declared.phase.Phase.{Phase}
use Rattle.stage_core.specs.declared.phase.Phase.TheVariants.{New, Open, Closed}
use Rattle.stage_sub.specs.Handling.{ports_given}
use Rattle.stage_sub.specs.Moves.{noted, port_in, arising}
use Rattle.stage_sub.specs.Picking.{of_number}
use Rattle.stage_sub.specs.States.{Logic, StateIs}
use Rattle.stage_sub.specs.Leds.{Led, then_state, EndsWell, MayGoOn, over_after, TakenFrom, LostAt, LedStep, goes, ends, breaks, refuses_end, fails, leaves}
use Rattle.stage_sub.specs.LedLaws.{Shares, BeginsEach, led_ready, held_back, no_more, MisfitBy, GivenBy, LedStopped, Ceased, StandsAt, LedServes, keeps_by, LedKeeps}
use Rattle.stage_sub.proofs.Picking.{shares_more, shares_given, shares_begin, begins_more, taken_out, count_given}
use Rattle.stage_sub.proofs.LedReady.{ready_open, call_ready, elem_state, end_state, all_but_last}

flag_differs : {b : Bool} → b ≡ true → b ≡ false → ⊥
flag_differs e f = cc

not_both_ends : {e : End} → e ≡ unended → e ≡ ended → ⊥
not_both_ends u v = cc

ports_length : (l : List Tagged) → length (ports_given l) ≡ length l
ports_length l = length-map l (λ x. x.port)

-- a call comes only to an input that goes on
abbrev pub Opens : Call → Inflow → Type 0
Opens call w = (i : ℕ) (b : Item) → call ≡ arrives i b → (i ≡ 0) × (w.end ≡ unended)

-- ---- what is given then

-- its moves and its elements, with what goes out
given_moves : (given : List Tagged) (gave : Option Tagged) → noted (Some (ports_given given)) (port_in gave) ≡ Some (ports_given (given ++ option_to_list gave))
given_moves given None = ap (λ (l : List Tagged). Some (ports_given l)) (sym (append-nil given))
given_moves given (Some x) = ap Some (sym (map-append (λ (y : Tagged). y.port) given (x ∷ [])))

given_list : (given : List Tagged) (gave : Option Tagged) (g : List Tree) → untagged given ≡ g → untagged (given ++ option_to_list gave) ≡ g ++ untagged (option_to_list gave)
given_list given gave g is = map-append (λ (y : Tagged). y.item) given (option_to_list gave) ∙ ap (λ (l : List Tree). l ++ untagged (option_to_list gave)) is

-- what is held then
shares_then : (ready given held left : List Tagged) (gave : Option Tagged) → Shares ready given held → TakenFrom gave held left → Shares ready (given ++ option_to_list gave) left
shares_then ready given held left None s t = rw (append-nil given, t) s
shares_then ready given held left (Some x) s t = shares_given ready given held left x s (taken_out x.port held x left t)

count_then : (given held left : List Tagged) (gave : Option Tagged) (n : ℕ) → length given + length held ≡ n → TakenFrom gave held left → length (given ++ option_to_list gave) + length left ≡ n
count_then given held left None n c t = rw (append-nil given, t) c
count_then given held left (Some x) n c t =
    let o = (taken_out x.port held x left t).long in
    let a = length-append given (x ∷ []) in
    omega (arith, o, a, c)

module _ (yields : List Tree → End → Given Tree) (o : Opening) (start : Run Subs Tagged) {C : Type 0} (rest : C → ListFunction) (is_open : C → Bool) (f : ListFunction) where
  abbrev m : Machine Subs Tagged
  m = substreams yields o

  abbrev run_of : List Tree → Run Subs Tagged
  run_of l = run m start l

  module _ (old new : Led C) (call : Call) (gave : Option Tagged) (w : Inflow) (g : List Tree) (e : End) (s : LedServes yields o start rest is_open f old w g e) (st : State Subs) (opens : Opens call w) (at : w.end ≡ unended → (run_of w.list).state ≡ st)
      (moves : new.logic.moves ≡ noted old.logic.moves (port_in gave)) where
    abbrev then_in : Inflow
    then_in = joined w (coming call 0)

    abbrev given_now : List Tagged
    given_now = s.given ++ option_to_list gave

    ready_now : led_ready yields o start then_in ≡ led_ready yields o start w ++ arising m call st
    ready_now = call_ready yields o start call w st opens at

    given_by : GivenBy yields o start new.logic.moves (g ++ untagged (option_to_list gave)) given_now
    given_by = record {
      list_is = given_list s.given gave g s.by.list_is;
      moves_is = moves ∙ ap (λ (ms : Option (List ℕ)). noted ms (port_in gave)) s.by.moves_is ∙ given_moves s.given gave;
    }

    shares_now : (left : List Tagged) → TakenFrom gave (old.logic.pending ++ arising m call st) left → Shares (led_ready yields o start then_in) given_now left
    shares_now left t = subst (λ (r : List Tagged). Shares r given_now left) (sym ready_now) (shares_then (led_ready yields o start w ++ arising m call st) s.given (old.logic.pending ++ arising m call st) left gave (shares_more (led_ready yields o start w) s.given old.logic.pending (arising m call st) s.shares) t)

    count_now : (left : List Tagged) → TakenFrom gave (old.logic.pending ++ arising m call st) left → length given_now + length left ≡ length (led_ready yields o start then_in)
    count_now left t =
        let a = length-append old.logic.pending (arising m call st) in
        let b = length-append (led_ready yields o start w) (arising m call st) in
        let c = s.count in
        let both : length s.given + length (old.logic.pending ++ arising m call st) ≡ length (led_ready yields o start w ++ arising m call st) = omega (arith, a, b, c) in
        count_then s.given (old.logic.pending ++ arising m call st) left gave (length (led_ready yields o start then_in)) (both ∙ ap length (sym ready_now)) t

    begins_now : BeginsEach (led_ready yields o start then_in) s.given
    begins_now = subst (λ (r : List Tagged). BeginsEach r s.given) (sym ready_now) (begins_more (led_ready yields o start w) s.given (arising m call st) (shares_begin (led_ready yields o start w) s.given old.logic.pending s.shares))

    -- its input goes on where something comes, so it has not ended
    goes_in : (b : Item) → call ≡ arrives 0 b → old.logic.over ≡ false
    goes_in b is = by_over old.logic.over refl s.stands
      where
        by_over : (k : Bool) → old.logic.over ≡ k → StandsAt yields o start rest is_open f k old.logic w → old.logic.over ≡ false
        by_over false q h = q
        by_over true q h = absurd (not_both_ends (opens 0 b is).1 h.0)

    stands_still : (a b : Bool) → old.logic.over ≡ a → new.logic.over ≡ b → b ≡ a → StandsAt yields o start rest is_open f a old.logic w → StateIs rest is_open f yields b new.logic st → StandsAt yields o start rest is_open f b new.logic w
    stands_still false false p q e h k = (h.0, subst (λ (x : State Subs). StateIs rest is_open f yields false new.logic x) (sym (at h.0)) k)
    stands_still true true p q e h k = h
    stands_still false true p q e h k = cc
    stands_still true false p q e h k = cc

    -- how its machine stands then
    stands_by : (c : Call) → call ≡ c → new.logic.over ≡ over_after c old.logic.over → StateIs rest is_open f yields new.logic.over new.logic (then_state m c st) → EndsWell m c st → MayGoOn c old.logic.pending → StandsAt yields o start rest is_open f new.logic.over new.logic (joined w (coming c 0))
    stands_by starts is over k ew may = rw (joined-nothing_came w) (stands_still old.logic.over new.logic.over refl refl over s.stands k)
    stands_by (pulls j) is over k ew may = rw (joined-nothing_came w) (stands_still old.logic.over new.logic.over refl refl over s.stands k)
    stands_by (cancels j) is over k ew may = rw (joined-nothing_came w) (stands_still old.logic.over new.logic.over refl refl over s.stands k)
    stands_by (arrives (suc i) b) is over k ew may = let q = (opens (suc i) b is).0 in cc
    stands_by (arrives zero (item.Failed c)) is over k ew may = absurd may
    stands_by (arrives zero (item.Elem t)) is over k ew may =
        let u = (opens 0 (item.Elem t) is).1 in
        let off : new.logic.over ≡ false = over ∙ goes_in (item.Elem t) is in
        let k2 = subst (λ (b : Bool). StateIs rest is_open f yields b new.logic (then_state m (arrives 0 (item.Elem t)) st)) off k in
        let k3 = subst (λ (x : State Subs). StateIs rest is_open f yields false new.logic x) (sym (elem_state yields o start w.list t st (at u))) k2 in
        subst (λ (b : Bool). StandsAt yields o start rest is_open f b new.logic (joined w (coming (arrives 0 (item.Elem t)) 0))) (sym off)
        (subst (λ (x : End). StandsAt yields o start rest is_open f false new.logic (joined_at x w.list (coming (arrives 0 (item.Elem t)) 0))) (sym u) (refl, k3))
    stands_by (arrives zero item.Ended) is over k ew may =
        let u = (opens 0 item.Ended is).1 in
        let h = subst (λ (b : Bool). StandsAt yields o start rest is_open f b old.logic w) (goes_in item.Ended is) s.stands in
        let x : Subs = h.1.0 in
        let gone : st ≡ going x = sym (at u) ∙ h.1.1.0 in
        subst (λ (b : Bool). StandsAt yields o start rest is_open f b new.logic (joined w (coming (arrives 0 item.Ended) 0))) (sym over)
        (subst (λ (x : End). StandsAt yields o start rest is_open f true new.logic (joined_at x w.list (coming (arrives 0 item.Ended) 0))) (sym u)
        (refl, ap (λ (l : List Tree). (close m (run m start l) ended).end) (append-nil w.list) ∙ end_state yields o start w.list st x (at u) gone ew))

    -- all but what the last element brought was given
    lags_same : (l : List Tree) → l ≡ w.list → length (run_of (take (length l - 1) l)).gave ≤ length given_now
    lags_same l is = let a = s.lags in let b = length-append s.given (option_to_list gave) in let c : length (run_of (take (length l - 1) l)).gave ≡ length (run_of (take (length w.list - 1) w.list)).gave = ap (λ (k : List Tree). length (run_of (take (length k - 1) k)).gave) is in omega (arith, a, b, c)

    ended_list : (x : End) (l : List Tree) (r : Inflow) → r.list ≡ [] → (joined_at x l r).list ≡ l
    ended_list unended l r n = ap (λ (k : List Tree). l ++ k) n ∙ append-nil l
    ended_list ended l r n = refl
    ended_list (failed c) l r n = refl

    lags_by : (c : Call) → call ≡ c → MayGoOn c old.logic.pending → length (run_of (take (length (joined w (coming c 0)).list - 1) (joined w (coming c 0)).list)).gave ≤ length given_now
    lags_by starts is may = lags_same (joined w (coming starts 0)).list (ended_list w.end w.list nothing_came refl)
    lags_by (pulls j) is may = lags_same (joined w (coming (pulls j) 0)).list (ended_list w.end w.list nothing_came refl)
    lags_by (cancels j) is may = lags_same (joined w (coming (cancels j) 0)).list (ended_list w.end w.list nothing_came refl)
    lags_by (arrives (suc i) b) is may = let q = (opens (suc i) b is).0 in cc
    lags_by (arrives zero (item.Failed c)) is may = absurd may
    lags_by (arrives zero item.Ended) is may = lags_same (joined w (coming (arrives 0 item.Ended) 0)).list (ended_list w.end w.list (coming (arrives 0 item.Ended) 0) refl)
    lags_by (arrives zero (item.Elem t)) is may =
        let u = (opens 0 (item.Elem t) is).1 in
        let list : (joined w (coming (arrives 0 (item.Elem t)) 0)).list ≡ w.list ++ t ∷ [] = ap (λ (x : End). (joined_at x w.list (coming (arrives 0 (item.Elem t)) 0)).list) u in
        let before : length (run_of (take (length (joined w (coming (arrives 0 (item.Elem t)) 0)).list - 1) (joined w (coming (arrives 0 (item.Elem t)) 0)).list)).gave ≡ length (run_of w.list).gave =
        ap (λ (k : List Tree). length (run_of (take (length k - 1) k)).gave) list ∙ ap (λ (k : List Tree). length (run_of k).gave) (all_but_last yields o start w.list t) in
        let all : length (led_ready yields o start w) ≡ length (run_of w.list).gave = ap length (ready_open yields o start w u) in
        let none : length old.logic.pending ≡ 0 = ap length may in
        let c = s.count in
        let b = length-append s.given (option_to_list gave) in
        omega (arith, before, all, none, c, b)

    -- ---- why it stops

    some_held : (l : List Tagged) → l ≢ [] → 1 ≤ length l
    some_held [] n = absurd (n refl)
    some_held (x ∷ l) n = omega arith

    given_of : (n : ℕ) (left : List Tagged) → Shares (led_ready yields o start then_in) given_now left → of_number n left ≡ [] → length (of_number n (led_ready yields o start then_in)) ≤ count_of n (ports_given given_now)
    given_of n left sh none =
        let a : length (of_number n (led_ready yields o start then_in)) ≡ length (of_number n given_now) = ap length (sym (sh n)) ∙ ap (λ (l : List Tagged). length (of_number n given_now ++ l)) none ∙ ap length (append-nil (of_number n given_now)) in
        let b = count_given n given_now in
        omega (arith, a, b)

    cause_by : (next : Next) (left : List Tagged) (over : Bool) → Shares (led_ready yields o start then_in) given_now left → length given_now + length left ≡ length (led_ready yields o start then_in) → StandsAt yields o start rest is_open f over new.logic then_in → LostAt next left over
        → MisfitBy yields o start next (ports_given given_now) then_in
    cause_by Free left over sh c h l = l
    cause_by UsedUp left over sh c h l = l
    cause_by (Move n) left true sh c h l = no_more h.0 (given_of n left sh l.0)
    cause_by (Move n) left false sh c h l =
        let open_ready : led_ready yields o start then_in ≡ (run_of then_in.list).gave = ready_open yields o start then_in h.0 in
        let given : length (of_number n (run_of then_in.list).gave) ≤ count_of n (ports_given given_now) = subst (λ (r : List Tagged). length (of_number n r) ≤ count_of n (ports_given given_now)) open_ready (given_of n left sh l.0) in
        let some = some_held left (held_there l.1) in
        let same : length (led_ready yields o start then_in) ≡ length (run_of then_in.list).gave = ap length open_ready in
        let many = ports_length given_now in
        held_back given (omega (arith, some, same, many, c))
      where
        held_there : (false ≡ true) ⊎ (left ≢ []) → left ≢ []
        held_there (inl e) = cc
        held_there (inr n) = n

    -- ---- by what the step is

    kept : (b : Bool) (q : Phase) → new.stuck ≡ b → new.logic.phase ≡ q → (gl : List Tree) (x : End) → keeps_by yields o start rest is_open f b q new then_in gl x → LedKeeps yields o start rest is_open f new (then_in ∷ []) gl x
    kept b q p r gl x k = subst (λ (c : Bool). keeps_by yields o start rest is_open f c new.logic.phase new then_in gl x) (sym p) (subst (λ (z : Phase). keeps_by yields o start rest is_open f b z new then_in gl x) (sym r) k)

    abbrev Goal : End → Type 0
    Goal closing = Stepped (LedKeeps yields o start rest is_open f new) (then_in ∷ []) g (told (untagged (option_to_list gave)) closing)

    goes_so : new.logic.phase ≡ Open → TakenFrom gave (old.logic.pending ++ arising m call st) new.logic.pending → StandsAt yields o start rest is_open f new.logic.over new.logic then_in
        → length (run_of (take (length then_in.list - 1) then_in.list)).gave ≤ length given_now → (new.stuck ≡ true → LostAt (next_move new.left) new.logic.pending new.logic.over) → Goal unended
    goes_so op taken stands lags lost = record { list = untagged (option_to_list gave); end = unended; out_is = refl; keeps = by_stuck new.stuck refl }
      where
        sh : Shares (led_ready yields o start then_in) given_now new.logic.pending
        sh = shares_now new.logic.pending taken

        by_stuck : (b : Bool) → new.stuck ≡ b → LedKeeps yields o start rest is_open f new (then_in ∷ []) (g ++ untagged (option_to_list gave)) unended
        by_stuck false p = kept false Open p op (g ++ untagged (option_to_list gave)) unended (record {
          unended_is = refl;
          given = given_now;
          by = given_by;
          shares = sh;
          count = count_now new.logic.pending taken;
          lags = lags;
          stands = stands;
        })
        by_stuck true p = kept true Open p op (g ++ untagged (option_to_list gave)) unended (record {
          unended_is = refl;
          given = given_now;
          by = given_by;
          begins = shares_begin (led_ready yields o start then_in) given_now new.logic.pending sh;
          cause = cause_by (next_move new.left) new.logic.pending new.logic.over sh (count_now new.logic.pending taken) stands (lost p);
        })

    -- it ended
    ended_by : (c : Call) → call ≡ c → over_after c old.logic.over ≡ true → EndsWell m c st → MayGoOn c old.logic.pending → (close m (run m start (joined w (coming c 0)).list) (joined w (coming c 0)).end).end ≡ ended
    ended_by starts is over ew may = ended_before starts refl over
      where
        ended_before : (c : Call) → coming c 0 ≡ nothing_came → old.logic.over ≡ true → (close m (run m start (joined w (coming c 0)).list) (joined w (coming c 0)).end).end ≡ ended
        ended_before c n over =
            let h = subst (λ (b : Bool). StandsAt yields o start rest is_open f b old.logic w) over s.stands in
            ap (λ (r : Inflow). (close m (run m start (joined w r).list) (joined w r).end).end) n ∙ ap (λ (r : Inflow). (close m (run m start r.list) r.end).end) (joined-nothing_came w) ∙ ap (λ (x : End). (close m (run m start w.list) x).end) h.0 ∙ h.1
    ended_by (pulls j) is over ew may =
        let h = subst (λ (b : Bool). StandsAt yields o start rest is_open f b old.logic w) over s.stands in
        ap (λ (r : Inflow). (close m (run m start r.list) r.end).end) (joined-nothing_came w) ∙ ap (λ (x : End). (close m (run m start w.list) x).end) h.0 ∙ h.1
    ended_by (cancels j) is over ew may =
        let h = subst (λ (b : Bool). StandsAt yields o start rest is_open f b old.logic w) over s.stands in
        ap (λ (r : Inflow). (close m (run m start r.list) r.end).end) (joined-nothing_came w) ∙ ap (λ (x : End). (close m (run m start w.list) x).end) h.0 ∙ h.1
    ended_by (arrives (suc i) b) is over ew may = let q = (opens (suc i) b is).0 in cc
    ended_by (arrives zero (item.Failed c)) is over ew may = absurd may
    ended_by (arrives zero (item.Elem t)) is over ew may = absurd (flag_differs over (goes_in (item.Elem t) is))
    ended_by (arrives zero item.Ended) is over ew may =
        let u = (opens 0 item.Ended is).1 in
        let h = subst (λ (b : Bool). StandsAt yields o start rest is_open f b old.logic w) (goes_in item.Ended is) s.stands in
        let x : Subs = h.1.0 in
        let gone : st ≡ going x = sym (at u) ∙ h.1.1.0 in
        ap (λ (x : End). (close m (run m start (joined_at x w.list (coming (arrives 0 item.Ended) 0)).list) (joined_at x w.list (coming (arrives 0 item.Ended) 0)).end).end) u
        ∙ ap (λ (l : List Tree). (close m (run m start l) ended).end) (append-nil w.list) ∙ end_state yields o start w.list st x (at u) gone ew

    ends_so : new.logic.phase ≡ Closed → new.stuck ≡ false → TakenFrom gave (old.logic.pending ++ arising m call st) [] → (close m (run m start then_in.list) then_in.end).end ≡ ended → Goal ended
    ends_so cl calm taken over = record {
      list = untagged (option_to_list gave);
      end = ended;
      out_is = refl;
      keeps = kept false Closed calm cl (g ++ untagged (option_to_list gave)) ended (record {
        given = given_now;
        by = given_by;
        begins = shares_begin (led_ready yields o start then_in) given_now [] (shares_now [] taken);
        ends = λ x. (over, (let c = count_now [] taken in omega (arith, c)));
        fails = λ c x. cc;
      });
    }

    -- ---- a failure

    -- what was given is as many of what the machine gave as may be
    cut_here : (l : List Tree) → l ≡ w.list → w.end ≡ unended → CutBy m 1 start l (take (length s.given) (run_of l).gave)
    cut_here l is u =
        let a = s.lags in
        let c = s.count in
        let same : length (led_ready yields o start w) ≡ length (run_of w.list).gave = ap length (ready_open yields o start w u) in
        let as_l : length (run_of l).gave ≡ length (run_of w.list).gave = ap (λ (k : List Tree). length (run_of k).gave) is in
        let lag : length (run_of (take (length l - 1) l)).gave ≡ length (run_of (take (length w.list - 1) w.list)).gave = ap (λ (k : List Tree). length (run_of (take (length k - 1) k)).gave) is in
        let long : length (take (length s.given) (run_of l).gave) ≡ length s.given = length-take-le (length s.given) (run_of l).gave (omega (arith, c, same, as_l)) in
        record { part = prefix_take (length s.given) (run_of l).gave; enough = omega (arith, a, lag, long) }

    few_taken : (l : List Tree) → l ≡ w.list → w.end ≡ unended → length (take (length s.given) (run_of l).gave) ≤ length s.given
    few_taken l is u =
        let c = s.count in
        let same : length (led_ready yields o start w) ≡ length (run_of w.list).gave = ap length (ready_open yields o start w u) in
        let as_l : length (run_of l).gave ≡ length (run_of w.list).gave = ap (λ (k : List Tree). length (run_of k).gave) is in
        let long : length (take (length s.given) (run_of l).gave) ≡ length s.given = length-take-le (length s.given) (run_of l).gave (omega (arith, c, same, as_l)) in
        omega (arith, long)

    -- it gave nothing in the call, and closed
    stops_giving : new.logic.phase ≡ Closed → new.stuck ≡ false → gave ≡ None → (closing : End) → (closing ≡ ended → ⊥) → ((c : Cause) → closing ≡ failed c → (t : List Tagged) × (Fails m start then_in.list then_in.end t c × (length t ≤ length s.given))) → Goal closing
    stops_giving cl calm none closing unend fail =
        let nothing : option_to_list gave ≡ [] = ap option_to_list none in
        let same : given_now ≡ s.given = ap (λ (l : List Tagged). s.given ++ l) nothing ∙ append-nil s.given in
        let many : length given_now ≡ length s.given = ap length same in
        record {
          list = untagged (option_to_list gave);
          end = closing;
          out_is = refl;
          keeps = kept false Closed calm cl (g ++ untagged (option_to_list gave)) closing (record {
            given = given_now;
            by = given_by;
            begins = subst (λ (l : List Tagged). BeginsEach (led_ready yields o start then_in) l) (sym same) begins_now;
            ends = λ x. absurd (unend x);
            fails = λ c x. let q = fail c x in (q.0, (q.1.0, (let k = q.1.1 in omega (arith, k, many))));
          });
        }

    cause_same : {x y : Cause} → failed x ≡ failed y → x ≡ y
    cause_same h = cc

    breaks_so : (t : Tree) (c : Cause) → call ≡ arrives 0 (item.Elem t) → old.logic.pending ≡ [] → then_state m call st ≡ broken c → arising m call st ≡ [] → gave ≡ None → new.logic.phase ≡ Closed → new.stuck ≡ false → Goal (failed c)
    breaks_so t c is held bad none quiet cl calm = stops_giving cl calm quiet (failed c) (λ x. cc) by_cause
      where
        u : w.end ≡ unended
        u = (opens 0 (item.Elem t) is).1

        list : then_in.list ≡ w.list ++ t ∷ []
        list = ap (λ (k : Call). (joined w (coming k 0)).list) is ∙ ap (λ (x : End). (joined_at x w.list (coming (arrives 0 (item.Elem t)) 0)).list) u

        open_then : then_in.end ≡ unended
        open_then = ap (λ (k : Call). (joined w (coming k 0)).end) is ∙ ap (λ (x : End). (joined_at x w.list (coming (arrives 0 (item.Elem t)) 0)).end) u

        state : (run_of then_in.list).state ≡ broken c
        state = ap (λ (l : List Tree). (run_of l).state) list ∙ elem_state yields o start w.list t st (at u) ∙ ap (λ (k : Call). then_state m k st) (sym is) ∙ bad

        few : length (run_of then_in.list).gave ≤ length s.given
        few =
            let a : led_ready yields o start then_in ≡ (run_of then_in.list).gave = ready_open yields o start then_in open_then in
            let b : length (run_of then_in.list).gave ≡ length (led_ready yields o start w ++ arising m call st) = ap length (sym a) ∙ ap length ready_now in
            let c : length (led_ready yields o start w ++ arising m call st) ≡ length (led_ready yields o start w) = ap (λ (l : List Tagged). length (led_ready yields o start w ++ l)) none ∙ ap length (append-nil (led_ready yields o start w)) in
            let d = s.count in
            let n : length old.logic.pending ≡ 0 = ap length held in
            omega (arith, b, c, d, n)

        by_cause : (d : Cause) → failed c ≡ failed d → (t : List Tagged) × (Fails m start then_in.list then_in.end t d × (length t ≤ length s.given))
        by_cause d e = ((run_of then_in.list).gave, (own_doing (state ∙ ap broken (cause_same e)), few))

    refuses_so : (x : Subs) (c : Cause) → call ≡ arrives 0 item.Ended → st ≡ going x → m.finish x ≡ refuses c → gave ≡ None → new.logic.phase ≡ Closed → new.stuck ≡ false → Goal (failed c)
    refuses_so x c is on bad quiet cl calm = stops_giving cl calm quiet (failed c) (λ y. cc) by_cause
      where
        u : w.end ≡ unended
        u = (opens 0 item.Ended is).1

        list : then_in.list ≡ w.list
        list = ap (λ (k : Call). (joined w (coming k 0)).list) is ∙ ended_list w.end w.list (coming (arrives 0 item.Ended) 0) refl

        over : then_in.end ≡ ended
        over = ap (λ (k : Call). (joined w (coming k 0)).end) is ∙ ap (λ (y : End). (joined_at y w.list (coming (arrives 0 item.Ended) 0)).end) u

        state : (run_of then_in.list).state ≡ going x
        state = ap (λ (l : List Tree). (run_of l).state) list ∙ at u ∙ on

        by_cause : (d : Cause) → failed c ≡ failed d → (t : List Tagged) × (Fails m start then_in.list then_in.end t d × (length t ≤ length s.given))
        by_cause d e = (
          take (length s.given) (run_of then_in.list).gave,
          (
            subst (λ (y : End). Fails m start then_in.list y (take (length s.given) (run_of then_in.list).gave) d) (sym over) (at_finish state (bad ∙ ap refuses (cause_same e)) (cut_here then_in.list list u)),
            few_taken then_in.list list u,
          ),
        )

    fails_so : (x : Subs) (c : Cause) → call ≡ arrives 0 (item.Failed c) → st ≡ going x → gave ≡ None → new.logic.phase ≡ Closed → new.stuck ≡ false → Goal (failed c)
    fails_so x c is on quiet cl calm = stops_giving cl calm quiet (failed c) (λ y. cc) by_cause
      where
        u : w.end ≡ unended
        u = (opens 0 (item.Failed c) is).1

        list : then_in.list ≡ w.list
        list = ap (λ (k : Call). (joined w (coming k 0)).list) is ∙ ended_list w.end w.list (coming (arrives 0 (item.Failed c)) 0) refl

        over : then_in.end ≡ failed c
        over = ap (λ (k : Call). (joined w (coming k 0)).end) is ∙ ap (λ (y : End). (joined_at y w.list (coming (arrives 0 (item.Failed c)) 0)).end) u

        on_going : IsTrue (is_going (run_of then_in.list).state)
        on_going = ap (λ (l : List Tree). is_going (run_of l).state) list ∙ ap (λ (k : State Subs). is_going k) (at u ∙ on)

        by_cause : (d : Cause) → failed c ≡ failed d → (t : List Tagged) × (Fails m start then_in.list then_in.end t d × (length t ≤ length s.given))
        by_cause d e = (
          take (length s.given) (run_of then_in.list).gave,
          (
            subst (λ (y : End). Fails m start then_in.list y (take (length s.given) (run_of then_in.list).gave) d) (sym (over ∙ ap failed (cause_same e))) (of_input on_going (cut_here then_in.list list u)),
            few_taken then_in.list list u,
          ),
        )

    -- a step
    pub stepped : (closing : End) → LedStep rest is_open f yields m call old gave closing new st → Goal closing
    stepped closing (goes c op taken over state ew may lost) = rw c (goes_so op taken (stands_by call refl over state ew may) (lags_by call refl may) lost)
    stepped closing (ends c cl calm taken over ew may) = rw c (ends_so cl calm taken (ended_by call refl over ew may))
    stepped closing (breaks t x is held bad none quiet c cl calm) = rw c (breaks_so t x is held bad none quiet cl calm)
    stepped closing (refuses_end x d is on bad quiet c cl calm) = rw c (refuses_so x d is on bad quiet cl calm)
    stepped closing (fails x d is on quiet c cl calm) = rw c (fails_so x d is on quiet cl calm)
    stepped closing (leaves is quiet c cl calm) = rw c (stops_giving cl calm quiet unended (λ y. cc) (λ d y. cc))

  -- ---- one that stopped

  -- nothing more is given, and no element comes
  pub still_stopped : (l : Led C) (call : Call) (w : Inflow) (g : List Tree) (e : End) → Opens call w → ((t : Tree) → call ≡ arrives 0 (item.Elem t) → ⊥) → LedStopped yields o start l.logic.moves (next_move l.left) w g e → LedStopped yields o start l.logic.moves (next_move l.left) (joined w (coming call 0)) (g ++ []) e
  still_stopped l call w g e opens quiet s = record {
    unended_is = s.unended_is;
    given = s.given;
    by = record { list_is = s.by.list_is ∙ sym (append-nil g); moves_is = s.by.moves_is };
    begins = subst (λ (r : List Tagged). BeginsEach r s.given) (sym (call_ready yields o start call w (run_of w.list).state opens (λ u. refl))) (begins_more (led_ready yields o start w) s.given (arising m call (run_of w.list).state) s.begins);
    cause = by_next (next_move l.left) s.cause;
  }
    where
      same_list : (c : Call) → call ≡ c → (joined w (coming c 0)).list ≡ w.list
      same_list starts is = ap (λ (r : Inflow). r.list) (joined-nothing_came w)
      same_list (pulls j) is = ap (λ (r : Inflow). r.list) (joined-nothing_came w)
      same_list (cancels j) is = ap (λ (r : Inflow). r.list) (joined-nothing_came w)
      same_list (arrives (suc i) b) is = let q = (opens (suc i) b is).0 in cc
      same_list (arrives zero (item.Elem t)) is = absurd (quiet t is)
      same_list (arrives zero item.Ended) is = ap (λ (x : End). (joined_at x w.list (coming (arrives 0 item.Ended) 0)).list) (opens 0 item.Ended is).1 ∙ append-nil w.list
      same_list (arrives zero (item.Failed c)) is = ap (λ (x : End). (joined_at x w.list (coming (arrives 0 (item.Failed c)) 0)).list) (opens 0 (item.Failed c) is).1 ∙ append-nil w.list

      ended_stays : w.end ≡ ended → joined w (coming call 0) ≡ w
      ended_stays d = ap (λ (x : End). joined_at x w.list (coming call 0)) d ∙ ap (λ (x : End). record { list = w.list; end = x }) (sym d)

      by_next : (next : Next) → MisfitBy yields o start next (ports_given s.given) w → MisfitBy yields o start next (ports_given s.given) (joined w (coming call 0))
      by_next Free h = h
      by_next UsedUp h = h
      by_next (Move n) (held_back a b) =
          let list = same_list call refl in
          held_back (subst (λ (l : List Tree). length (of_number n (run_of l).gave) ≤ count_of n (ports_given s.given)) (sym list) a) (subst (λ (l : List Tree). length (ports_given s.given) < length (run_of l).gave) (sym list) b)
      by_next (Move n) (no_more d a) =
          let stays = ended_stays d in
          no_more (ap (λ (r : Inflow). r.end) stays ∙ d) (subst (λ (r : Inflow). length (of_number n (led_ready yields o start r)) ≤ count_of n (ports_given s.given)) (sym stays) a)
