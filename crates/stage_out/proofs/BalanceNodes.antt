-- A balance over its histories: a call keeps its law, it rests, and what it gave against its outlooks.
use Rattle.std.specs.Prelude.{IsTrue, nat_le, replicate, slice_get, slice_index_or}
use Rattle.std.specs.Option.{option_to_list}
use Rattle.std.proofs.lemmas.Bool.Decides.{nat_tests}
use Rattle.elem_core.proofs.Prefixes.{prefix_length}
use Rattle.port_core.specs.Picks.{plan_of, planned, next_move, may_end, IsFreeLog}
use Rattle.port_core.specs.declared.pick_log.Next.TheVariants.{Free, Move}
use Rattle.stage_core.specs.Over.{EndsAt}
use Rattle.stage_core.specs.Seats.{end_by}
use Rattle.std.proofs.Common.{◌≡◌, ℕ, zero, suc, ◌+◌, ◌≤◌, ◌<◌, ◌⊎◌, inl, inr, Bool, true, false, List, [], ◌∷◌, ◌++◌, length, map, drop, refl, sym, ap, ◌∙◌, subst, arith, Option, Some, None}
use Rattle.std.proofs.lemmas.Bool.{and_from}
use Rattle.std.proofs.lemmas.List.{length-map, length-replicate, length-set}
use Rattle.elem_core.specs.Tree.{Tree}
use Rattle.elem_core.specs.declared.item.Item.{Item}
use Rattle.elem_core.specs.declared.item.Item.TheVariants as item
use Rattle.elem_core.specs.declared.why.Decider.{Decider}
use Rattle.port_core.specs.declared.act.Act.{Act}
use Rattle.port_core.specs.declared.view.InView.{InView}
use Rattle.port_core.specs.declared.view.InView.TheVariants.{Idle, Pulled, Finished, Cancelled}
use Rattle.port_core.specs.declared.view.OutView.{OutView}
use Rattle.port_core.specs.declared.view.OutView.TheVariants as outlet
use Rattle.port_core.specs.View as port
use Rattle.port_core.specs.View.{View, in_at, out_at, IsOutOpen, ActsAllowed, acted, acted_all, unpulled_outs}
use Rattle.port_core.specs.Call.{Call, starts, pulls, arrives, cancels, AllIdle, AllUnpulled, CallAllowed, seen, Obeys, brought_to, given_on}
use Rattle.port_core.proofs.Views.{outs_stay}
use Rattle.stream_model.specs.declared.kind.Kind.TheVariants.{Balance}
use Rattle.stream_model.specs.declared.kind.TheConstants.{MAX_FAN}
use Rattle.stream_model.specs.Graph.{Graph}
use Rattle.stream_model.specs.Node.{World, head_of, node_outlook}
use Rattle.stream_model.specs.Outlook.{Outlook, End, unended, ended, failed, Agrees}
use Rattle.stream_model.specs.FanIn.{Inflow}
use Rattle.stream_model.specs.Picks.{all_below, balance_fits, balance_outlook, BalanceStands}
use Rattle.stream_model.proofs.PickTraces.{agrees_prefix}
use Rattle.stream_model.specs.View.{SeenWire, EachWire, SomeWire}
use Rattle.stream_model.specs.Rests.{Waits, IsShut, IsUnasked, IsAsked, WaitsIdlesOrShut, BalanceRests}
use Rattle.stage_core.specs.Rooms.{acts_for}
use Rattle.stage_core.specs.Handling.{Starts, Handles}
use Rattle.stage_core.specs.Histories.{given_all, brought_by, AllEmpty}
use Rattle.stage_core.specs.Held.{told}
use Rattle.stage_core.specs.Law.{TookAs, GaveAs}
use Rattle.stage_core.specs.Inflows.{joined, nothing_came, coming}
use Rattle.stage_core.specs.OwnPorts.{own_input, own_output}
use Rattle.stage_core.proofs.Told.{told-append}
use Rattle.stage_core.proofs.Inflows.{told_coming, as_coming}
use Rattle.stage_core.proofs.Ports.{took_acted, gave_seen, gave_acted}
use Rattle.stage_core.specs.Seats.{room_for}
use Rattle.stage_core.proofs.Histories.{brought_at, length-brought, given_at, length-given_all}
use Rattle.stage_core.specs.declared.outs.OutputState.{OutputState}
use Rattle.stage_core.specs.declared.outs.OutputState.TheVariants.{Quiet, Asks, Gone}
use Rattle.stage_core.specs.OpenOuts.{want_view, open_count, asks_count, OneInClosed, OutsClosed, AllClosed}
use Rattle.stage_out.specs.Outs.{own_ins, own_outs}
use Rattle.stage_out.specs.declared.balancing.Choice.TheVariants.{Sends, Drops, Stays}
use Rattle.stage_out.specs.Dealings.{Dealt, DealStands}
use Rattle.stage_out.specs.Balances.{BalanceHeld, waits, shut, GivesByMoves, BalanceTurn, BalanceClose, BalanceTurnAt, BalanceKeeps, moves_of, lacks_of, BalanceLaw}
use Rattle.stage_out.specs.Balancings.{Core, Balancing, choice_of, choice_at, asks_input, is_gone, NamesOutputs, lacks, input_of, view_of, Queued, Holding, Sound, CannotMove, port_state_by, port_state, held_by, held, Turned, Begins, BalanceFresh, BalancesAs}
use Rattle.stage_out.specs.BalanceRows.{OutputUnasked, BalanceRestsBy, BalanceRestsOwn, BalanceMisfits}
use Rattle.stage_out.proofs.Balances.{joined_end, drop_length}
use Rattle.stage_out.proofs.Dealings.{dealt_none, deal_stands, deal_agrees, as_balance, joined_then}
use Rattle.stage_out.proofs.Handlings.{named_then}
use Rattle.stage_out.proofs.Comings.{comes_open}
use Rattle.stage_out.proofs.BalanceChoices.{next_there, index_asks}
use Rattle.stage_out.proofs.Queues.{queue_some}

-- ---- a call keeps the law

seen_outs : (c : Call) (v : View) → length (seen c v).outs ≡ length v.outs
seen_outs starts v = refl
seen_outs (pulls j) v = length-set v.outs j _
seen_outs (arrives i b) v = refl
seen_outs (cancels j) v = length-set v.outs j _

acted_outs : (acts : List Act) (v : View) → length (acted_all v acts).outs ≡ length v.outs
acted_outs [] v = refl
acted_outs (a ∷ acts) v = acted_outs acts (acted v a) ∙ outs_stay v a

-- what was given with this turn, and what is kept then
record Stepped (x : BalanceHeld) (f : Inflow) (g : ℕ → List Tree) (out : ℕ → List Item) : Type 0 where
  given : ℕ → List Tree
  ends : ℕ → End
  out_is : (j : ℕ) → out j ≡ told (given j) (ends j)
  keeps : BalanceKeeps x f (λ j. g j ++ given j) ends

-- what came and how it stands, once more came
came_end : (w f r : Inflow) → w.end ≡ f.end → (joined w r).end ≡ (joined f r).end
came_end w f r h = joined_end w.end w.list f.list r ∙ ap (λ e. (joined (record { list = f.list; end = e }) r).end) h

came_gives : (moves : List ℕ) (was lack : ℕ → Bool) (w f r : Inflow) (g : ℕ → List Tree) (out : ℕ → List Item) (ends : ℕ → End) (now : List ℕ) (left : List Tree) → w.end ≡ f.end → Dealt was moves f.list g w.list → (t : GivesByMoves moves was (joined w r).list out ends now lack left)
    → Dealt lack now (joined f r).list (λ j. g j ++ t.given j) left
came_gives moves was lack w f r g out ends now left e h t =
    subst (λ (ms : List ℕ). Dealt lack ms (joined f r).list (λ j. g j ++ t.given j) left) (sym t.now_is)
    (joined_then was lack moves t.more t.less f.end f.list w.list left r g t.given t.none h (subst (λ d. Dealt lack t.more (joined (record { list = w.list; end = d }) r).list t.given left) e t.dealt))

goes_on : (moves : List ℕ) (was lack : ℕ → Bool) (w f r us : Inflow) (g : ℕ → List Tree) (out : ℕ → List Item) (now : List ℕ) → Dealt was moves f.list g w.list → w.end ≡ f.end → BalanceTurn moves was (joined w r) out now lack us → Stepped (waits now lack us) (joined f r) g out
goes_on moves was lack w f r us g out now h e t = record {
  given = t.gives.given;
  ends = λ j. unended;
  out_is = t.gives.out_is;
  keeps = (λ j. refl, (came_gives moves was lack w f r g out (λ j. unended) now us.list e h t.gives, t.end_is ∙ came_end w f r e));
}

closes : (moves : List ℕ) (was lack : ℕ → Bool) (w f r : Inflow) (g : ℕ → List Tree) (out : ℕ → List Item) (now : List ℕ) → Dealt was moves f.list g w.list → w.end ≡ f.end → BalanceClose moves was (joined w r) out now lack → Stepped (shut now lack) (joined f r) g out
closes moves was lack w f r g out now h e t =
    let i = came_gives moves was lack w f r g out t.ends now t.left e h t.gives in
    record {
      given = t.gives.given;
      ends = t.ends;
      out_is = t.gives.out_is;
      keeps = λ j. deal_stands lack now (joined f r) t.left (λ k. g k ++ t.gives.given k) j (t.ends j) i (t.closes j)
          (λ x. let y = t.completes j x in (sym (came_end w f r e) ∙ y.0, y.1))
          (λ c x. let y = t.fails j c x in (sym (came_end w f r e) ∙ y.0, y.1));
    }

abbrev AllUnended : (ℕ → End) → Type 0
AllUnended e = (j : ℕ) → e j ≡ unended

module _ (c : Call) (v : View) (took : List Item) (gave : ℕ → List Item) (acts : List Act) (may : CallAllowed c v) (allowed : ActsAllowed (seen c v) acts) where
  stepped : (x y : BalanceHeld) → (law : BalanceLaw x v took gave) → AllUnended law.ends → Stepped y (joined law.flow (coming c 0)) law.lists (λ j. given_on j acts)
      → BalanceLaw y (acted_all (seen c v) acts) (took ++ brought_to 0 c) (λ j. gave j ++ given_on j acts)
  stepped x y law u s =
      let long : length (acted_all (seen c v) acts).outs ≡ length v.outs = acted_outs acts (seen c v) ∙ seen_outs c v in
      record {
        flow = joined law.flow (coming c 0);
        lists = λ j. law.lists j ++ s.given j;
        ends = s.ends;
        took_is = told_coming c v 0 took law.flow may law.took_as law.took_is;
        took_as = took_acted acts (seen c v) 0 (joined law.flow (coming c 0)).end allowed (as_coming c v 0 law.flow may law.took_as);
        gave_is = λ j l.
            ap (λ (z : List Item). z ++ given_on j acts) (law.gave_is j (omega (arith, l, long)) ∙ ap (λ (f : End). told (law.lists j) f) (u j))
            ∙ ap (λ (z : List Item). told (law.lists j) unended ++ z) (s.out_is j) ∙ sym (told-append (law.lists j) (s.given j) (s.ends j));
        gave_as = λ j l. gave_acted j acts (seen c v) (s.given j) (s.ends j) (s.out_is j) allowed
            (gave_seen c v j unended may (subst (λ (f : End). GaveAs (out_at v j) f) (u j) (law.gave_as j (omega (arith, l, long)))));
        keeps = s.keeps;
      }

  call_keeps : (x y : BalanceHeld) → BalanceTurnAt c x (λ j. given_on j acts) y → BalanceLaw x v took gave → BalanceLaw y (acted_all (seen c v) acts) (took ++ brought_to 0 c) (λ j. gave j ++ given_on j acts)
  call_keeps (shut moves was) y t law = absurd t
  call_keeps (waits moves was w) (waits now lack us) t law = stepped (waits moves was w) (waits now lack us) law law.keeps.0 (goes_on moves was lack w law.flow (coming c 0) us law.lists (λ j. given_on j acts) now law.keeps.1.0 law.keeps.1.1 t)
  call_keeps (waits moves was w) (shut now lack) t law = stepped (waits moves was w) (shut now lack) law law.keeps.0 (closes moves was lack w law.flow (coming c 0) law.lists (λ j. given_on j acts) now law.keeps.1.0 law.keeps.1.1 t)

-- ---- one that is called is open

no_in : (xs : List InView) (i : ℕ) (x : Item) → OneInClosed xs → port.IsInOpen (slice_index_or xs i Cancelled) → ⊥
no_in [] i x c m = c
no_in (y ∷ z ∷ xs) i x c m = c
no_in (Idle ∷ []) i x c m = c
no_in (Pulled ∷ []) i x c m = c
no_in (Finished ∷ []) zero x c m = m
no_in (Cancelled ∷ []) zero x c m = m
no_in (Finished ∷ []) (suc i) x c m = m
no_in (Cancelled ∷ []) (suc i) x c m = m

no_idle : (xs : List InView) → OneInClosed xs → AllIdle xs → ⊥
no_idle [] c a = c
no_idle (y ∷ z ∷ xs) c a = c
no_idle (Idle ∷ []) c a = c
no_idle (Pulled ∷ []) c a = c
no_idle (Finished ∷ []) c a = let x : Finished ≡ Idle = a.0 in cc
no_idle (Cancelled ∷ []) c a = let x : Cancelled ≡ Idle = a.0 in cc

no_out : (ys : List OutView) (j : ℕ) → OutsClosed ys → IsOutOpen (slice_index_or ys j outlet.Closed) → ⊥
no_out [] j c o = o
no_out (outlet.Unpulled ∷ ys) zero c o = c.0
no_out (outlet.Available ∷ ys) zero c o = c.0
no_out (outlet.Closed ∷ ys) zero c o = o
no_out (outlet.Cancelled ∷ ys) zero c o = o
no_out (y ∷ ys) (suc j) c o = no_out ys j c.1 o

none_called : (call : Call) (v : View) → CallAllowed call v → AllClosed v → ⊥
none_called starts v may c = no_idle v.ins c.0 may.0
none_called (pulls j) v may c = no_out v.outs j c.1 (subst IsOutOpen (sym may) tt)
none_called (arrives i x) v may c = no_in v.ins i x c.0 (comes_open x (in_at v i) may)
none_called (cancels j) v may c = no_out v.outs j c.1 may

pub called_live : (l : Balancing) (c : Call) (v : View) → CallAllowed c v → port_state l v → l.core.live ≡ true
called_live l c v may r = by_live l.core.live r
  where
    by_live : (b : Bool) → port_state_by b l.log.stuck l v → b ≡ true
    by_live true r = refl
    by_live false r = absurd (none_called c v may r)

-- an open one has one input, and an output for each mark
record OpenPorts (l : Balancing) (v : View) : Type 0 where
  one : length v.ins ≡ 1
  outs : length v.outs ≡ length l.core.outs

open_ports : (l : Balancing) (v : View) → l.core.live ≡ true → port_state l v → OpenPorts l v
open_ports l v h r = by_stuck l.log.stuck (subst (λ b. port_state_by b l.log.stuck l v) h r)
  where
    by_stuck : (b : Bool) → port_state_by true b l v → OpenPorts l v
    by_stuck false s = record { one = ap (λ (w : View). length w.ins) s.0; outs = ap (λ (w : View). length w.outs) s.0 ∙ length-map l.core.outs want_view }
    by_stuck true s = record { one = ap (λ (xs : List InView). length xs) s.input; outs = s.outputs }

pub called_fits : (l : Balancing) (c : Call) (v : View) → CallAllowed c v → port_state l v → room_for (length l.core.outs) ≤ acts_for v
called_fits l c v may r =
    let p = open_ports l v (called_live l c v may r) r in
    let ins : length v.ins ≡ 1 = p.one in
    let outs : length v.outs ≡ length l.core.outs = p.outs in
    omega (arith, ins, outs)

-- ---- over histories in order

brought_one : (c : Call) (h : List Item) → brought_by c (h ∷ []) ≡ (h ++ brought_to 0 c) ∷ []
brought_one c h = one_of (brought_by c (h ∷ [])) (length-brought c (h ∷ [])) ∙ ap (λ (x : List Item). x ∷ []) (brought_at c (h ∷ []) 0 (omega arith))
  where
    one_of : (hs : List (List Item)) → length hs ≡ 1 → hs ≡ slice_index_or hs 0 [] ∷ []
    one_of [] e = absurd (omega (arith, e))
    one_of (x ∷ []) e = refl
    one_of (x ∷ y ∷ hs) e = absurd (omega (arith, e))

law_as : (x : BalanceHeld) (v : View) (took : List Item) (g h : ℕ → List Item) → ((j : ℕ) → j < length v.outs → h j ≡ g j) → BalanceLaw x v took g → BalanceLaw x v took h
law_as x v took g h e law = record {
  flow = law.flow;
  lists = law.lists;
  ends = law.ends;
  took_is = law.took_is;
  took_as = law.took_as;
  gave_is = λ j l. e j l ∙ law.gave_is j l;
  gave_as = law.gave_as;
  keeps = law.keeps;
}

keeps : (c : Call) (first old new : Balancing) (v : View) (took gave : List (List Item)) (acts : List Act) → old.core.live ≡ true → CallAllowed c v → ActsAllowed (seen c v) acts → port_state old v → Turned c old acts new
    → BalancesAs first old v took gave → BalancesAs first new (acted_all (seen c v) acts) (brought_by c took) (given_all acts gave)
keeps c first old new v took gave acts live may allowed r t law =
    let p = open_ports old v live r in
    let long : length (acted_all (seen c v) acts).outs ≡ length v.outs = acted_outs acts (seen c v) ∙ seen_outs c v in
    record {
      unmoved = law.unmoved;
      taken = law.taken ++ brought_to 0 c;
      took_is = ap (brought_by c) law.took_is ∙ brought_one c law.taken;
      ports = length-given_all acts gave ∙ law.ports ∙ sym long;
      outputs = length-given_all acts gave ∙ law.outputs;
      named = named_then (length (acted_all (seen c v) acts).outs) old.log.moves t.more new.log.moves t.grows (ap (λ n. all_below n old.log.moves) long ∙ law.named) (ap (λ n. all_below n t.more) (long ∙ p.outs) ∙ t.named);
      plan = t.plan ∙ law.plan;
      halts = t.halts;
      law = law_as (held new) (acted_all (seen c v) acts) (law.taken ++ brought_to 0 c) (λ j. slice_index_or gave j [] ++ given_on j acts) (λ j. slice_index_or (given_all acts gave) j [])
          (λ j l. let n = law.ports in given_at acts gave j (omega (arith, l, n, long)))
          (call_keeps c v law.taken (λ j. slice_index_or gave j []) acts may allowed (held old) (held new) t.turn law.law);
    }

pub handled : (c : Call) (old new : Balancing) (acts : List Act) → Obeys c (port_state old) (port_state new) acts → Turned c old acts new → Handles port_state BalancesAs c old new acts
handled c old new acts o t = record {
  obeys = o;
  stands = t.stands;
  keeps = λ first v took gave may r law. keeps c first old new v took gave acts (called_live old c v may r) may (o.allowed v may r) r t law;
}

-- ---- before anything came

idle_first : (xs : List InView) → length xs ≡ 1 → AllIdle xs → TookAs (slice_index_or xs 0 Cancelled) unended
idle_first [] l a = absurd (omega (arith, l))
idle_first (x ∷ xs) l a = rw a.0 refl

unasked_at : (ys : List OutView) (i : ℕ) → i < length ys → AllUnpulled ys → GaveAs (slice_index_or ys i outlet.Closed) unended
unasked_at [] i l a = absurd (omega (arith, l))
unasked_at (y ∷ ys) zero l a = rw a.0 refl
unasked_at (y ∷ ys) (suc i) l a = unasked_at ys i (omega (arith, l)) a.1

empty_at : (hs : List (List Item)) (i : ℕ) → AllEmpty hs → slice_index_or hs i [] ≡ []
empty_at [] i h = refl
empty_at (x ∷ hs) zero h = h.0
empty_at (x ∷ hs) (suc i) h = empty_at hs i h.1

one_empty : (hs : List (List Item)) → AllEmpty hs → length hs ≡ 1 → hs ≡ [] ∷ []
one_empty [] h l = absurd (omega (arith, l))
one_empty (x ∷ []) h l = ap (λ (y : List Item). y ∷ []) h.0
one_empty (x ∷ y ∷ hs) h l = absurd (omega (arith, l))

fresh_law : (l : Balancing) (v : View) (took gave : List (List Item)) → CallAllowed starts v → BalanceFresh l v → AllEmpty took → AllEmpty gave → length took ≡ length v.ins → length gave ≡ length v.outs → BalancesAs l l v took gave
fresh_law l v took gave may r a b m k =
    let p = open_ports l v r.live r.ports in
    let lack : ℕ → Bool = lacks l.log.left l.core.outs in
    let s : Sound l.log.left l.core = (subst (λ x. port_state_by true x l v) r.calm (subst (λ x. port_state_by x l.log.stuck l v) r.live r.ports)).1 in
    let open_now : l.core.over ≡ false = (subst (λ w. Holding w (next_move l.log.left) l.core) r.empty s.holds).0 in
    let owes : held l ≡ waits [] lack nothing_came = ap (λ x. held_by x l.log.moves lack l.core) r.live ∙ rw (r.unmoved, r.empty, open_now) refl in
    let law : BalanceLaw (waits [] lack nothing_came) v [] (λ j. slice_index_or gave j []) = record {
      flow = nothing_came;
      lists = λ j. [];
      ends = λ j. unended;
      took_is = refl;
      took_as = idle_first v.ins p.one may.0;
      gave_is = λ j l. empty_at gave j b;
      gave_as = λ j l. unasked_at v.outs j l may.1;
      keeps = (λ j. refl, (dealt_none lack [] [] refl, refl));
    } in
    record {
      unmoved = r.unmoved;
      taken = [];
      took_is = one_empty took a (m ∙ p.one);
      ports = k;
      outputs = k ∙ p.outs;
      named = ap (all_below (length v.outs)) r.unmoved;
      plan = refl;
      halts = λ e. let x : true ≡ false = sym e ∙ r.calm in cc;
      law = subst (λ x. BalanceLaw x v [] (λ j. slice_index_or gave j [])) (sym owes) law;
    }

pub started : (old new : Balancing) (acts : List Act) → Obeys starts (port_state old) (port_state new) acts → Turned starts old acts new → Starts port_state BalancesAs BalanceFresh old new acts
started old new acts o t = record {
  obeys = record { allowed = λ v may r. o.allowed v may r.ports; ports = λ v may r. o.ports v may r.ports };
  stands = t.stands;
  begins = λ v took gave may r a b m k. keeps starts old old new v took gave acts r.live may (o.allowed v may r.ports) r.ports t (fresh_law old v took gave may r a b m k);
}

-- ---- a new one

quiet_views : (k : ℕ) → map want_view (replicate k Quiet) ≡ replicate k outlet.Unpulled
quiet_views zero = refl
quiet_views (suc k) = ap (λ (ys : List OutView). outlet.Unpulled ∷ ys) (quiet_views k)

none_asks : (k : ℕ) → asks_count (replicate k Quiet) ≡ 0
none_asks zero = refl
none_asks (suc k) = none_asks k

all_open : (k : ℕ) → open_count (replicate k Quiet) ≡ k
all_open zero = refl
all_open (suc k) = ap suc (all_open k)

abbrev begun : ℕ → Core
begun k = record { live = true; outs = replicate k Quiet; queue = []; room = k; open_outs = k; waiting = None; over = false; pulled = false }

pub new_may_start : (outputs : ℕ) (l : Balancing) → 2 ≤ outputs → outputs ≤ MAX_FAN → Begins outputs l → BalanceFresh l (unpulled_outs outputs)
new_may_start k l two few b =
    let long = length-replicate k Quiet in
    let s : Sound l.log.left (begun k) = record {
      queued = none_asks k;
      holds = (refl, λ x. absurd (not_asked k l.log.left b.named x));
      count = sym (all_open k);
      some = omega (arith, two);
      few = omega (arith, long, few);
      roomy = omega (arith, long);
      named = subst (λ n. NamesOutputs n l.log.left) (sym long) b.named;
    } in
    record {
      live = ap (λ (c : Core). c.live) b.core;
      unmoved = b.moves;
      calm = b.calm;
      empty = ap (λ (c : Core). c.waiting) b.core;
      ports = new_state (ap (λ (ys : List OutView). record { ins = Idle ∷ []; outs = ys }) (sym (quiet_views k)), s);
    }
  where
    -- no output is gone
    none_gone : (k m : ℕ) → m < k → is_gone (slice_index_or (replicate k Quiet) m Gone) ≡ false
    none_gone zero m h = absurd (omega (arith, h))
    none_gone (suc k) zero h = refl
    none_gone (suc k) (suc m) h = none_gone k m (omega (arith, h))

    not_asked : (k : ℕ) (left : Option (List ℕ)) → NamesOutputs k left → asks_input (next_move left) (replicate k Quiet) [] ≡ true → ⊥
    not_asked k None h e = cc
    not_asked k (Some []) h e = cc
    not_asked k (Some (m ∷ l)) h e = let x : true ≡ false = sym e ∙ none_gone k m (next_there k (Some (m ∷ l)) m h refl) in cc

    new_state : (unpulled_outs k ≡ view_of (begun k)) × Sound l.log.left (begun k) → port_state l (unpulled_outs k)
    new_state p =
        let q : (unpulled_outs k ≡ view_of l.core) × Sound l.log.left l.core = subst (λ (c : Core). (unpulled_outs k ≡ view_of c) × Sound l.log.left c) (sym b.core) p in
        subst (λ x. port_state_by x l.log.stuck l (unpulled_outs k)) (sym (ap (λ (c : Core). c.live) b.core)) (subst (λ x. port_state_by true x l (unpulled_outs k)) (sym b.calm) q)

-- ---- it rests

ins_shut : (xs : List InView) (l : List Tree) → OneInClosed xs → EachWire IsShut (own_ins xs l)
ins_shut (Finished ∷ []) l h = (refl, tt)
ins_shut (Cancelled ∷ []) l h = (refl, tt)
ins_shut (Idle ∷ []) l h = absurd h
ins_shut (Pulled ∷ []) l h = absurd h
ins_shut [] l h = absurd h
ins_shut (x ∷ y ∷ xs) l h = absurd h

outs_shut : (n : ℕ) (ys : List OutView) (g : ℕ → List Tree) → OutsClosed ys → EachWire IsShut (own_outs n ys g)
outs_shut n [] g h = tt
outs_shut n (outlet.Closed ∷ ys) g h = (refl, outs_shut (n + 1) ys g h.1)
outs_shut n (outlet.Cancelled ∷ ys) g h = (refl, outs_shut (n + 1) ys g h.1)
outs_shut n (outlet.Unpulled ∷ ys) g h = absurd h.0
outs_shut n (outlet.Available ∷ ys) g h = absurd h.0

some_asked : (n : ℕ) (ws : List OutputState) (j : ℕ) (g : ℕ → List Tree) → slice_get ws j ≡ Some Asks → SomeWire IsAsked (own_outs n (map want_view ws) g)
some_asked n [] j g h = cc
some_asked n (Quiet ∷ ws) zero g h = cc
some_asked n (Asks ∷ ws) zero g h = inl (refl, refl)
some_asked n (Gone ∷ ws) zero g h = cc
some_asked n (w ∷ ws) (suc j) g h = inr (some_asked (n + 1) ws j g h)

some_unasked : (n : ℕ) (ws : List OutputState) (g : ℕ → List Tree) → 1 ≤ open_count ws → asks_count ws ≡ 0 → SomeWire IsUnasked (own_outs n (map want_view ws) g)
some_unasked n [] g o q = absurd (omega (arith, o))
some_unasked n (Quiet ∷ ws) g o q = inl (refl, refl)
some_unasked n (Asks ∷ ws) g o q = absurd (omega (arith, q))
some_unasked n (Gone ∷ ws) g o q = inr (some_unasked (n + 1) ws g o q)

each_unasked : (n : ℕ) (ws : List OutputState) (g : ℕ → List Tree) → asks_count ws ≡ 0 → EachWire (λ o. IsShut o ⊎ IsUnasked o) (own_outs n (map want_view ws) g)
each_unasked n [] g q = tt
each_unasked n (Quiet ∷ ws) g q = (inr (refl, refl), each_unasked (n + 1) ws g q)
each_unasked n (Asks ∷ ws) g q = absurd (omega (arith, q))
each_unasked n (Gone ∷ ws) g q = (inl refl, each_unasked (n + 1) ws g q)

module _ (l : Core) (took : List Tree) (g : ℕ → List Tree) where
  nobody : (plan : Option (List ℕ)) → Sound plan l → asks_count l.outs ≡ 0 → BalanceRests (own_input (input_of l.over l.pulled) took) (own_outs 0 (map want_view l.outs) g)
  nobody plan s q = inr (some_unasked 0 l.outs g (let a = s.some in let b = s.count in omega (arith, a, b)) q, each_unasked 0 l.outs g q, any_input l.over l.pulled)
    where
      any_input : (b p : Bool) → WaitsIdlesOrShut (own_input (input_of b p) took)
      any_input true p = inr (inr refl)
      any_input false true = inl (refl, refl)
      any_input false false = inr (inl (inr (refl, refl)))

  input_waits : l.over ≡ false → l.pulled ≡ true → Waits (own_input (input_of l.over l.pulled) took)
  input_waits off on = rw (off, on) (refl, refl)

  free_rests : Sound None l → (q : List ℕ) (w : Option Tree) → l.queue ≡ q → l.waiting ≡ w → Queued l.outs q → Holding w Free l → BalanceRests (own_input (input_of l.over l.pulled) took) (own_outs 0 (map want_view l.outs) g)
  free_rests s [] w e x r h = nobody None s r
  free_rests s (j ∷ q) None e x r h =
      let on : l.pulled ≡ true = h.1 (rw e refl) in
      inl (some_asked 0 l.outs j g r.0, input_waits h.0 on)
  free_rests s (j ∷ q) (Some t) e x r h = let z : Sends j ≡ Stays = sym (ap (λ k. choice_of Free l.outs k) e) ∙ h.0 in cc

  -- the output of the next move, where it is open and not asked
  quiet_out : (n m : ℕ) (ws : List OutputState) → slice_index_or ws m Gone ≡ Quiet → OutputUnasked m (own_outs n (map want_view ws) g)
  quiet_out n m [] h o e = cc
  quiet_out n zero (Quiet ∷ ws) h o e = let x : own_output outlet.Unpulled (g n) ≡ o = cc in subst (λ (u : SeenWire). IsUnasked u) x (refl, refl)
  quiet_out n zero (Asks ∷ ws) h o e = cc
  quiet_out n zero (Gone ∷ ws) h o e = cc
  quiet_out n (suc m) (w ∷ ws) h o e = quiet_out (n + 1) m ws h o e

  move_rests : (m : ℕ) (left : List ℕ) → Sound (Some (m ∷ left)) l → (w : Option Tree) → l.waiting ≡ w → Holding w (Move m) l → BalanceRestsBy (Move m) (own_input (input_of l.over l.pulled) took) (own_outs 0 (map want_view l.outs) g)
  move_rests m left s w x h = by_state (slice_index_or l.outs m Gone) refl w h
    where
      asked : (k : List ℕ) → l.queue ≡ k → asks_input (Move m) l.outs k ≡ true → Holding None (Move m) l → Waits (own_input (input_of l.over l.pulled) took)
      asked k e a h = input_waits h.0 (h.1 (ap (λ q. asks_input (Move m) l.outs q) e ∙ a))

      some_queued : (k : List ℕ) → l.queue ≡ k → slice_index_or l.outs m Gone ≡ Asks → asks_input (Move m) l.outs k ≡ true
      some_queued [] e a = absurd (queue_some l.outs m (subst (λ q. Queued l.outs q) e s.queued) (index_asks l.outs m a))
      some_queued (j ∷ k) e a = refl

      gone_queued : (k : List ℕ) → slice_index_or l.outs m Gone ≡ Gone → asks_input (Move m) l.outs k ≡ true
      gone_queued [] a = ap is_gone a
      gone_queued (j ∷ k) a = refl

      by_state : (o : OutputState) → slice_index_or l.outs m Gone ≡ o → (w : Option Tree) → Holding w (Move m) l → BalanceRestsBy (Move m) (own_input (input_of l.over l.pulled) took) (own_outs 0 (map want_view l.outs) g)
      by_state Quiet e w h = inr (quiet_out 0 m l.outs e)
      by_state Asks e None h = inl (asked l.queue refl (some_queued l.queue refl e) h)
      by_state Gone e None h = inl (asked l.queue refl (gone_queued l.queue e) h)
      by_state Asks e (Some t) h = let z : Sends m ≡ Stays = sym (ap (choice_at m) e) ∙ h.0 in cc
      by_state Gone e (Some t) h = let z : Drops m ≡ Stays = sym (ap (choice_at m) e) ∙ h.0 in cc

  rests_by : (plan : Option (List ℕ)) → Sound plan l → BalanceRestsBy (next_move plan) (own_input (input_of l.over l.pulled) took) (own_outs 0 (map want_view l.outs) g)
  rests_by None s = free_rests s l.queue l.waiting refl refl s.queued s.holds
  rests_by (Some []) s = tt
  rests_by (Some (m ∷ left)) s = move_rests m left s l.waiting refl s.holds

rests_own : (l : Balancing) (v : View) (took : List Tree) (g : ℕ → List Tree) → l.log.stuck ≡ false → port_state l v → BalanceRestsOwn (next_move l.log.left) v took g
rests_own l v took g calm r = by_live l.core.live (subst (λ b. port_state_by l.core.live b l v) calm r)
  where
    by_live : (b : Bool) → port_state_by b false l v → BalanceRestsOwn (next_move l.log.left) v took g
    by_live true r = subst (λ w. BalanceRestsOwn (next_move l.log.left) w took g) (sym r.0) (inr (rests_by l.core took g l.log.left r.1))
    by_live false r = inl (ins_shut v.ins took r.0, outs_shut 0 v.outs g r.1)

pub logic_rests : (first now : Balancing) (v : View) (took gave : List (List Item)) → now.log.stuck ≡ false → port_state now v → (law : BalancesAs first now v took gave) → BalanceRestsOwn (next_move now.log.left) v law.law.flow.list law.law.lists
logic_rests first now v took gave calm r law = rests_own now v law.law.flow.list law.law.lists calm r

-- ---- outlooks

less_is : (m n : ℕ) → m ≤ n → nat_le m n ≡ true
less_is m n h = grind (arith, nat_tests)

fits_by : (n : ℕ) (moves : List ℕ) (o : Outlook) (f : Inflow) → all_below n moves ≡ true → Agrees o f.list f.end → length moves ≤ length f.list → balance_fits n moves o ≡ true
fits_by n moves o f h a q =
    let p : length f.list ≤ length o.list = prefix_length (agrees_prefix o f.list f.end a) in
    and_from (all_below n moves) (nat_le (length moves) (length o.list)) h (less_is (length moves) (length o.list) (omega (arith, p, q)))

ends_as : (o : Outlook) (l : List Tree) (e : End) → e ≡ ended → Agrees o l e → IsTrue o.ends × (l ≡ o.list)
ends_as o l e is a = subst (λ x. Agrees o l x) is a

pub moves_held : (l : Balancing) → moves_of (held l) ≡ l.log.moves
moves_held l = by_live l.core.live
  where
    by_live : (b : Bool) → moves_of (held_by b l.log.moves (lacks l.log.left l.core.outs) l.core) ≡ l.log.moves
    by_live true = refl
    by_live false = refl

lacks_held : (l : Balancing) (j : ℕ) → lacks_of (held l) j ≡ lacks l.log.left l.core.outs j
lacks_held l j = by_live l.core.live
  where
    by_live : (b : Bool) → lacks_of (held_by b l.log.moves (lacks l.log.left l.core.outs) l.core) j ≡ lacks l.log.left l.core.outs j
    by_live true = refl
    by_live false = refl

pub kept_stands : (x : BalanceHeld) (f : Inflow) (g : ℕ → List Tree) (e : ℕ → End) (j : ℕ) → BalanceKeeps x f g e → DealStands (lacks_of x j) (moves_of x) j f (g j) (e j)
kept_stands (waits moves lack w) f g e j k = deal_stands lack moves f w.list g j (e j) k.1.0 (λ n. absurd (n (k.0 j))) (λ x. let y : unended ≡ ended = sym (k.0 j) ∙ x in cc) (λ c x. let y : unended ≡ failed c = sym (k.0 j) ∙ x in cc)
kept_stands (shut moves lack) f g e j k = k j

-- one that is free was free before a call
pub free_before : (old new : Balancing) → planned new.log ≡ planned old.log → new.log.left ≡ None → old.log.left ≡ None
free_before old new same free = by_left old.log.left refl
  where
    by_left : (l : Option (List ℕ)) → old.log.left ≡ l → l ≡ None
    by_left None e = refl
    by_left (Some ms) e =
        let a : planned old.log ≡ Some (old.log.moves ++ ms) = ap (λ p. plan_of old.log.moves p) e in
        let b : planned new.log ≡ None = ap (λ p. plan_of new.log.moves p) free in
        let z : Some (old.log.moves ++ ms) ≡ None = sym a ∙ sym same ∙ b in cc

-- one that was handed in free is free still, and never stops
pub stays_free : (first now : Balancing) (v : View) (took gave : List (List Item)) → first.log.left ≡ None → BalancesAs first now v took gave → IsFreeLog now.log
stays_free first now v took gave free law = record { none = none; calm = by_stuck now.log.stuck refl }
  where
    by_left : (l : Option (List ℕ)) → now.log.left ≡ l → l ≡ None
    by_left None e = refl
    by_left (Some ms) e =
        let a : planned now.log ≡ Some (now.log.moves ++ ms) = ap (λ p. plan_of now.log.moves p) e in
        let b : planned first.log ≡ None = ap (λ p. plan_of first.log.moves p) free in
        let z : Some (now.log.moves ++ ms) ≡ None = sym a ∙ law.plan ∙ b in cc

    none : now.log.left ≡ None
    none = by_left now.log.left refl

    by_stuck : (b : Bool) → now.log.stuck ≡ b → now.log.stuck ≡ false
    by_stuck false e = e
    by_stuck true e = let h = law.halts e in let z : true ≡ false = sym (ap (λ p. may_end (next_move p)) none) ∙ h.moves_on in cc

-- what it follows is what it was handed in with
pub plan_begins : (first now : Balancing) (v : View) (took gave : List (List Item)) → BalancesAs first now v took gave → planned now.log ≡ first.log.left
plan_begins first now v took gave law = law.plan ∙ by_left first.log.left first.log.moves law.unmoved
  where
    by_left : (l : Option (List ℕ)) (ms : List ℕ) → ms ≡ [] → plan_of ms l ≡ l
    by_left None ms e = refl
    by_left (Some l) ms e = ap (λ (x : List ℕ). Some (x ++ l)) e

module _ (first now : Balancing) (v : View) (took gave : List (List Item)) (law : BalancesAs first now v took gave) where
  pub stands : (j : ℕ) → DealStands (lacks now.log.left now.core.outs j) now.log.moves j law.law.flow (law.law.lists j) (law.law.ends j)
  stands j =
      subst (λ ms. DealStands (lacks now.log.left now.core.outs j) ms j law.law.flow (law.law.lists j) (law.law.ends j)) (moves_held now)
      (subst (λ b. DealStands b (moves_of (held now)) j law.law.flow (law.law.lists j) (law.law.ends j)) (lacks_held now j) (kept_stands (held now) law.law.flow law.law.lists law.law.ends j law.law.keeps))

  -- a free one gave each output all its elements
  pub free_stands : first.log.left ≡ None → (j : ℕ) → BalanceStands now.log.moves j law.law.flow (law.law.lists j) (law.law.ends j)
  free_stands free j =
      let f = stays_free first now v took gave free law in
      as_balance (lacks now.log.left now.core.outs j) now.log.moves j law.law.flow (law.law.lists j) (law.law.ends j) (ap (λ p. lacks p now.core.outs j) f.none) (stands j)

  pub moves_fit : (is : List Outlook) → Agrees (head_of is) law.law.flow.list law.law.flow.end → balance_fits (length v.outs) now.log.moves (head_of is) ≡ true
  moves_fit is h = fits_by (length v.outs) now.log.moves (head_of is) law.law.flow law.named h (stands 0).taken

  pub output_agrees : (is : List Outlook) → Agrees (head_of is) law.law.flow.list law.law.flow.end → (g : Graph) (w : World) (node outputs : ℕ) (d : Decider) (j : ℕ) → w.moves node ≡ now.log.moves → Agrees (node_outlook g w node (Balance outputs) d is j) (law.law.lists j) (law.law.ends j)
  output_agrees is h g w node outputs d j same =
      subst (λ ms. Agrees (balance_outlook ms (head_of is) j) (law.law.lists j) (law.law.ends j)) (sym same)
      (deal_agrees (lacks now.log.left now.core.outs j) now.log.moves j (head_of is) law.law.flow (law.law.lists j) (law.law.ends j) h (stands j))

  -- a misfit has its cause: the input ended, and no element is left
  pub has_cause : now.log.stuck ≡ true → (o : Outlook) → Agrees o law.law.flow.list law.law.flow.end → BalanceMisfits (next_move now.log.left) now.log.moves o
  has_cause stuck o a = by_left now.log.left (law.halts stuck).moves_on
    where
      halted : CannotMove now
      halted = law.halts stuck

      keeps : BalanceKeeps (held_by true now.log.moves (lacks now.log.left now.core.outs) now.core) law.law.flow law.law.lists law.law.ends
      keeps = subst (λ b. BalanceKeeps (held_by b now.log.moves (lacks now.log.left now.core.outs) now.core) law.law.flow law.law.lists law.law.ends) halted.live_is law.law.keeps

      all_given : length now.log.moves ≡ length law.law.flow.list
      all_given =
          let k = keeps.1.0 in
          let left : drop (length now.log.moves) law.law.flow.list ≡ [] = k.left ∙ ap option_to_list halted.none in
          let n : length (drop (length now.log.moves) law.law.flow.list) ≡ 0 = ap length left in
          let m = drop_length now.log.moves law.law.flow.list k.within in
          omega (arith, n, m)

      over_now : law.law.flow.end ≡ ended
      over_now = sym keeps.1.1 ∙ ap end_by halted.over_is

      ends_there : EndsAt o (length now.log.moves)
      ends_there = let e = ends_as o law.law.flow.list law.law.flow.end over_now a in (e.0, sym (ap length e.1) ∙ sym all_given)

      by_left : (l : Option (List ℕ)) → may_end (next_move l) ≡ false → BalanceMisfits (next_move l) now.log.moves o
      by_left None e = cc
      by_left (Some []) e = cc
      by_left (Some (m ∷ l)) e = ends_there
