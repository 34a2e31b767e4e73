-- A node that cancelled one of its inputs has closed each of its outputs, whatever its kind is.
use Rattle.std.specs.Prelude.{slice_get, Option, None, Some}
use Rattle.std.proofs.Common.{◌≡◌, ℕ, zero, suc, ◌+◌, ◌==◌, Bool, true, false, List, [], ◌∷◌, refl, sym, subst}
use Rattle.elem_core.specs.Tree.{Tree}
use Rattle.port_core.specs.View.{View, OneOneOf}
use Rattle.port_core.specs.declared.view.InView.{InView}
use Rattle.port_core.specs.declared.view.InView.TheVariants.{Idle, Pulled, Finished, Cancelled}
use Rattle.port_core.specs.declared.view.OutView.{OutView}
use Rattle.port_core.specs.declared.view.OutView.TheVariants as outlet
use Rattle.port_core.specs.Picks.{next_move}
use Rattle.port_core.specs.declared.pick_log.Next.{Next}
use Rattle.port_core.specs.declared.pick_log.Next.TheVariants.{Free, Move, UsedUp}
use Rattle.stream_model.specs.Outlook.{End, unended, ended, failed}
use Rattle.stream_model.specs.FanIn.{Tagged}
use Rattle.stream_model.specs.Linear.{Work}
use Rattle.stage_core.specs.OpenOuts.{OutsClosed}
use Rattle.graph_stage.specs.State.{CustomState}
use Rattle.stage_core.specs.Row.{OutClosed}
use Rattle.stage_core.specs.Seats.{OneClosed}
use Rattle.stage_core.specs.declared.phase.Phase.{Phase}
use Rattle.stage_core.specs.declared.phase.Phase.TheVariants.{New, Open, Closed}
use Rattle.stage_linear.specs.Handling.{LinearPortState}
use Rattle.stage_linear.specs.States as linear
use Rattle.stage_linear.specs.declared.course.Course.{Course}
use Rattle.stage_linear.specs.declared.course.Course.TheVariants.{Waits, Idles, Leaves, Closes, Ends}
use Rattle.step_work.specs.declared.ending.StateEnd.{StateEnd}
use Rattle.step_work.specs.declared.ending.StateEnd.TheVariants as ending
use Rattle.stage_state.specs.States as keeping
use Rattle.stage_state.specs.Handling.{StatePortState}
use Rattle.stage_state.specs.declared.logic.StateLogic.{StateLogic}
use Rattle.stage_state.specs.declared.logic.StateLogic.TheVariants as state
use Rattle.stage_dropping.specs.Droppings.{Dropping, in_of, drop_at, drop_in}
use Rattle.stage_dropping.specs.Recoverings.{Recover, StillBy, recover_at, recover_in}
use Rattle.stage_switch.specs.States.{Valve, passing_port_state, valve_in}
use Rattle.stage_sub.specs.States as sub
use Rattle.stage_sub.specs.Leds as led
use Rattle.stage_sub.specs.Leds.{Led}
use Rattle.line_chain.specs.Line.{Line}
use Rattle.stage_merge.specs.Mergings as merging
use Rattle.stage_merge.specs.declared.merging.Queued.{Queued}
use Rattle.stage_in.specs.Logics.{InPortState}
use Rattle.stage_in.specs.Seats.{seat, seats}
use Rattle.stage_in.specs.Takings as taking
use Rattle.stage_in.specs.Pairings as pairing
use Rattle.stage_in.specs.Sortings as sorted
use Rattle.stage_in.specs.Zippings as zipping
use Rattle.stage_in.specs.declared.inlet.Inlet.{Inlet}
use Rattle.stage_in.specs.declared.logic.InLogic.{InLogic}
use Rattle.stage_in.specs.declared.logic.InLogic.TheVariants as fan_in
use Rattle.stage_out.specs.Balancings as balance
use Rattle.stage_out.specs.Copies.{input_by}
use Rattle.stage_out.specs.CopyStates as copy
use Rattle.stage_out.specs.PartitionStates as part
use Rattle.stage_out.specs.OutLogics as out
use Rattle.stage_out.specs.declared.logic.OutLogic.{OutLogic}
use Rattle.stage_out.specs.declared.logic.OutLogic.TheVariants as fan_out
use Rattle.stage_out.specs.declared.machines.OutMachines.TheVariants.{Copies, Deals}
use Rattle.nodes.specs.Ignoring.{ignore_port_state_in}
use Rattle.nodes.specs.Nodes.{node_port_state}
use Rattle.nodes.specs.OnePort.{output_only}
use Rattle.nodes.specs.Ports.{OneOutOf, OneInOf}
use Rattle.nodes.specs.Sink.{sink_port_state_in}
use Rattle.nodes.specs.Source.{lines_port_state_in}
use Rattle.nodes.specs.declared.node.IslandNode.{IslandNode}
use Rattle.nodes.specs.declared.node.IslandNode.TheVariants as node
use Rattle.run_blueprint.proofs.Profiles.{some_one}

-- ---- nodes with one port at most on each side

source_left : (P : OutView → Type 0) (is : List InView) (os : List OutView) (p : ℕ) → OneOutOf P is os → slice_get is p ≡ Some Cancelled → OutsClosed os
source_left P [] os p h e = absurd cc
source_left P (i ∷ is) os p h e = absurd h

sink_left : (P : InView → Type 0) (is : List InView) (os : List OutView) → OneInOf P is os → OutsClosed os
sink_left P [] os h = absurd h
sink_left P (i ∷ []) [] h = tt
sink_left P (i ∷ []) (y ∷ os) h = absurd h
sink_left P (i ∷ j ∷ is) os h = absurd h

one_left : (P : InView → OutView → Type 0) → ((y : OutView) → P Cancelled y → OutClosed y) → (is : List InView) (os : List OutView) (p : ℕ) → OneOneOf P is os → slice_get is p ≡ Some Cancelled → OutsClosed os
one_left P closes [] os p h e = absurd h
one_left P closes (i ∷ []) [] p h e = absurd h
one_left P closes (i ∷ []) (y ∷ []) zero h e = (closes y (subst (λ (x : InView). P x y) (some_one i Cancelled e) h), tt)
one_left P closes (i ∷ []) (y ∷ []) (suc p) h e = absurd cc
one_left P closes (i ∷ []) (y ∷ z ∷ os) p h e = absurd h
one_left P closes (i ∷ j ∷ is) os p h e = absurd h

-- ---- stages with one input and one output

linear_left : (ph : Phase) (c : Course) (p : List Tree) (w : Work) (r : Bool) (y : OutView) → linear.port_state_in ph c p w r Cancelled y → OutClosed y
linear_left New c p w r y h = absurd h
linear_left Open Waits p w r y h = absurd h
linear_left Open Idles p w r y h = absurd h
linear_left Open Leaves p w r y h = absurd h
linear_left Open Closes p w r y h = absurd h
linear_left Open Ends p w r y h = absurd h
linear_left Closed c p w r outlet.Unpulled h = absurd h
linear_left Closed c p w r outlet.Available h = absurd h
linear_left Closed c p w r outlet.Closed h = tt
linear_left Closed c p w r outlet.Cancelled h = tt

keep_left : (ph : Phase) (e : StateEnd) (a : Bool) (p : List Tree) (w : Work) (y : OutView) → keeping.keep_port_state ph e a p w Cancelled y → OutClosed y
keep_left New ending.Lasting true p w y h = absurd h
keep_left New ending.Lasting false p w y h = absurd h
keep_left New ending.Ended a p w y h = absurd h
keep_left New (ending.Failed c) a p w y h = absurd h
keep_left Open ending.Lasting true p w y h = absurd h
keep_left Open ending.Lasting false p w y h = absurd h
keep_left Open ending.Ended true p w y h = absurd h
keep_left Open ending.Ended false p w y h = absurd h
keep_left Open (ending.Failed c) true p w y h = absurd h
keep_left Open (ending.Failed c) false p w y h = absurd h
keep_left Closed e a p w outlet.Unpulled h = absurd h
keep_left Closed e a p w outlet.Available h = absurd h
keep_left Closed e a p w outlet.Closed h = tt
keep_left Closed e a p w outlet.Cancelled h = tt

buffer_left : (n : ℕ) (ph : Phase) (e : StateEnd) (a : Bool) (p : List Tree) (y : OutView) → keeping.buffer_port_state n ph e a p Cancelled y → OutClosed y
buffer_left n New ending.Lasting true p y h = absurd h
buffer_left n New ending.Lasting false p y h = absurd h
buffer_left n New ending.Ended a p y h = absurd h
buffer_left n New (ending.Failed c) a p y h = absurd h
buffer_left n Open ending.Lasting true p y h = absurd h
buffer_left n Open ending.Lasting false p y h = absurd h
buffer_left n Open ending.Ended true p y h = absurd h
buffer_left n Open ending.Ended false p y h = absurd h
buffer_left n Open (ending.Failed c) a p y h = absurd h
buffer_left n Closed e a p outlet.Unpulled h = absurd h
buffer_left n Closed e a p outlet.Available h = absurd h
buffer_left n Closed e a p outlet.Closed h = tt
buffer_left n Closed e a p outlet.Cancelled h = tt

machine_left : (n : Option ℕ) (ph : Phase) (e : StateEnd) (a : Bool) (p : List Tree) (w : Work) (y : OutView) → keeping.port_state_by n ph e a p w Cancelled y → OutClosed y
machine_left None ph e a p w y h = keep_left ph e a p w y h
machine_left (Some n) ph e a p w y h = buffer_left n ph e a p y h

uncancelled : (e : End) (b : Bool) → Cancelled ≡ in_of e b → ⊥
uncancelled unended true h = cc
uncancelled unended false h = cc
uncancelled ended b h = cc
uncancelled (failed c) b h = cc

drop_left : (l : Dropping) (ph : Phase) (y : OutView) → drop_at l ph Cancelled y → OutClosed y
drop_left l New y h = absurd (uncancelled l.after l.pulled h.0.input)
drop_left l Open y h = absurd (uncancelled l.after l.pulled h.0.input)
drop_left l Closed outlet.Unpulled h = absurd h
drop_left l Closed outlet.Available h = absurd h
drop_left l Closed outlet.Closed h = tt
drop_left l Closed outlet.Cancelled h = tt

drop_gone : (l : Dropping) (stuck : Bool) (y : OutView) → drop_in stuck l Cancelled y → OutClosed y
drop_gone l false y h = drop_left l l.phase y h
drop_gone l true y h = absurd (h.uncancelled refl)

recover_left : (l : Recover) (ph : Phase) (over asked : Bool) (y : OutView) → recover_at l ph over asked Cancelled y → OutClosed y
recover_left l New true asked y h = absurd h
recover_left l New false true y h = absurd h
recover_left l New false false y h = absurd h
recover_left l Open true true y h = absurd h
recover_left l Open true false y h = absurd h
recover_left l Open false true y h = absurd h
recover_left l Open false false y h = absurd h
recover_left l Closed over asked outlet.Unpulled h = absurd h
recover_left l Closed over asked outlet.Available h = absurd h
recover_left l Closed over asked outlet.Closed h = tt
recover_left l Closed over asked outlet.Cancelled h = tt

passing_left : (ph : Phase) (y : OutView) → passing_port_state ph Cancelled y → OutClosed y
passing_left New y h = absurd h
passing_left Open y h = absurd h
passing_left Closed outlet.Unpulled h = absurd h
passing_left Closed outlet.Available h = absurd h
passing_left Closed outlet.Closed h = tt
passing_left Closed outlet.Cancelled h = tt

valve_gone : (l : Valve) (stuck : Bool) (y : OutView) → valve_in stuck l Cancelled y → OutClosed y
valve_gone l false y h = passing_left l.phase y h.0
valve_gone l true y h = absurd (let z : Cancelled ≡ Finished = h.1.0 in cc)

recover_still : (next : Next) (stuck : Bool) → StillBy next stuck Cancelled → ⊥
recover_still Free stuck h = h
recover_still (Move k) stuck h = h.1 refl
recover_still UsedUp stuck h = let z : Cancelled ≡ Finished = h.1 in cc

recover_gone : (l : Recover) (still : Bool) (y : OutView) → recover_in still l Cancelled y → OutClosed y
recover_gone l false y h = recover_left l l.phase l.over l.asked y h.0
recover_gone l true y h = absurd (recover_still (next_move l.left) l.stuck h.1.1)

state_left : (x : StateLogic) (v : View) (p : ℕ) → StatePortState x v → slice_get v.ins p ≡ Some Cancelled → OutsClosed v.outs
state_left (state.Machine l) v p h e = one_left (keeping.port_state_by l.size l.phase l.ending l.asked l.pending l.stage.work) (machine_left l.size l.phase l.ending l.asked l.pending l.stage.work) v.ins v.outs p h.ports e
state_left (state.Dropping l) v p h e = one_left (drop_in l.log.stuck l) (drop_gone l l.log.stuck) v.ins v.outs p h.ports e
state_left (state.Recovering l) v p h e = one_left (recover_in l.still l) (recover_gone l l.still) v.ins v.outs p h.ports e
state_left (state.Obeying l) v p h e = one_left (valve_in l.stuck l) (valve_gone l l.stuck) v.ins v.outs p h.ports.0 e
state_left (state.Tripping l) v p h e = one_left (passing_port_state l.phase) (passing_left l.phase) v.ins v.outs p h.ports e

sub_left : (ph : Phase) (over asked : Bool) (p : List Tagged) (y : OutView) → sub.port_state_in ph over asked p Cancelled y → OutClosed y
sub_left New true asked p y h = absurd h
sub_left New false true p y h = absurd h
sub_left New false false p y h = absurd h
sub_left Open true true p y h = absurd h
sub_left Open true false p y h = absurd h
sub_left Open false true p y h = absurd h
sub_left Open false false p y h = absurd h
sub_left Closed over asked p outlet.Unpulled h = absurd h
sub_left Closed over asked p outlet.Available h = absurd h
sub_left Closed over asked p outlet.Closed h = tt
sub_left Closed over asked p outlet.Cancelled h = tt

given_input : (over asked : Bool) (p : List Tagged) → Cancelled ≡ led.led_input over asked p → ⊥
given_input true asked p e = cc
given_input false true [] e = cc
given_input false true (x ∷ p) e = cc
given_input false false p e = cc

led_left : (l : Led Line) (ph : Phase) (y : OutView) → led.led_at l ph Cancelled y → OutClosed y
led_left l New y h = absurd (given_input l.logic.over l.logic.asked l.logic.pending h.rests.input)
led_left l Open y h = absurd (given_input l.logic.over l.logic.asked l.logic.pending h.input)
led_left l Closed outlet.Unpulled h = absurd h
led_left l Closed outlet.Available h = absurd h
led_left l Closed outlet.Closed h = tt
led_left l Closed outlet.Cancelled h = tt

led_gone : (l : Led Line) (stuck : Bool) (y : OutView) → led.led_in stuck l Cancelled y → OutClosed y
led_gone l false y h = led_left l l.logic.phase y h
led_gone l true y h = absurd (h.uncancelled refl)

subs_left : (follows : Option (List ℕ)) (l : Led Line) (v : View) (p : ℕ) → led.port_state_by follows l v → slice_get v.ins p ≡ Some Cancelled → OutsClosed v.outs
subs_left None l v p h e = one_left (sub.port_state_in l.logic.phase l.logic.over l.logic.asked l.logic.pending) (sub_left l.logic.phase l.logic.over l.logic.asked l.logic.pending) v.ins v.outs p h e
subs_left (Some moves) l v p h e = one_left (led.led_in l.stuck l) (led_gone l l.stuck) v.ins v.outs p h e

-- ---- stages with several inputs

one_closed : (os : List OutView) → OneClosed os → OutsClosed os
one_closed [] h = absurd h
one_closed (y ∷ []) h = (h, tt)
one_closed (y ∷ z ∷ os) h = absurd h

seat_open : (b here asked : Bool) → seat b here asked ≡ Cancelled → ⊥
seat_open true here asked e = cc
seat_open false true true e = cc
seat_open false true false e = cc
seat_open false false asked e = cc

seats_open : (n : ℕ) (over : List Bool) (c : ℕ) (asked : Bool) (p : ℕ) → slice_get (seats n over c asked) p ≡ Some Cancelled → ⊥
seats_open n [] c asked p e = cc
seats_open n (b ∷ bs) c asked zero e = seat_open b (n == c) asked (some_one (seat b (n == c) asked) Cancelled e)
seats_open n (b ∷ bs) c asked (suc p) e = seats_open (n + 1) bs c asked p e

queued_open : (b : Bool) (l : List Tree) → merging.input_view b l ≡ Cancelled → ⊥
queued_open true l e = cc
queued_open false [] e = cc
queued_open false (t ∷ l) e = cc

places_open : (n : ℕ) (over : List Bool) (q : List Queued) (p : ℕ) → slice_get (merging.places n over q) p ≡ Some Cancelled → ⊥
places_open n [] q p e = cc
places_open n (b ∷ bs) q zero e = queued_open b (merging.of_port n q) (some_one (merging.input_view b (merging.of_port n q)) Cancelled e)
places_open n (b ∷ bs) q (suc p) e = places_open (n + 1) bs q p e

idles_open : (over : List Bool) (p : ℕ) → slice_get (merging.idles over) p ≡ Some Cancelled → ⊥
idles_open [] p e = cc
idles_open (b ∷ bs) zero e = cc
idles_open (b ∷ bs) (suc p) e = idles_open bs p e

inlet_open : (i : Inlet) → pairing.inlet_view i ≡ Cancelled → ⊥
inlet_open i e = by_over i.over refl
  where
    by_held : (o : Option Tree) → i.held ≡ o → i.over ≡ false → ⊥
    by_held None h f = let pulled : Pulled ≡ Cancelled = rw (f, h) at e in cc
    by_held (Some t) h f = let idle : Idle ≡ Cancelled = rw (f, h) at e in cc

    by_over : (b : Bool) → i.over ≡ b → ⊥
    by_over true f = let finished : Finished ≡ Cancelled = rw f at e in cc
    by_over false f = by_held i.held refl f

-- where what is known of the ports is this, no input of which is cancelled
open_left : (v w : View) (p : ℕ) → v ≡ w → (slice_get w.ins p ≡ Some Cancelled → ⊥) → slice_get v.ins p ≡ Some Cancelled → OutsClosed v.outs
open_left v w p is none e = absurd (none (subst (λ (x : View). slice_get x.ins p ≡ Some Cancelled) is e))

taking_left : (live : Bool) (l : taking.Taking) (v : View) (p : ℕ) → taking.port_state_by live l v → slice_get v.ins p ≡ Some Cancelled → OutsClosed v.outs
taking_left true l v p h e = open_left v (taking.view_of l) p h.0 (seats_open 0 l.over l.current l.asked p) e
taking_left false l v p h e = one_closed v.outs h.1

new_open : (p : ℕ) → slice_get pairing.new_view.ins p ≡ Some Cancelled → ⊥
new_open zero e = cc
new_open (suc zero) e = cc
new_open (suc (suc p)) e = cc

pair_open : (l : pairing.Pairing) (p : ℕ) → slice_get (pairing.pair_view l).ins p ≡ Some Cancelled → ⊥
pair_open l zero e = inlet_open l.left (some_one (pairing.inlet_view l.left) Cancelled e)
pair_open l (suc zero) e = inlet_open l.right (some_one (pairing.inlet_view l.right) Cancelled e)
pair_open l (suc (suc p)) e = cc

pair_left : (Sound : pairing.Pairing → Type 0) (ph : Phase) (l : pairing.Pairing) (v : View) (p : ℕ) → pairing.port_state_by Sound ph l v → slice_get v.ins p ≡ Some Cancelled → OutsClosed v.outs
pair_left Sound New l v p h e = open_left v pairing.new_view p h.0 (new_open p) e
pair_left Sound Open l v p h e = open_left v (pairing.pair_view l) p h.0 (pair_open l p) e
pair_left Sound Closed l v p h e = one_closed v.outs h.1

merge_left : (ph : Phase) (plan : Option (List ℕ)) (l : merging.Core) (v : View) (p : ℕ) → merging.port_state_by ph plan l v → slice_get v.ins p ≡ Some Cancelled → OutsClosed v.outs
merge_left New plan l v p h e = open_left v (merging.new_view l) p h.0 (idles_open l.over p) e
merge_left Open plan l v p h e = open_left v (merging.view_of l) p h.0 (places_open 0 l.over l.queue p) e
merge_left Closed plan l v p h e = one_closed v.outs h.1

merge_gone : (stuck : Bool) (l : merging.Merging) (v : View) (p : ℕ) → merging.port_state_in stuck l v → slice_get v.ins p ≡ Some Cancelled → OutsClosed v.outs
merge_gone false l v p h e = merge_left l.core.phase l.log.left l.core v p h e
merge_gone true l v p h e = absurd (h.uncancelled p e)

in_left : (x : InLogic) (v : View) (p : ℕ) → InPortState x v → slice_get v.ins p ≡ Some Cancelled → OutsClosed v.outs
in_left (fan_in.Taking l) v p h e = taking_left l.live l v p h.ports e
in_left (fan_in.Sorting l) v p h e = pair_left sorted.Sound l.phase l v p h.ports e
in_left (fan_in.Zipping l) v p h e = pair_left zipping.Sound l.phase l v p h.ports e
in_left (fan_in.Merging l) v p h e = merge_gone l.log.stuck l v p h.ports e

-- ---- stages with several outputs

one_open : (i : InView) (p : ℕ) → (i ≡ Cancelled → ⊥) → slice_get (i ∷ []) p ≡ Some Cancelled → ⊥
one_open i zero none e = none (some_one i Cancelled e)
one_open i (suc p) none e = cc

copied_open : (n : ℕ) → input_by n ≡ Cancelled → ⊥
copied_open zero e = cc
copied_open (suc n) e = cc

dealt_open : (over waits : Bool) → part.input_of over waits ≡ Cancelled → ⊥
dealt_open true waits e = cc
dealt_open false true e = cc
dealt_open false false e = cc

balanced_open : (over pulled : Bool) → balance.input_of over pulled ≡ Cancelled → ⊥
balanced_open true pulled e = cc
balanced_open false true e = cc
balanced_open false false e = cc

copy_left : (live : Bool) (l : copy.CopyLogic) (v : View) (p : ℕ) → copy.port_state_by live l v → slice_get v.ins p ≡ Some Cancelled → OutsClosed v.outs
copy_left true l v p h e = open_left v (copy.view_of l) p h.0 (one_open (input_by l.quiet) p (copied_open l.quiet)) e
copy_left false l v p h e = h.1

part_left : (live : Bool) (l : part.PartitionLogic) (v : View) (p : ℕ) → part.port_state_by live l v → slice_get v.ins p ≡ Some Cancelled → OutsClosed v.outs
part_left true l v p h e = open_left v (part.view_of l) p h.0 (one_open (part.input_of l.over l.waits) p (dealt_open l.over l.waits)) e
part_left false l v p h e = h.1

balance_left : (live stuck : Bool) (l : balance.Balancing) (v : View) (p : ℕ) → balance.port_state_by live stuck l v → slice_get v.ins p ≡ Some Cancelled → OutsClosed v.outs
balance_left true false l v p h e = open_left v (balance.view_of l.core) p h.0 (one_open (balance.input_of l.core.over l.core.pulled) p (balanced_open l.core.over l.core.pulled)) e
balance_left true true l v p h e = absurd (one_open Finished p (λ z. cc) (subst (λ (is : List InView). slice_get is p ≡ Some Cancelled) h.input e))
balance_left false stuck l v p h e = h.1

out_left : (x : OutLogic) (v : View) (p : ℕ) → out.port_state x v → slice_get v.ins p ≡ Some Cancelled → OutsClosed v.outs
out_left (fan_out.Machines (Copies l)) v p h e = copy_left l.live l v p h e
out_left (fan_out.Machines (Deals l)) v p h e = part_left l.live l v p h e
out_left (fan_out.Balances l) v p h e = balance_left l.core.live l.log.stuck l v p h e

-- ---- any node; a custom stage that tells no list may go on though one of its inputs was cancelled

no_input : (y : OutView) (p : ℕ) → slice_get (output_only y).ins p ≡ Some Cancelled → ⊥
no_input y p e = cc

pub closes_outs : {S D L H B : Type 0} (x : IslandNode S D L H B) (v : View) (p : ℕ) → ((c : CustomState) → x ≡ node.Custom c → (l : linear.Logic) × LinearPortState l v) → node_port_state x v → slice_get v.ins p ≡ Some Cancelled → OutsClosed v.outs
closes_outs (node.Reading x) v p other h e = source_left (lines_port_state_in x.phase) v.ins v.outs p h e
closes_outs (node.Making x) v p other h e = source_left (lines_port_state_in x.phase) v.ins v.outs p h e
closes_outs (node.Linear x) v p other h e = one_left (linear.port_state_in x.phase x.course x.pending x.stage.work x.ready) (linear_left x.phase x.course x.pending x.stage.work x.ready) v.ins v.outs p h.ports e
closes_outs (node.State x) v p other h e = state_left x v p h e
closes_outs (node.Sub x) v p other h e = subs_left x.left x v p h.ports e
closes_outs (node.FanIn x) v p other h e = in_left x v p h e
closes_outs (node.FanOut x) v p other h e = out_left x v p h e
closes_outs (node.Custom x) v p other h e =
    let plug = other x refl in
    let l = plug.0 in one_left (linear.port_state_in l.phase l.course l.pending l.stage.work l.ready) (linear_left l.phase l.course l.pending l.stage.work l.ready) v.ins v.outs p plug.1.ports e
closes_outs (node.Writing x) v p other h e = sink_left (sink_port_state_in x.started x.end) v.ins v.outs h
closes_outs (node.Ignoring x) v p other h e = sink_left (ignore_port_state_in x.started x.end) v.ins v.outs h
closes_outs (node.Entering x) v p other h e = open_left v (output_only h.0) p h.1 (no_input h.0 p) e
closes_outs (node.Leaving x) v p other h e = subst (λ (w : View). OutsClosed w.outs) (sym h.1.0) tt

-- an output that is closed is so at its place
pub closed_there : (os : List OutView) (p : ℕ) (y : OutView) → OutsClosed os → slice_get os p ≡ Some y → OutClosed y
closed_there [] p y h e = absurd cc
closed_there (o ∷ os) zero y h e = subst OutClosed (some_one o y e) h.0
closed_there (o ∷ os) (suc p) y h e = closed_there os p y h.1 e
