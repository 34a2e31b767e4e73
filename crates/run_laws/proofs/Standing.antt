-- How a wire stands for the nodes at its ends, at any moment and where no event is left.
use Rattle.std.proofs.Common.{◌≡◌, inr, ℕ, Bool, false, List, Option, None, Some, refl, sym, ap, subst, arith}
use Rattle.elem_core.specs.Prefix.{IsPrefix}
use Rattle.elem_core.specs.Tree.{Tree}
use Rattle.elem_core.specs.Items.{elements}
use Rattle.port_core.specs.Joint.{IsSound}
use Rattle.port_core.specs.Cell.{WireState}
use Rattle.port_core.specs.Marks.{IsMarked, wanted}
use Rattle.stream_model.specs.Outlook.{End}
use Rattle.stream_model.specs.Lane.{Carries}
use Rattle.stage_core.specs.Held.{told}
use Rattle.stage_core.specs.Row.{InClosed}
use Rattle.run_laws.specs.Items.{list_of, end_of_items}
use Rattle.run_laws.specs.Account.{WireKeeps, WireQuiet}
use Rattle.run_laws.specs.Ports.{InPort, OutPort, wire_count, InStands, OutStands, InRests, OutRests}
use Rattle.run_laws.proofs.Carrying.{wire_brings, came_few, within, parts, few, all_came}
use Rattle.run_laws.proofs.Lanes.{stands_in, stands_out, rests_in, rests_out}
use Rattle.run_laws.proofs.Coming.{over_same}
use Rattle.run_laws.proofs.Resting.{waits, idles, is_asked, is_unasked, all_idle, in_shut, out_shut}

module _ (u : ℕ) (lane : Option ℕ) (near far : WireState) (asked : ℕ) (list : List Tree) where
  -- the port of the node at the input of the wire, and of the one at its output
  abbrev pub in_of : InPort
  in_of = let c = wire_count lane near asked in record { view = far.wire.inp; got = far.wire.got; want = wanted far; wire = record { wire = u; sent = c.sent; asked = c.asked; shut = c.shut; lane = lane; list = list } }

  abbrev pub out_of : OutPort
  out_of = let c = wire_count lane near asked in record { view = near.wire.out; sent = near.wire.sent; want = wanted near; wire = record { wire = u; sent = c.sent; asked = c.asked; shut = c.shut; lane = lane; list = list } }

module _ (u : ℕ) (near far : WireState) (asked : ℕ) (list : List Tree) (p q : Bool) (sn : IsSound near.wire p) (sf : IsSound far.wire q)
    (m : List Tree) (f : End) (sent_told : near.wire.sent ≡ told m f) (part : IsPrefix m list) (l : List Tree) (e : End) (got_told : far.wire.got ≡ told l e) where
  pub in_stands : (keep : Bool) (lane : Option ℕ) → WireKeeps keep lane near far asked → InStands (in_of u lane near far asked list)
  in_stands keep None k =
      let brought : Carries 0 (list_of near.wire.sent) (end_of_items near.wire.sent) l e = wire_brings keep None near far asked p q sn sf k l e got_told in
      record {
        came = came_few 0 near.wire.sent far.wire.got list m l f e brought sent_told part got_told;
        part = parts 0 near.wire.sent far.wire.got list m l f e brought sent_told part got_told;
        within = within 0 near.wire.sent far.wire.got list m l f e brought sent_told part got_told;
        least = λ no. omega arith;
        over = λ o. rw (sym k) (in_shut far.wire q sf (subst InClosed (sym o) tt));
        ended_all = all_came 0 near.wire.sent far.wire.got list m l f e brought sent_told part got_told;
        ended_few = few 0 near.wire.sent far.wire.got list m l f e brought sent_told part got_told;
        reach = rw k (omega arith);
      }
  in_stands keep (Some s) k = stands_in keep u s near far p q asked list m l f e sn sf sent_told part got_told k

pub out_stands : (u : ℕ) (near far : WireState) (asked : ℕ) (list : List Tree) (p : Bool) → IsSound near.wire p → (keep : Bool) (lane : Option ℕ) → WireKeeps keep lane near far asked → OutStands (out_of u lane near far asked list)
out_stands u near far asked list p sn keep None k = record { count = refl; wants = omega arith; closed = λ c. out_shut near.wire p sn c }
out_stands u near far asked list p sn keep (Some s) k = stands_out keep u s near far asked list p sn k

module _ (u : ℕ) (near far : WireState) (asked : ℕ) (list : List Tree) (sn : IsSound near.wire false) (sf : IsSound far.wire false) (mn : IsMarked near) (mf : IsMarked far) where
  pub in_rests : (keep : Bool) (lane : Option ℕ) → WireKeeps keep lane near far asked → WireQuiet keep lane near far asked → InRests (in_of u lane near far asked list)
  in_rests keep None k quiet = record {
    waits = λ e. let w = waits far mf sf e in rw (sym k) ((w.0.mark, w.0.still), ap elements w.1);
    idles = λ e. let i = idles far mf sf e in rw (sym k) (inr ((i.mark, i.still), ap elements (all_idle far.wire sf e)));
    shut = λ c. rw (sym k) (in_shut far.wire false sf c);
    over_sent = λ e. rw (sym k) (inr (over_same far.wire false sf e));
  }
  in_rests keep (Some s) k quiet = rests_in keep u s near far asked list sn sf mn mf quiet.0 quiet.1

  pub out_rests : (keep : Bool) (lane : Option ℕ) → WireQuiet keep lane near far asked → OutRests (out_of u lane near far asked list)
  out_rests keep None quiet = record {
    asked = λ e. let i = is_asked near mn sn e in (i.mark, i.still);
    unasked = λ e. let i = is_unasked near mn sn e in (i.mark, i.still);
    shut = λ c. out_shut near.wire false sn c;
  }
  out_rests keep (Some s) quiet = rests_out keep u s near far asked list sn sf mn mf quiet.0 quiet.1
