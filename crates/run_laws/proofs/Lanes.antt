-- How a lane stands for the nodes at its ends, at any moment and where no event is left, and what it brings.
use Rattle.std.proofs.Common.{◌≡◌, inl, ℕ, Bool, false, List, Some, refl}
use Rattle.elem_core.specs.Prefix.{IsPrefix}
use Rattle.elem_core.specs.Tree.{Tree}
use Rattle.port_core.specs.Joint.{IsSound}
use Rattle.port_core.specs.Cell.{WireState}
use Rattle.port_core.specs.Marks.{IsMarked}
use Rattle.stream_model.specs.Outlook.{End}
use Rattle.stream_model.specs.Lane.{loss_of, Carries}
use Rattle.stage_core.specs.Held.{told}
use Rattle.run_laws.specs.Items.{list_of, end_of_items, ArrivedOf}
use Rattle.run_laws.specs.Ports.{InStands, OutStands, InRests, OutRests}
use Rattle.run_laws.proofs.Resting.{out_shut}
use Rattle.run_laws.specs.Ends.{LaneKeeps}
use Rattle.run_laws.specs.Quiet.{LaneQuiet}
use Rattle.run_laws.specs.Wires.{far_port, near_port}
use Rattle.run_laws.proofs.Carrying.{lane_brings, carries_loss, came_few, within, parts, few, all_came}
use Rattle.run_laws.proofs.Marks.{lane_reach, lane_wants, lane_least, lane_over, lane_waits, lane_in_shut, lane_asked, lane_unasked}

pub brings : (keep : Bool) (s : ℕ) (near far : WireState) (p q : Bool) (asked : ℕ) → IsSound near.wire p → IsSound far.wire q → LaneKeeps keep s near far asked → ArrivedOf (Some (loss_of keep s)) near.wire.sent far.wire.got
brings keep s near far p q asked sn sf k = lane_brings keep s near far p q k.out k.inp sn sf k.out_keeps k.in_keeps k.met

module _ (keep : Bool) (u s : ℕ) (near far : WireState) (p q : Bool) (asked : ℕ) (list m l : List Tree) (f e : End) (sn : IsSound near.wire p) (sf : IsSound far.wire q)
    (sent_told : near.wire.sent ≡ told m f) (part : IsPrefix m list) (got_told : far.wire.got ≡ told l e) (k : LaneKeeps keep s near far asked) where
  brought : Carries s (list_of near.wire.sent) (end_of_items near.wire.sent) l e
  brought = carries_loss keep s (list_of near.wire.sent) (end_of_items near.wire.sent) l e (brings keep s near far p q asked sn sf k l e got_told)

  pub stands_in : InStands (far_port u s near far asked list)
  stands_in = record {
    came = came_few s near.wire.sent far.wire.got list m l f e brought sent_told part got_told;
    part = parts s near.wire.sent far.wire.got list m l f e brought sent_told part got_told;
    within = within s near.wire.sent far.wire.got list m l f e brought sent_told part got_told;
    least = λ no. lane_least keep s near far k.out k.inp k.out_keeps k.in_keeps k.met (rw k.asked_is no);
    over = λ o. lane_over keep s near far k.out k.inp k.out_keeps k.in_keeps k.met p q sn sf o;
    ended_all = all_came s near.wire.sent far.wire.got list m l f e brought sent_told part got_told;
    ended_few = few s near.wire.sent far.wire.got list m l f e brought sent_told part got_told;
    reach = rw k.asked_is at (lane_reach keep s near far k.out k.inp k.out_keeps k.in_keeps k.met);
  }

module _ (keep : Bool) (u s : ℕ) (near far : WireState) (asked : ℕ) (list : List Tree) where
  pub stands_out : (p : Bool) → IsSound near.wire p → LaneKeeps keep s near far asked → OutStands (near_port u s near far asked list)
  stands_out p sn k = record { count = refl; wants = rw k.asked_is at (lane_wants keep s near far k.out k.inp k.out_keeps k.in_keeps k.met); closed = λ c. out_shut near.wire p sn c }

  module _ (sn : IsSound near.wire false) (sf : IsSound far.wire false) (mn : IsMarked near) (mf : IsMarked far) (k : LaneKeeps keep s near far asked) (quiet : LaneQuiet keep s near far asked k) where
    pub rests_in : InRests (far_port u s near far asked list)
    rests_in = record {
      waits = λ e. rw k.asked_is at (lane_waits keep s near far k.out k.inp k.out_keeps k.in_keeps k.met sn sf mn mf quiet.out quiet.inp quiet.met e);
      idles = λ e. inl refl;
      shut = λ c. lane_in_shut keep s near far k.out k.inp k.out_keeps k.in_keeps k.met sn sf mn mf quiet.out quiet.inp quiet.met c;
      over_sent = λ e. inl refl;
    }

    pub rests_out : OutRests (near_port u s near far asked list)
    rests_out = record {
      asked = λ e. rw k.asked_is at (lane_asked keep s near far k.out k.inp k.out_keeps k.in_keeps k.met sn sf mn mf quiet.out quiet.inp quiet.met e);
      unasked = λ e. rw k.asked_is at (lane_unasked keep s near far k.out k.inp k.out_keeps k.in_keeps k.met sn sf mn mf quiet.out quiet.inp quiet.met e);
      shut = λ c. out_shut near.wire false sn c;
    }
