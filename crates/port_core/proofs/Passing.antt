-- An element that goes past an open wire at once.
use Rattle.std.proofs.Common.{◌≡◌, Bool, true, false, not, ◌&&◌, ◌∷◌, [], ◌++◌, refl}
use Rattle.elem_core.specs.Tree.{Tree}
use Rattle.elem_core.specs.declared.item.Item.TheVariants as item
use Rattle.port_core.specs.Connection.{ConnStep}
use Rattle.port_core.specs.Decoding.{can_push, is_ready}
use Rattle.port_core.specs.PortRules as rule
use Rattle.port_core.specs.PortRules.{after_move}
use Rattle.port_core.specs.declared.view.InView.TheVariants.{Idle}
use Rattle.port_core.specs.declared.view.OutView.TheVariants.{Unpulled}
use Rattle.port_core.specs.declared.act.Act.TheVariants.{Push}
use Rattle.port_core.specs.Cell.{WireState, moved_by, delivered}

-- whoever may push has no closed side
open_sides : (a b : Bool) (s : ConnStep) → ((not a && not b) && is_ready s) ≡ true → (a ≡ false) × (b ≡ false)
open_sides false false s h = (refl, refl)
open_sides true false s h = cc
open_sides false true s h = cc
open_sides true true s h = cc

-- what a push at an open wire comes to once it was told and taken
pub passed : (old : WireState) (e : Tree) → can_push old.wire.conn ≡ true → delivered (moved_by (Push 0 e) old) ≡ record {
  wire = record {
    out = Unpulled;
    inp = Idle;
    conn = after_move (rule.grab e) (after_move (rule.on_push e) (after_move (rule.push e) old.wire.conn));
    sent = old.wire.sent ++ item.Elem e ∷ [];
    got = old.wire.got ++ item.Elem e ∷ [];
  };
  asked = false;
}
passed old e free = let sides = open_sides old.wire.conn.in_closed old.wire.conn.out_closed old.wire.conn.step free in rw free (rw sides.0 (rw sides.1 refl))
