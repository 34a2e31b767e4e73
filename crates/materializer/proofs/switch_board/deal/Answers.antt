-- The goals of `board::deal` that the search leaves.
use Rattle.std.proofs.Common.{◌≡◌, ◌∙◌, ◌+◌, sym, Some, None, get_or}
use Rattle.std.specs.Prelude.{slice_get}
use Rattle.std.proofs.lemmas.Option.{slice_get-get_or}
use Rattle.materializer.proofs.Dealt.{deal_own, deal_skip, deal_moved, dealt_end}
use Rattle.materializer.proofs.switch_board.deal.Goals.{then-sits+in_ok-hand, else-sits}
use Rattle.materializer.proofs.switch_board.deal.Goals as goal

pub loop-k-preserved : goal.loop-k-preserved
loop-k-preserved c =
    let places = c.args.places.now in
    let k = c.loop-k.k in
    let inv = c.loop-k.invariant in
    let place : slice_get places k ≡ Some (get_or places k None) = slice_get-get_or places k None c.loop-k-test.true in
    elim c.if-sits.branch [
      | then-sits+in_ok-hand w ↦ deal_moved c.args.j _ places c.args.ends.now.items (k + 1) w.hand.new.seats c.if-sits.seats w.hand.new.ends c.if-sits.ends w.seats-is w.ends-is
          (deal_own c.args.j _ places c.args.ends.now.items k _ c.loop-k.ends.items w.hand.new.ends.items c.loop-k.seats w.hand.new.seats place (sym c.sits.ensures ∙ w.if-sits.true) c.requires.ends inv.0 inv.1 inv.2 w.in_ok-hand.ensures)
      | else-sits w ↦ deal_moved c.args.j _ places c.args.ends.now.items (k + 1) c.loop-k.seats c.if-sits.seats c.loop-k.ends c.if-sits.ends w.seats-is w.ends-is
          (deal_skip c.args.j _ places c.args.ends.now.items k _ c.loop-k.ends.items c.loop-k.seats place (sym c.sits.ensures ∙ w.if-sits.false) inv.0 inv.1 inv.2)
    ]

pub returns : goal.returns
returns c = dealt_end c.args.j _ c.args.places.now c.args.ends.now.items c.loop-k.k _ c.loop-k-test.false c.loop-k.invariant.2
