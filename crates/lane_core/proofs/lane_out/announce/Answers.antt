use Rattle.std.proofs.Common.{rules, refl}
use Rattle.lane_core.proofs.Steps.{sends_put}
use Rattle.lane_core.proofs.Calls.{put_in}
use Rattle.lane_core.proofs.lane_out.announce.Goals as goal

pub fetch_add-requires : goal.fetch_add-requires
fetch_add-requires c =
    let r = c.requires in
    let m = c.args.seat.now.me in
    let n = c.exchange.new.seat.me in
    let put = put_in m n c.args.item c.args.place r.hand.0 c.exchange.ensures.3 in
    (search rules, search rules, sends_put c.args.shared.now.key _ _ _ c.args.place m n c.args.item refl r.table.2 put r.hand.1 r.ready)
