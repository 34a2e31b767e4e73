use Rattle.std.proofs.Common.{true, false}
use Rattle.blue_modules.proofs.Gathering.{own_wire}
use Rattle.blue_modules.proofs.text.WireText.into_wire.Goals as goal

pub returns : goal.returns
returns c = λ body. own_wire body c.args.around c.args.self _ _ _ _ _ (c.in_ok-from.ensures.name true body) (c.in_ok-from.ensures.port true body) (c.in_ok-to.ensures.name false body) (c.in_ok-to.ensures.port false body) c.flat_lane.ensures
