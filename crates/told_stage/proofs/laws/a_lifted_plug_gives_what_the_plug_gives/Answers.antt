use Rattle.told_stage.proofs.Types.{typed, same_reply, same_closing}
use Rattle.told_stage.proofs.laws.a_lifted_plug_gives_what_the_plug_gives.Goals as goal

pub returns : goal.returns
returns c = record { typed = typed; reply = same_reply; closing = same_closing }
