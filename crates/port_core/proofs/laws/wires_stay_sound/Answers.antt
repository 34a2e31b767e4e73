-- The goals of `laws::wires_stay_sound`.
use Rattle.port_core.proofs.Wires.{new_sound, pull_kept, push_kept, close_kept, cancel_kept, deliver_kept}
use Rattle.port_core.proofs.laws.wires_stay_sound.Goals as goal

pub returns-clause-new : goal.returns-clause-new
returns-clause-new c = new_sound

pub returns-clause-pull : goal.returns-clause-pull
returns-clause-pull c = pull_kept

pub returns-clause-push : goal.returns-clause-push
returns-clause-push c = push_kept

pub returns-clause-close : goal.returns-clause-close
returns-clause-close c = close_kept

pub returns-clause-cancel : goal.returns-clause-cancel
returns-clause-cancel c = cancel_kept

pub returns-clause-deliver : goal.returns-clause-deliver
returns-clause-deliver c = deliver_kept
