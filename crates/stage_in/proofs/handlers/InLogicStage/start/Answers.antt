use Rattle.port_core.specs.Call.{starts}
use Rattle.stage_core.proofs.OnOks.{on_ok_two}
use Rattle.stage_in.specs.Logics.{InFresh}
use Rattle.stage_in.proofs.Nodes.{started}
use Rattle.stage_in.proofs.Handling.{fits_new, asks, grows}
use Rattle.stage_in.proofs.handlers.InLogicStage.start.Goals as goal

pub start-requires-clause-room : goal.start-requires-clause-room
start-requires-clause-room c = fits_new _ _ c.requires.ports

pub returns-clause-starts : goal.returns-clause-starts
returns-clause-starts c = let f = c.requires.meets.1.1.fresh in on_ok_two _ c.start.ensures.ports c.start.ensures.gives (λ o t. started _ _ _ f o t)

pub returns-clause-pulls : goal.returns-clause-pulls
returns-clause-pulls c = asks starts starts (InFresh c.args.self.now) c.args.self.now c.start.new.self c.start.new.acts.items c.start.result c.start.ensures.gives

pub returns-clause-grows : goal.returns-clause-grows
returns-clause-grows c = grows _ _ _ _ _ c.start.ensures.gives
