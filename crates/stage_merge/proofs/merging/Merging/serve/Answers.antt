use Rattle.stage_merge.proofs.Mergers.{may_note, port_is_there, served_one}
use Rattle.stage_merge.proofs.merging.Merging.serve.Goals as goal

pub hand_on-requires-clause-next : goal.hand_on-requires-clause-next
hand_on-requires-clause-next c = may_note c.args.self.now c.choose.new.self c.unask.new.self c.in-Some.x c.in-Some.ensures.some.0 c.in-Some.ensures.some.1 c.unask.ensures

pub hand_on-requires-clause-there : goal.hand_on-requires-clause-there
hand_on-requires-clause-there c = port_is_there c.args.self.now c.choose.new.self c.unask.new.self c.in-Some.x c.in-Some.ensures.some.0 c.in-Some.ensures.some.1 c.unask.ensures c.requires.there

pub returns-in-Some-clause-served : goal.returns-in-Some-clause-served
returns-in-Some-clause-served c = served_one c.args.self.now c.choose.new.self c.unask.new.self c.in-Some.x c.in-Some.ensures.some.0 c.in-Some.ensures.some.1 c.unask.ensures c.hand_on.new.self c.hand_on.new.acts.items c.hand_on.ensures.handed
