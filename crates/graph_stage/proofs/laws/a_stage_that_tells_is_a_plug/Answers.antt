use Rattle.graph_stage.proofs.Telling.{is_plug}
use Rattle.graph_stage.proofs.laws.a_stage_that_tells_is_a_plug.Goals as goal

pub returns-clause-begins : goal.returns-clause-begins
returns-clause-begins c b d first now v took gave named law = (is_plug b d first now v took gave named law).begins

pub returns-clause-law : goal.returns-clause-law
returns-clause-law c b d first now v took gave named law = (is_plug b d first now v took gave named law).law

pub returns-clause-ports : goal.returns-clause-ports
returns-clause-ports c b d first now v took gave named law = (is_plug b d first now v took gave named law).stands
