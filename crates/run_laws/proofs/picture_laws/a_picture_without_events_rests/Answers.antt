use Rattle.stream_model.specs.Composed.{composed}
use Rattle.run_laws.proofs.OutlookAgreeing.{every_wire_of}
use Rattle.run_laws.proofs.PictureRests.{rests, matches}
use Rattle.run_laws.proofs.picture_laws.a_picture_without_events_rests.Goals as goal

pub returns-clause-any : goal.returns-clause-any
returns-clause-any g c = λ graph w plans a outlook run still chose follows. rests g.S.Source.state g.D.Drain.state graph w a run plans follows chose outlook still

pub returns-clause-composed : goal.returns-clause-composed
returns-clause-composed g c = λ graph w plans rank a run still tells follows ranked. rests g.S.Source.state g.D.Drain.state graph w a run plans follows tells.picks (composed graph w) still (every_wire_of g.S.Source.state g.D.Drain.state graph w a run tells rank ranked)

pub returns-clause-sinks : goal.returns-clause-sinks
returns-clause-sinks g c = λ graph w a outlook run still. matches g.S.Source.state g.D.Drain.state g.B.PlugBook.lists graph a run w outlook still
