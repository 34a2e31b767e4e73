use Rattle.stream_model.specs.Composed.{composed}
use Rattle.run_laws.proofs.PictureRests.{all_pass, lawful}
use Rattle.run_laws.proofs.picture_laws.every_picture_is_lawful.Goals as goal

pub returns-clause-any : goal.returns-clause-any
returns-clause-any g c = λ graph w plans a outlook run settled chose follows. lawful g.S.Source.state g.D.Drain.state graph w a run plans follows chose outlook settled

pub returns-clause-composed : goal.returns-clause-composed
returns-clause-composed g c = λ graph w plans rank a run settled tells follows ranked. lawful g.S.Source.state g.D.Drain.state graph w a run plans follows tells.picks (composed graph w) settled (all_pass g.S.Source.state g.D.Drain.state graph w a run rank tells ranked)
