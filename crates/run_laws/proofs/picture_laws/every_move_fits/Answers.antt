use Rattle.run_laws.proofs.PictureRests.{fits}
use Rattle.run_laws.proofs.picture_laws.every_move_fits.Goals as goal

pub returns : goal.returns
returns g c = λ graph w plans rank a run settled tells follows ranked. fits g.S.Source.state g.D.Drain.state graph w a run plans follows settled rank tells ranked
