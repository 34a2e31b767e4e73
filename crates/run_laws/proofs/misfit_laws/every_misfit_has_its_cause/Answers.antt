-- The goals of `misfit_laws::every_misfit_has_its_cause`.
use Rattle.stream_model.specs.Composed.{composed}
use Rattle.run_laws.proofs.OutlookAgreeing.{every_wire_of}
use Rattle.run_laws.proofs.Stopping.{every_misfit}
use Rattle.run_laws.proofs.misfit_laws.every_misfit_has_its_cause.Goals as goal

pub returns-clause-any : goal.returns-clause-any
returns-clause-any g c = λ graph w plans a outlook run chose follows agree k n now place at there found. every_misfit g.S.Source.state g.D.Drain.state graph w plans a outlook run chose follows agree k n now place at there found

pub returns-clause-composed : goal.returns-clause-composed
returns-clause-composed g c = λ graph w plans rank a run tells follows ranked k n now place at there found.
    every_misfit g.S.Source.state g.D.Drain.state graph w plans a (composed graph w) run tells.picks follows (every_wire_of g.S.Source.state g.D.Drain.state graph w a run tells rank ranked) k n now place at there found
