use Rattle.std.proofs.Common.{sym, subst}
use Rattle.stage_in.specs.Takings.{Taking, HasFollowers}
use Rattle.stage_in.proofs.Links.{relinks}
use Rattle.stage_in.proofs.taking.Taking.finish.Goals as goal

pub go_on-requires-clause-linked : goal.go_on-requires-clause-linked
go_on-requires-clause-linked c = subst (λ (l : Taking). HasFollowers l.over l.next) (sym c.pass_over.ensures) (relinks c.args.self.now.over c.args.port c.requires.there c.args.self.now.next c.requires.linked)
