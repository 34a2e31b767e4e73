use Rattle.std.proofs.Common.{ap, ◌∙◌, rules, w64}
use Rattle.std.proofs.lemmas.Int.{to_z-of_z}
use mir.Val.{SFits}
use Rattle.stage_core.specs.declared.phase.Phase.TheVariants.{Closed}
use Rattle.nodes.specs.Maker.{Made}
use Rattle.nodes.proofs.Acting.{first_act}
use Rattle.nodes.proofs.Makers.{gives_number, gives_end}
use Rattle.nodes.proofs.maker.ValueSource.on_pull.Goals as goal

pub returns-in-Some-clause-handles : goal.returns-in-Some-clause-handles
returns-in-Some-clause-handles c =
    let x = c.args.self.now in
    let fits : SFits w64 c.in-Some.number = search rules in
    let one = first_act _ _ _ c.give.ensures c.requires.empty in
    gives_number x.node x.makes x.next c.draw.new.self.next x.last x.phase _ _ _ c.in-Some.ensures.some c.in-Some.ensures.rest (simp to_z-of_z at one)

pub returns-in-None-clause-handles : goal.returns-in-None-clause-handles
returns-in-None-clause-handles c =
    let x = c.args.self.now in
    let e = c.in-None.ensures in
    let same = e.rest ∙ ap (λ y. record x { next = y }) e.still in
    gives_end x.node x.makes x.next x.last x.phase _ _ e.none (c.close.ensures.maker ∙ ap (λ (z : Made). record z { phase = Closed }) same) (first_act _ _ _ c.close.ensures.acts c.requires.empty)
