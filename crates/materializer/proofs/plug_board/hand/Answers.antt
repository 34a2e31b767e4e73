-- The goal of `board::hand` that the search leaves.
use Rattle.std.proofs.Common.{◌≡◌, ◌∙◌, refl, ap, sym, subst, Some}
use Rattle.std.specs.Option.{option_map}
use Rattle.blue_names.specs.Names.{plug_of}
use Rattle.materializer.specs.Handing.{IsHandedPlug}
use Rattle.materializer.proofs.plug_board.hand.Goals as goal

pub returns-in-Some : goal.returns-in-Some
returns-in-Some g c =
    let names : Some c.in-Some.name.now ≡ plug_of c.args.kind.now = sym (ap (option_map (λ l. l.now)) c.in-Some.is) ∙ c.plug_of.ensures in
    subst (λ o. IsHandedPlug o c.args.plugs.now.items (Some c.take_named.result) c.take_named.new.plugs.items) names (c.take_named.result, (refl, c.take_named.ensures))
