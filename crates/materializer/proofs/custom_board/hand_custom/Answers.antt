-- The goal of `custom_board::hand_custom` that the search leaves.
use Rattle.std.proofs.Common.{◌≡◌, ◌∙◌, refl, ap, sym, subst, Some}
use Rattle.std.specs.Option.{option_map}
use Rattle.blue_names.specs.CustomPorts.{custom_of}
use Rattle.materializer.specs.HandedCustoms.{IsHandedCustom}
use Rattle.materializer.proofs.custom_board.hand_custom.Goals as goal

pub returns-in-Some : goal.returns-in-Some
returns-in-Some g c =
    let names : Some c.in-Some.name.now ≡ custom_of c.args.kind.now = sym (ap (option_map (λ l. l.now)) c.in-Some.is) ∙ c.custom_of.ensures in
    subst (λ o. IsHandedCustom o c.args.customs.now.items (Some c.take_custom.result) c.take_custom.new.customs.items) names (c.take_custom.result, (refl, c.take_custom.ensures))
