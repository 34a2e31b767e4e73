-- The goals of `custom_board::take_custom` that the search leaves.
use Rattle.std.proofs.Common.{◌≡◌, ◌∙◌, sym, subst, Some, arith}
use Rattle.std.proofs.lemmas.Option.{get_or_from_slice_get}
use Rattle.materializer.specs.HandedCustoms.{custom_place}
use Rattle.materializer.proofs.Finding.{custom_is_there, custom_within, custom_taken}
use Rattle.materializer.proofs.custom_board.take_custom.Goals as goal

pub remove-requires : goal.remove-requires
remove-requires g c =
    let found : custom_place c.args.name.now c.args.customs.now.items ≡ Some c.in-Some.place = subst (λ l. custom_place c.args.name.now l ≡ Some c.in-Some.place) c.deref.ensures.value (sym c.custom_place.ensures ∙ c.in-Some.is) in
    let within = custom_within c.args.name.now c.args.customs.now.items c.in-Some.place found in
    omega (arith, within, c.args.customs.now.ok.0)

pub unreachable-requires : goal.unreachable-requires
unreachable-requires g c = custom_is_there c.args.name.now c.args.customs.now.items (subst (λ l. custom_place c.args.name.now l ≡ _) c.deref.ensures.value (sym c.custom_place.ensures ∙ c.in-None.is)) c.requires

pub returns : goal.returns
returns g c = custom_taken c.args.name.now c.args.customs.now.items c.in-Some.place _ _ (subst (λ l. custom_place c.args.name.now l ≡ Some c.in-Some.place) c.deref.ensures.value (sym c.custom_place.ensures ∙ c.in-Some.is)) (λ d at. c.remove.ensures.value ∙ get_or_from_slice_get c.args.customs.now.items c.in-Some.place d _ at) c.remove.ensures.items
