-- The goals of `board::take_named` that the search leaves.
use Rattle.std.proofs.Common.{◌≡◌, ◌∙◌, sym, subst, Some, arith}
use Rattle.std.proofs.lemmas.Option.{get_or_from_slice_get}
use Rattle.materializer.specs.Handing.{plug_place}
use Rattle.materializer.proofs.Finding.{is_there, found_within, found_taken}
use Rattle.materializer.proofs.plug_board.take_named.Goals as goal

pub remove-requires : goal.remove-requires
remove-requires g c =
    let found : plug_place c.args.name.now c.args.plugs.now.items ≡ Some c.in-Some.place = subst (λ l. plug_place c.args.name.now l ≡ Some c.in-Some.place) c.deref.ensures.value (sym c.plug_place.ensures ∙ c.in-Some.is) in
    let within = found_within c.args.name.now c.args.plugs.now.items c.in-Some.place found in
    omega (arith, within, c.args.plugs.now.ok.0)

pub unreachable-requires : goal.unreachable-requires
unreachable-requires g c = is_there c.args.name.now c.args.plugs.now.items (subst (λ l. plug_place c.args.name.now l ≡ _) c.deref.ensures.value (sym c.plug_place.ensures ∙ c.in-None.is)) c.requires

pub returns : goal.returns
returns g c = found_taken c.args.name.now c.args.plugs.now.items c.in-Some.place _ _ (subst (λ l. plug_place c.args.name.now l ≡ Some c.in-Some.place) c.deref.ensures.value (sym c.plug_place.ensures ∙ c.in-Some.is)) (λ d at. c.remove.ensures.value ∙ get_or_from_slice_get c.args.plugs.now.items c.in-Some.place d _ at) c.remove.ensures.items
