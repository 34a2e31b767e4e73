-- The goals of `names::unknown_guest` that the search leaves.
use Rattle.std.proofs.Common.{◌≡◌, ◌∙◌, ℕ, List, Option, map, ap, sym, subst}
use Rattle.std.specs.Option.{option_map, option_or}
use denote.Ref.{Bor}
use Rattle.elem_core.specs.declared.line.Line.{Line}
use Rattle.stream_model.specs.Known.{CustomShape}
use Rattle.stream_model.specs.declared.head.PlugHead.{PlugHead}
use Rattle.blue_names.specs.Names.{unknown_in_chains, unknown_in_nodes}
use Rattle.blue_names.specs.Table.{Numbers}
use Rattle.blue_names.proofs.NameTables.{shapes_named}
use Rattle.blue_names.proofs.names.unknown_guest.Goals as goal

pub returns-in-Some : goal.returns-in-Some
returns-in-Some c =
    let heads = c.args.heads.now in
    let ps = map (λ (p : PlugHead). p.name) heads.plugs in
    let cs = map (λ (s : CustomShape). s.name) heads.customs in
    let plugs : Numbers c.in_ok-plugs.plugs ps = subst (λ (l : List PlugHead). Numbers c.in_ok-plugs.plugs (map (λ (p : PlugHead). p.name) l)) c.plugs.ensures c.in_ok-plugs.ensures in
    let customs : Numbers c.in_ok-customs.customs cs =
    subst (λ (l : List (List ℕ)). Numbers c.in_ok-customs.customs l) (shapes_named c.customs.result.now ∙ ap (map (λ (s : CustomShape). s.name)) c.customs.ensures) c.in_ok-customs.ensures in
    ap (λ (o : Option (List ℕ)). option_or o (unknown_in_nodes ps cs c.args.nodes.now))
    (ap (λ (o : Option (Bor Line)). option_map (λ (l : Bor Line). l.now) o) (sym c.in-Some.is) ∙ c.unknown_guest_in_chains.ensures ps cs plugs customs)

pub returns : goal.returns
returns c =
    let heads = c.args.heads.now in
    let ps = map (λ (p : PlugHead). p.name) heads.plugs in
    let cs = map (λ (s : CustomShape). s.name) heads.customs in
    let plugs : Numbers c.in_ok-plugs.plugs ps = subst (λ (l : List PlugHead). Numbers c.in_ok-plugs.plugs (map (λ (p : PlugHead). p.name) l)) c.plugs.ensures c.in_ok-plugs.ensures in
    let customs : Numbers c.in_ok-customs.customs cs =
    subst (λ (l : List (List ℕ)). Numbers c.in_ok-customs.customs l) (shapes_named c.customs.result.now ∙ ap (map (λ (s : CustomShape). s.name)) c.customs.ensures) c.in_ok-customs.ensures in
    c.unknown_guest_in.ensures ps cs plugs customs
    ∙ ap (λ (o : Option (List ℕ)). option_or o (unknown_in_nodes ps cs c.args.nodes.now))
    (ap (λ (o : Option (Bor Line)). option_map (λ (l : Bor Line). l.now) o) (sym c.in-None.is) ∙ c.unknown_guest_in_chains.ensures ps cs plugs customs)
