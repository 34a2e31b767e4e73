use Rattle.std.proofs.Common.{◌∙◌, List, ap}
use Rattle.std.specs.Prelude.{slice_get}
use Rattle.stream_model.specs.declared.head.PlugHead.{PlugHead}
use Rattle.blue_types.proofs.Named.{named_at, named_none}
use Rattle.blue_types.proofs.library.plug_named.Goals as goal

pub returns-in-Some : goal.returns-in-Some
returns-in-Some c =
    c.plug_at.ensures ∙ ap (λ (l : List PlugHead). slice_get l c.in-Some.i) c.plugs.ensures
    ∙ named_at (λ p. p.name) c.args.name.now c.args.library.now.heads.now.plugs c.in-Some.i (c.in-Some.ensures ∙ c.requires.plugs.at c.args.name.now)

pub returns-in-None : goal.returns-in-None
returns-in-None c = named_none (λ p. p.name) c.args.name.now c.args.library.now.heads.now.plugs (c.in-None.ensures ∙ c.requires.plugs.at c.args.name.now)
