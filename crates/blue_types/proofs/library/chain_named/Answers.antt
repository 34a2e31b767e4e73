use Rattle.std.proofs.Common.{◌∙◌, ap}
use Rattle.blue_names.specs.StageTypes.{steps_in}
use Rattle.blue_types.proofs.Named.{named_at, named_none}
use Rattle.blue_types.proofs.library.chain_named.Goals as goal

pub returns-in-Some-chain_at : goal.returns-in-Some-chain_at
returns-in-Some-chain_at c =
    let e = named_at (λ p. p.name) c.args.name.now c.args.library.now.chains.now c.in-Some.i (c.in-Some.ensures ∙ c.requires.chains.at c.args.name.now) in
    c.deref.ensures.value ∙ ap steps_in (c.in-Some-chain_at.ensures ∙ e)

pub returns-in-None-chain_at : goal.returns-in-None-chain_at
returns-in-None-chain_at c =
    let e = named_at (λ p. p.name) c.args.name.now c.args.library.now.chains.now c.in-Some.i (c.in-Some.ensures ∙ c.requires.chains.at c.args.name.now) in
    ap steps_in (c.in-None-chain_at.ensures ∙ e)

pub returns-in-None : goal.returns-in-None
returns-in-None c = ap steps_in (named_none (λ p. p.name) c.args.name.now c.args.library.now.chains.now (c.in-None.ensures ∙ c.requires.chains.at c.args.name.now))
