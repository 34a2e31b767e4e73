-- Blueprints as plain values.
use Rattle.std.specs.Prelude.{ℕ, List, map}
use Rattle.stream_model.specs.declared.blueprint.Blueprint.{Blueprint}
use Rattle.stream_model.specs.declared.blueprint.ChainDecl.{ChainDecl}
use Rattle.stream_model.specs.declared.blueprint.Node.{Node}
use Rattle.stream_model.specs.declared.blueprint.Step.{Step}
use Rattle.stream_model.specs.declared.blueprint.WireDecl.{WireDecl}

-- a chain as a plain value
pub record PlainChain : Type 0 where
  pub name : List ℕ
  pub steps : List Step

-- the plain value of a chain
abbrev pub plain_chain : ChainDecl → PlainChain
plain_chain c = record { name = c.name; steps = c.steps.items }

-- a blueprint as a plain value: its switches, chains, nodes and wires, each in order
pub record PlainBlueprint : Type 0 where
  pub switches : List (List ℕ)
  pub chains : List PlainChain
  pub nodes : List Node
  pub wires : List WireDecl

-- the plain value of a blueprint
-- Choice: docs/DECISIONS.md#blueprints-by-lists
abbrev pub plain : Blueprint → PlainBlueprint
plain b =
    record { switches = b.switches.items; chains = map plain_chain b.chains.items; nodes = b.nodes.items; wires = b.wires.items }
