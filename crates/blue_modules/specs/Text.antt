-- What a text of the language says, as plain values.
use Rattle.std.specs.Prelude.{ℕ, List, map, None}
use Rattle.blue_modules.specs.declared.text.Attrs.{Attrs}
use Rattle.blue_modules.specs.declared.text.Entry.{Entry}
use Rattle.blue_modules.specs.declared.text.PortDecl.{PortDecl}
use Rattle.blue_modules.specs.declared.text.Module.{Module}
use Rattle.blue_modules.specs.declared.text.StepText.{StepText}
use Rattle.blue_modules.specs.declared.text.ChainText.{ChainText}
use Rattle.blue_modules.specs.declared.text.BlueText.{BlueText}

-- nothing is set
abbrev pub no_attrs : Attrs
no_attrs = record { size = None; decider = None }

-- a module as a plain value
pub record PlainModule : Type 0 where
  pub name : List ℕ
  pub attrs : Attrs
  pub ports : List PortDecl
  pub body : List Entry

-- the plain value of a module
abbrev pub plain_module : Module → PlainModule
plain_module m = record { name = m.name; attrs = m.attrs; ports = m.ports.items; body = m.body.items }

-- a chain, as it is written, as a plain value
pub record PlainChainText : Type 0 where
  pub name : List ℕ
  pub steps : List StepText

-- the plain value of a chain, as it is written
abbrev pub plain_chain_text : ChainText → PlainChainText
plain_chain_text c = record { name = c.name; steps = c.steps.items }

-- a text as a plain value
pub record PlainText : Type 0 where
  pub attrs : Attrs
  pub switches : List (List ℕ)
  pub chains : List PlainChainText
  pub modules : List PlainModule
  pub body : List Entry

-- the plain value of a text
abbrev pub plain_text : BlueText → PlainText
plain_text t =
    record {
      attrs = t.attrs;
      switches = t.switches.items;
      chains = map plain_chain_text t.chains.items;
      modules = map plain_module t.modules.items;
      body = t.body.items;
    }
