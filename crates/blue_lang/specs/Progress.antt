-- How one line more changes what is read.
use Rattle.std.specs.Prelude.{◌≡◌, ℕ, ◌+◌, Bool, true, false, if◌then◌else◌, List, [], ◌∷◌, ◌++◌, length, map, Option, Some, None}
use Rattle.std.specs.Option.{option_map}
use Rattle.blue_modules.specs.declared.text.Attrs.{Attrs}
use Rattle.blue_modules.specs.declared.text.Entry.{Entry}
use Rattle.blue_modules.specs.Text.{no_attrs, PlainChainText, PlainModule, plain_chain_text, plain_module}
use Rattle.blue_words.specs.declared.fault.Version.{Version}
use Rattle.blue_lang.specs.declared.progress.Progress.{Progress}
use Rattle.blue_lang.specs.Declarations.{Declaration, sets, switch, chain, opens, port, part, ends, declared_by, declared_in}
use Rattle.blue_lang.specs.Texts.{Context, is_node, is_use, is_wire, line_fault, said_fault, words_fault, version_behind, declares, declaration_at}

-- what is read so far, as a plain value: a module that is open is not yet among those that are done
pub record Sofar : Type 0 where
  pub attrs : Attrs
  pub defaulted : Bool
  pub switches : List (List ℕ)
  pub chains : List PlainChainText
  pub done : List PlainModule
  pub opened : Option PlainModule
  pub own : List Entry
  pub nodes : ℕ
  pub uses : ℕ
  pub wires : ℕ

-- what is read so far, of what the code holds of it
abbrev pub sofar : Progress → Sofar
sofar p =
    record {
      attrs = p.text.attrs;
      defaulted = p.defaulted;
      switches = p.text.switches.items;
      chains = map plain_chain_text p.text.chains.items;
      done = map plain_module p.text.modules.items;
      opened = option_map plain_module p.opened;
      own = p.text.body.items;
      nodes = p.nodes;
      uses = p.uses;
      wires = p.wires;
    }

-- nothing is read
abbrev pub none_so_far : Sofar
none_so_far =
    record { attrs = no_attrs; defaulted = false; switches = []; chains = []; done = []; opened = None; own = []; nodes = 0; uses = 0; wires = 0 }

-- the modules with the open one behind them
abbrev pub with_open : List PlainModule → Option PlainModule → List PlainModule
with_open done None = done
with_open done (Some m) = done ++ m ∷ []

-- what counts of them for a line
abbrev pub context : Sofar → Context
context s =
    record {
      defaulted = s.defaulted;
      switches = length s.switches;
      chains = length s.chains;
      modules = length (with_open s.done s.opened);
      nodes = s.nodes;
      uses = s.uses;
      wires = s.wires;
      opened = option_map (λ m. length m.ports) s.opened;
    }

-- ---- one declaration more, part by part
-- what is set for the whole text
abbrev pub attrs_with : Attrs → Declaration → Attrs
attrs_with a (sets b) = b
attrs_with a _ = a

-- something is set for the whole text
abbrev pub defaulted_with : Bool → Declaration → Bool
defaulted_with t (sets b) = true
defaulted_with t _ = t

-- the switches
abbrev pub switches_with : List (List ℕ) → Declaration → List (List ℕ)
switches_with ss (switch n) = ss ++ n ∷ []
switches_with ss _ = ss

-- the chains
abbrev pub chains_with : List PlainChainText → Declaration → List PlainChainText
chains_with cs (chain c) = cs ++ c ∷ []
chains_with cs _ = cs

-- the modules that are done: the line of another and an end close the open one
abbrev pub done_with : List PlainModule → Option PlainModule → Declaration → List PlainModule
done_with done o (opens n a) = with_open done o
done_with done o ends = with_open done o
done_with done o _ = done

-- the open module, and what stands in it
abbrev pub opened_with : Option PlainModule → Declaration → Option PlainModule
opened_with o (sets a) = o
opened_with o (switch n) = o
opened_with o (chain c) = o
opened_with o (opens n a) = Some (record { name = n; attrs = a; ports = []; body = [] })
opened_with None (port p) = None
opened_with (Some m) (port p) = Some (record { name = m.name; attrs = m.attrs; ports = m.ports ++ p ∷ []; body = m.body })
opened_with None (part e) = None
opened_with (Some m) (part e) = Some (record { name = m.name; attrs = m.attrs; ports = m.ports; body = m.body ++ e ∷ [] })
opened_with o ends = None

-- the text's own body
abbrev pub own_with : List Entry → Option PlainModule → Declaration → List Entry
own_with es None (part e) = es ++ e ∷ []
own_with es o _ = es

-- a count of the declarations of one sort
abbrev pub count_with : (Declaration → Bool) → ℕ → Declaration → ℕ
count_with is n d = if is d then n + 1 else n

-- what is read with one declaration more
abbrev pub with_declaration : Sofar → Declaration → Sofar
with_declaration s d =
    record {
      attrs = attrs_with s.attrs d;
      defaulted = defaulted_with s.defaulted d;
      switches = switches_with s.switches d;
      chains = chains_with s.chains d;
      done = done_with s.done s.opened d;
      opened = opened_with s.opened d;
      own = own_with s.own s.opened d;
      nodes = count_with is_node s.nodes d;
      uses = count_with is_use s.uses d;
      wires = count_with is_wire s.wires d;
    }

-- the same, where a line declares something
abbrev pub with_declared : Sofar → Option Declaration → Sofar
with_declared s None = s
with_declared s (Some d) = with_declaration s d

-- words that have no fault were read behind the version line
pub record DeclaresWords (v : Version) (s : Sofar) (ws : List (List ℕ)) (s' : Sofar) : Type 0 where
  pub faultless : words_fault v (context s) ws ≡ None
  pub adds : s' ≡ with_declared s (declaration_at (declared_by v ws))

-- the same of a line that says something
pub record Declares (v : Version) (s : Sofar) (l : List ℕ) (s' : Sofar) : Type 0 where
  pub faultless : said_fault v (context s) l ≡ None
  pub adds : s' ≡ with_declared s (declaration_at (declared_in v l))

-- a line without fault was read
pub record ReadsLine (v : Option Version) (s : Sofar) (l : List ℕ) (v' : Option Version) (s' : Sofar) : Type 0 where
  pub faultless : line_fault v (context s) l ≡ None
  pub version : v' ≡ version_behind v l
  pub adds : s' ≡ with_declared s (declares v l)
