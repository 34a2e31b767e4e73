-- How many nodes and wires a body comes to, without building it.
use Rattle.std.specs.Prelude.{◌≡◌, ℕ, ◌-◌, ◌^◌, min, if◌then◌else◌, List, [], ◌∷◌, map}
use Rattle.std.specs.List.{sum_by}
use Rattle.elem_core.specs.Values.{same_text}
use Rattle.blue_modules.specs.declared.text.Entry.{Entry}
use Rattle.blue_modules.specs.declared.text.Entry.TheVariants.{Node, Instance, Wire}
use Rattle.blue_modules.specs.declared.counts.Counted.{Counted}
use Rattle.blue_modules.specs.declared.text.UseText.{UseText}
use Rattle.blue_modules.specs.declared.parts.Around.{Around}
use Rattle.blue_modules.specs.Flatten.{FlatPart, flat_body, prefix_of, around_body}
use Rattle.blue_modules.specs.Text.{PlainModule}

-- the weight of an entry, where a node and a wire weigh so much, and modules by their names
abbrev pub entry_weight : ℕ → ℕ → (List ℕ → ℕ) → Entry → ℕ
entry_weight n w inner (Node t) = n
entry_weight n w inner (Instance u) = inner u.of
entry_weight n w inner (Wire t) = w

-- the weight of the module of that name, among these; the latest is the first
abbrev pub module_weight : ℕ → ℕ → List PlainModule → List ℕ → ℕ
module_weight n w [] name = 0
module_weight n w (m ∷ ms) name = if same_text m.name name then sum_by (entry_weight n w (module_weight n w ms)) m.body else module_weight n w ms name

-- the weight of a body
abbrev pub body_weight : ℕ → ℕ → List PlainModule → List Entry → ℕ
body_weight n w ms body = sum_by (entry_weight n w (module_weight n w ms)) body

-- no more than 32 bits can say
abbrev pub capped : ℕ → ℕ
capped n = min n (2 ^ 32 - 1)

-- a module that was counted
abbrev pub plain_counted : Counted → PlainModule
plain_counted c = record { name = (c.of.now).name; attrs = (c.of.now).attrs; ports = (c.of.now).ports.items; body = c.body }

-- modules, the latest first
abbrev pub counted_modules : List Counted → List PlainModule
counted_modules cs = map plain_counted cs

-- each with the numbers of nodes and wires that it comes to
abbrev pub AreCounted : List Counted → Type 0
AreCounted [] = Unit {0}
AreCounted (c ∷ cs) =
    (c.nodes ≡ capped (body_weight 1 0 (counted_modules cs) c.body)) × (c.wires ≡ capped (body_weight 0 1 (counted_modules cs) c.body)) × AreCounted cs

-- the parts of an instance of a module, among these modules before it
abbrev pub body_parts : List Counted → Counted → List ℕ → Around → UseText → List FlatPart
body_parts cs c prefix around u =
    flat_body (counted_modules cs) (prefix_of prefix u.name) (around_body (plain_counted c) u around) c.body
