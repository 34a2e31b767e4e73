-- The declarations of the canonical text say the text.
use Rattle.std.proofs.Common.{◌≡◌, ℕ, Bool, true, false, cond, ◌||◌, List, [], ◌∷◌, ◌++◌, map, Option, Some, None, refl, sym, ap, ◌∙◌, append_assoc, append-nil}
use Rattle.std.specs.Prelude.{is_some}
use Rattle.std.specs.List.{filter_map, flat_map, cons_option}
use Rattle.std.proofs.lemmas.List.Elements.{filter_map-append}
use Rattle.elem_core.specs.declared.why.Decider.{Decider}
use Rattle.blue_modules.specs.declared.text.Attrs.{Attrs}
use Rattle.blue_modules.specs.declared.text.Entry.{Entry}
use Rattle.blue_modules.specs.declared.text.PortDecl.{PortDecl}
use Rattle.blue_modules.specs.Text.{no_attrs, PlainChainText, PlainModule, PlainText}
use Rattle.blue_lang.specs.Declarations.{Declaration, sets, switch, chain, opens, port, part, ends}
use Rattle.blue_lang.specs.Texts.{ports_said, body_said, modules_said, own_entries, default_of, switch_in, declared_chain, text_of}
use Rattle.blue_lang.specs.Canonical.{sets_some, default_lines, module_lines, canonical_declarations}

abbrev Ds : Type 0
Ds = List Declaration

-- ---- a module's lines
ports_parts : (es : List Entry) (rest : Ds) → ports_said (map part es ++ ends ∷ rest) ≡ []
ports_parts [] rest = refl
ports_parts (e ∷ es) rest = ports_parts es rest

ports_again : (ps : List PortDecl) (es : List Entry) (rest : Ds) → ports_said (map port ps ++ (map part es ++ ends ∷ rest)) ≡ ps
ports_again [] es rest = ports_parts es rest
ports_again (p ∷ ps) es rest = ap (λ x. p ∷ x) (ports_again ps es rest)

body_parts : (es : List Entry) (rest : Ds) → body_said (map part es ++ ends ∷ rest) ≡ es
body_parts [] rest = refl
body_parts (e ∷ es) rest = ap (λ x. e ∷ x) (body_parts es rest)

body_again : (ps : List PortDecl) (es : List Entry) (rest : Ds) → body_said (map port ps ++ (map part es ++ ends ∷ rest)) ≡ es
body_again [] es rest = body_parts es rest
body_again (p ∷ ps) es rest = body_again ps es rest

modules_parts : (es : List Entry) (rest : Ds) → modules_said (map part es ++ rest) ≡ modules_said rest
modules_parts [] rest = refl
modules_parts (e ∷ es) rest = modules_parts es rest

modules_ports : (ps : List PortDecl) (rest : Ds) → modules_said (map port ps ++ rest) ≡ modules_said rest
modules_ports [] rest = refl
modules_ports (p ∷ ps) rest = modules_ports ps rest

own_parts : (es : List Entry) (rest : Ds) → own_entries true (map part es ++ rest) ≡ own_entries true rest
own_parts [] rest = refl
own_parts (e ∷ es) rest = own_parts es rest

own_ports : (ps : List PortDecl) (rest : Ds) → own_entries true (map port ps ++ rest) ≡ own_entries true rest
own_ports [] rest = refl
own_ports (p ∷ ps) rest = own_ports ps rest

default_parts : (a : Attrs) (es : List Entry) (rest : Ds) → default_of a (map part es ++ rest) ≡ default_of a rest
default_parts a [] rest = refl
default_parts a (e ∷ es) rest = default_parts a es rest

default_ports : (a : Attrs) (ps : List PortDecl) (rest : Ds) → default_of a (map port ps ++ rest) ≡ default_of a rest
default_ports a [] rest = refl
default_ports a (p ∷ ps) rest = default_ports a ps rest

-- a module's lines, and what follows them
pub module_split : (m : PlainModule) (rest : Ds) → module_lines m ++ rest ≡ opens m.name m.attrs ∷ (map port m.ports ++ (map part m.body ++ ends ∷ rest))
module_split m rest =
    ap (λ x. opens m.name m.attrs ∷ x) (append_assoc (map port m.ports) (map part m.body ++ ends ∷ []) rest ∙ ap (λ x. map port m.ports ++ x) (append_assoc (map part m.body) (ends ∷ []) rest))

modules_lines : (m : PlainModule) (rest : Ds) → modules_said (module_lines m ++ rest) ≡ m ∷ modules_said rest
modules_lines m rest =
    let later : modules_said (map port m.ports ++ (map part m.body ++ ends ∷ rest)) ≡ modules_said rest = modules_ports m.ports (map part m.body ++ ends ∷ rest) ∙ modules_parts m.body (ends ∷ rest) in
    ap modules_said (module_split m rest) ∙ rw (ports_again m.ports m.body rest, body_again m.ports m.body rest, later) refl

own_lines : (m : PlainModule) (rest : Ds) → own_entries false (module_lines m ++ rest) ≡ own_entries false rest
own_lines m rest = ap (own_entries false) (module_split m rest) ∙ (own_ports m.ports (map part m.body ++ ends ∷ rest) ∙ own_parts m.body (ends ∷ rest))

default_module : (a : Attrs) (m : PlainModule) (rest : Ds) → default_of a (module_lines m ++ rest) ≡ default_of a rest
default_module a m rest = ap (default_of a) (module_split m rest) ∙ (default_ports a m.ports (map part m.body ++ ends ∷ rest) ∙ default_parts a m.body (ends ∷ rest))

-- ---- all modules, and the own body behind them
own_body : (es : List Entry) → own_entries false (map part es) ≡ es
own_body [] = refl
own_body (e ∷ es) = ap (λ x. e ∷ x) (own_body es)

modules_body : (es : List Entry) → modules_said (map part es) ≡ []
modules_body es = ap modules_said (sym (append-nil (map part es))) ∙ modules_parts es []

default_body : (a : Attrs) (es : List Entry) → default_of a (map part es) ≡ a
default_body a es = ap (default_of a) (sym (append-nil (map part es))) ∙ default_parts a es []

modules_all : (ms : List PlainModule) (es : List Entry) → modules_said (flat_map module_lines ms ++ map part es) ≡ ms
modules_all [] es = modules_body es
modules_all (m ∷ ms) es =
    ap modules_said (append_assoc (module_lines m) (flat_map module_lines ms) (map part es)) ∙ (modules_lines m (flat_map module_lines ms ++ map part es) ∙ ap (λ x. m ∷ x) (modules_all ms es))

own_all : (ms : List PlainModule) (es : List Entry) → own_entries false (flat_map module_lines ms ++ map part es) ≡ es
own_all [] es = own_body es
own_all (m ∷ ms) es =
    ap (own_entries false) (append_assoc (module_lines m) (flat_map module_lines ms) (map part es)) ∙ (own_lines m (flat_map module_lines ms ++ map part es) ∙ own_all ms es)

default_all : (a : Attrs) (ms : List PlainModule) (es : List Entry) → default_of a (flat_map module_lines ms ++ map part es) ≡ a
default_all a [] es = default_body a es
default_all a (m ∷ ms) es =
    ap (default_of a) (append_assoc (module_lines m) (flat_map module_lines ms) (map part es)) ∙ (default_module a m (flat_map module_lines ms ++ map part es) ∙ default_all a ms es)

-- ---- switches and chains before them
modules_switches : (ss : List (List ℕ)) (rest : Ds) → modules_said (map switch ss ++ rest) ≡ modules_said rest
modules_switches [] rest = refl
modules_switches (s ∷ ss) rest = modules_switches ss rest

own_switches : (ss : List (List ℕ)) (rest : Ds) → own_entries false (map switch ss ++ rest) ≡ own_entries false rest
own_switches [] rest = refl
own_switches (s ∷ ss) rest = own_switches ss rest

default_switches : (a : Attrs) (ss : List (List ℕ)) (rest : Ds) → default_of a (map switch ss ++ rest) ≡ default_of a rest
default_switches a [] rest = refl
default_switches a (s ∷ ss) rest = default_switches a ss rest

modules_chains : (cs : List PlainChainText) (rest : Ds) → modules_said (map chain cs ++ rest) ≡ modules_said rest
modules_chains [] rest = refl
modules_chains (c ∷ cs) rest = modules_chains cs rest

own_chains : (cs : List PlainChainText) (rest : Ds) → own_entries false (map chain cs ++ rest) ≡ own_entries false rest
own_chains [] rest = refl
own_chains (c ∷ cs) rest = own_chains cs rest

default_chains : (a : Attrs) (cs : List PlainChainText) (rest : Ds) → default_of a (map chain cs ++ rest) ≡ default_of a rest
default_chains a [] rest = refl
default_chains a (c ∷ cs) rest = default_chains a cs rest

-- ---- the switches and the chains among them
none_in : {A X : Type 0} (g : Declaration → Option X) (f : A → Declaration) → ((x : A) → g (f x) ≡ None) → (xs : List A) → filter_map g (map f xs) ≡ []
none_in g f h [] = refl
none_in g f h (x ∷ xs) = ap (λ o. cons_option o (filter_map g (map f xs))) (h x) ∙ none_in g f h xs

-- what picks nothing of modules
record Passes {X : Type 0} (g : Declaration → Option X) : Type 0 where
  line : (n : List ℕ) (a : Attrs) → g (opens n a) ≡ None
  ports : (p : PortDecl) → g (port p) ≡ None
  parts : (e : Entry) → g (part e) ≡ None
  end : g ends ≡ None

none_in_module : {X : Type 0} (g : Declaration → Option X) → Passes g → (m : PlainModule) → filter_map g (module_lines m) ≡ []
none_in_module g q m =
    let last : filter_map g (map part m.body ++ ends ∷ []) ≡ [] = filter_map-append g (map part m.body) (ends ∷ []) ∙ (ap (λ x. x ++ cons_option (g ends) []) (none_in g part q.parts m.body) ∙ ap (λ o. cons_option o []) q.end) in
    let inner : filter_map g (map port m.ports ++ (map part m.body ++ ends ∷ [])) ≡ [] = filter_map-append g (map port m.ports) (map part m.body ++ ends ∷ []) ∙ (ap (λ x. x ++ filter_map g (map part m.body ++ ends ∷ [])) (none_in g port q.ports m.ports) ∙ last) in
    ap (λ o. cons_option o (filter_map g (map port m.ports ++ (map part m.body ++ ends ∷ [])))) (q.line m.name m.attrs) ∙ inner

none_in_modules : {X : Type 0} (g : Declaration → Option X) → Passes g → (ms : List PlainModule) → filter_map g (flat_map module_lines ms) ≡ []
none_in_modules g q [] = refl
none_in_modules g q (m ∷ ms) =
    filter_map-append g (module_lines m) (flat_map module_lines ms) ∙ (ap (λ x. x ++ filter_map g (flat_map module_lines ms)) (none_in_module g q m) ∙ none_in_modules g q ms)

none_in_bodies : {X : Type 0} (g : Declaration → Option X) → Passes g → (ms : List PlainModule) (es : List Entry) → filter_map g (flat_map module_lines ms ++ map part es) ≡ []
none_in_bodies g q ms es =
    filter_map-append g (flat_map module_lines ms) (map part es) ∙ (ap (λ x. x ++ filter_map g (map part es)) (none_in_modules g q ms) ∙ none_in g part q.parts es)

all_in : {A : Type 0} (g : Declaration → Option A) (f : A → Declaration) → ((x : A) → g (f x) ≡ Some x) → (xs : List A) (rest : Ds) → filter_map g rest ≡ [] → filter_map g (map f xs ++ rest) ≡ xs
all_in g f h [] rest n = n
all_in g f h (x ∷ xs) rest n = ap (λ o. cons_option o (filter_map g (map f xs ++ rest))) (h x) ∙ ap (λ ys. x ∷ ys) (all_in g f h xs rest n)

passed_in : {A X : Type 0} (g : Declaration → Option X) (f : A → Declaration) → ((x : A) → g (f x) ≡ None) → (xs : List A) (rest : Ds) → filter_map g (map f xs ++ rest) ≡ filter_map g rest
passed_in g f h [] rest = refl
passed_in g f h (x ∷ xs) rest = ap (λ o. cons_option o (filter_map g (map f xs ++ rest))) (h x) ∙ passed_in g f h xs rest

switches_pass : Passes switch_in
switches_pass = record { line = λ n a. refl; ports = λ p. refl; parts = λ e. refl; end = refl }

chains_pass : Passes declared_chain
chains_pass = record { line = λ n a. refl; ports = λ p. refl; parts = λ e. refl; end = refl }

-- ---- the whole
none_set : (s : Option ℕ) (d : Option Decider) → (is_some s || is_some d) ≡ false → ◌≡◌ {A = Attrs} no_attrs (record { size = s; decider = d })
none_set None None h = refl
none_set (Some n) d h = absurd (let k : ⊥ = cc in k)
none_set None (Some d) h = absurd (let k : ⊥ = cc in k)

behind_default : (a : Attrs) (ss : List (List ℕ)) (cs : List PlainChainText) (ms : List PlainModule) (es : List Entry) → text_of (default_lines a ++ (map switch ss ++ (map chain cs ++ (flat_map module_lines ms ++ map part es)))) ≡ record { attrs = a; switches = ss; chains = cs; modules = ms; body = es }
behind_default a ss cs ms es = at (sets_some a) refl
  where
    bodies : Ds
    bodies = flat_map module_lines ms ++ map part es

    rest : Ds
    rest = map switch ss ++ (map chain cs ++ bodies)

    same_attrs : (b : Attrs) → default_of b rest ≡ b
    same_attrs b = default_switches b ss (map chain cs ++ bodies) ∙ (default_chains b cs bodies ∙ default_all b ms es)

    same_switches : filter_map switch_in rest ≡ ss
    same_switches = all_in switch_in switch (λ x. refl) ss (map chain cs ++ bodies) (passed_in switch_in chain (λ x. refl) cs bodies ∙ none_in_bodies switch_in switches_pass ms es)

    same_chains : filter_map declared_chain rest ≡ cs
    same_chains = passed_in declared_chain switch (λ x. refl) ss (map chain cs ++ bodies) ∙ all_in declared_chain chain (λ x. refl) cs bodies (none_in_bodies declared_chain chains_pass ms es)

    same_modules : modules_said rest ≡ ms
    same_modules = modules_switches ss (map chain cs ++ bodies) ∙ (modules_chains cs bodies ∙ modules_all ms es)

    same_body : own_entries false rest ≡ es
    same_body = own_switches ss (map chain cs ++ bodies) ∙ (own_chains cs bodies ∙ own_all ms es)

    with_attrs : (b : Attrs) → b ≡ a → ◌≡◌ {A = PlainText} (record { attrs = default_of b rest; switches = filter_map switch_in rest; chains = filter_map declared_chain rest; modules = modules_said rest; body = own_entries false rest }) (record { attrs = a; switches = ss; chains = cs; modules = ms; body = es })
    with_attrs b e = rw (same_attrs b, same_switches, same_chains, same_modules, same_body) (ap (λ x. record { attrs = x; switches = ss; chains = cs; modules = ms; body = es }) e)

    at : (t : Bool) → sets_some a ≡ t → text_of (cond t (sets a ∷ []) [] ++ rest) ≡ record { attrs = a; switches = ss; chains = cs; modules = ms; body = es }
    at true e = with_attrs a refl
    at false e = with_attrs no_attrs (none_set a.size a.decider e)

pub rebuilt : (t : PlainText) → text_of (canonical_declarations t) ≡ t
rebuilt t = behind_default t.attrs t.switches t.chains t.modules t.body
