-- The declarations of the canonical text of a text within the limits are at no fault.
use Rattle.std.proofs.Common.{◌≡◌, ℕ, suc, ◌+◌, ◌≤◌, ◌<◌, Bool, true, false, not, cond, ◌&&◌, leb, List, [], ◌∷◌, ◌++◌, length, map, Option, Some, None, refl, sym, ap, subst, ◌∙◌, append_assoc, arith}
use Rattle.std.specs.Prelude.{is_some, count_by}
use Rattle.std.specs.List.{flat_map, list_any}
use Rattle.std.specs.Option.{option_map}
use Rattle.std.proofs.lemmas.Bool.{and_from, lt-ltb}
use Rattle.std.proofs.lemmas.List.Sums.{sum_by-cons}
use Rattle.blue_modules.specs.declared.text.Attrs.{Attrs}
use Rattle.blue_modules.specs.declared.text.Entry.{Entry}
use Rattle.blue_modules.specs.declared.text.Entry.TheVariants.{Node, Instance, Wire}
use Rattle.blue_modules.specs.declared.text.PortDecl.{PortDecl}
use Rattle.blue_modules.specs.Text.{PlainChainText, PlainModule, PlainText}
use Rattle.blue_lang.specs.Declarations.{Declaration, sets, switch, chain, opens, port, part, ends}
use Rattle.blue_lang.specs.Texts.{Context, context_of, has_room, few_ports, open_ports, is_default, is_switch, is_chain, is_opening, is_node, is_use, is_wire}
use Rattle.blue_lang.specs.Progress.{defaulted_with}
use Rattle.blue_lang.specs.Canonical.{sets_some, module_lines, canonical_declarations}
use Rattle.blue_lang.proofs.Reading.{any_push, defaulted_step, count_push}
use Rattle.blue_lang.proofs.Rebuilding.{module_split}

abbrev Ds : Type 0
Ds = List Declaration

-- the declaration may stand here: its first word is not misplaced
abbrev pub is_placed : Context → Declaration → Bool
is_placed c (sets a) = not (is_some c.opened) && not c.defaulted
is_placed c (switch n) = not (is_some c.opened)
is_placed c (chain k) = not (is_some c.opened)
is_placed c (opens n a) = not (is_some c.opened)
is_placed c (port p) = is_some c.opened
is_placed c (part e) = true
is_placed c ends = is_some c.opened

-- each declaration may stand behind those before it, the limits allow it, and no module is left open
abbrev pub Fit : Ds → Ds → Type 0
Fit before [] = is_some (context_of before).opened ≡ false
Fit before (d ∷ ds) = (is_placed (context_of before) d ≡ true) × (has_room (context_of before) d ≡ true) × Fit (before ++ d ∷ []) ds

abbrev pub FewPorts : List PlainModule → Type 0
FewPorts [] = Unit {0}
FewPorts (m ∷ ms) = (length m.ports ≤ 64) × FewPorts ms

abbrev pub FewSteps : List PlainChainText → Type 0
FewSteps [] = Unit {0}
FewSteps (c ∷ cs) = (leb (length c.steps) 32 ≡ true) × FewSteps cs

-- ---- one declaration more
abbrev pub opened_behind : Option ℕ → Declaration → Option ℕ
opened_behind o (sets a) = o
opened_behind o (switch n) = o
opened_behind o (chain c) = o
opened_behind o (opens n a) = Some 0
opened_behind o (port p) = option_map suc o
opened_behind o (part e) = o
opened_behind o ends = None

pub opened_push : (o : Option ℕ) (ds : Ds) (d : Declaration) → open_ports o (ds ++ d ∷ []) ≡ opened_behind (open_ports o ds) d
opened_push o [] (sets a) = refl
opened_push o [] (switch n) = refl
opened_push o [] (chain c) = refl
opened_push o [] (opens n a) = refl
opened_push o [] (port p) = refl
opened_push o [] (part e) = refl
opened_push o [] ends = refl
opened_push o (sets a ∷ ds) d = opened_push o ds d
opened_push o (switch n ∷ ds) d = opened_push o ds d
opened_push o (chain c ∷ ds) d = opened_push o ds d
opened_push o (opens n a ∷ ds) d = opened_push (Some 0) ds d
opened_push o (port p ∷ ds) d = opened_push (option_map suc o) ds d
opened_push o (part e ∷ ds) d = opened_push o ds d
opened_push o (ends ∷ ds) d = opened_push None ds d

defaulted_push : (ds : Ds) (d : Declaration) → list_any is_default (ds ++ d ∷ []) ≡ defaulted_with (list_any is_default ds) d
defaulted_push ds d = any_push is_default ds d ∙ defaulted_step (list_any is_default ds) d

-- ---- the counts
pub record Bounded (c : Context) (ds : Ds) : Type 0 where
  pub switches : c.switches + count_by is_switch ds ≤ 64
  pub chains : c.chains + count_by is_chain ds ≤ 256
  pub modules : c.modules + count_by is_opening ds ≤ 64
  pub nodes : c.nodes + count_by is_node ds ≤ 1024
  pub uses : c.uses + count_by is_use ds ≤ 256
  pub wires : c.wires + count_by is_wire ds ≤ 2048

abbrev pub one : Bool → ℕ
one t = cond t 1 0

pub one_if : (a b : Bool) → a ≡ b → one a ≡ one b
one_if a b h = ap one h

pub count_cons : (f : Declaration → Bool) (d : Declaration) (ds : Ds) → count_by f (d ∷ ds) ≡ one (f d) + count_by f ds
count_cons f d ds = sum_by-cons (λ x. cond (f x) 1 0) d ds

count_step : (f : Declaration → Bool) (before ds : Ds) (d : Declaration) (k : ℕ) → count_by f before + count_by f (d ∷ ds) ≤ k → count_by f (before ++ d ∷ []) + count_by f ds ≤ k
count_step f before ds d k h = omega (arith, h, count_cons f d ds, count_push f before d, more (f d))
  where
    more : (t : Bool) → cond t (count_by f before + 1) (count_by f before) ≡ count_by f before + one t
    more true = refl
    more false = omega arith

bounded_step : (before ds : Ds) (d : Declaration) → Bounded (context_of before) (d ∷ ds) → Bounded (context_of (before ++ d ∷ [])) ds
bounded_step before ds d b =
    record {
      switches = count_step is_switch before ds d 64 b.switches;
      chains = count_step is_chain before ds d 256 b.chains;
      modules = count_step is_opening before ds d 64 b.modules;
      nodes = count_step is_node before ds d 1024 b.nodes;
      uses = count_step is_use before ds d 256 b.uses;
      wires = count_step is_wire before ds d 2048 b.wires;
    }

-- there is room for one more of what is bounded with it
room : (n k : ℕ) (f : Declaration → Bool) (d : Declaration) (ds : Ds) → f d ≡ true → n + count_by f (d ∷ ds) ≤ k → n < k
room n k f d ds t h = omega (arith, h, count_cons f d ds, one_if _ _ t)

-- ---- where declarations may stand, by whether a module is open, its ports, and whether there was a default
abbrev Shaped : Option ℕ → Bool → Ds → Type 0
Shaped o t [] = is_some o ≡ false
Shaped o t (sets a ∷ ds) = (is_some o ≡ false) × (t ≡ false) × Shaped o true ds
Shaped o t (switch n ∷ ds) = (is_some o ≡ false) × Shaped o t ds
Shaped o t (chain c ∷ ds) = (is_some o ≡ false) × (leb (length c.steps) 32 ≡ true) × Shaped o t ds
Shaped o t (opens n a ∷ ds) = (is_some o ≡ false) × Shaped (Some 0) t ds
Shaped o t (port p ∷ ds) = (is_some o ≡ true) × (few_ports o ≡ true) × Shaped (option_map suc o) t ds
Shaped o t (part e ∷ ds) = Shaped o t ds
Shaped o t (ends ∷ ds) = (is_some o ≡ true) × Shaped None t ds

not_false : (t : Bool) → t ≡ false → not t ≡ true
not_false t h = ap not h

shaped_placed : (c : Context) (d : Declaration) (ds : Ds) → Shaped c.opened c.defaulted (d ∷ ds) → is_placed c d ≡ true
shaped_placed c (sets a) ds s = ap (λ t. t && not c.defaulted) (not_false (is_some c.opened) s.0) ∙ not_false c.defaulted s.1
shaped_placed c (switch n) ds s = not_false (is_some c.opened) s.0
shaped_placed c (chain k) ds s = not_false (is_some c.opened) s.0
shaped_placed c (opens n a) ds s = not_false (is_some c.opened) s.0
shaped_placed c (port p) ds s = s.0
shaped_placed c (part e) ds s = refl
shaped_placed c ends ds s = s.0

shaped_room : (c : Context) (d : Declaration) (ds : Ds) → Shaped c.opened c.defaulted (d ∷ ds) → Bounded c (d ∷ ds) → has_room c d ≡ true
shaped_room c (sets a) ds s b = refl
shaped_room c (switch n) ds s b = lt-ltb c.switches 64 (room c.switches 64 is_switch (switch n) ds refl b.switches)
shaped_room c (chain k) ds s b = and_from _ _ (lt-ltb c.chains 256 (room c.chains 256 is_chain (chain k) ds refl b.chains)) s.1
shaped_room c (opens n a) ds s b = lt-ltb c.modules 64 (room c.modules 64 is_opening (opens n a) ds refl b.modules)
shaped_room c (port p) ds s b = s.1
shaped_room c (part (Node n)) ds s b = lt-ltb c.nodes 1024 (room c.nodes 1024 is_node (part (Node n)) ds refl b.nodes)
shaped_room c (part (Instance u)) ds s b = lt-ltb c.uses 256 (room c.uses 256 is_use (part (Instance u)) ds refl b.uses)
shaped_room c (part (Wire w)) ds s b = lt-ltb c.wires 2048 (room c.wires 2048 is_wire (part (Wire w)) ds refl b.wires)
shaped_room c ends ds s b = refl

shaped_behind : (o : Option ℕ) (t : Bool) (d : Declaration) (ds : Ds) → Shaped o t (d ∷ ds) → Shaped (opened_behind o d) (defaulted_with t d) ds
shaped_behind o t (sets a) ds s = s.2
shaped_behind o t (switch n) ds s = s.1
shaped_behind o t (chain c) ds s = s.2
shaped_behind o t (opens n a) ds s = s.1
shaped_behind o t (port p) ds s = s.2
shaped_behind o t (part e) ds s = s
shaped_behind o t ends ds s = s.1

fits : (before ds : Ds) → Shaped (context_of before).opened (context_of before).defaulted ds → Bounded (context_of before) ds → Fit before ds
fits before [] s b = s
fits before (d ∷ ds) s b =
    let later = shaped_behind (context_of before).opened (context_of before).defaulted d ds s in
    let one = subst (λ o. Shaped o (defaulted_with (context_of before).defaulted d) ds) (sym (opened_push None before d)) later in
    let two = subst (λ t. Shaped (context_of (before ++ d ∷ [])).opened t ds) (sym (defaulted_push before d)) one in
    (shaped_placed (context_of before) d ds s, shaped_room (context_of before) d ds s b, fits (before ++ d ∷ []) ds two (bounded_step before ds d b))

-- ---- the canonical declarations are shaped
shaped_parts : (o : Option ℕ) (t : Bool) (es : List Entry) (rest : Ds) → Shaped o t rest → Shaped o t (map part es ++ rest)
shaped_parts o t [] rest s = s
shaped_parts o t (e ∷ es) rest s = shaped_parts o t es rest s

shaped_ports : (n : ℕ) (t : Bool) (ps : List PortDecl) (rest : Ds) → n + length ps ≤ 64 → ((k : ℕ) → Shaped (Some k) t rest) → Shaped (Some n) t (map port ps ++ rest)
shaped_ports n t [] rest h s = s n
shaped_ports n t (p ∷ ps) rest h s = (refl, lt-ltb n 64 (omega (arith, h)), shaped_ports (suc n) t ps rest (omega (arith, h)) s)

shaped_module : (t : Bool) (m : PlainModule) (rest : Ds) → length m.ports ≤ 64 → Shaped None t rest → Shaped None t (module_lines m ++ rest)
shaped_module t m rest h s =
    let inner : (k : ℕ) → Shaped (Some k) t (map part m.body ++ ends ∷ rest) = λ k. shaped_parts (Some k) t m.body (ends ∷ rest) (refl, s) in
    let whole : Shaped None t (opens m.name m.attrs ∷ (map port m.ports ++ (map part m.body ++ ends ∷ rest))) = (refl, shaped_ports 0 t m.ports (map part m.body ++ ends ∷ rest) (omega (arith, h)) inner) in
    subst (Shaped None t) (sym (module_split m rest)) whole

shaped_modules : (t : Bool) (ms : List PlainModule) (rest : Ds) → FewPorts ms → Shaped None t rest → Shaped None t (flat_map module_lines ms ++ rest)
shaped_modules t [] rest h s = s
shaped_modules t (m ∷ ms) rest h s =
    subst (Shaped None t) (sym (append_assoc (module_lines m) (flat_map module_lines ms) rest)) (shaped_module t m (flat_map module_lines ms ++ rest) h.0 (shaped_modules t ms rest h.1 s))

shaped_switches : (t : Bool) (ss : List (List ℕ)) (rest : Ds) → Shaped None t rest → Shaped None t (map switch ss ++ rest)
shaped_switches t [] rest s = s
shaped_switches t (n ∷ ss) rest s = (refl, shaped_switches t ss rest s)

shaped_chains : (t : Bool) (cs : List PlainChainText) (rest : Ds) → FewSteps cs → Shaped None t rest → Shaped None t (map chain cs ++ rest)
shaped_chains t [] rest f s = s
shaped_chains t (c ∷ cs) rest f s = (refl, f.0, shaped_chains t cs rest f.1 s)

shaped_body : (t : Bool) (es : List Entry) → Shaped None t (map part es)
shaped_body t [] = refl
shaped_body t (e ∷ es) = shaped_body t es

shaped_default : (b : Bool) (a : Attrs) (rest : Ds) → ((t : Bool) → Shaped None t rest) → Shaped None false (cond b (sets a ∷ []) [] ++ rest)
shaped_default false a rest s = s false
shaped_default true a rest s = (refl, refl, s true)

shaped_text : (t : PlainText) → FewPorts t.modules → FewSteps t.chains → Shaped None false (canonical_declarations t)
shaped_text t p f =
    shaped_default (sets_some t.attrs) t.attrs (map switch t.switches ++ (map chain t.chains ++ (flat_map module_lines t.modules ++ map part t.body))) (λ b. shaped_switches b t.switches (map chain t.chains ++ (flat_map module_lines t.modules ++ map part t.body)) (shaped_chains b t.chains (flat_map module_lines t.modules ++ map part t.body) f (shaped_modules b t.modules (map part t.body) p (shaped_body b t.body))))

-- the declarations of a text within the limits are at no fault
pub canonical_fits : (t : PlainText) → FewPorts t.modules → FewSteps t.chains → Bounded (context_of []) (canonical_declarations t) → Fit [] (canonical_declarations t)
canonical_fits t p f b = fits [] (canonical_declarations t) (shaped_text t p f) b
