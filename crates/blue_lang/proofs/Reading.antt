-- Reading the lines of a text, one after another.
use Rattle.std.proofs.Common.{◌≡◌, ℕ, ◌+◌, Bool, true, false, cond, ◌||◌, List, [], ◌∷◌, ◌++◌, length, Option, Some, None, refl, sym, ap, subst, ◌∙◌, append_assoc, append-nil, length-append, arith}
use Rattle.std.specs.Prelude.{is_some, count_by, Result, Err}
use Rattle.std.specs.List.{filter_map, list_any, cons_option}
use Rattle.std.specs.Option.{option_map}
use Rattle.std.proofs.lemmas.List.Elements.{filter_map-append}
use Rattle.std.proofs.lemmas.List.Sums.{sum_by-append}
use Rattle.blue_modules.specs.declared.text.Attrs.{Attrs}
use Rattle.blue_modules.specs.declared.text.Entry.{Entry}
use Rattle.blue_modules.specs.Text.{no_attrs, PlainChainText, PlainModule, PlainText}
use Rattle.blue_words.specs.declared.fault.BlueKind.{BlueKind}
use Rattle.blue_words.specs.declared.fault.BlueKind.TheVariants.{BadVersion, BadLine}
use Rattle.blue_words.specs.declared.fault.BlueFault.{BlueFault}
use Rattle.blue_words.specs.declared.fault.Version.{Version}
use Rattle.blue_lang.specs.Declarations.{Declaration, sets, switch, chain, opens, port, part, ends}
use Rattle.blue_lang.specs.declared.parse.ParseEnd.{ParseEnd}
use Rattle.blue_lang.specs.declared.parse.ParseEnd.TheVariants as ended
use Rattle.blue_lang.specs.declared.parse.Stop.{Stop}
use Rattle.blue_lang.specs.declared.parse.Stop.TheVariants as stop
use Rattle.blue_lang.specs.Ends.{stop_end}
use Rattle.blue_lang.specs.Texts.{SaysLines, ports_said, body_said, modules_said, own_entries, default_of, switch_in, declared_chain, text_of, open_ports, is_default, is_switch, is_chain, is_opening, is_node, is_use, is_wire, context_of, version_behind, version_from, version_in, declares, declarations_from, declarations, fault_behind, line_fault, fault_or, end_fault, first_fault}
use Rattle.blue_lang.specs.Progress.{Sofar, with_open, context, attrs_with, defaulted_with, switches_with, chains_with, done_with, opened_with, own_with, count_with, with_declaration, with_declared, ReadsLine, none_so_far}

-- the module that is open goes behind those that are done
closing : (done : List PlainModule) (m : PlainModule) (rest : List PlainModule) → done ++ record { name = m.name; attrs = m.attrs; ports = m.ports ++ []; body = m.body ++ [] } ∷ rest ≡ (done ++ m ∷ []) ++ rest
closing done m rest =
    ap (λ x. done ++ record { name = m.name; attrs = m.attrs; ports = x; body = m.body ++ [] } ∷ rest) (append-nil m.ports)
    ∙ (ap (λ x. done ++ record { name = m.name; attrs = m.attrs; ports = m.ports; body = x } ∷ rest) (append-nil m.body) ∙ sym (append_assoc done (m ∷ []) rest))

abbrev Ds : Type 0
Ds = List Declaration

-- ---- the modules and the entries that are still to come
abbrev open_modules : Option PlainModule → Ds → List PlainModule
open_modules None more = modules_said more
open_modules (Some m) more = record { name = m.name; attrs = m.attrs; ports = m.ports ++ ports_said more; body = m.body ++ body_said more } ∷ modules_said more

-- what is read so far is what the declarations say, whatever follows them
pub record Keeps (s : Sofar) (ds : Ds) : Type 0 where
  pub attrs : (more : Ds) → default_of no_attrs (ds ++ more) ≡ default_of s.attrs more
  pub modules : (more : Ds) → modules_said (ds ++ more) ≡ s.done ++ open_modules s.opened more
  pub own : (more : Ds) → own_entries false (ds ++ more) ≡ s.own ++ own_entries (is_some s.opened) more
  pub ports : (more : Ds) → open_ports None (ds ++ more) ≡ open_ports (option_map (λ m. length m.ports) s.opened) more
  pub switches : filter_map switch_in ds ≡ s.switches
  pub chains : filter_map declared_chain ds ≡ s.chains
  pub defaulted : list_any is_default ds ≡ s.defaulted
  pub switch_count : count_by is_switch ds ≡ length s.switches
  pub chain_count : count_by is_chain ds ≡ length s.chains
  pub module_count : count_by is_opening ds ≡ length (with_open s.done s.opened)
  pub nodes : count_by is_node ds ≡ s.nodes
  pub uses : count_by is_use ds ≡ s.uses
  pub wires : count_by is_wire ds ≡ s.wires

pub none_keeps : Keeps none_so_far []
none_keeps =
    record {
      attrs = λ more. refl;
      modules = λ more. refl;
      own = λ more. refl;
      ports = λ more. refl;
      switches = refl;
      chains = refl;
      defaulted = refl;
      switch_count = refl;
      chain_count = refl;
      module_count = refl;
      nodes = refl;
      uses = refl;
      wires = refl;
    }

-- ---- one declaration more, part by part
attrs_step : (a : Attrs) (d : Declaration) (more : Ds) → default_of a (d ∷ more) ≡ default_of (attrs_with a d) more
attrs_step a (sets b) more = refl
attrs_step a (switch n) more = refl
attrs_step a (chain c) more = refl
attrs_step a (opens n b) more = refl
attrs_step a (port p) more = refl
attrs_step a (part e) more = refl
attrs_step a ends more = refl

modules_step : (done : List PlainModule) (o : Option PlainModule) (d : Declaration) (more : Ds) → done ++ open_modules o (d ∷ more) ≡ done_with done o d ++ open_modules (opened_with o d) more
modules_step done None (sets b) more = refl
modules_step done None (switch n) more = refl
modules_step done None (chain c) more = refl
modules_step done None (opens n b) more = refl
modules_step done None (port p) more = refl
modules_step done None (part e) more = refl
modules_step done None ends more = refl
modules_step done (Some m) (sets b) more = refl
modules_step done (Some m) (switch n) more = refl
modules_step done (Some m) (chain c) more = refl
modules_step done (Some m) (opens n b) more = closing done m (modules_said (opens n b ∷ more))
modules_step done (Some m) (port p) more =
    ap (λ x. done ++ record { name = m.name; attrs = m.attrs; ports = x; body = m.body ++ body_said more } ∷ modules_said more) (sym (append_assoc m.ports (p ∷ []) (ports_said more)))
modules_step done (Some m) (part e) more =
    ap (λ x. done ++ record { name = m.name; attrs = m.attrs; ports = m.ports ++ ports_said more; body = x } ∷ modules_said more) (sym (append_assoc m.body (e ∷ []) (body_said more)))
modules_step done (Some m) ends more = closing done m (modules_said more)

own_step : (es : List Entry) (o : Option PlainModule) (d : Declaration) (more : Ds) → es ++ own_entries (is_some o) (d ∷ more) ≡ own_with es o d ++ own_entries (is_some (opened_with o d)) more
own_step es None (sets b) more = refl
own_step es None (switch n) more = refl
own_step es None (chain c) more = refl
own_step es None (opens n b) more = refl
own_step es None (port p) more = refl
own_step es None (part e) more = sym (append_assoc es (e ∷ []) (own_entries false more))
own_step es None ends more = refl
own_step es (Some m) (sets b) more = refl
own_step es (Some m) (switch n) more = refl
own_step es (Some m) (chain c) more = refl
own_step es (Some m) (opens n b) more = refl
own_step es (Some m) (port p) more = refl
own_step es (Some m) (part e) more = refl
own_step es (Some m) ends more = refl

abbrev port_count : Option PlainModule → Option ℕ
port_count o = option_map (λ m. length m.ports) o

ports_step : (o : Option PlainModule) (d : Declaration) (more : Ds) → open_ports (port_count o) (d ∷ more) ≡ open_ports (port_count (opened_with o d)) more
ports_step o (sets b) more = refl
ports_step o (switch n) more = refl
ports_step o (chain c) more = refl
ports_step o (opens n b) more = refl
ports_step None (port p) more = refl
ports_step (Some m) (port p) more = ap (λ n. open_ports (Some n) more) (omega (arith, length-append m.ports (p ∷ [])))
ports_step None (part e) more = refl
ports_step (Some m) (part e) more = refl
ports_step o ends more = refl

switches_step : (ss : List (List ℕ)) (d : Declaration) → ss ++ cons_option (switch_in d) [] ≡ switches_with ss d
switches_step ss (sets b) = append-nil ss
switches_step ss (switch n) = refl
switches_step ss (chain c) = append-nil ss
switches_step ss (opens n b) = append-nil ss
switches_step ss (port p) = append-nil ss
switches_step ss (part e) = append-nil ss
switches_step ss ends = append-nil ss

chains_step : (cs : List PlainChainText) (d : Declaration) → cs ++ cons_option (declared_chain d) [] ≡ chains_with cs d
chains_step cs (sets b) = append-nil cs
chains_step cs (switch n) = append-nil cs
chains_step cs (chain c) = refl
chains_step cs (opens n b) = append-nil cs
chains_step cs (port p) = append-nil cs
chains_step cs (part e) = append-nil cs
chains_step cs ends = append-nil cs

pub defaulted_step : (t : Bool) (d : Declaration) → (t || is_default d) ≡ defaulted_with t d
defaulted_step true (sets b) = refl
defaulted_step false (sets b) = refl
defaulted_step true (switch n) = refl
defaulted_step true (chain c) = refl
defaulted_step false (switch n) = refl
defaulted_step false (chain c) = refl
defaulted_step true (opens n b) = refl
defaulted_step false (opens n b) = refl
defaulted_step true (port p) = refl
defaulted_step false (port p) = refl
defaulted_step true (part e) = refl
defaulted_step false (part e) = refl
defaulted_step true ends = refl
defaulted_step false ends = refl

switch_counts : (ss : List (List ℕ)) (d : Declaration) → count_with is_switch (length ss) d ≡ length (switches_with ss d)
switch_counts ss (sets b) = refl
switch_counts ss (switch n) = sym (length-append ss (n ∷ []))
switch_counts ss (chain c) = refl
switch_counts ss (opens n b) = refl
switch_counts ss (port p) = refl
switch_counts ss (part e) = refl
switch_counts ss ends = refl

chain_counts : (cs : List PlainChainText) (d : Declaration) → count_with is_chain (length cs) d ≡ length (chains_with cs d)
chain_counts cs (sets b) = refl
chain_counts cs (switch n) = refl
chain_counts cs (chain c) = sym (length-append cs (c ∷ []))
chain_counts cs (opens n b) = refl
chain_counts cs (port p) = refl
chain_counts cs (part e) = refl
chain_counts cs ends = refl

module_counts : (done : List PlainModule) (o : Option PlainModule) (d : Declaration) → count_with is_opening (length (with_open done o)) d ≡ length (with_open (done_with done o d) (opened_with o d))
module_counts done o (sets b) = refl
module_counts done o (switch n) = refl
module_counts done o (chain c) = refl
module_counts done o (opens n b) = sym (length-append (with_open done o) (record { name = n; attrs = b; ports = []; body = [] } ∷ []))
module_counts done None (port p) = refl
module_counts done (Some m) (port p) = omega (arith, length-append done (m ∷ []), length-append done (record { name = m.name; attrs = m.attrs; ports = m.ports ++ p ∷ []; body = m.body } ∷ []))
module_counts done None (part e) = refl
module_counts done (Some m) (part e) = omega (arith, length-append done (m ∷ []), length-append done (record { name = m.name; attrs = m.attrs; ports = m.ports; body = m.body ++ e ∷ [] } ∷ []))
module_counts done o ends = refl

pub any_push : {X : Type 0} (f : X → Bool) (xs : List X) (x : X) → list_any f (xs ++ x ∷ []) ≡ (list_any f xs || f x)
any_push f [] x = grind arith
any_push f (y ∷ xs) x = grind (arith, any_push f xs x)

pub count_push : (f : Declaration → Bool) (ds : Ds) (d : Declaration) → count_by f (ds ++ d ∷ []) ≡ count_with f (count_by f ds) d
count_push f ds d = sum_by-append (λ x. cond (f x) 1 0) ds (d ∷ []) ∙ one (f d)
  where
    one : (t : Bool) → count_by f ds + (0 + cond t 1 0) ≡ cond t (count_by f ds + 1) (count_by f ds)
    one true = omega arith
    one false = omega arith

-- one declaration more keeps it
pub keeps_more : (s : Sofar) (ds : Ds) (d : Declaration) → Keeps s ds → Keeps (with_declaration s d) (ds ++ d ∷ [])
keeps_more s ds d k =
    record {
      attrs = λ more. ap (default_of no_attrs) (append_assoc ds (d ∷ []) more) ∙ (k.attrs (d ∷ more) ∙ attrs_step s.attrs d more);
      modules = λ more. ap modules_said (append_assoc ds (d ∷ []) more) ∙ (k.modules (d ∷ more) ∙ modules_step s.done s.opened d more);
      own = λ more. ap (own_entries false) (append_assoc ds (d ∷ []) more) ∙ (k.own (d ∷ more) ∙ own_step s.own s.opened d more);
      ports = λ more. ap (open_ports None) (append_assoc ds (d ∷ []) more) ∙ (k.ports (d ∷ more) ∙ ports_step s.opened d more);
      switches = filter_map-append switch_in ds (d ∷ []) ∙ (ap (λ x. x ++ cons_option (switch_in d) []) k.switches ∙ switches_step s.switches d);
      chains = filter_map-append declared_chain ds (d ∷ []) ∙ (ap (λ x. x ++ cons_option (declared_chain d) []) k.chains ∙ chains_step s.chains d);
      defaulted = any_push is_default ds d ∙ (ap (λ t. t || is_default d) k.defaulted ∙ defaulted_step s.defaulted d);
      switch_count = count_push is_switch ds d ∙ (ap (λ n. count_with is_switch n d) k.switch_count ∙ switch_counts s.switches d);
      chain_count = count_push is_chain ds d ∙ (ap (λ n. count_with is_chain n d) k.chain_count ∙ chain_counts s.chains d);
      module_count = count_push is_opening ds d ∙ (ap (λ n. count_with is_opening n d) k.module_count ∙ module_counts s.done s.opened d);
      nodes = count_push is_node ds d ∙ ap (λ n. count_with is_node n d) k.nodes;
      uses = count_push is_use ds d ∙ ap (λ n. count_with is_use n d) k.uses;
      wires = count_push is_wire ds d ∙ ap (λ n. count_with is_wire n d) k.wires;
    }

keeps_declared : (s : Sofar) (ds : Ds) (o : Option Declaration) → Keeps s ds → Keeps (with_declared s o) (ds ++ cons_option o [])
keeps_declared s ds None k = subst (Keeps s) (sym (append-nil ds)) k
keeps_declared s ds (Some d) k = keeps_more s ds d k

-- what counts of the declarations is what counts of what is read
context_is : (s : Sofar) (ds : Ds) → Keeps s ds → context_of ds ≡ context s
context_is s ds k =
    let o : open_ports None ds ≡ port_count s.opened = ap (open_ports None) (sym (append-nil ds)) ∙ k.ports [] in
    rw (k.defaulted, k.switch_count, k.chain_count, k.module_count, k.nodes, k.uses, k.wires, o) refl

-- ---- the lines
pub version_push : (v : Option Version) (ls : List (List ℕ)) (l : List ℕ) → version_from v (ls ++ l ∷ []) ≡ version_behind (version_from v ls) l
version_push v [] l = refl
version_push v (x ∷ ls) l = version_push (version_behind v x) ls l

cons_option-append : {A : Type 0} (o : Option A) (xs ys : List A) → cons_option o (xs ++ ys) ≡ cons_option o xs ++ ys
cons_option-append None xs ys = refl
cons_option-append (Some x) xs ys = refl

pub declarations_push : (v : Option Version) (ls : List (List ℕ)) (l : List ℕ) → declarations_from v (ls ++ l ∷ []) ≡ declarations_from v ls ++ cons_option (declares (version_from v ls) l) []
declarations_push v [] l = refl
declarations_push v (x ∷ ls) l =
    ap (cons_option (declares v x)) (declarations_push (version_behind v x) ls l)
    ∙ cons_option-append (declares v x) (declarations_from (version_behind v x) ls) (cons_option (declares (version_from (version_behind v x) ls) l) [])

-- the front of the lines is read, and what is left is still to be read
pub record IsRead (all : List (List ℕ)) (n : ℕ) (v : Option Version) (s : Sofar) (left : List (List ℕ)) : Type 0 where
  pub front : List (List ℕ)
  pub counted : length front ≡ n
  pub version : version_in front ≡ v
  pub keeps : Keeps s (declarations front)
  pub same : first_fault [] all ≡ first_fault front left
  pub whole : all ≡ front ++ left

pub none_read : (all : List (List ℕ)) (v : Option Version) (s : Sofar) → v ≡ None → s ≡ none_so_far → IsRead all 0 v s all
none_read all v s e f =
    record { front = []; counted = refl; version = sym e; keeps = subst (λ x. Keeps x []) (sym f) none_keeps; same = refl; whole = refl }

-- what is wrong with the next line, by what is read
next_fault : (all : List (List ℕ)) (n : ℕ) (v : Option Version) (s : Sofar) (l : List ℕ) (ls : List (List ℕ)) → (r : IsRead all n v s (l ∷ ls)) → first_fault [] all ≡ fault_or (line_fault v (context s) l) (n + 1) (first_fault (r.front ++ l ∷ []) ls)
next_fault all n v s l ls r =
    let c : context_of (declarations r.front) ≡ context s = context_is s (declarations r.front) r.keeps in
    let f : fault_behind r.front l ≡ line_fault v (context s) l = ap (λ x. line_fault x (context_of (declarations r.front)) l) r.version ∙ ap (λ x. line_fault v x l) c in
    r.same ∙ (ap (λ x. fault_or x (length r.front + 1) (first_fault (r.front ++ l ∷ []) ls)) f ∙ ap (λ x. fault_or (line_fault v (context s) l) (x + 1) (first_fault (r.front ++ l ∷ []) ls)) r.counted)

-- a line without fault
pub line_read : (all : List (List ℕ)) (n : ℕ) (v v' : Option Version) (s s' : Sofar) (l : List ℕ) (ls : List (List ℕ)) → IsRead all n v s (l ∷ ls) → ReadsLine v s l v' s' → IsRead all (n + 1) v' s' ls
line_read all n v v' s s' l ls r x =
    let d : declarations (r.front ++ l ∷ []) ≡ declarations r.front ++ cons_option (declares v l) [] = declarations_push None r.front l ∙ ap (λ y. declarations r.front ++ cons_option (declares y l) []) r.version in
    record {
      front = r.front ++ l ∷ [];
      counted = omega (arith, length-append r.front (l ∷ []), r.counted);
      version = version_push None r.front l ∙ (ap (λ y. version_behind y l) r.version ∙ sym x.version);
      keeps = subst (λ y. Keeps y (declarations (r.front ++ l ∷ []))) (sym x.adds) (subst (Keeps (with_declared s (declares v l))) (sym d) (keeps_declared s (declarations r.front) (declares v l) r.keeps));
      same = next_fault all n v s l ls r ∙ ap (λ o. fault_or o (n + 1) (first_fault (r.front ++ l ∷ []) ls)) x.faultless;
      whole = r.whole ∙ sym (append_assoc r.front (l ∷ []) ls);
    }

-- a line at fault is the first
pub line_at_fault : (all : List (List ℕ)) (n : ℕ) (v : Option Version) (s : Sofar) (l : List ℕ) (ls : List (List ℕ)) (k : BlueKind) → IsRead all n v s (l ∷ ls) → line_fault v (context s) l ≡ Some k → first_fault [] all ≡ Some (record { kind = k; line = n + 1 })
line_at_fault all n v s l ls k r h =
    next_fault all n v s l ls r ∙ ap (λ o. fault_or o (n + 1) (first_fault (r.front ++ l ∷ []) ls)) h

-- ---- the end of the lines
end_is : (all left : List (List ℕ)) (n : ℕ) (v : Option Version) (s : Sofar) → left ≡ [] → IsRead all n v s left → first_fault [] all ≡ end_fault v (context s)
end_is all left n v s e r =
    r.same ∙ (ap (first_fault r.front) e ∙ (ap (λ x. end_fault x (context_of (declarations r.front))) r.version ∙ ap (end_fault v) (context_is s (declarations r.front) r.keeps)))

-- lines that say nothing at all
pub nothing_read : (all left : List (List ℕ)) (n : ℕ) (v : Option Version) (s : Sofar) → left ≡ [] → is_some v ≡ false → IsRead all n v s left → first_fault [] all ≡ Some (record { kind = BadVersion; line = 0 })
nothing_read all left n v s e h r = end_is all left n v s e r ∙ at v h
  where
    at : (v : Option Version) → is_some v ≡ false → end_fault v (context s) ≡ Some (record { kind = BadVersion; line = 0 })
    at None h = refl
    at (Some w) h = absurd (let k : ⊥ = cc in k)

some_count : (o : Option PlainModule) → is_some (port_count o) ≡ is_some o
some_count None = refl
some_count (Some m) = refl

end_at : (v : Option Version) (s : Sofar) (t : Bool) → is_some v ≡ true → is_some s.opened ≡ t → end_fault v (context s) ≡ cond t (Some (record { kind = BadLine; line = 0 })) None
end_at None s t h o = absurd (let k : ⊥ = cc in k)
end_at (Some w) s t h o = ap (λ t. cond t (Some (record { kind = BadLine; line = 0 })) None) (some_count s.opened ∙ o)

-- the end in a module
pub open_read : (all left : List (List ℕ)) (n : ℕ) (v : Option Version) (s : Sofar) → left ≡ [] → is_some v ≡ true → is_some s.opened ≡ true → IsRead all n v s left → first_fault [] all ≡ Some (record { kind = BadLine; line = 0 })
open_read all left n v s e h o r = end_is all left n v s e r ∙ end_at v s true h o

is_none : (o : Option PlainModule) → is_some o ≡ false → o ≡ None
is_none None h = refl
is_none (Some m) h = absurd (let k : ⊥ = cc in k)

-- what is said where all is read
abbrev pub said_text : Sofar → PlainText
said_text s = record { attrs = s.attrs; switches = s.switches; chains = s.chains; modules = s.done; body = s.own }

-- all is read
pub all_read : (all left : List (List ℕ)) (n : ℕ) (v : Option Version) (s : Sofar) → left ≡ [] → is_some v ≡ true → is_some s.opened ≡ false → IsRead all n v s left → SaysLines all (said_text s)
all_read all left n v s e h f r =
    let o : s.opened ≡ None = is_none s.opened f in
    let front : all ≡ r.front = r.whole ∙ (ap (λ x. r.front ++ x) e ∙ append-nil r.front) in
    let ds : Ds = declarations r.front in
    let k = r.keeps in
    let nil : ds ≡ ds ++ [] = sym (append-nil ds) in
    let a : default_of no_attrs ds ≡ s.attrs = ap (default_of no_attrs) nil ∙ k.attrs [] in
    let m : modules_said ds ≡ s.done = ap modules_said nil ∙ (k.modules [] ∙ (ap (λ x. s.done ++ open_modules x []) o ∙ append-nil s.done)) in
    let w : own_entries false ds ≡ s.own = ap (own_entries false) nil ∙ (k.own [] ∙ append-nil s.own) in
    record {
      faultless = end_is all left n v s e r ∙ end_at v s false h f;
      declared = ap (λ x. text_of (declarations x)) front ∙ rw (a, k.switches, k.chains, m, w) refl;
    }

-- ---- what a reading ends with
pub err_same : {A B : Type 0} (x y : B) → ◌≡◌ {A = Result A B} (Err x) (Err y) → x ≡ y
err_same x y h = cc

fault_same : (f g : BlueFault) → ◌≡◌ {A = ParseEnd} (ended.Fault f) (ended.Fault g) → ◌≡◌ {A = Option BlueFault} (Some f) (Some g)
fault_same f g h = cc

pub refused_line : (all left : List (List ℕ)) (n : ℕ) (v : Option Version) (s : Sofar) (l : List ℕ) (ls : List (List ℕ)) (t : Stop) (f : BlueFault) → IsRead all n v s left → left ≡ l ∷ ls → ((k : BlueKind) → t ≡ stop.Fault k → line_fault v (context s) l ≡ Some k) → stop_end t (n + 1) ≡ ended.Fault f → first_fault [] all ≡ Some f
refused_line all left n v s l ls (stop.Fault k) f r e h g =
    line_at_fault all n v s l ls k (subst (IsRead all n v s) e r) (h k refl) ∙ fault_same (record { kind = k; line = n + 1 }) f g
refused_line all left n v s l ls stop.NoMemory f r e h g = absurd (let k : ⊥ = cc in k)

pub refused_open : (all left : List (List ℕ)) (n : ℕ) (v : Option Version) (s : Sofar) (f : BlueFault) → IsRead all n v s left → left ≡ [] → is_some v ≡ true → is_some s.opened ≡ true → stop_end (stop.Fault BadLine) 0 ≡ ended.Fault f → first_fault [] all ≡ Some f
refused_open all left n v s f r e b o g = open_read all left n v s e b o r ∙ fault_same (record { kind = BadLine; line = 0 }) f g
