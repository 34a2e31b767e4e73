-- What lines without fault declare: declarations that are read again, within the limits.
use Rattle.std.proofs.Common.{◌≡◌, ℕ, suc, ◌+◌, ◌≤◌, ◌<◌, Bool, true, false, cond, ltb, leb, List, [], ◌∷◌, ◌++◌, length, map, Option, Some, None, Ok, Err, refl, sym, ap, subst, ◌∙◌, append_assoc, append-nil, arith}
use Rattle.std.specs.Prelude.{is_some, count_by}
use Rattle.std.specs.List.{filter_map, flat_map, cons_option}
use Rattle.std.specs.Option.{option_map}
use Rattle.std.proofs.lemmas.Bool.{and_parts, ltb-true, ltb-false}
use Rattle.std.proofs.lemmas.List.Sums.{sum_by-append}
use Rattle.elem_core.specs.Text.{words}
use Rattle.blue_modules.specs.declared.text.Attrs.{Attrs}
use Rattle.blue_modules.specs.declared.text.Entry.{Entry}
use Rattle.blue_modules.specs.declared.text.Entry.TheVariants.{Node, Instance, Wire}
use Rattle.blue_modules.specs.declared.text.PortDecl.{PortDecl}
use Rattle.blue_modules.specs.Text.{no_attrs, PlainChainText, PlainModule, PlainText}
use Rattle.blue_words.specs.declared.fault.BlueKind.{BlueKind}
use Rattle.blue_words.specs.declared.fault.BlueKind.TheVariants.{BadLine, TooLong, TooMany}
use Rattle.blue_words.specs.declared.fault.BlueFault.{BlueFault}
use Rattle.blue_words.specs.declared.fault.Version.{Version}
use Rattle.blue_words.specs.Line.{is_plain, is_passed_over}
use Rattle.blue_words.specs.Reading.{At}
use Rattle.blue_lang.specs.Declarations.{Declaration, sets, switch, chain, opens, port, part, ends, declared_by, declared_in, is_misplaced}
use Rattle.blue_lang.specs.Texts.{Context, context_of, ports_said, body_said, modules_said, own_entries, default_of, switch_in, declared_chain, text_of, open_ports, few_ports, has_room, is_switch, is_chain, is_opening, is_node, is_use, is_wire, declaration_fault, words_fault, said_fault, line_fault, version_behind, version_in, declaration_at, declares, declarations_from, declarations, fault_behind, fault_or, first_fault}
use Rattle.blue_lang.specs.Canonical.{sets_some, default_lines, module_lines, canonical_declarations}
use Rattle.blue_lang.proofs.Respelling.{Words}
use Rattle.blue_lang.proofs.Reading.{count_push, version_push, declarations_push}
use Rattle.blue_lang.proofs.Declaring.{KeptDeclaration, declared_kept, end_kept}
use Rattle.blue_lang.proofs.Lining.{line_words}
use Rattle.blue_lang.proofs.Fitting.{FewPorts, FewSteps, Bounded, Fit, opened_behind, opened_push, one, one_if, count_cons, canonical_fits}

abbrev Ds : Type 0
Ds = List Declaration

abbrev pub Each : {A : Type 0} → (A → Type 0) → List A → Type 0
Each P [] = Unit {0}
Each P (x ∷ xs) = P x × Each P xs

each_append : {A : Type 0} (P : A → Type 0) (xs ys : List A) → Each P xs → Each P ys → Each P (xs ++ ys)
each_append P [] ys a b = b
each_append P (x ∷ xs) ys a b = (a.0, each_append P xs ys a.1 b)

each_map : {A B : Type 0} (P : B → Type 0) (f : A → B) (xs : List A) → Each (λ x. P (f x)) xs → Each P (map f xs)
each_map P f [] a = tt
each_map P f (x ∷ xs) a = (a.0, each_map P f xs a.1)

-- ---- what a line without fault declares
abbrev few_steps : Declaration → Bool
few_steps (sets a) = true
few_steps (switch n) = true
few_steps (chain c) = leb (length c.steps) 32
few_steps (opens n a) = true
few_steps (port p) = true
few_steps (part e) = true
few_steps ends = true

pub record Fine (d : Declaration) : Type 0 where
  pub kept : KeptDeclaration d
  pub few : few_steps d ≡ true

pub none_after : {A : Type 0} (t : Bool) (x : A) (o : Option A) → cond t (Some x) o ≡ None → (t ≡ false) × (o ≡ None)
none_after true x o h = absurd (let k : ⊥ = cc in k)
none_after false x o h = (refl, h)

pub none_before : {A : Type 0} (t : Bool) (x : A) → cond t None (Some x) ≡ None → t ≡ true
none_before true x h = refl
none_before false x h = absurd (let k : ⊥ = cc in k)

some_else : {A : Type 0} (t : Bool) (o : Option A) (a : A) → cond t None o ≡ Some a → (t ≡ false) × (o ≡ Some a)
some_else true o a h = absurd (let k : ⊥ = cc in k)
some_else false o a h = (refl, h)

ok_then : {A : Type 0} (t : Bool) (p : At A) (a : A) → cond t p (Err BadLine) ≡ Ok a → (t ≡ true) × (p ≡ Ok a)
ok_then true p a h = (refl, h)
ok_then false p a h = absurd (let k : ⊥ = cc in k)

some_same : {A : Type 0} (x y : A) → ◌≡◌ {A = Option A} (Some x) (Some y) → x ≡ y
some_same x y h = cc

cut_place : (p : At Declaration) (d : Declaration) → declaration_at p ≡ Some d → p ≡ Ok d
cut_place (Ok e) d h = let k : e ≡ d = some_same e d h in ap (λ x. Ok x) k
cut_place (Err k) d h = absurd (let k : ⊥ = cc in k)

-- what a line declares, it declares by its words
declares_of : (v : Version) (l : List ℕ) (d : Declaration) → declares (Some v) l ≡ Some d → (is_passed_over l ≡ false) × (is_plain l ≡ true) × (declared_by v (words l) ≡ Ok d)
declares_of v l d h =
    let s = some_else (is_passed_over l) (declaration_at (declared_in v l)) d h in
    let k = ok_then (is_plain l) (declared_by v (words l)) d (cut_place (declared_in v l) d s.1) in
    (s.0, k.0, k.1)

words_room : (v : Version) (c : Context) (ws : Words) (d : Declaration) → words_fault v c ws ≡ None → declared_by v ws ≡ Ok d → has_room c d ≡ true
words_room v c [] d h e = absurd (let k : ⊥ = cc in k)
words_room v c (w ∷ ws) d h e =
    let p = none_after (is_misplaced (is_some c.opened) c.defaulted w) BadLine (declaration_fault c (declared_by v (w ∷ ws))) h in
    none_before (has_room c d) TooMany (sym (ap (declaration_fault c) e) ∙ p.1)

room_few : (c : Context) (d : Declaration) → has_room c d ≡ true → few_steps d ≡ true
room_few c (sets a) h = refl
room_few c (switch n) h = refl
room_few c (chain k) h = (and_parts (ltb c.chains 256) (leb (length k.steps) 32) h).1
room_few c (opens n a) h = refl
room_few c (port p) h = refl
room_few c (part e) h = refl
room_few c ends h = refl

line_room : (v : Option Version) (c : Context) (l : List ℕ) (d : Declaration) → line_fault v c l ≡ None → declares v l ≡ Some d → (has_room c d ≡ true) × Fine d
line_room None c l d h e = absurd (let k : ⊥ = cc in k)
line_room (Some v) c l d h e =
    let k = declares_of v l d e in
    let long = none_after (ltb 1024 (length l)) TooLong (cond (is_passed_over l) None (said_fault v c l)) h in
    let said : said_fault v c l ≡ None = sym (ap (λ t. cond t None (said_fault v c l)) k.0) ∙ long.1 in
    let clean : words_fault v c (words l) ≡ None = sym (ap (λ t. cond t (words_fault v c (words l)) (Some BadLine)) k.1) ∙ said in
    let r = words_room v c (words l) d clean k.2 in
    let w = line_words l k.1 in
    let short = ltb-false 1024 (length l) long.0 in
    (r, record { kept = declared_kept v (words l) d k.2 w.0 (omega (arith, w.1, short)); few = room_few c d r })

pub fault_or_none : (o : Option BlueKind) (n : ℕ) (later : Option BlueFault) → fault_or o n later ≡ None → (o ≡ None) × (later ≡ None)
fault_or_none None n later h = (refl, h)
fault_or_none (Some k) n later h = absurd (let k : ⊥ = cc in k)

-- ---- what all lines declare
one_fine : (o : Option Declaration) → ((d : Declaration) → o ≡ Some d → Fine d) → (ds : Ds) → Each Fine ds → Each Fine (cons_option o ds)
one_fine None h ds e = e
one_fine (Some d) h ds e = (h d refl, e)

pub lines_fine : (before ls : List (List ℕ)) → first_fault before ls ≡ None → Each Fine (declarations_from (version_in before) ls)
lines_fine before [] h = tt
lines_fine before (l ∷ ls) h =
    let k = fault_or_none (fault_behind before l) (length before + 1) (first_fault (before ++ l ∷ []) ls) h in
    let v = version_in before in
    let later = subst (λ x. Each Fine (declarations_from x ls)) (version_push None before l) (lines_fine (before ++ l ∷ []) ls k.1) in
    one_fine (declares v l) (λ d e. (line_room v (context_of (declarations before)) l d k.0 e).1) (declarations_from (version_behind v l) ls) later

-- each declaration has room behind those before it
abbrev pub Rooms : Ds → Ds → Type 0
Rooms bs [] = Unit {0}
Rooms bs (d ∷ ds) = (has_room (context_of bs) d ≡ true) × Rooms (bs ++ d ∷ []) ds

one_room : (bs : Ds) (o : Option Declaration) → ((d : Declaration) → o ≡ Some d → has_room (context_of bs) d ≡ true) → (ds : Ds) → Rooms (bs ++ cons_option o []) ds → Rooms bs (cons_option o ds)
one_room bs None h ds r = subst (λ x. Rooms x ds) (append-nil bs) r
one_room bs (Some d) h ds r = (h d refl, r)

pub lines_room : (before ls : List (List ℕ)) → first_fault before ls ≡ None → Rooms (declarations before) (declarations_from (version_in before) ls)
lines_room before [] h = tt
lines_room before (l ∷ ls) h =
    let k = fault_or_none (fault_behind before l) (length before + 1) (first_fault (before ++ l ∷ []) ls) h in
    let v = version_in before in
    let later = subst (λ x. Rooms (declarations (before ++ l ∷ [])) (declarations_from x ls)) (version_push None before l) (lines_room (before ++ l ∷ []) ls k.1) in
    let here = subst (λ x. Rooms x (declarations_from (version_behind v l) ls)) (declarations_push None before l) later in
    one_room (declarations before) (declares v l) (λ d e. (line_room v (context_of (declarations before)) l d k.0 e).0) (declarations_from (version_behind v l) ls) here

-- ---- the counts
no : {P : Type 0} → false ≡ true → P
no h = absurd (let k : ⊥ = cc in k)

record Bounds (bs : Ds) (d : Declaration) : Type 0 where
  switches : is_switch d ≡ true → count_by is_switch bs < 64
  chains : is_chain d ≡ true → count_by is_chain bs < 256
  modules : is_opening d ≡ true → count_by is_opening bs < 64
  nodes : is_node d ≡ true → count_by is_node bs < 1024
  uses : is_use d ≡ true → count_by is_use bs < 256
  wires : is_wire d ≡ true → count_by is_wire bs < 2048

has_bounds : (bs : Ds) (d : Declaration) → has_room (context_of bs) d ≡ true → Bounds bs d
has_bounds bs (sets a) h = record { switches = no; chains = no; modules = no; nodes = no; uses = no; wires = no }
has_bounds bs (switch n) h = record { switches = λ e. ltb-true (count_by is_switch bs) 64 h; chains = no; modules = no; nodes = no; uses = no; wires = no }
has_bounds bs (chain c) h = record { switches = no; chains = λ e. ltb-true (count_by is_chain bs) 256 (and_parts (ltb (count_by is_chain bs) 256) (leb (length c.steps) 32) h).0; modules = no; nodes = no; uses = no; wires = no }
has_bounds bs (opens n a) h = record { switches = no; chains = no; modules = λ e. ltb-true (count_by is_opening bs) 64 h; nodes = no; uses = no; wires = no }
has_bounds bs (port p) h = record { switches = no; chains = no; modules = no; nodes = no; uses = no; wires = no }
has_bounds bs (part (Node n)) h = record { switches = no; chains = no; modules = no; nodes = λ e. ltb-true (count_by is_node bs) 1024 h; uses = no; wires = no }
has_bounds bs (part (Instance u)) h = record { switches = no; chains = no; modules = no; nodes = no; uses = λ e. ltb-true (count_by is_use bs) 256 h; wires = no }
has_bounds bs (part (Wire w)) h = record { switches = no; chains = no; modules = no; nodes = no; uses = no; wires = λ e. ltb-true (count_by is_wire bs) 2048 h }
has_bounds bs ends h = record { switches = no; chains = no; modules = no; nodes = no; uses = no; wires = no }

pushed : (t : Bool) (n k : ℕ) → (t ≡ true → n < k) → n ≤ k → cond t (n + 1) n ≤ k
pushed true n k h l = let b = h refl in omega (arith, b)
pushed false n k h l = l

limit : (f : Declaration → Bool) (k : ℕ) → ((bs : Ds) (d : Declaration) → has_room (context_of bs) d ≡ true → f d ≡ true → count_by f bs < k) → (bs ds : Ds) → Rooms bs ds → count_by f bs ≤ k → count_by f (bs ++ ds) ≤ k
limit f k h bs [] r l = subst (λ x. count_by f x ≤ k) (sym (append-nil bs)) l
limit f k h bs (d ∷ ds) r l =
    let one_more = subst (λ x. x ≤ k) (sym (count_push f bs d)) (pushed (f d) (count_by f bs) k (h bs d r.0) l) in
    subst (λ x. count_by f x ≤ k) (append_assoc bs (d ∷ []) ds) (limit f k h (bs ++ d ∷ []) ds r.1 one_more)

-- ---- the ports
abbrev FewFrom : Option ℕ → Ds → Type 0
FewFrom o [] = Unit {0}
FewFrom o (sets a ∷ ds) = FewFrom o ds
FewFrom o (switch n ∷ ds) = FewFrom o ds
FewFrom o (chain c ∷ ds) = FewFrom o ds
FewFrom o (opens n a ∷ ds) = FewFrom (Some 0) ds
FewFrom o (port p ∷ ds) = (few_ports o ≡ true) × FewFrom (option_map suc o) ds
FewFrom o (part e ∷ ds) = FewFrom o ds
FewFrom o (ends ∷ ds) = FewFrom None ds

few_step : (c : Context) (d : Declaration) (ds : Ds) → has_room c d ≡ true → FewFrom (opened_behind c.opened d) ds → FewFrom c.opened (d ∷ ds)
few_step c (sets a) ds h f = f
few_step c (switch n) ds h f = f
few_step c (chain k) ds h f = f
few_step c (opens n a) ds h f = f
few_step c (port p) ds h f = (h, f)
few_step c (part e) ds h f = f
few_step c ends ds h f = f

ports_few : (bs ds : Ds) → Rooms bs ds → FewFrom (open_ports None bs) ds
ports_few bs [] r = tt
ports_few bs (d ∷ ds) r =
    few_step (context_of bs) d ds r.0 (subst (λ o. FewFrom o ds) (opened_push None bs d) (ports_few (bs ++ d ∷ []) ds r.1))

few_of : (n : ℕ) (ds : Ds) → n ≤ 64 → FewFrom (Some n) ds → n + length (ports_said ds) ≤ 64
few_of n [] l f = omega (arith, l)
few_of n (sets a ∷ ds) l f = few_of n ds l f
few_of n (switch m ∷ ds) l f = few_of n ds l f
few_of n (chain c ∷ ds) l f = few_of n ds l f
few_of n (opens m a ∷ ds) l f = omega (arith, l)
few_of n (port p ∷ ds) l f =
    let room = ltb-true n 64 f.0 in
    let later = few_of (suc n) ds (omega (arith, room)) f.1 in
    omega (arith, later)
few_of n (part e ∷ ds) l f = few_of n ds l f
few_of n (ends ∷ ds) l f = omega (arith, l)

few_modules : (o : Option ℕ) (ds : Ds) → FewFrom o ds → FewPorts (modules_said ds)
few_modules o [] f = tt
few_modules o (sets a ∷ ds) f = few_modules o ds f
few_modules o (switch n ∷ ds) f = few_modules o ds f
few_modules o (chain c ∷ ds) f = few_modules o ds f
few_modules o (opens n a ∷ ds) f = let few = few_of 0 ds (omega arith) f in (omega (arith, few), few_modules (Some 0) ds f)
few_modules o (port p ∷ ds) f = few_modules (option_map suc o) ds f.1
few_modules o (part e ∷ ds) f = few_modules o ds f
few_modules o (ends ∷ ds) f = few_modules None ds f

-- ---- what counts parts alone counts the same in the canonical order
record OfParts (f : Declaration → Bool) : Type 0 where
  sets_not : (a : Attrs) → f (sets a) ≡ false
  switch_not : (n : List ℕ) → f (switch n) ≡ false
  chain_not : (c : PlainChainText) → f (chain c) ≡ false
  opens_not : (n : List ℕ) (a : Attrs) → f (opens n a) ≡ false
  port_not : (p : PortDecl) → f (port p) ≡ false
  ends_not : f ends ≡ false

abbrev in_modules : (Declaration → Bool) → List PlainModule → ℕ
in_modules f [] = 0
in_modules f (m ∷ ms) = count_by f (map part m.body) + in_modules f ms

count_nil : (f : Declaration → Bool) → count_by f [] ≡ 0
count_nil f = refl

mutual
  count_inside : (f : Declaration → Bool) → OfParts f → (ds : Ds) → count_by f (map part (own_entries true ds)) + (count_by f (map part (body_said ds)) + in_modules f (modules_said ds)) ≡ count_by f ds
  count_inside f q [] = refl
  count_inside f q (sets a ∷ ds) = let s = count_inside f q ds in omega (arith, s, count_cons f (sets a) ds, one_if _ _ (q.sets_not a))
  count_inside f q (switch n ∷ ds) = let s = count_inside f q ds in omega (arith, s, count_cons f (switch n) ds, one_if _ _ (q.switch_not n))
  count_inside f q (chain c ∷ ds) = let s = count_inside f q ds in omega (arith, s, count_cons f (chain c) ds, one_if _ _ (q.chain_not c))
  count_inside f q (opens n a ∷ ds) = let s = count_inside f q ds in omega (arith, s, count_nil f, count_cons f (opens n a) ds, one_if _ _ (q.opens_not n a))
  count_inside f q (port p ∷ ds) = let s = count_inside f q ds in omega (arith, s, count_cons f (port p) ds, one_if _ _ (q.port_not p))
  count_inside f q (part e ∷ ds) = let s = count_inside f q ds in omega (arith, s, count_cons f (part e) ds, count_cons f (part e) (map part (body_said ds)))
  count_inside f q (ends ∷ ds) = let s = count_outside f q ds in omega (arith, s, count_nil f, count_cons f ends ds, one_if _ _ q.ends_not)

  count_outside : (f : Declaration → Bool) → OfParts f → (ds : Ds) → count_by f (map part (own_entries false ds)) + in_modules f (modules_said ds) ≡ count_by f ds
  count_outside f q [] = refl
  count_outside f q (sets a ∷ ds) = let s = count_outside f q ds in omega (arith, s, count_cons f (sets a) ds, one_if _ _ (q.sets_not a))
  count_outside f q (switch n ∷ ds) = let s = count_outside f q ds in omega (arith, s, count_cons f (switch n) ds, one_if _ _ (q.switch_not n))
  count_outside f q (chain c ∷ ds) = let s = count_outside f q ds in omega (arith, s, count_cons f (chain c) ds, one_if _ _ (q.chain_not c))
  count_outside f q (opens n a ∷ ds) = let s = count_inside f q ds in omega (arith, s, count_cons f (opens n a) ds, one_if _ _ (q.opens_not n a))
  count_outside f q (port p ∷ ds) = let s = count_outside f q ds in omega (arith, s, count_cons f (port p) ds, one_if _ _ (q.port_not p))
  count_outside f q (part e ∷ ds) = let s = count_outside f q ds in omega (arith, s, count_cons f (part e) ds, count_cons f (part e) (map part (own_entries false ds)))
  count_outside f q (ends ∷ ds) = let s = count_outside f q ds in omega (arith, s, count_cons f ends ds, one_if _ _ q.ends_not)

count_append : (f : Declaration → Bool) (xs ys : Ds) → count_by f (xs ++ ys) ≡ count_by f xs + count_by f ys
count_append f xs ys = sum_by-append (λ x. cond (f x) 1 0) xs ys

none_counted : {A : Type 0} (f : Declaration → Bool) (g : A → Declaration) → ((x : A) → f (g x) ≡ false) → (xs : List A) → count_by f (map g xs) ≡ 0
none_counted f g h [] = refl
none_counted f g h (x ∷ xs) = omega (arith, count_cons f (g x) (map g xs), one_if _ _ (h x), none_counted f g h xs)

all_counted : {A : Type 0} (f : Declaration → Bool) (g : A → Declaration) → ((x : A) → f (g x) ≡ true) → (xs : List A) → count_by f (map g xs) ≡ length xs
all_counted f g h [] = refl
all_counted f g h (x ∷ xs) = omega (arith, count_cons f (g x) (map g xs), one_if _ _ (h x), all_counted f g h xs)

module_counts : (f : Declaration → Bool) (m : PlainModule) → ((p : PortDecl) → f (port p) ≡ false) → f ends ≡ false → count_by f (module_lines m) ≡ one (f (opens m.name m.attrs)) + count_by f (map part m.body)
module_counts f m p n =
    omega (arith, count_cons f (opens m.name m.attrs) (map port m.ports ++ (map part m.body ++ ends ∷ [])), count_append f (map port m.ports) (map part m.body ++ ends ∷ []), count_append f (map part m.body) (ends ∷ []), none_counted f port p m.ports, count_cons f ends [], count_nil f, one_if _ _ n)

modules_counts : (f : Declaration → Bool) → OfParts f → (ms : List PlainModule) → count_by f (flat_map module_lines ms) ≡ in_modules f ms
modules_counts f q [] = refl
modules_counts f q (m ∷ ms) =
    let later = modules_counts f q ms in
    omega (arith, later, count_append f (module_lines m) (flat_map module_lines ms), module_counts f m q.port_not q.ends_not, one_if _ _ (q.opens_not m.name m.attrs))

default_counts : (f : Declaration → Bool) (t : Bool) (a : Attrs) → f (sets a) ≡ false → count_by f (cond t (sets a ∷ []) []) ≡ 0
default_counts f true a h = omega (arith, count_cons f (sets a) [], count_nil f, one_if _ _ h)
default_counts f false a h = refl

-- a count of the canonical declarations, part by part
canonical_count : (f : Declaration → Bool) (t : PlainText) → count_by f (canonical_declarations t) ≡ count_by f (default_lines t.attrs) + (count_by f (map switch t.switches) + (count_by f (map chain t.chains) + (count_by f (flat_map module_lines t.modules) + count_by f (map part t.body))))
canonical_count f t =
    omega (arith, count_append f (default_lines t.attrs) (map switch t.switches ++ (map chain t.chains ++ (flat_map module_lines t.modules ++ map part t.body))), count_append f (map switch t.switches) (map chain t.chains ++ (flat_map module_lines t.modules ++ map part t.body)), count_append f (map chain t.chains) (flat_map module_lines t.modules ++ map part t.body), count_append f (flat_map module_lines t.modules) (map part t.body))

parts_counted : (f : Declaration → Bool) → OfParts f → (ds : Ds) → count_by f (canonical_declarations (text_of ds)) ≡ count_by f ds
parts_counted f q ds =
    let t = text_of ds in
    omega (arith, canonical_count f t, default_counts f (sets_some t.attrs) t.attrs (q.sets_not t.attrs), none_counted f switch q.switch_not t.switches, none_counted f chain q.chain_not t.chains, modules_counts f q t.modules, count_outside f q ds)

nodes_parts : OfParts is_node
nodes_parts = record { sets_not = λ a. refl; switch_not = λ n. refl; chain_not = λ c. refl; opens_not = λ n a. refl; port_not = λ p. refl; ends_not = refl }

uses_parts : OfParts is_use
uses_parts = record { sets_not = λ a. refl; switch_not = λ n. refl; chain_not = λ c. refl; opens_not = λ n a. refl; port_not = λ p. refl; ends_not = refl }

wires_parts : OfParts is_wire
wires_parts = record { sets_not = λ a. refl; switch_not = λ n. refl; chain_not = λ c. refl; opens_not = λ n a. refl; port_not = λ p. refl; ends_not = refl }

-- ---- switches, chains and modules
none_in_modules : (f : Declaration → Bool) → ((n : List ℕ) (a : Attrs) → f (opens n a) ≡ false) → ((p : PortDecl) → f (port p) ≡ false) → ((e : Entry) → f (part e) ≡ false) → f ends ≡ false → (ms : List PlainModule) → count_by f (flat_map module_lines ms) ≡ 0
none_in_modules f o p e n [] = refl
none_in_modules f o p e n (m ∷ ms) =
    let later = none_in_modules f o p e n ms in
    omega (arith, later, count_append f (module_lines m) (flat_map module_lines ms), module_counts f m p n, one_if _ _ (o m.name m.attrs), none_counted f part e m.body)

openings_of : (ms : List PlainModule) → count_by is_opening (flat_map module_lines ms) ≡ length ms
openings_of [] = refl
openings_of (m ∷ ms) =
    let later = openings_of ms in
    omega (arith, later, count_append is_opening (module_lines m) (flat_map module_lines ms), module_counts is_opening m (λ p. refl) refl, none_counted is_opening part (λ e. refl) m.body)

picked_switches : (ds : Ds) → length (filter_map switch_in ds) ≡ count_by is_switch ds
picked_switches [] = refl
picked_switches (sets a ∷ ds) = let s = picked_switches ds in omega (arith, s, count_cons is_switch (sets a) ds)
picked_switches (switch n ∷ ds) = let s = picked_switches ds in omega (arith, s, count_cons is_switch (switch n) ds)
picked_switches (chain c ∷ ds) = let s = picked_switches ds in omega (arith, s, count_cons is_switch (chain c) ds)
picked_switches (opens n a ∷ ds) = let s = picked_switches ds in omega (arith, s, count_cons is_switch (opens n a) ds)
picked_switches (port p ∷ ds) = let s = picked_switches ds in omega (arith, s, count_cons is_switch (port p) ds)
picked_switches (part e ∷ ds) = let s = picked_switches ds in omega (arith, s, count_cons is_switch (part e) ds)
picked_switches (ends ∷ ds) = let s = picked_switches ds in omega (arith, s, count_cons is_switch ends ds)

picked_chains : (ds : Ds) → length (filter_map declared_chain ds) ≡ count_by is_chain ds
picked_chains [] = refl
picked_chains (sets a ∷ ds) = let s = picked_chains ds in omega (arith, s, count_cons is_chain (sets a) ds)
picked_chains (switch n ∷ ds) = let s = picked_chains ds in omega (arith, s, count_cons is_chain (switch n) ds)
picked_chains (chain c ∷ ds) = let s = picked_chains ds in omega (arith, s, count_cons is_chain (chain c) ds)
picked_chains (opens n a ∷ ds) = let s = picked_chains ds in omega (arith, s, count_cons is_chain (opens n a) ds)
picked_chains (port p ∷ ds) = let s = picked_chains ds in omega (arith, s, count_cons is_chain (port p) ds)
picked_chains (part e ∷ ds) = let s = picked_chains ds in omega (arith, s, count_cons is_chain (part e) ds)
picked_chains (ends ∷ ds) = let s = picked_chains ds in omega (arith, s, count_cons is_chain ends ds)

picked_modules : (ds : Ds) → length (modules_said ds) ≡ count_by is_opening ds
picked_modules [] = refl
picked_modules (sets a ∷ ds) = let s = picked_modules ds in omega (arith, s, count_cons is_opening (sets a) ds)
picked_modules (switch n ∷ ds) = let s = picked_modules ds in omega (arith, s, count_cons is_opening (switch n) ds)
picked_modules (chain c ∷ ds) = let s = picked_modules ds in omega (arith, s, count_cons is_opening (chain c) ds)
picked_modules (opens n a ∷ ds) = let s = picked_modules ds in omega (arith, s, count_cons is_opening (opens n a) ds)
picked_modules (port p ∷ ds) = let s = picked_modules ds in omega (arith, s, count_cons is_opening (port p) ds)
picked_modules (part e ∷ ds) = let s = picked_modules ds in omega (arith, s, count_cons is_opening (part e) ds)
picked_modules (ends ∷ ds) = let s = picked_modules ds in omega (arith, s, count_cons is_opening ends ds)

switches_counted : (ds : Ds) → count_by is_switch (canonical_declarations (text_of ds)) ≡ count_by is_switch ds
switches_counted ds =
    let t = text_of ds in
    omega (arith, canonical_count is_switch t, default_counts is_switch (sets_some t.attrs) t.attrs refl, all_counted is_switch switch (λ x. refl) t.switches, none_counted is_switch chain (λ x. refl) t.chains, none_in_modules is_switch (λ n a. refl) (λ p. refl) (λ e. refl) refl t.modules, none_counted is_switch part (λ x. refl) t.body, picked_switches ds)

chains_counted : (ds : Ds) → count_by is_chain (canonical_declarations (text_of ds)) ≡ count_by is_chain ds
chains_counted ds =
    let t = text_of ds in
    omega (arith, canonical_count is_chain t, default_counts is_chain (sets_some t.attrs) t.attrs refl, none_counted is_chain switch (λ x. refl) t.switches, all_counted is_chain chain (λ x. refl) t.chains, none_in_modules is_chain (λ n a. refl) (λ p. refl) (λ e. refl) refl t.modules, none_counted is_chain part (λ x. refl) t.body, picked_chains ds)

openings_counted : (ds : Ds) → count_by is_opening (canonical_declarations (text_of ds)) ≡ count_by is_opening ds
openings_counted ds =
    let t = text_of ds in
    omega (arith, canonical_count is_opening t, default_counts is_opening (sets_some t.attrs) t.attrs refl, none_counted is_opening switch (λ x. refl) t.switches, none_counted is_opening chain (λ x. refl) t.chains, openings_of t.modules, none_counted is_opening part (λ x. refl) t.body, picked_modules ds)

-- what has room as it stands is within the limits in the canonical order
bounded : (ds : Ds) → Rooms [] ds → Bounded (context_of []) (canonical_declarations (text_of ds))
bounded ds r =
    let s = limit is_switch 64 (λ bs d h. (has_bounds bs d h).switches) [] ds r (omega arith) in
    let c = limit is_chain 256 (λ bs d h. (has_bounds bs d h).chains) [] ds r (omega arith) in
    let m = limit is_opening 64 (λ bs d h. (has_bounds bs d h).modules) [] ds r (omega arith) in
    let n = limit is_node 1024 (λ bs d h. (has_bounds bs d h).nodes) [] ds r (omega arith) in
    let u = limit is_use 256 (λ bs d h. (has_bounds bs d h).uses) [] ds r (omega arith) in
    let w = limit is_wire 2048 (λ bs d h. (has_bounds bs d h).wires) [] ds r (omega arith) in
    record {
      switches = omega (arith, s, switches_counted ds);
      chains = omega (arith, c, chains_counted ds);
      modules = omega (arith, m, openings_counted ds);
      nodes = omega (arith, n, parts_counted is_node nodes_parts ds);
      uses = omega (arith, u, parts_counted is_use uses_parts ds);
      wires = omega (arith, w, parts_counted is_wire wires_parts ds);
    }

-- ---- the declarations of the canonical text are fine
picks_fine : {A : Type 0} (pick : Declaration → Option A) (inj : A → Declaration) → ((d : Declaration) (a : A) → pick d ≡ Some a → d ≡ inj a) → (ds : Ds) → Each Fine ds → Each (λ a. Fine (inj a)) (filter_map pick ds)
picks_fine {A} pick inj h [] f = tt
picks_fine {A} pick inj h (d ∷ ds) f = at (pick d) (h d) f.0 (filter_map pick ds) (picks_fine pick inj h ds f.1)
  where
    at : (o : Option A) → ((a : A) → o ≡ Some a → d ≡ inj a) → Fine d → (xs : List A) → Each (λ a. Fine (inj a)) xs → Each (λ a. Fine (inj a)) (cons_option o xs)
    at None g x xs e = e
    at (Some a) g x xs e = (subst Fine (g a refl) x, e)

not_some : {A : Type 0} {P : Type 0} (a : A) → ◌≡◌ {A = Option A} None (Some a) → P
not_some a h = absurd (let k : ⊥ = cc in k)

switch_is : (d : Declaration) (a : List ℕ) → switch_in d ≡ Some a → d ≡ switch a
switch_is (sets b) a h = not_some a h
switch_is (switch n) a h = ap switch (some_same n a h)
switch_is (chain c) a h = not_some a h
switch_is (opens n b) a h = not_some a h
switch_is (port p) a h = not_some a h
switch_is (part e) a h = not_some a h
switch_is ends a h = not_some a h

chain_is : (d : Declaration) (a : PlainChainText) → declared_chain d ≡ Some a → d ≡ chain a
chain_is (sets b) a h = not_some a h
chain_is (switch n) a h = not_some a h
chain_is (chain c) a h = ap chain (some_same c a h)
chain_is (opens n b) a h = not_some a h
chain_is (port p) a h = not_some a h
chain_is (part e) a h = not_some a h
chain_is ends a h = not_some a h

abbrev SetFine : Attrs → Type 0
SetFine a = sets_some a ≡ true → Fine (sets a)

default_fine : (a : Attrs) (ds : Ds) → Each Fine ds → SetFine a → SetFine (default_of a ds)
default_fine a [] f h = h
default_fine a (sets b ∷ ds) f h = default_fine b ds f.1 (λ e. f.0)
default_fine a (switch n ∷ ds) f h = default_fine a ds f.1 h
default_fine a (chain c ∷ ds) f h = default_fine a ds f.1 h
default_fine a (opens n b ∷ ds) f h = default_fine a ds f.1 h
default_fine a (port p ∷ ds) f h = default_fine a ds f.1 h
default_fine a (part e ∷ ds) f h = default_fine a ds f.1 h
default_fine a (ends ∷ ds) f h = default_fine a ds f.1 h

set_fine : (t : Bool) (a : Attrs) → (t ≡ true → Fine (sets a)) → Each Fine (cond t (sets a ∷ []) [])
set_fine true a h = (h refl, tt)
set_fine false a h = tt

ports_fine : (ds : Ds) → Each Fine ds → Each Fine (map port (ports_said ds))
ports_fine [] f = tt
ports_fine (sets a ∷ ds) f = ports_fine ds f.1
ports_fine (switch n ∷ ds) f = ports_fine ds f.1
ports_fine (chain c ∷ ds) f = ports_fine ds f.1
ports_fine (opens n a ∷ ds) f = tt
ports_fine (port p ∷ ds) f = (f.0, ports_fine ds f.1)
ports_fine (part e ∷ ds) f = ports_fine ds f.1
ports_fine (ends ∷ ds) f = tt

body_fine : (ds : Ds) → Each Fine ds → Each Fine (map part (body_said ds))
body_fine [] f = tt
body_fine (sets a ∷ ds) f = body_fine ds f.1
body_fine (switch n ∷ ds) f = body_fine ds f.1
body_fine (chain c ∷ ds) f = body_fine ds f.1
body_fine (opens n a ∷ ds) f = tt
body_fine (port p ∷ ds) f = body_fine ds f.1
body_fine (part e ∷ ds) f = (f.0, body_fine ds f.1)
body_fine (ends ∷ ds) f = tt

end_fine : Fine ends
end_fine = record { kept = end_kept; few = refl }

modules_fine : (ds : Ds) → Each Fine ds → Each Fine (flat_map module_lines (modules_said ds))
modules_fine [] f = tt
modules_fine (sets a ∷ ds) f = modules_fine ds f.1
modules_fine (switch n ∷ ds) f = modules_fine ds f.1
modules_fine (chain c ∷ ds) f = modules_fine ds f.1
modules_fine (opens n a ∷ ds) f =
    let inner : Each Fine (map port (ports_said ds) ++ (map part (body_said ds) ++ ends ∷ [])) = each_append Fine (map port (ports_said ds)) (map part (body_said ds) ++ ends ∷ []) (ports_fine ds f.1) (each_append Fine (map part (body_said ds)) (ends ∷ []) (body_fine ds f.1) (end_fine, tt)) in
    each_append Fine (opens n a ∷ (map port (ports_said ds) ++ (map part (body_said ds) ++ ends ∷ []))) (flat_map module_lines (modules_said ds)) (f.0, inner) (modules_fine ds f.1)
modules_fine (port p ∷ ds) f = modules_fine ds f.1
modules_fine (part e ∷ ds) f = modules_fine ds f.1
modules_fine (ends ∷ ds) f = modules_fine ds f.1

own_fine : (t : Bool) (ds : Ds) → Each Fine ds → Each Fine (map part (own_entries t ds))
own_fine true [] f = tt
own_fine true (sets a ∷ ds) f = own_fine true ds f.1
own_fine true (switch n ∷ ds) f = own_fine true ds f.1
own_fine true (chain c ∷ ds) f = own_fine true ds f.1
own_fine true (opens n a ∷ ds) f = own_fine true ds f.1
own_fine true (port p ∷ ds) f = own_fine true ds f.1
own_fine true (part e ∷ ds) f = own_fine true ds f.1
own_fine true (ends ∷ ds) f = own_fine false ds f.1
own_fine false [] f = tt
own_fine false (sets a ∷ ds) f = own_fine false ds f.1
own_fine false (switch n ∷ ds) f = own_fine false ds f.1
own_fine false (chain c ∷ ds) f = own_fine false ds f.1
own_fine false (opens n a ∷ ds) f = own_fine true ds f.1
own_fine false (port p ∷ ds) f = own_fine false ds f.1
own_fine false (part e ∷ ds) f = (f.0, own_fine false ds f.1)
own_fine false (ends ∷ ds) f = own_fine false ds f.1

none_set : SetFine no_attrs
none_set h = absurd (let k : ⊥ = cc in k)

pub all_fine : (ds : Ds) → Each Fine ds → Each Fine (canonical_declarations (text_of ds))
all_fine ds f =
    let t = text_of ds in
    let own : Each Fine (flat_map module_lines t.modules ++ map part t.body) = each_append Fine (flat_map module_lines t.modules) (map part t.body) (modules_fine ds f) (own_fine false ds f) in
    let chains : Each Fine (map chain t.chains ++ (flat_map module_lines t.modules ++ map part t.body)) = each_append Fine (map chain t.chains) (flat_map module_lines t.modules ++ map part t.body) (each_map Fine chain t.chains (picks_fine declared_chain chain chain_is ds f)) own in
    let switches : Each Fine (map switch t.switches ++ (map chain t.chains ++ (flat_map module_lines t.modules ++ map part t.body))) = each_append Fine (map switch t.switches) (map chain t.chains ++ (flat_map module_lines t.modules ++ map part t.body)) (each_map Fine switch t.switches (picks_fine switch_in switch switch_is ds f)) chains in
    each_append Fine (default_lines t.attrs) (map switch t.switches ++ (map chain t.chains ++ (flat_map module_lines t.modules ++ map part t.body))) (set_fine (sets_some t.attrs) t.attrs (default_fine no_attrs ds f none_set)) switches

few_chains : (cs : List PlainChainText) → Each (λ c. Fine (chain c)) cs → FewSteps cs
few_chains [] f = tt
few_chains (c ∷ cs) f = (f.0.few, few_chains cs f.1)

-- what lines without fault declare is at no fault in the canonical order
pub all_fit : (ds : Ds) → Each Fine ds → Rooms [] ds → Fit [] (canonical_declarations (text_of ds))
all_fit ds f r =
    canonical_fits (text_of ds) (few_modules None ds (ports_few [] ds r)) (few_chains (filter_map declared_chain ds) (picks_fine declared_chain chain chain_is ds f)) (bounded ds r)
