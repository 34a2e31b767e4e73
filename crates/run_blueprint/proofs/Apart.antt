-- The files of a fit blueprint: no two sources or sinks have one file, and none has a file that was taken.
use Rattle.std.proofs.Common.{◌≡◌, ℕ, zero, suc, Bool, true, false, List, [], ◌∷◌, ◌++◌, map, slice_get, refl, sym, ap, ◌∙◌, subst, arith}
use Rattle.std.specs.Prelude.{Option, Some, None, ◌||◌, if◌then◌else◌}
use Rattle.std.specs.Option.{option_map, option_or}
use Rattle.std.specs.List.{Contains, filter_map, cons_option, list_any}
use Rattle.stream_model.specs.declared.kind.Kind.{Kind}
use Rattle.stream_model.specs.declared.blueprint.Blueprint.{Blueprint}
use Rattle.stream_model.specs.declared.blueprint.Node.{Node}
use Rattle.stream_model.specs.declared.kind.Kind.TheVariants.{Lines, ToLines, Head, Last}
use Rattle.std.specs.Cmp.Lexicographic.{bytes_decides}
use Rattle.elem_core.specs.Values.{same_text}
use Rattle.stream_model.specs.declared.blueprint.ChainDecl.{ChainDecl}
use Rattle.stream_model.specs.Known.{HeadLists}
use Rattle.blue_names.specs.Names.{Claim, called, opens, same_claim, text_of, first_again, file_of, opening, claims_of_nodes, claims, taken_twice}
use Rattle.blue_check.specs.declared.fault.CheckFault.TheVariants.{TwoNames}
use Rattle.blue_check.specs.Fitness.{IsFit}
use Rattle.stream_io.specs.Names.{DistinctNames}
use Rattle.materializer.specs.Files.{source_file, output_of, inputs_of_nodes, outputs_of_nodes}
use Rattle.run_blueprint.proofs.Places.{contained_at, unfiltered_at}

-- a filter of a list whose elements give different values gives each once
distinct_more : (y : List ℕ) (ys : List (List ℕ)) → DistinctNames ys → ((j : ℕ) → slice_get ys j ≡ Some y → ⊥) → DistinctNames (y ∷ ys)
distinct_more y ys d never zero zero n p q = refl
distinct_more y ys d never zero (suc j) n p q = let same : y ≡ n = cc in absurd (never j (q ∙ ap Some (sym same)))
distinct_more y ys d never (suc i) zero n p q = let same : y ≡ n = cc in absurd (never i (p ∙ ap Some (sym same)))
distinct_more y ys d never (suc i) (suc j) n p q = ap suc (d i j n p q)

distinct_cons : (o : Option (List ℕ)) (ys : List (List ℕ)) → DistinctNames ys → ((y : List ℕ) (j : ℕ) → o ≡ Some y → slice_get ys j ≡ Some y → ⊥) → DistinctNames (cons_option o ys)
distinct_cons None ys d never = d
distinct_cons (Some y) ys d never = distinct_more y ys d (λ j e. never y j refl e)

suc_same : (i j : ℕ) → suc i ≡ suc j → i ≡ j
suc_same i j e = omega (arith, e)

distinct_filtered : {A : Type 0} (h : A → Option (List ℕ)) (xs : List A) → ((i j : ℕ) (x z : A) (y : List ℕ) → slice_get xs i ≡ Some x → slice_get xs j ≡ Some z → h x ≡ Some y → h z ≡ Some y → i ≡ j) → DistinctNames (filter_map h xs)
distinct_filtered h [] one = λ i j n p q. absurd cc
distinct_filtered h (x ∷ xs) one = distinct_cons (h x) (filter_map h xs)
    (distinct_filtered h xs (λ i j y z v p q a b. suc_same i j (one (suc i) (suc j) y z v p q a b)))
    (λ y j e at. let there = unfiltered_at h xs j y at in let never : zero ≡ suc there.0 = one zero (suc there.0) x there.1.0 y refl there.1.1.0 e there.1.1.1 in absurd (omega (arith, never)))

-- the files of sources and sinks are files of nodes
input_file : (k : Kind) (f : List ℕ) → source_file k ≡ Some f → file_of k ≡ Some f
input_file (Lines g) f e = e
input_file _ f e = absurd cc

output_file : (k : Kind) (f : List ℕ) → output_of k ≡ Some f → file_of k ≡ Some f
output_file (ToLines g) f e = e
output_file (Head g) f e = e
output_file (Last g) f e = e
output_file _ f e = absurd cc

not_both : (k : Kind) (f : List ℕ) → source_file k ≡ Some f → output_of k ≡ Some f → ⊥
not_both (Lines g) f a b = cc
not_both _ f a b = cc

same_place : {A : Type 0} (xs : List A) (i j : ℕ) (x y : A) → i ≡ j → slice_get xs i ≡ Some x → slice_get xs j ≡ Some y → x ≡ y
same_place xs i j x y e a b = let at : slice_get xs i ≡ Some y = subst (λ k. slice_get xs k ≡ Some y) (sym e) b in cc

-- a text is the same as itself
same_self : (t : List ℕ) → same_text t t ≡ true
same_self t = (bytes_decides t t).1 refl

or_first : (a b : Bool) → a || b ≡ false → a ≡ false
or_first true b e = absurd cc
or_first false b e = refl

or_second : (a b : Bool) → a || b ≡ false → b ≡ false
or_second true b e = absurd cc
or_second false b e = e

same_differs : (f g : List ℕ) → f ≡ g → same_text f g ≡ false → ⊥
same_differs f g e h = let yes : same_text f g ≡ true = subst (λ t. same_text f t ≡ true) e (same_self f) in cc

-- no claim is one of those before it
abbrev FreshFrom : List Claim → List Claim → Type 0
FreshFrom before [] = Unit {0}
FreshFrom before (c ∷ cs) = (list_any (same_claim c) before ≡ false) × FreshFrom (c ∷ before) cs

fresh_by : (b : Bool) (t : List ℕ) (later : Option (List ℕ)) → (if b then Some t else later) ≡ None → (b ≡ false) × (later ≡ None)
fresh_by true t later e = absurd cc
fresh_by false t later e = (refl, e)

fresh_from : (before cs : List Claim) → first_again before cs ≡ None → FreshFrom before cs
fresh_from before [] e = tt
fresh_from before (c ∷ cs) e =
    let h = fresh_by (list_any (same_claim c) before) (text_of c) (first_again (c ∷ before) cs) e in
    (h.0, fresh_from (c ∷ before) cs h.1)

-- what stood before is before the later claims too
abbrev Within : List Claim → List Claim → Type 0
Within less more = (c : Claim) → list_any (same_claim c) more ≡ false → list_any (same_claim c) less ≡ false

fresh_behind : (front before cs : List Claim) → FreshFrom before (front ++ cs) → (more : List Claim) × (Within before more × FreshFrom more cs)
fresh_behind [] before cs h = (before, ((λ c e. e), h))
fresh_behind (x ∷ xs) before cs h =
    let later = fresh_behind xs (x ∷ before) cs h.1 in
    (later.0, ((λ c e. or_second (same_claim c x) (list_any (same_claim c) before) (later.1.0 c e)), later.1.1))

-- the claims of nodes, one after another
fresh_opening : (o : Option (List ℕ)) (name : List ℕ) (before cs : List Claim) → FreshFrom before (called name ∷ opening o cs) → (more : List Claim) × (Within before more × (FreshFrom more cs × ((f : List ℕ) → o ≡ Some f → (list_any (same_claim (opens f)) before ≡ false) × (list_any (same_claim (opens f)) more ≡ true))))
fresh_opening None name before cs h = (called name ∷ before, ((λ c e. or_second (same_claim c (called name)) (list_any (same_claim c) before) e), (h.1, λ f e. absurd cc)))
fresh_opening (Some g) name before cs h = (
  opens g ∷ called name ∷ before,
  (
    (λ c e. or_second (same_claim c (called name)) (list_any (same_claim c) before) (or_second (same_claim c (opens g)) (list_any (same_claim c) (called name ∷ before)) e)),
    (h.1.1, λ f e. let same : g ≡ f = cc in (subst (λ t. list_any (same_claim (opens t)) before ≡ false) same h.1.0, subst (λ t. list_any (same_claim (opens t)) (opens g ∷ called name ∷ before) ≡ true) same (rw (same_self g) refl))),
  ),
)

nodes_fresh : (before : List Claim) (nodes : List Node) → FreshFrom before (claims_of_nodes nodes) → (k : ℕ) (n : Node) (f : List ℕ) → slice_get nodes k ≡ Some n → file_of n.kind ≡ Some f → list_any (same_claim (opens f)) before ≡ false
nodes_fresh before [] h k n f e is = absurd cc
nodes_fresh before (m ∷ ms) h zero n f e is =
    let same : m ≡ n = cc in
    let here = fresh_opening (file_of m.kind) m.name before (claims_of_nodes ms) h in
    (here.1.1.1 f (ap (λ (x : Node). file_of x.kind) same ∙ is)).0
nodes_fresh before (m ∷ ms) h (suc k) n f e is =
    let here = fresh_opening (file_of m.kind) m.name before (claims_of_nodes ms) h in
    here.1.0 (opens f) (nodes_fresh here.0 ms here.1.1.0 k n f e is)

-- a file that one node has no later one has
no_later : (before : List Claim) (nodes : List Node) (m : Node) → FreshFrom before (called m.name ∷ opening (file_of m.kind) (claims_of_nodes nodes)) → (k : ℕ) (n : Node) (f : List ℕ) → slice_get nodes k ≡ Some n → file_of m.kind ≡ Some f → file_of n.kind ≡ Some f → ⊥
no_later before nodes m h k n f e a b =
    let here = fresh_opening (file_of m.kind) m.name before (claims_of_nodes nodes) h in
    let seen : list_any (same_claim (opens f)) here.0 ≡ true = (here.1.1.1 f a).1 in
    let unseen : list_any (same_claim (opens f)) here.0 ≡ false = nodes_fresh here.0 nodes here.1.1.0 k n f e b in
    cc

pub one_node : (before : List Claim) (nodes : List Node) → FreshFrom before (claims_of_nodes nodes) → (i j : ℕ) (n m : Node) (f : List ℕ) → slice_get nodes i ≡ Some n → slice_get nodes j ≡ Some m → file_of n.kind ≡ Some f → file_of m.kind ≡ Some f → i ≡ j
one_node before [] h i j n m f a b p q = absurd cc
one_node before (x ∷ xs) h zero zero n m f a b p q = refl
one_node before (x ∷ xs) h zero (suc j) n m f a b p q = let same : x ≡ n = cc in absurd (no_later before xs x h j m f b (ap (λ (y : Node). file_of y.kind) same ∙ p) q)
one_node before (x ∷ xs) h (suc i) zero n m f a b p q = let same : x ≡ m = cc in absurd (no_later before xs x h i n f a (ap (λ (y : Node). file_of y.kind) same ∙ q) p)
one_node before (x ∷ xs) h (suc i) (suc j) n m f a b p q =
    let here = fresh_opening (file_of x.kind) x.name before (claims_of_nodes xs) h in
    ap suc (one_node here.0 xs here.1.1.0 i j n m f a b p q)

-- a blueprint that breaks no rule takes no name or file twice
or_none : {F : Type 0} (a b : Option F) → option_or a b ≡ None → a ≡ None
or_none None b e = refl
or_none (Some x) b e = absurd cc

map_none : {A B : Type 0} (f : A → B) (o : Option A) → option_map f o ≡ None → o ≡ None
map_none f None e = refl
map_none f (Some x) e = absurd cc

taken_at : (taken : List (List ℕ)) (i : ℕ) (f : List ℕ) → list_any (same_claim (opens f)) (map opens taken) ≡ false → slice_get taken i ≡ Some f → ⊥
taken_at [] i f e at = absurd cc
taken_at (t ∷ ts) zero f e at = let same : t ≡ f = cc in same_differs f t (sym same) (or_first (same_text f t) (list_any (same_claim (opens f)) (map opens ts)) e)
taken_at (t ∷ ts) (suc i) f e at = taken_at ts i f (or_second (same_text f t) (list_any (same_claim (opens f)) (map opens ts)) e) at

taken_any : (taken : List (List ℕ)) (f : List ℕ) → list_any (same_claim (opens f)) (map opens taken) ≡ false → Contains taken f → ⊥
taken_any taken f e c = let found = contained_at taken f c in taken_at taken found.0 f e found.1

module _ (b : Blueprint) (heads : HeadLists) (taken : List (List ℕ)) (fit : IsFit b heads taken) where
  abbrev nodes : List Node
  nodes = b.nodes.items

  untaken : (more : List Claim) × (Within (map opens taken) more × FreshFrom more (claims_of_nodes nodes))
  untaken =
      let none : taken_twice b.switches.items b.chains.items nodes taken ≡ None =
      map_none TwoNames (taken_twice b.switches.items b.chains.items nodes taken) (or_none _ _ (or_none _ _ fit.early)) in
      let all = fresh_from (map opens taken) (claims b.switches.items b.chains.items nodes) none in
      let behind = fresh_behind (map called b.switches.items) (map opens taken) _ all in
      let last = fresh_behind (map (λ (c : ChainDecl). called c.name) b.chains.items) behind.0 (claims_of_nodes nodes) behind.1.1 in
      (last.0, ((λ c e. behind.1.0 c (last.1.0 c e)), last.1.1))

  pub one_file : (i j : ℕ) (n m : Node) (f : List ℕ) → slice_get nodes i ≡ Some n → slice_get nodes j ≡ Some m → file_of n.kind ≡ Some f → file_of m.kind ≡ Some f → i ≡ j
  one_file i j n m f p q a c = one_node untaken.0 nodes untaken.1.1 i j n m f p q a c

  pub not_taken : (k : ℕ) (n : Node) (f : List ℕ) → slice_get nodes k ≡ Some n → file_of n.kind ≡ Some f → Contains taken f → ⊥
  not_taken k n f p a c = taken_any taken f (untaken.1.0 (opens f) (nodes_fresh untaken.0 nodes untaken.1.1 k n f p a)) c

  pub inputs_distinct : DistinctNames (inputs_of_nodes nodes)
  inputs_distinct = distinct_filtered (λ n. source_file n.kind) nodes (λ i j n m f p q a c. one_file i j n m f p q (input_file n.kind f a) (input_file m.kind f c))

  pub outputs_distinct : DistinctNames (outputs_of_nodes nodes)
  outputs_distinct = distinct_filtered (λ n. output_of n.kind) nodes (λ i j n m f p q a c. one_file i j n m f p q (output_file n.kind f a) (output_file m.kind f c))

  -- a file that is read is not written
  pub inputs_unwritten : (f : List ℕ) → Contains (inputs_of_nodes nodes) f → Contains (outputs_of_nodes nodes) f → ⊥
  inputs_unwritten f c d =
      let i = contained_at (inputs_of_nodes nodes) f c in
      let o = contained_at (outputs_of_nodes nodes) f d in
      let at = unfiltered_at (λ (n : Node). source_file n.kind) nodes i.0 f i.1 in
      let to = unfiltered_at (λ (n : Node). output_of n.kind) nodes o.0 f o.1 in
      let same : at.0 ≡ to.0 = one_file at.0 to.0 at.1.0 to.1.0 f at.1.1.0 to.1.1.0 (input_file at.1.0.kind f at.1.1.1) (output_file to.1.0.kind f to.1.1.1) in
      let node : at.1.0 ≡ to.1.0 = same_place nodes at.0 to.0 at.1.0 to.1.0 same at.1.1.0 to.1.1.0 in
      not_both at.1.0.kind f at.1.1.1 (ap (λ (x : Node). output_of x.kind) node ∙ to.1.1.1)

  -- neither is a file that was taken
  pub inputs_untaken : (f : List ℕ) → Contains (inputs_of_nodes nodes) f → Contains taken f → ⊥
  inputs_untaken f c t =
      let i = contained_at (inputs_of_nodes nodes) f c in
      let at = unfiltered_at (λ (n : Node). source_file n.kind) nodes i.0 f i.1 in
      not_taken at.0 at.1.0 f at.1.1.0 (input_file at.1.0.kind f at.1.1.1) t

  pub outputs_untaken : (f : List ℕ) → Contains (outputs_of_nodes nodes) f → Contains taken f → ⊥
  outputs_untaken f c t =
      let i = contained_at (outputs_of_nodes nodes) f c in
      let at = unfiltered_at (λ (n : Node). output_of n.kind) nodes i.0 f i.1 in
      not_taken at.0 at.1.0 f at.1.1.0 (output_file at.1.0.kind f at.1.1.1) t
