-- The world that has the input files as the sources of a run read them, and walks along the wires of a blueprint.
use Rattle.std.proofs.Common.{◌≡◌, ℕ, zero, suc, ◌+◌, Bool, true, false, List, [], ◌∷◌, slice_get, refl, ap, ◌∙◌, arith}
use Rattle.std.specs.Prelude.{Some, if◌then◌else◌}
use Rattle.std.specs.Cmp.Lexicographic.{bytes_decides}
use Rattle.elem_core.specs.Values.{same_text}
use Rattle.stream_model.specs.declared.kind.Kind.{Kind}
use Rattle.stream_model.specs.declared.kind.Kind.TheVariants as kind
use Rattle.stream_model.specs.Graph.{Graph}
use Rattle.stream_model.specs.Linear.{Book}
use Rattle.stream_model.specs.Node.{World}
use Rattle.stream_model.specs.Sources.{File}
use Rattle.stream_model.specs.Shape.{Walk, stay, along, IsPolytree}
use Rattle.stream_model.specs.declared.blueprint.Node as blue
use Rattle.blue_check.specs.Forest.{wiring}
use Rattle.run_blueprint.specs.Choosing.{HasPicks}
use Rattle.run_blueprint.specs.Drawing.{Drawn, IsWorldOf}

-- a kind that reads the file of that name
abbrev reads : Kind → List ℕ → Bool
reads (kind.Lines f) name = same_text f name
reads _ name = false

-- the file as the source at a place read it
abbrev file_at : Drawn → ℕ → File
file_at d k = record { bytes = d.bytes k; read = d.given k; faulted = d.faulted k }

-- the file of that name, as the first of these nodes that has it read it
abbrev file_of : List blue.Node → ℕ → Drawn → List ℕ → File
file_of [] k d name = record { bytes = []; read = 0; faulted = false }
file_of (n ∷ ns) k d name = if reads n.kind name then file_at d k else file_of ns (k + 1) d name

reads_same : (k : Kind) (name : List ℕ) → reads k name ≡ true → k ≡ kind.Lines name
reads_same (kind.Lines f) name e = let same : f ≡ name = (bytes_decides f name).0 e in ap kind.Lines same
reads_same _ name e = absurd cc

reads_it : (k : Kind) (name : List ℕ) → k ≡ kind.Lines name → reads k name ≡ true
reads_it k name e = ap (λ (x : Kind). reads x name) e ∙ (bytes_decides name name).1 refl

by_test : (t : Bool) (a b : File) → t ≡ true → (if t then a else b) ≡ a
by_test true a b e = refl
by_test false a b e = absurd cc

by_other : (t : Bool) (a b : File) → (t ≡ true → ⊥) → (if t then a else b) ≡ b
by_other true a b e = absurd (e refl)
by_other false a b e = refl

suc_one : (i j : ℕ) → suc i ≡ suc j → i ≡ j
suc_one i j e = omega (arith, e)

one_of : (n m : blue.Node) → Some n ≡ Some m → n ≡ m
one_of n m e = cc

-- where no other node has it, it is as its source read it
file_found : (nodes : List blue.Node) (j k : ℕ) (n : blue.Node) (d : Drawn) (name : List ℕ) → slice_get nodes k ≡ Some n → n.kind ≡ kind.Lines name
    → ((i : ℕ) (m : blue.Node) → slice_get nodes i ≡ Some m → m.kind ≡ kind.Lines name → i ≡ k) → file_of nodes j d name ≡ file_at d (j + k)
file_found [] j k n d name at is one = absurd cc
file_found (m ∷ ms) j zero n d name at is one =
    let same : m ≡ n = one_of m n at in
    let place : j ≡ j + 0 = omega arith in
    by_test (reads m.kind name) (file_at d j) (file_of ms (j + 1) d name) (reads_it m.kind name (ap (λ (x : blue.Node). x.kind) same ∙ is)) ∙ ap (file_at d) place
file_found (m ∷ ms) j (suc k) n d name at is one =
    let place : (j + 1) + k ≡ j + suc k = omega arith in
    by_other (reads m.kind name) (file_at d j) (file_of ms (j + 1) d name) (λ e. let never : zero ≡ suc k = one 0 m refl (reads_same m.kind name e) in omega (arith, never))
    ∙ file_found ms (j + 1) k n d name at is (λ i x a b. suc_one i k (one (suc i) x a b)) ∙ ap (file_at d) place

-- the world of a run with these plugs, in which the nodes made these moves
abbrev pub world_of : Book → List blue.Node → Drawn → (ℕ → List ℕ) → World
world_of book nodes d moves = record { book = book; file = file_of nodes 0 d; moves = moves; given = d.given_by }

-- has each file as it was read, where no two sources have one
pub world_has : (book : Book) (nodes : List blue.Node) (d : Drawn) (moves : ℕ → List ℕ) → ((i k : ℕ) (m n : blue.Node) (name : List ℕ) → slice_get nodes i ≡ Some m → slice_get nodes k ≡ Some n → m.kind ≡ kind.Lines name → n.kind ≡ kind.Lines name → i ≡ k) → HasPicks d.picks (world_of book nodes d moves)
    → IsWorldOf book nodes d (world_of book nodes d moves)
world_has book nodes d moves one picks = record {
  book_is = refl;
  files = λ k name is.
      let place : 0 + k ≡ k = omega arith in
      file_found nodes 0 k is.node d name is.at is.kind_is (λ i m at shape. one i k m is.node name at is.at shape is.kind_is) ∙ ap (file_at d) place;
  moves = picks;
  gave = λ k n p at untold. refl;
}

-- ---- walks go by the wires alone

walk_by : (g : Graph) {a b : ℕ} {is : List ℕ} → Walk g a b is → Walk (wiring g.wires) a b is
walk_by g stay = stay
walk_by g (along j more) = along (record { wire = j.wire; at = j.at; ends = j.ends }) (walk_by g more)

pub tree_by_wires : (g : Graph) → IsPolytree (wiring g.wires) → IsPolytree g
tree_by_wires g tree = record { open_walks = λ a is walk new. tree.open_walks a is (walk_by g walk) new }
