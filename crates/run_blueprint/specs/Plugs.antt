-- What is asked of the stages that a caller hands in.
use Rattle.std.specs.Prelude.{◌≡◌, ℕ, true, false, List, slice_get, Some}
use Rattle.elem_core.specs.Sort.{Sort}
use Rattle.elem_core.specs.Tree.{Tree}
use Rattle.stream_model.specs.Graph.{Edge}
use Rattle.stream_model.specs.Linear.{Book, told_book}
use Rattle.stream_model.specs.Node.{World}
use Rattle.stream_model.specs.declared.blueprint.Node.{Node}
use Rattle.stream_model.specs.declared.kind.Kind.TheVariants.{Custom}
use Rattle.stream_model.specs.declared.head.PlugHead.{PlugHead}
use Rattle.stream_model.specs.Known.{HeadLists}
use Rattle.blue_names.specs.CustomPorts.{custom_named, output_type}
use Rattle.blue_names.specs.StageTypes.{plug_named}
use Rattle.graph_stage.specs.Told.{GivesTyped}
use Rattle.plug_logic.specs.Gives.{listed}
use Rattle.run_blueprint.specs.Types.{HasType, AllTyped}

-- each plug that is handed in gives elements of its output type, where it takes elements of its input type
pub record KeepsPlugTypes (heads : HeadLists) (book : Book) : Type 0 where
  pub reply : (name : List ℕ) (p : PlugHead) → plug_named name heads.plugs ≡ Some p → (taken : List Tree) (x : Tree) → AllTyped p.input taken
      → HasType p.input x
      → AllTyped p.output (book.reply name taken x).gave
  pub closing : (name : List ℕ) (p : PlugHead) → plug_named name heads.plugs ≡ Some p → (taken : List Tree) → AllTyped p.input taken
      → AllTyped p.output (book.closing name taken).gave

-- a custom stage of which the book has a list tells elements of the type that its head has of the output, whatever it takes
abbrev pub ToldTyped : HeadLists → Book → Type 0
ToldTyped heads book = (name : List ℕ) (p : ℕ) (t : Sort) → book.tells name ≡ true → output_type (custom_named heads name) p ≡ Some t
    → GivesTyped (listed (told_book book) name) t

-- What comes on each wire from a custom stage is of the type that its head has of the output (`came`), and so is what the book has of it
-- (`told`).
pub record CustomsTyped (heads : HeadLists) (book : Book) (nodes : List Node) (wires : List Edge) (lists : ℕ → List Tree) : Type 0 where
  pub came : (j : ℕ) (v : Edge) (n : Node) (name : List ℕ) (t : Sort) → slice_get wires j ≡ Some v → slice_get nodes v.from ≡ Some n → n.kind ≡ Custom name
      → output_type (custom_named heads name) v.output ≡ Some t → AllTyped t (lists j)
  pub told : ToldTyped heads book

-- what each custom stage gave that tells no list is of the types of its head (`typed`), and so is what the book has of the others (`told`)
pub record GivenTyped (heads : HeadLists) (nodes : List Node) (wires : List Edge) (w : World) : Type 0 where
  pub told : ToldTyped heads w.book
  pub typed : (j : ℕ) (v : Edge) (n : Node) (name : List ℕ) (t : Sort) → slice_get wires j ≡ Some v → slice_get nodes v.from ≡ Some n → n.kind ≡ Custom name
      → w.book.tells name ≡ false → output_type (custom_named heads name) v.output ≡ Some t → AllTyped t (w.given v.from v.output).list
