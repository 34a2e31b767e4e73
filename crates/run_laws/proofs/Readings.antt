-- What a source of lines gave agrees with the outlook of its output.
use Rattle.std.specs.Prelude.{map, slice_get}
use Rattle.std.proofs.Common.{◌≡◌, ℕ, zero, suc, List, [], ◌∷◌, Some, refl, sym, subst, ◌∙◌}
use Rattle.elem_core.specs.Tree.{text}
use Rattle.elem_core.specs.declared.item.Item.{Item}
use Rattle.port_core.specs.View.{View}
use Rattle.stream_model.specs.declared.kind.Kind.TheVariants as kind
use Rattle.stream_model.specs.Outlook.{Outlook, Agrees}
use Rattle.stream_model.specs.Sources.{File, lines_outlook}
use Rattle.stream_model.specs.Graph.{Graph}
use Rattle.stream_model.specs.Graph as graph
use Rattle.stream_model.specs.Node.{World, node_outlook}
use Rattle.stream_io.specs.State.{SourceState}
use Rattle.stage_core.specs.Held.{told}
use Rattle.nodes.specs.Source.{Lines, LinesLaw}
use Rattle.nodes.proofs.Outlooks.{agrees}
use Rattle.run_laws.specs.Items.{AgreesWith}
use Rattle.run_laws.specs.KindLaws.{RunLaws}
use Rattle.run_laws.specs.Made.{FirstReading}
use Rattle.run_laws.specs.Telling.{TellsFile}

-- the history of the one port
pub one_port : (x : List Item) (p : ℕ) (h : List Item) → slice_get (x ∷ []) p ≡ Some h → h ≡ x
one_port x zero h e = cc
one_port x (suc p) h e = absurd cc

module _ {S : Type 0} (state : S → SourceState) (first now : Lines S) (v : View) (took gave : List (List Item)) (law : LinesLaw state first now v took gave) where
  -- by the world's file
  pub reading_agrees : (k : ℕ) (f : File) → first.node ≡ k → first.reader.kept ≡ [] → (state first.reader.source).given ≡ 0 → TellsFile (state first.reader.source) (state now.reader.source) f
      → Agrees (lines_outlook k f) (map text law.lines_drawn) law.end
  reading_agrees k f node kept given tells =
      let node_now : now.node ≡ k = law.node ∙ node in
      let all : Agrees (lines_outlook now.node (record { bytes = f.bytes; read = (state now.reader.source).given; faulted = f.faulted })) (map text law.lines_drawn) law.end =
      agrees state first now v took gave f.bytes f.faulted law kept given tells.bytes tells.faulted in
      subst (λ (n : ℕ). Agrees (lines_outlook n f) (map text law.lines_drawn) law.end) node_now
      (subst (λ (r : ℕ). Agrees (lines_outlook now.node (record { bytes = f.bytes; read = r; faulted = f.faulted })) (map text law.lines_drawn) law.end) (sym tells.read) all)

  module _ (g : Graph) (w : World) (k : ℕ) (n : graph.Node) (made : FirstReading state k n.kind first) where
    reading_gives : (os : List Outlook) → ((name : List ℕ) → n.kind ≡ kind.Lines name → TellsFile (state first.reader.source) (state now.reader.source) (w.file name))
        → (p : ℕ) (h : List Item) → slice_get gave p ≡ Some h → AgreesWith (node_outlook g w k n.kind n.decider os p) h
    reading_gives os tells p h at =
        let here : slice_get (told (map text law.lines_drawn) law.end ∷ []) p ≡ Some h = rw law.gave_is at at in
        record {
          list = map text law.lines_drawn;
          end = law.end;
          is = one_port (told (map text law.lines_drawn) law.end) p h here;
          agrees = rw made.kind_is (reading_agrees k (w.file made.name) made.node made.kept made.given (tells made.name made.kind_is));
        }

    pub reading_laws : ((name : List ℕ) → n.kind ≡ kind.Lines name → TellsFile (state first.reader.source) (state now.reader.source) (w.file name)) → RunLaws g w k n took gave
    reading_laws tells = record {
      gives = λ os a. reading_gives os tells;
      fits = λ os a. rw made.kind_is refl;
    }
