-- What a source without a file gave agrees with the outlook of its output.
use Rattle.std.specs.Prelude.{slice_get, ℤ, Some}
use Rattle.std.proofs.Common.{◌≡◌, ℕ, inl, List, [], ◌∷◌, ◌++◌, true, refl, sym, ap, ◌∙◌, subst, arith, append-nil}
use Rattle.elem_core.specs.Tree.{Tree}
use Rattle.elem_core.specs.declared.item.Item.{Item}
use Rattle.elem_core.proofs.Prefixes.{prefix_refl}
use Rattle.port_core.specs.View.{View}
use Rattle.stream_model.specs.declared.kind.Kind.{Kind}
use Rattle.stream_model.specs.declared.kind.Kind.TheVariants as kind
use Rattle.stream_model.specs.Outlook.{Outlook, End, unended, ended, failed, Agrees}
use Rattle.stream_model.specs.Sources.{count_up, span_of, range_outlook, empty_outlook, failed_outlook}
use Rattle.stream_model.specs.Graph.{Graph}
use Rattle.stream_model.specs.Graph as graph
use Rattle.stream_model.specs.Node.{World, node_outlook}
use Rattle.stream_model.specs.Fits.{moves_fit}
use Rattle.stage_core.specs.Held.{told}
use Rattle.nodes.specs.declared.maker.Makes.{Makes}
use Rattle.nodes.specs.declared.maker.Makes.TheVariants.{Numbers}
use Rattle.nodes.specs.Kinds.{IsMaker, maker_of}
use Rattle.nodes.specs.Maker.{Made, numbers_left, told_to_fail, MadeEnds, MadeLaw}
use Rattle.run_laws.specs.Items.{AgreesWith}
use Rattle.run_laws.specs.KindLaws.{RunLaws}
use Rattle.run_laws.specs.Made.{FirstMaking}
use Rattle.run_laws.proofs.Readings.{one_port}

-- what was given begins the numbers, and is all of them where none is left
numbers_agree : (low high : ℤ) (node : ℕ) (l rest : List Tree) (e : End) → count_up (span_of low high) low ≡ l ++ rest → MadeEnds Numbers node rest e → Agrees (range_outlook low high) l e
numbers_agree low high node l rest unended is h = record { rest = rest; is = is }
numbers_agree low high node l rest ended is h = (refl, sym (is ∙ ap (λ (x : List Tree). l ++ x) h ∙ append-nil l))
numbers_agree low high node l rest (failed c) is h = absurd h

none_first : (l rest : List Tree) → [] ≡ l ++ rest → l ≡ []
none_first [] rest is = refl
none_first (t ∷ l) rest is = cc

nothing_agrees : (l rest : List Tree) (e : End) → [] ≡ l ++ rest → e ≡ ended → Agrees empty_outlook l e
nothing_agrees l rest e is h = rw (h, none_first l rest is) (refl, refl)

failure_agrees : (node : ℕ) (l rest : List Tree) (e : End) → [] ≡ l ++ rest → e ≡ failed (told_to_fail node) → Agrees (failed_outlook node) l e
failure_agrees node l rest e is h = rw (h, none_first l rest is) (prefix_refl [], inl (refl, omega arith))

module _ (g : Graph) (w : World) (k : ℕ) where
  -- by its kind
  made_agrees : (shape : Kind) (d : _) (os : List Outlook) (p : ℕ) (x now : Made) (l : List Tree) (e : End) → IsMaker shape → x ≡ maker_of k shape → now.node ≡ x.node → now.makes ≡ x.makes → numbers_left x.next x.last ≡ l ++ numbers_left now.next now.last
      → MadeEnds now.makes now.node (numbers_left now.next now.last) e → Agrees (node_outlook g w k shape d os p) l e
  made_agrees (kind.Range low high) d os p x now l e m is a b c h =
      numbers_agree low high now.node l (numbers_left now.next now.last) e (rw is at c) (subst (λ (z : Makes). MadeEnds z now.node (numbers_left now.next now.last) e) (b ∙ ap (λ (z : Made). z.makes) is) h)
  made_agrees (kind.Empty y) d os p x now l e m is a b c h =
      nothing_agrees l (numbers_left now.next now.last) e (rw is at c) (subst (λ (z : Makes). MadeEnds z now.node (numbers_left now.next now.last) e) (b ∙ ap (λ (z : Made). z.makes) is) h)
  made_agrees (kind.Failed y) d os p x now l e m is a b c h =
      let node : now.node ≡ k = a ∙ ap (λ (z : Made). z.node) is in
      failure_agrees k l (numbers_left now.next now.last) e (rw is at c) (rw node at (subst (λ (z : Makes). MadeEnds z now.node (numbers_left now.next now.last) e) (b ∙ ap (λ (z : Made). z.makes) is) h))
  made_agrees _ d os p x now l e m is a b c h = absurd m

-- such a source chooses nothing
maker_moves : (g : Graph) (w : World) (k : ℕ) (shape : Kind) (os : List Outlook) → IsMaker shape → moves_fit g w k shape os ≡ true
maker_moves g w k (kind.Range low high) os m = refl
maker_moves g w k (kind.Empty y) os m = refl
maker_moves g w k (kind.Failed y) os m = refl
maker_moves g w k _ os m = absurd m

module _ (g : Graph) (w : World) (k : ℕ) (n : graph.Node) (first now : Made) (v : View) (took gave : List (List Item)) (made : FirstMaking k n.kind first) (law : MadeLaw first now v took gave) where
  making_gives : (os : List Outlook) (p : ℕ) (h : List Item) → slice_get gave p ≡ Some h → AgreesWith (node_outlook g w k n.kind n.decider os p) h
  making_gives os p h at =
      let here : slice_get (told law.list law.end ∷ []) p ≡ Some h = rw law.gave_is at at in
      record {
        list = law.list;
        end = law.end;
        is = one_port (told law.list law.end) p h here;
        agrees = made_agrees g w k n.kind n.decider os p first now law.list law.end made.is_maker made.is law.node law.makes law.numbers law.ends;
      }

  pub making_laws : RunLaws g w k n took gave
  making_laws = record { gives = λ os a. making_gives os; fits = λ os a. maker_moves g w k n.kind os made.is_maker }
