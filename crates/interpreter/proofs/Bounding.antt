-- The boundary stages of a new island, and what an island keeps where they act.
use Rattle.std.proofs.Common.{◌≡◌, ℕ, zero, suc, ◌<◌, true, Some, List, [], ◌∷◌, length, map, replicate, get_or, slice_get, refl, sym, ap, ◌∙◌, subst, arith}
use Rattle.std.proofs.lemmas.Option.{slice_get_within}
use Rattle.std.proofs.lemmas.List.{length-map}
use Rattle.stream_io.specs.State.{SourceState, DrainState}
use Rattle.elem_core.specs.declared.item.Item.{Item}
use Rattle.port_core.specs.declared.view.InView.TheVariants.{Idle}
use Rattle.port_core.specs.Cell.{new_cell}
use Rattle.port_core.specs.Marks.{wanted}
use Rattle.port_core.specs.Reading.{no_wire}
use Rattle.nodes.specs.declared.node.IslandNode.{IslandNode}
use Rattle.nodes.specs.declared.node.IslandNode.TheVariants as node
use Rattle.nodes.specs.Nodes.{node_gone, node_passive}
use Rattle.fused_net.specs.Laws.{NetGoesOn}
use Rattle.fused_net.specs.Net.{Net, end_at, wire_at}
use Rattle.fused_net.specs.Outside.{IsPassiveAt, StandsStill}
use Rattle.interpreter.specs.BoundaryPlaces.{IsEntering, IsLeaving, EntersAt, LeavesAt}
use Rattle.interpreter.specs.declared.parts.Link.{Link}
use Rattle.interpreter.specs.declared.parts.Seated.{Seated}
use Rattle.interpreter.specs.declared.parts.Work.{Work}
use Rattle.interpreter.specs.declared.parts.Work.TheVariants as work
use Rattle.interpreter.specs.Parts.{AllBecome, BecomesOf, ends_of}
use Rattle.interpreter.specs.Ways.{ListsIns, ListsOuts, comes_in, goes_out, is_lane_in, is_lane_out}
use Rattle.interpreter.specs.Island.{Kept, IslandKeeps}
use Rattle.interpreter.specs.LanePlaces.{listed_place, place_or_none}
use Rattle.interpreter.specs.Boundary.{BeginsOut, EntersBy, LeavesBy, way_in, way_out}
use Rattle.stream_model.specs.Linear.{Book}

module _ {S D L H B : Type 0} where
  entering_becomes : (k room : ℕ) (w : Work S D L H B) (x : IslandNode S D L H B) → BecomesOf k room w x → is_lane_in w ≡ true → IsEntering x
  entering_becomes k room (work.LaneIn u) x b e = subst IsEntering (sym b) tt
  entering_becomes k room (work.LaneOut u) x b e = absurd cc
  entering_becomes k room (work.Reading r) x b e = absurd cc
  entering_becomes k room (work.Making r) x b e = absurd cc
  entering_becomes k room (work.Linear r) x b e = absurd cc
  entering_becomes k room (work.State r) x b e = absurd cc
  entering_becomes k room (work.Sub r) x b e = absurd cc
  entering_becomes k room (work.FanIn r n) x b e = absurd cc
  entering_becomes k room (work.FanOut r n) x b e = absurd cc
  entering_becomes k room (work.Custom r inputs outputs) x b e = absurd cc
  entering_becomes k room (work.Writing r d) x b e = absurd cc

  leaving_becomes : (k room : ℕ) (w : Work S D L H B) (x : IslandNode S D L H B) → BecomesOf k room w x → is_lane_out w ≡ true → IsLeaving x
  leaving_becomes k room (work.LaneOut u) x b e = subst IsLeaving (sym b) tt
  leaving_becomes k room (work.LaneIn u) x b e = absurd cc
  leaving_becomes k room (work.Reading r) x b e = absurd cc
  leaving_becomes k room (work.Making r) x b e = absurd cc
  leaving_becomes k room (work.Linear r) x b e = absurd cc
  leaving_becomes k room (work.State r) x b e = absurd cc
  leaving_becomes k room (work.Sub r) x b e = absurd cc
  leaving_becomes k room (work.FanIn r n) x b e = absurd cc
  leaving_becomes k room (work.FanOut r n) x b e = absurd cc
  leaving_becomes k room (work.Custom r inputs outputs) x b e = absurd cc
  leaving_becomes k room (work.Writing r d) x b e = absurd cc

  some_is : (x y : IslandNode S D L H B) → Some x ≡ Some y → x ≡ y
  some_is x y e = cc

  -- the node at a place of a lane's end
  entering_at : (places : List (Seated S D L H B)) (nodes : List (IslandNode S D L H B)) (n : ℕ) (x : IslandNode S D L H B) → AllBecome places nodes → slice_get nodes n ≡ Some x → comes_in places n ≡ true → IsEntering x
  entering_at [] [] n x b e c = absurd cc
  entering_at (s ∷ ss) (y ∷ ys) zero x b e c = subst IsEntering (some_is y x e) (entering_becomes s.node s.room s.work y b.0 c)
  entering_at (s ∷ ss) (y ∷ ys) (suc n) x b e c = entering_at ss ys n x b.1 e c
  entering_at [] (y ∷ ys) n x b e c = absurd b
  entering_at (s ∷ ss) [] n x b e c = absurd b

  leaving_at : (places : List (Seated S D L H B)) (nodes : List (IslandNode S D L H B)) (n : ℕ) (x : IslandNode S D L H B) → AllBecome places nodes → slice_get nodes n ≡ Some x → goes_out places n ≡ true → IsLeaving x
  leaving_at [] [] n x b e c = absurd cc
  leaving_at (s ∷ ss) (y ∷ ys) zero x b e c = subst IsLeaving (some_is y x e) (leaving_becomes s.node s.room s.work y b.0 c)
  leaving_at (s ∷ ss) (y ∷ ys) (suc n) x b e c = leaving_at ss ys n x b.1 e c
  leaving_at [] (y ∷ ys) n x b e c = absurd b
  leaving_at (s ∷ ss) [] n x b e c = absurd b

end_there : (links : List Link) (q : ℕ) (l : Link) → slice_get links q ≡ Some l → end_at (map ends_of links) q ≡ ends_of l
end_there [] q l e = absurd cc
end_there (x ∷ xs) zero l e = ap ends_of (link_is x l e)
  where
    link_is : (x y : Link) → Some x ≡ Some y → x ≡ y
    link_is x y e = cc
end_there (x ∷ xs) (suc q) l e = end_there xs q l e

-- the connection at which a lane comes in, and that at which it goes out
pub enters_new : {S D L H B : Type 0} (sources : S → SourceState) (drains : D → DrainState) (book : Book) (i : Kept S D L H B) (places : List (Seated S D L H B)) (links : List Link) → IslandKeeps sources drains book i.net i.used → AllBecome places i.net.firsts → i.net.ends ≡ map ends_of links → ListsIns places links i.ins
    → (q : ℕ) (l : Link) → slice_get links q ≡ Some l → comes_in places l.from ≡ true → EntersBy i l.wire q
enters_new sources drains book i places links k become ends leads q l at c =
    let mark : listed_place i.ins l.wire ≡ Some q = leads.listed q l at c in
    let way : way_in i l.wire ≡ q = ap place_or_none mark in
    let there : q < length i.net.wires = subst (λ (n : ℕ). q < n) (sym (length-map links ends_of) ∙ (ap length (sym ends) ∙ k.laws.wired.each_wire)) (slice_get_within links q l at) in
    let stage : EntersAt i.net q = λ x e. entering_at places i.net.firsts l.from x become (subst (λ (n : ℕ). slice_get i.net.firsts n ≡ Some x) (ap (λ (y : _). y.from) (ap (λ (es : _). end_at es q) ends ∙ end_there links q l at)) e) c in (
      record {
        listed = mark ∙ ap (λ (p : ℕ). Some p) (sym way);
        place = subst (λ (p : ℕ). p < length i.net.wires) (sym way) there;
        stage = subst (λ (p : ℕ). EntersAt i.net p) (sym way) stage;
      },
      way,
    )

pub leaves_new : {S D L H B : Type 0} (sources : S → SourceState) (drains : D → DrainState) (book : Book) (i : Kept S D L H B) (places : List (Seated S D L H B)) (links : List Link) → IslandKeeps sources drains book i.net i.used → AllBecome places i.net.firsts → i.net.ends ≡ map ends_of links → ListsOuts places links i.outs
    → (q : ℕ) (l : Link) → slice_get links q ≡ Some l → goes_out places l.to ≡ true → LeavesBy i l.wire q
leaves_new sources drains book i places links k become ends leads q l at c =
    let mark : listed_place i.outs l.wire ≡ Some q = leads.listed q l at c in
    let way : way_out i l.wire ≡ q = ap place_or_none mark in
    let there : q < length i.net.wires = subst (λ (n : ℕ). q < n) (sym (length-map links ends_of) ∙ (ap length (sym ends) ∙ k.laws.wired.each_wire)) (slice_get_within links q l at) in
    let stage : LeavesAt i.net q = λ x e. leaving_at places i.net.firsts l.to x become (subst (λ (n : ℕ). slice_get i.net.firsts n ≡ Some x) (ap (λ (y : _). y.to) (ap (λ (es : _). end_at es q) ends ∙ end_there links q l at)) e) c in (
      record {
        listed = mark ∙ ap (λ (p : ℕ). Some p) (sym way);
        place = subst (λ (p : ℕ). p < length i.net.wires) (sym way) there;
        stage = subst (λ (p : ℕ). LeavesAt i.net p) (sym way) stage;
      },
      way,
    )

-- ---- what has not passed at the ends of lanes of a new island

fresh_at : (n q : ℕ) → q < n → get_or (replicate n new_cell) q no_wire ≡ new_cell
fresh_at zero q h = absurd (omega (arith, h))
fresh_at (suc n) zero h = refl
fresh_at (suc n) (suc q) h = fresh_at n q (omega (arith, h))

module _ {S D L H B : Type 0} where
  entering_passive : (x : IslandNode S D L H B) → IsEntering x → node_passive x ≡ true
  entering_passive (node.Entering x) e = refl
  entering_passive (node.Leaving x) e = absurd e
  entering_passive (node.Reading x) e = absurd e
  entering_passive (node.Making x) e = absurd e
  entering_passive (node.Linear x) e = absurd e
  entering_passive (node.State x) e = absurd e
  entering_passive (node.Sub x) e = absurd e
  entering_passive (node.FanIn x) e = absurd e
  entering_passive (node.FanOut x) e = absurd e
  entering_passive (node.Custom x) e = absurd e
  entering_passive (node.Writing x) e = absurd e
  entering_passive (node.Ignoring x) e = absurd e

  leaving_passive : (x : IslandNode S D L H B) → IsLeaving x → node_passive x ≡ true
  leaving_passive (node.Leaving x) e = refl
  leaving_passive (node.Entering x) e = absurd e
  leaving_passive (node.Reading x) e = absurd e
  leaving_passive (node.Making x) e = absurd e
  leaving_passive (node.Linear x) e = absurd e
  leaving_passive (node.State x) e = absurd e
  leaving_passive (node.Sub x) e = absurd e
  leaving_passive (node.FanIn x) e = absurd e
  leaving_passive (node.FanOut x) e = absurd e
  leaving_passive (node.Custom x) e = absurd e
  leaving_passive (node.Writing x) e = absurd e
  leaving_passive (node.Ignoring x) e = absurd e

  leaving_gone : (k room : ℕ) (w : Work S D L H B) (x : IslandNode S D L H B) → BecomesOf k room w x → is_lane_out w ≡ true → node_gone x ≡ []
  leaving_gone k room (work.LaneOut u) x b e = ap node_gone b
  leaving_gone k room (work.LaneIn u) x b e = absurd cc
  leaving_gone k room (work.Reading r) x b e = absurd cc
  leaving_gone k room (work.Making r) x b e = absurd cc
  leaving_gone k room (work.Linear r) x b e = absurd cc
  leaving_gone k room (work.State r) x b e = absurd cc
  leaving_gone k room (work.Sub r) x b e = absurd cc
  leaving_gone k room (work.FanIn r n) x b e = absurd cc
  leaving_gone k room (work.FanOut r n) x b e = absurd cc
  leaving_gone k room (work.Custom r inputs outputs) x b e = absurd cc
  leaving_gone k room (work.Writing r d) x b e = absurd cc

  none_gone_at : (places : List (Seated S D L H B)) (nodes : List (IslandNode S D L H B)) (n : ℕ) (x : IslandNode S D L H B) → AllBecome places nodes → slice_get nodes n ≡ Some x → goes_out places n ≡ true → node_gone x ≡ []
  none_gone_at [] [] n x b e c = absurd cc
  none_gone_at (s ∷ ss) (y ∷ ys) zero x b e c = ap node_gone (sym (some_is y x e)) ∙ leaving_gone s.node s.room s.work y b.0 c
  none_gone_at (s ∷ ss) (y ∷ ys) (suc n) x b e c = none_gone_at ss ys n x b.1 e c
  none_gone_at [] (y ∷ ys) n x b e c = absurd b
  none_gone_at (s ∷ ss) [] n x b e c = absurd b

  mapped_at : (f : IslandNode S D L H B → List Item) (xs ys : List (IslandNode S D L H B)) (n : ℕ) (y : IslandNode S D L H B) → map f ys ≡ map f xs → slice_get ys n ≡ Some y → (x : IslandNode S D L H B) × ((slice_get xs n ≡ Some x) × (f y ≡ f x))
  mapped_at f [] [] n y e at = cc
  mapped_at f [] (z ∷ ys) n y e at = cc
  mapped_at f (x ∷ xs) [] n y e at = cc
  mapped_at f (x ∷ xs) (z ∷ ys) zero y e at = let same : z ≡ y = some_is z y at in let both : f z ≡ f x = cc in (x, (refl, ap f (sym same) ∙ both))
  mapped_at f (x ∷ xs) (z ∷ ys) (suc n) y e at = let t : map f ys ≡ map f xs = cc in mapped_at f xs ys n y t at

  module _ (blank started : Net (IslandNode S D L H B)) (places : List (Seated S D L H B)) (links : List Link) (nodes : blank.nodes ≡ blank.firsts) (become : AllBecome places blank.firsts) (ends : blank.ends ≡ map ends_of links) (wires : blank.wires ≡ replicate (length links) new_cell) (on : NetGoesOn blank started) (still : StandsStill node_passive blank started) where
    blank_at : (q : ℕ) (l : Link) → slice_get links q ≡ Some l → wire_at blank q ≡ new_cell
    blank_at q l at = ap (λ (cs : _). get_or cs q no_wire) wires ∙ fresh_at (length links) q (slice_get_within links q l at)

    ends_here : (q : ℕ) (l : Link) → slice_get links q ≡ Some l → end_at blank.ends q ≡ ends_of l
    ends_here q l at = ap (λ (es : _). end_at es q) ends ∙ end_there links q l at

    pub begins_in_new : (q : ℕ) (l : Link) → slice_get links q ≡ Some l → comes_in places l.from ≡ true → (wire_at started q).wire.sent ≡ []
    begins_in_new q l at c =
        still.sent q (λ x e. entering_passive x (entering_at places blank.firsts l.from x become (here x e) c)) ∙ ap (λ (z : _). z.wire.sent) (blank_at q l at)
      where
        here : (x : IslandNode S D L H B) → slice_get blank.nodes (end_at blank.ends q).from ≡ Some x → slice_get blank.firsts l.from ≡ Some x
        here x e = sym (ap (λ (ns : List (IslandNode S D L H B)). slice_get ns l.from) nodes) ∙ (ap (λ (n : ℕ). slice_get blank.nodes n) (ap (λ (y : _). y.from) (sym (ends_here q l at))) ∙ e)

    pub begins_out_new : map node_gone started.nodes ≡ map node_gone blank.nodes → (q : ℕ) (l : Link) → slice_get links q ≡ Some l → goes_out places l.to ≡ true → BeginsOut started q
    begins_out_new gone q l at c = record {
      unasked = still.asks q passive ∙ ap wanted (blank_at q l at);
      stays = λ e. let was = still.left q passive e in let was_new : (wire_at blank q).wire.inp ≡ Idle = ap (λ (z : _). z.wire.inp) (blank_at q l at) in cc;
      none_gone = λ x e. let y = mapped_at node_gone blank.nodes started.nodes l.to x gone (to_here x e) in y.1.1 ∙ none_gone_at places blank.firsts l.to y.0 become (sym (ap (λ (ns : List (IslandNode S D L H B)). slice_get ns l.to) nodes) ∙ y.1.0) c;
    }
      where
        to_is : (end_at started.ends q).to ≡ l.to
        to_is = ap (λ (es : _). (end_at es q).to) on.ends ∙ ap (λ (y : _). y.to) (ends_here q l at)

        to_here : (x : IslandNode S D L H B) → slice_get started.nodes (end_at started.ends q).to ≡ Some x → slice_get started.nodes l.to ≡ Some x
        to_here x e = ap (λ (n : ℕ). slice_get started.nodes n) (sym to_is) ∙ e

        here : (x : IslandNode S D L H B) → slice_get blank.nodes (end_at blank.ends q).to ≡ Some x → slice_get blank.firsts l.to ≡ Some x
        here x e = sym (ap (λ (ns : List (IslandNode S D L H B)). slice_get ns l.to) nodes) ∙ (ap (λ (n : ℕ). slice_get blank.nodes n) (ap (λ (y : _). y.to) (sym (ends_here q l at))) ∙ e)

        passive : IsPassiveAt node_passive blank (end_at blank.ends q).to
        passive x e = leaving_passive x (leaving_at places blank.firsts l.to x become (here x e) c)
