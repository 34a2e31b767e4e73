-- What a stage with several inputs gave agrees with the outlook of its output, where what came at each input does with that input's.
use Rattle.std.specs.Prelude.{slice_get, slice_index_or}
use Rattle.std.proofs.Common.{◌≡◌, ℕ, zero, suc, List, [], ◌∷◌, length, Some, refl, sym, ap, subst, ◌∙◌, arith}
use Rattle.std.proofs.lemmas.Option.{slice_get_within}
use Rattle.elem_core.specs.declared.item.Item.{Item}
use Rattle.port_core.specs.View.{View}
use Rattle.fused_net.proofs.Reading.{get_there}
use Rattle.stream_model.specs.declared.kind.Kind.{Kind}
use Rattle.stream_model.specs.declared.kind.Kind.TheVariants.{Merge, MergeHub, Concat, Interleave, MergeSorted, Zip}
use Rattle.stream_model.specs.Composed.{inputs_by, inputs_of}
use Rattle.stream_model.specs.FanIn.{Inflow, AllAgree}
use Rattle.stream_model.specs.Graph.{Graph}
use Rattle.stream_model.specs.Graph as graph
use Rattle.stream_model.specs.Node.{World, node_outlook}
use Rattle.stream_model.specs.Outlook.{Outlook, Agrees}
use Rattle.stage_core.specs.Held.{told}
use Rattle.stage_in.specs.declared.logic.InLogic.{InLogic}
use Rattle.stage_in.specs.declared.logic.InLogic.TheVariants as logic
use Rattle.stage_in.specs.Logics.{Begins, TakesAs, InLaw}
use Rattle.stage_in.specs.Logics as stage
use Rattle.stage_in.specs.Moves.{TellsMoves}
use Rattle.stage_in.proofs.Begun.{begun_agrees, begun_fits}
use Rattle.run_laws.specs.Items.{AllMayPass, AgreesWith}
use Rattle.run_laws.specs.KindLaws.{HearsAll, RunLaws}

-- each history agrees, where it may pass
all_agree : (os : List Outlook) (hs : List (List Item)) (fs : List Inflow) → length fs ≡ length hs → ((i : ℕ) (f : Inflow) → slice_get fs i ≡ Some f → slice_index_or hs i [] ≡ told f.list f.end) → AllMayPass os hs → AllAgree os fs
all_agree [] [] [] n t a = tt
all_agree [] [] (f ∷ fs) n t a = absurd (omega (arith, n))
all_agree [] (h ∷ hs) fs n t a = absurd a
all_agree (o ∷ os) [] fs n t a = absurd a
all_agree (o ∷ os) (h ∷ hs) [] n t a = absurd (omega (arith, n))
all_agree (o ∷ os) (h ∷ hs) (f ∷ fs) n t a = (a.0 f.list f.end (t 0 f refl), all_agree os hs fs (omega (arith, n)) (λ i x e. t (suc i) x e) a.1)

pass_length : (os : List Outlook) (hs : List (List Item)) → AllMayPass os hs → length os ≡ length hs
pass_length [] [] a = refl
pass_length [] (h ∷ hs) a = absurd a
pass_length (o ∷ os) [] a = absurd a
pass_length (o ∷ os) (h ∷ hs) a = ap suc (pass_length os hs a.1)

same_inputs : (head : ℕ × ℕ) (kd : Kind) (first : InLogic) → TakesAs kd first → inputs_by head kd ≡ stage.inputs_of kd
same_inputs head (Concat n) (logic.Taking f) t = refl
same_inputs head (Interleave n s) (logic.Taking f) t = refl
same_inputs head MergeSorted (logic.Sorting f) t = refl
same_inputs head Zip (logic.Zipping f) t = refl
same_inputs head (Merge n) (logic.Merging f) t = refl
same_inputs head (MergeHub s n) (logic.Merging f) t = refl
same_inputs head kd first t = absurd t

pub one_given : (x h : List Item) (p : ℕ) → slice_get (x ∷ []) p ≡ Some h → (p ≡ 0) × (h ≡ x)
one_given x h zero e = let same : x ≡ h = cc in (refl, sym same)
one_given x h (suc p) e = cc

module _ (g : Graph) (w : World) (k : ℕ) (n : graph.Node) (first now : InLogic) (v : View) (took gave : List (List Item)) (b : Begins k n.kind n.decider first) (many : length took ≡ inputs_of n) (tells : TellsMoves w k now) (law : InLaw first now v took gave) where
  gives : (os : List Outlook) → AllMayPass os took → (p : ℕ) (h : List Item) → slice_get gave p ≡ Some h → AgreesWith (node_outlook g w k n.kind n.decider os p) h
  gives os a p h at =
      let one = one_given law.by.given h p (subst (λ (hs : List (List Item)). slice_get hs p ≡ Some h) law.by.gave_is at) in
      let l = law.by.law in
      let agree = all_agree os took l.ins (l.ports ∙ sym law.by.ports) l.took_is a in
      let is = pass_length os took a ∙ (many ∙ same_inputs n.head n.kind first b.takes) in
      record {
        list = l.out_list;
        end = l.out_end;
        is = one.1 ∙ l.gave_is;
        agrees = subst (λ q. Agrees (node_outlook g w k n.kind n.decider os q) l.out_list l.out_end) (sym one.0) (begun_agrees g w k n.kind n.decider os first now v took gave b is tells law agree);
      }

  pub in_laws : RunLaws g w k n took gave
  in_laws = record {
    gives = gives;
    fits = λ os a. let l = law.by.law in begun_fits g w k n.kind n.decider os first now v took gave b tells law (all_agree os took l.ins (l.ports ∙ sym law.by.ports) l.took_is a);
  }

pub at_index : (hs : List (List Item)) (p : ℕ) (h : List Item) → slice_get hs p ≡ Some h → slice_index_or hs p [] ≡ h
at_index [] p h e = cc
at_index (x ∷ hs) zero h e = cc
at_index (x ∷ hs) (suc p) h e = at_index hs p h e

-- what came at each input is a list and an end, which is known there
pub in_hears : (first now : InLogic) (v : View) (took gave : List (List Item)) → InLaw first now v took gave → HearsAll v took
in_hears first now v took gave law p h at =
    let l = law.by.law in
    let within = slice_get_within took p h at in
    let ports = l.ports in
    let histories = law.by.ports in
    let f = get_there l.ins p (omega (arith, within, ports, histories)) in
    record { list = f.0.list; end = f.0.end; is = sym (at_index took p h at) ∙ l.took_is p f.0 f.1; as_seen = l.took_as p f.0 f.1 }
