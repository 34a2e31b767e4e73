-- A new stage takes its inputs as the model says of its kind, and so what it gave agrees with the outlook of its output.
use Rattle.std.specs.Prelude.{slice_index_or}
use Rattle.std.specs.Option.{option_map}
use Rattle.std.proofs.Common.{◌≡◌, ℕ, ◌≤◌, Bool, true, false, List, [], ◌∷◌, ◌++◌, length, refl, sym, ap, ◌∙◌, subst, arith, Option, Some, None}
use Rattle.elem_core.specs.Tree.{Tree}
use Rattle.elem_core.specs.declared.item.Item.{Item}
use Rattle.elem_core.specs.declared.why.Decider.{Decider}
use Rattle.port_core.specs.View.{View, unpulled_ins}
use Rattle.stream_model.specs.declared.kind.Kind.{Kind}
use Rattle.stream_model.specs.declared.kind.Kind.TheVariants.{Merge, MergeHub, Concat, Interleave, MergeSorted, Zip}
use Rattle.stream_model.specs.Graph.{Graph}
use Rattle.stream_model.specs.Fits.{moves_fit}
use Rattle.stream_model.specs.Node.{World, node_outlook, head_of, second_of}
use Rattle.stream_model.specs.Outlook.{Outlook, End, Agrees}
use Rattle.stream_model.specs.FanIn.{Tagged, Inflow, AllAgree, FanStands, concat_taken, interleave_taken, sorted_taken, sorted_outlook, zip_outlook}
use Rattle.stream_model.specs.Picks.{merge_fits}
use Rattle.stream_model.proofs.FanTraces.{concat_trace, interleave_trace, sorted_trace}
use Rattle.stream_model.proofs.PickTraces.{zip_trace}
use Rattle.stream_model.specs.declared.kind.TheConstants.{MAX_FAN}
use Rattle.stage_core.specs.Zips.{ZipStandsOf}
use Rattle.stage_core.proofs.FanTurns.{fan_history_stands}
use Rattle.stage_core.proofs.ZipTurns.{zip_history_stands}
use Rattle.stage_in.specs.declared.logic.InLogic.{InLogic}
use Rattle.stage_in.specs.declared.logic.InLogic.TheVariants as logic
use Rattle.stage_in.specs.Kinds.{concatenating, interleaving, taking_by, sorting}
use Rattle.stage_in.specs.Pairings.{Pairing, new_pair}
use Rattle.stage_in.specs.Takings as taking
use Rattle.stage_in.specs.Takings.{Taking}
use Rattle.stage_in.specs.Sortings as sorted
use Rattle.stage_in.specs.Zippings as zipping
use Rattle.stage_merge.specs.Mergings as merging
use Rattle.stage_merge.specs.Mergings.{Merging}
use Rattle.stage_merge.proofs.MergeNodes as merge
use Rattle.stage_in.specs.Logics.{Begins, IsFan, IsFanIn, IsOrdered, TakesAs, inputs_of, SameKind, InLaw}
use Rattle.stage_in.specs.Moves.{in_picks, in_plan, TellsMoves}
use Rattle.stage_in.proofs.Takes.{no_hold, new_row}

-- ---- what it gave agrees

sorted_agrees : (is : List Outlook) (ins : List Inflow) (g : List Tree) (e : End) → length is ≡ 2 → AllAgree is ins → FanStands 1 sorted_taken ins g e → Agrees (sorted_outlook (head_of is) (second_of is)) g e
sorted_agrees [] ins g e l h s = absurd (omega (arith, l))
sorted_agrees (o ∷ []) ins g e l h s = absurd (omega (arith, l))
sorted_agrees (o ∷ r ∷ []) [] g e l h s = absurd h
sorted_agrees (o ∷ r ∷ []) (a ∷ []) g e l h s = absurd h.1
sorted_agrees (o ∷ r ∷ []) (a ∷ b ∷ []) g e l h s = sorted_trace o r a b g e h.0 h.1.0 s
sorted_agrees (o ∷ r ∷ []) (a ∷ b ∷ c ∷ ins) g e l h s = absurd h.1.1
sorted_agrees (o ∷ r ∷ q ∷ is) ins g e l h s = absurd (omega (arith, l))

zip_agrees : (is : List Outlook) (ins : List Inflow) (g : List Tree) (e : End) → length is ≡ 2 → AllAgree is ins → ZipStandsOf ins g e → Agrees (zip_outlook (head_of is) (second_of is)) g e
zip_agrees [] ins g e l h s = absurd (omega (arith, l))
zip_agrees (o ∷ []) ins g e l h s = absurd (omega (arith, l))
zip_agrees (o ∷ r ∷ []) [] g e l h s = absurd h
zip_agrees (o ∷ r ∷ []) (a ∷ []) g e l h s = absurd h.1
zip_agrees (o ∷ r ∷ []) (a ∷ b ∷ []) g e l h s = zip_trace o r a b g e h.0 h.1.0 s
zip_agrees (o ∷ r ∷ []) (a ∷ b ∷ c ∷ ins) g e l h s = absurd h.1.1
zip_agrees (o ∷ r ∷ q ∷ is) ins g e l h s = absurd (omega (arith, l))

-- a stage that takes its inputs so
as_taken : (segment : Option ℕ) (taken to : List Outlook → List Tagged) (ins : List Inflow) (g : List Tree) (e : End) → taken ≡ to → FanStands (taking_by segment).hold taken ins g e → FanStands 0 to ins g e
as_taken segment taken to ins g e is s = subst (λ h. FanStands h to ins g e) (no_hold segment) (subst (λ (t : List Outlook → List Tagged). FanStands (taking_by segment).hold t ins g e) is s)

module _ (w : Graph) (world : World) (node : ℕ) (d : Decider) (is : List Outlook) (v : View) (took gave : List (List Item)) where
  takes_agree : (kind : Kind) (first now : InLogic) → TakesAs kind first → length is ≡ inputs_of kind → TellsMoves world node now → (law : InLaw first now v took gave) → AllAgree is law.by.law.ins → Agrees (node_outlook w world node kind d is 0) law.by.law.out_list law.by.law.out_end
  takes_agree (Concat n) (logic.Taking f) (logic.Taking l) t many tells law h =
      let p = law.by.law in
      concat_trace is p.ins p.out_list p.out_end h (as_taken f.segment ((taking_by f.segment).from (taking.place_of f)) concat_taken p.ins p.out_list p.out_end t.1
      (fan_history_stands (taking_by f.segment) (taking.place_of f) (taking.held l) v (λ i. slice_index_or took i []) law.by.given p))
  takes_agree (Interleave n s) (logic.Taking f) (logic.Taking l) t many tells law h =
      let p = law.by.law in
      interleave_trace s is p.ins p.out_list p.out_end h (as_taken f.segment ((taking_by f.segment).from (taking.place_of f)) (interleave_taken s) p.ins p.out_list p.out_end t.1
      (fan_history_stands (taking_by f.segment) (taking.place_of f) (taking.held l) v (λ i. slice_index_or took i []) law.by.given p))
  takes_agree MergeSorted (logic.Sorting f) (logic.Sorting l) t many tells law h =
      let p = law.by.law in
      sorted_agrees is p.ins p.out_list p.out_end many h (fan_history_stands sorting sorted.nowhere (sorted.held l) v (λ i. slice_index_or took i []) law.by.given p)
  takes_agree Zip (logic.Zipping f) (logic.Zipping l) t many tells law h =
      let p = law.by.law in
      zip_agrees is p.ins p.out_list p.out_end many h (zip_history_stands (zipping.held l) v (λ i. slice_index_or took i []) law.by.given p)
  takes_agree (Merge n) (logic.Merging f) (logic.Merging l) t many tells law h = merge.output_agrees is f l v took gave (record { unmoved = law.same.0; way = law.same.1.0; plan = law.same.1.1; by = law.by }) h w world node n d (tells l.log.moves refl) t.way
  takes_agree (MergeHub s n) (logic.Merging f) (logic.Merging l) t many tells law h = merge.hub_agrees is f l v took gave (record { unmoved = law.same.0; way = law.same.1.0; plan = law.same.1.1; by = law.by }) h w world node s n d (tells l.log.moves refl) t.way
  takes_agree (Concat n) (logic.Taking f) now t many tells law h = absurd law.same
  takes_agree (Interleave n s) (logic.Taking f) now t many tells law h = absurd law.same
  takes_agree MergeSorted (logic.Sorting f) now t many tells law h = absurd law.same
  takes_agree Zip (logic.Zipping f) now t many tells law h = absurd law.same
  takes_agree (Merge n) (logic.Merging f) now t many tells law h = absurd law.same
  takes_agree (MergeHub s n) (logic.Merging f) now t many tells law h = absurd law.same
  takes_agree kind first now t many tells law h = absurd t

pub begun_agrees : (w : Graph) (world : World) (node : ℕ) (kind : Kind) (d : Decider) (is : List Outlook) (first now : InLogic) (v : View) (took gave : List (List Item)) → Begins node kind d first → length is ≡ inputs_of kind → TellsMoves world node now
    → (law : InLaw first now v took gave) → AllAgree is law.by.law.ins → Agrees (node_outlook w world node kind d is 0) law.by.law.out_list law.by.law.out_end
begun_agrees w world node kind d is first now v took gave b many tells law h = takes_agree w world node d is v took gave kind first now b.takes many tells law h

-- ---- its moves fit

takes_fit : (w : Graph) (world : World) (node : ℕ) (kind : Kind) (is : List Outlook) (first now : InLogic) (v : View) (took gave : List (List Item)) → TakesAs kind first → TellsMoves world node now → (law : InLaw first now v took gave) → AllAgree is law.by.law.ins → moves_fit w world node kind is ≡ true
takes_fit w world node (Concat n) is (logic.Taking f) now v took gave t tells law h = refl
takes_fit w world node (Interleave n s) is (logic.Taking f) now v took gave t tells law h = refl
takes_fit w world node MergeSorted is (logic.Sorting f) now v took gave t tells law h = refl
takes_fit w world node Zip is (logic.Zipping f) now v took gave t tells law h = refl
takes_fit w world node (Merge n) is (logic.Merging f) (logic.Merging l) v took gave t tells law h =
    subst (λ ms. merge_fits ms is ≡ true) (sym (tells l.log.moves refl)) (merge.moves_fit is f l v took gave (record { unmoved = law.same.0; way = law.same.1.0; plan = law.same.1.1; by = law.by }) h)
takes_fit w world node (MergeHub s n) is (logic.Merging f) (logic.Merging l) v took gave t tells law h =
    subst (λ ms. merge_fits ms is ≡ true) (sym (tells l.log.moves refl)) (merge.moves_fit is f l v took gave (record { unmoved = law.same.0; way = law.same.1.0; plan = law.same.1.1; by = law.by }) h)
takes_fit w world node (Merge n) is (logic.Merging f) now v took gave t tells law h = absurd law.same
takes_fit w world node (MergeHub s n) is (logic.Merging f) now v took gave t tells law h = absurd law.same
takes_fit w world node kind is first now v took gave t tells law h = absurd t

pub begun_fits : (w : Graph) (world : World) (node : ℕ) (kind : Kind) (d : Decider) (is : List Outlook) (first now : InLogic) (v : View) (took gave : List (List Item)) → Begins node kind d first → TellsMoves world node now
    → (law : InLaw first now v took gave) → AllAgree is law.by.law.ins → moves_fit w world node kind is ≡ true
begun_fits w world node kind d is first now v took gave b tells law h = takes_fit w world node kind is first now v took gave b.takes tells law h

-- ---- one whose inputs' lists determine its order chooses nothing

pub ordered_unmoved : (kind : Kind) (first now : InLogic) → IsOrdered kind → TakesAs kind first → SameKind first now → in_picks now ≡ None
ordered_unmoved (Concat n) (logic.Taking f) (logic.Taking l) o t s = refl
ordered_unmoved (Interleave n k) (logic.Taking f) (logic.Taking l) o t s = refl
ordered_unmoved MergeSorted (logic.Sorting f) (logic.Sorting l) o t s = refl
ordered_unmoved Zip (logic.Zipping f) (logic.Zipping l) o t s = refl
ordered_unmoved (Concat n) (logic.Taking f) now o t s = absurd s
ordered_unmoved (Interleave n k) (logic.Taking f) now o t s = absurd s
ordered_unmoved MergeSorted (logic.Sorting f) now o t s = absurd s
ordered_unmoved Zip (logic.Zipping f) now o t s = absurd s
ordered_unmoved (Merge n) first now o t s = absurd o
ordered_unmoved (MergeHub m n) first now o t s = absurd o
ordered_unmoved kind first now o t s = absurd t

pub ordered_tells : (world : World) (node : ℕ) (kind : Kind) (first now : InLogic) → IsOrdered kind → TakesAs kind first → SameKind first now → TellsMoves world node now
ordered_tells world node kind first now o t s moves e = let none = ordered_unmoved kind first now o t s in let z : None ≡ Some moves = sym none ∙ e in cc

-- ---- a new stage

taking_begins : (node : ℕ) (kind : Kind) (d : Decider) (n : ℕ) (segment : Option ℕ) (l : Taking) → 2 ≤ n → n ≤ MAX_FAN → taking.Begins n segment l → inputs_of kind ≡ n → TakesAs kind (logic.Taking l) → Begins node kind d (logic.Taking l)
taking_begins node kind d n segment l two few b is takes = record {
  fresh = b.live;
  takes = takes;
  ready = subst (λ k. taking.port_state l (unpulled_ins k)) (sym is) (new_row n segment l two few b);
}

concat_takes : (l : Taking) → l.segment ≡ None → l.current ≡ 0 → (taking_by l.segment).from (taking.place_of l) ≡ concat_taken
concat_takes l s c = ap (λ x. (taking_by x).from (taking.place_of l)) s ∙ ap (λ k. concatenating.from (record { current = k; left = l.left })) c

interleave_takes : (l : Taking) (k : ℕ) → l.segment ≡ Some k → l.current ≡ 0 → l.left ≡ k → (taking_by l.segment).from (taking.place_of l) ≡ interleave_taken k
interleave_takes l k s c n =
    ap (λ x. (taking_by x).from (taking.place_of l)) s ∙ ap (λ p. (interleaving k).from (record { current = p; left = l.left })) c ∙ ap (λ p. (interleaving k).from (record { current = 0; left = p })) n

concat_begins : (node n : ℕ) (d : Decider) (l : Taking) → 2 ≤ n → n ≤ MAX_FAN → taking.Begins n None l → Begins node (Concat n) d (logic.Taking l)
concat_begins node n d l two few b = taking_begins node (Concat n) d n None l two few b refl (b.by, concat_takes l b.by b.current)

interleave_begins : (node n k : ℕ) (d : Decider) (l : Taking) → 2 ≤ n → n ≤ MAX_FAN → taking.Begins n (Some k) l → Begins node (Interleave n k) d (logic.Taking l)
interleave_begins node n k d l two few b = taking_begins node (Interleave n k) d n (Some k) l two few b refl (b.by, interleave_takes l k b.by b.current (b.whole k refl))

merging_begins : (node : ℕ) (d : Decider) (n : ℕ) (l : Merging) → (1 ≤ n) × (n ≤ MAX_FAN) → merging.Begins n false l → Begins node (Merge n) d (logic.Merging l)
merging_begins node d n l f b =
    let start = merge.new_may_start n false l f.0 f.1 b in
    record { fresh = (start.fresh, start.unmoved); takes = b; ready = start.ports }

hub_begins : (node : ℕ) (d : Decider) (s n : ℕ) (l : Merging) → (1 ≤ n) × (n ≤ MAX_FAN) → merging.Begins n true l → Begins node (MergeHub s n) d (logic.Merging l)
hub_begins node d s n l f b =
    let start = merge.new_may_start n true l f.0 f.1 b in
    record { fresh = (start.fresh, start.unmoved); takes = b; ready = start.ports }

sorted_begins : (node : ℕ) (d : Decider) → Begins node MergeSorted d (logic.Sorting new_pair)
sorted_begins node d = record { fresh = refl; takes = tt; ready = (refl, ((refl, refl), ((refl, refl), refl))) }

zip_begins : (node : ℕ) (d : Decider) → Begins node Zip d (logic.Zipping new_pair)
zip_begins node d = record { fresh = refl; takes = tt; ready = (refl, ((refl, refl), ((refl, refl), refl))) }

-- a stage of a kind that is known
module _ (node : ℕ) (kind : Kind) (d : Decider) (new : InLogic) where
  as_kind : (k : Kind) (l : InLogic) → kind ≡ k → new ≡ l → Begins node k d l → Begins node kind d new
  as_kind k l is to b = subst (λ x. Begins node x d new) (sym is) (subst (λ x. Begins node k d x) (sym to) b)

  pub concat_new : (n : ℕ) (l : Taking) → IsFanIn kind → kind ≡ Concat n → new ≡ logic.Taking l → taking.Begins n None l → Begins node kind d new
  concat_new n l fit is to b =
      let f = subst IsFanIn is fit in
      as_kind (Concat n) (logic.Taking l) is to (concat_begins node n d l f.0 f.1 b)

  pub interleave_new : (n k : ℕ) (l : Taking) → IsFanIn kind → kind ≡ Interleave n k → new ≡ logic.Taking l → taking.Begins n (Some k) l → Begins node kind d new
  interleave_new n k l fit is to b =
      let f = subst IsFanIn is fit in
      as_kind (Interleave n k) (logic.Taking l) is to (interleave_begins node n k d l f.0.0 f.0.1 b)

  pub sorted_new : (l : Pairing) → kind ≡ MergeSorted → new ≡ logic.Sorting l → l ≡ new_pair → Begins node kind d new
  sorted_new l is to b = as_kind MergeSorted (logic.Sorting new_pair) is (to ∙ ap logic.Sorting b) (sorted_begins node d)

  pub zip_new : (l : Pairing) → kind ≡ Zip → new ≡ logic.Zipping l → l ≡ new_pair → Begins node kind d new
  zip_new l is to b = as_kind Zip (logic.Zipping new_pair) is (to ∙ ap logic.Zipping b) (zip_begins node d)

  pub merge_new : (n : ℕ) (l : Merging) → IsFanIn kind → kind ≡ Merge n → new ≡ logic.Merging l → merging.Begins n false l → Begins node kind d new
  merge_new n l fit is to b =
      let f = subst IsFanIn is fit in
      let two : 2 ≤ n = f.0 in
      as_kind (Merge n) (logic.Merging l) is to (merging_begins node d n l (omega (arith, two), f.1) b)

  pub hub_new : (s n : ℕ) (l : Merging) → IsFanIn kind → kind ≡ MergeHub s n → new ≡ logic.Merging l → merging.Begins n true l → Begins node kind d new
  hub_new s n l fit is to b =
      let f = subst IsFanIn is fit in
      as_kind (MergeHub s n) (logic.Merging l) is to (hub_begins node d s n l f b)

-- ---- one that follows moves

-- a new merge of so many inputs is one of no other number
one_fan : (m n : ℕ) (a b : Bool) (l : Merging) → merging.Begins m a l → merging.Begins n b l → m ≡ n
one_fan m n a b l x y = ap (λ (c : merging.Core). c.room) (sym x.core ∙ y.core)

-- it begins as it did
pub follows : (node : ℕ) (kind : Kind) (d : Decider) (n : ℕ) (g : Bool) (old new : Merging) → (1 ≤ n) × (n ≤ MAX_FAN) → merging.Begins n g old → ((k : ℕ) (a : Bool) → merging.Begins k a old → merging.Begins k a new)
    → Begins node kind d (logic.Merging old) → Begins node kind d (logic.Merging new)
follows node (Merge m) d n g old new f b on h =
    let e : m ≡ n = one_fan m n false g old h.takes b in
    merging_begins node d m new (subst (λ k. (1 ≤ k) × (k ≤ MAX_FAN)) (sym e) f) (on m false h.takes)
follows node (MergeHub s m) d n g old new f b on h =
    let e : m ≡ n = one_fan m n true g old h.takes b in
    hub_begins node d s m new (subst (λ k. (1 ≤ k) × (k ≤ MAX_FAN)) (sym e) f) (on m true h.takes)
follows node (Concat m) d n g old new f b on h = absurd h.takes
follows node (Interleave m s) d n g old new f b on h = absurd h.takes
follows node MergeSorted d n g old new f b on h = absurd h.takes
follows node Zip d n g old new f b on h = absurd h.takes
follows node kind d n g old new f b on h = absurd h.takes

-- where its moves name its inputs
pub names_on : (n : ℕ) (g : Bool) (old new : Merging) (moves : List ℕ) → merging.Begins n g old → merging.NamesInputs n (Some moves)
    → ((k : ℕ) → (a : Bool) → merging.Begins k a old → merging.NamesInputs k (Some moves) → merging.Begins k a new) → (k : ℕ) (a : Bool) → merging.Begins k a old → merging.Begins k a new
names_on n g old new moves first named on k a b = on k a b (subst (λ (j : ℕ). merging.NamesInputs j (Some moves)) (sym (one_fan k n a g old b first)) named)

-- one that takes moves is a merge
pub followed_plan : (old new : InLogic) (l m : Merging) (moves : List ℕ) → new ≡ logic.Merging m → m.log.left ≡ Some moves → m.log.moves ≡ [] → in_plan new ≡ Some moves
followed_plan old new l m moves is left none = ap in_plan is ∙ ap (λ (o : Option (List ℕ)). option_map (λ (x : List ℕ). m.log.moves ++ x) o) left ∙ ap (λ (x : List ℕ). Some (x ++ moves)) none

pub free_plan : (new : InLogic) (m : Merging) → new ≡ logic.Merging m → m.log.left ≡ None → in_plan new ≡ None
free_plan new m is left = ap in_plan is ∙ ap (λ (o : Option (List ℕ)). option_map (λ (x : List ℕ). m.log.moves ++ x) o) left
