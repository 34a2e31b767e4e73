-- The list that a custom stage tells is of the type that all of it has, whatever comes.
use Rattle.std.specs.Prelude.{if◌then◌else◌, slice_get, Option, None, Some}
use Rattle.std.specs.List.{All}
use Rattle.std.specs.Cmp.Lexicographic.{bytes_decides}
use Rattle.std.proofs.Common.{◌≡◌, ℕ, zero, suc, Bool, true, false, List, [], ◌∷◌, ◌++◌, map, refl, sym, ap, ◌∙◌, subst}
use Rattle.elem_core.specs.Sort.{Sort}
use Rattle.elem_core.specs.Tree.{Tree}
use Rattle.elem_core.specs.Values.{same_text}
use Rattle.elem_core.specs.declared.why.Decider.{Decider}
use Rattle.elem_core.specs.declared.why.Why.TheVariants as why
use Rattle.graph_stage.specs.declared.custom.Custom.{Custom}
use Rattle.graph_stage.specs.Told.{AllOfType, GivesTyped, ToldList, HandedAs}
use Rattle.plug_logic.specs.Gives.{listed}
use Rattle.plug_logic.specs.declared.plug.Plug.{Plug}
use Rattle.blue_names.specs.CustomPorts.{named, custom_named, output_type}
use Rattle.materializer.specs.HandedCustoms.{handed_heads, TellsAsListed}
use Rattle.materializer.proofs.HandingGuests.{at_all}
use Rattle.stream_model.specs.Known.{CustomShape, head_shape}
use Rattle.stream_model.specs.Linear.{Book, told_book, Work, Stage, Reply, Verdict, go, finish, fail, Reaction, gives, ends, breaks, on_reply, plugged, reacts, reaction, step, finish_of, blame_end, linear, begin_work}
use Rattle.stream_model.specs.Machine.{Run, Finish, adds, refuses}
use Rattle.stream_model.specs.Node.{head_of, of_work}
use Rattle.stream_model.specs.Outlook.{Outlook}
use Rattle.run_blueprint.specs.Plugs.{ToldTyped}
use Rattle.run_blueprint.specs.Types.{Each, HasType, AllTyped}
use Rattle.run_blueprint.proofs.CustomTypes.{has_type}
use Rattle.run_blueprint.proofs.Keeping.{RunKeeps, FinishKeeps, whole_keeps}

of_type : (t : Sort) (l : List Tree) → AllOfType t l → AllTyped t l
of_type t [] h = tt
of_type t (x ∷ l) h = (has_type t x h.0, of_type t l h.1)

-- whatever came
abbrev Anything : Tree → Type 0
Anything x = Unit {0}

all_came : (l : List Tree) → Each Anything l
all_came [] = tt
all_came (x ∷ l) = (tt, all_came l)

module _ (book : Book) (name : List ℕ) (t : Sort) (typed : GivesTyped (listed book name) t) where
  -- the plug of that name
  abbrev IsIts : Stage → Type 0
  IsIts s = (taken : List Tree) × (s.work ≡ plugged name taken)

  abbrev Keeps : Run Stage Tree → Type 0
  Keeps x = RunKeeps IsIts (HasType t) x

  replies : (s : Stage) (taken : List Tree) (x : Tree) (r : Reply) → AllTyped t r.gave → Keeps (reacts s (on_reply r (plugged name (taken ++ x ∷ []))))
  replies s taken x r h = by_verdict r.verdict
    where
      by_verdict : (v : Verdict) → Keeps (reacts s (elim v as (λ _. Reaction) [ go ↦ gives r.gave (plugged name (taken ++ x ∷ [])) | finish ↦ ends r.gave | fail n ↦ breaks (why.Plug n) ]))
      by_verdict go = record { gave = h; state = (taken ++ x ∷ [], refl) }
      by_verdict finish = record { gave = h; state = tt }
      by_verdict (fail n) = record { gave = tt; state = tt }

  steps : (s : Stage) (x : Tree) → IsIts s → Anything x → Keeps (step book s x)
  steps s x i any =
      subst (λ (w : Work). Keeps (reacts s (reaction book w x))) (sym i.1)
      (replies s i.0 x (book.reply name i.0 x) (of_type t (book.reply name i.0 x).gave (typed.reply i.0 x)))

  abbrev Closes : Finish Tree → Type 0
  Closes f = FinishKeeps {S = Stage} IsIts (HasType t) f

  closes : (s : Stage) (r : Reply) → AllTyped t r.gave → Closes (elim r.verdict as (λ _. Finish Tree) [ go ↦ adds r.gave | finish ↦ adds r.gave | fail n ↦ refuses (blame_end s (why.Plug n)) ])
  closes s r h = by_verdict r.verdict
    where
      by_verdict : (v : Verdict) → Closes (elim v as (λ _. Finish Tree) [ go ↦ adds r.gave | finish ↦ adds r.gave | fail n ↦ refuses (blame_end s (why.Plug n)) ])
      by_verdict go = h
      by_verdict finish = h
      by_verdict (fail n) = tt

  finishes : (s : Stage) → IsIts s → Closes (finish_of book s s.work)
  finishes s i =
      subst (λ (w : Work). Closes (finish_of book s w)) (sym i.1)
      (closes s (book.closing name i.0) (of_type t (book.closing name i.0).gave (typed.closing i.0)))

  -- all that may come of it
  pub told_typed : (node : ℕ) (d : Decider) (os : List Outlook) → AllTyped t (of_work book node d (Some (plugged name [])) os).list
  told_typed node d os =
      whole_keeps IsIts (HasType t) (linear book (plugged name [])) Anything steps finishes (begin_work node d (plugged name [])) (head_of os) (record { gave = tt; state = ([], refl) }) (all_came (head_of os).list)

-- ---- the custom stages that a caller hands in

-- the first head of this name is that of a custom stage of that name
record Found {H : Type 0} (name : List ℕ) (customs : List (Custom H)) (s : CustomShape) : Type 0 where
  place : ℕ
  custom : Custom H
  there : slice_get customs place ≡ Some custom
  shape : head_shape custom.head ≡ s
  is : name ≡ custom.head.name

abbrev shapes_of : {H : Type 0} → List (Custom H) → List CustomShape
shapes_of customs = map (λ c. head_shape c.head) customs

first_or : {H : Type 0} (name : List ℕ) (c : Custom H) (cs : List (Custom H)) (s : CustomShape) (b : Bool) → same_text name c.head.name ≡ b
    → (if b then Some (head_shape c.head) else named (λ (x : CustomShape). x.name) name (shapes_of cs)) ≡ Some s → (named (λ (x : CustomShape). x.name) name (shapes_of cs) ≡ Some s → Found name cs s)
    → Found name (c ∷ cs) s
first_or name c cs s true is e next =
    let same : head_shape c.head ≡ s = cc in
    record { place = 0; custom = c; there = refl; shape = same; is = (bytes_decides name c.head.name).0 is }
first_or name c cs s false is e next =
    let f = next e in
    record { place = suc f.place; custom = f.custom; there = f.there; shape = f.shape; is = f.is }

found : {H : Type 0} (name : List ℕ) (customs : List (Custom H)) (s : CustomShape) → named (λ (x : CustomShape). x.name) name (shapes_of customs) ≡ Some s → Found name customs s
found name [] s e = absurd cc
found name (c ∷ cs) s e = first_or name c cs s (same_text name c.head.name) refl e (λ h. found name cs s h)

only_first : (output t : Sort) (p : ℕ) → slice_get (output ∷ []) p ≡ Some t → output ≡ t
only_first output t zero e = cc
only_first output t (suc p) e = absurd cc

handed_at : (book : Book) (name : List ℕ) (inputs outputs : List Sort) (tells : ToldList) (p : ℕ) (t : Sort) (b : Bool) → b ≡ true → HandedAs b book name inputs outputs tells → slice_get outputs p ≡ Some t
    → GivesTyped (listed (told_book book) name) t
handed_at book name inputs outputs tells p t true e h out =
    subst (GivesTyped (listed (told_book book) name)) (only_first h.output t p (ap (λ (l : List Sort). slice_get l p) (sym h.outputs_are) ∙ out)) h.typed
handed_at book name inputs outputs tells p t false e h out = absurd cc

-- they tell elements of their heads' types
pub handed_told : {L H : Type 0} (tells : H → ToldList) (book : Book) (plugs : List (Plug L)) (customs : List (Custom H)) → All (TellsAsListed tells book) customs → ToldTyped (handed_heads plugs customs) book
handed_told tells book plugs customs all name p t told out = by_head (custom_named (handed_heads plugs customs) name) refl out
  where
    by_head : (o : Option CustomShape) → custom_named (handed_heads plugs customs) name ≡ o → output_type o p ≡ Some t → GivesTyped (listed (told_book book) name) t
    by_head None e lacks = absurd cc
    by_head (Some s) e here =
        let f = found name customs s e in
        subst (λ (n : List ℕ). GivesTyped (listed (told_book book) n) t) (sym f.is)
        (handed_at book f.custom.head.name f.custom.head.inputs.items f.custom.head.outputs.items (tells f.custom.stage) p t (book.tells f.custom.head.name) (ap book.tells (sym f.is) ∙ told)
        (at_all (TellsAsListed tells book) customs f.place f.custom f.there all) (ap (λ (x : CustomShape). slice_get x.outputs p) f.shape ∙ here))
