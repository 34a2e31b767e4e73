-- What is seen from above of a custom stage, of its logic and of what it tells.
use Rattle.std.specs.Prelude.{Result, Ok, Err, OnOk, IfOk, replicate}
use Rattle.std.proofs.Common.{◌≡◌, ℕ, zero, suc, Bool, true, false, List, [], ◌∷◌, ◌++◌, length, Option, None, Some, refl, sym, ap, ◌∙◌, subst, append_assoc}
use Rattle.elem_core.specs.Sort.{Sort}
use Rattle.elem_core.specs.Tree.{Tree}
use Rattle.elem_core.specs.declared.item.Item.TheVariants as item
use Rattle.port_core.specs.declared.act.Act.{Act}
use Rattle.port_core.specs.Call.{Call, starts, pulls, arrives, cancels}
use Rattle.port_core.specs.View.{View}
use Rattle.port_core.specs.declared.view.InView.TheVariants.{Idle}
use Rattle.port_core.specs.declared.view.OutView.TheVariants.{Unpulled}
use Rattle.stream_model.specs.Linear.{Book, told_book}
use Rattle.plug_logic.specs.Gives.{Gives, after, listed}
use Rattle.stage_linear.specs.Plugs.{Is}
use Rattle.stage_linear.specs.declared.course.Course.{Course}
use Rattle.stage_linear.specs.declared.course.Course.TheVariants.{Waits, Idles, Leaves, Closes, Ends}
use Rattle.graph_stage.specs.declared.ask.Ask.{Ask}
use Rattle.graph_stage.specs.declared.logic.CustomLogic.{CustomLogic}
use Rattle.graph_stage.specs.Lifted.{Telling, not_begun, may_reply, lifted_asks, lifted_to, gives_then}
use Rattle.graph_stage.specs.Told.{ToldList, no_list, list_of, TellsOn, ListsOn, telling_by, telling_in, took_by, TellsAs, TellsListed, TellsAtFirst, HandedAs}
use Rattle.graph_stage.specs.OwnView.{Called}
use Rattle.graph_stage.specs.Ruled.{IsReadyForCall, Ruled}
use Rattle.graph_stage.specs.State.{CustomState, shown, ListsAs, AsksAs, RuledAs, IsCallable}
use Rattle.graph_stage.specs.Laws.{BeginsToTell, CustomFresh}
use Rattle.graph_stage.specs.Making.{unpulled_view, IsNewLogic}

-- ---- what is left of a list behind a call

-- the same behind one more
one_more_took : (p q : Gives) (took : List Tree) (t : Tree) → Is p took q → Is (after p t) (took ++ t ∷ []) q
one_more_took p q took t h = record {
  reply = λ rest u. ap (λ (l : List Tree). q.reply l u) (append_assoc took (t ∷ []) rest) ∙ h.reply (t ∷ rest) u;
  closing = λ rest. ap q.closing (append_assoc took (t ∷ []) rest) ∙ h.closing (t ∷ rest);
}

is_then : (p q : Gives) (took : List Tree) (call : Call) → Is p took q → Is (gives_then p call) (took_by took call) q
is_then p q took starts h = h
is_then p q took (pulls j) h = h
is_then p q took (arrives i (item.Elem t)) h = one_more_took p q took t h
is_then p q took (arrives i item.Ended) h = h
is_then p q took (arrives i (item.Failed c)) h = h
is_then p q took (cancels j) h = h

-- one that is over stays so
stays_over : (p : Gives) (held : List Tree) (c : Course) (call : Call) → may_reply c ≡ false → may_reply (lifted_to p (record { pending = held; course = c }) call).course ≡ false
stays_over p held Waits call e = cc
stays_over p held Idles call e = cc
stays_over p held Closes call e = cc
stays_over p held Leaves starts e = refl
stays_over p [] Leaves (pulls j) e = refl
stays_over p (t ∷ []) Leaves (pulls j) e = refl
stays_over p (t ∷ u ∷ l) Leaves (pulls j) e = refl
stays_over p held Leaves (arrives i (item.Elem t)) e = refl
stays_over p [] Leaves (arrives i item.Ended) e = refl
stays_over p (t ∷ l) Leaves (arrives i item.Ended) e = refl
stays_over p held Leaves (arrives i (item.Failed c)) e = refl
stays_over p held Leaves (cancels j) e = refl
stays_over p held Ends starts e = refl
stays_over p [] Ends (pulls j) e = refl
stays_over p (t ∷ []) Ends (pulls j) e = refl
stays_over p (t ∷ u ∷ l) Ends (pulls j) e = refl
stays_over p held Ends (arrives i (item.Elem t)) e = refl
stays_over p [] Ends (arrives i item.Ended) e = refl
stays_over p (t ∷ l) Ends (arrives i item.Ended) e = refl
stays_over p held Ends (arrives i (item.Failed c)) e = refl
stays_over p held Ends (cancels j) e = refl

went_on : (p : Gives) (s : Telling) (call : Call) (on : Bool) → may_reply s.course ≡ on → may_reply (lifted_to p s call).course ≡ true → may_reply s.course ≡ true
went_on p s call true e h = e
went_on p s call false e h = let over_then : may_reply (lifted_to p s call).course ≡ false = stays_over p s.pending s.course call e in cc

-- ---- what a stage tells behind a call

module _ (b : Book) (name : List ℕ) (types : List Sort) (took : List Tree) (call : Call) (asks : List Ask) (t u : ToldList) where
  abbrev Owes : TellsListed b name types took t → TellsOn call t asks u → Type 0
  Owes h o = ListsOn h.gives h.telling call asks u

  owes : (h : TellsListed b name types took t) (o : TellsOn call t asks u) → Owes h o
  owes h o = subst (λ (z : ToldList). TellsOn call z asks u) h.is o

  told_then : TellsListed b name types took t → TellsOn call t asks u → TellsListed b name types (took_by took call) u
  told_then h o =
      let k : ListsOn h.gives h.telling call asks u = owes h o in
      record {
        gives = k.left;
        telling = lifted_to h.gives h.telling call;
        output = h.output;
        is = k.stands;
        follows =
            λ e. subst (λ (z : Gives). Is z (took_by took call) (listed (told_book b) name)) (sym (k.follows e))
            (is_then h.gives (listed (told_book b) name) took call (h.follows (went_on h.gives h.telling call (may_reply h.telling.course) refl e)));
        types_are = h.types_are;
        typed = h.typed;
      }

  pub tells_then : (v : Bool) → TellsAs v b name types took t → TellsOn call t asks u → TellsAs v b name types (took_by took call) u
  tells_then true h o = told_then h o
  tells_then false h o = tt

  module _ (old new : CustomState) (old_name : old.name ≡ name) (old_types : old.types ≡ types) (old_took : old.took ≡ took) where
    lists_as : old.telling ≡ telling_in t → new.telling ≡ telling_in u → TellsListed b name types took t → TellsOn call t asks u → ListsAs b call old new asks
    lists_as i j h o =
        let k : ListsOn h.gives h.telling call asks u = owes h o in
        record {
          gives = h.gives;
          stood = h.telling;
          output = h.output;
          is = i ∙ ap telling_in h.is;
          follows = λ e. rw (old_took, old_name) (h.follows e);
          asked = k.asked;
          stands = j ∙ ap telling_in k.stands;
          types_are = old_types ∙ h.types_are;
          typed = rw old_name h.typed;
        }

    pub asks_as : (v : Bool) → old.telling ≡ telling_by v t → new.telling ≡ telling_by v u → TellsAs v b name types took t → TellsOn call t asks u → AsksAs v b call old new asks
    asks_as true i j h o = lists_as i j h o
    asks_as false i j h o = tt

-- ---- a call of the logic is one of the stage

module _ {H : Type 0} (does : H → Called → List Ask → H → Type 0) (tells : H → ToldList) where
  pub ready_logic : (x : CustomLogic H) (telling : Option Telling) (running : Bool) → IsCallable (shown x telling running) → IsReadyForCall x
  ready_logic x telling running r = record { few = r.few; no_asks = r.no_asks }

  -- what the book has of the name of a stage, and what that tells
  abbrev pub Follows : Book → CustomLogic H → Type 0
  Follows b x = TellsAs (b.tells x.name) b x.name x.types.items x.took.items (tells x.handlers)

  -- how it stands then
  abbrev pub stands_by : Book → CustomLogic H → Option Telling
  stands_by b x = telling_by (b.tells x.name) (tells x.handlers)

  module _ (b : Book) (call : Call) (old new : CustomLogic H) (ran : Bool) (acts : List Act) where
    ruled_as : Follows b old → Ruled does tells call old new acts → RuledAs b call (shown old (stands_by b old) ran) (shown new (stands_by b new) true) acts
    ruled_as f r = record {
      asks = r.asks;
      told =
          asks_as b old.name old.types.items old.took.items call r.asks (tells old.handlers) (tells new.handlers) (shown old (stands_by b old) ran) (shown new (stands_by b new) true) refl refl refl (b.tells old.name) refl
          (ap (λ (n : List ℕ). telling_by (b.tells n) (tells new.handlers)) r.name_stays) f r.told;
      asked_is = r.asked_is;
      last = r.last;
      last_is = r.last_is;
      done_is = r.done_is;
      acts_are = r.acts_are;
      sight_is = r.sight_is;
      taken_is = r.taken_is;
      took_is = r.took_is;
      name_stays = r.name_stays;
      running_is = refl;
      node_stays = r.node_stays;
      types_stay = r.types_stay;
      no_asks = r.no_asks;
    }

    follows_on : Follows b old → Ruled does tells call old new acts → Follows b new
    follows_on f r =
        rw (r.name_stays, r.types_stay, r.took_is)
        (tells_then b old.name old.types.items old.took.items call r.asks (tells old.handlers) (tells new.handlers) (b.tells old.name) f r.told)

    pub ruled_ok : {T E : Type 0} (x : Result T E) → Follows b old → OnOk x (Ruled does tells call old new acts)
        → OnOk x (RuledAs b call (shown old (stands_by b old) ran) (shown new (stands_by b new) true) acts)
    ruled_ok (Ok t) f r = ruled_as f r
    ruled_ok (Err e) f r = tt

    pub follows_ok : {T E : Type 0} (x : Result T E) → Follows b old → OnOk x (Ruled does tells call old new acts) → OnOk x (Follows b new)
    follows_ok (Ok t) f r = follows_on f r
    follows_ok (Err e) f r = tt

-- ---- before its start

module _ (b : Book) (name : List ℕ) (ins outs : List Sort) (t : ToldList) where
  begins_told : TellsAtFirst b name ins outs t → BeginsToTell (telling_in t) (unpulled_view (length ins) (length outs))
  begins_told h =
      let many_ins : length ins ≡ 1 = ap length h.inputs_are in
      let many_outs : length outs ≡ 1 = ap length h.outputs_are in
      subst (λ (z : ToldList). BeginsToTell (telling_in z) (unpulled_view (length ins) (length outs))) (sym h.is)
      (refl, (ap (λ (n : ℕ). replicate n Idle) many_ins, ap (λ (n : ℕ). replicate n Unpulled) many_outs))

  pub begins_by : (v : Bool) → HandedAs v b name ins outs t → BeginsToTell (telling_by v t) (unpulled_view (length ins) (length outs))
  begins_by true h = begins_told h
  begins_by false h = tt

  follows_first : TellsAtFirst b name ins outs t → TellsListed b name outs [] t
  follows_first h = record { gives = h.gives; telling = not_begun; output = h.output; is = h.is; follows = λ e. h.follows; types_are = h.outputs_are; typed = h.typed }

  pub follows_new : (v : Bool) → HandedAs v b name ins outs t → TellsAs v b name outs [] t
  follows_new true h = follows_first h
  follows_new false h = tt

pub fresh_ok : {H : Type 0} (x : CustomLogic H) (v : View) (telling : Option Telling) → IsNewLogic x v → BeginsToTell telling v → CustomFresh (shown x telling true) v
fresh_ok x v telling m t = record {
  sees = m.sees;
  ready = record { few = m.ready.few; no_asks = m.ready.no_asks; running = refl };
  begins = t;
  none_taken = m.none_taken;
  none_took = m.none_took;
  no_calls = m.no_calls;
  none_done = m.none_done;
}
