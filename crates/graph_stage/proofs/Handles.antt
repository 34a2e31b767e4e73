-- A call of a custom stage, as the engine asks it of every stage.
use Rattle.std.specs.Prelude.{replicate, Result, Ok, Err, OnOk}
use Rattle.std.proofs.Common.{◌≡◌, ℕ, zero, suc, ◌+◌, ◌≤◌, List, [], ◌∷◌, ◌++◌, length, Option, None, Some, refl, sym, ap, ◌∙◌, subst, arith}
use Rattle.elem_core.specs.Sort.{Sort}
use Rattle.elem_core.specs.declared.item.Item.{Item}
use Rattle.elem_core.specs.declared.item.Item.TheVariants as item
use Rattle.port_core.specs.declared.act.Act.{Act}
use Rattle.port_core.specs.declared.act.Act.TheVariants as act
use Rattle.port_core.specs.View.{View, acted, ActsAllowed, acted_all}
use Rattle.port_core.specs.Call.{Call, starts, pulls, arrives, cancels, CallAllowed, seen, Obeys, Meets}
use Rattle.port_core.specs.Asking.{PullsStand}
use Rattle.port_core.specs.declared.view.InView.{InView}
use Rattle.port_core.specs.declared.view.OutView.{OutView}
use Rattle.port_core.proofs.Views.{ins_stay}
use Rattle.stream_model.specs.Linear.{Book}
use Rattle.graph_stage.specs.declared.sight.InSight.{InSight}
use Rattle.graph_stage.specs.declared.sight.OutSight.{OutSight}
use Rattle.stage_core.specs.Histories.{given_all, brought_by, AllEmpty}
use Rattle.stage_core.specs.Handling.{Starts, Handles}
use Rattle.stage_core.specs.Rooms.{acts_for, HasRoom}
use Rattle.graph_stage.specs.declared.ask.Ask.{Ask}
use Rattle.graph_stage.specs.declared.occasion.Occasion.{Occasion}
use Rattle.graph_stage.specs.OwnView.{Seen, sees_then, forbidden, acts_of, sees_behind, preceded_by, fails_by, by_code, carried_out}
use Rattle.graph_stage.specs.Ruled.{occasion_at}
use Rattle.graph_stage.specs.State.{CustomState, answered_as, RuledAs, IsCallable}
use Rattle.graph_stage.specs.Calls.{CallMade, IsLater}
use Rattle.graph_stage.specs.Room.{most_acts, FewPorts}
use Rattle.graph_stage.specs.Ports.{SeesIns, SeesOuts, Sees}
use Rattle.graph_stage.specs.Laws.{CustomFresh, CustomPortState, CustomLaw}
use Rattle.graph_stage.proofs.Rooms.{few_input, few_output, few_then, few_closed}
use Rattle.graph_stage.proofs.Calls.{ports_append, allowed_append, brought_append, given_append, begins_append, called_append}
use Rattle.graph_stage.proofs.Standing.{TakenBack, taken_back}
use Rattle.graph_stage.proofs.Sees.{Goes, heard, carried_goes}

-- ---- there stay as many ports

few_heard : (call : Call) (s : Seen) → FewPorts s → FewPorts (sees_then call s)
few_heard starts s f = f
few_heard (pulls j) s f = few_output s j _ f
few_heard (arrives i (item.Elem e)) s f = few_input s i _ f
few_heard (arrives i item.Ended) s f = few_input s i _ f
few_heard (arrives i (item.Failed c)) s f = few_input s i _ f
few_heard (cancels j) s f = few_output s j _ f

few_carried : (types : List Sort) (o : Occasion) (s : Seen) (asks : List Ask) → FewPorts s → FewPorts (carried_out types o s asks).sight
few_carried types o s [] f = f
few_carried types o s (a ∷ more) f = by (forbidden types o s a) (few_carried types o (sees_behind s a) more (few_then s a f))
  where
    by : (x : Option ℕ) → FewPorts (carried_out types o (sees_behind s a) more).sight → FewPorts (by_code x (preceded_by (acts_of o s a) (carried_out types o (sees_behind s a) more)) (fails_by o s)).sight
    by None g = g
    by (Some code) g = few_closed s f

-- ---- what is seen has as many ports as there are

sees_length : (vs : List InView) (xs : List InSight) → SeesIns vs xs → length vs ≡ length xs
sees_length [] [] h = refl
sees_length (v ∷ vs) (x ∷ xs) h = let r = sees_length vs xs h.1 in omega (arith, r)
sees_length [] (x ∷ xs) h = absurd h
sees_length (v ∷ vs) [] h = absurd h

sees_outs_length : (vs : List OutView) (ys : List OutSight) → SeesOuts vs ys → length vs ≡ length ys
sees_outs_length [] [] h = refl
sees_outs_length (v ∷ vs) (y ∷ ys) h = let r = sees_outs_length vs ys h.1 in omega (arith, r)
sees_outs_length [] (y ∷ ys) h = absurd h
sees_outs_length (v ∷ vs) [] h = absurd h

-- so room for two actions for each port that there is is room enough
room_seen : (v : View) (s : Seen) (n : ℕ) → Sees v s → acts_for v ≤ n → most_acts s ≤ n
room_seen v s n h r = let i = sees_length v.ins s.ins h.ins in let o = sees_outs_length v.outs s.outs h.outs in omega (arith, i, o, r)

pub room_before : (x : CustomState) (n : ℕ) → HasRoom starts (CustomFresh x) n → most_acts x.sight ≤ n
room_before x n h = room_seen h.0 x.sight n h.1.1.0.sees h.1.1.1

pub room_at : (call : Call) (x : CustomState) (n : ℕ) → HasRoom call (CustomPortState x) n → most_acts x.sight ≤ n
room_at call x n h = room_seen h.0 x.sight n h.1.1.0.sees h.1.1.1

ins_acted : (acts : List Act) (v : View) → length (acted_all v acts).ins ≡ length v.ins
ins_acted [] v = refl
ins_acted (a ∷ acts) v = ins_acted acts (acted v a) ∙ ins_stay v a

-- ---- a call

empty_is : (hs : List (List Item)) → AllEmpty hs → hs ≡ replicate (length hs) []
empty_is [] h = refl
empty_is (x ∷ hs) h = rw (h.0) (ap (λ (z : List (List Item)). [] ∷ z) (empty_is hs h.1))

module _ {b : Book} (call : Call) (old new : CustomState) (acts : List Act) (r : RuledAs b call old new acts) where
  goes_full : (v : View) → CallAllowed call v → Sees v old.sight → Goes (seen call v) (answered_as old call r.asks).acts new.sight
  goes_full v may sees =
      subst (λ (s : Seen). Goes (seen call v) (answered_as old call r.asks).acts s) (sym r.sight_is)
      (carried_goes old.types (occasion_at old.node old.taken call) (seen call v) (sees_then call old.sight) r.asks (heard call v old.sight may sees))

  back : (v : View) → CallAllowed call v → Sees v old.sight → TakenBack new.sight (seen call v) (answered_as old call r.asks).acts
  back v may sees =
      let g = goes_full v may sees in
      let seen_end : Sees (acted_all (seen call v) (answered_as old call r.asks).acts) new.sight = subst (λ (z : View). Sees z new.sight) (sym g.leads.is) g.sees in
      let many : length (seen call v).ins ≡ length new.sight.ins = sym (ins_acted (answered_as old call r.asks).acts (seen call v)) ∙ sees_length _ new.sight.ins seen_end.ins in
      taken_back new.sight (seen call v) (answered_as old call r.asks).acts many g.leads.allowed seen_end

  pub goes : (v : View) → CallAllowed call v → Sees v old.sight → Goes (seen call v) acts new.sight
  goes v may sees =
      let g = goes_full v may sees in
      let t = back v may sees in
      subst (λ (z : List Act). Goes (seen call v) z new.sight) (sym r.acts_are) (record { to = g.to; leads = record { allowed = t.allowed; is = t.is ∙ g.leads.is }; sees = g.sees })

  -- its ports are as it sees them once the actions are done
  pub sees_on : (v : View) → CallAllowed call v → Sees v old.sight → Sees (acted_all (seen call v) acts) new.sight
  sees_on v may sees = let g = goes v may sees in subst (λ (z : View). Sees z new.sight) (sym g.leads.is) g.sees

  pulls_kept : (v : View) → CallAllowed call v → Sees v old.sight → PullsStand acts
  pulls_kept v may sees = subst PullsStand (sym r.acts_are) (back v may sees).stands

  few : FewPorts old.sight → FewPorts new.sight
  few f = subst (λ (s : Seen). FewPorts s) (sym r.sight_is) (few_carried old.types (occasion_at old.node old.taken call) (sees_then call old.sight) r.asks (few_heard call old.sight f))

  stands : (v : View) → CallAllowed call v → Sees v old.sight → IsCallable old → CustomPortState new (acted_all (seen call v) acts)
  stands v may sees ready = record { sees = sees_on v may sees; ready = record { few = few ready.few; no_asks = r.no_asks; running = r.running_is } }

  law_kept : IsLater call → (first : CustomState) (v : View) (took gave : List (List Item)) → CallAllowed call v → CustomLaw b first old v took gave
      → CustomLaw b first new (acted_all (seen call v) acts) (brought_by call took) (given_all acts gave)
  law_kept later first v took gave may l =
      let c : CallMade = record { call = call; acts = acts; after = new } in
      record {
        calls = l.calls ++ c ∷ [];
        begin = l.begin;
        fresh = l.fresh;
        begins = begins_append l.calls c l.begins later;
        called = called_append first old l.calls c l.called r;
        allowed = allowed_append l.begin l.calls c l.allowed (subst (λ (z : View). CallAllowed call z) l.ports may);
        ports = ap (λ (z : View). acted_all (seen call z) acts) l.ports ∙ sym (ports_append l.begin l.calls c);
        took_is = ap (λ (z : List (List Item)). brought_by call z) l.took_is ∙ sym (brought_append l.calls c (replicate (length l.begin.ins) []));
        gave_is = ap (λ (z : List (List Item)). given_all acts z) l.gave_is ∙ sym (given_append l.calls c (replicate (length l.begin.outs) []));
      }

  pub handles : IsLater call → Meets call (CustomPortState old) → Handles CustomPortState (CustomLaw b) call old new acts
  handles later meets = record {
    obeys = record {
      allowed = λ v may p. (goes v may p.sees).leads.allowed;
      ports = λ v may p. stands v may p.sees p.ready;
    };
    stands = pulls_kept meets.0 meets.1.0 meets.1.1.sees;
    keeps = λ first v took gave may p l. law_kept later first v took gave may l;
  }

module _ {b : Book} (old new : CustomState) (acts : List Act) (r : RuledAs b starts old new acts) where
  -- the law of one call, the start
  law_begun : (v : View) (took gave : List (List Item)) → CallAllowed starts v → CustomFresh old v → AllEmpty took → AllEmpty gave → length took ≡ length v.ins → length gave ≡ length v.outs
      → CustomLaw b old new (acted_all v acts) took (given_all acts gave)
  law_begun v took gave may p no_took no_gave many_took many_gave =
      let c : CallMade = record { call = starts; acts = acts; after = new } in
      record {
        calls = c ∷ [];
        begin = v;
        fresh = p;
        begins = (refl, tt);
        called = (r, refl);
        allowed = (may, tt);
        ports = refl;
        took_is = empty_is took no_took ∙ ap (λ (n : ℕ). replicate n []) many_took;
        gave_is = ap (λ (z : List (List Item)). given_all acts z) (empty_is gave no_gave ∙ ap (λ (n : ℕ). replicate n []) many_gave);
      }

  pub begins : Meets starts (CustomFresh old) → Starts CustomPortState (CustomLaw b) CustomFresh old new acts
  begins meets = record {
    obeys = record {
      allowed = λ v may p. (goes starts old new acts r v may p.sees).leads.allowed;
      ports = λ v may p. stands starts old new acts r v may p.sees p.ready;
    };
    stands = pulls_kept starts old new acts r meets.0 meets.1.0 meets.1.1.sees;
    begins = λ v took gave may p no_took no_gave many_took many_gave. law_begun v took gave may p no_took no_gave many_took many_gave;
  }

pub handles_ok : (b : Book) {T E : Type 0} (call : Call) (old new : CustomState) (acts : List Act) (x : Result T E) → IsLater call
    → Meets call (CustomPortState old) → OnOk x (RuledAs b call old new acts) → OnOk x (Handles CustomPortState (CustomLaw b) call old new acts)
handles_ok b call old new acts (Ok t) later m r = handles call old new acts r later m
handles_ok b call old new acts (Err e) later m r = tt

pub starts_ok : (b : Book) {T E : Type 0} (old new : CustomState) (acts : List Act) (x : Result T E) → Meets starts (CustomFresh old)
    → OnOk x (RuledAs b starts old new acts) → OnOk x (Starts CustomPortState (CustomLaw b) CustomFresh old new acts)
starts_ok b old new acts (Ok t) m r = begins old new acts r m
starts_ok b old new acts (Err e) m r = tt
