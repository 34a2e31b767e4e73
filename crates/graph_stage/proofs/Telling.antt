-- A stage that tells a list keeps the law of the stage of the plug that gives it.
use Rattle.std.specs.Prelude.{replicate, ◌&&◌}
use Rattle.std.proofs.Common.{◌≡◌, ℕ, zero, suc, Bool, true, false, List, [], ◌∷◌, ◌++◌, length, Option, None, Some, refl, sym, ap, ◌∙◌, subst, arith}
use Rattle.elem_core.specs.Sort.{Sort}
use Rattle.elem_core.specs.Tree.{Tree}
use Rattle.elem_core.specs.declared.item.Item.{Item}
use Rattle.elem_core.specs.declared.why.Decider.{Decider}
use Rattle.port_core.specs.declared.act.Act.{Act}
use Rattle.port_core.specs.declared.view.InView.{InView}
use Rattle.port_core.specs.declared.view.InView.TheVariants.{Idle}
use Rattle.port_core.specs.declared.view.OutView.{OutView}
use Rattle.port_core.specs.declared.view.OutView.TheVariants.{Unpulled}
use Rattle.port_core.specs.Call.{Call, starts, pulls, arrives, cancels, CallAllowed, seen}
use Rattle.port_core.specs.View.{View, ActsAllowed, acted_all, OneOneOf}
use Rattle.stream_model.specs.declared.kind.Kind.TheVariants as kind
use Rattle.stream_model.specs.Linear.{Book, told_book, plugged}
use Rattle.stage_core.specs.Histories.{given_all, brought_by, AllEmpty}
use Rattle.stage_core.proofs.OneOnes.{at_first, first_port}
use Rattle.stage_core.specs.declared.phase.Phase.{Phase}
use Rattle.stage_core.specs.declared.phase.Phase.TheVariants.{New, Open}
use Rattle.stage_linear.specs.States.{Logic, port_state, port_state_in, Turned, Begins}
use Rattle.stage_linear.specs.Handling.{LinearLaw, LinearPortState}
use Rattle.stage_linear.proofs.Handling.{law_after, fresh_law}
use Rattle.stage_linear.proofs.Rows.{called_open}
use Rattle.graph_stage.specs.declared.ask.Ask.{Ask}
use Rattle.graph_stage.specs.declared.sight.InSight.{InSight}
use Rattle.graph_stage.specs.declared.sight.OutSight.{OutSight}
use Rattle.graph_stage.specs.OwnView.{Seen, Outcome, sees_then, carried_out}
use Rattle.graph_stage.specs.Ports.{SeesIns, SeesOuts, Sees}
use Rattle.graph_stage.specs.Standing.{without_taken_back}
use Rattle.graph_stage.specs.Ruled.{occasion_at, taken_by}
use Rattle.graph_stage.specs.Told.{AllOfType, took_by}
use Rattle.graph_stage.specs.Lifted.{Telling, not_begun, may_reply, lifted_asks, lifted_to}
use Rattle.graph_stage.specs.State.{CustomState, answered_as, ListsAs, AsksAs, RuledAs}
use Rattle.graph_stage.specs.Calls.{CallMade, IsLater, AllLater, BeginsOnce, ports_behind, CallsAllowed, brought_by_calls, given_by_calls, CalledOn}
use Rattle.graph_stage.specs.Laws.{BeginsToTell, CustomFresh, CustomLaw}
use Rattle.graph_stage.specs.Plugged.{phase_by, phase_in, telling_or, as_plug}
use Rattle.graph_stage.proofs.Handles.{goes, sees_on}
use Rattle.graph_stage.proofs.Shapes.{ports, sight, Shape, shape_at, fresh_sight}
use Rattle.graph_stage.proofs.Plugging.{plug, closed_both, Comes, outcome, begun, steps, typed_then}

not_start : (call : Call) → IsLater call → call ≡ starts → ⊥
not_start call later e = subst IsLater e later

later_phase : (asked : List (List Ask)) (a : List Ask) (s : Seen) (b : Book) (d : Decider) (k : ℕ) (n : List ℕ) (o : Sort) → phase_in (asked ++ a ∷ []) s ≡ phase_by (closed_both b d k n o s)
later_phase [] a s b d k n o = refl
later_phase (x ∷ asked) a s b d k n o = refl

module _ (b : Book) (d : Decider) where
  -- a stage that tells a list and was started: it stands as that of a plug
  pub record Plugs (x : CustomState) (v : View) : Type 0 where
    pub sees : Sees v x.sight
    pub stands : port_state (as_plug d x) v
    pub started : (as_plug d x).phase ≡ New → ⊥
    pub named : b.tells x.name ≡ true
    pub typed : (k : Sort) → x.types ≡ k ∷ [] → AllOfType k (telling_or x.telling).pending

  -- as it stands, by its parts
  parts : (x : CustomState) (k : Sort) (ph : Phase) (t : Telling) → (as_plug d x).phase ≡ ph → x.telling ≡ Some t → as_plug d x ≡ plug b d x.node x.name k ph x.taken x.took t
  parts x k ph t i e =
      ap (λ (z : Phase). record {
        phase = z;
        stage = record { node = x.node; decider = d; taken = x.taken; work = plugged x.name x.took };
        pending = (telling_or x.telling).pending;
        course = (telling_or x.telling).course;
        ready = may_reply (telling_or x.telling).course;
      }) i
      ∙ ap (λ (z : Option Telling). record {
        phase = ph;
        stage = record { node = x.node; decider = d; taken = x.taken; work = plugged x.name x.took };
        pending = (telling_or z).pending;
        course = (telling_or z).course;
        ready = may_reply (telling_or z).course;
      }) e

  -- ---- one call

  module _ (call : Call) (x y : CustomState) (acts : List Act) (r : RuledAs b call x y acts) (named : b.tells x.name ≡ true) where
    pub lists : ListsAs b call x y r.asks
    lists = subst (λ (z : Bool). AsksAs z b call x y r.asks) named r.told

    abbrev to : Telling
    to = lifted_to lists.gives lists.stood call

    abbrev result : Outcome
    result = outcome b d x.node x.name lists.output x.taken call x.sight (lifted_asks lists.gives lists.stood call)

    result_is : answered_as x call r.asks ≡ result
    result_is =
        ap (λ (z : List Sort). carried_out z (occasion_at x.node x.taken call) (sees_then call x.sight) r.asks) lists.types_are
        ∙ ap (λ (z : List Ask). carried_out (lists.output ∷ []) (occasion_at x.node x.taken call) (sees_then call x.sight) z) lists.asked

    sight_is : y.sight ≡ result.sight
    sight_is = r.sight_is ∙ ap (λ (z : Outcome). z.sight) result_is

    acts_is : acts ≡ without_taken_back result.sight result.acts
    acts_is = r.acts_are ∙ ap (λ (z : Seen). without_taken_back z (answered_as x call r.asks).acts) sight_is ∙ ap (λ (z : Outcome). without_taken_back result.sight z.acts) result_is

    abbrev new : Logic
    new = plug b d x.node x.name lists.output (phase_by (closed_both b d x.node x.name lists.output result.sight)) (taken_by x.taken call) (took_by x.took call) to

    new_is : as_plug d y ≡ new
    new_is =
        parts y lists.output (phase_by (closed_both b d x.node x.name lists.output result.sight)) to
        (ap (λ (z : List (List Ask)). phase_in z y.sight) r.asked_is ∙ later_phase x.asked r.asks y.sight b d x.node x.name lists.output
        ∙ ap (λ (z : Seen). phase_by (closed_both b d x.node x.name lists.output z)) sight_is) lists.stands
        ∙ ap (λ (z : ℕ). plug b d z y.name lists.output (phase_by (closed_both b d x.node x.name lists.output result.sight)) y.taken y.took to) r.node_stays
        ∙ ap (λ (z : List ℕ). plug b d x.node z lists.output (phase_by (closed_both b d x.node x.name lists.output result.sight)) y.taken y.took to) r.name_stays
        ∙ ap (λ (z : ℕ). plug b d x.node x.name lists.output (phase_by (closed_both b d x.node x.name lists.output result.sight)) z y.took to) r.taken_is
        ∙ ap (λ (z : List Tree). plug b d x.node x.name lists.output (phase_by (closed_both b d x.node x.name lists.output result.sight)) (taken_by x.taken call) z to) r.took_is

    module _ (v : View) (old : Logic) (old_is : as_plug d x ≡ old) (c : Comes b d x.node x.name lists.output call v old (taken_by x.taken call) (took_by x.took call) to result) where
      pub turned : Turned (told_book b) call (as_plug d x) acts (as_plug d y)
      turned =
          subst (λ (z : Logic). Turned (told_book b) call z acts (as_plug d y)) (sym old_is)
          (subst (λ (z : List Act). Turned (told_book b) call old z (as_plug d y)) (sym acts_is)
          (subst (λ (z : Logic). Turned (told_book b) call old (without_taken_back result.sight result.acts) z) (sym new_is) c.turned))

      stands_then : port_state (as_plug d y) (acted_all (seen call v) acts)
      stands_then =
          subst (λ (z : List Act). port_state (as_plug d y) (acted_all (seen call v) z)) (sym acts_is)
          (subst (λ (z : Logic). port_state z (acted_all (seen call v) (without_taken_back result.sight result.acts))) (sym new_is) c.stands)

      pub plugs_then : CallAllowed call v → Sees v x.sight → AllOfType lists.output (telling_or x.telling).pending → Plugs y (acted_all (seen call v) acts)
      plugs_then may sees typed = record {
        sees = sees_on call x y acts r v may sees;
        stands = stands_then;
        started = turned.started;
        named = ap b.tells r.name_stays ∙ named;
        typed = λ k e. subst (λ (z : Option Telling). AllOfType k (telling_or z).pending) (sym lists.stands) (typed_in k (sym e ∙ r.types_stay ∙ lists.types_are));
      }
        where
          held : AllOfType lists.output lists.stood.pending
          held = subst (λ (z : Option Telling). AllOfType lists.output (telling_or z).pending) lists.is typed

          typed_in : (k : Sort) → k ∷ [] ≡ lists.output ∷ [] → AllOfType k to.pending
          typed_in k e =
              let same : lists.output ≡ k = cc in
              subst (λ (z : Sort). AllOfType z to.pending) same
              (typed_then b d x.node x.name lists.output x.taken x.took lists.gives lists.typed call lists.stood.pending lists.stood.course lists.follows held)

      pub law_then : (first : Logic) (took gave : List (List Item)) → port_state (as_plug d x) v → CallAllowed call v → Sees v x.sight → LinearLaw (told_book b) first (as_plug d x) v took gave
          → LinearLaw (told_book b) first (as_plug d y) (acted_all (seen call v) acts) (brought_by call took) (given_all acts gave)
      law_then first took gave stands may sees law = law_after (told_book b) call first (as_plug d x) (as_plug d y) v acts took gave stands may (goes call x y acts r v may sees).leads.allowed turned law

  -- ---- a call behind the start

  module _ (call : Call) (x y : CustomState) (acts : List Act) (r : RuledAs b call x y acts) (later : IsLater call) (v : View) (may : CallAllowed call v) (k : Plugs x v) where
    abbrev its : ListsAs b call x y r.asks
    its = lists call x y acts r k.named

    abbrev old : Logic
    old = plug b d x.node x.name its.output Open x.taken x.took its.stood

    old_is : as_plug d x ≡ old
    old_is = parts x its.output Open its.stood (called_open (as_plug d x) call v k.started (not_start call later) may k.stands) its.is

    old_stands : port_state old v
    old_stands = subst (λ (z : Logic). port_state z v) old_is k.stands

    comes : Comes b d x.node x.name its.output call v old (taken_by x.taken call) (took_by x.took call) (lifted_to its.gives its.stood call)
        (outcome b d x.node x.name its.output x.taken call x.sight (lifted_asks its.gives its.stood call))
    comes =
        steps b d x.node x.name its.output x.taken x.took its.gives its.typed its.stood.pending its.stood.course v x.sight its.follows
        (subst (λ (z : Option Telling). AllOfType its.output (telling_or z).pending) its.is (k.typed its.output its.types_are)) call later
        (first_port (port_state_in Open its.stood.course its.stood.pending (plugged x.name x.took) (may_reply its.stood.course)) call v may old_stands)
        (shape_at x.name x.took (may_reply its.stood.course) its.stood.pending its.stood.course v x.sight old_stands k.sees) may

    pub plugs_on : Plugs y (acted_all (seen call v) acts)
    plugs_on = plugs_then call x y acts r k.named v old old_is comes may k.sees (k.typed its.output its.types_are)

    pub law_on : (first : Logic) (took gave : List (List Item)) → LinearLaw (told_book b) first (as_plug d x) v took gave
        → LinearLaw (told_book b) first (as_plug d y) (acted_all (seen call v) acts) (brought_by call took) (given_all acts gave)
    law_on first took gave law = law_then call x y acts r k.named v old old_is comes first took gave k.stands may k.sees law

  laws_on : (first : Logic) (x now : CustomState) (calls : List CallMade) (v : View) (took gave : List (List Item)) → Plugs x v → LinearLaw (told_book b) first (as_plug d x) v took gave
      → CalledOn b x calls now → CallsAllowed v calls → AllLater calls
      → LinearLaw (told_book b) first (as_plug d now) (ports_behind v calls) (brought_by_calls calls took) (given_by_calls calls gave) × Plugs now (ports_behind v calls)
  laws_on first x now [] v took gave k law on may later =
      subst (λ (z : CustomState). LinearLaw (told_book b) first (as_plug d z) v took gave × Plugs z v) (sym on) (law, k)
  laws_on first x now (c ∷ calls) v took gave k law on may later =
      laws_on first c.after now calls (acted_all (seen c.call v) c.acts) (brought_by c.call took) (given_all c.acts gave)
      (plugs_on c.call x c.after c.acts on.0 later.0 v may.0 k) (law_on c.call x c.after c.acts on.0 later.0 v may.0 k first took gave law) on.1 may.1 later.1

  -- ---- the start

  module _ (x y : CustomState) (acts : List Act) (r : RuledAs b starts x y acts) (v : View) (fresh : CustomFresh x v) (may : CallAllowed starts v) (named : b.tells x.name ≡ true) where
    abbrev first_lists : ListsAs b starts x y r.asks
    first_lists = lists starts x y acts r named

    begins : BeginsToTell (Some first_lists.stood) v
    begins = subst (λ (z : Option Telling). BeginsToTell z v) first_lists.is fresh.begins

    telling_is : x.telling ≡ Some not_begun
    telling_is = first_lists.is ∙ ap (λ (z : Telling). Some z) begins.0

    view_is : v ≡ ports Idle Unpulled
    view_is = rw (sym begins.1.0, sym begins.1.1) refl

    abbrev new_plug : Logic
    new_plug = plug b d x.node x.name first_lists.output New x.taken x.took not_begun

    new_plug_is : as_plug d x ≡ new_plug
    new_plug_is = parts x first_lists.output New not_begun (ap (λ (z : List (List Ask)). phase_in z x.sight) fresh.no_calls) telling_is

    begun_sight : x.sight ≡ sight false false false false
    begun_sight = fresh_sight x.sight (subst (λ (z : View). Sees z x.sight) view_is fresh.sees)

    abbrev result_then : Telling → Outcome
    result_then t = outcome b d x.node x.name first_lists.output x.taken starts x.sight (lifted_asks first_lists.gives t starts)

    begun_comes : Comes b d x.node x.name first_lists.output starts v new_plug x.taken x.took first_lists.stood (result_then first_lists.stood)
    begun_comes =
        subst (λ (z : Telling). Comes b d x.node x.name first_lists.output starts v new_plug x.taken x.took z (result_then z)) (sym begins.0)
        (subst (λ (z : View). Comes b d x.node x.name first_lists.output starts z new_plug x.taken x.took not_begun (record { acts = []; sight = x.sight })) (sym view_is)
        (subst (λ (z : Seen). Comes b d x.node x.name first_lists.output starts (ports Idle Unpulled) new_plug x.taken x.took not_begun (record { acts = []; sight = z })) (sym begun_sight)
        (begun b d x.node x.name first_lists.output x.taken x.took)))

    first_stands : port_state (as_plug d x) v
    first_stands = subst (λ (z : Logic). port_state z v) (sym new_plug_is) (rw view_is refl)

    pub plugs_begun : Plugs y (acted_all v acts)
    plugs_begun = plugs_then starts x y acts r named v new_plug new_plug_is begun_comes may fresh.sees (subst (λ (z : Option Telling). AllOfType first_lists.output (telling_or z).pending) (sym telling_is) tt)

    none_came : (n : ℕ) → AllEmpty (replicate n [])
    none_came zero = tt
    none_came (suc n) = (refl, none_came n)

    many : {A : Type 0} (n : ℕ) (z : A) → length (replicate n z) ≡ n
    many zero z = refl
    many (suc n) z = let q = many n z in omega (arith, q)

    abbrev took : List (List Item)
    took = replicate (length v.ins) []

    abbrev gave : List (List Item)
    gave = replicate (length v.outs) []

    pub law_begun : LinearLaw (told_book b) (as_plug d x) (as_plug d y) (acted_all v acts) took (given_all acts gave)
    law_begun =
        law_then starts x y acts r named v new_plug new_plug_is begun_comes (as_plug d x) took gave first_stands may fresh.sees
        (fresh_law (told_book b) (as_plug d x) v took gave (record { phase = ap (λ (z : Logic). z.phase) new_plug_is; ports = first_stands }) (none_came (length v.ins)) (none_came (length v.outs)) (many (length v.ins) []) (many (length v.outs) []))

    pub begins_as : Begins x.node (kind.Plug x.name) d (as_plug d x)
    begins_as =
        subst (λ (z : Logic). Begins x.node (kind.Plug x.name) d z) (sym new_plug_is)
        (rw (fresh.none_taken, fresh.none_took) (record { phase = refl; work = refl; owes = λ c. refl; ready = refl }))

  -- ---- over all its calls

  pub record IsPlug (first now : CustomState) (v : View) (took gave : List (List Item)) : Type 0 where
    pub begins : Begins first.node (kind.Plug first.name) d (as_plug d first)
    pub law : LinearLaw (told_book b) (as_plug d first) (as_plug d now) v took gave
    pub stands : LinearPortState (as_plug d now) v

  by_calls : (first now : CustomState) (calls : List CallMade) (v : View) → CustomFresh first v → b.tells first.name ≡ true → BeginsOnce calls → CalledOn b first calls now → CallsAllowed v calls
      → IsPlug first now (ports_behind v calls) (brought_by_calls calls (replicate (length v.ins) [])) (given_by_calls calls (replicate (length v.outs) []))
  by_calls first now [] v fresh named once on may = absurd once
  by_calls first now (c ∷ calls) v fresh named once on may = by_start c.call c.acts c.after once.0 on.0 may.0 on.1 may.1
    where
      by_start : (call : Call) (acts : List Act) (y : CustomState) → call ≡ starts → RuledAs b call first y acts → CallAllowed call v → CalledOn b y calls now → CallsAllowed (acted_all (seen call v) acts) calls
          → IsPlug first now (ports_behind (acted_all (seen call v) acts) calls) (brought_by_calls calls (brought_by call (replicate (length v.ins) []))) (given_by_calls calls (given_all acts (replicate (length v.outs) [])))
      by_start starts acts y is r here then others =
          let all = laws_on (as_plug d first) y now calls (acted_all v acts) (replicate (length v.ins) []) (given_all acts (replicate (length v.outs) [])) (plugs_begun first y acts r v fresh here named)
          (law_begun first y acts r v fresh here named) then others once.1 in
          record { begins = begins_as first y acts r v fresh here named; law = all.0; stands = record { started = all.1.started; ports = all.1.stands } }
      by_start (pulls j) acts y is r here then others = cc
      by_start (arrives i z) acts y is r here then others = cc
      by_start (cancels j) acts y is r here then others = cc

  pub is_plug : (first now : CustomState) (v : View) (took gave : List (List Item)) → b.tells first.name ≡ true → CustomLaw b first now v took gave → IsPlug first now v took gave
  is_plug first now v took gave named l = rw (l.ports, l.took_is, l.gave_is) (by_calls first now l.calls l.begin l.fresh named l.begins l.called l.allowed)
