-- What the custom stages of a run failed with that tell no list was of their own, or came to them.
use Rattle.std.specs.Prelude.{slice_get}
use Rattle.std.proofs.Common.{◌≡◌, ◌⊎◌, inl, inr, ℕ, zero, suc, ◌+◌, ◌<◌, true, List, [], ◌∷◌, length, Some, refl, sym, ap, ◌∙◌, subst, arith}
use Rattle.elem_core.specs.Tree.{Tree}
use Rattle.elem_core.specs.declared.item.Item.{Item}
use Rattle.elem_core.specs.declared.item.Item.TheVariants as item
use Rattle.elem_core.specs.declared.why.Cause.{Cause}
use Rattle.fused_net.proofs.Reading.{some_same}
use Rattle.graph_stage.proofs.Failing.{failures_lead}
use Rattle.graph_stage.proofs.Passing.{inputs_pass}
use Rattle.graph_stage.specs.Failing.{HasFailed, AnyFailed}
use Rattle.graph_stage.specs.Laws.{CustomLaw}
use Rattle.graph_stage.specs.State.{CustomState}
use Rattle.port_core.specs.Reading.{sent_of}
use Rattle.port_core.specs.View.{View}
use Rattle.stage_core.specs.Held.{told}
use Rattle.stream_io.specs.State.{SourceState, DrainState}
use Rattle.stream_model.proofs.Arising.{AnyCause, any_came}
use Rattle.stream_model.specs.Blame.{HasCause, IsCustomWhy, ComesIn, GivenLeads}
use Rattle.stream_model.specs.Composed.{inputs_of, count_from, ports_of, composed, IsRanked}
use Rattle.stream_model.specs.Graph.{Graph, Edge}
use Rattle.stream_model.specs.Graph as graph
use Rattle.stream_model.specs.Linear.{Book}
use Rattle.stream_model.specs.Listed.{tells_none}
use Rattle.stream_model.specs.Node.{World}
use Rattle.stream_model.specs.Outlook.{Outlook, Entry, End, unended, ended, failed, Agrees, Allows}
use Rattle.stream_model.specs.View.{outputs_of}
use Rattle.stream_model.specs.declared.kind.Kind.{Kind}
use Rattle.stream_model.specs.declared.kind.Kind.TheVariants as kind
use Rattle.nodes.specs.declared.node.IslandNode.{IslandNode}
use Rattle.nodes.specs.declared.node.IslandNode.TheVariants.{Custom, Entering, Leaving}
use Rattle.nodes.specs.Nodes.{node_law}
use Rattle.run_laws.specs.Account.{Account, knows, took, gave}
use Rattle.run_laws.specs.Items.{MayPass, AllMayPass, IsToldList, fails_so, list_of, end_of_items, passed_so}
use Rattle.run_laws.specs.Made.{FirstCustom, FirstOf}
use Rattle.run_laws.specs.Runs.{IsRun}
use Rattle.run_laws.specs.Telling.{TellsGave, TellsCustoms, WorldTells}
use Rattle.run_laws.proofs.Agreeing.{read_there}
use Rattle.run_laws.proofs.CustomRows.{custom_there}
use Rattle.run_laws.proofs.Customs.{node_is, gave_is}
use Rattle.run_laws.proofs.OutlookAgreeing.{every_input_of}

abbrev as_custom : {S D L H B : Type 0} → CustomState → IslandNode S D L H B
as_custom x = Custom x

-- ---- one history

same_failure : (c d : Cause) → item.Failed c ≡ item.Failed d → c ≡ d
same_failure c d e = cc

-- the failure of a list is its end
told_failed : (c : Cause) (l : List Tree) (e : End) → HasFailed c (told l e) → e ≡ failed c
told_failed c [] unended f = absurd f
told_failed c [] ended (inl x) = absurd cc
told_failed c [] ended (inr f) = absurd f
told_failed c [] (failed d) (inl x) = ap failed (same_failure d c x)
told_failed c [] (failed d) (inr f) = absurd f
told_failed c (t ∷ l) e (inl x) = absurd cc
told_failed c (t ∷ l) e (inr f) = told_failed c l e f

end_failed : (c : Cause) (h : List Item) → end_of_items h ≡ failed c → HasFailed c h
end_failed c [] e = absurd cc
end_failed c (item.Elem t ∷ h) e = inr (end_failed c h e)
end_failed c (item.Ended ∷ h) e = absurd cc
end_failed c (item.Failed d ∷ h) e = let same : d ≡ c = cc in inl (ap item.Failed same)

has_so : (c : Cause) (l : List Tree) (e : End) → HasCause c (fails_so l e) → e ≡ failed c
has_so c l unended h = absurd h
has_so c l ended h = absurd h
has_so c l (failed d) (inl x) = ap failed x
has_so c l (failed d) (inr h) = absurd h

-- what has passed holds the failure that its outlook has
passed_failed : (c : Cause) (h : List Item) → HasCause c (passed_so h).fails → HasFailed c h
passed_failed c h has = end_failed c h (has_so c (list_of h) (end_of_items h) has)

at_failed : (c : Cause) (hs : List (List Item)) (p : ℕ) (h : List Item) → slice_get hs p ≡ Some h → HasFailed c h → AnyFailed c hs
at_failed c [] p h at f = absurd cc
at_failed c (x ∷ hs) zero h at f = let same : x ≡ h = cc in inl (subst (HasFailed c) (sym same) f)
at_failed c (x ∷ hs) (suc p) h at f = inr (at_failed c hs p h at f)

-- ---- what came in may come by the outlooks

allows_cause : (c : Cause) (es : List Entry) (n : ℕ) → Allows es c n → HasCause c es
allows_cause c [] n h = absurd h
allows_cause c (e ∷ es) n (inl h) = inl h.0
allows_cause c (e ∷ es) n (inr h) = inr (allows_cause c es n h)

one_may : (c : Cause) (o : Outlook) (h : List Item) → MayPass o h → IsToldList h → HasFailed c h → HasCause c o.fails
one_may c o h may told_so f =
    let ends : told_so.end ≡ failed c = told_failed c told_so.list told_so.end (subst (HasFailed c) told_so.is f) in
    let agrees : Agrees o told_so.list (failed c) = subst (λ (e : End). Agrees o told_so.list e) ends (may told_so.list told_so.end told_so.is) in
    allows_cause c o.fails (length told_so.list) agrees.1

all_may : (c : Cause) (os : List Outlook) (hs : List (List Item)) → AllMayPass os hs → ((i : ℕ) (h : List Item) → slice_get hs i ≡ Some h → IsToldList h) → AnyFailed c hs → AnyCause c os
all_may c [] [] may each f = absurd f
all_may c [] (h ∷ hs) may each f = absurd may
all_may c (o ∷ os) [] may each f = absurd may
all_may c (o ∷ os) (h ∷ hs) may each (inl f) = inl (one_may c o h may.0 (each 0 h refl) f)
all_may c (o ∷ os) (h ∷ hs) may each (inr f) = inr (all_may c os hs may.1 (λ i x at. each (suc i) x at) f)

-- ---- a run

some_node : {A : Type 0} (x y : A) → Some x ≡ Some y → x ≡ y
some_node x y e = cc

custom_one : {S D L H B : Type 0} (x y : CustomState) → Some (as_custom {S = S} {D = D} {L = L} {H = H} {B = B} x) ≡ Some (as_custom y) → x ≡ y
custom_one x y e = cc

-- a node that is a custom stage is of such a kind
pub law_named : {S D L H B : Type 0} (sources : S → SourceState) (drains : D → DrainState) (book : Book) (chains : List graph.Chain) (k : ℕ) (n : graph.Node) (first now : IslandNode S D L H B) (v : View) (took gave : List (List Item)) (x : CustomState)
    → now ≡ Custom x → FirstOf sources chains k n first → node_law sources drains book first now v took gave → (name : List ℕ) × (n.kind ≡ kind.Custom name)
law_named sources drains book chains k n (Custom first) now v took gave x is made law = (made.name, made.kind_is)
law_named sources drains book chains k n (Entering first) now v took gave x is made law = absurd made
law_named sources drains book chains k n (Leaving first) now v took gave x is made law = absurd made
law_named {S} {D} {L} {H} {B} sources drains book chains k n first now v took gave x is made law = other first made (subst (λ (y : IslandNode S D L H B). node_law sources drains book first y v took gave) is law)
  where
    other : (f : IslandNode S D L H B) → FirstOf sources chains k n f → node_law sources drains book f (Custom x) v took gave → (name : List ℕ) × (n.kind ≡ kind.Custom name)
    other (Custom f) m l = (m.name, m.kind_is)
    other (Entering f) m l = absurd m
    other (Leaving f) m l = absurd m
    other f m l = absurd l

untold_named : (c : Book) (k : Kind) → tells_none c k ≡ true → (name : List ℕ) × (k ≡ kind.Custom name)
untold_named c (kind.Custom name) e = (name, refl)
untold_named c _ e = absurd cc

module _ {S D L H B : Type 0} (sources : S → SourceState) (drains : D → DrainState) (g : Graph) (w : World) (a : Account (IslandNode S D L H B)) (run : IsRun sources drains w.book g a) (tells : TellsCustoms g w a) where
  -- what the world says of the output of a custom stage from which a wire leads is what was sent there
  module _ (u : ℕ) (v : Edge) (n : graph.Node) (name : List ℕ) (ui : slice_get g.wires u ≡ Some v) (ni : slice_get g.nodes v.from ≡ Some n) (is : n.kind ≡ kind.Custom name) where
    there : (first : CustomState) × ((now : CustomState) × ((a.firsts v.from ≡ Some (Custom first)) × ((a.nodes v.from ≡ Some (Custom now)) × CustomLaw w.book first now (knows g a v.from n) (took g a v.from n) (gave g a v.from n))))
    there = custom_there sources drains w.book g a run v.from n name ni is

    made : FirstCustom v.from n there.0
    made = run.made v.from n (Custom there.0) ni there.1.1.0

    told_it : TellsGave w n there.1.0
    told_it = tells v.from n there.1.0 ni there.1.1.1.0

    sent_port : slice_get (gave g a v.from n) v.output ≡ Some (a.near u).wire.sent
    sent_port =
        let s = run.joined.source u v ui in
        let same : s.0 ≡ n = some_same s.0 n (sym s.1 ∙ ni) in
        let none : 0 + v.output ≡ v.output = omega arith in
        let within : v.output < outputs_of n = rw same at s.2 in
        read_there g sent_of a.near v.from 0 (outputs_of n) v.output u within (rw none s.3)

    pub custom_gives : tells_none w.book n.kind ≡ true → w.given v.from v.output ≡ passed_so (a.near u).wire.sent
    custom_gives untold =
        let is_given = gave_is g w v.from n there.0 there.1.0 (knows g a v.from n) (took g a v.from n) (gave g a v.from n) made told_it there.1.1.1.1 in
        let is_node = node_is g w v.from n there.0 there.1.0 (knows g a v.from n) (took g a v.from n) (gave g a v.from n) made told_it there.1.1.1.1 in
        ap (λ (m : ℕ). w.given m v.output) (sym is_node) ∙ told_it.given untold v.output (a.near u).wire.sent (ap (λ (z : List (List Item)). slice_get z v.output) (sym is_given) ∙ sent_port)

-- a world that tells of a run tells what the custom stages gave
pub files_customs : {S D L H B : Type 0} (sources : S → SourceState) (drains : D → DrainState) (g : Graph) (w : World) (a : Account (IslandNode S D L H B)) → IsRun sources drains w.book g a → WorldTells sources g w a → TellsCustoms g w a
files_customs sources drains g w a run tells k n now ni at =
    let m = run.keeps.each_node k n ni in
    let named = law_named sources drains w.book g.chains k n m.first m.now (knows g a k n) (took g a k n) (gave g a k n) now (some_node m.now (Custom now) (sym m.now_at ∙ at)) (run.made k n m.first ni m.first_at) m.law_holds in
    let c = custom_there sources drains w.book g a run k n named.0 ni named.1 in
    let same : c.1.0 ≡ now = custom_one c.1.0 now (sym c.1.1.1.0 ∙ at) in
    subst (λ (x : CustomState). TellsGave w n x) same (tells.files k n (Custom c.0) (Custom c.1.0) ni c.1.1.0 c.1.1.1.0)

module _ {S D L H B : Type 0} (sources : S → SourceState) (drains : D → DrainState) (g : Graph) (w : World) (a : Account (IslandNode S D L H B)) (run : IsRun sources drains w.book g a) (tells : WorldTells sources g w a) (rank : ℕ → ℕ) (ranked : IsRanked g rank) where
  pub customs_lead : GivenLeads g w
  customs_lead u v n c ui ni untold has =
      let named = untold_named w.book n.kind untold in
      let name = named.0 in
      let customs = files_customs sources drains g w a run tells in
      let it = there sources drains g w a run customs u v n name ui ni named.1 in
      let first = it.0 in
      let now = it.1.0 in
      let law = it.1.1.1.1 in
      let begun : FirstCustom v.from n first = run.made v.from n (Custom first) ni it.1.1.0 in
      let port = sent_port sources drains g w a run customs u v n name ui ni named.1 in
      let outlook = custom_gives sources drains g w a run customs u v n name ui ni named.1 untold in
      let sent : HasFailed c (a.near u).wire.sent = passed_failed c (a.near u).wire.sent (subst (λ (o : Outlook). HasCause c o.fails) outlook has) in
      elim (failures_lead first now (knows g a v.from n) (took g a v.from n) (gave g a v.from n) law c (at_failed c (gave g a v.from n) v.output (a.near u).wire.sent port sent)) as (λ _. ((c.stage ≡ v.from) × IsCustomWhy c.why) ⊎ ComesIn g w v.from c) [
        | inl own ↦ inl (own.0 ∙ begun.node, own.1)
        | inr came ↦
            inr (any_came g w v.from (count_from 0 (inputs_of n)) c
            (all_may c (ports_of g w (composed g w) v.from (count_from 0 (inputs_of n))) (took g a v.from n) (every_input_of sources drains g w a run tells rank ranked v.from n ni)
            (λ i h at. let p = (inputs_pass first now (knows g a v.from n) (took g a v.from n) (gave g a v.from n) law).1 i h at in record { list = p.list; end = p.end; is = p.is }) came))
      ]
