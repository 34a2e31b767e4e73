-- What passed at each port of a custom stage is a list and an end, which the stage knows of.
use Rattle.std.specs.Prelude.{slice_get, slice_set, slice_index_or, replicate, ⊤}
use Rattle.std.proofs.Common.{◌≡◌, ◌⊎◌, inl, inr, ℕ, zero, suc, List, [], ◌∷◌, ◌++◌, length, Some, refl, sym, ap, ◌∙◌, subst}
use Rattle.elem_core.specs.Tree.{Tree}
use Rattle.elem_core.specs.declared.item.Item.{Item}
use Rattle.elem_core.specs.declared.item.Item.TheVariants as item
use Rattle.elem_core.specs.declared.why.Cause.{Cause}
use Rattle.port_core.specs.declared.act.Act.{Act}
use Rattle.port_core.specs.declared.act.Act.TheVariants as act
use Rattle.port_core.specs.declared.view.InView.{InView}
use Rattle.port_core.specs.declared.view.InView.TheVariants.{Idle, Pulled, Finished, Cancelled}
use Rattle.port_core.specs.declared.view.OutView.{OutView}
use Rattle.port_core.specs.declared.view.OutView.TheVariants as outlet
use Rattle.port_core.specs.View.{View, in_at, out_at, IsInOpen, IsOutOpen, ActAllowed, acted, ActsAllowed, acted_all}
use Rattle.port_core.specs.Call.{Call, starts, pulls, arrives, cancels, AllIdle, AllUnpulled, MayCome, came, CallAllowed, seen}
use Rattle.stream_model.specs.Outlook.{End, unended, ended, failed}
use Rattle.stream_model.specs.Linear.{Book}
use Rattle.stage_core.specs.Held.{told, end_items}
use Rattle.stage_core.specs.Histories.{given_by, given_all, brought_by}
use Rattle.stage_core.specs.Law.{TookAs, GaveAs}
use Rattle.stage_core.proofs.Told.{told-append, told-end}
use Rattle.graph_stage.specs.State.{CustomState}
use Rattle.graph_stage.specs.Calls.{CallMade, BeginsOnce, ports_behind, CallsAllowed, brought_by_calls, given_by_calls, CalledOn}
use Rattle.graph_stage.specs.Passed.{PassedUpTo}
use Rattle.graph_stage.specs.Ports.{Sees}
use Rattle.graph_stage.specs.Laws.{CustomLaw}
use Rattle.graph_stage.proofs.Handles.{goes, sees_on}

-- ---- the same of all ports in order

abbrev pub InsPassed : List InView → List (List Item) → Type 0
InsPassed [] [] = ⊤
InsPassed (x ∷ xs) (h ∷ hs) = PassedUpTo (TookAs x) h × InsPassed xs hs
InsPassed _ _ = ⊥

abbrev OutsPassed : List OutView → List (List Item) → Type 0
OutsPassed [] [] = ⊤
OutsPassed (y ∷ ys) (h ∷ hs) = PassedUpTo (GaveAs y) h × OutsPassed ys hs
OutsPassed _ _ = ⊥

nothing_in : (x : InView) → TookAs x unended → PassedUpTo (TookAs x) []
nothing_in x h = record { list = []; end = unended; is = refl; ends = h }

nothing_out : (y : OutView) → GaveAs y unended → PassedUpTo (GaveAs y) []
nothing_out y h = record { list = []; end = unended; is = refl; ends = h }

in_passed : (xs : List InView) (hs : List (List Item)) (i : ℕ) → InsPassed xs hs → PassedUpTo (TookAs (slice_index_or xs i Cancelled)) (slice_index_or hs i [])
in_passed [] [] i p = nothing_in Cancelled refl
in_passed (x ∷ xs) (h ∷ hs) zero p = p.0
in_passed (x ∷ xs) (h ∷ hs) (suc i) p = in_passed xs hs i p.1
in_passed [] (h ∷ hs) i p = absurd p
in_passed (x ∷ xs) [] i p = absurd p

out_passed : (ys : List OutView) (hs : List (List Item)) (j : ℕ) → OutsPassed ys hs → PassedUpTo (GaveAs (slice_index_or ys j outlet.Closed)) (slice_index_or hs j []) ⊎ (slice_index_or ys j outlet.Closed ≡ outlet.Closed)
out_passed [] [] j p = inr refl
out_passed (y ∷ ys) (h ∷ hs) zero p = inl p.0
out_passed (y ∷ ys) (h ∷ hs) (suc j) p = out_passed ys hs j p.1
out_passed [] (h ∷ hs) j p = absurd p
out_passed (y ∷ ys) [] j p = absurd p

set_in : (xs : List InView) (hs : List (List Item)) (i : ℕ) (x : InView) (h : List Item) → InsPassed xs hs → PassedUpTo (TookAs x) h → InsPassed (slice_set xs i x) (slice_set hs i h)
set_in [] [] i x h p q = p
set_in (z ∷ xs) (g ∷ hs) zero x h p q = (q, p.1)
set_in (z ∷ xs) (g ∷ hs) (suc i) x h p q = (p.0, set_in xs hs i x h p.1 q)
set_in [] (g ∷ hs) i x h p q = absurd p
set_in (z ∷ xs) [] i x h p q = absurd p

set_out : (ys : List OutView) (hs : List (List Item)) (j : ℕ) (y : OutView) (h : List Item) → OutsPassed ys hs → PassedUpTo (GaveAs y) h → OutsPassed (slice_set ys j y) (slice_set hs j h)
set_out [] [] j y h p q = p
set_out (z ∷ ys) (g ∷ hs) zero y h p q = (q, p.1)
set_out (z ∷ ys) (g ∷ hs) (suc j) y h p q = (p.0, set_out ys hs j y h p.1 q)
set_out [] (g ∷ hs) j y h p q = absurd p
set_out (z ∷ ys) [] j y h p q = absurd p

-- a port of which something else is known from now on, by which no end came
keep_in : (xs : List InView) (hs : List (List Item)) (i : ℕ) (x : InView) → ((e : End) → TookAs (slice_index_or xs i Cancelled) e → TookAs x e) → InsPassed xs hs → InsPassed (slice_set xs i x) hs
keep_in [] [] i x f p = p
keep_in (z ∷ xs) (g ∷ hs) zero x f p = (record { list = p.0.list; end = p.0.end; is = p.0.is; ends = f p.0.end p.0.ends }, p.1)
keep_in (z ∷ xs) (g ∷ hs) (suc i) x f p = (p.0, keep_in xs hs i x f p.1)
keep_in [] (g ∷ hs) i x f p = absurd p
keep_in (z ∷ xs) [] i x f p = absurd p

keep_out : (ys : List OutView) (hs : List (List Item)) (j : ℕ) (y : OutView) → ((e : End) → GaveAs (slice_index_or ys j outlet.Closed) e → GaveAs y e) → OutsPassed ys hs → OutsPassed (slice_set ys j y) hs
keep_out [] [] j y f p = p
keep_out (z ∷ ys) (g ∷ hs) zero y f p = (record { list = p.0.list; end = p.0.end; is = p.0.is; ends = f p.0.end p.0.ends }, p.1)
keep_out (z ∷ ys) (g ∷ hs) (suc j) y f p = (p.0, keep_out ys hs j y f p.1)
keep_out [] (g ∷ hs) j y f p = absurd p
keep_out (z ∷ ys) [] j y f p = absurd p

ins_length : (xs : List InView) (hs : List (List Item)) → InsPassed xs hs → length hs ≡ length xs
ins_length [] [] p = refl
ins_length (x ∷ xs) (h ∷ hs) p = ap suc (ins_length xs hs p.1)
ins_length [] (h ∷ hs) p = absurd p
ins_length (x ∷ xs) [] p = absurd p

outs_length : (ys : List OutView) (hs : List (List Item)) → OutsPassed ys hs → length hs ≡ length ys
outs_length [] [] p = refl
outs_length (y ∷ ys) (h ∷ hs) p = ap suc (outs_length ys hs p.1)
outs_length [] (h ∷ hs) p = absurd p
outs_length (y ∷ ys) [] p = absurd p

at_in : (xs : List InView) (hs : List (List Item)) (i : ℕ) (h : List Item) → InsPassed xs hs → slice_get hs i ≡ Some h → PassedUpTo (TookAs (slice_index_or xs i Cancelled)) h
at_in [] [] i h p e = cc
at_in (x ∷ xs) (g ∷ hs) zero h p e = let same : g ≡ h = cc in subst (λ (z : List Item). PassedUpTo (TookAs x) z) same p.0
at_in (x ∷ xs) (g ∷ hs) (suc i) h p e = at_in xs hs i h p.1 e
at_in [] (g ∷ hs) i h p e = absurd p
at_in (x ∷ xs) [] i h p e = absurd p

at_out : (ys : List OutView) (hs : List (List Item)) (j : ℕ) (h : List Item) → OutsPassed ys hs → slice_get hs j ≡ Some h → PassedUpTo (GaveAs (slice_index_or ys j outlet.Closed)) h
at_out [] [] j h p e = cc
at_out (y ∷ ys) (g ∷ hs) zero h p e = let same : g ≡ h = cc in subst (λ (z : List Item). PassedUpTo (GaveAs y) z) same p.0
at_out (y ∷ ys) (g ∷ hs) (suc j) h p e = at_out ys hs j h p.1 e
at_out [] (g ∷ hs) j h p e = absurd p
at_out (y ∷ ys) [] j h p e = absurd p

-- ---- one more item

-- behind a list that has not ended
more : {Before After : End → Type 0} (h : List Item) (t : Tree) → PassedUpTo Before h → ((e : End) → Before e → e ≡ unended) → After unended → PassedUpTo After (h ++ item.Elem t ∷ [])
more h t p none after = record {
  list = p.list ++ t ∷ [];
  end = unended;
  is = ap (λ (z : List Item). z ++ item.Elem t ∷ []) (p.is ∙ ap (λ (e : End). told p.list e) (none p.end p.ends)) ∙ sym (told-append p.list (t ∷ []) unended);
  ends = after;
}

last : {Before After : End → Type 0} (h : List Item) (f : End) → PassedUpTo Before h → ((e : End) → Before e → e ≡ unended) → After f → PassedUpTo After (h ++ end_items f)
last h f p none after = record {
  list = p.list;
  end = f;
  is = ap (λ (z : List Item). z ++ end_items f) (p.is ∙ ap (λ (e : End). told p.list e) (none p.end p.ends)) ∙ sym (told-end p.list f);
  ends = after;
}

none_in : (x : InView) → IsInOpen x → (e : End) → TookAs x e → e ≡ unended
none_in Idle o e h = h
none_in Pulled o e h = h
none_in Finished o e h = absurd o
none_in Cancelled o e h = absurd o

none_out : (y : OutView) → IsOutOpen y → (e : End) → GaveAs y e → e ≡ unended
none_out outlet.Unpulled o e h = h
none_out outlet.Available o e h = h
none_out outlet.Closed o e h = absurd o
none_out outlet.Cancelled o e h = absurd o

pulled_open : (x : InView) → x ≡ Pulled → IsInOpen x
pulled_open x e = subst IsInOpen (sym e) tt

idle_open : (x : InView) → x ≡ Idle → IsInOpen x
idle_open x e = subst IsInOpen (sym e) tt

available_open : (y : OutView) → y ≡ outlet.Available → IsOutOpen y
available_open y e = subst IsOutOpen (sym e) tt

unpulled_open : (y : OutView) → y ≡ outlet.Unpulled → IsOutOpen y
unpulled_open y e = subst IsOutOpen (sym e) tt

-- an item goes out at an output that is open
goes_out : (ys : List OutView) (hs : List (List Item)) (j : ℕ) (y : OutView) (h : List Item) → OutsPassed ys hs → IsOutOpen (slice_index_or ys j outlet.Closed)
    → (PassedUpTo (GaveAs (slice_index_or ys j outlet.Closed)) (slice_index_or hs j []) → PassedUpTo (GaveAs y) h) → OutsPassed (slice_set ys j y) (slice_set hs j h)
goes_out ys hs j y h p o f = by (out_passed ys hs j p)
  where
    by : PassedUpTo (GaveAs (slice_index_or ys j outlet.Closed)) (slice_index_or hs j []) ⊎ (slice_index_or ys j outlet.Closed ≡ outlet.Closed) → OutsPassed (slice_set ys j y) (slice_set hs j h)
    by (inl q) = set_out ys hs j y h p (f q)
    by (inr e) = absurd (subst IsOutOpen e o)

-- ---- a call and its actions

-- both of what is known of all ports and of what passed there
pub record AllPassed (v : View) (took gave : List (List Item)) : Type 0 where
  pub ins : InsPassed v.ins took
  pub outs : OutsPassed v.outs gave

pub call_passed : (call : Call) (v : View) (took gave : List (List Item)) → CallAllowed call v → AllPassed v took gave → AllPassed (seen call v) (brought_by call took) gave
call_passed starts v took gave may p = p
call_passed (pulls j) v took gave may p = record { ins = p.ins; outs = keep_out v.outs gave j outlet.Available (λ e g. none_out (out_at v j) (unpulled_open (out_at v j) may) e g) p.outs }
call_passed (arrives i (item.Elem t)) v took gave may p = record {
  ins = set_in v.ins took i Idle _ p.ins (more (slice_index_or took i []) t (in_passed v.ins took i p.ins) (none_in (in_at v i) (pulled_open (in_at v i) may)) refl);
  outs = p.outs;
}
call_passed (arrives i item.Ended) v took gave may p = record {
  ins = set_in v.ins took i Finished _ p.ins (last (slice_index_or took i []) ended (in_passed v.ins took i p.ins) (none_in (in_at v i) may) tt);
  outs = p.outs;
}
call_passed (arrives i (item.Failed c)) v took gave may p = record {
  ins = set_in v.ins took i Finished _ p.ins (last (slice_index_or took i []) (failed c) (in_passed v.ins took i p.ins) (none_in (in_at v i) may) tt);
  outs = p.outs;
}
call_passed (cancels j) v took gave may p = record { ins = p.ins; outs = keep_out v.outs gave j outlet.Cancelled (λ e g. none_out (out_at v j) may e g) p.outs }

act_passed : (a : Act) (v : View) (took gave : List (List Item)) → ActAllowed v a → AllPassed v took gave → AllPassed (acted v a) took (given_by a gave)
act_passed (act.Pull i) v took gave may p = record { ins = keep_in v.ins took i Pulled (λ e g. none_in (in_at v i) (idle_open (in_at v i) may) e g) p.ins; outs = p.outs }
act_passed (act.Push j t) v took gave may p = record {
  ins = p.ins;
  outs = goes_out v.outs gave j outlet.Unpulled _ p.outs (available_open (out_at v j) may) (λ q. more (slice_index_or gave j []) t q (none_out (out_at v j) (available_open (out_at v j) may)) refl);
}
act_passed (act.Complete j) v took gave may p = record {
  ins = p.ins;
  outs = goes_out v.outs gave j outlet.Closed _ p.outs may (λ q. last (slice_index_or gave j []) ended q (none_out (out_at v j) may) tt);
}
act_passed (act.FailOut j c) v took gave may p = record {
  ins = p.ins;
  outs = goes_out v.outs gave j outlet.Closed _ p.outs may (λ q. last (slice_index_or gave j []) (failed c) q (none_out (out_at v j) may) tt);
}
act_passed (act.Cancel i) v took gave may p = record { ins = keep_in v.ins took i Cancelled (λ e g. none_in (in_at v i) may e g) p.ins; outs = p.outs }

pub acts_passed : (acts : List Act) (v : View) (took gave : List (List Item)) → ActsAllowed v acts → AllPassed v took gave → AllPassed (acted_all v acts) took (given_all acts gave)
acts_passed [] v took gave may p = p
acts_passed (a ∷ acts) v took gave may p = acts_passed acts (acted v a) took (given_by a gave) may.1 (act_passed a v took gave may.0 p)

-- ---- a run

ins_begun : (xs : List InView) → AllIdle xs → InsPassed xs (replicate (length xs) [])
ins_begun [] h = tt
ins_begun (x ∷ xs) h = (nothing_in x (subst (λ (z : InView). TookAs z unended) (sym h.0) refl), ins_begun xs h.1)

outs_begun : (ys : List OutView) → AllUnpulled ys → OutsPassed ys (replicate (length ys) [])
outs_begun [] h = tt
outs_begun (y ∷ ys) h = (nothing_out y (subst (λ (z : OutView). GaveAs z unended) (sym h.0) refl), outs_begun ys h.1)

calls_passed : (b : Book) (x now : CustomState) (calls : List CallMade) (v : View) (took gave : List (List Item)) → Sees v x.sight → CalledOn b x calls now → CallsAllowed v calls
    → AllPassed v took gave → AllPassed (ports_behind v calls) (brought_by_calls calls took) (given_by_calls calls gave)
calls_passed b x now [] v took gave sees h may p = p
calls_passed b x now (c ∷ calls) v took gave sees h may p =
    let g = goes c.call x c.after c.acts h.0 v may.0 sees in
    let q = acts_passed c.acts (seen c.call v) (brought_by c.call took) gave g.leads.allowed (call_passed c.call v took gave may.0 p) in
    calls_passed b c.after now calls (acted_all (seen c.call v) c.acts) (brought_by c.call took) (given_all c.acts gave) (sees_on c.call x c.after c.acts h.0 v may.0 sees) h.1 may.1 q

pub begun : (calls : List CallMade) (v : View) → BeginsOnce calls → CallsAllowed v calls → AllPassed v (replicate (length v.ins) []) (replicate (length v.outs) [])
begun [] v h may = absurd h
begun (c ∷ calls) v h may = let idle = subst (λ (z : Call). CallAllowed z v) h.0 may.0 in record { ins = ins_begun v.ins idle.0; outs = outs_begun v.outs idle.1 }

law_passed : {b : Book} (first now : CustomState) (v : View) (took gave : List (List Item)) → CustomLaw b first now v took gave → AllPassed v took gave
law_passed {b} first now v took gave l =
    let p = calls_passed b first now l.calls l.begin (replicate (length l.begin.ins) []) (replicate (length l.begin.outs) []) l.fresh.sees l.called l.allowed (begun l.calls l.begin l.begins l.allowed) in
    let q = subst (λ (z : View). AllPassed z (brought_by_calls l.calls (replicate (length l.begin.ins) [])) (given_by_calls l.calls (replicate (length l.begin.outs) []))) (sym l.ports) p in
    let r = subst (λ (z : List (List Item)). AllPassed v z (given_by_calls l.calls (replicate (length l.begin.outs) []))) (sym l.took_is) q in
    subst (λ (z : List (List Item)). AllPassed v took z) (sym l.gave_is) r

pub inputs_pass : {b : Book} (first now : CustomState) (v : View) (took gave : List (List Item)) → CustomLaw b first now v took gave
    → (length took ≡ length v.ins) × ((i : ℕ) (items : List Item) → slice_get took i ≡ Some items → PassedUpTo (TookAs (in_at v i)) items)
inputs_pass first now v took gave l = let p = law_passed first now v took gave l in (ins_length v.ins took p.ins, λ i items e. at_in v.ins took i items p.ins e)

pub outputs_pass : {b : Book} (first now : CustomState) (v : View) (took gave : List (List Item)) → CustomLaw b first now v took gave
    → (length gave ≡ length v.outs) × ((j : ℕ) (items : List Item) → slice_get gave j ≡ Some items → PassedUpTo (GaveAs (out_at v j)) items)
outputs_pass first now v took gave l = let p = law_passed first now v took gave l in (outs_length v.outs gave p.outs, λ j items e. at_out v.outs gave j items p.outs e)
