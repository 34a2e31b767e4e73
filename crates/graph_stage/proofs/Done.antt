-- What a custom stage gave is told by the actions that it noted.
use Rattle.std.specs.Prelude.{replicate}
use Rattle.std.proofs.Common.{◌≡◌, ℕ, zero, suc, List, [], ◌∷◌, ◌++◌, length, refl, sym, ap, ◌∙◌, subst, arith}
use Rattle.elem_core.specs.declared.item.Item.{Item}
use Rattle.port_core.specs.ActList.{ActList}
use Rattle.port_core.specs.declared.act.Act.{Act}
use Rattle.port_core.specs.View.{View}
use Rattle.port_core.specs.declared.view.OutView.{OutView}
use Rattle.stream_model.specs.Linear.{Book}
use Rattle.stage_core.specs.Histories.{given_all}
use Rattle.graph_stage.specs.declared.sight.OutSight.{OutSight}
use Rattle.graph_stage.specs.Calls.{CallMade, given_by_calls, CalledOn}
use Rattle.graph_stage.specs.Laws.{CustomLaw}
use Rattle.graph_stage.specs.Ports.{SeesOuts}
use Rattle.graph_stage.specs.State.{CustomState, RuledAs, done_gave}

done_append : (done : List ActList) (a : ActList) (gave : List (List Item)) → done_gave (done ++ a ∷ []) gave ≡ given_all a.items (done_gave done gave)
done_append [] a gave = refl
done_append (b ∷ done) a gave = done_append done a (given_all b.items gave)

calls_gave : (b : Book) (x now : CustomState) (calls : List CallMade) (begun gave : List (List Item)) → CalledOn b x calls now → done_gave x.done begun ≡ gave → done_gave now.done begun ≡ given_by_calls calls gave
calls_gave b x now [] begun gave h e = ap (λ (z : CustomState). done_gave z.done begun) h ∙ e
calls_gave b x now (c ∷ calls) begun gave h e =
    let r : RuledAs b c.call x c.after c.acts = h.0 in
    let grown : done_gave c.after.done begun ≡ given_all r.last.items (done_gave x.done begun) = ap (λ (z : List ActList). done_gave z begun) r.done_is ∙ done_append x.done r.last begun in
    let here : given_all r.last.items (done_gave x.done begun) ≡ given_all c.acts gave =
    ap (λ (z : List Act). given_all z (done_gave x.done begun)) r.last_is ∙ ap (λ (z : List (List Item)). given_all c.acts z) e in
    calls_gave b c.after now calls begun (given_all c.acts gave) h.1 (grown ∙ here)

outs_many : (vs : List OutView) (ys : List OutSight) → SeesOuts vs ys → length vs ≡ length ys
outs_many [] [] h = refl
outs_many (v ∷ vs) (y ∷ ys) h = let r = outs_many vs ys h.1 in omega (arith, r)
outs_many [] (y ∷ ys) h = absurd h
outs_many (v ∷ vs) [] h = absurd h

pub gave_by_done : {b : Book} (first now : CustomState) (v : View) (took gave : List (List Item)) → CustomLaw b first now v took gave → gave ≡ done_gave now.done (replicate (length first.sight.outs) [])
gave_by_done {b} first now v took gave l =
    let begun : List (List Item) = replicate (length l.begin.outs) [] in
    let none : done_gave first.done begun ≡ begun = ap (λ (z : List ActList). done_gave z begun) l.fresh.none_done in
    let many : length l.begin.outs ≡ length first.sight.outs = outs_many l.begin.outs first.sight.outs l.fresh.sees.outs in
    l.gave_is ∙ sym (calls_gave b first now l.calls begun begun l.called none) ∙ ap (λ (n : ℕ). done_gave now.done (replicate n [])) many
