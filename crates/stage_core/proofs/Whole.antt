-- What the law says over a whole history: of every rest, of what the stage may have given, and of the outlook of its output.
use Rattle.std.proofs.Common.{◌≡◌, ◌≢◌, List, [], ◌∷◌, ◌++◌, refl, sym, ap, ◌∙◌}
use Rattle.elem_core.specs.Tree.{Tree}
use Rattle.stream_model.specs.Outlook.{Outlook, End, unended, ended, failed, Agrees}
use Rattle.stream_model.specs.Machine.{Run, Machine, run, close, Stands, output}
use Rattle.stream_model.proofs.Traces.{trace_output}
use Rattle.elem_core.specs.declared.item.Item.{Item}
use Rattle.elem_core.specs.declared.item.Item.TheVariants as item
use Rattle.port_core.specs.declared.view.InView.{InView}
use Rattle.port_core.specs.declared.view.OutView.{OutView}
use Rattle.port_core.specs.declared.view.OutView.TheVariants.{Unpulled, Available, Closed, Cancelled}
use Rattle.stage_core.specs.Held.{told, told_of, Held, owing, after, heard, whole, gives}
use Rattle.stage_core.specs.Law.{GaveAs, ends_by, Law}
use Rattle.stage_core.proofs.Steps.{whole_behind}
use Rattle.stage_core.proofs.History.{law_stands}

module _ {S : Type 0} (m : Machine S Tree) where
  heard-append : (x : Run S Tree) (is js : List Item) → heard m x (is ++ js) ≡ heard m (heard m x is) js
  heard-append x [] js = refl
  heard-append x (i ∷ is) js = heard-append (after m x i) is js

  -- a history, heard as a list and its end
  pub heard-told : (x : Run S Tree) (l : List Tree) (e : End) → heard m x (told l e) ≡ ends_by m (run m x l) e
  heard-told x [] unended = refl
  heard-told x [] ended = refl
  heard-told x [] (failed c) = refl
  heard-told x (t ∷ l) e = heard-told (after m x (item.Elem t)) l e

  module _ (start : Run S Tree) where
    -- while it owes something: for every rest and every end, what it gives in all is what it gave and what it gives from now on
    pub law_rest : (z : Run S Tree) (i : InView) (o : OutView) (took gave : List Item) → Law m start (owing z) i o took gave → (rest : List Item) → whole m start (took ++ rest) ≡ gave ++ gives m (owing z) rest
    law_rest z i o took gave law rest =
        let now : heard m start took ≡ record { gave = law.out_list ++ z.gave; state = z.state } =
        ap (heard m start) law.took_is ∙ heard-told start law.in_list law.in_end ∙ law.keeps.1.0 in
        let so : told law.out_list unended ≡ gave = ap (λ (f : End). told law.out_list f) (sym law.keeps.0) ∙ sym law.gave_is in
        ap (λ (y : Run S Tree). told_of (close m y unended)) (heard-append start took rest)
        ∙ ap (λ (y : Run S Tree). whole m y rest) now
        ∙ whole_behind m law.out_list z rest
        ∙ ap (λ (is : List Item). is ++ whole m z rest) so

    -- at any moment: what it gave stands, over what it took
    pub stage_stands : (x : Held S) (i : InView) (o : OutView) (took gave : List Item) → (law : Law m start x i o took gave) → Stands m start law.in_list law.in_end law.out_list law.out_end
    stage_stands x i o took gave law = law_stands m start x law.in_list law.in_end law.out_list law.out_end law.keeps

    -- a stage that has closed its output has given an end
    pub shut_ended : (o : OutView) (f : End) → o ≡ Closed → GaveAs o f → f ≢ unended
    shut_ended Closed unended s h = absurd h
    shut_ended Closed ended s h = λ e. cc
    shut_ended Closed (failed c) s h = λ e. cc
    shut_ended Unpulled f s h = cc
    shut_ended Available f s h = cc
    shut_ended Cancelled f s h = cc

    -- so what passes its output agrees with the outlook there, where what it took agrees with the outlook at its input
    pub stage_agrees : (u : Outlook) (x : Held S) (i : InView) (o : OutView) (took gave : List Item) → (law : Law m start x i o took gave) → Agrees u law.in_list law.in_end → Agrees (output m start u) law.out_list law.out_end
    stage_agrees u x i o took gave law a = trace_output m start u law.in_list law.in_end law.out_list law.out_end a (stage_stands x i o took gave law)
