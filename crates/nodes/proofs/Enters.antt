-- The stage where a lane comes in: its calls keep its law, and so does what it does between them.
use Rattle.std.proofs.Common.{◌≡◌, ℕ, zero, suc, List, [], ◌∷◌, ◌++◌, length, refl, sym, ap, subst, ◌∙◌, arith}
use Rattle.std.specs.Prelude.{Result, Ok, Err, OnOk}
use Rattle.elem_core.specs.Tree.{Tree}
use Rattle.elem_core.specs.declared.item.Item.{Item}
use Rattle.elem_core.specs.declared.item.Item.TheVariants as item
use Rattle.elem_core.specs.declared.why.Cause.{Cause}
use Rattle.port_core.specs.declared.act.Act.{Act}
use Rattle.port_core.specs.declared.act.Act.TheVariants.{Push, Complete, FailOut}
use Rattle.port_core.specs.declared.view.OutView.{OutView}
use Rattle.port_core.specs.declared.view.OutView.TheVariants.{Unpulled, Available, Closed, Cancelled}
use Rattle.port_core.specs.View.{View, out_at, IsOutOpen}
use Rattle.stage_core.specs.Histories.{with_item, AllEmpty}
use Rattle.stage_core.specs.Handling.{Starts}
use Rattle.stream_model.specs.Outlook.{End, unended}
use Rattle.stage_core.specs.Held.{told}
use Rattle.stage_core.specs.Law.{GaveAs}
use Rattle.nodes.specs.OnePort.{output_only, MayDo}
use Rattle.nodes.specs.Entering.{Entering, EnteringFresh, EnteringPortState, EnteringLaw}
use Rattle.nodes.proofs.Histories.{end_after, list_after, told_after}

-- an output that is open gave no end
open_end : (y : OutView) (e : End) → IsOutOpen y → GaveAs y e → e ≡ unended
open_end Unpulled e o g = g
open_end Available e o g = g
open_end Closed e o g = absurd o
open_end Cancelled e o g = absurd o

asked_open : (y : OutView) → y ≡ Available → IsOutOpen y
asked_open y e = rw e tt

-- nothing passed at the start
begun : (x : Entering) (took gave : List (List Item)) → AllEmpty took → AllEmpty gave → length took ≡ 0 → length gave ≡ 1 → EnteringLaw x x (output_only Unpulled) took gave
begun x [] (g ∷ []) a b m n = record {
  list = [];
  end = unended;
  took_is = refl;
  gave_is = ap (λ (h : List Item). h ∷ []) b.0;
  gave_as = refl;
  same = refl;
}
begun x [] [] a b m n = absurd (omega (arith, n))
begun x [] (g ∷ h ∷ gave) a b m n = absurd (omega (arith, n))
begun x (t ∷ took) gave a b m n = absurd (omega (arith, m))

enters_started : (x : Entering) → Starts EnteringPortState EnteringLaw EnteringFresh x x []
enters_started x = record {
  obeys = record { allowed = λ v h r. tt; ports = λ v h r. (Unpulled, r) };
  stands = tt;
  begins = λ v took gave h f t g i j. subst (λ (w : View). length took ≡ length w.ins → length gave ≡ length w.outs → EnteringLaw x x w took gave) (sym f) (λ m n. begun x took gave t g m n) i j;
}

pub starts_entering : {T E : Type 0} (r : Result T E) (x new : Entering) (acts : List Act) → new ≡ x → acts ≡ [] → OnOk r (Starts EnteringPortState EnteringLaw EnteringFresh x new acts)
starts_entering (Ok y) x new acts e f = rw (e, f) (enters_started x)
starts_entering (Err y) x new acts e f = tt

-- ---- between two calls

-- it gave one item more
gave_more : (x first : Entering) (y z : OutView) (took gave : List (List Item)) (i : Item) → IsOutOpen y → GaveAs z (end_after i) → EnteringLaw first x (output_only y) took gave → EnteringLaw first x (output_only z) took (with_item gave 0 i)
gave_more x first y z took gave i o g law =
    let still : law.end ≡ unended = open_end y law.end o law.gave_as in
    record {
      list = list_after i law.list;
      end = end_after i;
      took_is = law.took_is;
      gave_is = ap (λ (h : List (List Item)). with_item h 0 i) law.gave_is ∙ ap (λ (e : End). (told law.list e ++ i ∷ []) ∷ []) still ∙ ap (λ (h : List Item). h ∷ []) (told_after i law.list);
      gave_as = g;
      same = law.same;
    }

push_at : (x first : Entering) (y : OutView) (took gave : List (List Item)) (j : ℕ) (t : Tree) → EnteringLaw first x (output_only y) took gave → out_at (output_only y) j ≡ Available → MayDo EnteringPortState EnteringLaw x first (output_only y) took gave (Push j t)
push_at x first y took gave zero t law h = record { allowed = h; port_state_holds = (Unpulled, refl); law_holds = gave_more x first y Unpulled took gave (item.Elem t) (asked_open y h) refl law }
push_at x first y took gave (suc j) t law h = absurd cc

complete_at : (x first : Entering) (y : OutView) (took gave : List (List Item)) (j : ℕ) → EnteringLaw first x (output_only y) took gave → IsOutOpen (out_at (output_only y) j) → MayDo EnteringPortState EnteringLaw x first (output_only y) took gave (Complete j)
complete_at x first y took gave zero law o = record { allowed = o; port_state_holds = (Closed, refl); law_holds = gave_more x first y Closed took gave item.Ended o tt law }
complete_at x first y took gave (suc j) law o = absurd o

fail_at : (x first : Entering) (y : OutView) (took gave : List (List Item)) (j : ℕ) (c : Cause) → EnteringLaw first x (output_only y) took gave → IsOutOpen (out_at (output_only y) j) → MayDo EnteringPortState EnteringLaw x first (output_only y) took gave (FailOut j c)
fail_at x first y took gave zero c law o = record { allowed = o; port_state_holds = (Closed, refl); law_holds = gave_more x first y Closed took gave (item.Failed c) o tt law }
fail_at x first y took gave (suc j) c law o = absurd o

module _ (first now : Entering) (v : View) (took gave : List (List Item)) (r : EnteringPortState now v) (law : EnteringLaw first now v took gave) where
  abbrev Done : (View → Type 0) → Act → View → Type 0
  Done H a w = EnteringLaw first now w took gave → H w → MayDo EnteringPortState EnteringLaw now first w took gave a

  pub may_push : (j : ℕ) (t : Tree) → out_at v j ≡ Available → MayDo EnteringPortState EnteringLaw now first v took gave (Push j t)
  may_push j t h = subst (Done (λ w. out_at w j ≡ Available) (Push j t)) (sym r.1) (push_at now first r.0 took gave j t) law h

  pub may_complete : (j : ℕ) → IsOutOpen (out_at v j) → MayDo EnteringPortState EnteringLaw now first v took gave (Complete j)
  may_complete j h = subst (Done (λ w. IsOutOpen (out_at w j)) (Complete j)) (sym r.1) (complete_at now first r.0 took gave j) law h

  pub may_fail : (j : ℕ) (c : Cause) → IsOutOpen (out_at v j) → MayDo EnteringPortState EnteringLaw now first v took gave (FailOut j c)
  may_fail j c h = subst (Done (λ w. IsOutOpen (out_at w j)) (FailOut j c)) (sym r.1) (fail_at now first r.0 took gave j c) law h
