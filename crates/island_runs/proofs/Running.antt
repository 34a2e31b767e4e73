-- Bodies that ran: what is told of them, and the receipt.
use Rattle.std.proofs.Common.{◌≡◌, ◌∙◌, ℕ, zero, suc, ◌+◌, ◌≤◌, Bool, true, false, List, [], ◌∷◌, ◌++◌, length, take, drop, refl, ap, sym, subst, arith}
use Rattle.std.specs.Prelude.{not}
use Rattle.std.specs.List.{sum_by}
use Rattle.stream_model.specs.declared.blueprint.Blueprint.{Blueprint}
use Rattle.stream_io.specs.State.{SourceState, DrainState}
use Rattle.blue_check.specs.Wires.{blueprint_wires}
use Rattle.dispatcher.specs.Broken.{WholeOrBroken}
use Rattle.island_runs.specs.declared.ran.Ran.{Ran}
use Rattle.lane_core.specs.Bodies.{AllOf, EachOf}
use Rattle.lane_core.specs.Crossings.{AllJoined, AtRest}
use Rattle.lane_core.specs.declared.crossing.Crossing.{Crossing}
use Rattle.island_body.specs.Keeping.{is_pending, BodyKeeps, BodyGoes, BodyBreaks}
use Rattle.island_body.specs.Meeting.{BodiesJoined}
use Rattle.island_body.specs.declared.body.Body.{Body}
use Rattle.island_plans.specs.Homes.{AreNumberedHomes}
use Rattle.island_runs.specs.Begun.{HaveBegun, HaveRun, HaveBroken}
use Rattle.island_runs.specs.Receipt.{IsReceipt}
use Rattle.island_runs.specs.declared.run.Remains.{Remains}
use Rattle.stream_model.specs.Linear.{Book}

-- a list that was lent whole comes back as it is now
pub came_back : {X : Type 0} (n : ℕ) (new old : List X) → length new ≡ n → length old ≡ n → take n (new ++ drop (length new) old) ≡ new
came_back zero [] [] p q = refl
came_back zero (x ∷ xs) ys p q = absurd (omega (arith, p))
came_back zero [] (y ∷ ys) p q = absurd (omega (arith, q))
came_back (suc n) [] ys p q = absurd (omega (arith, p))
came_back (suc n) (x ∷ xs) [] p q = absurd (omega (arith, q))
came_back (suc n) (x ∷ xs) (y ∷ ys) p q = ap (λ zs. x ∷ zs) (came_back n xs ys (omega (arith, p)) (omega (arith, q)))

-- what is told the other way about
no_more : (more : Bool) → not more ≡ true → more ≡ false
no_more true e = absurd cc
no_more false e = refl

some_more : (more : Bool) → not more ≡ false → more ≡ true
some_more true e = refl
some_more false e = absurd cc

twice_not : (more : Bool) → more ≡ not (not more)
twice_not true = refl
twice_not false = refl

module _ {S D L H B : Type 0} (sources : S → SourceState) (drains : D → DrainState) (book : Book) (b : Blueprint) (ss : List S) (ds : List D) (begun now : List (Body S D L H B)) (lanes crossings lent : List Crossing) (r : Remains S D)
    (h : HaveBegun sources drains book b ss ds begun crossings r) (ran_on : lanes ≡ crossings) (same : lent ≡ crossings) (joined : AllJoined BodiesJoined now lanes) where
  -- they ran over the crossings that were lent
  pub have_run : (budget used : ℕ) (more : Bool) → AllOf (BodyKeeps sources drains book) now → EachOf BodyGoes begun now → used ≡ sum_by (λ (x : Body S D L H B). x.spent) now → used ≤ budget
      → (more ≡ false → AtRest is_pending BodiesJoined now lanes) → (more ≡ true → used ≡ budget) → (run : HaveRun sources drains book b ss ds begun now lent r budget used (not more)) × (run.began.nodes ≡ h.nodes)
  have_run budget used more keep went spent within rest all =
      subst (λ (cs : List Crossing). (run : HaveRun sources drains book b ss ds begun now cs r budget used (not more)) × (run.began.nodes ≡ h.nodes)) (sym same) (
        record {
          began = h;
          keep = keep;
          went = went;
          joined = subst (λ (cs : List Crossing). AllJoined BodiesJoined now cs) ran_on joined;
          used_is = spent;
          within = within;
          rest = λ still. subst (λ (cs : List Crossing). AtRest is_pending BodiesJoined now cs) ran_on (rest (no_more more still));
          more = λ left. all (some_more more left);
        },
        refl,
      )

  -- or memory was wanting
  pub have_broken : WholeOrBroken (BodyKeeps sources drains book) BodyGoes (BodyBreaks sources drains book) begun now → HaveBroken sources drains book b ss ds begun now lent r
  have_broken broke =
      subst (λ (cs : List Crossing). HaveBroken sources drains book b ss ds begun now cs r) (sym same)
      (record { began = h; joined = subst (λ (cs : List Crossing). AllJoined BodiesJoined now cs) ran_on joined; broke = broke })

-- the receipt of a run that was taken apart
pub receipt_of : (b : Blueprint) (workers many used told : ℕ) (more at_rest : Bool) (r t : Ran) (homes : List ℕ) → AreNumberedHomes (length b.nodes.items) many (blueprint_wires b) homes
    → t.workers ≡ workers → t.islands ≡ many → t.used ≡ used → t.more ≡ more → told ≡ used → at_rest ≡ not more → r ≡ t → IsReceipt b workers told at_rest r
receipt_of b workers many used told more at_rest r t homes are w i u m same rest is =
    subst (λ (x : Ran). IsReceipt b workers told at_rest x) (sym is)
    (record {
      workers_are = w;
      islands_are = record { homes = homes; numbered = subst (λ (n : ℕ). AreNumberedHomes (length b.nodes.items) n (blueprint_wires b) homes) (sym i) are };
      used_is = u ∙ sym same;
      more_is = m ∙ (twice_not more ∙ ap not (sym rest));
    })
