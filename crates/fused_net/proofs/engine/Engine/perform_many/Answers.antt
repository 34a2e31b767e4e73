-- The goals of `engine::Engine::perform_many` that the search leaves.
use Rattle.std.proofs.Common.{[], ◌∷◌, ◌++◌, ◌∙◌, refl, ap, subst, sym}
use Rattle.port_core.specs.ActList.{ActList}
use Rattle.fused_net.specs.Net.{acted_all}
use Rattle.fused_net.specs.Laws.{AnyRow, AnyLaw, Busy}
use Rattle.fused_net.proofs.Acting.{turned_before, turned_none, next_busy, next_same, next_able, turned_back}
use Rattle.fused_net.proofs.Going.{few_next}
use Rattle.fused_net.proofs.engine.Engine.perform_many.Goals as goal

pub loop-act-init : goal.loop-act-init
loop-act-init g c =
    let back = ap (λ l. l ++ c.args.last ∷ []) (turned_back _ _ (ap (λ (a : ActList). a.items) c.reverse.ensures)) in (
      subst (λ l. Busy AnyRow AnyLaw c.args.self.now c.args.n l) (sym back) c.requires.busy,
      ap (λ l. acted_all c.args.self.now c.args.n l) back,
      ap (λ (a : ActList). a.room) c.reverse.ensures,
      c.requires.few,
    )

pub act-requires : goal.act-requires
act-requires g c = next_able AnyRow AnyLaw _ _ _ _ _ (turned_before _ _ _ c.args.last (ap (λ (a : ActList). a.items) c.in-Some.ensures.last)) c.loop-act.invariant.0 c.loop-act.invariant.3

pub loop-act-preserved : goal.loop-act-preserved
loop-act-preserved g c = (
  next_busy AnyRow AnyLaw _ _ _ _ _ _ (turned_before _ _ _ c.args.last (ap (λ (a : ActList). a.items) c.in-Some.ensures.last)) c.act.ensures c.loop-act.invariant.0,
  next_same AnyRow AnyLaw _ _ _ _ _ _ _ (turned_before _ _ _ c.args.last (ap (λ (a : ActList). a.items) c.in-Some.ensures.last)) c.act.ensures c.loop-act.invariant.1,
  sym (ap (λ (a : ActList). a.room) c.in-Some.ensures.last) ∙ c.loop-act.invariant.2,
  few_next _ _ _ _ _ _ (turned_before _ _ _ c.args.last (ap (λ (a : ActList). a.items) c.in-Some.ensures.last)) c.act.ensures c.loop-act.invariant.0 c.loop-act.invariant.3,
)

pub act-requires-2 : goal.act-requires-2
act-requires-2 g c = next_able AnyRow AnyLaw _ _ _ _ _ (turned_none _ c.args.last (c.in_default.ensures.empty.0 refl)) c.loop-act.invariant.0 c.loop-act.invariant.3
