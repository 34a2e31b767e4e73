-- The goals of `engine::Engine::perform_all` that the search leaves.
use Rattle.std.proofs.Common.{refl, [], ◌∷◌, ◌++◌, ◌∙◌, ap, subst, sym}
use Rattle.port_core.specs.ActList.{ActList}
use Rattle.fused_net.specs.Laws.{AnyRow, AnyLaw, Busy}
use Rattle.fused_net.proofs.Acting.{two_of, next_busy, next_able}
use Rattle.fused_net.proofs.Going.{few_next}
use Rattle.fused_net.proofs.engine.Engine.perform_all.Goals as goal

pub act-requires : goal.act-requires
act-requires g c =
    let two = two_of _ _ c.in-Some-only.first c.in-Some.last (ap (λ (a : ActList). a.items) c.in-Some.ensures.last) c.in-Some-only.ensures.one.0 in
    next_able AnyRow AnyLaw _ _ _ _ _ two c.requires.busy c.requires.few

pub act-requires-in-Some-only : goal.act-requires-in-Some-only
act-requires-in-Some-only g c =
    let two = two_of _ _ c.in-Some-only.first c.in-Some.last (ap (λ (a : ActList). a.items) c.in-Some.ensures.last) c.in-Some-only.ensures.one.0 in
    next_able AnyRow AnyLaw _ _ _ _ _ refl (next_busy AnyRow AnyLaw _ _ _ _ _ _ two c.act.ensures c.requires.busy) (few_next _ _ _ _ _ _ two c.act.ensures c.requires.busy c.requires.few)

pub perform_many-requires-clause-busy : goal.perform_many-requires-clause-busy
perform_many-requires-clause-busy g c =
    subst (λ l. Busy AnyRow AnyLaw c.args.self.now c.args.n l) (ap (λ (a : ActList). a.items) c.in-Some.ensures.last ∙ ap (λ (a : ActList). a.items ++ c.in-Some.last ∷ []) (sym c.in-None.ensures.other.0)) c.requires.busy
