-- The goals of `engine::Engine::deliver` that the search leaves.
use Rattle.std.proofs.Common.{inl, inr, true, false, refl, sym, subst}
use Rattle.port_core.specs.Wire.{nothing, cancel, arrived, end_item}
use Rattle.port_core.specs.declared.conn.Event.{Event}
use Rattle.port_core.specs.Cell.{Tells}
use Rattle.fused_net.specs.Net.{wire_at}
use Rattle.fused_net.proofs.Delivering.{brings_elem, told_brought, told_brings, told_end}
use Rattle.fused_net.proofs.engine.Engine.deliver.Goals as goal

pub returns-in-Nothing-clause-none : goal.returns-in-Nothing-clause-none
returns-in-Nothing-clause-none g c = (subst (λ (e : Event). Tells e (wire_at c.args.since.value c.args.w) (wire_at c.args.self.now c.args.w)) c.in-Nothing.is c.requires.tells).brings

pub returns-in-Nothing-clause-after : goal.returns-in-Nothing-clause-after
returns-in-Nothing-clause-after g c = told_brought c.args.since.value c.args.self.now c.args.w nothing (subst (λ (e : Event). Tells e (wire_at c.args.since.value c.args.w) (wire_at c.args.self.now c.args.w)) c.in-Nothing.is c.requires.tells) c.requires.after refl

pub returns-in-Cancel-clause-some : goal.returns-in-Cancel-clause-some
returns-in-Cancel-clause-some g c = (subst (λ (e : Event). Tells e (wire_at c.args.since.value c.args.w) (wire_at c.args.self.now c.args.w)) c.in-Cancel.is c.requires.tells).brings

pub returns-in-Cancel-clause-after : goal.returns-in-Cancel-clause-after
returns-in-Cancel-clause-after g c = told_brought c.args.since.value c.args.self.now c.args.w cancel (subst (λ (e : Event). Tells e (wire_at c.args.since.value c.args.w) (wire_at c.args.self.now c.args.w)) c.in-Cancel.is c.requires.tells) c.requires.after refl

pub returns-in-PushThenClose-clause-some : goal.returns-in-PushThenClose-clause-some
returns-in-PushThenClose-clause-some g c = (true, sym (brings_elem _ _ c.take.result true (subst (λ (e : Event). Tells e (wire_at c.args.since.value c.args.w) (wire_at c.args.self.now c.args.w)) c.in-PushThenClose.is c.requires.tells) c.take.ensures.value))

pub returns-in-PushThenClose-clause-after : goal.returns-in-PushThenClose-clause-after
returns-in-PushThenClose-clause-after g c = told_brings c.args.since.value c.args.self.now _ c.args.w c.take.result true (subst (λ (e : Event). Tells e (wire_at c.args.since.value c.args.w) (wire_at c.args.self.now c.args.w)) c.in-PushThenClose.is c.requires.tells) c.requires.after c.take.ensures.value c.take.ensures.after

pub returns-in-Finish-clause-some : goal.returns-in-Finish-clause-some
returns-in-Finish-clause-some g c = elim c.in-Finish.is [
  | inl e ↦ (false, told_end _ _ _ _ _ _ c.requires.within c.requires.after c.self.view_is c.index.ensures c.end.ensures (subst (λ (e : Event). Tells e (wire_at c.args.since.value c.args.w) (wire_at c.args.self.now c.args.w)) e c.requires.tells))
  | inr e ↦ (false, told_end _ _ _ _ _ _ c.requires.within c.requires.after c.self.view_is c.index.ensures c.end.ensures (subst (λ (e : Event). Tells e (wire_at c.args.since.value c.args.w) (wire_at c.args.self.now c.args.w)) e c.requires.tells))
]

pub returns-in-Finish-clause-after : goal.returns-in-Finish-clause-after
returns-in-Finish-clause-after g c = elim c.in-Finish.is [
  | inl e ↦ told_brought c.args.since.value c.args.self.now c.args.w (arrived (end_item (wire_at c.args.self.now c.args.w).wire.conn.cause) false) (subst (λ (e : Event). Tells e (wire_at c.args.since.value c.args.w) (wire_at c.args.self.now c.args.w)) e c.requires.tells) c.requires.after refl
  | inr e ↦ told_brought c.args.since.value c.args.self.now c.args.w (arrived (end_item (wire_at c.args.self.now c.args.w).wire.conn.cause) false) (subst (λ (e : Event). Tells e (wire_at c.args.since.value c.args.w) (wire_at c.args.self.now c.args.w)) e c.requires.tells) c.requires.after refl
]
