-- The goals of `body::Body::put_off` that the search leaves.
use Rattle.std.proofs.Common.{◌≡◌, ◌∙◌, sym, true, false}
use Rattle.fused_net.proofs.Going.{uses_none}
use Rattle.island_body.specs.Lasting.{goes_still}
use Rattle.island_body.proofs.body.Body.put_off.Goals as goal

pub returns-then-is_pending-clause-goes : goal.returns-then-is_pending-clause-goes
returns-then-is_pending-clause-goes g c = goes_still _

pub returns-then-is_pending-clause-uses : goal.returns-then-is_pending-clause-uses
returns-then-is_pending-clause-uses g c = uses_none _

pub returns-then-is_pending-clause-calm : goal.returns-then-is_pending-clause-calm
returns-then-is_pending-clause-calm g c = λ none. absurd (let t : true ≡ false = sym c.if-is_pending.true ∙ (c.is_pending.ensures ∙ none) in cc)

pub returns-clause-some : goal.returns-clause-some
returns-clause-some g c = λ p. absurd (let t : true ≡ false = sym p ∙ (sym c.is_pending.ensures ∙ c.if-is_pending.false) in cc)
