-- The loop in which the events of an island are handled: it ends, and what is known where it ends without a unit.
use Rattle.std.specs.Prelude.{Option, None, Some}
use Rattle.std.proofs.Common.{◌≡◌, ℕ, zero, suc, ◌+◌, ◌-◌, ◌*◌, ◌<◌, ◌≤◌, Bool, true, false, cond, List, [], ◌∷◌, refl, sym, ap, ◌∙◌, arith}
use Rattle.fused_net.specs.declared.engine.Advance.{Advance}
use Rattle.island_body.specs.Keeping.{has_some, is_pending}
use Rattle.island_body.specs.declared.body.Body.{Body}

-- no wire is queued
pub none_queued : (q : List ℕ) → has_some q ≡ false → q ≡ []
none_queued [] e = refl
none_queued (w ∷ q) e = cc

none_pending : {S D L H B : Type 0} (b : Body S D L H B) → b.island.net.queue ≡ [] → is_pending b ≡ false
none_pending b e = ap has_some e

pub some_left : (a b : ℕ) → a < b → 1 ≤ b - a
some_left a b less = omega (arith, less)

module _ {S D L H B : Type 0} where
  -- no unit was used only where no event was pending
  unused : (top stepped : Body S D L H B) (limit was : ℕ) (a : Advance) → was < limit → (a.used ≡ 0 → stepped ≡ top) → (a.used < limit - was → a.heard ≡ None → stepped.island.net.queue ≡ []) → a.heard ≡ None → a.used ≡ 0 → top.island.net.queue ≡ []
  unused top stepped limit was a less none rest heard z = ap (λ (b : Body S D L H B). b.island.net.queue) (sym (none z)) ∙ rest (omega (arith, z, less)) heard

  -- the loop ends
  pub turns_fewer : (top stepped now : Body S D L H B) (was limit : ℕ) (a : Advance) → was ≤ limit → a.used ≤ limit - was → ((w : ℕ) → a.heard ≡ Some w → 1 ≤ a.used) → (a.used ≡ 0 → stepped ≡ top) → (a.used < limit - was → a.heard ≡ None → stepped.island.net.queue ≡ [])
      → (a.heard ≡ None → (is_pending now ≡ true) × (1 ≤ limit - (was + a.used))) → (limit - (was + a.used)) * 2 + cond (is_pending now) 0 1 < (limit - was) * 2 + cond (is_pending top) 0 1
  turns_fewer top stepped now was limit a within most heard none rest goes = by a.heard refl a.used refl
    where
      by : (h : Option ℕ) → a.heard ≡ h → (u : ℕ) → a.used ≡ u → (limit - (was + a.used)) * 2 + cond (is_pending now) 0 1 < (limit - was) * 2 + cond (is_pending top) 0 1
      by (Some w) e u f = let some = heard w e in used_some (is_pending top) (is_pending now) some
        where
          used_some : (p q : Bool) → 1 ≤ a.used → (limit - (was + a.used)) * 2 + cond q 0 1 < (limit - was) * 2 + cond p 0 1
          used_some true true some = omega (arith, some, within, most)
          used_some true false some = omega (arith, some, within, most)
          used_some false true some = omega (arith, some, within, most)
          used_some false false some = omega (arith, some, within, most)
      by None e u f = let g = goes e in used_none (is_pending top) (is_pending now) refl g.0 u f g.1
        where
          used_none : (p q : Bool) → is_pending top ≡ p → q ≡ true → (u : ℕ) → a.used ≡ u → 1 ≤ limit - (was + a.used) → (limit - (was + a.used)) * 2 + cond q 0 1 < (limit - was) * 2 + cond p 0 1
          used_none p false pt n u f left = absurd (let t : false ≡ true = n in cc)
          used_none false true pt n zero f left = omega (arith, f, left)
          used_none true true pt n zero f left = absurd (let t : true ≡ false = sym pt ∙ none_pending top (unused top stepped limit was a (omega (arith, left)) none rest e f) in cc)
          used_none false true pt n (suc u) f left = omega (arith, f, left)
          used_none true true pt n (suc u) f left = omega (arith, f, left)

  -- what is kept of where it began
  pub same_next : (first top stepped now : Body S D L H B) (from was : ℕ) (a : Advance) → from ≤ was → (was ≡ from → (top.ins ≡ first.ins) × (top.outs ≡ first.outs) × (top.island.net.queue ≡ [] → first.island.net.queue ≡ []))
      → ((w : ℕ) → a.heard ≡ Some w → 1 ≤ a.used) → stepped.ins ≡ top.ins → stepped.outs ≡ top.outs → (a.heard ≡ None → (now.ins ≡ stepped.ins) × (now.outs ≡ stepped.outs)) → (a.heard ≡ None → is_pending now ≡ true)
      → was + a.used ≡ from → (now.ins ≡ first.ins) × (now.outs ≡ first.outs) × (now.island.net.queue ≡ [] → first.island.net.queue ≡ [])
  same_next first top stepped now from was a more same heard ins outs lanes pending z = by a.heard refl
    where
      by : (h : Option ℕ) → a.heard ≡ h → (now.ins ≡ first.ins) × (now.outs ≡ first.outs) × (now.island.net.queue ≡ [] → first.island.net.queue ≡ [])
      by (Some w) e = let some = heard w e in absurd (omega (arith, some, z, more))
      by None e =
          let i = same (omega (arith, z, more)) in
          let l = lanes e in
          (l.0 ∙ ins ∙ i.0, l.1 ∙ outs ∙ i.1, λ q. absurd (let t : true ≡ false = sym (pending e) ∙ none_pending now q in cc))

  -- it ended without a unit
  pub none_done : (first top stepped now : Body S D L H B) (was from limit : ℕ) (a : Advance) → from ≤ was → (was ≡ from → (top.ins ≡ first.ins) × (top.outs ≡ first.outs) × (top.island.net.queue ≡ [] → first.island.net.queue ≡ [])) → was + a.used ≡ from → from < limit
      → (a.used ≡ 0 → stepped ≡ top) → (a.used < limit - was → a.heard ≡ None → stepped.island.net.queue ≡ []) → stepped.ins ≡ top.ins → stepped.outs ≡ top.outs → a.heard ≡ None → (a.heard ≡ None → (now.ins ≡ stepped.ins) × (now.outs ≡ stepped.outs))
      → (now.ins ≡ first.ins) × (now.outs ≡ first.outs) × (first.island.net.queue ≡ [])
  none_done first top stepped now was from limit a more same z less none rest ins outs heard lanes =
      let i = same (omega (arith, z, more)) in
      let l = lanes heard in
      (l.0 ∙ ins ∙ i.0, l.1 ∙ outs ∙ i.1, i.2 (unused top stepped limit was a (omega (arith, z, more, less)) none rest heard (omega (arith, z, more))))
