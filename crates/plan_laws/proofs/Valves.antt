-- A valve that has not made its moves gave no more than they count; one that made them made its plan.
use Rattle.std.specs.Prelude.{◌-◌}
use Rattle.std.proofs.Common.{◌≡◌, ℕ, ◌+◌, ◌≤◌, List, [], ◌∷◌, ◌++◌, length, take, sym, ap, ◌∙◌, subst, arith, append-nil, inl, inr, ◌⊎◌}
use Rattle.std.proofs.Math.Seq.{take-append-add}
use Rattle.elem_core.specs.Prefix.{IsPrefix}
use Rattle.elem_core.specs.Tree.{Tree}
use Rattle.elem_core.proofs.Prefixes.{prefix_trans}
use Rattle.stream_model.specs.Outlook.{Outlook, End, Agrees}
use Rattle.stream_model.specs.FanIn.{Inflow}
use Rattle.stream_model.specs.Picks.{Acted, untouched, completed, aborted, acted, acted_outlook, valve_outlook, ValveStands}
use Rattle.stream_model.proofs.PickTraces.{agrees_prefix, valve_trace}
use Rattle.plan_laws.specs.Sure.{HeldTo}

-- a first part that is no longer than k is one of the first k
first_of : (g l : List Tree) (k : ℕ) → IsPrefix g l → length g ≤ k → IsPrefix g (take k l)
first_of g l k p h =
    let more : k ≡ length g + (k - length g) = omega (arith, h) in
    record {
      rest = take (k - length g) p.rest;
      is = ap (λ (x : List Tree). take k x) p.is ∙ (ap (λ (m : ℕ). take m (g ++ p.rest)) more ∙ take-append-add g p.rest (k - length g));
    }

module _ (node : ℕ) (o : Outlook) (f : Inflow) (g : List Tree) (a : Agrees o f.list f.end) where
  -- one that acted by none of its moves yet
  not_yet : (d : Acted) (e : End) → HeldTo d g e → ValveStands node untouched f g e → Agrees (acted_outlook node d o) g e
  not_yet untouched e h s = valve_trace node untouched o f g e a s
  not_yet (completed k) e h s =
      subst (λ (x : End). Agrees (acted_outlook node (completed k) o) g x) (sym h.0)
      (first_of g o.list k (prefix_trans (subst (λ (x : End). ValveStands node untouched f g x) h.0 s) (agrees_prefix o f.list f.end a)) h.1)
  not_yet (aborted k) e h s =
      subst (λ (x : End). Agrees (acted_outlook node (aborted k) o) g x) (sym h.0)
      (first_of g o.list k (prefix_trans (subst (λ (x : End). ValveStands node untouched f g x) h.0 s) (agrees_prefix o f.list f.end a)) h.1)

  pub valve_serves : (made rest : List ℕ) (e : End) → ((made ≡ []) × HeldTo (acted rest) g e) ⊎ (rest ≡ []) → ValveStands node (acted made) f g e → Agrees (valve_outlook node (made ++ rest) o) g e
  valve_serves made rest e (inl h) s =
      subst (λ (ms : List ℕ). Agrees (valve_outlook node (ms ++ rest) o) g e) (sym h.0)
      (not_yet (acted rest) e h.1 (subst (λ (ms : List ℕ). ValveStands node (acted ms) f g e) h.0 s))
  valve_serves made rest e (inr h) s =
      subst (λ (ms : List ℕ). Agrees (valve_outlook node ms o) g e) (sym (ap (λ (r : List ℕ). made ++ r) h ∙ append-nil made)) (valve_trace node (acted made) o f g e a s)
