-- The queue of the wires that have an event, as one is taken out.
use Rattle.std.proofs.Common.{◌≡◌, ◌⊎◌, inl, inr, ℕ, ◌<◌, false, Option, None, Some, List, [], ◌∷◌, ◌++◌, refl, sym, ap, ◌∙◌, subst, append-nil}
use Rattle.std.specs.Option.{option_to_list}
use Rattle.std.specs.Prelude.{length, IfNone, IfSome}
use Rattle.port_core.specs.Ring.{is_queued}
use Rattle.fused_net.specs.Net.{Net, Takes}
use Rattle.fused_net.specs.Queue.{Queue, waiting, chase_queued, Chases, Dequeues}

settled_waits : (q : Queue) → waiting (chase_queued q) ≡ waiting q
settled_waits q = append-nil (waiting q)

-- a queue in which no wire is chased
none_waits : (q : Queue) → q.chased ≡ None → waiting q ≡ q.ring
none_waits q e = ap (λ (c : Option ℕ). q.ring ++ option_to_list c) e ∙ append-nil q.ring

-- which end of the list the next wire stood at
chases_last : (old new : Queue) (w : ℕ) → Chases old w new → waiting old ≡ waiting new ++ w ∷ []
chases_last old new w c =
    ap (λ (x : Option ℕ). old.ring ++ option_to_list x) c.was
    ∙ ap (λ (xs : List ℕ). xs ++ w ∷ []) (sym (append-nil old.ring) ∙ sym (ap waiting c.is))

dequeues_first : (old new : Queue) (w : ℕ) → Dequeues old w new → waiting old ≡ w ∷ waiting new
dequeues_first old new w d = d.first ∙ ap (λ (xs : List ℕ). w ∷ xs) (sym (none_waits new (ap (λ (q : Queue). q.chased) d.is)))

stood : (old new : Queue) (w : ℕ) → Chases old w new ⊎ Dequeues old w new → (waiting old ≡ w ∷ waiting new) ⊎ (waiting old ≡ waiting new ++ w ∷ [])
stood old new w (inl c) = inr (chases_last old new w c)
stood old new w (inr d) = inl (dequeues_first old new w d)

-- in the graph, of which this is the queue
module _ {N : Type 0} where
  pub next_none : (net v new : Net N) (q r : Queue) (x : Option ℕ) → v ≡ net → v.queue ≡ waiting q → new ≡ record v { queue = waiting r } → IfNone x ((waiting q ≡ []) × (r ≡ chase_queued q)) → IfNone x ((net.queue ≡ []) × (new ≡ net))
  next_none net v new q r (Some w) e at is h = tt
  next_none net v new q r None e at is h = (
    sym (ap (λ (a : Net N). a.queue) e) ∙ at ∙ h.0,
    is ∙ ap (λ (xs : List ℕ). record v { queue = xs }) (ap waiting h.1 ∙ settled_waits q ∙ sym at) ∙ e,
  )

  pub next_some : (net v new : Net N) (q r : Queue) (x : Option ℕ) → v ≡ net → v.queue ≡ waiting q → new ≡ record v { queue = waiting r } → r.size ≡ length v.wires → IfSome x (λ w. Chases q w r ⊎ Dequeues q w r) → IfSome x (λ w. (w < r.size) × (is_queued (waiting r) w ≡ false))
      → IfSome x (λ w. (w < length new.wires) × ((is_queued new.queue w ≡ false) × Takes net w new))
  next_some net v new q r None e at is size some once = tt
  next_some net v new q r (Some w) e at is size some once =
      let within : w < length v.wires = rw size at once.0 in
      let ends : (v.queue ≡ w ∷ waiting r) ⊎ (v.queue ≡ waiting r ++ w ∷ []) = elim (stood q r w some) [ inl s ↦ inl (at ∙ s) | inr s ↦ inr (at ∙ s) ] in
      let takes : Takes v w (record v { queue = waiting r }) = record { is = refl; stood = ends } in
      rw is (within, (once.1, subst (λ (a : Net N). Takes a w (record v { queue = waiting r })) e takes))
