-- What the helpers of a partition do.
use Rattle.std.proofs.Common.{◌≡◌, ℕ, ◌+◌, false, List, [], ◌∷◌, refl, sym, ap, ◌∙◌, subst, None, Some}
use Rattle.std.specs.Prelude.{Option, Ok, Err}
use Rattle.elem_core.specs.Tree.{Tree}
use Rattle.elem_core.specs.Values.{map_value, part_of}
use Rattle.elem_core.specs.declared.why.Why.{Why}
use Rattle.port_core.specs.declared.act.Act.{Act}
use Rattle.port_core.specs.declared.act.Act.TheVariants.{Push, Cancel, FailOut}
use Rattle.stage_core.specs.OpenOuts.{at_open}
use Rattle.stage_out.specs.PartitionStates.{PartitionLogic, TookFor, moved_on, moving_acts, Noted, AskedOf, gets, notes, PassedOver, dropped, kept_on, Dealt, Served, dealt, blamed}

pub took_by : (j : ℕ) (old new : PartitionLogic) (h : Option Tree) → old.to ≡ j → h ≡ old.held → new ≡ record old { held = None } → TookFor j old new h
took_by j old new (Some t) e h n = (e, sym h, n)
took_by j old new None e h n = (λ x. sym h, n ∙ ap (λ (k : Option Tree). record old { held = k }) h)

pub got : (j : ℕ) (old mid new : PartitionLogic) (acts : List Act) (r : Option Tree) (t : Tree) → TookFor j old mid r → r ≡ Some t → new ≡ moved_on mid.over mid → acts ≡ Push j t ∷ moving_acts mid.over mid → AskedOf j old new acts
got j old mid new acts r t k is n a = let x : TookFor j old mid (Some t) = subst (λ o. TookFor j old mid o) is k in
    gets t x.0 x.1 (subst (λ (m : PartitionLogic). new ≡ moved_on m.over m) x.2 n) (subst (λ (m : PartitionLogic). acts ≡ Push j t ∷ moving_acts m.over m) x.2 a)

pub got_none : (j : ℕ) (old mid new : PartitionLogic) (acts : List Act) (r : Option Tree) → TookFor j old mid r → r ≡ None → Noted j mid new acts → AskedOf j old new acts
got_none j old mid new acts r k is n = let x : TookFor j old mid None = subst (λ o. TookFor j old mid o) is k in
    notes x.0 (subst (λ m. Noted j m new acts) x.1 n)

pub over_some : (j : ℕ) (old mid new : PartitionLogic) (acts : List Act) (r : Option Tree) (t : Tree) → TookFor j old mid r → r ≡ Some t → new ≡ moved_on mid.over mid → acts ≡ moving_acts mid.over mid → PassedOver j old new acts
over_some j old mid new acts r t k is n a = let x : TookFor j old mid (Some t) = subst (λ o. TookFor j old mid o) is k in
    dropped t x.0 x.1 (subst (λ (m : PartitionLogic). new ≡ moved_on m.over m) x.2 n) (subst (λ (m : PartitionLogic). acts ≡ moving_acts m.over m) x.2 a)

pub over_none : (j : ℕ) (old mid : PartitionLogic) (r : Option Tree) → TookFor j old mid r → r ≡ None → PassedOver j old mid []
over_none j old mid r k is = let x : TookFor j old mid None = subst (λ o. TookFor j old mid o) is k in kept_on x.0 x.1 refl

pub dealt_by : (t : Tree) (old mid new : PartitionLogic) (acts : List Act) (n p : ℕ) → n ≡ old.taken + 1 → mid ≡ record old { taken = n } → part_of old.parts (map_value old.fun t) ≡ Ok p → Dealt p t mid new acts → Served t old new acts
dealt_by t old mid new acts n p e m is d = dealt p is (subst (λ (x : PartitionLogic). Dealt p t x new acts) (m ∙ ap (λ k. record old { taken = k }) e) d)

pub blamed_by : (t : Tree) (old new : PartitionLogic) (acts : List Act) (n : ℕ) (why : Why) → n ≡ old.taken + 1 → part_of old.parts (map_value old.fun t) ≡ Err why → new ≡ record old { live = false }
    → acts ≡ Cancel 0 ∷ at_open (λ j. FailOut j (record { stage = old.node; nth = n; why = why })) 0 old.outs → Served t old new acts
blamed_by t old new acts n why e is m a = blamed why is m (a ∙ ap (λ (k : ℕ). Cancel 0 ∷ at_open (λ j. FailOut j (record { stage = old.node; nth = k; why = why })) 0 old.outs) e)
