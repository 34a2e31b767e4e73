-- Seats that are put together have what each of them had.
use Rattle.std.proofs.Common.{◌≡◌, ℕ, zero, suc, ◌<◌, ◌≢◌, ◌⊎◌, List, [], ◌∷◌, ◌++◌, length, get_or, sym, refl, ap, ◌∙◌, subst, inl, inr, ⊎_elim, arith, Option, Some, None, IfSome}
use mathlib.Core.Logic.{dite}
use native.Mathlib.Decide.{ℕ_discrete}
use Rattle.std.specs.List.{All}
use Rattle.atomic_table.specs.Seated.{TableId}
use Rattle.stage_switch.specs.declared.order.Order.{Order}
use Rattle.stage_switch.specs.declared.order.Order.TheVariants.{Shutdown, Abort}
use Rattle.stage_switch.specs.declared.known.Known.{Known}
use Rattle.stage_switch.specs.Rule.{known, code, orders_at, first_order, AllAre, Sat}
use Rattle.stage_switch.specs.Public.{SwitchState, SeatState, HasOrder, GaveIt, Gathers}

has_left : (o : Order) (os ps : List Order) → HasOrder o os → HasOrder o (os ++ ps)
has_left o [] ps h = absurd h
has_left o (p ∷ os) ps (inl e) = inl e
has_left o (p ∷ os) ps (inr h) = inr (has_left o os ps h)

has_right : (o : Order) (os ps : List Order) → HasOrder o ps → HasOrder o (os ++ ps)
has_right o [] ps h = h
has_right o (p ∷ os) ps h = inr (has_right o os ps h)

-- the first is one of them
has_first : (os : List Order) → IfSome (first_order os) (λ o. HasOrder o os)
has_first [] = tt
has_first (o ∷ os) = inl refl

known_left : (m : Option Order) (os ps : List Order) → IfSome m (λ o. HasOrder o os) → IfSome m (λ o. HasOrder o (os ++ ps))
known_left None os ps h = h
known_left (Some o) os ps h = has_left o os ps h

known_right : (m : Option Order) (os ps : List Order) → IfSome m (λ o. HasOrder o ps) → IfSome m (λ o. HasOrder o (os ++ ps))
known_right None os ps h = h
known_right (Some o) os ps h = has_right o os ps h

both_empty : (os ps : List Order) → os ≡ [] → ps ≡ [] → os ++ ps ≡ []
both_empty [] ps a b = b
both_empty (o ∷ os) ps a b = cc

-- a seat as contracts see it

abbrev pub seat_view : TableId → Known → SeatState
seat_view z k = record { switch = record { id = z; seats = k.all }; gave = first_order k.gave; knows = first_order k.knows; looks = k.looks }

-- what a seat knows, by its parts
pub sat_is : (m : Sat) (seats : ℕ) → m.0.all ≡ seats → m.0.gave ≡ [] → m.0.knows ≡ [] → m.0.looks ≡ 0 → m.1 ≡ [] → m ≡ (known m.0.parts seats [] [] 0, [])
sat_is m seats a b c d e = λ i. (known m.0.parts (a i) (b i) (c i) (d i), e i)

pub new_view : (z : TableId) (m : Sat) (s : SwitchState) (parts : ℕ) → z ≡ s.id → m ≡ (known parts s.seats [] [] 0, []) → seat_view z m.0 ≡ record { switch = s; gave = None; knows = None; looks = 0 }
new_view z m s parts a b = λ i. seat_view (a i) (b i).0

-- gathering

given_one : (gave : List Order) → (gave ≡ []) ⊎ ((o : Order) × (HasOrder o gave × (first_order gave ≡ Some o)))
given_one [] = inl refl
given_one (o ∷ os) = inr (o, (inl refl, refl))

pub gathers_one : (k : Known) (s : SeatState) → first_order k.gave ≡ s.gave → first_order k.knows ≡ s.knows → Gathers k (s ∷ [])
gathers_one k s a b = record { known = λ j d less. at j d less; given = ⊎_elim (λ e. inl e) (λ t. inr (t.0, (t.1.0, inl (sym a ∙ t.1.1)))) (given_one k.gave) }
  where
    at : (j : ℕ) (d : SeatState) → j < 1 → IfSome (get_or (s ∷ []) j d).knows (λ o. HasOrder o k.knows)
    at zero d less = subst (λ (m : Option Order). IfSome m (λ o. HasOrder o k.knows)) b (has_first k.knows)
    at (suc j) d less = absurd (omega arith)

pub gathers_more : (k u w : Known) (s : SeatState) (ss : List SeatState) → w.gave ≡ k.gave ++ u.gave → w.knows ≡ k.knows ++ u.knows → first_order u.gave ≡ s.gave → first_order u.knows ≡ s.knows → Gathers k ss → Gathers w (s ∷ ss)
gathers_more k u w s ss wg wk a b g = record {
  known = λ j d less. subst (λ (os : List Order). IfSome (get_or (s ∷ ss) j d).knows (λ o. HasOrder o os)) (sym wk) (at j d less);
  given = subst (λ (os : List Order). (os ≡ []) ⊎ ((o : Order) × (HasOrder o os × GaveIt o (s ∷ ss)))) (sym wg) (⊎_elim none_yet (λ t. inr (t.0, (has_left t.0 k.gave u.gave t.1.0, inr t.1.1))) g.given);
}
  where
    at : (j : ℕ) (d : SeatState) → j < suc (length ss) → IfSome (get_or (s ∷ ss) j d).knows (λ o. HasOrder o (k.knows ++ u.knows))
    at zero d less = subst (λ (m : Option Order). IfSome m (λ o. HasOrder o (k.knows ++ u.knows))) b (known_right (first_order u.knows) k.knows u.knows (has_first u.knows))
    at (suc j) d less = known_left (get_or ss j d).knows k.knows u.knows (g.known j d (omega arith))

    none_yet : k.gave ≡ [] → (k.gave ++ u.gave ≡ []) ⊎ ((o : Order) × (HasOrder o (k.gave ++ u.gave) × GaveIt o (s ∷ ss)))
    none_yet e = ⊎_elim (λ f. inl (both_empty k.gave u.gave e f)) (λ t. inr (t.0, (has_right t.0 k.gave u.gave t.1.0, inl (sym a ∙ t.1.1)))) (given_one u.gave)

-- what settle tells

is_first : (o : Order) (r : ℕ) → code o ≡ r → first_order (orders_at r) ≡ Some o
is_first Shutdown r e = subst (λ (n : ℕ). first_order (orders_at n) ≡ Some Shutdown) e refl
is_first Abort r e = subst (λ (n : ℕ). first_order (orders_at n) ≡ Some Abort) e refl

is_word : (r : ℕ) (os : List Order) (o : Order) → AllAre r os → HasOrder o os → code o ≡ r
is_word r [] o a h = absurd h
is_word r (p ∷ os) o a (inl e) = ap code (sym e) ∙ a.0
is_word r (p ∷ os) o a (inr h) = is_word r os o a.1 h

pub settled_known : (r : ℕ) (k : Known) (ss : List SeatState) (result : Option Order) → result ≡ first_order (orders_at r) → AllAre r k.knows → Gathers k ss → All (λ (s : SeatState). IfSome s.knows (λ o. result ≡ Some o)) ss
settled_known r k ss result is a g = λ j d less. by (get_or ss j d).knows (g.known j d less)
  where
    by : (m : Option Order) → IfSome m (λ o. HasOrder o k.knows) → IfSome m (λ o. result ≡ Some o)
    by None h = h
    by (Some o) h = is ∙ is_first o r (is_word r k.knows o a h)

pub settled_given : (r : ℕ) (k : Known) (ss : List SeatState) (result : Option Order) → result ≡ first_order (orders_at r) → AllAre r k.gave → (r ≢ 0 → k.gave ≢ []) → Gathers k ss → IfSome result (λ o. GaveIt o ss)
settled_given r k ss result is a some g = ⊎_elim
    (λ e. dite (ℕ_discrete r 0) (λ z. subst (λ (m : Option Order). IfSome m (λ o. GaveIt o ss)) (sym (is ∙ ap (λ (n : ℕ). first_order (orders_at n)) z)) tt) (λ n. absurd (some n e)))
    (λ t. subst (λ (m : Option Order). IfSome m (λ o. GaveIt o ss)) (sym (is ∙ is_first t.0 r (is_word r k.gave t.0 a t.1.0))) t.1.1)
    g.given

pub popped : {A : Type 0} (P : A → Type 0) (r : Option A) (x : A) → IfSome r P → r ≡ Some x → P x
popped {A} P r x p e = subst (λ (o : Option A). IfSome o P) e p
