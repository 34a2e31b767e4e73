-- The outputs of a balance: what is known of them, one action at each that is open, and what it gives.
use Rattle.std.specs.Prelude.{◌==◌, if◌then◌else◌, slice_get, slice_set, slice_index_or}
use Rattle.std.proofs.Common.{◌≡◌, ℕ, zero, suc, ◌+◌, ◌<◌, Bool, true, false, List, [], ◌∷◌, ◌++◌, length, map, refl, sym, ap, ◌∙◌, subst, arith, append_assoc, length-append, Some}
use Rattle.std.proofs.lemmas.Bool.Decides.{nat_tests}
use Rattle.elem_core.specs.declared.item.Item.{Item}
use Rattle.port_core.specs.declared.act.Act.{Act}
use Rattle.port_core.specs.declared.view.InView.{InView}
use Rattle.port_core.specs.declared.view.OutView.{OutView}
use Rattle.port_core.specs.declared.view.OutView.TheVariants.{Unpulled, Available, Closed, Cancelled}
use Rattle.port_core.specs.View.{View, out_at, with_out, IsOutOpen, ActAllowed, ActsAllowed, acted, acted_all}
use Rattle.port_core.specs.Asking.{PullsStand}
use Rattle.port_core.specs.Call.{given_by, given_on}
use Rattle.stage_core.specs.Handling.{Pulls}
use Rattle.stage_core.specs.declared.outs.OutputState.{OutputState}
use Rattle.stage_core.specs.declared.outs.OutputState.TheVariants.{Quiet, Asks, Gone}
use Rattle.stage_core.specs.OpenOuts.{want_view, at_open}
use Rattle.stage_out.specs.Balancings.{is_gone}
use Rattle.stage_core.proofs.OutViews.{after_one, set_behind, at_behind}
use Rattle.stage_core.proofs.Flags.{other}

-- ---- views

pub view_twice : (ys : List OutView) (j : ℕ) (a b : OutView) → slice_set (slice_set ys j a) j b ≡ slice_set ys j b
view_twice [] j a b = refl
view_twice (y ∷ ys) zero a b = refl
view_twice (y ∷ ys) (suc j) a b = ap (λ (l : List OutView). y ∷ l) (view_twice ys j a b)

-- what is known of the output at its place
pub view_at : (ws : List OutputState) (j : ℕ) (w : OutputState) → slice_get ws j ≡ Some w → slice_index_or (map want_view ws) j Closed ≡ want_view w
view_at [] j w h = cc
view_at (x ∷ ws) zero w h = let e : x ≡ w = cc in ap want_view e
view_at (x ∷ ws) (suc j) w h = view_at ws j w h

-- once it is asked
pub asked_at : (ws : List OutputState) (j : ℕ) (w : OutputState) → slice_get ws j ≡ Some w → slice_index_or (slice_set (map want_view ws) j Available) j Closed ≡ Available
asked_at [] j w h = cc
asked_at (x ∷ ws) zero w h = refl
asked_at (x ∷ ws) (suc j) w h = asked_at ws j w h

-- ---- an action at each open output

-- the actions, and what is known then
pub record Acted (v : View) (acts : List Act) (outs : List OutView) : Type 0 where
  pub allowed : ActsAllowed v acts
  pub then_is : acted_all v acts ≡ record { ins = v.ins; outs = outs }
  pub stands : PullsStand acts
  pub quiet : Pulls acts → ⊥

module _ (act : ℕ → Act) (may : (v : View) (n : ℕ) → IsOutOpen (out_at v n) → ActAllowed v (act n)) (moves : (v : View) (n : ℕ) → acted v (act n) ≡ with_out v n Closed)
    (stand : (n : ℕ) (acts : List Act) → PullsStand acts → PullsStand (act n ∷ acts)) (none : (n : ℕ) (acts : List Act) → (Pulls acts → ⊥) → Pulls (act n ∷ acts) → ⊥) (ins : List InView) where
  one_more : (x : OutView) (n : ℕ) (before rest : List OutView) (acts : List Act) (then_outs : List OutView) → length before ≡ n → IsOutOpen x
      → Acted (record { ins = ins; outs = (before ++ Closed ∷ []) ++ rest }) acts ((before ++ Closed ∷ []) ++ then_outs) → Acted (record { ins = ins; outs = before ++ x ∷ rest }) (act n ∷ acts) (before ++ Closed ∷ then_outs)
  one_more x n before rest acts then_outs h p r =
      let at : slice_index_or (before ++ x ∷ rest) n Closed ≡ x = at_behind before rest x n h in
      let e : slice_set (before ++ x ∷ rest) n Closed ≡ (before ++ Closed ∷ []) ++ rest = set_behind before rest x Closed n h ∙ sym (append_assoc before (Closed ∷ []) rest) in
      let moved : acted (record { ins = ins; outs = before ++ x ∷ rest }) (act n) ≡ record { ins = ins; outs = (before ++ Closed ∷ []) ++ rest } =
      moves (record { ins = ins; outs = before ++ x ∷ rest }) n ∙ ap (λ (ys : List OutView). record { ins = ins; outs = ys }) e in
      record {
        allowed = (may (record { ins = ins; outs = before ++ x ∷ rest }) n (subst IsOutOpen (sym at) p), subst (λ (v : View). ActsAllowed v acts) (sym moved) r.allowed);
        then_is = ap (λ (v : View). acted_all v acts) moved ∙ r.then_is ∙ ap (λ (ys : List OutView). record { ins = ins; outs = ys }) (append_assoc before (Closed ∷ []) then_outs);
        stands = stand n acts r.stands;
        quiet = none n acts r.quiet;
      }

  longer : (before : List OutView) (z : OutView) (n : ℕ) → length before ≡ n → length (before ++ z ∷ []) ≡ n + 1
  longer before z n h = let l = length-append before (z ∷ []) in omega (arith, l, h)

  pub acts_from : (ws : List OutputState) (n : ℕ) (before : List OutView) → length before ≡ n
      → Acted (record { ins = ins; outs = before ++ map want_view ws }) (at_open act n ws) (before ++ map (after_one Closed) ws)
  acts_from [] n before h = record { allowed = tt; then_is = refl; stands = tt; quiet = λ p. p }
  acts_from (Quiet ∷ ws) n before h = one_more Unpulled n before (map want_view ws) (at_open act (n + 1) ws) (map (after_one Closed) ws) h tt (acts_from ws (n + 1) (before ++ Closed ∷ []) (longer before Closed n h))
  acts_from (Asks ∷ ws) n before h = one_more Available n before (map want_view ws) (at_open act (n + 1) ws) (map (after_one Closed) ws) h tt (acts_from ws (n + 1) (before ++ Closed ∷ []) (longer before Closed n h))
  acts_from (Gone ∷ ws) n before h =
      let r = acts_from ws (n + 1) (before ++ Cancelled ∷ []) (longer before Cancelled n h) in
      let e : (before ++ Cancelled ∷ []) ++ map want_view ws ≡ before ++ Cancelled ∷ map want_view ws = append_assoc before (Cancelled ∷ []) (map want_view ws) in
      let f : (before ++ Cancelled ∷ []) ++ map (after_one Closed) ws ≡ before ++ Cancelled ∷ map (after_one Closed) ws = append_assoc before (Cancelled ∷ []) (map (after_one Closed) ws) in
      subst (λ (ys : List OutView). Acted (record { ins = ins; outs = before ++ Cancelled ∷ map want_view ws }) (at_open act (n + 1) ws) ys) f
      (subst (λ (xs : List OutView). Acted (record { ins = ins; outs = xs }) (at_open act (n + 1) ws) ((before ++ Cancelled ∷ []) ++ map (after_one Closed) ws)) e r)

-- ---- what is given

number : (n k : ℕ) → (n == k) ≡ true → n ≡ k
number n k e = grind (arith, nat_tests)

-- at an output nothing is given, or the one item
pub data GivenAt (x : Item) (out : List Item) : Type 0 where
  nothing_here : out ≡ [] → GivenAt x out
  one_here : out ≡ x ∷ [] → GivenAt x out

module _ (act : ℕ → Act) (it : Item) (gives : (k n : ℕ) → given_by k (act n) ≡ (if n == k then it ∷ [] else [])) where
  none_before : (k n : ℕ) (ws : List OutputState) → k < n → given_on k (at_open act n ws) ≡ []
  none_before k n [] h = refl
  none_before k n (Gone ∷ ws) h = none_before k (n + 1) ws (omega (arith, h))
  none_before k n (Quiet ∷ ws) h =
      let x : (n == k) ≡ false = other n k (λ e. absurd (omega (arith, h, e))) in
      ap (λ (l : List Item). l ++ given_on k (at_open act (n + 1) ws)) (gives k n ∙ ap (λ b. if b then it ∷ [] else []) x) ∙ none_before k (n + 1) ws (omega (arith, h))
  none_before k n (Asks ∷ ws) h =
      let x : (n == k) ≡ false = other n k (λ e. absurd (omega (arith, h, e))) in
      ap (λ (l : List Item). l ++ given_on k (at_open act (n + 1) ws)) (gives k n ∙ ap (λ b. if b then it ∷ [] else []) x) ∙ none_before k (n + 1) ws (omega (arith, h))

  -- an output that is gone is given nothing
  pub gone_given : (k m n : ℕ) (ws : List OutputState) → n + k ≡ m → is_gone (slice_index_or ws k Gone) ≡ true → given_on m (at_open act n ws) ≡ []
  gone_given k m n [] e h = refl
  gone_given zero m n (Quiet ∷ ws) e h = cc
  gone_given zero m n (Asks ∷ ws) e h = cc
  gone_given zero m n (Gone ∷ ws) e h = none_before m (n + 1) ws (omega (arith, e))
  gone_given (suc k) m n (Gone ∷ ws) e h = gone_given k m (n + 1) ws (omega (arith, e)) h
  gone_given (suc k) m n (Quiet ∷ ws) e h =
      let x : (n == m) ≡ false = other n m (λ i. absurd (omega (arith, e, i))) in
      ap (λ (l : List Item). l ++ given_on m (at_open act (n + 1) ws)) (gives m n ∙ ap (λ b. if b then it ∷ [] else []) x) ∙ gone_given k m (n + 1) ws (omega (arith, e)) h
  gone_given (suc k) m n (Asks ∷ ws) e h =
      let x : (n == m) ≡ false = other n m (λ i. absurd (omega (arith, e, i))) in
      ap (λ (l : List Item). l ++ given_on m (at_open act (n + 1) ws)) (gives m n ∙ ap (λ b. if b then it ∷ [] else []) x) ∙ gone_given k m (n + 1) ws (omega (arith, e)) h

  here : (k n : ℕ) (ws : List OutputState) (b : Bool) → (n == k) ≡ b → GivenAt it (given_on k (at_open act (n + 1) ws)) → GivenAt it (given_by k (act n) ++ given_on k (at_open act (n + 1) ws))
  here k n ws false e r =
      subst (λ (l : List Item). GivenAt it (l ++ given_on k (at_open act (n + 1) ws))) (sym (gives k n ∙ ap (λ b. if b then it ∷ [] else []) e)) r
  here k n ws true e r =
      let same_port : n ≡ k = number n k e in
      let z : given_on k (at_open act (n + 1) ws) ≡ [] = none_before k (n + 1) ws (omega (arith, same_port)) in
      one_here (ap (λ (l : List Item). l ++ given_on k (at_open act (n + 1) ws)) (gives k n ∙ ap (λ b. if b then it ∷ [] else []) e) ∙ ap (λ (l : List Item). it ∷ l) z)

  pub given_each : (k n : ℕ) (ws : List OutputState) → GivenAt it (given_on k (at_open act n ws))
  given_each k n [] = nothing_here refl
  given_each k n (Gone ∷ ws) = given_each k (n + 1) ws
  given_each k n (Quiet ∷ ws) = here k n ws (n == k) refl (given_each k (n + 1) ws)
  given_each k n (Asks ∷ ws) = here k n ws (n == k) refl (given_each k (n + 1) ws)
