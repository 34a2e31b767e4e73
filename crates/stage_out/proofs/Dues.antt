-- What the outputs of a partition owe, and turns at them.
use Rattle.std.specs.Prelude.{◌==◌, if◌then◌else◌, slice_get, slice_set, slice_index_or, Ok, Err}
use Rattle.std.proofs.Common.{◌≡◌, ◌≢◌, ℕ, zero, suc, ◌+◌, ◌⊎◌, inl, inr, Bool, true, false, List, [], ◌∷◌, length, refl, sym, ap, ◌∙◌, subst, arith, Some}
use Rattle.elem_core.specs.Tree.{Tree}
use Rattle.elem_core.specs.Values.{map_value, part_of}
use Rattle.elem_core.specs.declared.why.Cause.{Cause}
use Rattle.elem_core.specs.declared.why.Why.{Why}
use Rattle.elem_core.specs.declared.why.Decider.TheVariants.{Stop}
use Rattle.elem_core.specs.declared.function.MapFn.{MapFn}
use Rattle.elem_core.specs.declared.item.Item.{Item}
use Rattle.elem_core.specs.declared.item.Item.TheVariants as item
use Rattle.port_core.specs.declared.act.Act.{Act}
use Rattle.port_core.specs.declared.act.Act.TheVariants.{Complete, FailOut}
use Rattle.port_core.specs.Call.{Call, starts, pulls, arrives, cancels, given_by, given_on}
use Rattle.stream_model.specs.Machine.{State, going, done, Machine}
use Rattle.stream_model.specs.Linear.{Book, Stage, numbering, linear}
use Rattle.stage_core.specs.Held.{Held, shut}
use Rattle.stage_core.specs.Turn.{TurnAt}
use Rattle.stage_core.specs.Outs.{TurnsAt}
use Rattle.stage_core.specs.declared.outs.OutputState.{OutputState}
use Rattle.stage_core.specs.declared.outs.OutputState.TheVariants.{Quiet, Asks, Gone}
use Rattle.stage_core.specs.OpenOuts.{at_open}
use Rattle.stage_out.specs.PartitionStates.{PartitionLogic, due_of, dealers, dues, pull_by}
use Rattle.stage_out.proofs.Wants.{same, other, later, first, given_one, BringsNone}
use Rattle.stage_out.proofs.Partitions.{given_here, held_here, counted_here, blamed_here, ends_here, end_waits, failure_drops}

pub get_of : (ws : List OutputState) (i : ℕ) (w : OutputState) → slice_get ws i ≡ Some w → slice_index_or ws i Gone ≡ w
get_of [] i w h = cc
get_of (x ∷ ws) zero w h = cc
get_of (x ∷ ws) (suc i) w h = get_of ws i w h

pub same_get : (ws : List OutputState) (i : ℕ) (w v : OutputState) → slice_get ws i ≡ Some w → slice_get ws i ≡ Some v → w ≡ v
same_get ws i w v h k = sym (get_of ws i w h) ∙ get_of ws i v k

-- one output of a list is another then
pub set_at : (ws : List OutputState) (j i : ℕ) (x w v : OutputState) → slice_get ws i ≡ Some w → slice_get (slice_set ws j x) i ≡ Some v → ((j ≡ i) × (v ≡ x)) ⊎ ((j ≢ i) × (v ≡ w))
set_at [] j i x w v h k = cc
set_at (y ∷ ws) zero zero x w v h k = inl (refl, cc)
set_at (y ∷ ws) zero (suc i) x w v h k = inr (λ e. absurd (omega (arith, e)), same_get ws i v w k h)
set_at (y ∷ ws) (suc j) zero x w v h k = inr (λ e. absurd (omega (arith, e)), cc)
set_at (y ∷ ws) (suc j) (suc i) x w v h k = by_rest (set_at ws j i x w v h k)
  where
    by_rest : ((j ≡ i) × (v ≡ x)) ⊎ ((j ≢ i) × (v ≡ w)) → ((suc j ≡ suc i) × (v ≡ x)) ⊎ ((suc j ≢ suc i) × (v ≡ w))
    by_rest (inl (e, p)) = inl (ap suc e, p)
    by_rest (inr (n, p)) = inr (λ e. n (omega (arith, e)), p)

-- ---- what is given

pub pull_given : (q m : ℕ) → given_on m (pull_by q) ≡ []
pull_given zero m = refl
pull_given (suc q) m = let x : (suc q == 0) ≡ false = other (suc q) 0 (λ e. absurd (omega (arith, e))) in rw x refl

module _ (act : ℕ → Act) (it : ℕ → Item) (gives : (k n : ℕ) → given_by k (act n) ≡ (if n == k then it n ∷ [] else [])) where
  pub open_given : (ws : List OutputState) (n i m : ℕ) (w : OutputState) → n + i ≡ m → slice_get ws i ≡ Some w → given_on m (at_open act n ws) ≡ given_one act it gives m w
  open_given [] n i m w e h = cc
  open_given (y ∷ ws) n zero m w e h =
      let q : n ≡ m = omega (arith, e) in
      let y_is : y ≡ w = cc in
      subst (λ k. given_on k (at_open act n (y ∷ ws)) ≡ given_one act it gives k w) q (subst (λ x. given_on n (at_open act n (y ∷ ws)) ≡ given_one act it gives n x) y_is (first act it gives n y ws))
  open_given (y ∷ ws) n (suc i) m w e h = later act it gives m n y ws (omega (arith, e)) ∙ open_given ws (n + 1) i m w (omega (arith, e)) h

-- ---- a turn at each output

module _ (book : Book) (l : PartitionLogic) where
  abbrev pub mach : ℕ → Machine Stage Tree
  mach m = linear book (numbering l.parts l.fun m)

  pub turns_each : (call : Call) (acts : List Act) (h k : ℕ → OutputState → Held Stage) (ws vs : List OutputState) (n : ℕ) → length vs ≡ length ws
      → ((i m : ℕ) (w v : OutputState) → n + i ≡ m → slice_get ws i ≡ Some w → slice_get vs i ≡ Some v → TurnAt (mach m) m call (h m w) (given_on m acts) (k m v)) → TurnsAt n call (dealers book l h n ws) acts (dues k n vs)
  turns_each call acts h k [] [] n len one = tt
  turns_each call acts h k [] (v ∷ vs) n len one = absurd (omega (arith, len))
  turns_each call acts h k (w ∷ ws) [] n len one = absurd (omega (arith, len))
  turns_each call acts h k (w ∷ ws) (v ∷ vs) n len one =
      (one 0 n w v (omega arith) refl refl, turns_each call acts h k ws vs (n + 1) (omega (arith, len)) (λ i m x y e p q. one (suc i) m x y (omega (arith, e)) p q))

-- whether an output is gone
abbrev pub is_gone : OutputState → Bool
is_gone Quiet = false
is_gone Asks = false
is_gone Gone = true

module _ (M : Machine Stage Tree) (m : ℕ) where
  -- nothing comes, and nothing is given
  pub still : (call : Call) (g : List Tree) (st : State Stage) (w v : OutputState) → BringsNone call m → is_gone w ≡ is_gone v → TurnAt M m call (due_of g st w) [] (due_of g st v)
  still starts g st Quiet Quiet b e = (refl, refl)
  still starts g st Quiet Asks b e = (refl, refl)
  still starts g st Asks Quiet b e = (refl, refl)
  still starts g st Asks Asks b e = (refl, refl)
  still (pulls j) g st Quiet Quiet b e = (refl, refl)
  still (pulls j) g st Quiet Asks b e = (refl, refl)
  still (pulls j) g st Asks Quiet b e = (refl, refl)
  still (pulls j) g st Asks Asks b e = (refl, refl)
  still (cancels j) g st Quiet Quiet b e = rw b (refl, refl)
  still (cancels j) g st Quiet Asks b e = rw b (refl, refl)
  still (cancels j) g st Asks Quiet b e = rw b (refl, refl)
  still (cancels j) g st Asks Asks b e = rw b (refl, refl)
  still (arrives i x) g st w v b e = absurd b
  still call g st Gone Gone b e = (refl, refl)
  still call g st Gone Quiet b e = cc
  still call g st Gone Asks b e = cc
  still call g st Quiet Gone b e = cc
  still call g st Asks Gone b e = cc

  -- it is cancelled
  pub gone_here : (j : ℕ) (g : List Tree) (st : State Stage) (w : OutputState) → j ≡ m → TurnAt M m (cancels j) (due_of g st w) [] shut
  gone_here j g st Quiet e = let x : (j == m) ≡ true = same j m e in rw x (refl, refl)
  gone_here j g st Asks e = let x : (j == m) ≡ true = same j m e in rw x (refl, refl)
  gone_here j g st Gone e = (refl, refl)

  -- what is held goes out
  pub out_here : (j : ℕ) (t : Tree) (st : State Stage) (w : OutputState) → w ≡ Quiet → TurnAt M m (pulls j) (due_of (t ∷ []) st w) (item.Elem t ∷ []) (due_of [] st w)
  out_here j t st w e = rw e (refl, refl)

  pub last_here : (j : ℕ) (t : Tree) (w : OutputState) → w ≡ Quiet → TurnAt M m (pulls j) (due_of (t ∷ []) done w) (item.Elem t ∷ given_one (λ i. Complete i) (λ i. item.Ended) (λ k n. refl) m w) shut
  last_here j t w e = rw e (refl, refl)

  -- it ends once another got what was held
  pub ends_asked : (j : ℕ) (w : OutputState) → TurnAt M m (pulls j) (due_of [] done w) (given_one (λ i. Complete i) (λ i. item.Ended) (λ k n. refl) m w) shut
  ends_asked j Quiet = (refl, refl)
  ends_asked j Asks = (refl, refl)
  ends_asked j Gone = (refl, refl)

  -- or once another, that something was held for, was cancelled
  pub ends_lost : (j : ℕ) (w : OutputState) → (j == m) ≡ false → TurnAt M m (cancels j) (due_of [] done w) (given_one (λ i. Complete i) (λ i. item.Ended) (λ k n. refl) m w) shut
  ends_lost j Quiet e = rw e (refl, refl)
  ends_lost j Asks e = rw e (refl, refl)
  ends_lost j Gone e = (refl, refl)

module _ (book : Book) (n : ℕ) (f : MapFn) (node k m : ℕ) where
  abbrev pub at_stage : ℕ → Stage
  at_stage c = record { node = node; decider = Stop; taken = c; work = numbering n f m }

  abbrev M : Machine Stage Tree
  M = linear book (numbering n f m)

  module _ (t : Tree) (p : ℕ) (is : part_of n (map_value f t) ≡ Ok p) where
    pub deal_given : (p == m) ≡ true → (w : OutputState) → w ≡ Asks → TurnAt M m (arrives 0 (item.Elem t)) (due_of [] (going (at_stage k)) w) (item.Elem t ∷ []) (due_of [] (going (at_stage (k + 1))) Quiet)
    deal_given e w a = rw a (given_here book n f node m t p k is e)

    pub deal_kept : (p == m) ≡ true → (w : OutputState) → w ≡ Quiet → TurnAt M m (arrives 0 (item.Elem t)) (due_of [] (going (at_stage k)) w) [] (due_of (t ∷ []) (going (at_stage (k + 1))) w)
    deal_kept e w a = rw a (held_here book n f node m t p k is e)

    pub deal_other : (p == m) ≡ false → (w : OutputState) → TurnAt M m (arrives 0 (item.Elem t)) (due_of [] (going (at_stage k)) w) [] (due_of [] (going (at_stage (k + 1))) w)
    deal_other e Quiet = counted_here book n f node m t p k is e
    deal_other e Asks = counted_here book n f node m t p k is e
    deal_other e Gone = (refl, refl)

  pub deal_blamed : (t : Tree) (why : Why) → part_of n (map_value f t) ≡ Err why → (w : OutputState)
      → TurnAt M m (arrives 0 (item.Elem t)) (due_of [] (going (at_stage k)) w) (given_one (λ i. FailOut i (record { stage = node; nth = k + 1; why = why })) (λ i. item.Failed (record { stage = node; nth = k + 1; why = why })) (λ a b. refl) m w) shut
  deal_blamed t why is Quiet = blamed_here book n f node m t k why is
  deal_blamed t why is Asks = blamed_here book n f node m t k why is
  deal_blamed t why is Gone = (refl, refl)

  pub end_now : (w : OutputState) → TurnAt M m (arrives 0 item.Ended) (due_of [] (going (at_stage k)) w) (given_one (λ i. Complete i) (λ i. item.Ended) (λ a b. refl) m w) shut
  end_now Quiet = ends_here book n f node m k
  end_now Asks = ends_here book n f node m k
  end_now Gone = (refl, refl)

  pub end_later : (h : List Tree) (w : OutputState) → TurnAt M m (arrives 0 item.Ended) (due_of h (going (at_stage k)) w) [] (due_of h done w)
  end_later h Quiet = end_waits book n f node m h k
  end_later h Asks = end_waits book n f node m h k
  end_later h Gone = (refl, refl)

  pub fail_now : (h : List Tree) (c : Cause) (w : OutputState) → TurnAt M m (arrives 0 (item.Failed c)) (due_of h (going (at_stage k)) w) (given_one (λ i. FailOut i c) (λ i. item.Failed c) (λ a b. refl) m w) shut
  fail_now h c Quiet = failure_drops book n f node m h k c
  fail_now h c Asks = failure_drops book n f node m h k c
  fail_now h c Gone = (refl, refl)
