-- What a stage knows of one of its ports agrees with the port's history, as calls come and actions are done.
use Rattle.std.specs.Prelude.{◌==◌, if◌then◌else◌}
use Rattle.std.proofs.Common.{◌≡◌, ℕ, zero, suc, Bool, true, false, List, [], ◌∷◌, ◌++◌, length, refl, ap, ◌∙◌, arith}
use Rattle.std.specs.Prelude.{slice_index_or, slice_set}
use Rattle.std.proofs.lemmas.Bool.Decides.{nat_tests}
use Rattle.elem_core.specs.Tree.{Tree}
use Rattle.elem_core.specs.declared.item.Item.{Item}
use Rattle.elem_core.specs.declared.item.Item.TheVariants as item
use Rattle.stream_model.specs.Outlook.{End, unended, ended, failed}
use Rattle.port_core.specs.declared.act.Act.{Act}
use Rattle.port_core.specs.declared.act.Act.TheVariants.{Pull, Push, Complete, FailOut, Cancel}
use Rattle.port_core.specs.declared.view.InView.{InView}
use Rattle.port_core.specs.declared.view.InView.TheVariants.{Idle, Pulled, Finished, Cancelled}
use Rattle.port_core.specs.declared.view.OutView.{OutView}
use Rattle.port_core.specs.declared.view.OutView.TheVariants as outlet
use Rattle.port_core.specs.View.{View, in_at, out_at, with_in, with_out, IsInOpen, IsOutOpen, acted, ActsAllowed, acted_all}
use Rattle.port_core.specs.Call.{Call, starts, pulls, arrives, cancels, MayCome, came, CallAllowed, seen, given_on}
use Rattle.stage_core.specs.Held.{told}
use Rattle.stage_core.specs.Law.{TookAs, GaveAs}

-- ---- lists with one place set

module _ {A : Type 0} (d : A) where
  -- the place k is the one that was set, or it is as before; and where it was to be set and is not, it is not there
  pub data SetAt (xs : List A) (i : ℕ) (x : A) (k : ℕ) : Type 0 where
    is_set : i ≡ k → slice_index_or (slice_set xs i x) k d ≡ x → SetAt xs i x k
    is_same : slice_index_or (slice_set xs i x) k d ≡ slice_index_or xs k d → (i ≡ k → slice_index_or xs k d ≡ d) → SetAt xs i x k

  pub set_at : (xs : List A) (i : ℕ) (x : A) (k : ℕ) → SetAt xs i x k
  set_at [] i x k = is_same refl (λ e. refl)
  set_at (y ∷ xs) zero x zero = is_set refl refl
  set_at (y ∷ xs) zero x (suc k) = is_same refl (λ e. let no_way : ⊥ = omega (arith, e) in absurd no_way)
  set_at (y ∷ xs) (suc i) x zero = is_same refl (λ e. let no_way : ⊥ = omega (arith, e) in absurd no_way)
  set_at (y ∷ xs) (suc i) x (suc k) = further (set_at xs i x k)
    where
      further : SetAt xs i x k → SetAt (y ∷ xs) (suc i) x (suc k)
      further (is_set e h) = is_set (ap suc e) h
      further (is_same h f) = is_same h (λ e. let j : i ≡ k = omega (arith, e) in f j)

-- ---- inputs

-- an input that is open has not ended
pub in_unended : (i : InView) (e : End) → IsInOpen i → TookAs i e → e ≡ unended
in_unended Idle e h k = k
in_unended Pulled e h k = k
in_unended Finished e h k = absurd h
in_unended Cancelled e h k = absurd h

-- nothing of the input's history changes by what the stage does there
took_set : (v : View) (i : ℕ) (x : InView) (k : ℕ) (e : End) → IsInOpen (in_at v i) → (e ≡ unended → TookAs x e) → TookAs (in_at v k) e → TookAs (in_at (with_in v i x) k) e
took_set v i x k e h f t = by_place (set_at Cancelled v.ins i x k)
  where
    by_place : SetAt Cancelled v.ins i x k → TookAs (in_at (with_in v i x) k) e
    by_place (is_set same h2) =
        let t2 : TookAs (in_at v i) e = rw same t in
        rw h2 (f (in_unended (in_at v i) e h t2))
    by_place (is_same h2 g) = rw h2 t

idle_open : (x : InView) → x ≡ Idle → IsInOpen x
idle_open x h = rw h tt

pub took_acted : (acts : List Act) (v : View) (k : ℕ) (e : End) → ActsAllowed v acts → TookAs (in_at v k) e → TookAs (in_at (acted_all v acts) k) e
took_acted [] v k e h t = t
took_acted (Pull i ∷ acts) v k e h t = took_acted acts (acted v (Pull i)) k e h.1 (took_set v i Pulled k e (idle_open (in_at v i) h.0) (λ u. u) t)
took_acted (Push j x ∷ acts) v k e h t = took_acted acts (acted v (Push j x)) k e h.1 t
took_acted (Complete j ∷ acts) v k e h t = took_acted acts (acted v (Complete j)) k e h.1 t
took_acted (FailOut j c ∷ acts) v k e h t = took_acted acts (acted v (FailOut j c)) k e h.1 t
took_acted (Cancel i ∷ acts) v k e h t = took_acted acts (acted v (Cancel i)) k e h.1 (took_set v i Cancelled k e h.0 (λ u. u) t)

-- an item comes where the input is open
pub may_open : (b : Item) (x : InView) → MayCome b x → IsInOpen x
may_open (item.Elem t) x h = rw h tt
may_open item.Ended x h = h
may_open (item.Failed c) x h = h

-- the input that the item comes to is there
pub came_at : (b : Item) (v : View) (i : ℕ) → MayCome b (in_at v i) → in_at (with_in v i (came b)) i ≡ came b
came_at b v i may = by_place (set_at Cancelled v.ins i (came b) i)
  where
    by_place : SetAt Cancelled v.ins i (came b) i → in_at (with_in v i (came b)) i ≡ came b
    by_place (is_set same h) = h
    by_place (is_same h f) = let open_here : IsInOpen (in_at v i) = may_open b (in_at v i) may in let on : IsInOpen Cancelled = rw (f refl) at open_here in absurd on

-- a stage with one input has no other
pub no_other : (xs : List InView) (i : ℕ) → length xs ≡ 1 → slice_index_or xs (suc i) Cancelled ≡ Cancelled
no_other [] i h = cc
no_other (x ∷ []) i h = refl
no_other (x ∷ y ∷ xs) i h = absurd (omega (arith, h))

-- ---- outputs

pub out_unended : (y : OutView) (f : End) → IsOutOpen y → GaveAs y f → f ≡ unended
out_unended outlet.Unpulled f h g = g
out_unended outlet.Available f h g = g
out_unended outlet.Closed f h g = absurd h
out_unended outlet.Cancelled f h g = absurd h

asked_open : (y : OutView) → y ≡ outlet.Available → IsOutOpen y
asked_open y h = rw h tt

unasked_open : (y : OutView) → y ≡ outlet.Unpulled → IsOutOpen y
unasked_open y h = rw h tt

-- an open output that is asked, was given or was cancelled has not ended
gave_set : (v : View) (i : ℕ) (y : OutView) (j : ℕ) (f : End) → IsOutOpen (out_at v i) → (f ≡ unended → GaveAs y f) → GaveAs (out_at v j) f → GaveAs (out_at (with_out v i y) j) f
gave_set v i y j f h k g = by_place (set_at outlet.Closed v.outs i y j)
  where
    by_place : SetAt outlet.Closed v.outs i y j → GaveAs (out_at (with_out v i y) j) f
    by_place (is_set same h2) =
        let g2 : GaveAs (out_at v i) f = rw same g in
        rw h2 (k (out_unended (out_at v i) f h g2))
    by_place (is_same h2 other) = rw h2 g

-- an output that was closed is closed
set_shut : (v : View) (i j : ℕ) → i ≡ j → out_at (with_out v i outlet.Closed) j ≡ outlet.Closed
set_shut v i j e = by_place (set_at outlet.Closed v.outs i outlet.Closed j)
  where
    by_place : SetAt outlet.Closed v.outs i outlet.Closed j → out_at (with_out v i outlet.Closed) j ≡ outlet.Closed
    by_place (is_set same h) = h
    by_place (is_same h f) = h ∙ f e

-- another output stays as it is
set_other : (v : View) (i j : ℕ) (y : OutView) → (i ≡ j → ⊥) → out_at (with_out v i y) j ≡ out_at v j
set_other v i j y n = by_place (set_at outlet.Closed v.outs i y j)
  where
    by_place : SetAt outlet.Closed v.outs i y j → out_at (with_out v i y) j ≡ out_at v j
    by_place (is_set same h) = absurd (n same)
    by_place (is_same h f) = h

same_port : (k j : ℕ) → (k == j) ≡ true → k ≡ j
same_port k j h = grind (arith, nat_tests)

other_port : (k j : ℕ) → (k == j) ≡ false → k ≡ j → ⊥
other_port k j h e = grind (arith, nat_tests)

-- a closed output stays closed
shut_set : (v : View) (i : ℕ) (y : OutView) (j : ℕ) → IsOutOpen (out_at v i) → out_at v j ≡ outlet.Closed → out_at (with_out v i y) j ≡ outlet.Closed
shut_set v i y j h s = by_place (set_at outlet.Closed v.outs i y j)
  where
    by_place : SetAt outlet.Closed v.outs i y j → out_at (with_out v i y) j ≡ outlet.Closed
    by_place (is_set same h2) = let on : IsOutOpen outlet.Closed = rw (ap (λ (n : ℕ). out_at v n) same ∙ s) at h in absurd on
    by_place (is_same h2 f) = h2 ∙ s

shut_stays : (acts : List Act) (v : View) (j : ℕ) → out_at v j ≡ outlet.Closed → ActsAllowed v acts → out_at (acted_all v acts) j ≡ outlet.Closed
shut_stays [] v j s h = s
shut_stays (Pull i ∷ acts) v j s h = shut_stays acts (acted v (Pull i)) j s h.1
shut_stays (Push k t ∷ acts) v j s h = shut_stays acts (acted v (Push k t)) j (shut_set v k outlet.Unpulled j (asked_open (out_at v k) h.0) s) h.1
shut_stays (Complete k ∷ acts) v j s h = shut_stays acts (acted v (Complete k)) j (shut_set v k outlet.Closed j h.0 s) h.1
shut_stays (FailOut k c ∷ acts) v j s h = shut_stays acts (acted v (FailOut k c)) j (shut_set v k outlet.Closed j h.0 s) h.1
shut_stays (Cancel i ∷ acts) v j s h = shut_stays acts (acted v (Cancel i)) j s h.1

shut_as : (o : OutView) (f : End) → o ≡ outlet.Closed → (f ≡ unended → ⊥) → GaveAs o f
shut_as outlet.Closed unended s h = absurd (h refl)
shut_as outlet.Closed ended s h = tt
shut_as outlet.Closed (failed c) s h = tt
shut_as outlet.Unpulled f s h = cc
shut_as outlet.Available f s h = cc
shut_as outlet.Cancelled f s h = cc

as_shut : (o : OutView) (f : End) → (f ≡ unended → ⊥) → GaveAs o f → o ≡ outlet.Closed
as_shut outlet.Closed f n g = refl
as_shut outlet.Unpulled f n g = absurd (n g)
as_shut outlet.Available f n g = absurd (n g)
as_shut outlet.Cancelled f n g = absurd (n g)

-- ---- calls

pub took_seen : (call : Call) (v : View) (k : ℕ) (e : End) → CallAllowed call v → ((i : ℕ) (b : Item) → call ≡ arrives i b → ⊥) → TookAs (in_at v k) e → TookAs (in_at (seen call v) k) e
took_seen starts v k e h n t = t
took_seen (pulls j) v k e h n t = t
took_seen (arrives i b) v k e h n t = absurd (n i b refl)
took_seen (cancels j) v k e h n t = t

pub gave_seen : (call : Call) (v : View) (j : ℕ) (f : End) → CallAllowed call v → GaveAs (out_at v j) f → GaveAs (out_at (seen call v) j) f
gave_seen starts v j f h g = g
gave_seen (pulls k) v j f h g = gave_set v k outlet.Available j f (unasked_open (out_at v k) h) (λ u. u) g
gave_seen (arrives i b) v j f h g = g
gave_seen (cancels k) v j f h g = gave_set v k outlet.Cancelled j f h (λ u. u) g

-- ---- what was pushed has an end where the output was closed

module _ (j : ℕ) where
  abbrev Gives : List Act → View → Type 0
  Gives acts v = (o : List Tree) (f : End) → given_on j acts ≡ told o f → ActsAllowed v acts → GaveAs (out_at v j) unended → GaveAs (out_at (acted_all v acts) j) f

  pub gave_acted : (acts : List Act) (v : View) → Gives acts v
  gave_acted [] v [] unended is h g = g
  gave_acted [] v [] ended is h g = cc
  gave_acted [] v [] (failed c) is h g = cc
  gave_acted [] v (t ∷ o) f is h g = cc
  gave_acted (Pull i ∷ acts) v o f is h g = gave_acted acts (acted v (Pull i)) o f is h.1 g
  gave_acted (Cancel i ∷ acts) v o f is h g = gave_acted acts (acted v (Cancel i)) o f is h.1 g
  gave_acted (Push k t ∷ acts) v o f is h g = by_port (gave_acted acts (acted v (Push k t))) (k == j) o is
    where
      by_port : Gives acts (acted v (Push k t)) → (b : Bool) (o : List Tree) → (if b then item.Elem t ∷ [] else []) ++ given_on j acts ≡ told o f → GaveAs (out_at (acted_all (acted v (Push k t)) acts) j) f
      by_port ih false o is = ih o f is h.1 (gave_set v k outlet.Unpulled j unended (asked_open (out_at v k) h.0) (λ u. u) g)
      by_port ih true (u ∷ o) is =
          let e : given_on j acts ≡ told o f = cc in
          ih o f e h.1 (gave_set v k outlet.Unpulled j unended (asked_open (out_at v k) h.0) (λ u. u) g)
      by_port ih true [] is = no_elem f is
        where
          no_elem : (f : End) → item.Elem t ∷ given_on j acts ≡ told [] f → GaveAs (out_at (acted_all (acted v (Push k t)) acts) j) f
          no_elem unended is = cc
          no_elem ended is = cc
          no_elem (failed c) is = cc
  gave_acted (Complete k ∷ acts) v o f is h g = by_port (gave_acted acts (acted v (Complete k))) (k == j) refl is
    where
      by_end : k ≡ j → (o : List Tree) (f : End) → item.Ended ∷ given_on j acts ≡ told o f → GaveAs (out_at (acted_all (acted v (Complete k)) acts) j) f
      by_end e [] unended is = cc
      by_end e [] ended is = shut_as (out_at (acted_all (acted v (Complete k)) acts) j) ended (shut_stays acts (acted v (Complete k)) j (set_shut v k j e) h.1) (λ u. cc)
      by_end e [] (failed c) is = cc
      by_end e (t ∷ o) f is = cc

      by_port : Gives acts (acted v (Complete k)) → (b : Bool) → (k == j) ≡ b → (if b then item.Ended ∷ [] else []) ++ given_on j acts ≡ told o f → GaveAs (out_at (acted_all (acted v (Complete k)) acts) j) f
      by_port ih false e is = ih o f is h.1 (rw (set_other v k j outlet.Closed (other_port k j e)) g)
      by_port ih true e is = by_end (same_port k j e) o f is
  gave_acted (FailOut k c ∷ acts) v o f is h g = by_port (gave_acted acts (acted v (FailOut k c))) (k == j) refl is
    where
      by_end : k ≡ j → (o : List Tree) (f : End) → item.Failed c ∷ given_on j acts ≡ told o f → GaveAs (out_at (acted_all (acted v (FailOut k c)) acts) j) f
      by_end e [] unended is = cc
      by_end e [] ended is = cc
      by_end e [] (failed b) is = shut_as (out_at (acted_all (acted v (FailOut k c)) acts) j) (failed b) (shut_stays acts (acted v (FailOut k c)) j (set_shut v k j e) h.1) (λ u. cc)
      by_end e (t ∷ o) f is = cc

      by_port : Gives acts (acted v (FailOut k c)) → (b : Bool) → (k == j) ≡ b → (if b then item.Failed c ∷ [] else []) ++ given_on j acts ≡ told o f → GaveAs (out_at (acted_all (acted v (FailOut k c)) acts) j) f
      by_port ih false e is = ih o f is h.1 (rw (set_other v k j outlet.Closed (other_port k j e)) g)
      by_port ih true e is = by_end (same_port k j e) o f is

  -- where nothing is given, it stands as it did
  pub gave_nothing : (acts : List Act) (v : View) (f : End) → given_on j acts ≡ [] → ActsAllowed v acts → GaveAs (out_at v j) f → GaveAs (out_at (acted_all v acts) j) f
  gave_nothing acts v unended is h g = gave_acted acts v [] unended is h g
  gave_nothing acts v ended is h g =
      let n : ended ≡ unended → ⊥ = λ u. cc in
      shut_as (out_at (acted_all v acts) j) ended (shut_stays acts v j (as_shut (out_at v j) ended n g) h) n
  gave_nothing acts v (failed c) is h g =
      let n : failed c ≡ unended → ⊥ = λ u. cc in
      shut_as (out_at (acted_all v acts) j) (failed c) (shut_stays acts v j (as_shut (out_at v j) (failed c) n g) h) n
