-- From the law before an event to the law after it, and from the law to what a stage may have given.
use Rattle.std.proofs.Common.{◌≡◌, ℕ, ◌-◌, false, List, ◌++◌, length, refl, ap, ◌∙◌}
use Rattle.elem_core.specs.Tree.{Tree}
use Rattle.elem_core.specs.declared.why.Cause.{Cause}
use Rattle.elem_core.proofs.Prefixes.{prefix_refl, prefix_append, prefix_length, prefix_take}
use Rattle.stream_model.specs.Outlook.{End, unended, ended, failed}
use Rattle.stream_model.specs.Machine.{State, going, done, broken, Run, Finish, adds, refuses, Machine, Given, is_going, run, finish_at, close_at, close, CutBy, Fails, own_doing, at_finish, of_input, Stands}
use Rattle.stream_model.proofs.MachineLaws.{gave_prefix}
use Rattle.stage_core.specs.Held.{Held, owing, shut, sealed_by}
use Rattle.stage_core.specs.Law.{ends_by, Keeps}

module _ {S : Type 0} (m : Machine S Tree) where
  -- what is given in all is what the end leaves to be given
  close_sealed : (g : List Tree) (f : Finish Tree) → finish_at m g f ≡ close m (sealed_by m g f) unended
  close_sealed g (adds o) = refl
  close_sealed g (refuses c) = refl

  close_ends_at : (g : List Tree) (st : State S) (e : End) → close_at m g st e ≡ close m (ends_by m (record { gave = g; state = st }) e) unended
  close_ends_at g (going s) unended = refl
  close_ends_at g (going s) ended = close_sealed g (m.finish s)
  close_ends_at g (going s) (failed c) = refl
  close_ends_at g done unended = refl
  close_ends_at g done ended = refl
  close_ends_at g done (failed c) = refl
  close_ends_at g (broken d) unended = refl
  close_ends_at g (broken d) ended = refl
  close_ends_at g (broken d) (failed c) = refl

  pub close_ends : (x : Run S Tree) (e : End) → close m x e ≡ close m (ends_by m x e) unended
  close_ends x e = close_ends_at x.gave x.state e

  pub open_gives : (g : List Tree) (st : State S) → (close_at m g st unended).list ≡ g
  open_gives g (going s) = refl
  open_gives g done = refl
  open_gives g (broken c) = refl

  module _ (start : Run S Tree) where
    -- a prefix of what it owes
    pub stands_unended : (z : Run S Tree) (l : List Tree) (e : End) (g : List Tree) → ends_by m (run m start l) e ≡ record { gave = g ++ z.gave; state = z.state } → Stands m start l e g unended
    stands_unended z l e g is =
        let all : (close m (run m start l) e).list ≡ g ++ z.gave =
        ap (λ (y : Given Tree). y.list) (close_ends (run m start l) e ∙ ap (λ (y : Run S Tree). close m y unended) is) ∙ open_gives (g ++ z.gave) z.state in
        rw all (prefix_append g z.gave)

    -- nothing is cut
    uncut : (h : ℕ) (l : List Tree) → CutBy m h start l (run m start l).gave
    uncut h l = record { part = prefix_refl (run m start l).gave; enough = prefix_length (gave_prefix m start (prefix_take (length l - h) l)) }

    at_finish_by : (l : List Tree) (s : S) (g : List Tree) (c : Cause) (f : Finish Tree) → (run m start l).state ≡ going s → m.finish s ≡ f → sealed_by m (run m start l).gave f ≡ record { gave = g; state = broken c }
        → Fails m start l ended g c
    at_finish_by l s g c (adds o) at is h = let e : done ≡ broken c = ap (λ (y : Run S Tree). y.state) h in cc
    at_finish_by l s g c (refuses d) at is h =
        let same : (run m start l).gave ≡ g = ap (λ (y : Run S Tree). y.gave) h in
        let b : broken d ≡ broken c = ap (λ (y : Run S Tree). y.state) h in
        let j : d ≡ c = cc in
        rw (← same) (at_finish at (is ∙ ap (λ (x : Cause). refuses x) j) (uncut m.early l))

    fails_own : (l : List Tree) (e : End) (g : List Tree) (c d : Cause) → (run m start l).state ≡ broken d → ◌≡◌ {A = Run S Tree} (record { gave = (run m start l).gave; state = broken d }) (record { gave = g; state = broken c }) → Fails m start l e g c
    fails_own l e g c d at h =
        let same : (run m start l).gave ≡ g = ap (λ (y : Run S Tree). y.gave) h in
        let b : broken d ≡ broken c = ap (λ (y : Run S Tree). y.state) h in
        rw (← same) (own_doing (at ∙ b))

    -- the machine is broken, once the input stands so
    fails_by : (l : List Tree) (e : End) (g : List Tree) (c : Cause) (st : State S) → (run m start l).state ≡ st → ends_by m (record { gave = (run m start l).gave; state = st }) e ≡ record { gave = g; state = broken c } → Fails m start l e g c
    fails_by l unended g c (going s) at h = let e : going s ≡ broken c = ap (λ (y : Run S Tree). y.state) h in cc
    fails_by l ended g c (going s) at h = at_finish_by l s g c (m.finish s) at refl h
    fails_by l (failed d) g c (going s) at h =
        let same : (run m start l).gave ≡ g = ap (λ (y : Run S Tree). y.gave) h in
        let b : broken d ≡ broken c = ap (λ (y : Run S Tree). y.state) h in
        let j : d ≡ c = cc in
        rw (← same, j) (of_input (ap is_going at) (uncut m.hold l))
    fails_by l unended g c done at h = let e : done ≡ broken c = ap (λ (y : Run S Tree). y.state) h in cc
    fails_by l ended g c done at h = let e : done ≡ broken c = ap (λ (y : Run S Tree). y.state) h in cc
    fails_by l (failed d) g c done at h = let e : done ≡ broken c = ap (λ (y : Run S Tree). y.state) h in cc
    fails_by l unended g c (broken d) at h = fails_own l unended g c d at h
    fails_by l ended g c (broken d) at h = fails_own l ended g c d at h
    fails_by l (failed b) g c (broken d) at h = fails_own l (failed b) g c d at h

    stands_done : (l : List Tree) (e : End) (g : List Tree) → ends_by m (run m start l) e ≡ record { gave = g; state = done } → Stands m start l e g ended
    stands_done l e g is = close_ends (run m start l) e ∙ ap (λ (y : Run S Tree). close m y unended) is

    -- all that it owes went out, and its end
    pub stands_stopped : (l : List Tree) (e : End) (g : List Tree) (st : State S) → ends_by m (run m start l) e ≡ record { gave = g; state = st } → is_going st ≡ false → Stands m start l e g (close_at m g st unended).end
    stands_stopped l e g (going s) is h = cc
    stands_stopped l e g done is h = stands_done l e g is
    stands_stopped l e g (broken c) is h = fails_by l e g c (run m start l).state refl is

    -- bridge (b): whatever the law holds of, stands
    pub law_stands : (x : Held S) (l : List Tree) (e : End) (g : List Tree) (f : End) → Keeps m start x l e g f → Stands m start l e g f
    law_stands shut l e g f k = k
    law_stands (owing z) l e g unended k = stands_unended z l e g k.1.0
    law_stands (owing z) l e g ended k = let e : ended ≡ unended = k.0 in cc
    law_stands (owing z) l e g (failed c) k = let e : failed c ≡ unended = k.0 in cc
