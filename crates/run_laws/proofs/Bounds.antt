-- No stage gives more than its machine gives for what was sent to it, and with what a normal end adds once the wire is shut.
use Rattle.std.proofs.Common.{◌≡◌, ◌≢◌, ℕ, ◌≤◌, List, length, refl, ap, arith}
use Rattle.elem_core.specs.Prefix.{IsPrefix}
use Rattle.elem_core.proofs.Prefixes.{prefix_length}
use Rattle.elem_core.specs.Tree.{Tree}
use Rattle.elem_core.specs.declared.why.Cause.{Cause}
use Rattle.stream_model.specs.Outlook.{End, unended, ended, failed}
use Rattle.stream_model.specs.Machine.{State, going, done, broken, Run, Machine, run, close_at, close, Fails, own_doing, at_finish, of_input, Stands}
use Rattle.stream_model.proofs.MachineLaws.{gave_prefix, close_grows}

module _ {S : Type 0} (m : Machine S Tree) where
  -- only a normal end adds something
  close_open : (g : List Tree) (st : State S) (e : End) → e ≢ ended → (close_at m g st e).list ≡ g
  close_open g (going s) unended n = refl
  close_open g (going s) (failed c) n = refl
  close_open g (going s) ended n = absurd (n refl)
  close_open g done e n = refl
  close_open g (broken c) e n = refl

  -- at most what the machine gives in all; and at most what it gave before the end, where the end is not a normal one
  pub record AtMost (x : Run S Tree) (e : End) (n : ℕ) : Type 0 where
    pub in_all : n ≤ length (close m x ended).list
    pub so_far : e ≢ ended → n ≤ length x.gave

  most_open : (x : Run S Tree) (e : End) (n : ℕ) → n ≤ length x.gave → AtMost x e n
  most_open x e n h = let more : length x.gave ≤ length (close m x ended).list = prefix_length (close_grows m x ended) in record { in_all = omega (arith, h, more); so_far = λ _. h }

  not_ended : (c : Cause) → failed c ≢ ended
  not_ended c e = cc

  still_open : unended ≢ ended
  still_open e = cc

  most_by : (x : Run S Tree) (e : End) (n : ℕ) → n ≤ length (close m x e).list → AtMost x e n
  most_by x ended n h = record { in_all = h; so_far = λ no. absurd (no refl) }
  most_by x unended n h = let same : (close m x unended).list ≡ x.gave = close_open x.gave x.state unended still_open in most_open x unended n (rw same at h)
  most_by x (failed c) n h = let same : (close m x (failed c)).list ≡ x.gave = close_open x.gave x.state (failed c) (not_ended c) in most_open x (failed c) n (rw same at h)

  module _ (start : Run S Tree) where
    failed_most : (l : List Tree) (e : End) (g : List Tree) (c : Cause) → Fails m start l e g c → AtMost (run m start l) e (length g)
    failed_most l e g c (own_doing h) = most_open (run m start l) e _ (omega arith)
    failed_most l e g c (at_finish h f cut) = most_open (run m start l) ended _ (prefix_length cut.part)
    failed_most l e g c (of_input h cut) = most_open (run m start l) _ _ (prefix_length cut.part)

    pub gives_most : (l : List Tree) (e : End) (g : List Tree) (f : End) → Stands m start l e g f → AtMost (run m start l) e (length g)
    gives_most l e g unended h = most_by (run m start l) e (length g) (prefix_length h)
    gives_most l e g ended h = let n : length (close m (run m start l) e).list ≡ length g = ap (λ r. length r.list) h in most_by (run m start l) e (length g) (omega (arith, n))
    gives_most l e g (failed c) h = failed_most l e g c h

    -- the same over all that was sent to it, of which it took a first part
    pub sent_open : (l k : List Tree) (e : End) (g : List Tree) (f : End) → Stands m start l e g f → IsPrefix l k → e ≢ ended → length g ≤ length (run m start k).gave
    sent_open l k e g f h p n =
        let a = (gives_most l e g f h).so_far n in
        let b = prefix_length (gave_prefix m start p) in
        omega (arith, a, b)

    pub sent_ended : (l k : List Tree) (g : List Tree) (f : End) → Stands m start l ended g f → l ≡ k → length g ≤ length (close m (run m start k) ended).list
    sent_ended l k g f h same = rw (← same) (gives_most l ended g f h).in_all

    pub sent_shut : (l k : List Tree) (e : End) (g : List Tree) (f : End) → Stands m start l e g f → IsPrefix l k → e ≢ ended → length g ≤ length (close m (run m start k) ended).list
    sent_shut l k e g f h p n =
        let a = sent_open l k e g f h p n in
        let b = prefix_length (close_grows m (run m start k) ended) in
        omega (arith, a, b)
