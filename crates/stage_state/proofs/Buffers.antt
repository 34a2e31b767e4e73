-- A buffer gives each element that it takes, so what it may have given is what a lane of its size carries.
use Rattle.std.proofs.Common.{◌≡◌, ℕ, ◌+◌, ◌-◌, ◌≤◌, List, [], ◌∷◌, ◌++◌, length, take, refl, sym, ap, ◌∙◌, arith, append_assoc, append-nil}
use Rattle.std.proofs.lemmas.List.{length-take-le}
use Rattle.elem_core.specs.Prefix.{IsPrefix}
use Rattle.elem_core.specs.Tree.{Tree}
use Rattle.elem_core.specs.declared.why.Cause.{Cause}
use Rattle.stream_model.specs.Outlook.{Outlook, End, unended, ended, failed, Agrees, lane_outlook}
use Rattle.stream_model.specs.Machine.{going, broken, Run, adds, refuses, Given, run, close, Fails, own_doing, at_finish, of_input, Stands}
use Rattle.stream_model.specs.Lane.{Carries}
use Rattle.stream_model.specs.Linear.{Stage}
use Rattle.stream_model.proofs.Lanes.{carried}
use Rattle.stage_state.specs.Buffering.{buffer}
use Rattle.stage_state.specs.Resting.{begin_buffer}

module _ (n : ℕ) (s : Stage) where
  run_from : (g l : List Tree) → run (buffer n) (record { gave = g; state = going s }) l ≡ record { gave = g ++ l; state = going s }
  run_from g [] = ap (λ (k : List Tree). record { gave = k; state = going s }) (sym (append-nil g))
  run_from g (t ∷ l) = run_from (g ++ t ∷ []) l ∙ ap (λ (k : List Tree). record { gave = k; state = going s }) (append_assoc g (t ∷ []) l)

  -- it gives what it takes
  pub buffer_run : (l : List Tree) → run (buffer n) (begin_buffer s) l ≡ record { gave = l; state = going s }
  buffer_run l = run_from [] l

  all_of : (l : List Tree) (e : End) → (close (buffer n) (record { gave = l; state = going s }) e).list ≡ l
  all_of l unended = refl
  all_of l ended = append-nil l
  all_of l (failed c) = refl

  ended_of : (l g : List Tree) (e : End) → close (buffer n) (record { gave = l; state = going s }) e ≡ record { list = g; end = ended } → (e ≡ ended) × (g ≡ l)
  ended_of l g unended h = let x : unended ≡ ended = ap (λ (y : Given Tree). y.end) h in cc
  ended_of l g ended h = (refl, sym (ap (λ (y : Given Tree). y.list) h) ∙ append-nil l)
  ended_of l g (failed c) h = let x : failed c ≡ ended = ap (λ (y : Given Tree). y.end) h in cc

  failed_of : (l g : List Tree) (e : End) (c : Cause) → Fails (buffer n) (begin_buffer s) l e g c → (e ≡ failed c) × IsPrefix g l × (length l ≤ length g + n)
  failed_of l _ e c (own_doing is) =
      let x : going s ≡ broken c = sym (ap (λ (y : Run Stage Tree). y.state) (buffer_run l)) ∙ is in
      cc
  failed_of l _ _ c (at_finish {s = r} at refusal cut) = let x : adds [] ≡ refuses c = refusal in cc
  failed_of l g _ c (of_input on cut) =
      let part : IsPrefix g l = rw (buffer_run l) at cut.part in
      let enough = cut.enough in
      let e = ap (λ (y : Run Stage Tree). length y.gave) (buffer_run (take (length l - n) l)) in
      (refl, part, omega (arith, enough, e, length-take-le (length l - n) l (omega arith)))

  pub buffer_carries : (l : List Tree) (e : End) (g : List Tree) (f : End) → Stands (buffer n) (begin_buffer s) l e g f → Carries n l e g f
  buffer_carries l e g unended h =
      let all : (close (buffer n) (run (buffer n) (begin_buffer s) l) e).list ≡ l = ap (λ (x : Run Stage Tree). (close (buffer n) x e).list) (buffer_run l) ∙ all_of l e in
      rw all at h
  buffer_carries l e g ended h = ended_of l g e (ap (λ (x : Run Stage Tree). close (buffer n) x e) (sym (buffer_run l)) ∙ h)
  buffer_carries l e g (failed c) h = failed_of l g e c h

  pub buffer_agrees : (o : Outlook) (l : List Tree) (e : End) (g : List Tree) (f : End) → Agrees o l e → Stands (buffer n) (begin_buffer s) l e g f → Agrees (lane_outlook n o) g f
  buffer_agrees o l e g f a h = carried n o l e g f a (buffer_carries l e g f h)
