-- The machine of substreams, with the numbers of its outputs' substreams and without.
use Rattle.std.proofs.Common.{◌≡◌, ℕ, ◌-◌, ◌≤◌, IsTrue, List, [], ◌∷◌, length, take, refl, sym, ap, ◌∙◌, subst}
use Rattle.stage_core.specs.Fans.{untagged}
use Rattle.std.proofs.lemmas.List.{map-append, length-map, take-map}
use Rattle.elem_core.specs.Prefix.{IsPrefix}
use Rattle.elem_core.proofs.Prefixes.{prefix_take, prefix_is_take, prefix_refl, prefix_trans}
use Rattle.elem_core.specs.Tree.{Tree}
use Rattle.elem_core.specs.declared.why.Cause.{Cause}
use Rattle.stream_model.proofs.MachineLaws.{close_grows}
use Rattle.stream_model.specs.Outlook.{End, unended, ended, failed}
use Rattle.stream_model.specs.Machine.{State, going, done, broken, Run, Finish, adds, refuses, Machine, Given, is_going, feed, run, close, finish_at, CutBy, Fails, own_doing, at_finish, of_input, Stands}
use Rattle.stream_model.specs.FanIn.{Tagged}
use Rattle.stream_model.specs.Substreams.{Opening, Subs, substreams, sub_finish}
use Rattle.stage_sub.specs.Joined.{untag, untag_finish, joined_machine}

module _ (yields : List Tree → End → Given Tree) (o : Opening) where
  abbrev m : Machine Subs Tagged
  m = substreams yields o

  abbrev j : Machine Subs Tree
  j = joined_machine yields o

  feed_untag : (g : List Tagged) (st : State Subs) (t : Tree) → feed j (record { gave = untagged g; state = st }) t ≡ untag (feed m (record { gave = g; state = st }) t)
  feed_untag g (going s) t = ap (λ (l : List Tree). record { gave = l; state = (m.step s t).state }) (sym (map-append (λ (x : Tagged). x.item) g (m.step s t).gave))
  feed_untag g done t = refl
  feed_untag g (broken c) t = refl

  pub run_untag : (x : Run Subs Tagged) (l : List Tree) → run j (untag x) l ≡ untag (run m x l)
  run_untag x [] = refl
  run_untag x (t ∷ l) = ap (λ (y : Run Subs Tree). run j y l) (feed_untag x.gave x.state t) ∙ run_untag (feed m x t) l

  abbrev items_of : Given Tagged → Given Tree
  items_of g = record { list = untagged g.list; end = g.end }

  finish_untag : (g : List Tagged) (f : Finish Tagged) → finish_at j (untagged g) (untag_finish f) ≡ items_of (finish_at m g f)
  finish_untag g (adds l) = ap (λ (k : List Tree). record { list = k; end = ended }) (sym (map-append (λ (x : Tagged). x.item) g l))
  finish_untag g (refuses c) = refl

  close_untag : (g : List Tagged) (st : State Subs) (e : End) → close j (record { gave = untagged g; state = st }) e ≡ items_of (close m (record { gave = g; state = st }) e)
  close_untag g (going s) unended = refl
  close_untag g (going s) ended = finish_untag g (m.finish s)
  close_untag g (going s) (failed c) = refl
  close_untag g done e = refl
  close_untag g (broken c) e = refl

  pub closed_untag : (start : Run Subs Tagged) (l : List Tree) (e : End) → close j (run j (untag start) l) e ≡ items_of (close m (run m start l) e)
  closed_untag start l e = ap (λ (y : Run Subs Tree). close j y e) (run_untag start l) ∙ close_untag (run m start l).gave (run m start l).state e

  -- a first part of the elements is that of a first part of the outputs
  tagged_part : (g : List Tree) (all : List Tagged) → IsPrefix g (untagged all) → untagged (take (length g) all) ≡ g
  tagged_part g all p = sym (take-map (λ (x : Tagged). x.item) (length g) all) ∙ prefix_is_take p

  tagged_length : (g : List Tree) (all : List Tagged) → IsPrefix g (untagged all) → length (take (length g) all) ≡ length g
  tagged_length g all p = sym (length-map (take (length g) all) (λ (x : Tagged). x.item)) ∙ ap length (tagged_part g all p)

  cut_untag : (h : ℕ) (start : Run Subs Tagged) (took : List Tree) (g : List Tree) → CutBy j h (untag start) took g → CutBy m h start took (take (length g) (run m start took).gave)
  cut_untag h start took g c =
      let p : IsPrefix g (untagged (run m start took).gave) = subst (λ (y : Run Subs Tree). IsPrefix g y.gave) (run_untag start took) c.part in
      let few : length (run m start (take (length took - h) took)).gave ≤ length g =
      subst (λ n. n ≤ length g) (ap (λ (y : Run Subs Tree). length y.gave) (run_untag start (take (length took - h) took)) ∙ length-map (run m start (take (length took - h) took)).gave (λ (x : Tagged). x.item)) c.enough in
      record { part = prefix_take (length g) (run m start took).gave; enough = subst (λ n. length (run m start (take (length took - h) took)).gave ≤ n) (sym (tagged_length g (run m start took).gave p)) few }

  cut_items : (h : ℕ) (start : Run Subs Tagged) (took : List Tree) (g : List Tree) → CutBy j h (untag start) took g → untagged (take (length g) (run m start took).gave) ≡ g
  cut_items h start took g c = tagged_part g (run m start took).gave (subst (λ (y : Run Subs Tree). IsPrefix g y.gave) (run_untag start took) c.part)

  pub state_untag : (start : Run Subs Tagged) (took : List Tree) → (run j (untag start) took).state ≡ (run m start took).state
  state_untag start took = ap (λ (y : Run Subs Tree). y.state) (run_untag start took)

  refuses_untag : (f : Finish Tagged) (c : Cause) → untag_finish f ≡ refuses c → f ≡ refuses c
  refuses_untag (adds l) c e = cc
  refuses_untag (refuses d) c e = cc

  fails_untag : (start : Run Subs Tagged) (took : List Tree) (e : End) (g : List Tree) (c : Cause) → Fails j (untag start) took e g c → (t : List Tagged) × ((untagged t ≡ g) × Fails m start took e t c)
  fails_untag start took e g c (own_doing s) = ((run m start took).gave, (sym (ap (λ (y : Run Subs Tree). y.gave) (run_untag start took)), own_doing (sym (state_untag start took) ∙ s)))
  fails_untag start took e g c (at_finish {s} st f cut) =
      (take (length g) (run m start took).gave, (cut_items j.early start took g cut, at_finish (sym (state_untag start took) ∙ st) (refuses_untag (sub_finish yields s) c f) (cut_untag j.early start took g cut)))
  fails_untag start took e g c (of_input on cut) =
      (take (length g) (run m start took).gave, (cut_items j.hold start took g cut, of_input (subst (λ (k : State Subs). IsTrue (is_going k)) (state_untag start took) on) (cut_untag j.hold start took g cut)))

  -- what the joined machine lets a stage give is what the machine of substreams lets it
  pub stands_tagged : (start : Run Subs Tagged) (took : List Tree) (e : End) (g : List Tree) (f : End) → Stands j (untag start) took e g f → (t : List Tagged) × ((untagged t ≡ g) × Stands m start took e t f)
  stands_tagged start took e g unended p =
      let q : IsPrefix g (untagged (close m (run m start took) e).list) = subst (λ (y : Given Tree). IsPrefix g y.list) (closed_untag start took e) p in
      (take (length g) (close m (run m start took) e).list, (tagged_part g (close m (run m start took) e).list q, prefix_take (length g) (close m (run m start took) e).list))
  stands_tagged start took e g ended s =
      let q : items_of (close m (run m start took) e) ≡ record { list = g; end = ended } = sym (closed_untag start took e) ∙ s in
      ((close m (run m start took) e).list, (ap (λ (y : Given Tree). y.list) q, ap (λ (d : End). record { list = (close m (run m start took) e).list; end = d }) (ap (λ (y : Given Tree). y.end) q)))
  stands_tagged start took e g (failed c) s = fails_untag start took e g c s

  -- what was given is the first part of what is ready
  stands_part : (start : Run Subs Tagged) (took : List Tree) (e : End) (g : List Tree) (f : End) → Stands j (untag start) took e g f → IsPrefix g (close j (run j (untag start) took) e).list
  stands_part start took e g unended p = p
  stands_part start took e g ended s = subst (IsPrefix g) (sym (ap (λ (y : Given Tree). y.list) s)) (prefix_refl g)
  stands_part start took e g (failed c) (own_doing s) = close_grows j (run j (untag start) took) e
  stands_part start took e g (failed c) (at_finish st f cut) = prefix_trans cut.part (close_grows j (run j (untag start) took) ended)
  stands_part start took e g (failed c) (of_input {c = d} on cut) = prefix_trans cut.part (close_grows j (run j (untag start) took) (failed d))

  pub ready_part : (start : Run Subs Tagged) (took : List Tree) (e : End) (g : List Tree) (f : End) → Stands j (untag start) took e g f → untagged (take (length g) (close m (run m start took) e).list) ≡ g
  ready_part start took e g f s = tagged_part g (close m (run m start took) e).list (subst (λ (y : Given Tree). IsPrefix g y.list) (closed_untag start took e) (stands_part start took e g f s))
