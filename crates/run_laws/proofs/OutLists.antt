-- The outputs of a stage with several of them, by the list of what each gave.
use Rattle.std.specs.Prelude.{slice_index_or, ⊤}
use Rattle.std.proofs.Common.{◌≡◌, ℕ, zero, suc, ◌+◌, ◌≤◌, Bool, List, [], ◌∷◌, map, length, sym, ap, subst, ◌∙◌, arith, append-nil}
use Rattle.std.proofs.lemmas.List.{length-map}
use Rattle.elem_core.specs.Prefix.{IsPrefix}
use Rattle.elem_core.proofs.Prefixes.{prefix_length}
use Rattle.elem_core.specs.Tree.{Tree}
use Rattle.elem_core.specs.Items.{elements}
use Rattle.elem_core.specs.declared.function.MapFn.{MapFn}
use Rattle.elem_core.specs.declared.item.Item.{Item}
use Rattle.port_core.specs.View.{View, in_at, out_at}
use Rattle.stream_model.specs.Outlook.{End, ended}
use Rattle.stream_model.specs.Machine.{Run, run, close, Stands}
use Rattle.stream_model.specs.Linear.{Book, Stage}
use Rattle.stream_model.proofs.MachineLaws.{gave_prefix}
use Rattle.stage_core.specs.Held.{told, Held}
use Rattle.stage_core.specs.Law.{TookAs, Law}
use Rattle.stage_core.specs.Outs.{Outlet, OutsLaw, owe}
use Rattle.stage_core.proofs.Whole.{stage_stands}
use Rattle.stage_core.specs.declared.outs.OutputState.{OutputState}
use Rattle.stage_out.specs.Copies.{copying, nothing_owed}
use Rattle.stage_out.specs.Machines.{no_stage, copiers, number_starts}
use Rattle.stage_out.proofs.Agreeing.{copies_run}
use Rattle.stage_out.proofs.Rests.{told_lists}
use Rattle.run_laws.specs.Ports.{OutPort, EachPort, OutStands, sents_of}
use Rattle.run_laws.proofs.Bounds.{gives_most}
use Rattle.run_laws.proofs.Coming.{elements_told}
use Rattle.run_laws.proofs.Numberings.{machine, start, no_more}

-- the law of each output from number n on, over what each gave
abbrev pub OutsList : ℕ → List (Outlet Stage) → View → List Item → List (List Item) → Type 0
OutsList n [] v took [] = ⊤
OutsList n (o ∷ os) v took (h ∷ hs) = Law o.machine o.start o.held (in_at v 0) (out_at v n) took h × OutsList (n + 1) os v took hs
OutsList _ _ v took _ = ⊥

outs_from : (os : List (Outlet Stage)) (n : ℕ) (v : View) (took : List Item) (gave : ℕ → List Item) (hs : List (List Item)) → length hs ≡ length os → ((j : ℕ) → gave (n + j) ≡ slice_index_or hs j []) → OutsLaw n os v took gave → OutsList n os v took hs
outs_from [] n v took gave [] l same law = tt
outs_from [] n v took gave (h ∷ hs) l same law = absurd (omega (arith, l))
outs_from (o ∷ os) n v took gave [] l same law = absurd (omega (arith, l))
outs_from (o ∷ os) n v took gave (h ∷ hs) l same law =
    let z : n + 0 ≡ n = omega arith in
    let here : gave n ≡ h = ap gave (sym z) ∙ same 0 in (
      subst (λ (g : List Item). Law o.machine o.start o.held (in_at v 0) (out_at v n) took g) here law.0,
      outs_from os (n + 1) v took gave hs (omega (arith, l)) (λ j. let a : n + 1 + j ≡ n + suc j = omega arith in ap gave a ∙ same (suc j)) law.1,
    )

pub outs_list : (os : List (Outlet Stage)) (v : View) (took : List Item) (hs : List (List Item)) → length hs ≡ length os → OutsLaw 0 os v took (λ j. slice_index_or hs j []) → OutsList 0 os v took hs
outs_list os v took hs l law = outs_from os 0 v took (λ j. slice_index_or hs j []) hs l (λ j. let z : 0 + j ≡ j = omega arith in ap (λ k. slice_index_or hs k []) z) law

-- what came in is a list and an end, which are known of the input
pub record Came (v : View) (took : List Item) : Type 0 where
  pub list : List Tree
  pub end : End
  pub is : took ≡ told list end
  pub as_seen : TookAs (in_at v 0) end

pub came_in : (os : List (Outlet Stage)) (n : ℕ) (v : View) (took : List Item) (gave : ℕ → List Item) → 1 ≤ length os → OutsLaw n os v took gave → Came v took
came_in [] n v took gave some law = absurd (omega (arith, some))
came_in (o ∷ os) n v took gave some law = record { list = law.0.in_list; end = law.0.in_end; is = law.0.took_is; as_seen = law.0.took_as }

-- ---- no output is given more than it may

-- what each output from number n on may have given of a first part of a list is no more than these
abbrev pub AllMost : ℕ → List (Outlet Stage) → List Tree → (ℕ → ℕ) → Type 0
AllMost n [] k b = ⊤
AllMost n (o ∷ os) k b = ((l : List Tree) (e : End) (g : List Tree) (h : End) → IsPrefix l k → Stands o.machine o.start l e g h → length g ≤ b n) × AllMost (n + 1) os k b

abbrev pub AllSent : ℕ → List OutPort → (ℕ → ℕ) → Type 0
AllSent n [] b = ⊤
AllSent n (o ∷ os) b = (o.wire.sent ≤ b n) × AllSent (n + 1) os b

pub all_sent : (os : List (Outlet Stage)) (ports : List OutPort) (n : ℕ) (v : View) (took : List Item) (l k : List Tree) (e : End) (b : ℕ → ℕ) → AllMost n os k b → OutsList n os v took (sents_of ports) → took ≡ told l e → IsPrefix l k → EachPort OutStands ports → AllSent n ports b
all_sent [] [] n v took l k e b m law is part s = tt
all_sent [] (p ∷ ports) n v took l k e b m law is part s = absurd law
all_sent (o ∷ os) [] n v took l k e b m law is part s = absurd law
all_sent (o ∷ os) (p ∷ ports) n v took l k e b m law is part s =
    let same : law.0.in_list ≡ l = told_lists law.0.in_list l law.0.in_end e (sym law.0.took_is ∙ is) in
    let most = m.0 law.0.in_list law.0.in_end law.0.out_list law.0.out_end (subst (λ (x : List Tree). IsPrefix x k) (sym same) part) (stage_stands o.machine o.start o.held (in_at v 0) (out_at v n) took p.sent law.0) in
    let gave = ap elements law.0.gave_is ∙ elements_told law.0.out_list law.0.out_end in
    let count = s.0.count in
    (omega (arith, most, gave, count), all_sent os ports (n + 1) v took l k e b m.1 law.1 is part s.1)

-- a part of each element
copy_most : (f : Tree → Tree) (l k : List Tree) (e : End) (g : List Tree) (h : End) → IsPrefix l k → Stands (copying f) (nothing_owed no_stage) l e g h → length g ≤ length k
copy_most f l k e g h p st =
    let most = (gives_most (copying f) (nothing_owed no_stage) l e g h st).in_all in
    let all : length (close (copying f) (run (copying f) (nothing_owed no_stage) l) ended).list ≡ length l =
    ap (λ (x : Run Stage Tree). length (close (copying f) x ended).list) (copies_run f no_stage l) ∙ (ap length (append-nil (map f l)) ∙ length-map l f) in
    let part = prefix_length p in
    omega (arith, most, all, part)

pub copiers_most : (part : ℕ → Tree → Tree) (live : Bool) (n : ℕ) (ws : List OutputState) (k : List Tree) → AllMost n (copiers part live n ws) k (λ j. length k)
copiers_most part live n [] k = tt
copiers_most part live n (w ∷ ws) k = (λ l e g h p st. copy_most (part n) l k e g h p st, copiers_most part live (n + 1) ws k)

-- the elements of a number
module _ (book : Book) (node n : ℕ) (f : MapFn) where
  number_most : (q : ℕ) (k l : List Tree) (e : End) (g : List Tree) (h : End) → IsPrefix l k → Stands (machine book node n f q) (start book node n f q) l e g h → length g ≤ length (run (machine book node n f q) (start book node n f q) k).gave
  number_most q k l e g h p st =
      let most = (gives_most (machine book node n f q) (start book node n f q) l e g h st).in_all in
      let all = no_more book node n f q l in
      let part = prefix_length (gave_prefix (machine book node n f q) (start book node n f q) p) in
      omega (arith, most, all, part)

  abbrev pub number_count : List Tree → ℕ → ℕ
  number_count k j = length (run (machine book node n f j) (start book node n f j) k).gave

  starts_most : (q m : ℕ) (k : List Tree) → AllMost q (number_starts book node n f q m) k (number_count k)
  starts_most q zero k = tt
  starts_most q (suc m) k = (λ l e g h p st. number_most q k l e g h p st, starts_most (q + 1) m k)

  pub numbers_most : (q m : ℕ) (hs : List (Held Stage)) (k : List Tree) → AllMost q (owe (number_starts book node n f q m) hs) k (number_count k)
  numbers_most q zero hs k = tt
  numbers_most q (suc m) [] k = (λ l e g h p st. number_most q k l e g h p st, starts_most (q + 1) m k)
  numbers_most q (suc m) (x ∷ hs) k = (λ l e g h p st. number_most q k l e g h p st, numbers_most (q + 1) m hs k)
