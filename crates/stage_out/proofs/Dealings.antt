-- What the outputs of a balance got by its moves: by none, by one, and by these and then those; and what an output may have given.
use Rattle.std.specs.Prelude.{◌==◌, if◌then◌else◌}
use Rattle.std.proofs.Common.{◌≡◌, ◌≢◌, ℕ, ◌+◌, ◌≤◌, Bool, true, false, true≢false, List, [], ◌∷◌, ◌++◌, length, drop, refl, sym, ap, ◌∙◌, subst, arith, length-append, append-nil, append_assoc}
use Rattle.std.proofs.lemmas.Bool.Decides.{nat_tests}
use Rattle.elem_core.specs.Prefix.{IsPrefix}
use Rattle.elem_core.specs.Tree.{Tree}
use Rattle.elem_core.specs.declared.why.Cause.{Cause}
use Rattle.elem_core.proofs.Prefixes.{prefix_refl}
use Rattle.stream_model.specs.Outlook.{Outlook, End, unended, ended, failed, Agrees}
use Rattle.stream_model.specs.FanIn.{Inflow}
use Rattle.stream_model.specs.Picks.{sent_to, balance_outlook, BalanceStands}
use Rattle.stream_model.proofs.PickTraces.{balance_trace, agrees_prefix}
use Rattle.stage_core.specs.Inflows.{joined_at}
use Rattle.stage_out.specs.Dealings.{Dealt, DealStands, goes_to}
use Rattle.stage_out.proofs.Balances.{sent_more, sent_then, drop_more, drop_then, drop_length, within_more}

same_place : (j k : ℕ) → (j == k) ≡ true → j ≡ k
same_place j k e = grind (arith, nat_tests)

no_prefix : (l : List Tree) → IsPrefix [] l
no_prefix l = record { rest = l; is = refl }

prefix_more : (l m n : List Tree) → IsPrefix l m → IsPrefix l (m ++ n)
prefix_more l m n p = record { rest = p.rest ++ n; is = ap (λ (x : List Tree). x ++ n) p.is ∙ append_assoc l p.rest n }

prefix_behind : (a l m : List Tree) → IsPrefix l m → IsPrefix (a ++ l) (a ++ m)
prefix_behind a l m p = record { rest = p.rest; is = ap (λ (x : List Tree). a ++ x) p.is ∙ sym (append_assoc a l p.rest) }

-- ---- by no move, and by one

pub dealt_none : (lacks : ℕ → Bool) (l us : List Tree) → l ≡ us → Dealt lacks [] l (λ j. []) us
dealt_none lacks l us h = record { within = omega arith; left = h; gave = λ j n. refl; part = λ j. no_prefix [] }

sent_one : (j k : ℕ) (t : Tree) (b : Bool) → (j == k) ≡ b → sent_to k (j ∷ []) (t ∷ []) ≡ goes_to j t k
sent_one j k t true e = rw e refl
sent_one j k t false e = rw e refl

-- an element goes out
pub dealt_one : (lacks : ℕ → Bool) (j : ℕ) (t : Tree) → Dealt lacks (j ∷ []) (t ∷ []) (goes_to j t) []
dealt_one lacks j t = record {
  within = omega arith;
  left = refl;
  gave = λ k n. sym (sent_one j k t (j == k) refl);
  part = λ k. subst (λ (x : List Tree). IsPrefix x (sent_to k (j ∷ []) (t ∷ []))) (sent_one j k t (j == k) refl) (prefix_refl (sent_to k (j ∷ []) (t ∷ [])));
}

-- an element is dropped, since its output is gone
pub dealt_drop : (lacks : ℕ → Bool) (j : ℕ) (t : Tree) → lacks j ≡ true → Dealt lacks (j ∷ []) (t ∷ []) (λ k. []) []
dealt_drop lacks j t lost = record {
  within = omega arith;
  left = refl;
  gave = λ k n. sym (sent_one j k t (j == k) refl ∙ elsewhere k (j == k) refl n);
  part = λ k. no_prefix (sent_to k (j ∷ []) (t ∷ []));
}
  where
    elsewhere : (k : ℕ) (b : Bool) → (j == k) ≡ b → lacks k ≡ false → goes_to j t k ≡ []
    elsewhere k true e n = absurd (true≢false (sym lost ∙ (ap lacks (same_place j k e) ∙ n)))
    elsewhere k false e n = rw e refl

-- ---- by these moves and then those

module _ (was lacks : ℕ → Bool) (moves more : List ℕ) (less : (j : ℕ) → lacks j ≡ false → was j ≡ false) where
  pub dealt_then : (l w r u : List Tree) (g k : ℕ → List Tree) → ((j : ℕ) → was j ≡ true → k j ≡ []) → Dealt was moves l g w → Dealt lacks more (w ++ r) k u → Dealt lacks (moves ++ more) (l ++ r) (λ j. g j ++ k j) u
  dealt_then l w r u g k none d i = record {
    within = let a = length-append moves more in let b = i.within in let c = drop_length moves (l ++ r) (within_more moves l r d.within) in let e : length (drop (length moves) (l ++ r)) ≡ length (w ++ r) = ap length left in omega (arith, a, b, c, e);
    left = drop_then moves more (l ++ r) (within_more moves l r d.within) ∙ ap (λ (x : List Tree). drop (length more) x) left ∙ i.left;
    gave = λ j n. ap (λ (x : List Tree). x ++ k j) (d.gave j (less j n)) ∙ ap (λ (x : List Tree). sent_to j moves l ++ x) (i.gave j n) ∙ sym (sent_is j);
    part = λ j. by_was j (was j) refl;
  }
    where
      left : drop (length moves) (l ++ r) ≡ w ++ r
      left = drop_more moves l r d.within ∙ ap (λ (x : List Tree). x ++ r) d.left

      sent_is : (j : ℕ) → sent_to j (moves ++ more) (l ++ r) ≡ sent_to j moves l ++ sent_to j more (w ++ r)
      sent_is j =
          sent_then j moves more (l ++ r) (within_more moves l r d.within)
          ∙ ap (λ (x : List Tree). x ++ sent_to j more (drop (length moves) (l ++ r))) (sent_more j moves l r d.within)
          ∙ ap (λ (x : List Tree). sent_to j moves l ++ sent_to j more x) left

      by_was : (j : ℕ) (b : Bool) → was j ≡ b → IsPrefix (g j ++ k j) (sent_to j (moves ++ more) (l ++ r))
      by_was j false n =
          let p : IsPrefix (sent_to j moves l ++ k j) (sent_to j moves l ++ sent_to j more (w ++ r)) = prefix_behind (sent_to j moves l) (k j) (sent_to j more (w ++ r)) (i.part j) in
          subst (λ (x : List Tree). IsPrefix (x ++ k j) (sent_to j (moves ++ more) (l ++ r))) (sym (d.gave j n)) (subst (λ (x : List Tree). IsPrefix (sent_to j moves l ++ k j) x) (sym (sent_is j)) p)
      by_was j true lost =
          let same : g j ++ k j ≡ g j = ap (λ (x : List Tree). g j ++ x) (none j lost) ∙ append-nil (g j) in
          let p : IsPrefix (g j) (sent_to j moves l ++ sent_to j more (w ++ r)) = prefix_more (g j) (sent_to j moves l) (sent_to j more (w ++ r)) (d.part j) in
          subst (λ (x : List Tree). IsPrefix x (sent_to j (moves ++ more) (l ++ r))) (sym same) (subst (λ (x : List Tree). IsPrefix (g j) x) (sym (sent_is j)) p)

  still_then : (l w u : List Tree) (g k : ℕ → List Tree) → ((j : ℕ) → was j ≡ true → k j ≡ []) → Dealt was moves l g w → Dealt lacks more w k u → Dealt lacks (moves ++ more) l (λ j. g j ++ k j) u
  still_then l w u g k none d i =
      subst (λ (x : List Tree). Dealt lacks (moves ++ more) x (λ j. g j ++ k j) u) (append-nil l)
      (dealt_then l w [] u g k none d (subst (λ (x : List Tree). Dealt lacks more x k u) (sym (append-nil w)) i))

  -- the same where an event brought r, by how the input stands
  pub joined_then : (e : End) (l w u : List Tree) (r : Inflow) (g k : ℕ → List Tree) → ((j : ℕ) → was j ≡ true → k j ≡ []) → Dealt was moves l g w → Dealt lacks more (joined_at e w r).list k u → Dealt lacks (moves ++ more) (joined_at e l r).list (λ j. g j ++ k j) u
  joined_then unended l w u r g k none d i = dealt_then l w r.list u g k none d i
  joined_then ended l w u r g k none d i = still_then l w u g k none d i
  joined_then (failed c) l w u r g k none d i = still_then l w u g k none d i

-- ---- for every rest of its input and all further moves

pub dealt_rest : (lacks : ℕ → Bool) (moves : List ℕ) (l w : List Tree) (g : ℕ → List Tree) → Dealt lacks moves l g w → (r : List Tree) (further : List ℕ) (j : ℕ) → lacks j ≡ false → sent_to j (moves ++ further) (l ++ r) ≡ g j ++ sent_to j further (w ++ r)
dealt_rest lacks moves l w g h r further j n =
    sent_then j moves further (l ++ r) (within_more moves l r h.within)
    ∙ ap (λ (u : List Tree). u ++ sent_to j further (drop (length moves) (l ++ r))) (sent_more j moves l r h.within ∙ sym (h.gave j n))
    ∙ ap (λ (u : List Tree). g j ++ sent_to j further u) (drop_more moves l r h.within ∙ ap (λ (u : List Tree). u ++ r) h.left)

-- ---- what an output may have given

pub deal_stands : (lacks : ℕ → Bool) (moves : List ℕ) (f : Inflow) (w : List Tree) (g : ℕ → List Tree) (j : ℕ) (e : End) → Dealt lacks moves f.list g w
    → (e ≢ unended → lacks j ≡ false) → (e ≡ ended → (f.end ≡ ended) × (w ≡ [])) → ((c : Cause) → e ≡ failed c → (f.end ≡ failed c) × (length w ≤ 1)) → DealStands (lacks j) moves j f (g j) e
deal_stands lacks moves f w g j e d there ends fails =
    let a = drop_length moves f.list d.within in
    let x : length (drop (length moves) f.list) ≡ length w = ap length d.left in
    record {
      taken = d.within;
      part = d.part j;
      whole = d.gave j;
      closed = there;
      ends = λ is. let p = ends is in let y : length w ≡ 0 = ap length p.1 in (p.0, omega (arith, a, x, y));
      fails = λ c is. let p = fails c is in let y = p.1 in (p.0, omega (arith, a, x, y));
    }

-- one that lacks nothing is an output of any balance
pub as_balance : (lacks : Bool) (moves : List ℕ) (i : ℕ) (f : Inflow) (g : List Tree) (e : End) → lacks ≡ false → DealStands lacks moves i f g e → BalanceStands moves i f g e
as_balance lacks moves i f g e n s = record { taken = s.taken; gave = s.whole n; ends = s.ends; fails = s.fails }

pub deal_agrees : (lacks : Bool) (moves : List ℕ) (i : ℕ) (o : Outlook) (f : Inflow) (g : List Tree) (e : End) → Agrees o f.list f.end → DealStands lacks moves i f g e → Agrees (balance_outlook moves o i) g e
deal_agrees lacks moves i o f g unended a s =
    let p = agrees_prefix o f.list f.end a in
    let all : sent_to i moves o.list ≡ sent_to i moves f.list = ap (λ (x : List Tree). sent_to i moves x) p.is ∙ sent_more i moves f.list p.rest s.taken in
    subst (λ (x : List Tree). IsPrefix g x) (sym all) s.part
deal_agrees lacks moves i o f g ended a s = balance_trace moves i o f g ended a (as_balance lacks moves i f g ended (s.closed (λ e. cc)) s)
deal_agrees lacks moves i o f g (failed c) a s = balance_trace moves i o f g (failed c) a (as_balance lacks moves i f g (failed c) (s.closed (λ e. cc)) s)
