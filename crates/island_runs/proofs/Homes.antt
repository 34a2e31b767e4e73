-- The homes of what is left, by the kinds of the blueprint's nodes; and the shares of what is left.
use Rattle.std.specs.Prelude.{slice_get, if◌then◌else◌, All}
use Rattle.std.proofs.Common.{◌≡◌, ℕ, suc, ◌<◌, Bool, true, false, List, [], ◌∷◌, ◌++◌, length, Option, Some, None, refl, ap, sym, ◌∙◌, subst, arith}
use Rattle.stream_model.specs.declared.blueprint.Node as blue
use Rattle.scatter.specs.Shares.{of_home}
use Rattle.island_parts.specs.Ends.{with_home, homes_left, leaves_something}
use Rattle.island_parts.proofs.Behind.{homes_behind}
use Rattle.island_parts.proofs.Leaving.{with_one, those, share_those, those_count, all_left}
use Rattle.island_plans.specs.declared.ends.EndList.{EndList}
use Rattle.island_plans.specs.Ends.{leaves_in, homes_in}

home_kept : {Y : Type 0} (b : Bool) (o : Option Y) (h : ℕ) (gs hs : List ℕ) → leaves_something o ≡ b → gs ≡ hs → (if b then h ∷ [] else []) ++ gs ≡ with_home o h hs
home_kept true None h gs hs l e = cc
home_kept false None h gs hs l e = e
home_kept true (Some y) h gs hs l e = ap (λ t. h ∷ t) e
home_kept false (Some y) h gs hs l e = cc

-- what nodes leave is at home where their kinds say so
pub homes_kept : {X Y : Type 0} (list : EndList) (f : X → Option Y) (ns : List blue.Node) (homes : List ℕ) (xs : List X) → length xs ≡ length ns → ((k : ℕ) (n : blue.Node) (x : X) → slice_get ns k ≡ Some n → slice_get xs k ≡ Some x → leaves_something (f x) ≡ leaves_in list n)
    → homes_in list ns homes ≡ homes_left f homes xs
homes_kept list f [] [] [] e h = refl
homes_kept list f [] (i ∷ homes) [] e h = refl
homes_kept list f [] homes (x ∷ xs) e h = absurd (omega (arith, e))
homes_kept list f (n ∷ ns) [] xs e h = refl
homes_kept list f (n ∷ ns) (i ∷ homes) [] e h = absurd (omega (arith, e))
homes_kept list f (n ∷ ns) (i ∷ homes) (x ∷ xs) e h =
    home_kept (leaves_in list n) (f x) i (homes_in list ns homes) (homes_left f homes xs) (h 0 n x refl refl) (homes_kept list f ns homes xs (omega (arith, e)) (λ k m y p q. h (suc k) m y p q))

pub none_left : {Y : Type 0} (o : Option Y) → leaves_something o ≡ false → o ≡ None
none_left None e = refl
none_left (Some y) e = cc

one_more : {Y : Type 0} (o : Option Y) (ys zs : List Y) → ys ≡ zs → with_one o ys ≡ with_one o zs
one_more o ys zs e = ap (with_one o) e

-- items that leave nothing add nothing behind others
pub those_more : {X Y : Type 0} (f : X → Option Y) (xs more : List X) → ((k : ℕ) (x : X) → slice_get more k ≡ Some x → f x ≡ None) → those f (xs ++ more) ≡ those f xs
those_more f [] [] h = refl
those_more f [] (x ∷ more) h = ap (λ o. with_one o (those f more)) (h 0 x refl) ∙ those_more f [] more (λ k y e. h (suc k) y e)
those_more f (x ∷ xs) more h = one_more (f x) (those f (xs ++ more)) (those f xs) (those_more f xs more h)

-- ---- one list of what is left, of which the items behind the others leave nothing

pub record AreLeftOf {X Y : Type 0} (f : X → Option Y) (homes others : List ℕ) (count : ℕ) (xs more : List X) (own : List ℕ) : Type 0 where
  pub many : length xs ≡ length homes
  pub below : All (λ h. h < count) homes
  pub none : (k : ℕ) (x : X) → slice_get more k ≡ Some x → f x ≡ None
  pub own_are : own ≡ homes_left f homes xs

module _ {X Y : Type 0} (f : X → Option Y) (homes others : List ℕ) (count : ℕ) (xs more : List X) (own : List ℕ) (l : AreLeftOf f homes others count xs more own) where
  pub own_below : All (λ h. h < count) own
  own_below = subst (λ (hs : List ℕ). All (λ h. h < count) hs) (sym l.own_are) (all_left f (λ h. h < count) homes xs l.below)

  pub own_each : length (those f xs) ≡ length own
  own_each = those_count f homes xs l.many ∙ ap length (sym l.own_are)

  pub own_share : (k : ℕ) → those f (of_home (homes ++ others) k (xs ++ more)) ≡ of_home own k (those f xs)
  own_share k =
      share_those f (homes ++ others) k (xs ++ more)
      ∙ (ap (λ (hs : List ℕ). of_home hs k (those f (xs ++ more))) (homes_behind f homes others xs more l.many l.none ∙ sym l.own_are) ∙ ap (of_home own k) (those_more f xs more l.none))
