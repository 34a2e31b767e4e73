-- Bodies that went on or broke off.
use Rattle.std.proofs.Common.{◌≡◌, inl, inr, ℕ, Bool, true, false, not, List, sym, refl, ap, ◌∙◌, slice_get}
use Rattle.lane_core.specs.declared.crossing.Crossing.{Crossing}
use Rattle.lane_core.specs.Bodies.{AllOf, EachOf, BrokeOff}
use Rattle.lane_core.specs.Crossings.{AreCrossings}
use Rattle.lane_core.proofs.Each.{same_or, at_count}
use Rattle.lane_core.proofs.Lanes.{crossings_each}
use Rattle.dispatcher.specs.Broken.{WholeOrBroken}
use Rattle.dispatcher.specs.Places.{BodyWentOn, WentOrBroke, PlaceStands}

module _ {B : Type 0} (keeps : B → Type 0) (goes breaks : B → B → Type 0) where
  pub stands_either : (spent : B → ℕ) (start body : B) (used : ℕ) (broken : Bool) → PlaceStands keeps goes breaks spent start body used broken → WentOrBroke keeps goes breaks start body
  stands_either spent start body used false s = inl (s.0 refl).0
  stands_either spent start body used true s = inr (s.1 refl)

  pub went_goes : (xs ys : List B) → EachOf (BodyWentOn keeps goes) xs ys → EachOf goes xs ys
  went_goes xs ys e = record { count = e.count; each = λ k a b ea eb. (e.each k a b ea eb).0 }

  pub went_keeps : (xs ys : List B) → EachOf (BodyWentOn keeps goes) xs ys → AllOf keeps ys
  went_keeps xs ys e = λ k b eb. let a = at_count ys xs k b (sym e.count) eb in (e.each k a.0 b a.1 eb).1

  -- all met afterwards
  pub either_met : (stands : B → B → Type 0) → ((a b c : B) → goes a b → goes b c → goes a c) → ((a b c : B) → breaks a b → stands b c → breaks a c) → ((a b : B) → stands a b → keeps a → keeps b) → (xs ys zs : List B) → EachOf (WentOrBroke keeps goes breaks) xs ys → EachOf stands ys zs → EachOf goes ys zs → WholeOrBroken keeps goes breaks xs zs
  either_met stands on bon kon xs ys zs p s q = record {
    count = s.count ∙ p.count;
    each = λ k a c ea ec. let m = at_count xs ys k a p.count ea in elim (p.each k a m.0 ea m.1) [
      | inl w ↦ inl (on a m.0 c w.0 (q.each k m.0 c m.1 ec), kon m.0 c (s.each k m.0 c m.1 ec) w.1)
      | inr b ↦ inr (bon a m.0 c b (s.each k m.0 c m.1 ec))
    ];
  }

  -- one broke off afterwards
  pub whole_broke : (xs ys : List B) → BrokeOff keeps goes breaks xs ys → WholeOrBroken keeps goes breaks xs ys
  whole_broke xs ys q = record {
    count = q.count;
    each = λ k a b ea eb. elim (same_or k q.at) [
      | inl e ↦ inr (q.broke a b (ap (λ n. slice_get xs n) (sym e) ∙ ea) (ap (λ n. slice_get ys n) (sym e) ∙ eb))
      | inr ne ↦ inl (q.others_go k a b ne ea eb, q.others_keep k b ne eb)
    ];
  }

  -- ends of lanes may meet where each body went on or broke off
  pub crossings_either : (may : B → ℕ → B → ℕ → Type 0)
      → ((a b c : B) (o i : ℕ) → goes a c → may a o b i → may c o b i) → ((a b d : B) (o i : ℕ) → goes b d → may a o b i → may a o d i)
      → ((a b c : B) (o i : ℕ) → breaks a c → may a o b i → may c o b i) → ((a b d : B) (o i : ℕ) → breaks b d → may a o b i → may a o d i)
      → (xs ys : List B) (lanes : List Crossing) → EachOf (WentOrBroke keeps goes breaks) xs ys → AreCrossings may xs lanes → AreCrossings may ys lanes
  crossings_either may go gi bo bi xs ys lanes e h = crossings_each may (WentOrBroke keeps goes breaks)
      (λ a b c o i r m. elim r [ inl g ↦ go a b c o i g.0 m | inr k ↦ bo a b c o i k m ])
      (λ a b d o i r m. elim r [ inl g ↦ gi a b d o i g.0 m | inr k ↦ bi a b d o i k m ])
      xs ys lanes e h

pub not_false : (t : Bool) → not t ≡ true → t ≡ false
not_false false e = refl
not_false true e = sym e
