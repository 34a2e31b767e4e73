-- The loop over crossings, of each of which is told what was asked, and that over lanes, each of which is noted.
use Rattle.std.proofs.Common.{◌≡◌, ◌≢◌, ℕ, zero, suc, ◌+◌, ◌<◌, false, List, [], ◌∷◌, ◌++◌, length, set, Some, refl, ap, sym, ◌∙◌, subst, inl, inr, arith}
use Rattle.std.specs.Prelude.{slice_get, get_or}
use Rattle.std.proofs.lemmas.Option.{slice_get_within}
use Rattle.stream_model.specs.declared.outcome.WireCount.{WireCount}
use Rattle.fused_net.proofs.Reading.{same_or_not, get_set_same, get_set_other}
use Rattle.lane_core.specs.Ends.{asked_in_all}
use Rattle.island_body.specs.declared.input.IslandInput.{IslandInput}
use Rattle.lane_core.specs.declared.crossing.Crossing.{Crossing}
use Rattle.blue_check.specs.declared.plan.LanePlan.{LanePlan}
use Rattle.island_plans.specs.LaneEnds.{AreRising}
use Rattle.island_plans.proofs.LaneMaking.{no_lane}
use Rattle.island_body.specs.declared.body.Body.{Body}
use Rattle.island_plans.specs.Asked.{AreAsked, AreNoted, with_demand}
use Rattle.island_plans.proofs.Making.{EachIs, same_item, each_next, one_more}

-- what is read where nothing stands
abbrev pub no_crossing : Crossing
no_crossing = record { from = 0; out = 0; to = 0; inp = 0 }

abbrev pub no_count : WireCount
no_count = record { sent = 0; asked = false; shut = false }

pub set_many : {X : Type 0} (xs : List X) (n : ℕ) (y : X) → length (set xs n y) ≡ length xs
set_many [] n y = refl
set_many (x ∷ xs) zero y = refl
set_many (x ∷ xs) (suc n) y = ap suc (set_many xs n y)

pub at_place : {X : Type 0} (xs : List X) (n : ℕ) (d : X) → n < length xs → slice_get xs n ≡ Some (get_or xs n d)
at_place [] n d h = absurd (omega (arith, h))
at_place (x ∷ xs) zero d h = refl
at_place (x ∷ xs) (suc n) d h = at_place xs n d (omega (arith, h))

module _ {S D L H B : Type 0} (bodies : List (Body S D L H B)) where
  -- what the input end of a crossing has asked for
  abbrev pub Asks : Crossing → ℕ → Type 0
  Asks c a = (b : Body S D L H B) (x : IslandInput) → slice_get bodies c.to ≡ Some b → slice_get b.ins.items c.inp ≡ Some x → a ≡ asked_in_all x.boundary.lane

  module _ (crossings : List Crossing) where
    -- so much was asked for at the crossing of a place
    abbrev pub AsksAt : ℕ → ℕ → Type 0
    AsksAt k a = (c : Crossing) → slice_get crossings k ≡ Some c → Asks c a

    -- of the first n crossings is told what was asked
    pub record AskedTo (n : ℕ) (all : List ℕ) : Type 0 where
      pub many : length all ≡ n
      pub each : EachIs AsksAt all

    pub asked_next : (n : ℕ) (c : Crossing) (a : ℕ) (all new : List ℕ) → slice_get crossings n ≡ Some c → Asks c a → AskedTo n all → new ≡ all ++ a ∷ [] → AskedTo (n + 1) new
    asked_next n c a all new at asks t put =
        let more = one_more all new a put in
        let here : AsksAt n a = λ d ad. subst (λ v. Asks v a) (same_item c d (sym at ∙ ad)) asks in
        record {
          many = omega (arith, more, t.many);
          each = each_next AsksAt all new a t.each put (subst (λ m. AsksAt m a) (sym t.many) here);
        }

    pub asked_last : (n : ℕ) (all : List ℕ) → n ≡ length crossings → AskedTo n all → AreAsked bodies crossings all
    asked_last n all e t = record {
      many = t.many ∙ e;
      each = λ m c b x ac ab ax.
          let lt : m < length all = let i = slice_get_within crossings m c ac in omega (arith, i, e, t.many) in
          let at = at_place all m 0 lt in
          at ∙ ap (λ v. Some v) (t.each m (get_or all m 0) at c ac b x ab ax);
    }

module _ (all : List ℕ) (lanes : List LanePlan) (old : List WireCount) where
  -- the counts of the first n lanes are noted
  pub record NotedTo (n : ℕ) (new : List WireCount) : Type 0 where
    pub many : length new ≡ length old
    pub each : (m a : ℕ) (l : LanePlan) (w : WireCount) → m < n → slice_get lanes m ≡ Some l → slice_get all m ≡ Some a → slice_get old l.wire ≡ Some w → slice_get new l.wire ≡ Some (with_demand w a)
    pub others : (u : ℕ) → ((m : ℕ) (l : LanePlan) → m < n → slice_get lanes m ≡ Some l → l.wire ≢ u) → slice_get new u ≡ slice_get old u

  module _ (order : AreRising lanes) (n : ℕ) (l : LanePlan) (a : ℕ) (d now : WireCount) (new : List WireCount) (al : slice_get lanes n ≡ Some l) (aa : slice_get all n ≡ Some a) (there : l.wire < length new) (is : now ≡ with_demand (get_or new l.wire d) a) (t : NotedTo n new) where
    -- no lane before this one has its wire
    apart : (m : ℕ) (k : LanePlan) → m < n → slice_get lanes m ≡ Some k → k.wire ≢ l.wire
    apart m k lt ak e = let o = order m n k l lt ak al in omega (arith, o, e)

    here : (w : WireCount) → slice_get old l.wire ≡ Some w → slice_get (set new l.wire now) l.wire ≡ Some (with_demand w a)
    here w aw =
        let was : Some (get_or new l.wire d) ≡ Some w = sym (at_place new l.wire d there) ∙ (t.others l.wire apart ∙ aw) in
        get_set_same new l.wire now there ∙ ap (λ v. Some v) (is ∙ ap (λ v. with_demand v a) (same_item _ _ was))

    -- the count of a lane is noted
    abbrev Here : LanePlan → ℕ → Type 0
    Here k b = (w : WireCount) → slice_get old k.wire ≡ Some w → slice_get (set new l.wire now) k.wire ≡ Some (with_demand w b)

    each_on : (m b : ℕ) (k : LanePlan) → m < n + 1 → slice_get lanes m ≡ Some k → slice_get all m ≡ Some b → Here k b
    each_on m b k lt ak ab = elim (same_or_not m n) [
      | inl q ↦ (let e : l ≡ k = same_item l k (sym al ∙ (ap (slice_get lanes) (sym q) ∙ ak)) in
          let f : a ≡ b = same_item a b (sym aa ∙ (ap (slice_get all) (sym q) ∙ ab)) in
          subst (λ v. Here v b) e (subst (λ v. Here l v) f here))
      | inr ne ↦ (let less : m < n = omega (arith, lt, ne) in
          λ w aw. get_set_other new l.wire k.wire now (apart m k less ak) ∙ t.each m b k w less ak ab aw)
    ]

    pub noted_next : length (set new l.wire now) ≡ length new → NotedTo (n + 1) (set new l.wire now)
    noted_next size = record {
      many = size ∙ t.many;
      each = λ m b k w lt ak ab aw. each_on m b k lt ak ab w aw;
      others = λ u h. get_set_other new l.wire u now (λ e. h n l (omega arith) al (sym e)) ∙ t.others u (λ m k lt ak. h m k (omega (arith, lt)) ak);
    }

  pub noted_last : (n : ℕ) (new : List WireCount) → n ≡ length lanes → NotedTo n new → AreNoted all lanes old new
  noted_last n new e t = record {
    many = t.many;
    each = λ m a l w al aa aw. t.each m a l w (let i = slice_get_within lanes m l al in omega (arith, i, e)) al aa aw;
    others = λ u h. t.others u (λ m l lt al. h m l al);
  }
