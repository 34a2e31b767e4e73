-- The last substream of a stage that splits: one call more.
use Rattle.std.proofs.Common.{◌≡◌, ◌+◌, Bool, true, false, inl, inr, List, [], ◌∷◌, ◌++◌, map, Option, Some, None, refl, sym, ap, ◌∙◌, append-nil}
use Rattle.elem_core.specs.Tree.{Tree}
use Rattle.stream_model.specs.FanIn.{Tagged, tag}
use Rattle.port_core.specs.declared.chain.ChainStep.TheVariants.{Closed}
use Rattle.port_core.specs.ListFunction.{ListFunction}
use Rattle.step_work.specs.Slots.{SlotHolds, Fed}
use Rattle.stage_sub.specs.Splits.{Last, Calm, LastTook, LastEnds, LastFeeds}

module _ {C : Type 0} (rest : C → ListFunction) (is_open : C → Bool) where
  pub calm_slot : (f : ListFunction) (slot : Option C) (took : List Tree) → SlotHolds rest is_open f slot took → Calm f took
  calm_slot f None took h = inr (ap f.stop (sym (append-nil took)) ∙ h.stop [])
  calm_slot f (Some c) took h = inl h.going

  holds_none : (f : ListFunction) (took : List Tree) (slot : Option C) → slot ≡ None → SlotHolds rest is_open f slot took → f.stop took ≡ Closed
  holds_none f took None e h = ap f.stop (sym (append-nil took)) ∙ h.stop []
  holds_none f took (Some c) e h = cc

  -- it had stopped
  pub stopped_ends : (l new : Last C) (before after : List Tagged) → l.live ≡ true → l.slot ≡ None → new.ended ≡ l.ended + 1 → new.live ≡ false → after ≡ before
      → (f : ListFunction) (took : Option (List Tree)) → LastTook rest is_open f l took → LastEnds rest is_open f l took None before after new
  stopped_ends l new before after on none e v same f None h = let x : true ≡ false = sym on ∙ h in cc
  stopped_ends l new before after on none e v same f (Some took) h = ([], (inr (holds_none f took l.slot none h.1, refl), (same ∙ sym (append-nil before), (e, v))))

  -- it took one more
  pub last_feeds : (l new : Last C) (t : Tree) (before after : List Tagged) (given : List Tree) → new.ended ≡ l.ended → new.live ≡ l.live → after ≡ before ++ map (tag l.ended) given
      → ((f : ListFunction) (took : List Tree) → SlotHolds rest is_open f l.slot took → Fed rest is_open f took t None [] given new.slot)
      → (f : ListFunction) (took : List Tree) → LastTook rest is_open f l (Some took) → LastFeeds rest is_open f l took t None before after new
  last_feeds l new t before after given e v same fed f took h =
      let x = fed f took h.1 in
      (given, ((x.1.0 ∙ ap (λ (k : List Tree). f.gives took ++ k) (sym x.1.1.0), calm_slot f new.slot (took ++ t ∷ []) x.1.1.1), (same, (e, (v ∙ h.0, x.1.1.1)))))
