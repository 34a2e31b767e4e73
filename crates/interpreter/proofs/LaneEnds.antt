-- No lane comes in or goes out at a place with other work, nor behind the last place.
use Rattle.std.proofs.Common.{◌≡◌, ℕ, ◌<◌, ◌≤◌, List, length, Some, true, false, refl, ap, sym, ◌∙◌}
use Rattle.std.specs.Prelude.{slice_get, slice_index_or}
use Rattle.std.proofs.lemmas.Option.{slice_get-get_or, slice_get_past}
use Rattle.interpreter.specs.declared.parts.Seated.{Seated}
use Rattle.interpreter.specs.declared.parts.Work.{Work}
use Rattle.interpreter.specs.declared.parts.Work.TheVariants.{LaneIn, LaneOut}
use Rattle.interpreter.specs.Ways.{is_lane_in, is_lane_out, comes_in, goes_out}

not_in : {S D L H B : Type 0} (w : Work S D L H B) → ((u : ℕ) → w ≡ LaneIn u → ⊥) → is_lane_in w ≡ false
not_in (LaneIn u) other = absurd (other u refl)
not_in _ other = refl

not_out : {S D L H B : Type 0} (w : Work S D L H B) → ((u : ℕ) → w ≡ LaneOut u → ⊥) → is_lane_out w ≡ false
not_out (LaneOut u) other = absurd (other u refl)
not_out _ other = refl

pub comes_not : {S D L H B : Type 0} (places : List (Seated S D L H B)) (n : ℕ) (x : Seated S D L H B) → n < length places → x ≡ slice_index_or places n x → ((u : ℕ) → x.work ≡ LaneIn u → ⊥) → false ≡ comes_in places n
comes_not places n x h g other = let at : slice_get places n ≡ Some x = slice_get-get_or places n x h ∙ ap Some (sym g) in rw at (sym (not_in x.work other))

pub goes_not : {S D L H B : Type 0} (places : List (Seated S D L H B)) (n : ℕ) (x : Seated S D L H B) → n < length places → x ≡ slice_index_or places n x → ((u : ℕ) → x.work ≡ LaneOut u → ⊥) → false ≡ goes_out places n
goes_not places n x h g other = let at : slice_get places n ≡ Some x = slice_get-get_or places n x h ∙ ap Some (sym g) in rw at (sym (not_out x.work other))

pub comes_there : {S D L H B : Type 0} (places : List (Seated S D L H B)) (n u : ℕ) (x : Seated S D L H B) → n < length places → x ≡ slice_index_or places n x → x.work ≡ LaneIn u → true ≡ comes_in places n
comes_there places n u x h g is = let at : slice_get places n ≡ Some x = slice_get-get_or places n x h ∙ ap Some (sym g) in rw at (sym (ap is_lane_in is))

pub goes_there : {S D L H B : Type 0} (places : List (Seated S D L H B)) (n u : ℕ) (x : Seated S D L H B) → n < length places → x ≡ slice_index_or places n x → x.work ≡ LaneOut u → true ≡ goes_out places n
goes_there places n u x h g is = let at : slice_get places n ≡ Some x = slice_get-get_or places n x h ∙ ap Some (sym g) in rw at (sym (ap is_lane_out is))

pub comes_past : {S D L H B : Type 0} (places : List (Seated S D L H B)) (n : ℕ) → length places ≤ n → false ≡ comes_in places n
comes_past places n h = rw (slice_get_past places n h) refl

pub goes_past : {S D L H B : Type 0} (places : List (Seated S D L H B)) (n : ℕ) → length places ≤ n → false ≡ goes_out places n
goes_past places n h = rw (slice_get_past places n h) refl
