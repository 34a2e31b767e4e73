-- The words of a lane's table after a step.
use Rattle.std.proofs.Common.{◌≡◌, ℕ, ◌+◌, ◌*◌, ◌%◌, ◌^◌, ◌<◌, List, set, Option, slice_index, bit_or, refl, sym, ap, ◌∙◌, arith}
use Rattle.std.proofs.lemmas.Grind.{or_after_shift}
use Rattle.atomic_table.specs.Table.{State}
use Rattle.elem_core.specs.declared.item.Item.{Item}
use Rattle.lane_core.specs.declared.sight.Sight.{Sight}
use Rattle.lane_core.specs.Lane.{SightFits, IsLaneState, words_of}
use Rattle.lane_core.proofs.Lists.{views_after}

abbrev pub St : Type 0
St = State (Option Item) Sight

-- the words, after one of them changed
pub or_one : (a : ℕ) → a * 2 < 2 ^ 64 → bit_or (a * 2) 1 ≡ a * 2 + 1
or_one a h = let same : a * 2 % 2 ^ 64 ≡ a * 2 = omega (arith, h) in ap (λ k. bit_or k 1) (sym same) ∙ or_after_shift a 2 (2 ^ 64) 1 refl (omega arith) h

pub words_0 : (ws : List ℕ) (a b n : ℕ) → ws ≡ words_of a b → set ws 0 n ≡ words_of n b
words_0 ws a b n e = ap (λ (l : List ℕ). set l 0 n) e

pub words_1 : (ws : List ℕ) (a b n : ℕ) → ws ≡ words_of a b → set ws 16 n ≡ words_of a n
words_1 ws a b n e = ap (λ (l : List ℕ). set l 16 n) e

-- a load that leaves the core as it is
pub stays : (size id i : ℕ) (s : St) (h : IsLaneState size s) (w : Sight) → set s.words i (slice_index s.words i) ≡ s.words → SightFits h.core id w → IsLaneState size record { words = set s.words i (slice_index s.words i); homes = s.homes; views = set s.views id w }
stays size id i s h w same fits = record {
  core = h.core;
  words = same ∙ h.words;
  wide = h.wide;
  sound = h.sound;
  stored = h.stored;
  each = views_after (SightFits h.core) s.views id w fits (λ j u _ e. h.each j u e);
}

pub same_0 : (size : ℕ) (s : St) (h : IsLaneState size s) → set s.words 0 (slice_index s.words 0) ≡ s.words
same_0 size s h = ap (λ (ws : List ℕ). set ws 0 (slice_index ws 0)) h.words ∙ sym h.words

pub same_1 : (size : ℕ) (s : St) (h : IsLaneState size s) → set s.words 16 (slice_index s.words 16) ≡ s.words
same_1 size s h = ap (λ (ws : List ℕ). set ws 16 (slice_index ws 16)) h.words ∙ sym h.words
