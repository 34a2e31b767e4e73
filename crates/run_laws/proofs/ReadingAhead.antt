-- What a source of lines read ahead of the lines that it gave.
use Rattle.std.specs.Prelude.{IsSome, map, slice_get}
use Rattle.std.proofs.Common.{◌≡◌, ℕ, ◌+◌, ◌≤◌, inl, inr, List, [], ◌∷◌, length, Some, refl, ap, subst, ◌∙◌, arith}
use Rattle.elem_core.specs.Text.{lines}
use Rattle.elem_core.specs.Tree.{text}
use Rattle.elem_core.specs.declared.item.Item.{Item}
use Rattle.port_core.specs.View.{View}
use Rattle.stream_model.specs.Outlook.{End, unended, ended, failed}
use Rattle.stream_io.specs.State.{SourceState}
use Rattle.stream_io.specs.Reading.{rest}
use Rattle.stage_core.specs.Held.{told}
use Rattle.nodes.specs.Drawing.{ended_lines, Drew}
use Rattle.nodes.specs.Source.{Lines, bytes_left, by_fault, by_line, SourceEndsAs, LinesLaw}
use Rattle.run_laws.specs.Reads.{ReadsAhead, SentLines}
use Rattle.run_laws.proofs.Readings.{one_port}

left_at_first : (s : SourceState) (kept bytes : List ℕ) → kept ≡ [] → s.given ≡ 0 → s.whole ≡ Some bytes → rest s kept ≡ bytes
left_at_first s kept bytes a b c = rw (a, b, c) refl

is_told : (s : SourceState) (bytes : List ℕ) → s.whole ≡ Some bytes → IsSome s.whole
is_told s bytes c = rw c refl

module _ {S : Type 0} (state : S → SourceState) (first now : Lines S) (bytes : List ℕ) (ls : List (List ℕ)) (told : (state now.reader.source).whole ≡ Some bytes)
    (few : length now.reader.kept ≤ 69632) (read : (state now.reader.source).given ≤ length (ended_lines ls) + length now.reader.kept) where
  ahead_by : (e : End) → SourceEndsAs state first now e → ReadsAhead (state first.reader.source) (state now.reader.source) (lines (bytes_left state now)) (length (ended_lines ls))
  ahead_by unended h = let short : length now.reader.kept ≤ 4096 = h.0 in inl (omega (arith, read, short))
  ahead_by ended h = let none : length now.reader.kept ≡ 0 = ap length h.0 in inl (omega (arith, read, none))
  ahead_by (failed c) (by_fault is rose none) = inr (inl rose, omega (arith, read, few))
  ahead_by (failed c) (by_line is same long) = inr (inr (long (is_told (state now.reader.source) bytes told)), omega (arith, read, few))

module _ {S : Type 0} (state : S → SourceState) (first now : Lines S) (v : View) (took gave : List (List Item)) (law : LinesLaw state first now v took gave) (bytes : List ℕ) where
  pub sent_lines : first.reader.kept ≡ [] → (state first.reader.source).given ≡ 0 → (state first.reader.source).whole ≡ Some bytes
      → (p : ℕ) (h : List Item) → slice_get gave p ≡ Some h → SentLines bytes (state first.reader.source) (state now.reader.source) h
  sent_lines kept given whole p h at =
      let whole_now : (state now.reader.source).whole ≡ Some bytes = law.whole ∙ whole in
      let drew : Drew bytes law.lines_drawn (bytes_left state now) =
      subst (λ (x : List ℕ). Drew x law.lines_drawn (bytes_left state now)) (left_at_first (state first.reader.source) first.reader.kept bytes kept given whole) (law.drew (is_told (state now.reader.source) bytes whole_now)) in
      let read : (state now.reader.source).given ≤ length (ended_lines law.lines_drawn) + length now.reader.kept = (let r = law.read in omega (arith, r, given)) in
      let here : slice_get (told (map text law.lines_drawn) law.end ∷ []) p ≡ Some h = rw law.gave_is at at in
      record {
        drawn = law.lines_drawn;
        later = lines (bytes_left state now);
        end = law.end;
        lines_are = drew.lines_are;
        sent_is = one_port (told (map text law.lines_drawn) law.end) p h here;
        ahead = ahead_by state first now bytes law.lines_drawn whole_now law.kept read law.end law.ends;
      }
