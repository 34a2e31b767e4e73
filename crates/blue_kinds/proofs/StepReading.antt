-- Reading the steps of a chain, one after another.
use Rattle.std.proofs.Common.{◌≡◌, ℕ, zero, suc, ◌≤◌, ◌<◌, ◌≢◌, false, List, [], ◌∷◌, ◌++◌, length, Some, None, Ok, Err, refl, sym, ap, ◌∙◌, append_assoc, arith}
use Rattle.std.specs.Prelude.{codes}
use Rattle.blue_modules.specs.declared.text.StepText.{StepText}
use Rattle.blue_words.specs.declared.fault.Version.{Version}
use Rattle.blue_words.specs.declared.fault.FormEnd.{FormEnd}
use Rattle.blue_words.specs.declared.fault.FormEnd.TheVariants.{BadLine, NoMemory}
use Rattle.blue_words.specs.Reading.{At, Reading, Reads, at_map, made, with_second, begins_with}
use Rattle.blue_kinds.specs.Steps.{read_step, later_steps, read_steps, read_chain, pushed}
use Rattle.blue_kinds.proofs.Shrinking.{read_step-shrinks}

-- steps, and those that are read behind them
abbrev pub behind_steps : At (List StepText) → Reading (List StepText) → Reading (List StepText)
behind_steps p r = made (λ q. q.0 ++ q.1) (with_second p r)

-- the steps of all words are those that are read, and behind them those of the words that are left
pub record HasSteps (v : Version) (all : List (List ℕ)) (steps : At (List StepText)) (left : List (List ℕ)) : Type 0 where
  pub most : ℕ
  pub enough : length left ≤ most
  pub same : read_chain v all ≡ behind_steps steps (read_steps v most left)

behind_none : (r : Reading (List StepText)) → r ≡ behind_steps (Ok []) r
behind_none None = refl
behind_none (Some r) = first r.0 r.1
  where
    first : (p : At (List StepText)) (ws : List (List ℕ)) → ◌≡◌ {A = Reading (List StepText)} (Some (p, ws)) (behind_steps (Ok []) (Some (p, ws)))
    first (Ok s) ws = refl
    first (Err k) ws = refl

pub no_steps : (v : Version) (all : List (List ℕ)) → HasSteps v all (Ok []) all
no_steps v all = record { most = length all; enough = omega arith; same = behind_none (read_chain v all) }

no_step : (v : Version) (most : ℕ) (left : List (List ℕ)) → read_step v left ≡ None → read_steps v most left ≡ None
no_step v zero left h = refl
no_step v (suc n) left h = rw h refl

-- a step that has not the form
pub steps_fail : (v : Version) (all : List (List ℕ)) (steps : At (List StepText)) (left : List (List ℕ)) → HasSteps v all steps left → read_step v left ≡ None → read_chain v all ≡ None
steps_fail v all steps left s h = s.same ∙ rw (no_step v s.most left h) refl

pub steps_err : (v : Version) (all : List (List ℕ)) (steps : At (List StepText)) (left new : List (List ℕ)) (e : FormEnd) → HasSteps v all steps left → Reads {A = StepText} (Err e) (read_step v left) new → Reads {A = List StepText} (Err e) (read_chain v all) new
steps_err v all steps left new BadLine s h = steps_fail v all steps left s h
steps_err v all steps left new NoMemory s h = tt

-- a step was read, so a word was there
some_word : (v : Version) (left : List (List ℕ)) (r : At StepText × List (List ℕ)) → read_step v left ≡ Some r → 0 < length left
some_word v [] r h = absurd (let k : ⊥ = cc in k)
some_word v (w ∷ ws) r h = omega arith

one_more : (v : Version) (most : ℕ) (left : List (List ℕ)) (step : At StepText) (vs : List (List ℕ)) → length left ≤ most → read_step v left ≡ Some (step, vs) → (n : ℕ) × (most ≡ suc n) × (read_steps v most left ≡ later_steps step (read_steps v n) vs)
one_more v zero left step vs l h = absurd (omega (arith, some_word v left (step, vs) h))
one_more v (suc n) left step vs l h = (n, refl, rw h refl)

last_step : (steps : At (List StepText)) (step : At StepText) → ◌≡◌ {A = Reading (List StepText)} (behind_steps steps (Some (at_map (λ s. s ∷ []) step, []))) (Some (pushed steps step, []))
last_step (Ok s) (Ok t) = refl
last_step (Ok s) (Err k) = refl
last_step (Err k) step = refl

-- the last step
pub steps_end : (v : Version) (all : List (List ℕ)) (steps : At (List StepText)) (left : List (List ℕ)) (step : At StepText) (vs : List (List ℕ)) (new : At (List StepText)) → HasSteps v all steps left → read_step v left ≡ Some (step, vs) → vs ≡ [] → new ≡ pushed steps step → read_chain v all ≡ Some (new, vs)
steps_end v all steps left step vs new s h e q =
    let m = one_more v s.most left step vs s.enough h in
    let next : List (List ℕ) → Reading (List StepText) = read_steps v m.0 in
    let last : read_steps v s.most left ≡ Some (at_map (λ s. s ∷ []) step, []) = m.2 ∙ ap (later_steps step next) e in
    let k : read_chain v all ≡ Some (pushed steps step, []) = s.same ∙ (ap (behind_steps steps) last ∙ last_step steps step) in
    cc

-- a word other than `|` behind a step
other_word : (v : Version) (vs : List (List ℕ)) (step : At StepText) (n : ℕ) → begins_with (codes "|") vs ≡ false → vs ≢ [] → later_steps step (read_steps v n) vs ≡ None
other_word v [] step n f e = absurd (e refl)
other_word v (w ∷ vs) step n f e = rw f refl

pub steps_stop : (v : Version) (all : List (List ℕ)) (steps : At (List StepText)) (left : List (List ℕ)) (step : At StepText) (vs : List (List ℕ)) → HasSteps v all steps left → read_step v left ≡ Some (step, vs) → begins_with (codes "|") vs ≡ false → vs ≢ [] → read_chain v all ≡ None
steps_stop v all steps left step vs s h f e =
    let m = one_more v s.most left step vs s.enough h in
    s.same ∙ ap (behind_steps steps) (m.2 ∙ other_word v vs step m.0 f e)

next_steps : (steps : At (List StepText)) (step : At StepText) (r : Reading (List StepText)) → behind_steps steps (made (λ q. q.0 ∷ q.1) (with_second step r)) ≡ behind_steps (pushed steps step) r
next_steps steps step None = refl
next_steps steps step (Some r) = parts steps step r.0 r.1
  where
    parts : (steps : At (List StepText)) (step : At StepText) (p : At (List StepText)) (ws : List (List ℕ)) → behind_steps steps (made (λ q. q.0 ∷ q.1) (with_second step (Some (p, ws)))) ≡ behind_steps (pushed steps step) (Some (p, ws))
    parts (Ok s) (Ok t) (Ok u) ws = rw (append_assoc s (t ∷ []) u) refl
    parts (Ok s) (Ok t) (Err k) ws = refl
    parts (Ok s) (Err k) p ws = refl
    parts (Err k) step p ws = refl

-- one step more, and `|`
pub steps_more : (v : Version) (all : List (List ℕ)) (steps : At (List StepText)) (left : List (List ℕ)) (step : At StepText) (vs us : List (List ℕ)) (new : At (List StepText)) → HasSteps v all steps left → read_step v left ≡ Some (step, vs) → vs ≡ codes "|" ∷ us → new ≡ pushed steps step → HasSteps v all new us × (length us < length left)
steps_more v all steps left step vs us new s h e q =
    let m = one_more v s.most left step vs s.enough h in
    let k = (read_step-shrinks v left).kept step vs h in
    let l : length vs ≡ suc (length us) = ap length e in
    let next : List (List ℕ) → Reading (List StepText) = read_steps v m.0 in
    let read : read_steps v s.most left ≡ made (λ q. q.0 ∷ q.1) (with_second step (read_steps v m.0 us)) = m.2 ∙ ap (later_steps step next) e in
    let same : read_chain v all ≡ behind_steps new (read_steps v m.0 us) = s.same ∙ (ap (behind_steps steps) read ∙ (next_steps steps step (read_steps v m.0 us) ∙ ap (λ p. behind_steps p (read_steps v m.0 us)) (sym q))) in
    let n : s.most ≡ suc m.0 = m.1 in
    let enough : length us ≤ m.0 = let short = s.enough in omega arith in
    (record { most = m.0; enough = enough; same = same }, omega arith)
