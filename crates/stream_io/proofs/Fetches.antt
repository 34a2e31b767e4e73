-- What reads leave to draw.
use Rattle.std.proofs.Common.{◌≡◌, ℕ, ◌+◌, ◌≤◌, List, [], ◌++◌, length, take, drop, Option, Some, None, IsSome, IfSome, unwrap_or, refl, sym, ap, ◌∙◌, subst, arith, append_assoc}
use Rattle.std.proofs.lemmas.List.{append-nil, take-append-drop, drop-drop, drop_all}
use Rattle.std.proofs.lemmas.Bool.{false≢true}
use Rattle.stream_io.specs.State.{SourceState}
use Rattle.stream_io.specs.Reading.{NoEnd, HoldsEnd, ReadsOn, Fetched, AtEnd}

-- without a read all stays
pub Fetched-none : (s : SourceState) (kept : List ℕ) → Fetched s kept s kept
Fetched-none s kept = record { name = refl; whole = refl; given = omega arith; count = refl; left = λ _. refl }

-- where a line ends, some byte is LF
pub no_end-none : (bs : List ℕ) → NoEnd bs → HoldsEnd bs → ⊥
no_end-none bs none held = none held.0 10 held.1 held.2

-- a read moves bytes from those not handed out to those kept
moved : (whole : Option (List ℕ)) (from n to : ℕ) (kept kept' : List ℕ) → to ≡ from + n → IfSome whole (λ w. ReadsOn w from n kept kept') → IsSome whole → kept' ++ drop to (unwrap_or whole []) ≡ kept ++ drop from (unwrap_or whole [])
moved None from n to kept kept' given reads told = absurd (false≢true told)
moved (Some w) from n to kept kept' given reads told =
    let back : take n (drop from w) ++ drop (from + n) w ≡ drop from w = ap (λ (r : List ℕ). take n (drop from w) ++ r) (sym (drop-drop n from w)) ∙ take-append-drop n (drop from w) in
    rw (given, reads.1, append_assoc, back) refl

-- one more read
pub Fetched-read : (o m s : SourceState) (k0 k1 k2 : List ℕ) (n : ℕ) → Fetched o k0 m k1 → s.name ≡ m.name → s.whole ≡ m.whole → s.given ≡ m.given + n → length k2 ≡ length k1 + n → IfSome m.whole (λ w. ReadsOn w m.given n k1 k2) → Fetched o k0 s k2
Fetched-read o m s k0 k1 k2 n before name whole given long reads =
    record {
      name = name ∙ before.name;
      whole = whole ∙ before.whole;
      given = omega (arith, before.given);
      count = omega (arith, before.count);
      left = λ told. rw whole (moved m.whole m.given n s.given k1 k2 given reads (subst IsSome (sym before.whole) told)) ∙ before.left told;
    }

-- a read that failed
pub Fetched-failed : (o m s : SourceState) (k0 k1 k2 : List ℕ) → Fetched o k0 m k1 → s.name ≡ m.name → s.whole ≡ m.whole → s.given ≡ m.given → k2 ≡ k1 → Fetched o k0 s k2
Fetched-failed o m s k0 k1 k2 before name whole given kept =
    record {
      name = name ∙ before.name;
      whole = whole ∙ before.whole;
      given = omega (arith, before.given);
      count = rw (kept, given) before.count;
      left = λ told. rw (kept, whole, given) (before.left told);
    }

-- the end of the source: nothing is left but what is kept
left-end : (whole : Option (List ℕ)) (given : ℕ) (kept : List ℕ) → IfSome whole (λ w. length w ≤ given) → IsSome whole → kept ++ drop given (unwrap_or whole []) ≡ kept
left-end None given kept ends told = absurd (false≢true told)
left-end (Some w) given kept ends told = ap (λ (r : List ℕ). kept ++ r) (drop_all given w ends) ∙ append-nil kept

pub AtEnd-read : (m s : SourceState) (kept kept' : List ℕ) → NoEnd kept → length kept ≤ 65536 → kept' ≡ kept → s.whole ≡ m.whole → s.given ≡ m.given → IfSome m.whole (λ w. length w ≤ m.given) → AtEnd s kept'
AtEnd-read m s kept kept' none short same whole given ends =
    record {
      no_end = rw same none;
      short = rw same short;
      left = λ told. rw (whole, given) (left-end m.whole m.given kept' ends (subst IsSome whole told));
    }
