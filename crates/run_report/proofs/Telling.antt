-- What clap answers of the words of the command.
use Rattle.std.proofs.Common.{◌≡◌, ◌∙◌, ◌||◌, Bool, cond, true, false, refl, sym, ap, ap₂, List, [], ◌∷◌, Option, Some, None, inl, inr, true≢false, fold, is_some}
use Rattle.clap.specs.Walk.{Row, Rule, Text, has_row, nothing_held, rows_of, settled, walk_from, walked, with_default}
use Rattle.clap.specs.Simple.{built, entered, matches_of}
use Rattle.clap.specs.Matches.{found_of}
use Rattle.clap.specs.Kinds.{HasKind, IsAmong, Kinds, or_else}
use Rattle.clap.specs.Faults.{defaults_fault, entered_fault, fault_of, level_fault, settle_fault, walk_fault}
use Rattle.clap.specs.Values.{kind_of}
use Rattle.clap.specs.declared.error.Error.{Error}
use Rattle.clap.specs.declared.error.kind.ErrorKind.TheVariants as kind
use Rattle.clap.specs.declared.parser.matches.ArgMatches.{ArgMatches}
use Rattle.run_report.specs.Parts.{Part, parts_of}
use Rattle.run_report.specs.Shape.{SaysParts, are_texts, streams_app}
use Rattle.run_report.proofs.Steps.{ends, outcome_is, rules, shape}
use Rattle.run_report.proofs.Walking.{rows_with, walks}
use Rattle.run_report.proofs.Rows.{says_parts}

-- no argument has a default
AllBare : List Rule → Type 0
AllBare [] = Unit {0}
AllBare (a ∷ more) = (a.defaults ≡ []) × AllBare more

bare : AllBare rules
unfolding AllBare
bare = (refl, (refl, (refl, (refl, (refl, (refl, tt))))))

same_rows : (b : Bool) (rows : List Row) → cond b rows rows ≡ rows
same_rows true rows = refl
same_rows false rows = refl

kept : (rs : List Rule) → AllBare rs → (rows : List Row) → fold with_default rows rs ≡ rows
unfolding AllBare
kept [] b rows = refl
kept (a ∷ more) b rows = ap (λ now. fold with_default now more) (rw b.0 (same_rows (has_row a.id rows) rows)) ∙ kept more b.1 rows

or_true : (b : Bool) → (b || true) ≡ true
or_true true = refl
or_true false = refl

no_default : (rs : List Rule) → AllBare rs → (rows : List Row) → defaults_fault rows rs ≡ []
unfolding AllBare defaults_fault
no_default [] b rows = refl
no_default (a ∷ more) b rows = rw (b.0, or_true) (no_default more b.1 (cond (has_row a.id rows) rows rows))

or_nothing : (ks : Kinds) → or_else ks [] ≡ ks
or_nothing [] = refl
or_nothing (k ∷ ks) = refl

-- the kinds of fault of a command with no subcommand and no default
abbrev faults : List Text → Kinds
faults ws = or_else (walk_fault shape [] (walk_from nothing_held) ws) (settle_fault rules false (fold (walked rules []) (walk_from nothing_held) ws).held)

level : (ws : List Text) → fault_of streams_app ws ≡ faults ws
level ws = go (fold (walked rules []) (walk_from nothing_held) ws).stopped
  where
    flat : level_fault shape [] nothing_held ws false [] ≡ faults ws
    flat = rw (no_default rules bare, or_nothing) refl

    go : (stop : Option (Text × List Text)) → level_fault shape [] nothing_held ws (is_some (entered (built streams_app) stop)) (entered_fault (built streams_app) stop) ≡ faults ws
    go None = flat
    go (Some p) = flat

-- the rows that are found, unless there is a fault, are those of the parts
tells : (ws : List Text) → are_texts ws ≡ true → ends (fault_of streams_app ws) (matches_of streams_app ws) ≡ rows_with [] (parts_of ws)
tells ws t =
    ap₂ ends (level ws) (kept rules bare (settled rules (fold (walked rules []) (walk_from nothing_held) ws).held).rows)
    ∙ (outcome_is (walk_from nothing_held) ws ∙ walks ws t)

pub ok_says : (ws : List Text) (m : ArgMatches) → are_texts ws ≡ true → fault_of streams_app ws ≡ [] → rows_of (found_of m) ≡ matches_of streams_app ws → SaysParts (parts_of ws) m
ok_says ws m t none rows = says_parts m (parts_of ws) (ap Some rows ∙ (ap (λ ks. ends ks (matches_of streams_app ws)) (sym none) ∙ tells ws t))

pub err_says : (ws : List Text) (e : Error) → are_texts ws ≡ true → HasKind (fault_of streams_app ws) e → (kind_of e ≡ kind.OutOfMemory → ⊥) → parts_of ws ≡ None
err_says ws e t (inl memory) other = absurd (other memory)
err_says ws e t (inr among) other = nothing (parts_of ws) (sym (tells ws t) ∙ go (fault_of streams_app ws) among)
  where
    go : (ks : Kinds) → IsAmong (kind_of e) ks → ends ks (matches_of streams_app ws) ≡ None
    go [] h = absurd h
    go (k ∷ ks) h = refl

    nothing : (parts : Option (List Part)) → rows_with [] parts ≡ None → parts ≡ None
    nothing None h = refl
    nothing (Some parts) h = absurd (true≢false (ap (λ o. is_some o) h))
