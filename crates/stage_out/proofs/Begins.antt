-- A new stage may be started.
use Rattle.std.specs.Prelude.{replicate}
use Rattle.stream_model.specs.declared.kind.TheConstants.{MAX_FAN}
use Rattle.std.proofs.Common.{◌≡◌, ℕ, zero, suc, ◌≤◌, Bool, true, List, [], ◌∷◌, length, map, refl, sym, ap, ◌∙◌, arith}
use Rattle.elem_core.specs.declared.function.MapFn.{MapFn}
use Rattle.port_core.specs.declared.view.OutView.{OutView}
use Rattle.port_core.specs.declared.view.OutView.TheVariants.{Unpulled}
use Rattle.port_core.specs.View.{unpulled_outs}
use Rattle.port_core.specs.declared.view.InView.TheVariants.{Idle}
use Rattle.stage_core.specs.declared.outs.OutputState.TheVariants.{Quiet}
use Rattle.stage_core.specs.OpenOuts.{want_view, open_count, asks_count}
use Rattle.stage_out.specs.Copies.{quiet_count, input_by}
use Rattle.stage_out.specs.PartitionStates as part
use Rattle.stage_out.specs.CopyStates as copy

quiet_views : (n : ℕ) → map want_view (replicate n Quiet) ≡ replicate n Unpulled
quiet_views zero = refl
quiet_views (suc n) = ap (λ (ys : List OutView). Unpulled ∷ ys) (quiet_views n)

none_asks : (n : ℕ) → asks_count (replicate n Quiet) ≡ 0
none_asks zero = refl
none_asks (suc n) = none_asks n

all_open_there : (n : ℕ) → open_count (replicate n Quiet) ≡ n
all_open_there zero = refl
all_open_there (suc n) = ap suc (all_open_there n)

all_quiet : (n : ℕ) → quiet_count (replicate n Quiet) ≡ n
all_quiet zero = refl
all_quiet (suc n) = ap suc (all_quiet n)

pub so_many : (n : ℕ) → length (replicate n Quiet) ≡ n
so_many zero = refl
so_many (suc n) = ap suc (so_many n)

pub partition_begins : (node n : ℕ) (f : MapFn) → 2 ≤ n → n ≤ MAX_FAN → part.port_state (part.begun node n f) (unpulled_outs n)
partition_begins node n f low high = (
  ap (λ (ys : List OutView). record { ins = Idle ∷ []; outs = ys }) (sym (quiet_views n)),
  record {
    asking_is = sym (none_asks n);
    open_is = sym (all_open_there n);
    some = omega (arith, low);
    parts = omega (arith, low);
    few = let l = so_many n in omega (arith, l, high);
    holds = (refl, λ e. refl);
    wants = λ e. cc;
  },
)

pub idle_some : (n : ℕ) → 1 ≤ n → input_by n ≡ Idle
idle_some zero h = absurd (omega (arith, h))
idle_some (suc n) h = refl

copy_views : (n : ℕ) → 1 ≤ n → unpulled_outs n ≡ record { ins = input_by n ∷ []; outs = map want_view (replicate n Quiet) }
copy_views n low = rw (idle_some n low, quiet_views n) refl

pub copy_begins : (n : ℕ) (halves : Bool) → 1 ≤ n → n ≤ MAX_FAN → (halves ≡ true → n ≡ 2) → copy.port_state (copy.begun n halves) (unpulled_outs n)
copy_begins n halves low high two = (
  copy_views n low,
  record {
    quiet_is = sym (all_quiet n);
    open_is = sym (all_open_there n);
    some = omega (arith, low);
    few = let l = so_many n in omega (arith, l, high);
    pair = λ e. so_many n ∙ two e;
  },
)
