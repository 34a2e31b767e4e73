-- A new stage that splits owes what its machine gives from the start.
use Rattle.std.proofs.Common.{◌≡◌, ℕ, Bool, false, List, [], Option, None, refl, sym, subst}
use Rattle.elem_core.specs.Tree.{Tree}
use Rattle.port_core.specs.ListFunction.{ListFunction}
use Rattle.stream_model.specs.Outlook.{End}
use Rattle.stream_model.specs.Machine.{Given}
use Rattle.stream_model.specs.Substreams.{begin_subs}
use Rattle.stage_core.specs.Held.{owing}
use Rattle.stage_sub.specs.KeptSubs.{Keeps}
use Rattle.stage_sub.specs.Joined.{untag}
use Rattle.stage_sub.specs.States.{Logic, Owes, begun, Ready}
use Rattle.stage_sub.specs.declared.opening.OpenBy.{OpenBy}
use Rattle.stage_sub.specs.declared.opening.OpenBy.TheVariants.{Before, Behind, Key}
use Rattle.stage_sub.specs.Places.{place_in}

module _ {C : Type 0} (rest : C → ListFunction) (is_open : C → Bool) where
  keeps_none : (how : OpenBy) (places : List (Tree × ℕ)) (f : ListFunction) (yields : List Tree → End → Given Tree) → ((k : Tree) → place_in places k ≡ None)
      → Keeps rest is_open f yields how (record { last = record { ended = 0; live = false; slot = None }; places = places; slots = [] }) []
  keeps_none (Before p) places f yields none = record { olds = []; tail = None; are = refl; done = tt; calm = refl; counts = refl; lasts = tt; took = refl }
  keeps_none (Behind p) places f yields none = record { olds = []; tail = None; are = refl; done = tt; calm = refl; counts = refl; lasts = tt; took = refl }
  keeps_none (Key n by) places f yields none = record { at = none; holds = tt }

  -- whatever its chains come to, it owes what its machine gives from the start
  pub begun_owes : (node : ℕ) (how : OpenBy) (moves : Option (List ℕ)) (chain : C) (f : ListFunction) (yields : List Tree → End → Given Tree) → Owes rest is_open f yields (begun node how moves chain) (owing (untag (begin_subs yields node)))
  begun_owes node how moves chain f yields = (refl, (record { node = node; taken = 0; subs = [] }, (refl, (refl, (refl, keeps_none how [] f yields (λ k. refl))))))

  pub ready : (l : Logic C) (node : ℕ) (how : OpenBy) (moves : Option (List ℕ)) (chain : C) → l ≡ begun node how moves chain → Ready rest is_open l
  ready l node how moves chain e = subst (Ready rest is_open) (sym e) (record { one = tt; all = tt; within = λ k i h. cc })
