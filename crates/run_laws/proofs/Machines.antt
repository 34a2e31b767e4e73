-- The kinds that are one machine between one input and one output: a line for each, with all that the laws of runs and of
-- their pictures ask of it.
use Rattle.std.proofs.Common.{◌≡◌, Some, refl, subst}
use Rattle.stream_model.specs.declared.kind.Kind.{Kind}
use Rattle.stream_model.specs.declared.kind.Kind.TheVariants.{Map, Filter, FilterNot, Take, TakeWhile, Drop, DropWhile, Limit, MapConcat, Plug, Grouped, Fold, Reduce, Scan}
use Rattle.stream_model.specs.Linear.{Work, work_of}
use Rattle.stage_linear.specs.States.{IsLinear}
use Rattle.run_laws.specs.KindLaws.{IsOneMachine}

some_is : (a b : Work) → Some a ≡ Some b → a ≡ b
some_is a b e = cc

-- the linear stages
pub linear_machine : (kd : Kind) (wk : Work) → IsLinear kd → work_of kd ≡ Some wk → IsOneMachine kd wk
linear_machine (Map f) wk h e = subst (λ (x : Work). IsOneMachine (Map f) x) (some_is _ wk e) (record { no_sink = refl; outlook = λ g w k d os q. refl; no_moves = λ g w k os. refl; lawful = λ g w k d is os r. r; rests = λ g w k d is os r. r })
linear_machine (Filter f) wk h e = subst (λ (x : Work). IsOneMachine (Filter f) x) (some_is _ wk e) (record { no_sink = refl; outlook = λ g w k d os q. refl; no_moves = λ g w k os. refl; lawful = λ g w k d is os r. r; rests = λ g w k d is os r. r })
linear_machine (FilterNot f) wk h e = subst (λ (x : Work). IsOneMachine (FilterNot f) x) (some_is _ wk e) (record { no_sink = refl; outlook = λ g w k d os q. refl; no_moves = λ g w k os. refl; lawful = λ g w k d is os r. r; rests = λ g w k d is os r. r })
linear_machine (Take n) wk h e = subst (λ (x : Work). IsOneMachine (Take n) x) (some_is _ wk e) (record { no_sink = refl; outlook = λ g w k d os q. refl; no_moves = λ g w k os. refl; lawful = λ g w k d is os r. r; rests = λ g w k d is os r. r })
linear_machine (TakeWhile f) wk h e = subst (λ (x : Work). IsOneMachine (TakeWhile f) x) (some_is _ wk e) (record { no_sink = refl; outlook = λ g w k d os q. refl; no_moves = λ g w k os. refl; lawful = λ g w k d is os r. r; rests = λ g w k d is os r. r })
linear_machine (Drop n) wk h e = subst (λ (x : Work). IsOneMachine (Drop n) x) (some_is _ wk e) (record { no_sink = refl; outlook = λ g w k d os q. refl; no_moves = λ g w k os. refl; lawful = λ g w k d is os r. r; rests = λ g w k d is os r. r })
linear_machine (DropWhile f) wk h e = subst (λ (x : Work). IsOneMachine (DropWhile f) x) (some_is _ wk e) (record { no_sink = refl; outlook = λ g w k d os q. refl; no_moves = λ g w k os. refl; lawful = λ g w k d is os r. r; rests = λ g w k d is os r. r })
linear_machine (Limit n) wk h e = subst (λ (x : Work). IsOneMachine (Limit n) x) (some_is _ wk e) (record { no_sink = refl; outlook = λ g w k d os q. refl; no_moves = λ g w k os. refl; lawful = λ g w k d is os r. r; rests = λ g w k d is os r. r })
linear_machine (MapConcat f) wk h e = subst (λ (x : Work). IsOneMachine (MapConcat f) x) (some_is _ wk e) (record { no_sink = refl; outlook = λ g w k d os q. refl; no_moves = λ g w k os. refl; lawful = λ g w k d is os r. r; rests = λ g w k d is os r. r })
linear_machine (Plug name) wk h e = subst (λ (x : Work). IsOneMachine (Plug name) x) (some_is _ wk e) (record { no_sink = refl; outlook = λ g w k d os q. refl; no_moves = λ g w k os. refl; lawful = λ g w k d is os r. r; rests = λ g w k d is os r. r })
linear_machine _ wk h e = absurd h

-- the stages with state that keep a group or a value
abbrev pub IsKeeping : Kind → Type 0
IsKeeping (Grouped n) = Unit {0}
IsKeeping (Fold o) = Unit {0}
IsKeeping (Reduce r) = Unit {0}
IsKeeping (Scan o) = Unit {0}
IsKeeping _ = ⊥

pub keeping_machine : (kd : Kind) (wk : Work) → IsKeeping kd → work_of kd ≡ Some wk → IsOneMachine kd wk
keeping_machine (Grouped n) wk h e = subst (λ (x : Work). IsOneMachine (Grouped n) x) (some_is _ wk e) (record { no_sink = refl; outlook = λ g w k d os q. refl; no_moves = λ g w k os. refl; lawful = λ g w k d is os r. r; rests = λ g w k d is os r. r })
keeping_machine (Fold o) wk h e = subst (λ (x : Work). IsOneMachine (Fold o) x) (some_is _ wk e) (record { no_sink = refl; outlook = λ g w k d os q. refl; no_moves = λ g w k os. refl; lawful = λ g w k d is os r. r; rests = λ g w k d is os r. r })
keeping_machine (Reduce o) wk h e = subst (λ (x : Work). IsOneMachine (Reduce o) x) (some_is _ wk e) (record { no_sink = refl; outlook = λ g w k d os q. refl; no_moves = λ g w k os. refl; lawful = λ g w k d is os r. r; rests = λ g w k d is os r. r })
keeping_machine (Scan o) wk h e = subst (λ (x : Work). IsOneMachine (Scan o) x) (some_is _ wk e) (record { no_sink = refl; outlook = λ g w k d os q. refl; no_moves = λ g w k os. refl; lawful = λ g w k d is os r. r; rests = λ g w k d is os r. r })
keeping_machine _ wk h e = absurd h
