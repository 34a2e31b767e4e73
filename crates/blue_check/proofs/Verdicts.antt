-- The first of two groups of rules decides.
use Rattle.std.proofs.Common.{◌≡◌, ℕ, List, Option, Some, None, Result, IfOk, refl, ap, sym, ◌∙◌, subst, inl, inr}
use Rattle.std.specs.Option.{option_map, option_or}
use Rattle.stream_model.specs.Graph.{Edge}
use Rattle.blue_check.specs.declared.fault.CheckFault.{CheckFault}
use Rattle.blue_check.specs.declared.judge.Judged.{Judged}
use Rattle.blue_check.specs.declared.judge.Judged.TheVariants.{Unfit, Fit}
use Rattle.blue_check.specs.declared.fault.CheckFault.TheVariants.{NoSuchName}
use Rattle.blue_check.specs.Judging.{IsJudged}

-- a fault of the first group
pub judged_first : (o rest : Option CheckFault) (ws : List Edge) (f : CheckFault) → Some f ≡ o → IsJudged (option_or o rest) ws (Unfit f)
judged_first o rest ws f e = subst (λ x. IsJudged (option_or x rest) ws (Unfit f)) e (inl refl)

-- none of it
pub judged_next : (o rest : Option CheckFault) (ws : List Edge) (j : Judged) → None ≡ o → IsJudged rest ws j → IsJudged (option_or o rest) ws j
judged_next o rest ws j e h = subst (λ x. IsJudged (option_or x rest) ws j) e h

-- the same over wires that are told otherwise
pub judged_over : (early : Option CheckFault) (us ws : List Edge) (j : Judged) → us ≡ ws → IsJudged early us j → IsJudged early ws j
judged_over early us ws j e h = subst (λ x. IsJudged early x j) e h

-- the last group
pub judged_last : (o : Option CheckFault) (ws : List Edge) (f : CheckFault) → Some f ≡ o → IsJudged o ws (Unfit f)
judged_last o ws f e = inl (sym e)

pub judged_walks : (o : Option CheckFault) (ws : List Edge) (j : Judged) → None ≡ o → IsJudged None ws j → IsJudged o ws j
judged_walks o ws j e h = subst (λ x. IsJudged x ws j) e h

-- the same of an answer
pub answer_next : {E : Type 0} (o rest : Option CheckFault) (ws : List Edge) (r : Result Judged E) → None ≡ o → IfOk r (IsJudged rest ws) → IfOk r (IsJudged (option_or o rest) ws)
answer_next o rest ws r e h = subst (λ x. IfOk r (IsJudged (option_or x rest) ws)) e h

pub answer_last : {E : Type 0} (o : Option CheckFault) (ws : List Edge) (r : Result Judged E) → None ≡ o → IfOk r (IsJudged None ws) → IfOk r (IsJudged o ws)
answer_last o ws r e h = subst (λ x. IfOk r (IsJudged x ws)) e h

-- names that nodes use come before those that wires use
pub names_apart : (a rest : Option CheckFault) (b c : Option (List ℕ)) → option_or (option_or a (option_map NoSuchName b)) (option_or (option_map NoSuchName c) rest) ≡ option_or (option_or a (option_map NoSuchName (option_or b c))) rest
names_apart (Some f) rest b c = refl
names_apart None rest (Some n) c = refl
names_apart None rest None c = refl
