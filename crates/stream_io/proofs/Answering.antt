-- What an answer of `?` is: the error that came.
use Rattle.std.proofs.Common.{◌≡◌, Option, Some, None, IfErr, IfOk, OnErr, OnOk, subst, sym}
use Rattle.std.specs.Prelude.{Result, Ok, Err, IsErrAnd}

-- what is said of success says nothing of an error
pub no_ok : {T E : Type 0} (Q : E → Type 0) (P : T → Type 0) (r : Result T E) → IsErrAnd r Q → IfOk r P
no_ok Q P (Ok x) h = absurd h
no_ok Q P (Err e) h = tt

pub not_ok : {T E : Type 0} (Q : E → Type 0) (P : Type 0) (r : Result T E) → IsErrAnd r Q → OnOk r P
not_ok Q P (Ok x) h = absurd h
not_ok Q P (Err e) h = tt

pub never_ok : {T E X : Type 0} (Q : E → Type 0) (r : Result T E) (x : T) → IsErrAnd r Q → r ≡ Ok x → X
never_ok Q (Ok x) y h is = absurd h
never_ok Q (Err e) y h is = absurd cc

-- what holds of the error that came holds of the answer
pub err_gives : {T E : Type 0} (P : E → Type 0) (r : Result T E) (y : E) → IsErrAnd r (λ e. e ≡ y) → P y → IfErr r P
err_gives P (Ok x) y h p = absurd h
err_gives P (Err e) y h p = subst P (sym h) p

-- the error that came is the one of the answer
pub err_came : {T E : Type 0} (r : Result T E) (y z : E) → IsErrAnd r (λ e. e ≡ y) → r ≡ Err z → y ≡ z
err_came (Ok x) y z h is = absurd h
err_came (Err e) y z h is = cc

-- success is no error, and something is not nothing
pub ok_no_err : {T E X : Type 0} (x : T) (e : E) → Ok x ≡ Err e → X
ok_no_err x e is = absurd cc

pub some_not_none : {T E X : Type 0} (r : Result (Option T) E) (x : T) → r ≡ Ok (Some x) → r ≡ Ok None → X
some_not_none r x some none = absurd cc
