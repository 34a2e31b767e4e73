-- What a type says that is given at a stage.
use Rattle.std.proofs.Common.{◌≡◌, Bool, true, false, List, Option, Some, None, refl}
use Rattle.std.specs.Prelude.{if◌then◌else◌, nat_le}
use Rattle.elem_core.specs.Sort.{Sort, num_type, nesting}
use Rattle.stream_model.specs.Known.{HeadLists}
use Rattle.blue_names.specs.declared.typed.TheConstants.{MAX_NESTING}
use Rattle.blue_names.specs.declared.typed.Typed.{Typed}
use Rattle.blue_names.specs.declared.typed.Typed.TheVariants.{Gives, Clashes, TooDeep}
use Rattle.blue_names.specs.declared.want.Want.{Want}
use Rattle.blue_names.specs.declared.want.Want.TheVariants.{Is}
use Rattle.blue_names.specs.FnTypes.{suits}
use Rattle.blue_names.specs.StageTypes.{limited, clash_or, keyed}
use Rattle.run_blueprint.specs.Types.{TakesSort}

limited_by : (b : Bool) (s u : Sort) → (if b then Gives s else TooDeep) ≡ Gives u → s ≡ u
limited_by true s u h = cc
limited_by false s u h = cc

pub limited_is : (s u : Sort) → limited s ≡ Gives u → s ≡ u
limited_is s u h = limited_by (nat_le (nesting s) MAX_NESTING) s u h

wanted_by : (b : Bool) (t : Sort) (w : Want) (r : Typed) (u : Sort) → (if b then r else Clashes t w) ≡ Gives u → (b ≡ true) × (r ≡ Gives u)
wanted_by true t w r u h = (refl, h)
wanted_by false t w r u h = cc

pub wanted : (w : Option Want) (t : Sort) (r : Typed) (u : Sort) → clash_or w t r ≡ Gives u → TakesSort w t × (r ≡ Gives u)
wanted None t r u h = (tt, h)
wanted (Some w) t r u h = wanted_by (suits w t) t w r u h

pub given : (w : Option Want) (t s u : Sort) → clash_or w t (limited s) ≡ Gives u → TakesSort w t × (s ≡ u)
given w t s u h = let e = wanted w t (limited s) u h in (e.0, limited_is s u e.1)

pub parted_by : (b : Bool) (t p u : Sort) → (if b then Gives t else Clashes p (Is num_type)) ≡ Gives u → t ≡ u
parted_by true t p u h = cc
parted_by false t p u h = cc

-- a key whose type does not nest too deep
keyed_by : (b : Bool) (t u : Sort) → (if b then Gives t else TooDeep) ≡ Gives u → Gives t ≡ Gives u
keyed_by true t u h = h
keyed_by false t u h = cc

pub keyed_is : (heads : HeadLists) (key : Sort) (r : Typed) (u : Sort) → keyed heads key r ≡ Gives u → r ≡ Gives u
keyed_is heads key (Gives t) u h = keyed_by (nat_le (nesting key) MAX_NESTING) t u h
keyed_is heads key (Clashes t w) u h = cc
keyed_is heads key TooDeep u h = cc
