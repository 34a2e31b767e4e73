-- The blueprint of a text that breaks no rule on modules has few nodes.
use Rattle.std.proofs.Common.{◌≡◌, ℕ, ◌≤◌, Bool, true, false, refl, sym, ap, subst, length}
use Rattle.std.specs.Prelude.{◌||◌, nat_lt, Option, Some, None}
use Rattle.std.specs.Option.{option_map, option_or}
use Rattle.std.proofs.lemmas.Bool.{ltb-false}
use Rattle.stream_model.specs.declared.blueprint.Blueprint.{Blueprint}
use Rattle.stream_model.specs.declared.limit.TheConstants.{MAX_NODES, MAX_WIRES}
use Rattle.blue_modules.specs.declared.fault.ModuleFault.{ModuleFault}
use Rattle.blue_modules.specs.declared.fault.ModuleFault.TheVariants.{TooLarge}
use Rattle.blue_modules.specs.Plain.{PlainBlueprint, plain}
use Rattle.blue_modules.specs.Text.{PlainText}
use Rattle.blue_modules.specs.Flatten.{part_nodes, part_wires, flat_parts}
use Rattle.blue_modules.specs.Fitness.{bodies_of, bodies_fault, too_large, IsFlat}
use Rattle.blue_names.specs.First.{when}
use Rattle.stream_command.proofs.SinksTold.{or_left}

second_none : {X : Type 0} (o p : Option X) → option_or o p ≡ None → p ≡ None
second_none None p e = e
second_none (Some x) p e = cc

never_when : {X : Type 0} (b : Bool) (x : X) → when b x ≡ None → b ≡ false
never_when true x e = cc
never_when false x e = refl

pub few_nodes : (t : PlainText) (b : Blueprint) → IsFlat t (plain b) → length b.nodes.items ≤ 1024
few_nodes t b f =
    let fits : too_large t ≡ false = never_when (too_large t) TooLarge (second_none (bodies_fault (bodies_of t)) (when (too_large t) TooLarge) f.fit) in
    let small : nat_lt MAX_NODES (length (part_nodes (flat_parts t))) ≡ false = or_left (nat_lt MAX_NODES (length (part_nodes (flat_parts t)))) (nat_lt MAX_WIRES (length (part_wires (flat_parts t)))) fits in
    subst (λ (n : ℕ). n ≤ 1024) (sym (ap (λ (q : PlainBlueprint). length q.nodes) f.is)) (ltb-false MAX_NODES (length (part_nodes (flat_parts t))) small)
