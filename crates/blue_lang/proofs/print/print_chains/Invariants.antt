use Rattle.std.proofs.Common.{◌≡◌, ◌++◌, drop, map}
use Rattle.blue_modules.specs.Text.{plain_chain_text}
use Rattle.blue_lang.specs.Declarations.{chain}
use Rattle.blue_lang.specs.Canonical.{declared_text}
use Rattle.blue_lang.proofs.print.print_chains.Given as goal

abbrev pub invariant-loop-chain : goal.invariant-loop-chain
invariant-loop-chain l =
    l.out.items ++ declared_text (map chain (map plain_chain_text (drop l.chain-index l.chains))) ≡ l.initial.out.items ++ declared_text (map chain (map plain_chain_text l.chains))
