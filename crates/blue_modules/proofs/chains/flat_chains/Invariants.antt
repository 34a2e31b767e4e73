use Rattle.std.proofs.Common.{◌≡◌, take, map}
use Rattle.blue_modules.specs.Plain.{plain_chain}
use Rattle.blue_modules.specs.Text.{plain_chain_text}
use Rattle.blue_modules.specs.Flatten.{flat_chain}
use Rattle.blue_modules.proofs.chains.flat_chains.Given as goal

abbrev pub invariant-loop-chain : goal.invariant-loop-chain
invariant-loop-chain l = map plain_chain l.flat.items ≡ map (flat_chain l.around) (map plain_chain_text (take l.chain-index l.chains))
