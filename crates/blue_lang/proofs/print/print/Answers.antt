use Rattle.std.proofs.Common.{◌≡◌, ◌++◌, map, rules}
use Rattle.std.specs.List.{flat_map}
use Rattle.blue_modules.specs.Text.{plain_module, plain_chain_text}
use Rattle.blue_lang.specs.Declarations.{switch, chain, part}
use Rattle.blue_lang.specs.Canonical.{default_lines, module_lines, line_text, version_words, declared_text}
use Rattle.blue_lang.proofs.Printing.{whole_text}
use Rattle.blue_lang.proofs.print.print.Goals as goal

pub returns : goal.returns
returns c =
    let t = c.args.text.now in
    let start : c.extend_from_slice.new.self.items ≡ line_text version_words = search rules in
    let settings : c.print_default.new.out.items ≡ c.extend_from_slice.new.self.items ++ declared_text (default_lines t.attrs) = search rules in
    let switches : c.print_switches.new.out.items ≡ c.print_default.new.out.items ++ declared_text (map switch t.switches.items) = search rules in
    let chains : c.print_chains.new.out.items ≡ c.print_switches.new.out.items ++ declared_text (map chain (map plain_chain_text t.chains.items)) = search rules in
    let modules : c.print_modules.new.out.items ≡ c.print_chains.new.out.items ++ declared_text (flat_map module_lines (map plain_module t.modules.items)) = search rules in
    let body : c.print_entries.new.out.items ≡ c.print_modules.new.out.items ++ declared_text (map part t.body.items) = search rules in
    whole_text _ _ _ _ _ _ _ _ _ _ _ start settings switches chains modules body
