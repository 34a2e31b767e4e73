use Rattle.std.proofs.Common.{◌≡◌, ◌<◌, [], ◌∷◌, ◌++◌, length, append_assoc, ap, sym, ◌∙◌, subst}
use Rattle.blue_names.specs.Outs.{row_at}
use Rattle.blue_check.specs.Classes.{IsRelabeled}
use Rattle.blue_check.proofs.Joining.{AreListed-join, rest_listed, relabeled_both}
use Rattle.blue_check.proofs.classes.join.Goals as goal

pub relabel-requires : goal.relabel-requires
relabel-requires c =
    let old = c.args.labels.now in
    let mid = c.relabel_one.new.labels in
    let long : length mid.items ≡ length old.items = sym mid.ok.0 ∙ (c.relabel_one.ensures.length ∙ old.ok.0) in
    λ i lt is. rest_listed old.items mid.items c.args.members.now.items c.deref.result.now c.args.from c.args.to c.requires.apart long c.requires.listed (c.deref.ensures.value ∙ c.take_members-nodes.ensures.taken)
    (λ k l. c.relabel_one.ensures.relabeled k (subst (λ n. k < n) (sym old.ok.0) l)) i (subst (λ n. i < n) mid.ok.0 lt) is

pub returns-clause-relabeled : goal.returns-clause-relabeled
returns-clause-relabeled c =
    let old = c.args.labels.now in
    let mid = c.relabel_one.new.labels in
    let long : length mid.items ≡ length old.items = sym mid.ok.0 ∙ (c.relabel_one.ensures.length ∙ old.ok.0) in
    relabeled_both old.items mid.items c.relabel.new.labels.items c.args.from c.args.to long (λ k l. c.relabel_one.ensures.relabeled k (subst (λ n. k < n) (sym old.ok.0) l)) c.relabel.ensures.relabeled

pub returns-clause-listed : goal.returns-clause-listed
returns-clause-listed c =
    let old = c.args.labels.now in
    let one = c.relabel_one.new.labels in
    let new = c.relabel.new.labels in
    let rows = c.args.members.now in
    let mid = c.take_members-nodes.new.members.items in
    let added = c.add_member.new.members.items in
    let later = c.append.new.members in
    let a = c.in_ok-add_member.ensures in
    let e = c.in_ok-append.ensures in
    let nodes = c.take_members-nodes.result.items in
    let from = c.args.from in
    let to = c.args.to in
    let one_long : length one.items ≡ length old.items = sym one.ok.0 ∙ (c.relabel_one.ensures.length ∙ old.ok.0) in
    let long : length new.items ≡ length old.items = sym new.ok.0 ∙ (c.relabel.ensures.length ∙ (c.relabel_one.ensures.length ∙ old.ok.0)) in
    let rows_long : length later.items ≡ length rows.items = sym later.ok.0 ∙ (e.length ∙ (a.length ∙ (c.take_members-nodes.ensures.length ∙ rows.ok.0))) in
    let here : row_at later.items to ≡ row_at mid to ++ from ∷ nodes =
    e.here ∙ (ap (λ ns. row_at added to ++ ns) c.deref-2.ensures.value ∙ (ap (λ ns. ns ++ nodes) a.here ∙ append_assoc (row_at mid to) (from ∷ []) nodes)) in
    let relabeled : IsRelabeled old.items new.items from to = relabeled_both old.items one.items new.items from to one_long (λ k l. c.relabel_one.ensures.relabeled k (subst (λ n. k < n) (sym old.ok.0) l)) c.relabel.ensures.relabeled in
    AreListed-join old.items new.items rows.items mid later.items nodes from to c.requires.apart long rows_long c.requires.listed c.take_members-nodes.ensures.taken c.take_members-nodes.ensures.others here
    (λ n ne. e.others n ne ∙ a.others n ne) relabeled
