-- The laws of shares.
use Rattle.std.proofs.Common.{◌≡◌, take, ap, ◌∙◌}
use Rattle.std.specs.Prelude.{slice_get, slice_index}
use Rattle.std.proofs.lemmas.Option.{get_or_from_slice_get}
use Rattle.scatter.specs.Shares.{of_home, share_of}
use Rattle.scatter.proofs.Sharing.{share_one, share_at, share_count, share_both}
use Rattle.scatter.proofs.laws.shares_hold_all.Goals as goal

pub returns-clause-one : goal.returns-clause-one
returns-clause-one g c = λ homes xs ys a b same. share_one homes xs ys a b same

pub returns-clause-at : goal.returns-clause-at
returns-clause-at g c = λ homes xs i h x at home.
    let is : slice_index homes i ≡ h = get_or_from_slice_get homes i h 0 home in
    ap (λ k. slice_get (of_home homes h xs) (share_of k (take i homes))) is ∙ share_at homes xs i h x at home

pub returns-clause-count : goal.returns-clause-count
returns-clause-count g c = λ homes xs k e. share_count homes xs k e

pub returns-clause-both : goal.returns-clause-both
returns-clause-both g c = λ homes more xs ys k e. share_both homes more xs ys k e
