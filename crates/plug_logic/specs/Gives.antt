-- What a plug gives for further inputs, and what a book lists of a plug's name.
use Rattle.std.specs.Prelude.{◌≡◌, List, ℕ, [], ◌∷◌, ◌++◌, ⊤}
use Rattle.elem_core.specs.Tree.{Tree}
use Rattle.stream_model.specs.Linear.{Book, Reply, go, finish, fail}
use Rattle.plug_logic.specs.declared.logic.Verdict.{Verdict}
use Rattle.plug_logic.specs.declared.logic.Verdict.TheVariants.{Go, Finish, Fail, NoMemory}

-- what it replies to one more element behind a list of further inputs, and to the end behind one
pub record Gives : Type 0 where
  pub reply : List Tree → Tree → Reply
  pub closing : List Tree → Reply

-- the same, once it took t
abbrev pub after : Gives → Tree → Gives
after p t = record { reply = λ l. p.reply (t ∷ l); closing = λ l. p.closing (t ∷ l) }

-- what a book lists of a name
abbrev pub listed : Book → List ℕ → Gives
listed b name = record { reply = b.reply name; closing = b.closing name }

-- A call did what the reply says: it appended its outputs, and answers so. Where it goes on, `on` holds. Behind a failure, and where
-- there was no memory, nothing is said of the outputs.
abbrev pub Replied : Reply → List Tree → List Tree → Type 0 → Verdict → Type 0
Replied r old new on Go = (r.verdict ≡ go) × ((new ≡ old ++ r.gave) × on)
Replied r old new on Finish = (r.verdict ≡ finish) × (new ≡ old ++ r.gave)
Replied r old new on (Fail n) = r.verdict ≡ fail n
Replied r old new on NoMemory = ⊤
