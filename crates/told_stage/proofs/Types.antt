-- What a lifted plug gives, by the types of what comes.
use Rattle.std.specs.Prelude.{◌&&◌}
use Rattle.std.proofs.Common.{◌≡◌, ℕ, Bool, true, false, List, [], ◌∷◌, refl, sym, ap, subst}
use Rattle.elem_core.specs.Sort.{Sort}
use Rattle.elem_core.specs.Tree.{Tree}
use Rattle.elem_core.specs.Typed.{is_of}
use Rattle.stream_model.specs.Linear.{Book, told_book, Reply}
use Rattle.plug_logic.specs.Gives.{Gives, listed}
use Rattle.stage_linear.specs.Plugs.{Is}
use Rattle.graph_stage.specs.Lifted.{not_begun}
use Rattle.graph_stage.specs.Told.{AllOfType, GivesTyped, HandedAs, all_of, list_of, reply_if, typed_gives}
use Rattle.told_stage.specs.Lifts.{TurnsInto}

both : (a b : Bool) → (a && b) ≡ true → (a ≡ true) × (b ≡ true)
both true b h = (refl, h)
both false b h = cc

together : (a b : Bool) → a ≡ true → b ≡ true → (a && b) ≡ true
together true b i j = j
together false b i j = cc

reply_by : (to : Sort) (b : Bool) (r : Reply) → (b ≡ true → AllOfType to r.gave) → AllOfType to (reply_if b r).gave
reply_by to true r h = h refl
reply_by to false r h = tt

pub typed : (from to : Sort) (p : Gives) → TurnsInto from to p → GivesTyped (typed_gives from p) to
typed from to p h = record {
  reply = λ took t. reply_by to (all_of from took && is_of from t) (p.reply took t) (λ e. let k = both (all_of from took) (is_of from t) e in h.reply took t k.0 k.1);
  closing = λ took. reply_by to (all_of from took) (p.closing took) (λ e. h.closing took e);
}

pub same_reply : (from : Sort) (p : Gives) (took : List Tree) (t : Tree) → all_of from took ≡ true → is_of from t ≡ true → (typed_gives from p).reply took t ≡ p.reply took t
same_reply from p took t i j = ap (λ (b : Bool). reply_if b (p.reply took t)) (together (all_of from took) (is_of from t) i j)

pub same_closing : (from : Sort) (p : Gives) (took : List Tree) → all_of from took ≡ true → (typed_gives from p).closing took ≡ p.closing took
same_closing from p took i = ap (λ (b : Bool). reply_if b (p.closing took)) i

handed_by : (b : Book) (name : List ℕ) (from to : Sort) (p : Gives) (tells : Bool) → TurnsInto from to p → listed (told_book b) name ≡ typed_gives from p
    → HandedAs tells b name (from ∷ []) (to ∷ []) (list_of (typed_gives from p) not_begun)
handed_by b name from to p true h e = record {
  gives = typed_gives from p;
  input = from;
  output = to;
  is = refl;
  follows = subst (Is (typed_gives from p) []) (sym e) (record { reply = λ rest t. refl; closing = λ rest. refl });
  inputs_are = refl;
  outputs_are = refl;
  typed = subst (λ (q : Gives). GivesTyped q to) (sym e) (typed from to p h);
}
handed_by b name from to p false h e = tt

-- one whose list a book has
pub handed : (b : Book) (name : List ℕ) (from to : Sort) (p : Gives) → TurnsInto from to p → listed (told_book b) name ≡ typed_gives from p
    → HandedAs (b.tells name) b name (from ∷ []) (to ∷ []) (list_of (typed_gives from p) not_begun)
handed b name from to p h e = handed_by b name from to p (b.tells name) h e
