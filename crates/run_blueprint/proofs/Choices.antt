-- What the stages with one input give that choose, or that part their elements, is of the type that it should be.
use Rattle.std.proofs.Common.{ℕ, zero, suc, ◌-◌, Bool, true, false, List, [], ◌∷◌, ◌++◌, map, take, length, Option, Some, None}
use Rattle.std.specs.Prelude.{if◌then◌else◌, nat_lt, ◌==◌, ◌||◌, not}
use Rattle.elem_core.specs.Sort.{Sort, pair_type}
use Rattle.elem_core.specs.Tree.{Tree, both}
use Rattle.elem_core.specs.Values.{left_half, right_half}
use Rattle.elem_core.proofs.Prefixes.{prefix_take}
use Rattle.stream_model.specs.declared.kind.Policy.{Policy}
use Rattle.stream_model.specs.declared.kind.Policy.TheVariants.{Backpressure, DropHead, DropTail, DropBuffer, DropNew, Fail}
use Rattle.stream_model.specs.Outlook.{Outlook}
use Rattle.stream_model.specs.Picks.{sent_to, comes, Buffered, after_coming, leaves, buffered, Acted, untouched, completed, aborted, acted_outlook, recover_outlook}
use Rattle.run_blueprint.specs.Types.{HasType, AllTyped}
use Rattle.run_blueprint.proofs.Lists.{typed_append, typed_prefix}

-- the halves of pairs
left_of : (t u : Sort) (x : Tree) → HasType (pair_type t u) x → HasType t (left_half x)
left_of t u (both a b) h = h.0
left_of t u _ h = absurd h

right_of : (t u : Sort) (x : Tree) → HasType (pair_type t u) x → HasType u (right_half x)
right_of t u (both a b) h = h.1
right_of t u _ h = absurd h

pub lefts_typed : (t u : Sort) (l : List Tree) → AllTyped (pair_type t u) l → AllTyped t (map left_half l)
lefts_typed t u [] h = tt
lefts_typed t u (x ∷ l) h = (left_of t u x h.0, lefts_typed t u l h.1)

pub rights_typed : (t u : Sort) (l : List Tree) → AllTyped (pair_type t u) l → AllTyped u (map right_half l)
rights_typed t u [] h = tt
rights_typed t u (x ∷ l) h = (right_of t u x h.0, rights_typed t u l h.1)

module _ (t : Sort) where
  pub take_typed : (n : ℕ) (l : List Tree) → AllTyped t l → AllTyped t (take n l)
  take_typed n l h = typed_prefix t (prefix_take n l) h

  list_if : (b : Bool) (l r : List Tree) → AllTyped t l → AllTyped t r → AllTyped t (if b then l else r)
  list_if true l r h k = h
  list_if false l r h k = k

  -- an output of a balance
  pub sent_typed : (i : ℕ) (moves : List ℕ) (l : List Tree) → AllTyped t l → AllTyped t (sent_to i moves l)
  sent_typed i [] l h = tt
  sent_typed i (j ∷ moves) [] h = tt
  sent_typed i (j ∷ moves) (x ∷ l) h =
      let more = sent_typed i moves l h.1 in
      list_if (j == i) (x ∷ sent_to i moves l) (sent_to i moves l) (h.0, more) more

  -- a valve
  pub acted_typed : (node : ℕ) (d : Acted) (o : Outlook) → AllTyped t o.list → AllTyped t (acted_outlook node d o).list
  acted_typed node untouched o h = h
  acted_typed node (completed k) o h = take_typed k o.list h
  acted_typed node (aborted k) o h = take_typed k o.list h

  -- a recover whose element is of that type
  pub recover_typed : (x : Tree) (moves : List ℕ) (o : Outlook) → HasType t x → AllTyped t o.list → AllTyped t (recover_outlook x moves o).list
  recover_typed x [] o k h = h
  recover_typed x (m ∷ moves) o k h = typed_append t (take m o.list) (x ∷ []) (take_typed m o.list h) (k, tt)

  -- ---- a buffer that does not hold its input back

  abbrev IfStored : Option (List Tree) → Type 0
  IfStored None = Unit {0}
  IfStored (Some l) = AllTyped t l

  one_more : (l : List Tree) (x : Tree) → AllTyped t l → HasType t x → AllTyped t (l ++ x ∷ [])
  one_more l x h k = typed_append t l (x ∷ []) h (k, tt)

  stored_if : (b : Bool) (l : List Tree) → AllTyped t l → IfStored (if b then Some l else None)
  stored_if true l h = h
  stored_if false l h = tt

  comes_typed : (p : Policy) (n : ℕ) (held : List Tree) (x : Tree) → AllTyped t held → HasType t x → IfStored (comes p n held x)
  comes_typed DropHead n [] x h k = list_if (nat_lt 0 n) (x ∷ []) (x ∷ []) (k, tt) (k, tt)
  comes_typed DropHead n (y ∷ held) x h k =
      list_if (nat_lt (length (y ∷ held)) n) ((y ∷ held) ++ x ∷ []) (held ++ x ∷ []) (one_more (y ∷ held) x h k) (one_more held x h.1 k)
  comes_typed DropTail n held x h k =
      list_if (nat_lt (length held) n) (held ++ x ∷ []) (take (length held - 1) held ++ x ∷ []) (one_more held x h k)
      (one_more (take (length held - 1) held) x (take_typed (length held - 1) held h) k)
  comes_typed DropBuffer n held x h k = list_if (nat_lt (length held) n) (held ++ x ∷ []) (x ∷ []) (one_more held x h k) (k, tt)
  comes_typed DropNew n held x h k = list_if (nat_lt (length held) n) (held ++ x ∷ []) held (one_more held x h k) h
  comes_typed Fail n held x h k = stored_if (nat_lt (length held) n) (held ++ x ∷ []) (one_more held x h k)
  comes_typed Backpressure n held x h k = one_more held x h k

  -- what it gave, and what it holds
  pub record BufferedTyped (b : Buffered) : Type 0 where
    pub gave : AllTyped t b.gave
    pub held : AllTyped t b.held

  arrives_typed : (b : Buffered) (o : Option (List Tree)) → BufferedTyped b → IfStored o → BufferedTyped (after_coming b o)
  arrives_typed b None i k = record { gave = i.gave; held = i.held }
  arrives_typed b (Some l) i k = record { gave = i.gave; held = k }

  leaves_typed : (b : Buffered) (l : List Tree) → BufferedTyped b → AllTyped t l → BufferedTyped (leaves b l)
  leaves_typed b [] i k = record { gave = i.gave; held = i.held }
  leaves_typed b (x ∷ l) i k = record { gave = one_more b.gave x i.gave k.0; held = k.1 }

  buffered_if : (c : Bool) (b d : Buffered) → BufferedTyped b → BufferedTyped d → BufferedTyped (if c then b else d)
  buffered_if true b d i k = i
  buffered_if false b d i k = k

  spoilt : (b : Buffered) → BufferedTyped b → BufferedTyped (record b { ok = false })
  spoilt b i = record { gave = i.gave; held = i.held }

  pub buffered_typed : (p : Policy) (n : ℕ) (moves : List ℕ) (l : List Tree) (b : Buffered) → AllTyped t l → BufferedTyped b → BufferedTyped (buffered p n moves l b)
  buffered_typed p n [] l b h i = i
  buffered_typed p n (zero ∷ moves) [] b h i = buffered_typed p n moves [] (record b { ok = false }) tt (spoilt b i)
  buffered_typed p n (zero ∷ moves) (x ∷ l) b h i =
      buffered_typed p n moves l (if b.overflowed then record b { ok = false } else after_coming b (comes p n b.held x)) h.1
      (buffered_if b.overflowed (record b { ok = false }) (after_coming b (comes p n b.held x)) (spoilt b i) (arrives_typed b (comes p n b.held x) i (comes_typed p n b.held x i.held h.0)))
  buffered_typed p n (suc k ∷ moves) l b h i =
      buffered_typed p n moves l (if b.overflowed || not (k == 0) then record b { ok = false } else leaves b b.held) h
      (buffered_if (b.overflowed || not (k == 0)) (record b { ok = false }) (leaves b b.held) (spoilt b i) (leaves_typed b b.held i i.held))
