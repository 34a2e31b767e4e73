-- What is read of the words of a line: by cases on the words, from left to right.
-- Choice: docs/DECISIONS.md#form-before-places
use Rattle.std.specs.Prelude.{◌≡◌, ℕ, ℤ, Bool, false, if◌then◌else◌, List, [], ◌∷◌, Option, Some, None, Result, Ok, Err}
use Rattle.std.specs.Str.{bytes_eq}
use Rattle.blue_words.specs.declared.fault.BlueKind.{BlueKind}
use Rattle.blue_words.specs.declared.fault.FormEnd.{FormEnd}
use Rattle.blue_words.specs.declared.fault.FormEnd.TheVariants.{BadLine, NoMemory}
use Rattle.blue_words.specs.Numbers.{read_count, read_int, read_name, read_file_name}

-- the value of a place, or what is wrong there
abbrev pub At : Type 0 → Type 0
At A = Result A BlueKind

-- what is read of words: nothing, where they have not the form; else the value, or the leftmost fault of its places, and
-- the words that are left
abbrev pub Reading : Type 0 → Type 0
Reading A = Option (At A × List (List ℕ))

-- the value, or the fault, seen by f
abbrev pub at_map : {A B : Type 0} → (A → B) → At A → At B
at_map f (Ok a) = Ok (f a)
at_map f (Err k) = Err k

-- two values, or the fault of the first that has one
abbrev pub both : {A B : Type 0} → At A → At B → At (A × B)
both (Ok a) (Ok b) = Ok (a, b)
both (Ok a) (Err k) = Err k
both (Err k) q = Err k

-- no words, no fault: the value
abbrev pub said : {A : Type 0} → A → List (List ℕ) → Reading A
said a ws = Some (Ok a, ws)

-- what is made of what is read
abbrev pub made : {A B : Type 0} → (A → B) → Reading A → Reading B
made f None = None
made f (Some r) = Some (at_map f r.0, r.1)

-- the second part, behind the first
abbrev pub with_second : {A B : Type 0} → At A → Reading B → Reading (A × B)
with_second p None = None
with_second p (Some r) = Some (both p r.0, r.1)

-- two parts, one behind the other
abbrev pub then_read : {A B : Type 0} → Reading A → (List (List ℕ) → Reading B) → Reading (A × B)
then_read None next = None
then_read (Some r) next = with_second r.0 (next r.1)

-- one word, which is a place
abbrev pub read_place : {A : Type 0} → (List ℕ → At A) → List (List ℕ) → Reading A
read_place f [] = None
read_place f (w ∷ ws) = Some (f w, ws)

-- any word
abbrev pub word : List (List ℕ) → Reading (List ℕ)
word ws = read_place (λ w. Ok w) ws

-- a name
abbrev pub name : List (List ℕ) → Reading (List ℕ)
name ws = read_place read_name ws

-- a file name
abbrev pub file : List (List ℕ) → Reading (List ℕ)
file ws = read_place read_file_name ws

-- a number of 64 bits with a sign
abbrev pub int : List (List ℕ) → Reading ℤ
int ws = read_place read_int ws

-- a number of 64 bits
abbrev pub count : List (List ℕ) → Reading ℕ
count ws = read_place (read_count 64) ws

-- a size, of 32 bits
abbrev pub size : List (List ℕ) → Reading ℕ
size ws = read_place (read_count 32) ws

-- what is read behind this fixed word
abbrev pub behind_word : {A : Type 0} → List ℕ → (List (List ℕ) → Reading A) → List (List ℕ) → Reading A
behind_word fixed next [] = None
behind_word fixed next (w ∷ ws) = if bytes_eq w fixed then next ws else None

-- what is read, where this fixed word stands behind it
abbrev pub before_word : {A : Type 0} → List ℕ → Reading A → Reading A
before_word fixed None = None
before_word fixed (Some r) = behind_word fixed (λ ws. Some (r.0, ws)) r.1

-- the first word is this one
abbrev pub begins_with : List ℕ → List (List ℕ) → Bool
begins_with fixed [] = false
begins_with fixed (w ∷ ws) = bytes_eq w fixed

-- a reader's answer is what is read of the words; want of memory may stand in its place
abbrev pub Reads : {A : Type 0} → Result (At A) FormEnd → Reading A → List (List ℕ) → Type 0
Reads (Ok p) reading left = reading ≡ Some (p, left)
Reads (Err BadLine) reading left = reading ≡ None
Reads (Err NoMemory) reading left = Unit {0}

-- the same, where the value is seen by f
abbrev pub ReadsAs : {A B : Type 0} → (A → B) → Result (At A) FormEnd → Reading B → List (List ℕ) → Type 0
ReadsAs f (Ok p) reading left = reading ≡ Some (at_map f p, left)
ReadsAs f (Err BadLine) reading left = reading ≡ None
ReadsAs f (Err NoMemory) reading left = Unit {0}
