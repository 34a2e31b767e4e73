-- Numbers: what is read is the decimal text of its value, and every such text is read.
use Rattle.std.specs.Prelude.{◌^◌, take, drop, if◌then◌else◌, Option, None, Some}
use Rattle.std.specs.List.{list_all, flat_map}
use Rattle.std.specs.Option.{option_map}
use Rattle.std.specs.Fmt.{decimal}
use Rattle.std.specs.Char.{is_ascii_digit}
use Rattle.std.specs.Str.Parse.{digits_value}
use Rattle.std.proofs.Common.{◌≡◌, ℕ, suc, ◌+◌, ◌<◌, Bool, true, false, ◌&&◌, ltb, leb, cond, List, [], ◌∷◌, ◌++◌, length, Result, Ok, Err, refl, sym, ap, subst, ◌∙◌, arith, rules, append_assoc, append-nil, length-append}
use Rattle.std.proofs.lemmas.Bool.{and_parts, and_from, lt-ltb, leb-true, le-leb}
use Rattle.std.proofs.lemmas.Bool.Decides.{nat_tests}
use Rattle.std.proofs.lemmas.Str.Parse.{IsNumeralModel, numerals_by_value}
use Rattle.std.proofs.lemmas.Fmt.{decimal_nonempty, digits_decimal, digits_value-decimal, length-decimal-le}
use Rattle.blue_words.specs.declared.fault.BlueKind.{BlueKind}
use Rattle.blue_words.specs.declared.fault.BlueKind.TheVariants.{BadNumber}
use Rattle.blue_words.specs.Numbers.{are_digits, read_count}
use Rattle.plan_reader.specs.Text.{move_text, is_stop, stop_at, EndsNumber, IsMoveText, IsRest, AllSmall}

-- lists of digits, and the number that they are
own : IsNumeralModel (λ ds. list_all is_ascii_digit ds ≡ true) (digits_value 10)
own = numerals_by_value _ (search rules)

below_wide : (m : ℕ) → m < 2 ^ 32 → m < 2 ^ 64
below_wide m h = omega (arith, h)

pub decimal_digits : (m : ℕ) → m < 2 ^ 32 → list_all is_ascii_digit (decimal m) ≡ true
decimal_digits m h = digits_decimal own m (below_wide m h)

are_all_digits : (m : ℕ) → m < 2 ^ 32 → are_digits (decimal m) ≡ true
are_all_digits m h =
    let w = below_wide m h in
    and_from _ _ (and_from _ _ (lt-ltb 0 (length (decimal m)) (decimal_nonempty m w)) (le-leb (length (decimal m)) 20 (length-decimal-le 20 m (omega arith) (omega (arith, h)) w))) (decimal_digits m h)

-- the decimal text of a number is read as that number
pub reads_decimal : (m : ℕ) → m < 2 ^ 32 → read_count 32 (decimal m) ≡ Ok m
reads_decimal m h =
    let value : digits_value 10 (decimal m) ≡ m = digits_value-decimal own m (below_wide m h) in
    let room : ltb (digits_value 10 (decimal m)) (2 ^ 32) ≡ true = ap (λ x. ltb x (2 ^ 32)) value ∙ lt-ltb m (2 ^ 32) h in
    let ok : (are_digits (decimal m) && ltb (digits_value 10 (decimal m)) (2 ^ 32)) ≡ true = and_from _ _ (are_all_digits m h) room in
    ap (λ t. cond t (Ok (digits_value 10 (decimal m))) (Err BadNumber)) ok ∙ ap (λ x. Ok x) value

-- ---- where a number ends

no_stop : (b : ℕ) → is_ascii_digit b ≡ true → is_stop b ≡ false
no_stop b h =
    let p = and_parts (leb 48 b) (leb b 57) h in
    let low = leb-true 48 b p.0 in
    grind (arith, nat_tests, low)

pub stop_behind : (ds rest : List ℕ) → list_all is_ascii_digit ds ≡ true → EndsNumber rest → stop_at (ds ++ rest) ≡ Some (length ds)
stop_behind [] [] d s = absurd s
stop_behind [] (b ∷ rest) d s = rw s refl
stop_behind (c ∷ ds) rest d s =
    let p = and_parts (is_ascii_digit c) (list_all is_ascii_digit ds) d in
    let n : is_stop c ≡ false = no_stop c p.0 in
    let r = stop_behind ds rest p.1 s in
    let z : length ds + 1 ≡ suc (length ds) = omega arith in
    rw (n, r) (ap Some z)

-- what stands before and from a stop
pub record Cut (text : List ℕ) (n : ℕ) : Type 0 where
  pub parts : text ≡ take n text ++ drop n text
  pub stops : EndsNumber (drop n text)
  pub within : n < length text

cut_here : (b : ℕ) (text : List ℕ) (n : ℕ) → is_stop b ≡ true → n ≡ 0 → Cut (b ∷ text) n
cut_here b text n e z = rw z (record { parts = refl; stops = e; within = omega arith })

cut_later : (b : ℕ) (text : List ℕ) (n k : ℕ) → Cut text k → n ≡ suc k → Cut (b ∷ text) n
cut_later b text n k c z =
    let l = c.within in
    rw z (record { parts = ap (λ (t : List ℕ). b ∷ t) c.parts; stops = c.stops; within = omega (arith, l) })

cut_rest : (b : ℕ) (text : List ℕ) (n : ℕ) → ((k : ℕ) → stop_at text ≡ Some k → Cut text k) → (o : Option ℕ) → stop_at text ≡ o → option_map (λ k. k + 1) o ≡ Some n → Cut (b ∷ text) n
cut_rest b text n rec None e h = cc
cut_rest b text n rec (Some k) e h = let z : k + 1 ≡ n = cc in cut_later b text n k (rec k e) (omega (arith, z))

cut_flag : (b : ℕ) (text : List ℕ) (n : ℕ) → ((k : ℕ) → stop_at text ≡ Some k → Cut text k) → (f : Bool) → is_stop b ≡ f → (if f then Some 0 else option_map (λ k. k + 1) (stop_at text)) ≡ Some n → Cut (b ∷ text) n
cut_flag b text n rec true e h = let z : 0 ≡ n = cc in cut_here b text n e (sym z)
cut_flag b text n rec false e h = cut_rest b text n rec (stop_at text) refl h

pub cut : (text : List ℕ) (n : ℕ) → stop_at text ≡ Some n → Cut text n
cut [] n h = cc
cut (b ∷ text) n h = cut_flag b text n (λ k e. cut text k e) (is_stop b) refl h

take_all : (ds rest : List ℕ) → take (length ds) (ds ++ rest) ≡ ds
take_all [] rest = refl
take_all (d ∷ ds) rest = ap (λ (l : List ℕ). d ∷ l) (take_all ds rest)

tail_same : (a b : ℕ) (xs ys : List ℕ) → a ∷ xs ≡ b ∷ ys → xs ≡ ys
tail_same a b xs ys h = cc

-- where a move stands first, its number ends where the first stop is, and is what stands before that
pub move_cut : (text : List ℕ) (m : ℕ) (behind : List ℕ) → IsMoveText (32 ∷ text) m behind → (stop_at text ≡ Some (length (decimal m))) × (take (length (decimal m)) text ≡ decimal m)
move_cut text m behind h =
    let e : text ≡ decimal m ++ behind = tail_same 32 32 text (decimal m ++ behind) h.is in
    let d = decimal_digits m h.small in
    (ap stop_at e ∙ stop_behind (decimal m) behind d h.stops, ap (take (length (decimal m))) e ∙ take_all (decimal m) behind)

some_same : (a b : ℕ) → Some a ≡ Some b → a ≡ b
some_same a b h = cc

-- so no other number stands there
pub none_there : (text : List ℕ) (n : ℕ) → stop_at text ≡ Some n → ((m : ℕ) → m < 2 ^ 32 → take n text ≡ decimal m → ⊥) → (m : ℕ) (behind : List ℕ) → IsMoveText (32 ∷ text) m behind → ⊥
none_there text n s none m behind h =
    let c = move_cut text m behind h in
    let e : n ≡ length (decimal m) = some_same n (length (decimal m)) (sym s ∙ c.0) in
    none m h.small (ap (λ k. take k text) e ∙ c.1)

pub none_stops : (text : List ℕ) → stop_at text ≡ None → (m : ℕ) (behind : List ℕ) → IsMoveText (32 ∷ text) m behind → ⊥
none_stops text s m behind h = let c = move_cut text m behind h in let x : None ≡ Some (length (decimal m)) = sym s ∙ c.0 in cc

pub a_move : (text : List ℕ) (n m : ℕ) → stop_at text ≡ Some n → take n text ≡ decimal m → m < 2 ^ 32 → IsMoveText (32 ∷ text) m (drop n text)
a_move text n m s e small =
    let c = cut text n s in
    record { is = ap (λ (t : List ℕ). 32 ∷ t) (c.parts ∙ ap (λ (d : List ℕ). d ++ drop n text) e); small = small; stops = c.stops }

-- ---- lists of moves

pub flat_append : (ms ns : List ℕ) → flat_map move_text (ms ++ ns) ≡ flat_map move_text ms ++ flat_map move_text ns
flat_append [] ns = refl
flat_append (m ∷ ms) ns = ap (λ (l : List ℕ). move_text m ++ l) (flat_append ms ns) ∙ sym (append_assoc (move_text m) (flat_map move_text ms) (flat_map move_text ns))

pub small_append : (ms ns : List ℕ) → AllSmall ms → AllSmall ns → AllSmall (ms ++ ns)
small_append [] ns a b = b
small_append (m ∷ ms) ns a b = (a.0, small_append ms ns a.1 b)

-- what follows the moves of a line stops the number before it
rest_stops : (ms behind : List ℕ) → EndsNumber (flat_map move_text ms ++ 10 ∷ behind)
rest_stops [] behind = refl
rest_stops (m ∷ ms) behind = refl

-- two numbers that end there are one, and so is what stands behind them
pub same_move : (text : List ℕ) (m n : ℕ) (r s : List ℕ) → IsMoveText text m r → IsMoveText text n s → (m ≡ n) × (r ≡ s)
same_move [] m n r s a b = let e = a.is in cc
same_move (x ∷ text) m n r s a b =
    let e : text ≡ decimal m ++ r = tail_same x 32 text (decimal m ++ r) a.is in
    let f : text ≡ decimal n ++ s = tail_same x 32 text (decimal n ++ s) b.is in
    let ia : IsMoveText (32 ∷ text) m r = record { is = ap (λ (t : List ℕ). 32 ∷ t) e; small = a.small; stops = a.stops } in
    let ib : IsMoveText (32 ∷ text) n s = record { is = ap (λ (t : List ℕ). 32 ∷ t) f; small = b.small; stops = b.stops } in
    let c = move_cut text m r ia in
    let d = move_cut text n s ib in
    let k : length (decimal m) ≡ length (decimal n) = some_same (length (decimal m)) (length (decimal n)) (sym c.0 ∙ d.0) in
    let t : decimal m ≡ decimal n = sym c.1 ∙ ap (λ j. take j text) k ∙ d.1 in
    let v : m ≡ n = sym (digits_value-decimal own m (below_wide m a.small)) ∙ ap (digits_value 10) t ∙ digits_value-decimal own n (below_wide n b.small) in
    (v, behind_same (decimal n) r s (ap (λ (l : List ℕ). l ++ r) (sym t) ∙ sym e ∙ f))
  where
    behind_same : (ds r s : List ℕ) → ds ++ r ≡ ds ++ s → r ≡ s
    behind_same [] r s h = h
    behind_same (d ∷ ds) r s h = behind_same ds r s (tail_same d d (ds ++ r) (ds ++ s) h)

-- a line of which a move was read goes on with the rest
pub record GoesOn (rest ms behind moves : List ℕ) (m : ℕ) : Type 0 where
  pub more : List ℕ
  pub are : ms ≡ m ∷ more
  pub line : IsRest rest more behind

heads_same : (x y : ℕ) (b r : List ℕ) → x ∷ b ≡ y ∷ r → x ≡ y
heads_same x y b r h = cc

not_ten : (b r : List ℕ) → 10 ∷ b ≡ 32 ∷ r → ⊥
not_ten b r h = let e = heads_same 10 32 b r h in omega (arith, e)

goes_on : (text ms behind rest : List ℕ) (m k : ℕ) → AllSmall ms → (k ≡ m) × (flat_map move_text ms ++ 10 ∷ behind ≡ rest) → GoesOn rest (k ∷ ms) behind [] m
goes_on text ms behind rest m k small s = record { more = ms; are = ap (λ j. j ∷ ms) s.0; line = record { is = sym s.1; small = small } }

pub first_move : (text : List ℕ) (k : ℕ) (ms behind : List ℕ) → IsRest text (k ∷ ms) behind → IsMoveText text k (flat_map move_text ms ++ 10 ∷ behind)
first_move text k ms behind line = record { is = line.is ∙ append_assoc (move_text k) (flat_map move_text ms) (10 ∷ behind); small = line.small.0; stops = rest_stops ms behind }

pub one_read : (text ms behind : List ℕ) (m : ℕ) (rest : List ℕ) → IsRest text ms behind → IsMoveText text m rest → GoesOn rest ms behind [] m
one_read text [] behind m rest line move = absurd (not_ten behind (decimal m ++ rest) (sym line.is ∙ move.is))
one_read text (k ∷ ms) behind m rest line move =
    goes_on text ms behind rest m k line.small.1 (same_move text k m (flat_map move_text ms ++ 10 ∷ behind) rest (first_move text k ms behind line) move)

-- where neither LF nor a move stands first, no line does
pub no_line : (text : List ℕ) → ((behind : List ℕ) → text ≡ 10 ∷ behind → ⊥) → ((m : ℕ) (behind : List ℕ) → IsMoveText text m behind → ⊥) → (ms behind : List ℕ) → IsRest text ms behind → ⊥
no_line text no_end no_move [] behind line = no_end behind line.is
no_line text no_end no_move (m ∷ ms) behind line = no_move m (flat_map move_text ms ++ 10 ∷ behind) (first_move text m ms behind line)

-- a number that is not read is not there
pub not_read : (ds : List ℕ) → (x : BlueKind) → read_count 32 ds ≡ Err x → (m : ℕ) → m < 2 ^ 32 → ds ≡ decimal m → ⊥
not_read ds x r m h e = let z : Err x ≡ Ok m = sym r ∙ ap (read_count 32) e ∙ reads_decimal m h in cc

abbrev same_result : Result ℕ BlueKind → Result ℕ BlueKind → Type 0
same_result a b = a ≡ b

-- and one that is read is that number
pub read_same : (ds : List ℕ) (n : ℕ) → read_count 32 ds ≡ Ok n → (m : ℕ) → m < 2 ^ 32 → ds ≡ decimal m → n ≡ m
read_same ds n r m h e = ok_same n m (sym r ∙ ap (read_count 32) e ∙ reads_decimal m h)
  where
    ok_same : (a b : ℕ) → same_result (Ok a) (Ok b) → a ≡ b
    ok_same a b h = cc

-- a move leaves less behind it
pub is_less : (text : List ℕ) (m : ℕ) (behind : List ℕ) → IsMoveText text m behind → length behind < length text
is_less text m behind move =
    let e : length text ≡ suc (length (decimal m ++ behind)) = ap (λ (t : List ℕ). length t) move.is in
    let l = length-append (decimal m) behind in
    omega (arith, e, l)

-- ---- one more move of a line is read

pub goes_more : (text ms : List ℕ) (m : ℕ) (rest behind : List ℕ) → text ≡ flat_map move_text ms ++ rest → IsMoveText rest m behind → text ≡ flat_map move_text (ms ++ m ∷ []) ++ behind
goes_more text ms m rest behind e move =
    e ∙ ap (λ (t : List ℕ). flat_map move_text ms ++ t) move.is ∙ sym (append_assoc (flat_map move_text ms) (move_text m) behind)
    ∙ ap (λ (l : List ℕ). l ++ behind) (sym (flat_append ms (m ∷ []) ∙ ap (λ (l : List ℕ). flat_map move_text ms ++ l) (append-nil (move_text m))))

-- where the line that stands there begins with these moves, it goes on so
abbrev pub Only : List ℕ → List ℕ → List ℕ → Type 0
Only text so_far rest = (ms behind : List ℕ) → IsRest text ms behind → (more : List ℕ) × ((ms ≡ so_far ++ more) × IsRest rest more behind)

only_on : (ks ms behind : List ℕ) (m : ℕ) (b more : List ℕ) → ks ≡ ms ++ more → GoesOn behind more b [] m → (rest : List ℕ) × ((ks ≡ (ms ++ m ∷ []) ++ rest) × IsRest behind rest b)
only_on ks ms behind m b more e g = (g.more, (e ∙ ap (λ (l : List ℕ). ms ++ l) g.are ∙ sym (append_assoc ms (m ∷ []) g.more), g.line))

pub only_more : (text ms : List ℕ) (m : ℕ) (rest behind : List ℕ) → Only text ms rest → IsMoveText rest m behind → Only text (ms ++ m ∷ []) behind
only_more text ms m rest behind only move = λ ks b line.
    let o = only ks b line in
    only_on ks ms behind m b o.0 o.1.0 (one_read rest o.0 b m behind o.1.1 move)

-- a line has one list of moves
pub same_rest : (text ms ns b c : List ℕ) → IsRest text ms b → IsRest text ns c → ms ≡ ns
same_rest text [] [] b c x y = refl
same_rest text [] (n ∷ ns) b c x y = absurd (not_ten b (decimal n ++ (flat_map move_text ns ++ 10 ∷ c)) (sym x.is ∙ (first_move text n ns c y).is))
same_rest text (m ∷ ms) ns b c x y =
    let g = one_read text ns c m (flat_map move_text ms ++ 10 ∷ b) y (first_move text m ms b x) in
    same_tail m ms ns g.more (same_rest (flat_map move_text ms ++ 10 ∷ b) ms g.more b c (record { is = refl; small = x.small.1 }) g.line) g.are
  where
    same_tail : (m : ℕ) (ms ns more : List ℕ) → ms ≡ more → ns ≡ m ∷ more → m ∷ ms ≡ ns
    same_tail m ms ns more a e = ap (λ (l : List ℕ). m ∷ l) a ∙ sym e

pub move_on : (text ms now : List ℕ) (m : ℕ) (rest behind : List ℕ) → now ≡ ms ++ m ∷ [] → text ≡ flat_map move_text ms ++ rest → AllSmall ms → Only text ms rest → IsMoveText rest m behind
    → (text ≡ flat_map move_text now ++ behind) × (AllSmall now × Only text now behind)
move_on text ms now m rest behind e goes small only move = subst (λ (l : List ℕ). (text ≡ flat_map move_text l ++ behind) × (AllSmall l × Only text l behind)) (sym e)
    (goes_more text ms m rest behind goes move, (small_append ms (m ∷ []) small (move.small, tt), only_more text ms m rest behind only move))
