-- What is left of a line, one byte further on.
-- Assumes nothing.
use mathlib.Core.Path.{◌≡◌, refl, sym, ap, ◌∙◌}
use mathlib.Core.Bool.{Bool, true, false, ◌&&◌, cond}
use mathlib.Core.List.{List, [], ◌∷◌}
use Prim.Native.Nat.{ℕ, zero, suc, ◌+◌, ◌-◌, ◌≤◌, ◌<◌}
use native.Mathlib.Numerals.{add-one}
use native.Mathlib.Omega.{arith}
use lib.Dec.{leb}
use lib.ListN.{length, get_or, drop, drop_of_length-le}
use lib.Seq.{drop-cons}
use borrow.Author.Tests.{leb-true}
use Rattle.std.specs.Int.{from_bool}
use Rattle.amounts.proofs.Steps.{arm_yes, arm-no}
use Rattle.lines.specs.Numbers.{is_digit, longer, read, begins, Number, number_at, numbers_after}

-- ---- a digit

first_holds : (a b : Bool) → (a && b) ≡ true → a ≡ true
first_holds true b e = refl
first_holds false b e = e

pub digit_low : (byte : ℕ) → is_digit byte ≡ true → 48 ≤ byte
digit_low byte e = leb-true 48 byte (first_holds (leb 48 byte) (leb byte 57) e)

-- ---- a list with one more at its front, or not

pub one_more : {A : Type 0} (t : Bool) (x : A) (xs : List A) → length (cond t (x ∷ xs) xs) ≡ from_bool t + length xs
one_more true x xs = omega arith
one_more false x xs = omega arith

pub later : {A : Type 0} (x : A) (xs : List A) (n : ℕ) (d : A) → 0 < n → get_or (x ∷ xs) n d ≡ get_or xs (n - 1) d
later x xs zero d h = absurd (omega arith)
later x xs (suc n) d h = let e : suc n - 1 ≡ n = omega arith in rw e

pub at_most_one : (t : Bool) → from_bool t ≤ 1
at_most_one true = omega arith
at_most_one false = omega arith

module _ {A : Type 0} where
  first-cond : (t : Bool) (x : A) (xs : List A) (n : ℕ) (d : A) → n < from_bool t → get_or (cond t (x ∷ xs) xs) n d ≡ x
  first-cond true x xs zero d h = refl
  first-cond true x xs (suc n) d h = absurd (omega arith)
  first-cond false x xs n d h = absurd (omega arith)

  later-cond : (t : Bool) (x : A) (xs : List A) (n : ℕ) (d : A) → from_bool t ≤ n → get_or (cond t (x ∷ xs) xs) n d ≡ get_or xs (n - from_bool t) d
  later-cond true x xs zero d h = absurd (omega arith)
  later-cond true x xs (suc n) d h = let e : suc n - 1 ≡ n = omega arith in rw e
  later-cond false x xs n d h = let e : n - 0 ≡ n = omega arith in rw e

-- ---- at a place of a line: its byte, and what follows it

abbrev pub byte_at : List ℕ → ℕ → ℕ
byte_at text i = get_or text i 0

abbrev pub after : List ℕ → ℕ → List ℕ
after text i = drop (i + 1) text

module _ (text : List ℕ) (i : ℕ) (h : i < length text) where
  from_byte : drop i text ≡ byte_at text i ∷ after text i
  from_byte = rw add-one (drop-cons text i 0 h)

  pub read-stop : (m : ℕ) → is_digit (byte_at text i) ≡ false → read m (drop i text) ≡ m
  unfolding read
  read-stop m e = ap (read m) from_byte ∙ sym (arm-no (read (longer m (byte_at text i)) (after text i)) m e)

  pub read-on : (m : ℕ) → is_digit (byte_at text i) ≡ true → read m (drop i text) ≡ read (longer m (byte_at text i)) (after text i)
  unfolding read
  read-on m e = ap (read m) from_byte ∙ sym (arm_yes (read (longer m (byte_at text i)) (after text i)) m e)

  -- the numbers that follow a byte, as the next byte begins one or does not
  abbrev from_here : ℕ → List Number
  from_here last = number_at last (byte_at text i ∷ after text i) ∷ numbers_after (byte_at text i) (after text i)

  step : (last : ℕ) → numbers_after last (drop i text) ≡ cond (begins last (byte_at text i)) (from_here last) (numbers_after (byte_at text i) (after text i))
  unfolding numbers_after
  step last = ap (numbers_after last) from_byte

  pub numbers-begin : (last : ℕ) → begins last (byte_at text i) ≡ true → numbers_after last (drop i text) ≡ number_at last (drop i text) ∷ numbers_after (byte_at text i) (after text i)
  numbers-begin last e =
      step last ∙ sym (arm_yes (from_here last) (numbers_after (byte_at text i) (after text i)) e)
      ∙ ap (λ (l : List ℕ). number_at last l ∷ numbers_after (byte_at text i) (after text i)) (sym from_byte)

  pub numbers-pass : (last : ℕ) → begins last (byte_at text i) ≡ false → numbers_after last (drop i text) ≡ numbers_after (byte_at text i) (after text i)
  numbers-pass last e = step last ∙ sym (arm-no (from_here last) (numbers_after (byte_at text i) (after text i)) e)

  pub count-on : (last : ℕ) → length (numbers_after last (drop i text)) ≡ from_bool (begins last (byte_at text i)) + length (numbers_after (byte_at text i) (after text i))
  count-on last =
      ap length (step last)
      ∙ one_more (begins last (byte_at text i)) (number_at last (byte_at text i ∷ after text i)) (numbers_after (byte_at text i) (after text i))

  pub number-here : (last n : ℕ) (d : Number) → n < from_bool (begins last (byte_at text i)) → get_or (numbers_after last (drop i text)) n d ≡ number_at last (drop i text)
  unfolding numbers_after
  number-here last n d e =
      ap (λ (l : List ℕ). get_or (numbers_after last l) n d) from_byte
      ∙ first-cond (begins last (byte_at text i)) (number_at last (byte_at text i ∷ after text i)) (numbers_after (byte_at text i) (after text i)) n d e
      ∙ ap (number_at last) (sym from_byte)

  pub number-on : (last n : ℕ) (d : Number) → from_bool (begins last (byte_at text i)) ≤ n → get_or (numbers_after last (drop i text)) n d ≡ get_or (numbers_after (byte_at text i) (after text i)) (n - from_bool (begins last (byte_at text i))) d
  unfolding numbers_after
  number-on last n d e =
      ap (λ (l : List ℕ). get_or (numbers_after last l) n d) from_byte
      ∙ later-cond (begins last (byte_at text i)) (number_at last (byte_at text i ∷ after text i)) (numbers_after (byte_at text i) (after text i)) n d e

-- ---- at its end

module _ (text : List ℕ) (i : ℕ) (h : length text ≤ i) where
  pub read-end : (m : ℕ) → read m (drop i text) ≡ m
  unfolding read
  read-end m = ap (read m) (drop_of_length-le text h)

  pub none_left : (last : ℕ) → numbers_after last (drop i text) ≡ []
  unfolding numbers_after
  none_left last = ap (numbers_after last) (drop_of_length-le text h)
