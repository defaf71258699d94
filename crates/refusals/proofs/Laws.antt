-- The first row that applies: accepted exactly when none does, and refused by the first that does. Any list of rows.
-- Assumes nothing.
use mathlib.Core.Path.{◌≡◌, refl, sym, ap, subst, ◌∙◌}
use mathlib.Core.Bool.{Bool, true, false, cond, not, ◌&&◌}
use mathlib.Core.List.{List, [], ◌∷◌, ◌++◌}
use mathlib.Core.Logic.{inl, inr, ⊎_elim}
use Prim.Native.Nat.{ℕ}
use Rattle.std.specs.Prelude.{Result, Ok, Err, MatchResult}
use native.Mathlib.Omega.{arith}
use lib.Dec.{T, eqb}
use borrow.Author.Tests.{not-true, eqb-true, eq-eqb, ne_eqb}
use Rattle.refusals.specs.Refusals.{Refusal, Unsound, Kind, Path, Hour, Points, Quantity, Price, Differential, Amount, AlreadyOpen, NotOpen, WrongStage, AboveBid, Suspended, Full, AboveSupport, number_of, Row, row, first, Verdict, verdict_of, refuse, accept, answered, judge, or_else, None, First}

-- no row has the number 0; a test that is computed, whatever the rows say
unfoldable pub numbered : List Row → Bool
numbered [] = true
numbered (r ∷ rs) = not (eqb r.number 0) && numbered rs

-- ---- tests
pub never : {X : Type 0} → false ≡ true → X
never e = absurd (subst T (sym e) tt)

pub and_left : (a b : Bool) → (a && b) ≡ true → a ≡ true
and_left true b h = refl
and_left false b h = never h

pub and_right : (a b : Bool) → (a && b) ≡ true → b ≡ true
and_right true b h = h
and_right false b h = never h

pub and-false : (a b : Bool) → b ≡ false → (a && b) ≡ false
and-false true b h = h
and-false false b h = refl

pub and_none : (a b c : Bool) → b ≡ false → (a && b && c) ≡ false
and_none true b c h = rw h
and_none false b c h = refl

pub and_both : (a b : Bool) → a ≡ true → b ≡ true → (a && b) ≡ true
and_both a b p q = rw (p, q)

not-zero : (n : ℕ) → not (eqb n 0) ≡ true → n ≡ 0 → ⊥
not-zero n h e = never (sym (ap not (eq-eqb n 0 e)) ∙ h)

-- ---- none applies
none-by : (b : Bool) (r : Row) (rs : List Row) → r.applies ≡ b → not (eqb r.number 0) ≡ true → cond b r.number (first rs) ≡ 0 → (first rs ≡ 0 → None rs) → None (r ∷ rs)
unfolding None
none-by true r rs e h z ih = absurd (not-zero r.number h z)
none-by false r rs e h z ih = (e, ih z)

pub none-applies : (rs : List Row) → numbered rs ≡ true → first rs ≡ 0 → None rs
unfolding first None numbered
none-applies [] h z = tt
none-applies (r ∷ rs) h z =
    none-by r.applies r rs refl (and_left (not (eqb r.number 0)) (numbered rs) h) z
    (none-applies rs (and_right (not (eqb r.number 0)) (numbered rs) h))

pub none_first : (rs : List Row) → None rs → first rs ≡ 0
unfolding first None
none_first [] h = refl
none_first (r ∷ rs) h = rw h.0 (none_first rs h.1)

-- ---- the first applies
first_by : (b : Bool) (r : Row) (rs : List Row) → r.applies ≡ b → (cond b r.number (first rs) ≡ 0 → ⊥) → ((first rs ≡ 0 → ⊥) → First (first rs) rs) → First (cond b r.number (first rs)) (r ∷ rs)
unfolding First
first_by true r rs e h ih = inl (e, refl)
first_by false r rs e h ih = inr (e, ih h)

pub first-applies : (rs : List Row) → (first rs ≡ 0 → ⊥) → First (first rs) rs
unfolding first First
first-applies [] h = h refl
first-applies (r ∷ rs) h = first_by r.applies r rs refl h (first-applies rs)

-- and nothing else is the first: a table gives one number
pub first-is : (n : ℕ) (rs : List Row) → First n rs → first rs ≡ n
unfolding first First
first-is n [] h = absurd h
first-is n (r ∷ rs) h = ⊎_elim (λ a. rw a.0 a.1) (λ a. rw a.0 (first-is n rs a.1)) h

-- every refusal has a number
pub numbered-refusal : (e : Refusal) → not (eqb (number_of e) 0) ≡ true
numbered-refusal Unsound = refl
numbered-refusal Kind = refl
numbered-refusal Path = refl
numbered-refusal Hour = refl
numbered-refusal Points = refl
numbered-refusal Quantity = refl
numbered-refusal Price = refl
numbered-refusal Differential = refl
numbered-refusal Amount = refl
numbered-refusal AlreadyOpen = refl
numbered-refusal NotOpen = refl
numbered-refusal WrongStage = refl
numbered-refusal AboveBid = refl
numbered-refusal Suspended = refl
numbered-refusal Full = refl
numbered-refusal AboveSupport = refl

-- and no two have one
abbrev named : ℕ → Refusal
named n =
    cond (eqb n 1) Unsound (cond (eqb n 2) Kind (cond (eqb n 3) Path (cond (eqb n 4) Hour (cond (eqb n 5) Points (cond (eqb n 6) Quantity (cond (eqb n 7) Price (cond (eqb n 8) Differential
    (cond (eqb n 9) Amount (cond (eqb n 10) AlreadyOpen (cond (eqb n 11) NotOpen (cond (eqb n 12) WrongStage (cond (eqb n 13) AboveBid (cond (eqb n 14) Suspended (cond (eqb n 15) Full AboveSupport))))))))))))))

named-number : (e : Refusal) → named (number_of e) ≡ e
named-number Unsound = refl
named-number Kind = refl
named-number Path = refl
named-number Hour = refl
named-number Points = refl
named-number Quantity = refl
named-number Price = refl
named-number Differential = refl
named-number Amount = refl
named-number AlreadyOpen = refl
named-number NotOpen = refl
named-number WrongStage = refl
named-number AboveBid = refl
named-number Suspended = refl
named-number Full = refl
named-number AboveSupport = refl

pub number-one : (e f : Refusal) → number_of e ≡ number_of f → e ≡ f
number-one e f h = sym (named-number e) ∙ ap named h ∙ named-number f

-- ---- tables one below the other
numbered-by : (b : Bool) (r : Row) (xs ys : List Row) → not (eqb r.number 0) ≡ true → first (xs ++ ys) ≡ or_else (first xs) (first ys) → cond b r.number (first (xs ++ ys)) ≡ or_else (cond b r.number (first xs)) (first ys)
unfolding or_else
numbered-by true r xs ys h ih = rw (ne_eqb r.number 0 (not-zero r.number h))
numbered-by false r xs ys h ih = ih

pub first-append : (xs ys : List Row) → numbered xs ≡ true → first (xs ++ ys) ≡ or_else (first xs) (first ys)
unfolding first or_else numbered
first-append [] ys h = refl
first-append (r ∷ xs) ys h =
    numbered-by r.applies r xs ys (and_left (not (eqb r.number 0)) (numbered xs) h) (first-append xs ys (and_right (not (eqb r.number 0)) (numbered xs) h))

pub numbered-append : (xs ys : List Row) → numbered xs ≡ true → numbered ys ≡ true → numbered (xs ++ ys) ≡ true
unfolding numbered
numbered-append [] ys h k = k
numbered-append (r ∷ xs) ys h k =
    and_both (not (eqb r.number 0)) (numbered (xs ++ ys)) (and_left (not (eqb r.number 0)) (numbered xs) h) (numbered-append xs ys (and_right (not (eqb r.number 0)) (numbered xs) h) k)

none_left : (xs ys : List Row) → None (xs ++ ys) → None xs
unfolding None
none_left [] ys h = tt
none_left (r ∷ xs) ys h = (h.0, none_left xs ys h.1)

none_right : (xs ys : List Row) → None (xs ++ ys) → None ys
unfolding None
none_right [] ys h = h
none_right (r ∷ xs) ys h = none_right xs ys h.1

-- none applies in two tables exactly when none does in either
pub none-split : (xs ys : List Row) → None (xs ++ ys) → None xs × None ys
none-split xs ys h = (none_left xs ys h, none_right xs ys h)

pub none-join : (xs ys : List Row) → None xs → None ys → None (xs ++ ys)
unfolding None
none-join [] ys h k = k
none-join (r ∷ xs) ys h k = (h.0, none-join xs ys h.1 k)

-- ---- answers

-- 01, What is promised: any two results that satisfy an entry's statement are equal; x is the statement's right side
pub one_answer : {X : Type 0} (x r s : X) → r ≡ x → s ≡ x → r ≡ s
one_answer x r s p q = p ∙ sym q

module _ {X : Type 0} where
  answered-by : (n : ℕ) (x y : X) (b : Bool) → eqb n 0 ≡ b → ◌≡◌ {A = Verdict X} (cond b (accept x) (refuse n)) (accept y) → (n ≡ 0) × (x ≡ y)
  answered-by n x y true e h = (eqb-true n 0 e, cc)
  answered-by n x y false e h = let z : ◌≡◌ {A = ℕ} 0 1 = cc in absurd (omega arith)

  -- what is accepted was asked for, and its number is 0
  pub answered-accept : (n : ℕ) (x y : X) → answered n x ≡ accept y → (n ≡ 0) × (x ≡ y)
  unfolding answered
  answered-accept n x y h = answered-by n x y (eqb n 0) refl h

  pub answered-none : (x : X) → answered 0 x ≡ accept x
  unfolding answered
  answered-none x = refl

  pub answered-some : (n : ℕ) (x : X) → (n ≡ 0 → ⊥) → answered n x ≡ refuse n
  unfolding answered
  answered-some n x h = rw (ne_eqb n 0 h)

  -- accepted exactly when none of the rows applies
  pub judge-accept : (rs : List Row) (x y : X) → numbered rs ≡ true → judge rs x ≡ accept y → None rs × (x ≡ y)
  unfolding judge
  judge-accept rs x y h e = let a = answered-accept (first rs) x y e in (none-applies rs h a.0, a.1)

  pub judge-none : (rs : List Row) (x : X) → None rs → judge rs x ≡ accept x
  unfolding judge
  judge-none rs x h = rw (none_first rs h) (answered-none x)

-- ---- what the code does: one table after another, each given up at the first refusal

module _ {X : Type 0} where
  is-accept : Verdict X → Bool
  is-accept (accept x) = true
  is-accept (refuse n) = false

  number-in : Verdict X → ℕ
  number-in (accept x) = 0
  number-in (refuse n) = n

module _ {X : Type 0} where
  value-in : X → Verdict X → X
  value-in d (accept x) = x
  value-in d (refuse n) = d

  -- what the code answers is determined by its verdict
  pub verdict-one : (r s : Result X Refusal) → verdict_of r ≡ verdict_of s → r ≡ s
  unfolding is-accept number-in value-in
  verdict-one (Ok x) (Ok y) e = ap Ok (ap (value-in x) e)
  verdict-one (Ok x) (Err f) e = never (sym (ap is-accept e))
  verdict-one (Err f) (Ok y) e = never (ap is-accept e)
  verdict-one (Err f) (Err g) e = ap Err (number-one f g (ap number-in e))

module _ {U X : Type 0} where
  stopped-by : (n m : ℕ) (u : U) (x : X) (below : ℕ) (b : Bool) → eqb m 0 ≡ b → ◌≡◌ {A = Verdict U} (refuse n) (cond b (accept u) (refuse m)) → ◌≡◌ {A = Verdict X} (refuse n) (answered (or_else m below) x)
  unfolding answered or_else is-accept number-in
  stopped-by n m u x below true e h = never (ap is-accept h)
  stopped-by n m u x below false e h = rw (e, e, ap number-in h)

  refused-by : (m n : ℕ) (u : U) (x : X) (b : Bool) → eqb m 0 ≡ b → ◌≡◌ {A = Verdict U} (refuse n) (cond b (accept u) (refuse m)) → ◌≡◌ {A = Verdict X} (refuse n) (answered m x)
  unfolding answered is-accept number-in
  refused-by m n u x true e h = never (ap is-accept h)
  refused-by m n u x false e h = rw (e, ap number-in h)

  -- the upper table's refusal is the whole table's
  pub stopped : (xs ys : List Row) (n : ℕ) (u : U) (x : X) → numbered xs ≡ true → ◌≡◌ {A = Verdict U} (refuse n) (judge xs u) → ◌≡◌ {A = Verdict X} (refuse n) (judge (xs ++ ys) x)
  unfolding judge answered
  stopped xs ys n u x h e = rw (first-append xs ys h) (stopped-by n (first xs) u x (first ys) (eqb (first xs) 0) refl e)

  -- where the upper table is passed the lower decides
  pub passed : (xs ys : List Row) (u v : U) (x : X) → numbered xs ≡ true → ◌≡◌ {A = Verdict U} (accept v) (judge xs u) → judge (xs ++ ys) x ≡ judge ys x
  unfolding judge or_else
  passed xs ys u v x h e =
      let z = (answered-accept (first xs) u v (sym e)).0 in
      ap (λ (n : ℕ). answered n x) (first-append xs ys h ∙ ap (λ (n : ℕ). or_else n (first ys)) z)

  -- ---- the same rows over another value: what a check by itself says of the answer

  pub refused_too : (rs : List Row) (n : ℕ) (u : U) (x : X) → ◌≡◌ {A = Verdict U} (refuse n) (judge rs u) → ◌≡◌ {A = Verdict X} (refuse n) (judge rs x)
  unfolding judge answered
  refused_too rs n u x e = refused-by (first rs) n u x (eqb (first rs) 0) refl e

  pub accepted_too : (rs : List Row) (u v : U) (x : X) → ◌≡◌ {A = Verdict U} (accept v) (judge rs u) → ◌≡◌ {A = Verdict X} (accept x) (judge rs x)
  unfolding judge answered
  accepted_too rs u v x e = rw ((answered-accept (first rs) u v (sym e)).0)

module _ {U : Type 0} where
  number-by : (m n : ℕ) (u : U) (b : Bool) → eqb m 0 ≡ b → ◌≡◌ {A = Verdict U} (refuse n) (cond b (accept u) (refuse m)) → (m ≡ n) × (m ≡ 0 → ⊥)
  unfolding is-accept number-in
  number-by m n u true e h = never (ap is-accept h)
  number-by m n u false e h = (sym (ap number-in h), λ z. never (sym e ∙ eq-eqb m 0 z))

  -- what is given is the first row that applies
  pub first_refused : (rs : List Row) (n : ℕ) (u : U) → ◌≡◌ {A = Verdict U} (refuse n) (judge rs u) → First n rs
  unfolding judge answered
  first_refused rs n u e =
      let m = number-by (first rs) n u (eqb (first rs) 0) refl e in
      subst (λ (k : ℕ). First k rs) m.0 (first-applies rs m.1)

  pub none_applied : (rs : List Row) (u v : U) → numbered rs ≡ true → ◌≡◌ {A = Verdict U} (accept v) (judge rs u) → None rs
  none_applied rs u v h e = (judge-accept rs u v h (sym e)).0

-- ---- a check that the code gives up at, by `?`: it hands the refusal on

module _ {X : Type 0} where
  pub handed_on : (s : Result X Refusal) (e : Refusal) → s ≡ Err e → verdict_of s ≡ refuse (number_of e)
  handed_on s e p = ap (verdict_of {X = X}) p

module _ {X : Type 0} where
  pub row_passed : (n : ℕ) (t : Bool) (rest : List Row) (x : X) → t ≡ false → judge (row n t ∷ rest) x ≡ judge rest x
  unfolding judge first
  row_passed n t rest x h = rw h

-- `refuse_if` is a table of one row
pub row_answered : (r : Result (Unit {0}) Refusal) (e : Refusal) (t : Bool) → MatchResult r (λ _. t ≡ false) (λ f. (t ≡ true) × (f ≡ e)) → verdict_of r ≡ judge (row (number_of e) t ∷ []) (tt {0})
unfolding judge answered first
row_answered (Ok u) e t h = rw h
row_answered (Err f) e t h = rw (h.0, h.1, not-true _ (numbered-refusal e))

-- the last row, of an answer that is more than a test
module _ {X : Type 0} where
  pub row_refused : (e : Refusal) (f : Refusal) (t : Bool) (x : X) → (t ≡ true) × (f ≡ e) → ◌≡◌ {A = Verdict X} (refuse (number_of f)) (judge (row (number_of e) t ∷ []) x)
  unfolding judge answered first
  row_refused e f t x h = rw (h.0, h.1, not-true _ (numbered-refusal e))

  pub row_accepted : (n : ℕ) (t : Bool) (x : X) → t ≡ false → ◌≡◌ {A = Verdict X} (accept x) (judge (row n t ∷ []) x)
  unfolding judge answered first
  row_accepted n t x h = rw h
