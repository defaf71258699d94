-- When numbers stand apart; and that a walk along a bucket's chain passes over no equal number. Any list.
-- Assumes nothing.
use mathlib.Core.Path.{◌≡◌, refl, sym, ap, subst, ◌∙◌}
use mathlib.Core.Bool.{Bool, true, false, not, ◌||◌}
use mathlib.Core.List.{List, [], ◌∷◌, map}
use mathlib.Core.Logic.{◌⊎◌, inl, inr, ⊎_elim}
use Prim.Native.Nat.{ℕ, zero, suc, ◌+◌, ◌-◌, ◌≤◌, ◌<◌}
use native.Mathlib.Omega.{arith}
use lib.Dec.{T, eqb, ltb}
use lib.ListN.{length, get_or, get_or-map, set, replicate, length-set}
use Rattle.std.proofs.Common.{Option, None, Some}
use Rattle.std.proofs.lemmas.Bool.{or_right, and_right}
use lib.Seq.{get_or-set_same, get_or-set_other}
use borrow.Author.Count.{below_none, below_more}
use borrow.Author.Tests.{ltb-true, ltb-false, eqb-true, eqb-false, eq-eqb, ne_eqb}
use Rattle.distinct.specs.Numbers.{stands_in, all_distinct}
use Rattle.distinct.specs.Chain.{bucket_of, counted, Latest, Linked, Unmet}

-- ---- tests
pub never : {X : Type 0} → true ≡ false → X
never e = absurd (subst T e tt)

decide : (b : Bool) → (b ≡ true) ⊎ (b ≡ false)
decide true = inl refl
decide false = inr refl

same : (m n : ℕ) → (m ≡ n) ⊎ (m ≡ n → ⊥)
same m n = ⊎_elim (λ e. inl (eqb-true m n e)) (λ e. inr (eqb-false m n e)) (decide (eqb m n))

split : (m n : ℕ) → (m < n) ⊎ (n ≤ m)
split m n = ⊎_elim (λ e. inl (ltb-true m n e)) (λ e. inr (ltb-false m n e)) (decide (ltb m n))

positive : (n : ℕ) → (n ≡ 0 → ⊥) → 0 < n
positive zero h = absurd (h refl)
positive (suc n) h = omega arith

-- ---- a number in a list
stands_at : (c : ℕ) (xs : List ℕ) (k : ℕ) → 0 < c → c ≡ get_or xs k 0 → stands_in c xs ≡ true
unfolding stands_in
stands_at c [] k p e = absurd (omega arith)
stands_at c (x ∷ xs) zero p e = rw (eq-eqb c x e)
stands_at c (x ∷ xs) (suc k) p e = or_right (eqb c x) (stands_in c xs) (stands_at c xs k p e)

stands-nowhere : (c : ℕ) (xs : List ℕ) → ((k : ℕ) → k < length xs → c ≡ get_or xs k 0 → ⊥) → stands_in c xs ≡ false
unfolding stands_in
stands-nowhere c [] h = refl
stands-nowhere c (x ∷ xs) h =
    rw (ne_eqb c x (h zero (omega arith)), stands-nowhere c xs (λ k l e. h (suc k) (omega arith) e))

-- ---- numbers apart
pub apart-false : (xs : List ℕ) (j k : ℕ) → j < k → 0 < get_or xs k 0 → get_or xs j 0 ≡ get_or xs k 0 → all_distinct xs ≡ false
unfolding all_distinct
apart-false [] j k l p e = absurd (omega arith)
apart-false (x ∷ xs) j zero l p e = absurd (omega arith)
apart-false (x ∷ xs) zero (suc k) l p e = rw (ne_eqb x 0 (λ z. omega arith), stands_at x xs k (omega arith) e)
apart-false (x ∷ xs) (suc j) (suc k) l p e =
    and_right (eqb x 0 || not (stands_in x xs)) (all_distinct xs) (apart-false xs j k (omega arith) p e)

first-apart : (x : ℕ) (xs : List ℕ) → ((k : ℕ) → k < length xs → 0 < get_or xs k 0 → x ≡ get_or xs k 0 → ⊥) → (eqb x 0 || not (stands_in x xs)) ≡ true
first-apart x xs h =
    ⊎_elim
    (λ z. rw z)
    (λ z.
    or_right
    (eqb x 0)
    (not (stands_in x xs))
    (rw (stands-nowhere x xs (λ k l e. h k l (rw e at (positive x (eqb-false x 0 z))) e))))
    (decide (eqb x 0))

pub apart-true : (xs : List ℕ) → ((k : ℕ) → k < length xs → 0 < get_or xs k 0 → Unmet xs k) → all_distinct xs ≡ true
unfolding all_distinct
apart-true [] h = refl
apart-true (x ∷ xs) h =
    rw (
      first-apart x xs (λ k l p e. h (suc k) (omega arith) p zero (omega arith) e),
      apart-true xs (λ k l p j m e. h (suc k) (omega arith) p (suc j) (omega arith) e),
    )

-- ---- the last of a bucket
module _ (codes : List ℕ) where
  abbrev code : ℕ → ℕ
  code k = get_or codes k 0

  none : (bucket at : ℕ) → at ≡ 0 → Latest codes bucket 0 at
  none bucket at z =
      record {
        before = omega arith;
        holds = λ p. absurd (omega arith);
        falls = λ p. absurd (omega arith);
        last = λ k l m e. absurd (omega arith);
      }

  back : (n : ℕ) → code (n + 1 - 1) ≡ code n
  back n = ap code (omega arith)

  here : (n : ℕ) → 0 < code n → Latest codes (bucket_of (code n)) (n + 1) (n + 1)
  here n p =
      record {
        before = omega arith;
        holds = λ q. rw (back n) p;
        falls = λ q. rw (back n);
        last = λ k l m e. absurd (omega arith);
      }

  passing : (bucket n at : ℕ) → (bucket_of (code n) ≡ bucket → code n ≡ 0) → Latest codes bucket n at → Latest codes bucket (n + 1) at
  passing bucket n at h l =
      record {
        before = omega arith;
        holds = l.holds;
        falls = l.falls;
        last = below_more _ n l.last (λ a. h);
      }

-- ---- the walk from the place n
-- At is a place of n's bucket, counted from 1, or 0; and from there up to n no number is n's.
pub record Walked (codes : List ℕ) (n at : ℕ) : Type 0 where
  pub before : at ≤ n
  pub holds : 0 < at → 0 < get_or codes (at - 1) 0
  pub falls : 0 < at → bucket_of (get_or codes (at - 1) 0) ≡ bucket_of (get_or codes n 0)
  pub unmet : (k : ℕ) → k < n → at ≤ k → get_or codes k 0 ≡ get_or codes n 0 → ⊥

module _ (codes : List ℕ) (n : ℕ) (held : 0 < get_or codes n 0) where
  passed : (m at k : ℕ) → Latest codes (bucket_of (get_or codes n 0)) m at → k < m → at ≤ k → get_or codes k 0 ≡ get_or codes n 0 → ⊥
  passed m at k l b a e = omega (arith, l.last k b a (ap bucket_of e))

  pub walk-starts : (at : ℕ) → Latest codes (bucket_of (get_or codes n 0)) n at → Walked codes n at
  walk-starts at l =
      record { before = l.before; holds = l.holds; falls = l.falls; unmet = λ k. passed n at k l }

  pub walk-goes : (at next : ℕ) → 0 < at → Walked codes n at → (get_or codes (at - 1) 0 ≡ get_or codes n 0 → ⊥) → Latest codes (bucket_of (get_or codes (at - 1) 0)) (at - 1) next → Walked codes n next
  walk-goes at next p w other link =
      let l : Latest codes (bucket_of (get_or codes n 0)) (at - 1) next = rw (w.falls p) at link in
      record {
        before = omega (arith, l.before, w.before);
        holds = l.holds;
        falls = l.falls;
        unmet = λ k b a e.
            ⊎_elim
            (λ (i : k ≡ at - 1). other (rw i at e))
            (λ i.
            ⊎_elim
            (λ (m : k < at - 1). passed (at - 1) next k l m a e)
            (λ (m : at - 1 ≤ k). w.unmet k b (omega arith) e)
            (split k (at - 1)))
            (same k (at - 1));
      }

  -- at a place of the chain: it holds n's number, or the walk goes on from its link
  module _ (at : Option ℕ) (earlier : ℕ) (is : at ≡ Some earlier) (arrived : Walked codes n (counted at)) where
    walked : Walked codes n (earlier + 1)
    walked = rw is at arrived

    one-back : earlier + 1 - 1 ≡ earlier
    one-back = omega arith

    pub walk_meets : get_or codes earlier 0 ≡ get_or codes n 0 → all_distinct codes ≡ false
    walk_meets e = apart-false codes earlier n (omega (arith, walked.before)) held e

    pub walk_goes : (links : List (Option ℕ)) → Linked codes (map counted links) n → (get_or codes earlier 0 ≡ get_or codes n 0 → ⊥) → Walked codes n (counted (get_or links earlier None))
    walk_goes links linked other =
        let w = walked in
        let holds : 0 < get_or codes earlier 0 = rw one-back at (w.holds (omega arith)) in
        let falls : bucket_of (get_or codes earlier 0) ≡ bucket_of (get_or codes n 0) = rw one-back at (w.falls (omega arith)) in
        let link = rw (get_or-map counted links earlier None) at (linked earlier (omega (arith, w.before)) holds) in
        let l : Latest codes (bucket_of (get_or codes n 0)) earlier (counted (get_or links earlier None)) = rw falls at link in
        record {
          before = omega (arith, l.before, w.before);
          holds = l.holds;
          falls = l.falls;
          unmet = λ k b a e.
              ⊎_elim
              (λ (i : k ≡ earlier). other (rw i at e))
              (λ i.
              ⊎_elim
              (λ (m : k < earlier). passed earlier _ k l m a e)
              (λ (m : earlier ≤ k). w.unmet k b (omega arith) e)
              (split k earlier))
              (same k earlier);
        }

-- ---- the chains of the first n places
pub record Chained (codes : List ℕ) (latest links : List (Option ℕ)) (n : ℕ) : Type 0 where
  pub buckets : length latest ≡ 256
  pub places : length links ≡ 256
  pub ends : (bucket : ℕ) → Latest codes bucket n (counted (get_or latest bucket None))
  pub linked : Linked codes (map counted links) n
  pub unmet : (k : ℕ) → k < n → 0 < get_or codes k 0 → Unmet codes k

nones : (n k : ℕ) → counted (get_or (replicate n None) k None) ≡ 0
nones zero k = refl
nones (suc n) zero = refl
nones (suc n) (suc k) = nones n k

module _ (codes : List ℕ) where
  pub chains_start : Chained codes (replicate 256 None) (replicate 256 None) 0
  chains_start =
      record {
        buckets = refl;
        places = refl;
        ends = λ b. none codes b _ (nones 256 b);
        linked = below_none _;
        unmet = below_none _;
      }

  pub chains-start : Chained codes (replicate 256 None) (replicate 256 None) 0
  chains-start = chains_start

  module _ (latest links : List (Option ℕ)) (n : ℕ) (c : Chained codes latest links n) where
    pub chains_pass : get_or codes n 0 ≡ 0 → Chained codes latest links (n + 1)
    chains_pass z =
        record {
          buckets = c.buckets;
          places = c.places;
          ends = λ b. passing codes b n _ (λ e. z) (c.ends b);
          linked = below_more _ n c.linked (λ p. absurd (omega arith));
          unmet = below_more _ n c.unmet (λ p. absurd (omega arith));
        }

    pub chain_ends : (bucket : ℕ) → bucket ≡ bucket_of (get_or codes n 0) → Latest codes (bucket_of (get_or codes n 0)) n (counted (get_or latest bucket None))
    chain_ends bucket b = rw (← b) (c.ends bucket)

    link_at : (last : Option ℕ) (k : ℕ) → get_or (map counted (set links n last)) k 0 ≡ counted (get_or (set links n last) k None)
    link_at last k = get_or-map counted (set links n last) k None

    pub chains_grow : (bucket : ℕ) → n < 256 → bucket ≡ bucket_of (get_or codes n 0) → 0 < get_or codes n 0 → Unmet codes n → Chained codes (set latest bucket (Some n)) (set links n (get_or latest bucket None)) (n + 1)
    chains_grow bucket m b p u =
        let last = get_or latest bucket None in
        record {
          buckets = length-set latest bucket (Some n) ∙ c.buckets;
          places = length-set links n last ∙ c.places;
          ends = λ h.
              ⊎_elim
              (λ (e : h ≡ bucket).
              rw (e, get_or-set_same latest bucket (Some n) None (omega (arith, c.buckets)), b) (here codes n p))
              (λ e.
              rw
              (get_or-set_other latest bucket h (Some n) None e)
              (passing codes h n _ (λ f. absurd (e (sym f ∙ sym b))) (c.ends h)))
              (same h bucket);
          linked = below_more _ n
              (λ k l q.
              rw
              (link_at last k, get_or-set_other links n k last None (λ e. omega arith), ← get_or-map counted links k None)
              (c.linked k l q))
              (λ q. rw (link_at last n, get_or-set_same links n last None (omega (arith, c.places)), ← b) (c.ends bucket));
          unmet = below_more _ n c.unmet (λ q. u);
        }

    pub chains-pass : get_or codes n 0 ≡ 0 → Chained codes latest links (n + 1)
    chains-pass z = chains_pass z

    pub chains-grow : (bucket : ℕ) → n < 256 → bucket ≡ bucket_of (get_or codes n 0) → 0 < get_or codes n 0 → Unmet codes n → Chained codes (set latest bucket (Some n)) (set links n (get_or latest bucket None)) (n + 1)
    chains-grow bucket m b p u = chains_grow bucket m b p u

    pub all_met : 256 ≤ n → length codes ≡ 256 → true ≡ all_distinct codes
    all_met m e = sym (apart-true codes (λ k l. c.unmet k (omega arith)))
