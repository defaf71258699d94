-- How a close ends, by what the first walk saw: the code's test is row 11, and what is made is the outcome.
-- Assumes nothing.
use mathlib.Core.Path.{◌≡◌, refl, sym, ap, ◌∙◌}
use mathlib.Core.Bool.{Bool, true, false, not, ◌&&◌}
use mathlib.Core.List.{List, map}
use Prim.Native.Nat.{ℕ}
use borrow.Author.Tests.{not-true, not-false}
use lib.Dec.{eqb, ltb}
use lib.IntN.{ℤ, ◌+ℤ◌}
use lib.ListN.{length}
use lib.Signed.{lt_z}
use Rattle.refusals.specs.declared.Answer.TheVariants.{Accepted, Refused, Removed}
use Rattle.refusals.proofs.Laws.{never}
use Rattle.closings.specs.Closings.{each_once}
use Rattle.records.specs.declared.types.Record.{Record}
use Rattle.credit.specs.declared.types.Account.{Account}
use Rattle.credit.specs.Account.{totalled}
use Rattle.batches.specs.Batches.{pending_paths, unmatched, batch_cents, exceeds, batched}
use Rattle.batches.specs.Closing.{Batch, seen, refused_by, settled_by, closed_by}
use Rattle.batches.proofs.Exact.{exact}

-- ---- row 11
module _ (hour : ℕ) (paths : List ℕ) (prices : List ℤ) (rs : List Record) (once : each_once (pending_paths hour rs) ≡ true) (listed : each_once paths ≡ true) (s : Batch) (e : s ≡ seen hour paths prices rs) where
  abbrev test : Bool
  test = s.listed && ltb 0 s.count && eqb s.count (length paths)

  test-is : test ≡ not (unmatched hour paths rs)
  unfolding unmatched
  test-is = (λ i. (e i).listed && ltb 0 (e i).count && eqb (e i).count (length paths)) ∙ exact (pending_paths hour rs) paths once listed

  pub matched : not test ≡ false → unmatched hour paths rs ≡ false
  matched t = not-true (unmatched hour paths rs) (sym test-is ∙ not-false test t)

  pub refused : (account : Account) {n : ℕ} {held owed : ℤ} → not test ≡ true → n ≡ 11 → held ≡ account.held → owed ≡ account.owed
      → record { records = rs; account = account; answer = Refused n held owed } ≡ closed_by account hour paths prices rs
  unfolding closed_by refused_by
  refused account t number h o =
      let row = not-false (unmatched hour paths rs) (sym test-is ∙ not-true test t) in
      rw row (λ i. record { records = rs; account = account; answer = Refused (number i) (h i) (o i) })

-- ---- the two ends
module _ (account : Account) (hour : ℕ) (paths : List ℕ) (prices : List ℤ) (rs : List Record) where
  settled-much : (much : Bool) → much ≡ true
      → record { records = map (batched much hour paths prices) rs; account = account; answer = Removed account.held account.owed } ≡ settled_by much account hour paths prices rs
  unfolding settled_by
  settled-much true t = refl
  settled-much false t = never t

  settled-else : (z : ℤ) → z ≡ batch_cents hour paths prices rs → (much : Bool) → much ≡ false
      → record { records = map (batched much hour paths prices) rs; account = totalled account (account.held +ℤ z) account.owed; answer = Accepted z (account.held +ℤ z) account.owed }
      ≡ settled_by much account hour paths prices rs
  unfolding settled_by
  settled-else z e true t = never (sym t)
  settled-else z e false t =
      λ i. record {
        records = map (batched false hour paths prices) rs;
        account = totalled account (account.held +ℤ e i) account.owed;
        answer = Accepted (e i) (account.held +ℤ e i) account.owed;
      }

-- ---- 'if held with the batch exceeds support'
module _ (account : Account) (hour : ℕ) (paths : List ℕ) (prices : List ℤ) (rs : List Record) (all : unmatched hour paths rs ≡ false) where
  ends : (much : Bool) → much ≡ exceeds account.support account.held (batch_cents hour paths prices rs) → settled_by much account hour paths prices rs ≡ closed_by account hour paths prices rs
  unfolding closed_by
  ends much m = rw (all, m) refl

  module _ (z : ℤ) (e : z ≡ batch_cents hour paths prices rs) (much : Bool) (m : much ≡ lt_z account.support (account.held +ℤ z)) where
    exceeds-is : much ≡ exceeds account.support account.held (batch_cents hour paths prices rs)
    exceeds-is = m ∙ ap (λ (x : ℤ). lt_z account.support (account.held +ℤ x)) e

    -- 'every one is removed'
    pub removed : {made : List Record} {held owed : ℤ} → much ≡ true → made ≡ map (batched much hour paths prices) rs → held ≡ account.held → owed ≡ account.owed
        → record { records = made; account = account; answer = Removed held owed } ≡ closed_by account hour paths prices rs
    removed t places h o =
        (λ i. record { records = places i; account = account; answer = Removed (h i) (o i) }) ∙ settled-much account hour paths prices rs much t ∙ ends much exceeds-is

    -- 'It moves them to stage 2'
    pub moved : {made : List Record} {support cents held owed : ℤ} → much ≡ false → made ≡ map (batched much hour paths prices) rs → support ≡ account.support → cents ≡ z
        → held ≡ account.held +ℤ z → owed ≡ account.owed
        → record { records = made; account = record { support = support; held = held; owed = owed }; answer = Accepted cents held owed } ≡ closed_by account hour paths prices rs
    moved t places s c h o =
        (λ i. record { records = places i; account = record { support = s i; held = h i; owed = o i }; answer = Accepted (c i) (h i) (o i) })
        ∙ settled-else account hour paths prices rs z e much t
        ∙ ends much exceeds-is
