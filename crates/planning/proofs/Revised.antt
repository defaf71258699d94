-- A revision leaves its own record in the place of the key's, at the stage of a bid, and nothing else; so the second finds the first's in place of the record that was, and asks for the same. Credit: where the second raises the
-- first, what is held afterwards is the same either way; where it does not, the first was no lower, and passed.
-- Assumes nothing.
use mathlib.Core.Path.{◌≡◌, refl, sym, ap, ◌∙◌, subst}
use mathlib.Core.Bool.{Bool, true, false, ◌&&◌}
use mathlib.Core.List.{List, [], ◌∷◌}
use mathlib.Core.Option.{Option, some}
use Prim.Native.Nat.{ℕ}
use native.Mathlib.Omega.{arith}
use lib.Dec.{eqb}
use lib.IntN.{ℤ, ◌+ℤ◌, ◌-ℤ◌}
use lib.Signed.{lt_z}
use borrow.Author.Tests.{eqb-true, eqb-false}
use Rattle.amounts.proofs.Signed.{signed, tested, sum_of, difference-of}
use Rattle.refusals.specs.Refusals.{None}
use Rattle.refusals.specs.declared.Answer.TheVariants.{Accepted}
use Rattle.refusals.proofs.Laws.{never, and_left, and_right}
use Rattle.keys.specs.declared.Key.{Key}
use Rattle.records.specs.declared.types.Record.{Record}
use Rattle.records.specs.Records.{blank, is_free, at}
use Rattle.records.proofs.Places.{at_own}
use Rattle.messages.specs.declared.types.Message.{Message}
use Rattle.messages.specs.declared.types.Message.TheVariants.{Open, Revise, Withdraw, Post, Finish, Bill, Pay, Support, OpenCurves, ReviseCurves, Close, OpenSides, ReviseSides, PostSides}
use Rattle.messages.specs.declared.types.Change.TheVariants.{Rebid}
use Rattle.messages.specs.declared.types.Deed.{Deed}
use Rattle.messages.specs.declared.types.Deed.TheVariants.{Keyed}
use Rattle.messages.specs.Plan.{key_of, deed_for, stage_rows, plan_rows}
use Rattle.messages.proofs.Fits.{Fits, Redone}
use Rattle.credit.specs.Credit.{credit_rows}
use Rattle.book.specs.declared.types.Book.{Book}
use Rattle.book.specs.Places.{find, swap, or_else_blank}
use Rattle.book.specs.Books.{lookup, held, owed, totals}
use Rattle.book.specs.Step.{deed_of, change, rebook, done, answer_to, step}
use Rattle.book.proofs.Verdicts.{book_rows}
use Rattle.book.proofs.Effect.{Effect, weight}
use Rattle.book.proofs.Kept.{kept-held, lookup-some, effect}
use Rattle.demands.specs.Runs.{Sent, sent_to, after, next_book, replied}
use Rattle.demands.proofs.Answers.{unchanged}
use Rattle.demands.proofs.Accepted.{Taken, taken, fitting}
use Rattle.demands.proofs.Deal.{takes}
use Rattle.planning.specs.Revised.{revises, Revision, number_of, BackToBack, SecondAlone, OverAndOver, LastAlone}
use Rattle.planning.proofs.Places.{swap-twice}

-- what each revision has in common: of the record that was it sees whether it stands, its stage and its requirement
record Redoes (m : Message) (ms : List ℕ) (ps : List ℤ) : Type 0 where
  new : Record
  asks : (old : Record) → deed_for old m ms ps ≡ Keyed (Rebid old.requirement new)
  rows : (old was : Record) → is_free old ≡ is_free was → old.stage ≡ was.stage → plan_rows old m ms ps ≡ plan_rows was m ms ps

redoes : (m : Message) (ms : List ℕ) (ps : List ℤ) → revises m ≡ true → Redoes m ms ps
unfolding stage_rows
redoes (Open o) ms ps h = never h
redoes (Revise o) ms ps h = record { new = _; asks = λ old. refl; rows = λ old was e s. rw (e, s) }
redoes (Withdraw k) ms ps h = never h
redoes (Post p) ms ps h = never h
redoes (Finish f) ms ps h = never h
redoes (Bill x) ms ps h = never h
redoes (Pay k) ms ps h = never h
redoes (Support s) ms ps h = never h
redoes (OpenCurves c) ms ps h = never h
redoes (ReviseCurves c) ms ps h = record { new = _; asks = λ old. refl; rows = λ old was e s. rw (e, s) }
redoes (Close c) ms ps h = never h
redoes (OpenSides s) ms ps h = never h
redoes (ReviseSides s) ms ps h = record { new = _; asks = λ old. refl; rows = λ old was e s. rw (e, s) }
redoes (PostSides p) ms ps h = never h

-- row 16 of the second alone: s is the support, h and r held and the requirement that were, h₁ and r₁ those after the first
module _ (s h h₁ r r₁ r₂ : ℤ) (first : (lt_z r r₁ && lt_z s (h -ℤ r +ℤ r₁)) ≡ false) (second : (lt_z r₁ r₂ && lt_z s (h₁ -ℤ r₁ +ℤ r₂)) ≡ false) (moved : h₁ +ℤ r ≡ h +ℤ r₁) where
  -- where the second raises the first, held afterwards is the same
  raised : lt_z s (h -ℤ r +ℤ r₂) ≡ true → lt_z r₁ r₂ ≡ true → ⊥
  raised over up =
      let fits : lt_z s (h₁ -ℤ r₁ +ℤ r₂) ≡ false = subst (λ (t : Bool). (t && lt_z s (h₁ -ℤ r₁ +ℤ r₂)) ≡ false) up second in
      omega (arith, signed, difference-of h r, sum_of (h -ℤ r) r₂, difference-of h₁ r₁, sum_of (h₁ -ℤ r₁) r₂, sum_of h₁ r, sum_of h r₁)

  -- where it does not, the first asked for no less, and passed
  lowered : lt_z r r₂ ≡ true → lt_z s (h -ℤ r +ℤ r₂) ≡ true → lt_z r₁ r₂ ≡ false → ⊥
  lowered rises over down =
      let rose : lt_z r r₁ ≡ true = tested (lt_z r r₁) (λ e. e) (λ e. absurd (omega (arith, signed))) in
      let fits : lt_z s (h -ℤ r +ℤ r₁) ≡ false = subst (λ (t : Bool). (t && lt_z s (h -ℤ r +ℤ r₁)) ≡ false) rose first in
      omega (arith, signed, difference-of h r, sum_of (h -ℤ r) r₂, sum_of (h -ℤ r) r₁)

  alone : (lt_z r r₂ && lt_z s (h -ℤ r +ℤ r₂)) ≡ false
  alone =
      tested (lt_z r r₂ && lt_z s (h -ℤ r +ℤ r₂))
      (λ e.
      let rises = and_left (lt_z r r₂) (lt_z s (h -ℤ r +ℤ r₂)) e in
      let over = and_right (lt_z r r₂) (lt_z s (h -ℤ r +ℤ r₂)) e in
      absurd (tested (lt_z r₁ r₂) (raised over) (lowered rises over)))
      (λ e. e)

-- ---- two accepted revisions of one key: m₁, then m₂
module _ (b : Book) (m₁ m₂ : Message) (ms₁ ms₂ : List ℕ) (ps₁ ps₂ : List ℤ) (one : revises m₁ ≡ true) (other : revises m₂ ≡ true) (own : key_of m₂ ≡ key_of m₁)
    (ok₁ : (replied b m₁ ms₁ ps₁).number ≡ 0) (ok₂ : (replied (next_book b m₁ ms₁ ps₁) m₂ ms₂ ps₂).number ≡ 0) where
  abbrev k₁ : Key
  k₁ = key_of m₁

  abbrev k₂ : Key
  k₂ = key_of m₂

  is₁ : Redoes m₁ ms₁ ps₁
  is₁ = redoes m₁ ms₁ ps₁ one

  is₂ : Redoes m₂ ms₂ ps₂
  is₂ = redoes m₂ ms₂ ps₂ other

  -- the record that was, and those that the two leave
  abbrev old : Record
  old = lookup b k₁

  abbrev new₁ : Record
  new₁ = is₁.new

  abbrev new₂ : Record
  new₂ = is₂.new

  -- ---- the first
  t₁ : Taken b m₁ ms₁ ps₁
  t₁ = taken b m₁ ms₁ ps₁ ok₁

  asked₁ : deed_of b m₁ ms₁ ps₁ ≡ Keyed (Rebid old.requirement new₁)
  unfolding deed_of
  asked₁ = is₁.asks old

  fits₁ : Redone old m₁ old.requirement new₁
  fits₁ = subst (Fits old m₁) asked₁ (fitting b m₁ ms₁ ps₁ t₁)

  weighed₁ : None (credit_rows (totals b) (Keyed (Rebid old.requirement new₁)))
  weighed₁ = subst (λ (d : Deed). None (book_rows b ms₁ d)) asked₁ t₁.weighed

  abbrev places₁ : List Record
  places₁ = swap (at new₁.key) new₁ b.records

  abbrev b₁ : Book
  b₁ = rebook b b.account places₁

  next₁ : next_book b m₁ ms₁ ps₁ ≡ b₁
  unfolding done change
  next₁ = t₁.next ∙ ap (done b ms₁ ps₁) asked₁

  effect₁ : Effect k₁ b.records places₁ (some new₁)
  unfolding change
  effect₁ = effect b m₁ (Rebid old.requirement new₁) t₁.sane fits₁ weighed₁

  found₁ : lookup b₁ k₂ ≡ new₁
  unfolding lookup or_else_blank
  found₁ = ap (λ (k : Key). or_else_blank blank (find (at k) places₁)) own ∙ ap (or_else_blank blank) effect₁.here

  -- ---- the second, after it
  t₂ : Taken b₁ m₂ ms₂ ps₂
  t₂ = taken b₁ m₂ ms₂ ps₂ (subst (λ (x : Book). (replied x m₂ ms₂ ps₂).number ≡ 0) next₁ ok₂)

  asked₂ : (x : Book) → deed_of x m₂ ms₂ ps₂ ≡ Keyed (Rebid (lookup x k₂).requirement new₂)
  unfolding deed_of
  asked₂ x = is₂.asks (lookup x k₂)

  weighed₂ : None (credit_rows (totals b₁) (Keyed (Rebid new₁.requirement new₂)))
  weighed₂ =
      subst (λ (r : Record). None (credit_rows (totals b₁) (Keyed (Rebid r.requirement new₂)))) found₁
      (subst (λ (d : Deed). None (book_rows b₁ ms₂ d)) (asked₂ b₁) t₂.weighed)

  -- ---- the second alone
  same_old : lookup b k₂ ≡ old
  same_old = ap (λ (k : Key). lookup b k) own

  planned : None (plan_rows (lookup b k₂) m₂ ms₂ ps₂)
  planned =
      subst None
      (is₂.rows (lookup b₁ k₂) (lookup b k₂) (ap is_free found₁ ∙ fits₁.fine.used ∙ sym (ap is_free same_old ∙ fits₁.used))
      (ap (λ (r : Record). r.stage) found₁ ∙ fits₁.bid ∙ sym (ap (λ (r : Record). r.stage) same_old ∙ fits₁.stage)))
      t₂.planned

  moved : b₁.account.held +ℤ old.requirement ≡ b.account.held +ℤ new₁.requirement
  unfolding held
  moved =
      ap (λ (o : Option Record). b₁.account.held +ℤ weight (λ r. r.requirement) o) (sym (lookup-some b k₁ fits₁.used))
      ∙ effect₁.sums (λ r. r.requirement) refl
      ∙ ap (λ (z : ℤ). z +ℤ new₁.requirement) (sym (kept-held b t₁.sane))

  weighed : None (credit_rows (totals b) (Keyed (Rebid old.requirement new₂)))
  unfolding None totals
  weighed =
      (weighed₁.0, (alone b.account.support b.account.held b₁.account.held old.requirement new₁.requirement new₂.requirement weighed₁.1.0 weighed₂.1.0 moved, tt))

  asked : deed_of b m₂ ms₂ ps₂ ≡ Keyed (Rebid old.requirement new₂)
  asked = asked₂ b ∙ ap (λ (r : Record). Keyed (Rebid r.requirement new₂)) same_old

  pub also-accepted : (replied b m₂ ms₂ ps₂).number ≡ 0
  also-accepted = takes b m₂ ms₂ ps₂ t₁.sane planned (subst (λ (d : Deed). None (book_rows b ms₂ d)) (sym asked) weighed)

  t : Taken b m₂ ms₂ ps₂
  t = taken b m₂ ms₂ ps₂ also-accepted

  fits : Redone old m₂ old.requirement new₂
  fits =
      subst (λ (r : Record). Fits r m₂ (Keyed (Rebid old.requirement new₂))) same_old (subst (Fits (lookup b k₂) m₂) asked (fitting b m₂ ms₂ ps₂ t))

  -- ---- both leave the same book, and answer the same
  one_key : new₁.key ≡ new₂.key
  one_key = fits₁.fine.own ∙ sym own ∙ sym fits.fine.own

  twice : swap (at new₂.key) new₂ places₁ ≡ swap (at new₂.key) new₂ b.records
  twice =
      ap (λ (k : Key). swap (at new₂.key) new₂ (swap (at k) new₁ b.records)) one_key
      ∙ swap-twice (at new₂.key) new₁ new₂ b.records (at_own new₂.key new₁ one_key fits₁.fine.used)

  same-book : (step b₁ m₂ ms₂ ps₂).book ≡ (step b m₂ ms₂ ps₂).book
  unfolding done change
  same-book =
      t₂.next ∙ ap (done b₁ ms₂ ps₂) (asked₂ b₁) ∙ ap (λ (xs : List Record). rebook b b.account xs) twice ∙ sym (t.next ∙ ap (done b ms₂ ps₂) asked)

  answered : (x : Book) → Taken x m₂ ms₂ ps₂ → (step x m₂ ms₂ ps₂).answer ≡ Accepted new₂.requirement (held (step x m₂ ms₂ ps₂).book) (owed (step x m₂ ms₂ ps₂).book)
  unfolding answer_to
  answered x u = u.answer ∙ ap (λ (d : Deed). answer_to x ms₂ ps₂ d (held (step x m₂ ms₂ ps₂).book) (owed (step x m₂ ms₂ ps₂).book)) (asked₂ x)

  same_answer : (step b₁ m₂ ms₂ ps₂).answer ≡ (step b m₂ ms₂ ps₂).answer
  same_answer = answered b₁ t₂ ∙ ap (λ (x : Book). Accepted new₂.requirement (held x) (owed x)) same-book ∙ sym (answered b t)

  pub also-same : step (next_book b m₁ ms₁ ps₁) m₂ ms₂ ps₂ ≡ step b m₂ ms₂ ps₂
  also-same = ap (λ (x : Book). step x m₂ ms₂ ps₂) next₁ ∙ (λ i. record { book = same-book i; answer = same_answer i })

module _ (b : Book) (k : Key) (x y : Sent) where
  -- the law without its premises
  record Alone : Type 0 where
    accepted : number_of b y ≡ 0
    same : sent_to (sent_to b x).book y ≡ sent_to b y

  two : BackToBack b k x y → Alone
  two h =
      let own = h.second_revises.own ∙ sym h.first_revises.own in
      record {
        accepted = also-accepted b x.message y.message x.mwhs y.mwhs x.prices y.prices h.first_revises.revises h.second_revises.revises own h.first_accepted h.second_accepted;
        same = also-same b x.message y.message x.mwhs y.mwhs x.prices y.prices h.first_revises.revises h.second_revises.revises own h.first_accepted h.second_accepted;
      }

  -- a revision that was refused left the book as it was
  one_more : Revision k x → Revision k y → number_of (sent_to b x).book y ≡ 0 → Alone
  one_more f g h =
      tested (eqb (number_of b x) 0)
      (λ e. two (record { first_revises = f; second_revises = g; first_accepted = eqb-true (number_of b x) 0 e; second_accepted = h }))
      (λ e.
      let as_it_was : (sent_to b x).book ≡ b = (unchanged b x.message x.mwhs x.prices (eqb-false (number_of b x) 0 e)).book in
      record { accepted = subst (λ (c : Book). number_of c y ≡ 0) as_it_was h; same = ap (λ (c : Book). sent_to c y) as_it_was })

pub second-alone : (b : Book) (k : Key) (first second : Sent) → SecondAlone b k first second
second-alone b k x y = record { accepted = λ h. (two b k x y h).accepted; same = λ h. (two b k x y h).same }

-- ---- over and over

over : (b : Book) (k : Key) (xs : List Sent) (y : Sent) → OverAndOver b k xs y → (number_of b y ≡ 0) × (sent_to (after b xs) y ≡ sent_to b y)
unfolding after
over b k [] y h = (h.last_accepted, refl)
over b k (x ∷ xs) y h =
    let rest = over (sent_to b x).book k xs y (record { earlier = h.earlier.1; latest = h.latest; last_accepted = h.last_accepted }) in
    let more = one_more b k x y h.earlier.0 h.latest rest.0 in
    (more.accepted, rest.1 ∙ more.same)

pub last-alone : (b : Book) (k : Key) (before : List Sent) (last : Sent) → LastAlone b k before last
last-alone b k xs y = record { accepted = λ h. (over b k xs y h).0; same = λ h. (over b k xs y h).1 }
