-- A sound book stays sound under every accepted message: what stands under a key, what a change that fits does, and the next book.
-- Assumes nothing.
use mathlib.Core.Path.{◌≡◌, refl, sym, ◌∙◌, subst}
use mathlib.Core.Bool.{true, false, ◌&&◌}
use mathlib.Core.List.{List, map}
use mathlib.Core.Logic.{inl, inr}
use mathlib.Core.Option.{Option, none, some}
use Prim.Native.Nat.{ℕ}
use lib.IntN.{ℤ}
use Rattle.amounts.specs.Limits.{is_support}
use Rattle.amounts.specs.Lists.{every}
use Rattle.refusals.specs.Refusals.{None}
use Rattle.refusals.proofs.Laws.{and_left, and_right, and_both, never}
use Rattle.keys.specs.declared.Key.{Key}
use Rattle.records.specs.declared.types.Record.{Record}
use Rattle.messages.specs.declared.types.Message.{Message}
use Rattle.messages.specs.declared.types.Change.{Change}
use Rattle.messages.specs.declared.types.Change.TheVariants.{Add, Rebid, Advance, Remove, AddPending}
use Rattle.messages.specs.declared.types.Deed.{Deed}
use Rattle.messages.specs.declared.types.Deed.TheVariants.{Keyed, SetSupport, CloseHour}
use Rattle.records.specs.Records.{blank, is_free, at, ok_place}
use Rattle.messages.specs.Plan.{key_of}
use Rattle.records.proofs.Places.{at_key, at-used, free-blank, place-used}
use Rattle.messages.proofs.Fits.{Under, Fits}
use Rattle.credit.specs.declared.types.Account.{Account}
use Rattle.credit.specs.Account.{supported, keeps_totals}
use Rattle.credit.specs.Credit.{credit_rows}
use Rattle.credit.proofs.Keeping.{keeps-held, keeps-owed, keeps-own}
use Rattle.book.specs.Places.{find, swap, missing, or_else_blank}
use Rattle.book.specs.Books.{Book, lookup, sound, sound_by01, distinct, held, owed, held_over, owed_over, account_over, full, totals}
use Rattle.batches.specs.Batches.{batched}
use Rattle.batches.proofs.Laws.{batched-every}
use Rattle.book.specs.Step.{change, rebook, too_much, done}
use Rattle.book.proofs.Verdicts.{book_rows}
use Rattle.book.proofs.Places.{find-passes, every-find}
use Rattle.book.proofs.Batched.{batched-distinct}
use Rattle.book.proofs.Effect.{Effect, effect-add, effect-put, effect-drop}

-- ---- the parts of soundness
module _ (b : Book) (h : sound b ≡ true) where
  pub sound-by-01 : sound_by01 b.account.support b.records ≡ true
  unfolding sound
  sound-by-01 = and_left (sound_by01 b.account.support b.records) (keeps_totals b.account (held b) (owed b)) h

  sound-keeps : keeps_totals b.account (held b) (owed b) ≡ true
  unfolding sound
  sound-keeps = and_right (sound_by01 b.account.support b.records) (keeps_totals b.account (held b) (owed b)) h

  pub sound-support : is_support b.account.support ≡ true
  unfolding sound_by01
  sound-support = and_left (is_support b.account.support) (every ok_place b.records) (and_left (is_support b.account.support && every ok_place b.records) (distinct b.records) sound-by-01)

  pub sound-places : every ok_place b.records ≡ true
  unfolding sound_by01
  sound-places = and_right (is_support b.account.support) (every ok_place b.records) (and_left (is_support b.account.support && every ok_place b.records) (distinct b.records) sound-by-01)

  pub sound-distinct : distinct b.records ≡ true
  unfolding sound_by01
  sound-distinct = and_right (is_support b.account.support && every ok_place b.records) (distinct b.records) sound-by-01

  -- the kept totals are the walk's
  pub kept-held : b.account.held ≡ held b
  kept-held = keeps-held b.account (held b) (owed b) sound-keeps

  pub kept-owed : b.account.owed ≡ owed b
  kept-owed = keeps-owed b.account (held b) (owed b) sound-keeps

pub sound-make : (b : Book) (a : Account) (rs : List Record) → is_support a.support ≡ true → every ok_place rs ≡ true → distinct rs ≡ true → sound (rebook b a rs) ≡ true
unfolding sound sound_by01 held owed
sound-make b a rs s p d =
    and_both (is_support a.support && every ok_place rs && distinct rs) (keeps_totals (account_over a rs) (held_over rs) (owed_over rs))
    (and_both (is_support a.support && every ok_place rs) (distinct rs) (and_both (is_support a.support) (every ok_place rs) s p) d)
    (keeps-own (account_over a rs))

-- ---- what stands under a key
under-by : (k : Key) (rs : List Record) → every ok_place rs ≡ true → (o : Option Record) → find (at k) rs ≡ o → Under k (or_else_blank blank o)
unfolding or_else_blank
under-by k rs h none e = inl refl
under-by k rs h (some x) e =
    let passes = find-passes (at k) x rs e in
    inr (place-used x (every-find (at k) ok_place x rs h e) (at-used k x passes), sym (at_key k x passes))

-- nothing, or a sound record of that key
pub lookup-under : (b : Book) (k : Key) → sound b ≡ true → Under k (lookup b k)
unfolding lookup
lookup-under b k h = under-by k b.records (sound-places b h) (find (at k) b.records) refl

none-by : (k : Key) (rs : List Record) (o : Option Record) → find (at k) rs ≡ o → is_free (or_else_blank blank o) ≡ true → o ≡ none
unfolding or_else_blank
none-by k rs none e h = refl
none-by k rs (some x) e h = never (sym (at-used k x (find-passes (at k) x rs e)) ∙ h)

some-by : (o : Option Record) → is_free (or_else_blank blank o) ≡ false → o ≡ some (or_else_blank blank o)
unfolding or_else_blank
some-by none h = never (sym h ∙ free-blank)
some-by (some x) h = refl

-- a key is not open exactly where nothing is found under it
pub lookup-none : (b : Book) (k : Key) → is_free (lookup b k) ≡ true → find (at k) b.records ≡ none
unfolding lookup
lookup-none b k h = none-by k b.records (find (at k) b.records) refl h

pub lookup-some : (b : Book) (k : Key) → is_free (lookup b k) ≡ false → find (at k) b.records ≡ some (lookup b k)
unfolding lookup
lookup-some b k h = some-by (find (at k) b.records) h

-- ---- what a change that fits does

-- what stands under the key afterwards
abbrev pub leaves : Change → Option Record
leaves (Add r) = some r
leaves (Rebid was r) = some r
leaves (Advance r) = some r
leaves (Remove k) = none
leaves (AddPending r) = some r

room : (b : Book) (r : Record) → None (credit_rows (totals b) (Keyed (Add r))) → missing (find is_free b.records) ≡ false
unfolding None totals full
room b r h = h.1.0

room-pending : (b : Book) (r : Record) → None (credit_rows (totals b) (Keyed (AddPending r))) → missing (find is_free b.records) ≡ false
unfolding None totals full
room-pending b r h = h.1.0

-- the places of a sound book, after a change that fits and is not turned away
pub effect : (b : Book) (m : Message) (c : Change) → sound b ≡ true → Fits (lookup b (key_of m)) m (Keyed c) → None (credit_rows (totals b) (Keyed c))
    → Effect (key_of m) b.records (change c b.records) (leaves c)
unfolding change
effect b m (Add r) h f w =
    effect-add (key_of m) b.records (sound-places b h) (sound-distinct b h) r (lookup-none b (key_of m) f.free) (room b r w) f.fine
effect b m (Rebid was r) h f w =
    subst (λ (k : Key). Effect (key_of m) b.records (swap (at k) r b.records) (some r)) (sym f.fine.own)
    (effect-put (key_of m) b.records (sound-places b h) (sound-distinct b h) (lookup b (key_of m)) r (lookup-some b (key_of m) f.used) f.fine)
effect b m (Advance r) h f w =
    subst (λ (k : Key). Effect (key_of m) b.records (swap (at k) r b.records) (some r)) (sym f.fine.own)
    (effect-put (key_of m) b.records (sound-places b h) (sound-distinct b h) (lookup b (key_of m)) r (lookup-some b (key_of m) f.used) f.fine)
effect b m (Remove k) h f w =
    subst (λ (l : Key). Effect (key_of m) b.records (swap (at l) blank b.records) none) (sym f.own)
    (effect-drop (key_of m) b.records (sound-places b h) (sound-distinct b h) (lookup b (key_of m)) (lookup-some b (key_of m) f.used))
effect b m (AddPending r) h f w =
    effect-add (key_of m) b.records (sound-places b h) (sound-distinct b h) r (lookup-none b (key_of m) f.added.free) (room-pending b r w) f.added.fine

pub done-sound : (b : Book) (m : Message) (ms : List ℕ) (ps : List ℤ) (d : Deed) → sound b ≡ true → Fits (lookup b (key_of m)) m d → None (book_rows b ms d) → sound (done b ms ps d) ≡ true
unfolding done
done-sound b m ms ps (Keyed c) h f w =
    let e = effect b m c h f w in
    sound-make b b.account (change c b.records) (sound-support b h) e.fine e.apart
done-sound b m ms ps (SetSupport z) h f w = sound-make b (supported b.account z) b.records f (sound-places b h) (sound-distinct b h)
done-sound b m ms ps (CloseHour hour) h f w =
    let much = too_much b hour ms ps in
    sound-make b b.account (map (batched much hour ms ps) b.records) (sound-support b h) (batched-every much hour ms ps b.records (sound-places b h))
    (batched-distinct much hour ms ps b.records (sound-distinct b h))
