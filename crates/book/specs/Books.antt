-- Document 01, 'The book and its kinds' and 'Numbers', and 02, order 1: the places of a book, when it is sound, and its totals.
-- Assumes nothing.
use Rattle.std.specs.Prelude.{Bool, true, ◌&&◌, ◌||◌, cond, List, [], ◌∷◌, ℤ, pos, replicate}
use Rattle.amounts.specs.Limits.{is_support}
use Rattle.amounts.specs.Lists.{total, every}
use Rattle.keys.specs.declared.Key.{Key}
use Rattle.records.specs.declared.types.Record.{Record}
use Rattle.records.specs.Records.{blank, is_free, at, ok_place}
use Rattle.credit.specs.declared.types.Totals.{Totals}
use Rattle.credit.specs.declared.types.Account.{Account}
use Rattle.credit.specs.Account.{fresh_account, totalled, keeps_totals}
use Rattle.credit.specs.Credit.{owes, reaches_half}
use Rattle.book.specs.Places.{find, missing, or_else_blank}
pub use Rattle.book.specs.declared.types.Book.{Book}

-- the record under a key; blank where the key is not open
unfoldable pub lookup : Book → Key → Record
lookup b k = or_else_blank blank (find (at k) b.records)

-- 'keys are distinct': no open record's key stands in a later place
unfoldable pub distinct : List Record → Bool
distinct [] = true
distinct (r ∷ rs) = (is_free r || missing (find (at r.key) rs)) && distinct rs

-- 'Held is the sum of all requirements'
abbrev pub held_over : List Record → ℤ
held_over places = total (λ r. r.requirement) places

unfoldable pub held : Book → ℤ
held b = held_over b.records

-- 'Net owed is the sum over stage 4'
abbrev pub owed_over : List Record → ℤ
owed_over places = total owes places

unfoldable pub owed : Book → ℤ
owed b = owed_over b.records

-- 'A book is sound when support is in range, keys are distinct, free places are zero, every field is in its range, ..'
unfoldable pub sound_by01 : ℤ → List Record → Bool
sound_by01 support places = is_support support && every ok_place places && distinct places

-- 02, order 1: 'A book whose kept totals differ from its records isn't sound'
unfoldable pub sound : Book → Bool
sound b = sound_by01 b.account.support b.records && keeps_totals b.account (held b) (owed b)

-- no place is free
unfoldable pub full : Book → Bool
full b = missing (find is_free b.records)

-- all that refusals 14 to 16 see of the book: held and net owed as they are kept (02, order 1)
unfoldable pub totals : Book → Totals
totals b = record { support = b.account.support; held = b.account.held; owed = b.account.owed; full = full b }

-- what a refusal answers: 'the held and net owed of the unchanged book (both 0 for 1)'; refusal 1 is given exactly where the book is not sound
unfoldable pub held_answered : Book → ℤ
held_answered b = cond (sound b) (held b) (pos 0)

unfoldable pub owed_answered : Book → ℤ
owed_answered b = cond (sound b) (owed b) (pos 0)

-- what a screen is shown (02, order 1): 'Keep both totals in the book and answer from them, reading no record. .. on any other it is the totals as kept'
unfoldable pub held_shown : Book → ℤ
held_shown b = b.account.held

unfoldable pub owed_shown : Book → ℤ
owed_shown b = b.account.owed

unfoldable pub suspended_shown : Book → Bool
suspended_shown b = reaches_half b.account.support b.account.owed

-- 'A fresh book is empty, with the support given'
unfoldable pub no_records : List Record
no_records = replicate 256 blank

abbrev pub empty : ℤ → Book
empty support = record { records = no_records; account = fresh_account support }

-- what is kept beside these places: the totals are theirs
abbrev pub account_over : Account → List Record → Account
account_over account places = totalled account (held_over places) (owed_over places)

-- 02, order 1: 'a book of the older form is rebuilt first'. Where some place is out of its range the totals are 0: such a book is not sound, whatever they are
unfoldable pub rebuilt : ℤ → List Record → Book
rebuilt support places = record { records = places; account = cond (every ok_place places) (account_over (fresh_account support) places) (fresh_account support) }
