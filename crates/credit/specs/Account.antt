-- What a book keeps beside its places: how it begins, what a message makes of it, and when it is right (02, order 1).
-- Assumes nothing.
use Rattle.std.specs.Prelude.{Bool, ◌&&◌, ℤ, pos}
use Rattle.std.specs.Int.Signed.{le_z}
pub use Rattle.credit.specs.declared.types.Account.{Account}

-- 01: 'A fresh book is empty, with the support given'; nothing is held and nothing owed
abbrev pub fresh_account : ℤ → Account
fresh_account support = record { support = support; held = pos 0; owed = pos 0 }

-- 01: 'support (amount)'; nothing else that is kept changes
abbrev pub supported : Account → ℤ → Account
supported account support = record { support = support; held = account.held; owed = account.owed }

-- 02, order 1: 'Keep both totals in the book'
abbrev pub totalled : Account → ℤ → ℤ → Account
totalled account held owed = record { support = account.support; held = held; owed = owed }

unfoldable pub same_cents : ℤ → ℤ → Bool
same_cents a b = le_z a b && le_z b a

-- 02, order 1: 'A book whose kept totals differ from its records isn't sound'
unfoldable pub keeps_totals : Account → ℤ → ℤ → Bool
keeps_totals account held owed = same_cents account.held held && same_cents account.owed owed
