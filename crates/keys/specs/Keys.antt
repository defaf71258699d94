-- Document 01, 'The book and its kinds': a transaction's key, and the ranges of its parts.
-- Assumes nothing.
use Rattle.std.specs.Prelude.{Bool, ◌&&◌, not, List, [], ◌∷◌, ℕ, leb, eqb}
use Rattle.refusals.specs.Refusals.{Row, row}
use Rattle.kinds.specs.Kinds.{is_kind, is_path, rules_of, kind_row}
pub use Rattle.keys.specs.declared.Key.{Key}

unfoldable pub same_key : Key → Key → Bool
same_key k l = eqb k.kind l.kind && eqb k.path l.path && eqb k.hour l.hour

-- 'hour (0 to 999,999)'
abbrev pub is_hour : ℕ → Bool
is_hour hour = leb hour 999999

abbrev pub key_fits : Key → Bool
key_fits k = is_kind k.kind && is_path (rules_of k.kind) k.path && is_hour k.hour

-- ---- the rows of the table of refusals that concern a key

-- 2 'kind not 1 to 4' (02, order 3: 'kinds run to 5'), 3 'path out of range', 4 'hour out of range'
unfoldable pub key_rows : Key → List Row
key_rows k = kind_row k.kind ∷ row 3 (not (is_path (rules_of k.kind) k.path)) ∷ row 4 (not (is_hour k.hour)) ∷ []
