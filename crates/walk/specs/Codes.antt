-- For the code's own steps alone, the test of distinct keys: a key as one number. On keys in range it is one to one, and 0 is that of a free place.
-- Assumes nothing.
use Rattle.std.specs.Prelude.{cond, ℕ, ◌+◌, ◌*◌, ◌%◌}
use Rattle.records.specs.declared.types.Record.{Record}
use Rattle.records.specs.Records.{is_free}

-- each part below a power of two above its limit
unfoldable pub code_of : Record → ℕ
code_of r = cond (is_free r) 0 (r.key.kind % 8 * 1073741824 + r.key.path % 1024 * 1048576 + r.key.hour % 1048576)
