-- For the code's own steps alone: what one place more adds, in a walk over the places, to what those behind it have. Nothing here is the paper's.
-- Assumes nothing.
use Rattle.std.specs.Prelude.{cond, ℕ, List, get_or, Option, Some, None}
use Rattle.keys.specs.declared.Key.{Key}
use Rattle.records.specs.declared.types.Record.{Record}
use Rattle.records.specs.Records.{blank, is_free, at as at_key}
use Rattle.credit.specs.Sums.{no_sums, with_record}
pub use Rattle.walk.specs.declared.types.Walk.{Walk}

-- before the first place
abbrev pub nothing : Walk
nothing = record { sums = no_sums; free = None; at = None }

unfoldable pub more : Walk → Record → Key → ℕ → Walk
more s r k place =
    record {
      sums = with_record s.sums r;
      free = cond (is_free r) (Some place) s.free;
      at = cond (at_key k r) (Some place) s.at;
    }

-- the record at a place; blank where there is none
abbrev pub standing : List Record → Option ℕ → Record
standing places None = blank
standing places (Some place) = get_or places place blank

-- the record under the key, once every place is passed
abbrev pub under : Walk → List Record → Record
under s places = standing places s.at
