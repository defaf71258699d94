-- Document 01 and 02, orders 3 and 6: what a kind decides, at every stage; one table, a row a kind. The numbers of kinds and stages.
-- Assumes nothing.
use Rattle.std.specs.Prelude.{Bool, true, false, not, ◌&&◌, ◌||◌, cond, ℕ, leb, eqb, ℤ, pos}
use Rattle.std.specs.Int.Signed.{le_z}
use Rattle.amounts.specs.Limits.{between, is_price, is_nil}
use Rattle.refusals.specs.Refusals.{Row, row}
pub use Rattle.kinds.specs.declared.Rules.{Rules}

-- ---- the numbers

-- 'four kinds: 1 Day-Ahead import, 2 Day-Ahead export, 3 Hour-Ahead export, 4 Day-Ahead wheel through'
abbrev pub import : ℕ
import = 1

abbrev pub export : ℕ
export = 2

abbrev pub hour_ahead : ℕ
hour_ahead = 3

abbrev pub wheel : ℕ
wheel = 4

-- 02, order 3: 'Source document 002 adds a kind 5: Hour-Ahead export bids with four interval curves'
abbrev pub quarter_hour : ℕ
quarter_hour = 5

-- 02, order 6: 'Add kind 6, with path 1 to 11 for zones A to K and both sides in one key'
abbrev pub virtual : ℕ
virtual = 6

-- 02, order 6: 'kinds run to 6'
abbrev pub last_kind : ℕ
last_kind = virtual

abbrev pub is_kind : ℕ → Bool
is_kind kind = between import last_kind kind

-- 'Open makes stage 1. .. Post goes from 1 to 2 .. Finish goes from 2 to 3 .. Bill goes from 3 to 4'; a free place has stage 0
abbrev pub bid_stage : ℕ
bid_stage = 1

abbrev pub posted_stage : ℕ
posted_stage = 2

abbrev pub finished_stage : ℕ
finished_stage = 3

abbrev pub billed_stage : ℕ
billed_stage = 4

-- where a message never takes a kind on: no open transaction stands at stage 0
abbrev pub never : ℕ
never = 0

-- ---- the table

module _ {X : Type 0} where
  -- what stands for the kind; `none` where there is no such kind
  unfoldable pub by_kind : ℕ → X → X → X → X → X → X → X → X
  by_kind kind imported exported hourly wheeled quarterly sided none =
      cond (eqb kind import) imported
      (cond (eqb kind export) exported
      (cond (eqb kind hour_ahead) hourly (cond (eqb kind wheel) wheeled (cond (eqb kind quarter_hour) quarterly (cond (eqb kind virtual) sided none)))))

-- the last path ('path (1 to 999 ..)', and of kind 6 the last zone);
-- whether 'Points add up', else 'the largest of any point' counts; the most bid MWh ('at most 10,000 for kinds 1 and 4 and 640,000 otherwise');
-- the most cents ('stages 1 and 2, 0 to 640,000,000,000 (kind 4: to 20,000,000,000)'); the largest differential ('0 to 1,000,000; 0 for kinds 3 and 4');
-- whether 'the exempt mark stands'; how many prices ('Kinds 1 to 3 use one price in post and finish'); whether 'Post keeps .. the first price', the Day-Ahead price;
-- from which stage 'Post goes from 1 to 2 and is not for kind 3', 'Finish goes from 2 to 3, for kind 3 from 1 to 3', 'Bill goes from 3 to 4';
-- whether a bid has 'four interval curves', is pending at requirement 0 until its hour is closed, and its 'record keeps its four MWh sums' (02, order 3);
-- whether a bid has 'both sides in one key', load and supply (02, order 6): what stands above of MWh and differential is each side's, and it is posted by a message of its own
abbrev pub rules : ℕ → Bool → ℕ → ℕ → ℕ → Bool → ℕ → Bool → ℕ → ℕ → ℕ → Bool → Bool → Rules
rules paths adds mwh cents differential exempts prices day_ahead posted finished billed intervals sides =
    record {
      paths = paths;
      adds = adds;
      mwh = mwh;
      cents = pos cents;
      differential = differential;
      exempts = exempts;
      prices = prices;
      dayahead = day_ahead;
      posted = posted;
      finished = finished;
      billed = billed;
      intervals = intervals;
      sides = sides;
    }

abbrev pub import_rules : Rules
import_rules = rules 999 false 10000 640000000000 1000000 true 1 true bid_stage posted_stage finished_stage false false

abbrev pub export_rules : Rules
export_rules = rules 999 true 640000 640000000000 1000000 false 1 false bid_stage posted_stage finished_stage false false

abbrev pub hour_ahead_rules : Rules
hour_ahead_rules = rules 999 true 640000 640000000000 0 false 1 false never bid_stage finished_stage false false

abbrev pub wheel_rules : Rules
wheel_rules = rules 999 false 10000 20000000000 0 false 2 false bid_stage posted_stage finished_stage false false

-- 02, order 3: 'It carries no differential or exempt mark; these and bid MWh are 0', 'Finish, from stage 2', '12 for posting kind 5'
abbrev pub quarter_hour_rules : Rules
quarter_hour_rules = rules 999 true 0 640000000000 0 false 1 false never posted_stage finished_stage true false

-- 02, order 6: 'path 1 to 11', 'Each side's MWh is at most 10,000', 'Bill goes from 2 to 4; there is no finish'; 01's own post is not for it, since its sides have one of theirs
abbrev pub virtual_rules : Rules
virtual_rules = rules 11 false 10000 640000000000 1000000 false 1 false never never posted_stage false true

-- what is no kind has no path, no stage and no limit above 0
abbrev pub no_rules : Rules
no_rules = rules 0 false 0 0 0 false 1 false never never never false false

unfoldable pub rules_of : ℕ → Rules
rules_of kind = by_kind kind import_rules export_rules hour_ahead_rules wheel_rules quarter_hour_rules virtual_rules no_rules

-- ---- what the rows are read for

-- 2 'kind not 1 to 4'; 02, order 6: 'kinds run to 6'
abbrev pub kind_row : ℕ → Row
kind_row kind = row 2 (not (is_kind kind))

abbrev pub is_path : Rules → ℕ → Bool
is_path rules path = between 1 rules.paths path

-- 'stages are 1 to 4 (never 2 for kind 3)': at stages 2 and 3 stands what a finish or a bill takes on from there
abbrev pub has_stage : Rules → ℕ → Bool
has_stage rules stage =
    between bid_stage billed_stage stage
    && (not (eqb stage posted_stage) || (eqb rules.finished posted_stage || eqb rules.billed posted_stage))
    && (not (eqb stage finished_stage) || eqb rules.billed finished_stage)

-- a bid of one curve: of points, and not of four curves or two sides
abbrev pub has_one_curve : Rules → Bool
has_one_curve rules = not rules.intervals && not rules.sides

-- a schedule is posted of it, by 01's post or by that of two sides
abbrev pub is_scheduled : Rules → Bool
is_scheduled rules = not (eqb rules.posted never) || rules.sides

abbrev pub differential_fits : Rules → ℕ → Bool
differential_fits rules differential = leb differential rules.differential

abbrev pub bid_mwh_fits : Rules → ℕ → Bool
bid_mwh_fits rules mwh = leb mwh rules.mwh

-- a requirement at stages 1 and 2
abbrev pub pending_fits : Rules → ℤ → Bool
pending_fits rules amount = le_z (pos 0) amount && le_z amount rules.cents

-- 'Kinds 1 to 3 use one price in post and finish, and their second must be 0'; so do kinds 5 and 6
abbrev pub prices_fit : Rules → ℤ → ℤ → Bool
prices_fit rules price second = is_price price && is_price second && (eqb rules.prices 2 || is_nil second)

-- 'An exempt import has 0 at these three stages'
unfoldable pub unless_exempt : Bool → ℤ → ℤ
unless_exempt exempt amount = cond exempt (pos 0) amount
