-- Document 01, 'Requirement at each stage', at stages 2 and 3, over the whole numbers: a quantity is a ℕ, a price and an amount a ℤ.
-- Each formula stands under its sentence; the sources' slides (000) and tariff sections (001) are named beside it.
-- Assumes nothing.
use Rattle.std.specs.Prelude.{Bool, ℕ, ◌*◌, ℤ, pos, ◌+ℤ◌, ◌-ℤ◌, ◌*ℤ◌}
use Rattle.amounts.specs.Amount.{max_of}
use Rattle.kinds.specs.Kinds.{unless_exempt, by_kind}

-- ---- Import (000, 'External Suppliers'; 001, 26.4.2.2.1)

-- 'Posted: schedule x differential' (26.4.2.2.1 (2))
unfoldable pub import_posted : ℕ → ℕ → ℤ
import_posted schedule differential = pos (schedule * differential)

-- 'Max((schedule - actual) x real-time price, 0)' of a finished export; its second half has the two quantities changed about
unfoldable pub balancing : ℕ → ℕ → ℤ → ℤ
balancing schedule actual real_time = max_of ((pos schedule -ℤ pos actual) *ℤ real_time) (pos 0)

-- 02, order 2: '(schedule - actual) x real-time price, and only the difference with the Day-Ahead payment is held at zero' (001, 26.4.2.2.1 (3); 000 has a floor under the balancing payment too)
unfoldable pub import_finished : ℕ → ℤ → ℕ → ℤ → ℤ
import_finished schedule day_ahead actual real_time = max_of ((pos schedule -ℤ pos actual) *ℤ real_time -ℤ pos schedule *ℤ day_ahead) (pos 0)

-- ---- Export (000, 'External Buyers'; 001, 26.4.2.2.2)

-- 'Posted, kind 2: schedule x Max(Day-Ahead price, differential)' (26.4.2.2.2 (2))
unfoldable pub export_posted : ℕ → ℤ → ℕ → ℤ
export_posted schedule day_ahead differential = pos schedule *ℤ max_of day_ahead (pos differential)

-- 'Finished, kind 2: the posted amount - Max((schedule - actual) x real-time price, 0) + Max((actual - schedule) x real-time price, 0)'
unfoldable pub export_finished : ℤ → ℕ → ℕ → ℤ → ℤ
export_finished posted_cents schedule actual real_time = posted_cents -ℤ balancing schedule actual real_time +ℤ balancing actual schedule real_time

-- 'Finished, kind 3: Max(actual x real-time price, 0)'; 02, order 3, of kind 5: 'Finish, from stage 2, gives Max(actual x real-time price, 0)'
unfoldable pub hour_ahead_finished : ℕ → ℤ → ℤ
hour_ahead_finished actual real_time = max_of (pos actual *ℤ real_time) (pos 0)

-- ---- Wheel (000, 'Wheel Through', for the posted amount; 001, 26.4.2.2.3 (4), for the finish)

-- 'Prices are at withdrawal, then at injection; their difference is withdrawal less injection. Posted: Max(schedule x difference, 0)' (26.4.2.2.3 (2))
unfoldable pub wheel_posted : ℕ → ℤ → ℤ → ℤ
wheel_posted schedule withdrawal injection = max_of (pos schedule *ℤ (withdrawal -ℤ injection)) (pos 0)

-- 'Finished: posted - Max(schedule - actual, 0) x difference + Max(Max(actual - schedule, 0) x difference, 0)'
unfoldable pub wheel_finished : ℤ → ℕ → ℕ → ℤ → ℤ → ℤ
wheel_finished posted_cents schedule actual withdrawal injection =
    posted_cents -ℤ max_of (pos schedule -ℤ pos actual) (pos 0) *ℤ (withdrawal -ℤ injection)
    +ℤ max_of (max_of (pos actual -ℤ pos schedule) (pos 0) *ℤ (withdrawal -ℤ injection)) (pos 0)

-- ---- by kind

-- stage 2, to which no Hour-Ahead export is posted, and two sides by a message of their own (02, order 6); the prices are the message's first and second
unfoldable pub posted_requirement : ℕ → ℕ → Bool → ℕ → ℤ → ℤ → ℤ
posted_requirement kind differential exempt schedule price second =
    by_kind kind (unless_exempt exempt (import_posted schedule differential)) (export_posted schedule price differential) (pos 0) (wheel_posted schedule price second) (pos 0) (pos 0) (pos 0)

-- stage 3, which two sides never reach; `posted_cents` is the requirement that the record holds at stage 2, `day_ahead` the price that it keeps
unfoldable pub finished_requirement : ℕ → Bool → ℕ → ℤ → ℤ → ℕ → ℤ → ℤ → ℤ
finished_requirement kind exempt schedule day_ahead posted_cents actual price second =
    by_kind kind (unless_exempt exempt (import_finished schedule day_ahead actual price)) (export_finished posted_cents schedule actual price)
    (hour_ahead_finished actual price)
    (wheel_finished posted_cents schedule actual price second)
    (hour_ahead_finished actual price)
    (pos 0)
    (pos 0)
