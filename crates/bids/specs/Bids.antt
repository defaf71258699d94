-- Document 01, 'Requirement at each stage', at stage 1, over the whole numbers: a quantity is a ℕ, an amount a ℤ.
-- Each formula stands under its sentence; the sources' slides (000) and tariff sections (001) are named beside it.
-- Assumes nothing.
use Rattle.std.specs.Prelude.{Bool, cond, List, ℕ, ◌*◌, ℤ, pos}
use Rattle.amounts.specs.Amount.{max_of}
use Rattle.kinds.specs.Kinds.{by_kind, rules_of, unless_exempt}
use Rattle.bids.specs.Points.{Point, largest_mwh, total_mwh, exposure, wheel_exposure}

-- ---- Import (000, 'External Suppliers'; 001, 26.4.2.2.1)

-- 'Bid: bid MWh x differential' (26.4.2.2.1 (1))
unfoldable pub import_bid : List Point → ℕ → ℤ
import_bid points differential = pos (largest_mwh points * differential)

-- ---- Export (000, 'External Buyers'; 001, 26.4.2.2.2)

-- 'Bid, kind 2: Max(price exposure, bid MWh x differential)' (26.4.2.2.2 (1))
unfoldable pub export_bid : List Point → ℕ → ℤ
export_bid points differential = max_of (pos (exposure points)) (pos (total_mwh points * differential))

-- 'Bid, kind 3: price exposure' (26.4.2.2.2 (3) i)
unfoldable pub hour_ahead_bid : List Point → ℤ
hour_ahead_bid points = pos (exposure points)

-- ---- by kind (a wheel's bid is `wheel_exposure`, of Points)

-- 'Points add up: bid MWh is their sum', or 'bid MWh is the largest MWh of any point'
unfoldable pub bid_mwh : ℕ → List Point → ℕ
bid_mwh kind points = cond (rules_of kind).adds (total_mwh points) (largest_mwh points)

-- stage 1; a bid of four curves or of two sides is none of one curve, and its row refuses first (02, orders 3 and 6)
unfoldable pub bid_requirement : ℕ → List Point → ℕ → Bool → ℤ
bid_requirement kind points differential exempt =
    by_kind kind (unless_exempt exempt (import_bid points differential)) (export_bid points differential) (hour_ahead_bid points) (wheel_exposure points) (pos 0) (pos 0) (pos 0)
