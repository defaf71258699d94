-- A run of sixteen messages that the book accepts, with a support change, a key that is paid, opened again and dealt to the other side, and two quarter-hour bids whose batch is kept.
-- The amounts are computed.
-- Assumes nothing.
use mathlib.Core.Path.{◌≡◌, refl, sym, ap, ◌∙◌}
use mathlib.Core.Bool.{Bool, true, false}
use mathlib.Core.List.{List, [], ◌∷◌}
use Prim.Native.Nat.{ℕ}
use native.Mathlib.Omega.{arith}
use lib.IntN.{ℤ, pos, negsuc}
use Rattle.amounts.specs.Lists.{sum, every}
use Rattle.distinct.specs.Numbers.{stands_in}
use Rattle.refusals.specs.Refusals.{first, answered, judge}
use Rattle.refusals.proofs.Laws.{never}
use Rattle.kinds.specs.Kinds.{quarter_hour, unless_exempt, by_kind, rules_of}
use Rattle.bids.specs.Rows.{point_rows, bid_rows}
use Rattle.bids.specs.Bids.{import_bid, export_bid, hour_ahead_bid, bid_mwh, bid_requirement}
use Rattle.bids.specs.Entries.{bid_verdict}
use Rattle.bids.specs.Points.{largest_mwh, total_mwh, mwh_at, tried, exposure, wheel_exposure}
use Rattle.deliveries.specs.Rows.{delivery_rows, posted_rows, finished_rows, bill_rows}
use Rattle.formulas.specs.Stages.{import_posted, balancing, import_finished, export_posted, export_finished, hour_ahead_finished, wheel_posted, wheel_finished, posted_requirement, finished_requirement}
use Rattle.formulas.specs.Entries.{posted_verdict, finished_verdict}
use Rattle.intervals.specs.declared.types.Counts.{Counts}
use Rattle.intervals.specs.Intervals.{interval_mwh, curves_rows, curves_verdict}
use Rattle.closings.specs.Closings.{place_of, each_once, hour_cents, quarter_up, closed_requirement, closed_rows, closed_verdict}
use Rattle.keys.specs.declared.Key.{Key}
use Rattle.keys.specs.Keys.{same_key, key_rows}
use Rattle.records.specs.Records.{is_blank, is_free, at, is_pending, keeps, ok_record, ok_place}
use Rattle.messages.specs.declared.types.Closing.{Closing}
use Rattle.messages.specs.declared.types.Message.{Message}
use Rattle.messages.specs.declared.types.Message.TheVariants.{Open, Post, Finish, Bill, Pay, Support, OpenCurves, Close}
use Rattle.messages.specs.Plan.{key_of, opens, bid_for, posted_for, finished_for, intervals_for, stage_rows}
use Rattle.credit.specs.Account.{same_cents, keeps_totals}
use Rattle.credit.specs.Credit.{owes, suspended}
use Rattle.batches.specs.Batches.{pending_paths, unmatched, closed_for, batch_cents, batched}
use Rattle.book.specs.Places.{find, swap, missing, or_else_blank}
use Rattle.book.specs.Books.{lookup, distinct, sound_by01, sound, held, owed, full, totals, no_records}
use Rattle.book.specs.Refusals.{table}
use Rattle.book.specs.Step.{deed_of, verdict, change, too_much, done, answer_to, outcome, step, fresh}
use Rattle.demands.specs.Runs.{after}
use Rattle.demands.specs.Three.{Accepted, Unremoved, requirements, Dealt, whole, keyed, is_dealt, part, owner, Follows, Fair, whole_book, side_book, DemandThree}
use Rattle.demands.proofs.Three.{demand-three}

abbrev key : ℕ → Key
key kind = record { kind = kind; path = 7; hour = 12 }

abbrev dealt : Bool → Message → Dealt
dealt side m = record { side = side; sent = record { message = m; mwhs = []; prices = [] } }

-- the points of W4
abbrev open_export : Bool → ℕ → ℕ → Dealt
open_export side kind differential =
    record {
      side = side;
      sent =
          record {
            message = Open (record { key = key kind; differential = differential; exempt = false });
            mwhs = 100 ∷ 90 ∷ 80 ∷ 70 ∷ [];
            prices = pos 1000 ∷ pos 1500 ∷ pos 3000 ∷ pos 4500 ∷ [];
          };
    }

-- those of W1, and of W9
abbrev open_import : Dealt
open_import =
    record {
      side = false;
      sent =
          record {
            message = Open (record { key = key 1; differential = 6000; exempt = false });
            mwhs = 27 ∷ 61 ∷ 100 ∷ [];
            prices = pos 4600 ∷ pos 5500 ∷ pos 5800 ∷ [];
          };
    }

abbrev open_wheel : Dealt
open_wheel =
    record {
      side = true;
      sent =
          record {
            message = Open (record { key = key 4; differential = 0; exempt = false });
            mwhs = 30 ∷ 40 ∷ 50 ∷ [];
            prices = negsuc 499 ∷ negsuc 399 ∷ pos 200 ∷ [];
          };
    }

-- kind 5, of the same hour: the bid of source document 002's example, two of whose points add up, and one of a single MWh
abbrev open_quarters : ℕ → Counts → List ℕ → List ℤ → Dealt
open_quarters path counts mwhs prices =
    record {
      side = true;
      sent = record { message = OpenCurves (record { key = record { kind = quarter_hour; path = path; hour = 12 }; counts = counts }); mwhs = mwhs; prices = prices };
    }

-- 412,500 for the one, and a quarter of 3001, rounded up, for the other; the paths are listed in another order than the bids were opened in
abbrev close : Dealt
close =
    record {
      side = true;
      sent =
          record {
            message = Close (record { hour = 12 });
            mwhs = 8 ∷ 7 ∷ [];
            prices = pos 3001 ∷ negsuc 99 ∷ pos 0 ∷ pos 0 ∷ pos 3000 ∷ pos 4000 ∷ pos 5000 ∷ pos 5000 ∷ [];
          };
    }

-- a support of 1,100,000, which the first two bids fill but for 50,000
abbrev support : ℤ
support = pos 1100000

-- true has kind 2's first transaction and the quarter-hour bids, false kind 2's second
abbrev run : List Dealt
run =
    open_export true 2 1200
    ∷ open_import
    ∷ dealt true (Post (record { key = key 2; schedule = 100; price = pos 5000; second = pos 0 }))
    ∷ dealt false (Post (record { key = key 1; schedule = 50; price = pos 4000; second = pos 0 }))
    ∷ dealt true (Finish (record { key = key 2; actual = 90; price = pos 4000; second = pos 0 }))
    ∷ dealt false (Support (record { cents = pos 1500000 }))
    ∷ dealt true (Bill (record { key = key 2; cents = pos 460000 }))
    ∷ open_wheel
    ∷ dealt true (Pay (key 2))
    ∷ open_export false 2 1400
    ∷ dealt false (Finish (record { key = key 1; actual = 10; price = pos 6000; second = pos 0 }))
    ∷ open_export true 3 0
    ∷ dealt false (Bill (record { key = key 1; cents = pos 25000 }))
    ∷ open_quarters 7 (record { first = 2; second = 1; third = 0; fourth = 1 }) (100 ∷ 70 ∷ 160 ∷ 100 ∷ []) (pos 2500 ∷ pos 3500 ∷ pos 4500 ∷ pos 5500 ∷ [])
    ∷ open_quarters 8 (record { first = 1; second = 0; third = 0; fourth = 0 }) (1 ∷ []) (pos 3500 ∷ [])
    ∷ close
    ∷ []

-- before the run no key is open, so it is all one whose each is
abbrev at_first : Key → Bool
at_first k = false

-- whose the quarter-hour bids of each hour are
abbrev quarters : ℕ → Bool
quarters hour = true

-- ---- each message goes where it must
begins : (o : Key → Bool) (x : Dealt) → keyed x.sent.message ≡ true → opens x.sent.message ≡ true → ((key_of x.sent.message).kind ≡ quarter_hour → x.side ≡ true) → Follows o quarters x
begins o x k b five = record { later = λ h e. never (sym e ∙ b); quarters = λ e. five; closing = λ c e. never (sym (ap keyed e) ∙ k) }

continues : (o : Key → Bool) (x : Dealt) → keyed x.sent.message ≡ true → opens x.sent.message ≡ false → x.side ≡ o (key_of x.sent.message) → Follows o quarters x
continues o x k b own = record { later = λ h e. own; quarters = λ e five. never (sym b ∙ e); closing = λ c e. never (sym (ap keyed e) ∙ k) }

-- a support change, and a close
unkeyed : (o : Key → Bool) (x : Dealt) → keyed x.sent.message ≡ false → opens x.sent.message ≡ false → ((c : Closing) → x.sent.message ≡ Close c → x.side ≡ true) → Follows o quarters x
unkeyed o x k b ends = record { later = λ h e. never (sym k ∙ h); quarters = λ e five. never (sym b ∙ e); closing = ends }

record Seen : Type 0 where
  accepted : Accepted (fresh support).book (whole run)
  unremoved : Unremoved (fresh support).book (whole run)
  fair : Fair at_first quarters run
  -- among them W4, W1, W2, W7, W9, W5 and W3
  answered-each :
      requirements (fresh support).book (whole run)
      ≡ pos 450000 ∷ pos 600000 ∷ pos 500000 ∷ pos 300000 ∷ pos 460000 ∷ pos 0 ∷ pos 460000 ∷ pos 16000 ∷ pos 0 ∷ pos 476000 ∷ pos 40000 ∷ pos 450000 ∷ pos 25000
      ∷ pos 0 ∷ pos 0 ∷ pos 413251 ∷ []
  whole-held : held (whole_book support run) ≡ pos 1380251
  false-held : held (side_book false run) ≡ pos 501000
  true-held : held (side_book true run) ≡ pos 879251
  whole_owed : owed (whole_book support run) ≡ pos 25000

seen : Seen
unfolding Accepted Unremoved requirements Fair owner whole part after fresh step verdict outcome answer_to done change too_much deed_of table judge answered first lookup find swap missing or_else_blank sound sound_by01 keeps_totals same_cents every distinct ok_place ok_record keeps is_blank is_free is_pending same_key at no_records totals held owed owes full suspended sum bid_for posted_for finished_for intervals_for key_rows stage_rows point_rows delivery_rows bid_rows posted_rows finished_rows bill_rows curves_rows closed_rows bid_verdict posted_verdict finished_verdict curves_verdict closed_verdict bid_mwh bid_requirement posted_requirement finished_requirement by_kind rules_of import_bid import_posted balancing import_finished unless_exempt export_bid hour_ahead_bid export_posted export_finished hour_ahead_finished wheel_posted wheel_finished largest_mwh total_mwh mwh_at tried exposure wheel_exposure interval_mwh place_of each_once stands_in hour_cents quarter_up closed_requirement pending_paths unmatched closed_for batch_cents batched
seen =
    record {
      accepted = (refl, (refl, (refl, (refl, (refl, (refl, (refl, (refl, (refl, (refl, (refl, (refl, (refl, (refl, (refl, (refl, tt))))))))))))))));
      unremoved = (refl, (refl, (refl, (refl, (refl, (refl, (refl, (refl, (refl, (refl, (refl, (refl, (refl, (refl, (refl, (refl, tt))))))))))))))));
      fair = (begins _ _ refl refl (λ e. refl), (begins _ _ refl refl (λ e. absurd (omega (arith, e))), (continues _ _ refl refl refl, (continues _ _ refl refl refl, (continues _ _ refl refl refl, (unkeyed _ _ refl refl (λ c e. never (ap is_dealt e)), (continues _ _ refl refl refl, (begins _ _ refl refl (λ e. refl), (continues _ _ refl refl refl, (begins _ _ refl refl (λ e. absurd (omega (arith, e))), (continues _ _ refl refl refl, (begins _ _ refl refl (λ e. refl), (continues _ _ refl refl refl, (begins _ _ refl refl (λ e. refl), (begins _ _ refl refl (λ e. refl), (unkeyed _ _ refl refl (λ c e. refl), tt))))))))))))))));
      answered-each = refl;
      whole-held = refl;
      false-held = refl;
      true-held = refl;
      whole_owed = refl;
    }

pub example : DemandThree at_first support run
example = demand-three at_first quarters support run seen.fair seen.accepted seen.unremoved
