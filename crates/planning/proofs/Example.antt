-- Each law at work, in cents, and what does not hold. The figures are computed; the laws are cited.
-- Assumes nothing.
use mathlib.Core.Path.{◌≡◌, refl, sym, ap, ap₂, ◌∙◌}
use mathlib.Core.Bool.{true, false}
use mathlib.Core.List.{List, [], ◌∷◌}
use Prim.Native.Nat.{ℕ}
use native.Mathlib.Omega.{arith}
use lib.IntN.{ℤ, pos, negsuc, ◌*ℤ◌}
use Rattle.amounts.specs.Limits.{is_point_mwh}
use Rattle.amounts.specs.Lists.{sum, every}
use Rattle.refusals.specs.Refusals.{first, answered, judge}
use Rattle.refusals.specs.Answers.{reply}
use Rattle.refusals.specs.declared.Answer.{Answer}
use Rattle.refusals.specs.declared.Answer.TheVariants.{Accepted, Refused}
use Rattle.kinds.specs.Kinds.{unless_exempt, by_kind, rules_of}
use Rattle.bids.specs.Points.{largest_mwh, total_mwh, mwh_at, tried, exposure, wheel_exposure}
use Rattle.bids.specs.Bids.{import_bid, export_bid, hour_ahead_bid, bid_mwh, bid_requirement}
use Rattle.bids.specs.Rows.{point_rows, bid_rows}
use Rattle.bids.specs.Entries.{bid_verdict}
use Rattle.intervals.specs.Intervals.{interval_mwh, curves_rows, curves_verdict}
use Rattle.virtuals.specs.Virtuals.{side_rows, virtual_bid, bid_verdict as sides_verdict}
use Rattle.keys.specs.declared.Key.{Key}
use Rattle.keys.specs.Keys.{same_key, key_rows}
use Rattle.records.specs.Records.{is_blank, is_free, at, keeps, ok_record, ok_place}
use Rattle.messages.specs.declared.types.Message.{Message}
use Rattle.messages.specs.declared.types.Message.TheVariants.{Open, Revise, Withdraw, Support, OpenCurves, ReviseCurves, OpenSides, ReviseSides}
use Rattle.messages.specs.declared.types.Opening.{Opening}
use Rattle.messages.specs.Plan.{key_of, opens, bid_for, intervals_for, sides_for, stage_rows}
use Rattle.credit.specs.Account.{same_cents, keeps_totals}
use Rattle.credit.specs.Credit.{owes, suspended}
use Rattle.book.specs.declared.types.Book.{Book}
use Rattle.book.specs.declared.types.Outcome.{Outcome}
use Rattle.book.specs.Places.{find, swap, missing, or_else_blank}
use Rattle.book.specs.Books.{lookup, distinct, sound_by01, sound, held, owed, held_answered, owed_answered, full, totals, no_records}
use Rattle.book.specs.Refusals.{table}
use Rattle.book.specs.Step.{deed_of, verdict, change, done, answer_to, outcome, step, fresh}
use Rattle.demands.specs.Runs.{Sent, sent_to, after}
use Rattle.planning.specs.Points.{Point, point, mwhs_of, prices_of, multiplied}
use Rattle.planning.specs.TakenBack.{Opened, TakenBack}
use Rattle.planning.specs.Revised.{revises, Revision, number_of}
use Rattle.planning.specs.Merged.{Merges, Merged}
use Rattle.planning.proofs.TakenBack.{taken_back}
use Rattle.planning.proofs.Revised.{second-alone, last-alone}
use Rattle.planning.proofs.Merged.{merged-points}
use Rattle.planning.proofs.Multiplied.{multiplied-bid}

-- ---- the points of W1, W4 and W9
abbrev w1 : List Point
w1 = point 27 (pos 4600) ∷ point 61 (pos 5500) ∷ point 100 (pos 5800) ∷ []

abbrev w4 : List Point
w4 = point 100 (pos 1000) ∷ point 90 (pos 1500) ∷ point 80 (pos 3000) ∷ point 70 (pos 4500) ∷ []

abbrev w9 : List Point
w9 = point 30 (negsuc 499) ∷ point 40 (negsuc 399) ∷ point 50 (pos 200) ∷ []

abbrev key : ℕ → Key
key kind = record { kind = kind; path = 7; hour = 12 }

abbrev opening : ℕ → ℕ → Opening
opening kind differential = record { key = key kind; differential = differential; exempt = false }

abbrev sent : Message → List Point → Sent
sent m points = record { message = m; mwhs = mwhs_of points; prices = prices_of points }

-- ---- a book that is not fresh: a support of 2,000,000, and an import of 600,000
abbrev start : Book
start = after (fresh (pos 2000000)).book (sent (Open (opening 1 6000)) w1 ∷ [])

-- tried: an export, a bid of four curves, and one of two sides
abbrev export : Sent
export = sent (Open (opening 2 1200)) w4

abbrev quarters : Sent
quarters = sent (OpenCurves (record { key = key 5; counts = record { first = 1; second = 0; third = 0; fourth = 1 } })) (point 60 (pos 500) ∷ point 100 (pos 1000) ∷ [])

abbrev sides : Sent
sides =
    sent (OpenSides (record { zone = 3; hour = 12; load = record { mwh = 10; differential = 3000 }; supply = record { mwh = 20; differential = 1000 } })) []

-- ---- revised: each of the three, opened
abbrev bidding : Book
bidding = (sent_to start export).book

abbrev revision : List Point → Sent
revision points = sent (Revise (opening 2 1200)) points

abbrev four_curves : Book
four_curves = (sent_to start quarters).book

abbrev revised_quarters : ℕ → Sent
revised_quarters mwh = sent (ReviseCurves (record { key = key 5; counts = record { first = 0; second = 1; third = 0; fourth = 0 } })) (point mwh (pos 700) ∷ [])

abbrev two_sides : Book
two_sides = (sent_to start sides).book

abbrev revised_sides : ℕ → Sent
revised_sides load =
    sent (ReviseSides (record { zone = 3; hour = 12; load = record { mwh = load; differential = 3000 }; supply = record { mwh = 20; differential = 1000 } })) []

-- 900,000, and 300,000
abbrev twice : Sent
twice = revision (multiplied 2 w4)

abbrev at3000 : Sent
at3000 = revision (point 100 (pos 3000) ∷ [])

-- what is held, 1,050,000, is above a support of 500,000
abbrev short : Book
short = (sent_to bidding (sent (Support (record { cents = pos 500000 })) [])).book

-- 400,000, and 200,000
abbrev at4000 : Sent
at4000 = revision (point 100 (pos 4000) ∷ [])

abbrev at2000 : Sent
at2000 = revision (point 100 (pos 2000) ∷ [])

record Seen : Type 0 where
  -- 02, order 7: 'Planners try a bid and take it back'
  starting : held start ≡ pos 600000
  starting-owed : owed start ≡ pos 0
  tried-export : (sent_to start export).answer ≡ Accepted (pos 450000) (pos 1050000) (pos 0)
  tried-quarters : (sent_to start quarters).answer ≡ Accepted (pos 0) (pos 600000) (pos 0)
  tried-sides : (sent_to start sides).answer ≡ Accepted (pos 30000) (pos 630000) (pos 0)
  -- 'or revise it over and over'
  revised-first : (sent_to bidding twice).answer ≡ Accepted (pos 900000) (pos 1500000) (pos 0)
  revised-same : (sent_to bidding (revision w4)).answer ≡ Accepted (pos 450000) (pos 1050000) (pos 0)
  revised-second : (sent_to (sent_to bidding twice).book at3000).answer ≡ Accepted (pos 300000) (pos 900000) (pos 0)
  quarters-first : (sent_to four_curves (revised_quarters 80)).answer ≡ Accepted (pos 0) (pos 600000) (pos 0)
  quarters-second : (sent_to (sent_to four_curves (revised_quarters 80)).book (revised_quarters 40)).answer ≡ Accepted (pos 0) (pos 600000) (pos 0)
  sides_first : (sent_to two_sides (revised_sides 50)).answer ≡ Accepted (pos 150000) (pos 750000) (pos 0)
  sides-second : (sent_to (sent_to two_sides (revised_sides 50)).book (revised_sides 5)).answer ≡ Accepted (pos 20000) (pos 620000) (pos 0)
  -- three, of which the middle one alone was refused, though it would have been accepted alone: it raises the first, and not what stood before
  short-first : (sent_to short at3000).answer ≡ Accepted (pos 300000) (pos 900000) (pos 0)
  short-middle : (sent_to (sent_to short at3000).book at4000).answer ≡ Refused 16 (pos 900000) (pos 0)
  short-last : (sent_to (after short (at3000 ∷ at4000 ∷ [])) at2000).answer ≡ Accepted (pos 200000) (pos 800000) (pos 0)
  middle-alone : (sent_to short at4000).answer ≡ Accepted (pos 400000) (pos 1000000) (pos 0)

seen : Seen
unfolding after fresh step verdict outcome answer_to done change deed_of table judge answered first lookup find swap missing or_else_blank sound sound_by01 keeps_totals same_cents every distinct ok_place ok_record keeps is_blank is_free same_key at no_records totals held owed held_answered owed_answered owes full suspended sum bid_for intervals_for sides_for key_rows stage_rows point_rows bid_rows curves_rows side_rows bid_verdict curves_verdict sides_verdict bid_mwh bid_requirement virtual_bid by_kind rules_of import_bid export_bid hour_ahead_bid unless_exempt largest_mwh total_mwh mwh_at tried exposure wheel_exposure interval_mwh
seen =
    record {
      starting = refl;
      starting-owed = refl;
      tried-export = refl;
      tried-quarters = refl;
      tried-sides = refl;
      revised-first = refl;
      revised-same = refl;
      revised-second = refl;
      quarters-first = refl;
      quarters-second = refl;
      sides_first = refl;
      sides-second = refl;
      short-first = refl;
      short-middle = refl;
      short-last = refl;
      middle-alone = refl;
    }

-- an acceptance has the number 0
accepted : {a : Answer} {r h o : ℤ} → a ≡ Accepted r h o → (reply a).number ≡ 0
accepted e = ap (λ (a : Answer). (reply a).number) e

-- ---- taken back: each of the three, and the book is the starting one
abbrev withdraw : Key → Sent
withdraw k = sent (Withdraw k) []

opened : (x : Sent) {r h o : ℤ} → opens x.message ≡ true → (sent_to start x).answer ≡ Accepted r h o → Opened start x.message x.mwhs x.prices
opened x b e = record { begins = b; accepted = accepted e }

back : (x : Sent) → TakenBack start x.message x.mwhs x.prices
back x = taken_back start x.message x.mwhs x.prices

pub record TriedAndTakenBack : Type 0 where
  pub export-back : (sent_to (sent_to start export).book (withdraw (key 2))).book ≡ start
  pub quarters-back : (sent_to (sent_to start quarters).book (withdraw (key 5))).book ≡ start
  pub sides-back : (sent_to (sent_to start sides).book (withdraw (record { kind = 6; path = 3; hour = 12 }))).book ≡ start
  pub again : (sent_to (sent_to start export).book (withdraw (key 2))).answer ≡ Accepted (pos 0) (pos 600000) (pos 0)

pub tried-and-taken-back : TriedAndTakenBack
tried-and-taken-back =
    let export-opened = opened export refl seen.tried-export in
    record {
      export-back = (back export).starting export-opened [] [];
      quarters-back = (back quarters).starting (opened quarters refl seen.tried-quarters) [] [];
      sides-back = (back sides).starting (opened sides refl seen.tried-sides) [] [];
      again = (back export).accepted export-opened [] [] ∙ ap₂ (λ (h o : ℤ). Accepted (pos 0) h o) seen.starting seen.starting-owed;
    }

-- ---- revised: the second, and the last of three, are as if sent alone
pub record RevisedAgain : Type 0 where
  pub second : sent_to (sent_to bidding twice).book at3000 ≡ sent_to bidding at3000
  pub second-alone : (sent_to bidding at3000).answer ≡ Accepted (pos 300000) (pos 900000) (pos 0)
  pub quarters-second : sent_to (sent_to four_curves (revised_quarters 80)).book (revised_quarters 40) ≡ sent_to four_curves (revised_quarters 40)
  pub sides-second : sent_to (sent_to two_sides (revised_sides 50)).book (revised_sides 5) ≡ sent_to two_sides (revised_sides 5)
  pub last : sent_to (after short (at3000 ∷ at4000 ∷ [])) at2000 ≡ sent_to short at2000
  pub last-alone : (sent_to short at2000).answer ≡ Accepted (pos 200000) (pos 800000) (pos 0)
  -- and the middle one is not: it was refused after the first, and is accepted alone
  pub middle-refused : number_of (sent_to short at3000).book at4000 ≡ 16
  pub middle-accepted : number_of short at4000 ≡ 0

-- two revisions that were accepted
both : (b : Book) (k : Key) (x y : Sent) {r₁ h₁ o₁ r₂ h₂ o₂ : ℤ} → Revision k x → Revision k y → (sent_to b x).answer ≡ Accepted r₁ h₁ o₁ → (sent_to (sent_to b x).book y).answer ≡ Accepted r₂ h₂ o₂
    → sent_to (sent_to b x).book y ≡ sent_to b y
both b k x y f g d e =
    (second-alone b k x y).same (record { first_revises = f; second_revises = g; first_accepted = accepted d; second_accepted = accepted e })

pub revised-again : RevisedAgain
revised-again =
    let own : (x : Sent) → revises x.message ≡ true → Revision (key_of x.message) x = λ x e. record { revises = e; own = refl } in
    let second = both bidding (key 2) twice at3000 (own twice refl) (own at3000 refl) seen.revised-first seen.revised-second in
    let last = (last-alone short (key 2) (at3000 ∷ at4000 ∷ []) at2000).same
    (record { earlier = (own at3000 refl, (own at4000 refl, tt)); latest = own at2000 refl; last_accepted = accepted seen.short-last }) in
    record {
      second = second;
      second-alone = ap (λ (o : Outcome). o.answer) (sym second) ∙ seen.revised-second;
      quarters-second = both four_curves (key 5) (revised_quarters 80) (revised_quarters 40) (own (revised_quarters 80) refl) (own (revised_quarters 40) refl) seen.quarters-first seen.quarters-second;
      sides-second = both two_sides (key_of (revised_sides 50).message) (revised_sides 50) (revised_sides 5) (own (revised_sides 50) refl) (own (revised_sides 5) refl) seen.sides_first seen.sides-second;
      last = last;
      last-alone = ap (λ (o : Outcome). o.answer) (sym last) ∙ seen.short-last;
      middle-refused = ap (λ (a : Answer). (reply a).number) seen.short-middle;
      middle-accepted = accepted seen.middle-alone;
    }

-- ---- merged: W4, with its 80 MWh at 3,000 in two points that stand apart
abbrev split : List Point
split = point 30 (pos 3000) ∷ point 100 (pos 1000) ∷ point 90 (pos 1500) ∷ point 50 (pos 3000) ∷ point 70 (pos 4500) ∷ []

pub merges : Merges split w4
merges =
    record {
      price = pos 3000;
      mwh = 30;
      more = 50;
      before = [];
      middle = point 100 (pos 1000) ∷ point 90 (pos 1500) ∷ [];
      after = point 70 (pos 4500) ∷ [];
      left = point 100 (pos 1000) ∷ point 90 (pos 1500) ∷ [];
      right = point 70 (pos 4500) ∷ [];
      two_points = refl;
      one_point = refl;
      others = refl;
      limit = refl;
    }

pub record MergedAgain : Type 0 where
  pub same : Merged (opening 2 1200) split w4
  pub answered : (sent_to start (sent (Open (opening 2 1200)) split)).answer ≡ Accepted (pos 450000) (pos 1050000) (pos 0)

pub merged-again : MergedAgain
merged-again =
    let same = merged-points (opening 2 1200) split w4 in
    record { same = same; answered = ap (λ (o : Outcome). o.answer) (same.opened refl merges (omega arith) start) ∙ seen.tried-export }

-- ---- multiplied: what `twice` was answered is twice what the export was
pub multiplied-again : pos 900000 ≡ pos 2 *ℤ pos 450000
multiplied-again =
    (multiplied-bid (opening 2 1200) 2 w4).revised refl
    (record { accepted = accepted seen.revised-same; requirement = ap (λ (a : Answer). (reply a).requirement) seen.revised-same })
    (record { accepted = accepted seen.revised-first; requirement = ap (λ (a : Answer). (reply a).requirement) seen.revised-first })

-- ---- the figures, and what does not hold

abbrev asks : ℕ → List Point → ℕ → ℤ
asks kind points differential = bid_requirement kind points differential false

pub record Figures : Type 0 where
  -- two points at one price, and one
  pub two_points : asks 2 split 1200 ≡ pos 450000
  pub one_point : asks 2 w4 1200 ≡ pos 450000
  pub two-mwh : bid_mwh 2 split ≡ 340
  -- an import's points do not merge: of 5 and 5 MWh the larger counts, 5
  pub import-two : asks 1 (point 5 (pos 4600) ∷ point 5 (pos 4600) ∷ []) 6000 ≡ pos 30000
  pub import-one : asks 1 (point 10 (pos 4600) ∷ []) 6000 ≡ pos 60000
  -- points at two prices do not merge, at either of them
  pub prices-two : asks 3 (point 80 (pos 3000) ∷ point 20 (pos 2000) ∷ []) 0 ≡ pos 240000
  pub prices-higher : asks 3 (point 100 (pos 3000) ∷ []) 0 ≡ pos 300000
  pub prices-lower : asks 3 (point 100 (pos 2000) ∷ []) 0 ≡ pos 200000
  -- two wheels do not add: of 15,000 and 16,000 the larger is asked
  pub wheel-first : asks 4 (point 30 (negsuc 499) ∷ []) 0 ≡ pos 15000
  pub wheel-second : asks 4 (point 40 (negsuc 399) ∷ []) 0 ≡ pos 16000
  pub wheels-both : asks 4 (point 30 (negsuc 499) ∷ point 40 (negsuc 399) ∷ []) 0 ≡ pos 16000
  -- every MWh multiplied
  pub import-thrice : asks 1 (multiplied 3 w1) 6000 ≡ pos 1800000
  pub import-none : asks 1 (multiplied 0 w1) 6000 ≡ pos 0
  pub wheel-thrice : asks 4 (multiplied 3 w9) 0 ≡ pos 48000
  -- 100 times 100 MWh is within a point's limit, 101 times is above
  pub import-within : every is_point_mwh (mwhs_of (multiplied 100 w1)) ≡ true
  pub import-over : every is_point_mwh (mwhs_of (multiplied 101 w1)) ≡ false

pub figures : Figures
unfolding every bid_mwh bid_requirement by_kind rules_of import_bid export_bid hour_ahead_bid unless_exempt largest_mwh total_mwh mwh_at tried exposure wheel_exposure
figures =
    record {
      two_points = refl;
      one_point = refl;
      two-mwh = refl;
      import-two = refl;
      import-one = refl;
      prices-two = refl;
      prices-higher = refl;
      prices-lower = refl;
      wheel-first = refl;
      wheel-second = refl;
      wheels-both = refl;
      import-thrice = refl;
      import-none = refl;
      wheel-thrice = refl;
      import-within = refl;
      import-over = refl;
    }
