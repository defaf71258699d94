-- The table of each message: no row has the number 0, and its parts stand one below the other.
-- Assumes nothing.
use mathlib.Core.Path.{◌≡◌, refl, sym, ap, ◌∙◌}
use mathlib.Core.Bool.{Bool, true, false, not, cond, ◌&&◌}
use mathlib.Core.List.{List, [], ◌∷◌, ◌++◌}
use Prim.Native.Nat.{ℕ}
use lib.Dec.{leb, eqb}
use lib.IntN.{ℤ}
use borrow.Author.Tests.{eqb-true}
use Rattle.std.proofs.lemmas.List.{append_assoc}
use Rattle.refusals.specs.Refusals.{Row, row, first, Verdict, refuse, accept, answered, judge, or_else}
use Rattle.refusals.specs.Figures.{refusal_of}
use Rattle.refusals.specs.declared.Bid.{Bid}
use Rattle.refusals.proofs.Laws.{numbered, first-append, numbered-append, judge-accept, stopped, passed}
use Rattle.bids.specs.Rows.{bid_rows}
use Rattle.deliveries.specs.Rows.{delivery_rows, bill_rows}
use Rattle.kinds.specs.Kinds.{is_kind, kind_row, rules_of, bid_stage, billed_stage}
use Rattle.bids.specs.Entries.{bid_verdict}
use Rattle.bids.proofs.Curves.{bid-rows-numbered}
use Rattle.deliveries.proofs.Numbered.{delivery-rows-numbered, bill-rows-numbered}
use Rattle.intervals.specs.Intervals.{curves_rows, curves_verdict}
use Rattle.intervals.proofs.Laws.{curves-rows-numbered, curves-refusal-is}
use Rattle.closings.proofs.Laws.{close-rows-numbered}
use Rattle.virtuals.specs.Virtuals.{side_rows, mwh_rows, bid_verdict as sides_verdict}
use Rattle.virtuals.proofs.Laws.{side-rows-numbered, mwh-rows-numbered, bid-number}
use Rattle.keys.specs.declared.Key.{Key}
use Rattle.keys.specs.Keys.{key_rows}
use Rattle.records.specs.declared.types.Record.{Record}
use Rattle.records.specs.Records.{is_free}
use Rattle.messages.specs.Plan.{Deed, Message, Opening, Curves, Sides, Open, Revise, Withdraw, Post, Finish, Bill, Pay, Support, OpenCurves, ReviseCurves, Close, OpenSides, ReviseSides, PostSides, zone_key, stage_rows, plan_rows}

-- ---- no row has the number 0
pub key-rows-numbered : (k : Key) → numbered (key_rows k) ≡ true
unfolding numbered key_rows
key-rows-numbered k = refl

pub stage-rows-numbered : (old : Record) (right : Bool) → numbered (stage_rows old right) ≡ true
unfolding numbered stage_rows
stage-rows-numbered old right = refl

one-numbered : (n : ℕ) (t : Bool) → not (eqb n 0) ≡ true → numbered (row n t ∷ []) ≡ true
unfolding numbered
one-numbered n t h = rw h

pub plan-rows-numbered : (old : Record) (m : Message) (ms : List ℕ) (ps : List ℤ) → numbered (plan_rows old m ms ps) ≡ true
plan-rows-numbered old (Open o) ms ps =
    let bid = bid_rows o.key.kind ms ps o.differential in
    numbered-append (key_rows o.key) _ (key-rows-numbered o.key)
    (numbered-append bid _ (bid-rows-numbered o.key.kind ms ps o.differential) (one-numbered 10 (not (is_free old)) refl))
plan-rows-numbered old (Revise o) ms ps =
    let bid = bid_rows o.key.kind ms ps o.differential in
    numbered-append (key_rows o.key) _ (key-rows-numbered o.key)
    (numbered-append bid _ (bid-rows-numbered o.key.kind ms ps o.differential) (stage-rows-numbered old (eqb old.stage bid_stage)))
plan-rows-numbered old (Withdraw k) ms ps =
    numbered-append (key_rows k) _ (key-rows-numbered k) (stage-rows-numbered old (eqb old.stage bid_stage))
plan-rows-numbered old (Post p) ms ps =
    let delivery = delivery_rows p.key.kind p.schedule p.price p.second in
    let stage = eqb old.stage (rules_of p.key.kind).posted in
    numbered-append (key_rows p.key) _ (key-rows-numbered p.key)
    (numbered-append delivery _ (delivery-rows-numbered p.key.kind p.schedule p.price p.second)
    (numbered-append (stage_rows old stage) _ (stage-rows-numbered old stage) (one-numbered 13 (not (leb p.schedule old.mwh)) refl)))
plan-rows-numbered old (Finish f) ms ps =
    let delivery = delivery_rows f.key.kind f.actual f.price f.second in
    numbered-append (key_rows f.key) _ (key-rows-numbered f.key)
    (numbered-append delivery _ (delivery-rows-numbered f.key.kind f.actual f.price f.second)
    (stage-rows-numbered old (eqb old.stage (rules_of f.key.kind).finished)))
plan-rows-numbered old (Bill b) ms ps =
    numbered-append (key_rows b.key) _ (key-rows-numbered b.key)
    (numbered-append (bill_rows b.cents) _ (bill-rows-numbered b.cents) (stage-rows-numbered old (eqb old.stage (rules_of b.key.kind).billed)))
plan-rows-numbered old (Pay k) ms ps = numbered-append (key_rows k) _ (key-rows-numbered k) (stage-rows-numbered old (eqb old.stage billed_stage))
plan-rows-numbered old (Support s) ms ps = one-numbered 9 _ refl
plan-rows-numbered old (OpenCurves c) ms ps =
    numbered-append (key_rows c.key) _ (key-rows-numbered c.key)
    (numbered-append (curves_rows c.key.kind c.counts ms ps) _ (curves-rows-numbered c.key.kind c.counts ms ps) (one-numbered 10 (not (is_free old)) refl))
plan-rows-numbered old (ReviseCurves c) ms ps =
    numbered-append (key_rows c.key) _ (key-rows-numbered c.key)
    (numbered-append (curves_rows c.key.kind c.counts ms ps) _ (curves-rows-numbered c.key.kind c.counts ms ps) (stage-rows-numbered old (eqb old.stage bid_stage)))
plan-rows-numbered old (Close c) ms ps = close-rows-numbered c.hour ms ps
plan-rows-numbered old (OpenSides s) ms ps =
    let key = zone_key s.zone s.hour in
    numbered-append (key_rows key) _ (key-rows-numbered key)
    (numbered-append (side_rows s.load s.supply) _ (side-rows-numbered s.load s.supply) (one-numbered 10 (not (is_free old)) refl))
plan-rows-numbered old (ReviseSides s) ms ps =
    let key = zone_key s.zone s.hour in
    numbered-append (key_rows key) _ (key-rows-numbered key)
    (numbered-append (side_rows s.load s.supply) _ (side-rows-numbered s.load s.supply) (stage-rows-numbered old (eqb old.stage bid_stage)))
plan-rows-numbered old (PostSides p) ms ps =
    let key = zone_key p.zone p.hour in
    let stage = eqb old.stage bid_stage in
    numbered-append (key_rows key) _ (key-rows-numbered key)
    (numbered-append (mwh_rows p.load p.supply) _ (mwh-rows-numbered p.load p.supply)
    (numbered-append (stage_rows old stage) _ (stage-rows-numbered old stage) (one-numbered 13 (not (leb p.load old.mwh && leb p.supply old.supply.mwh)) refl)))

-- ---- one table below another, by what each gives
pub key_above : (k : Key) (rest : List Row) → first (key_rows k ++ rest) ≡ or_else (first (key_rows k)) (first rest)
key_above k rest = first-append (key_rows k) rest (key-rows-numbered k)

pub last_row : (n : ℕ) (t : Bool) → first (row n t ∷ []) ≡ cond t n 0
unfolding first
last_row n t = refl

pub stage-above : (old : Record) (right : Bool) (rest : List Row) → first (stage_rows old right ++ rest) ≡ or_else (first (stage_rows old right)) (first rest)
stage-above old right rest = first-append (stage_rows old right) rest (stage-rows-numbered old right)

pub delivery-above : (kind mwh : ℕ) (price second : ℤ) (rest : List Row) → first (delivery_rows kind mwh price second ++ rest) ≡ or_else (first (delivery_rows kind mwh price second)) (first rest)
delivery-above kind mwh price second rest = first-append (delivery_rows kind mwh price second) rest (delivery-rows-numbered kind mwh price second)

pub bill-above : (cents : ℤ) (rest : List Row) → first (bill_rows cents ++ rest) ≡ or_else (first (bill_rows cents)) (first rest)
bill-above cents rest = first-append (bill_rows cents) rest (bill-rows-numbered cents)

-- ---- the number that the library's bid answers
bid-by : (t : Bool) (n : ℕ) (bid : Bid) → eqb n 0 ≡ t → refusal_of (cond t (accept bid) (refuse n)) ≡ n
bid-by true n bid e = sym (eqb-true n 0 e)
bid-by false n bid e = refl

bid-refusal : (kind : ℕ) (ms : List ℕ) (ps : List ℤ) (differential : ℕ) (exempt : Bool) → refusal_of (bid_verdict kind ms ps differential exempt) ≡ first (kind_row kind ∷ bid_rows kind ms ps differential)
unfolding bid_verdict judge answered
bid-refusal kind ms ps differential exempt = let n = first (kind_row kind ∷ bid_rows kind ms ps differential) in bid-by (eqb n 0) n _ refl

-- the number that it answers to an open or a revise
abbrev pub bid_number : Opening → List ℕ → List ℤ → ℕ
bid_number o ms ps = refusal_of (bid_verdict o.key.kind ms ps o.differential o.exempt)

-- the library tests the kind again, which the key's rows have passed
kind-by : (t : Bool) (rest n below : ℕ) → or_else (cond (not t) 2 rest) (or_else (cond (not t) 2 n) below) ≡ or_else (cond (not t) 2 rest) (or_else n below)
unfolding or_else
kind-by true rest n below = refl
kind-by false rest n below = refl

kind-once : (k : Key) (rows : List Row) (below : ℕ) → or_else (first (key_rows k)) (or_else (first (kind_row k.kind ∷ rows)) below) ≡ or_else (first (key_rows k)) (or_else (first rows) below)
unfolding first key_rows
kind-once k rows below = kind-by (is_kind k.kind) _ (first rows) below

bid-above : (o : Opening) (ms : List ℕ) (ps : List ℤ) (rest : List Row) → first (key_rows o.key ++ (bid_rows o.key.kind ms ps o.differential ++ rest)) ≡ or_else (first (key_rows o.key)) (or_else (bid_number o ms ps) (first rest))
bid-above o ms ps rest =
    let rows = bid_rows o.key.kind ms ps o.differential in
    key_above o.key (rows ++ rest)
    ∙ ap (or_else (first (key_rows o.key))) (first-append rows rest (bid-rows-numbered o.key.kind ms ps o.differential))
    ∙ sym (kind-once o.key rows (first rest))
    ∙ ap (λ (n : ℕ). or_else (first (key_rows o.key)) (or_else n (first rest))) (sym (bid-refusal o.key.kind ms ps o.differential o.exempt))

pub open-table : (old : Record) (o : Opening) (ms : List ℕ) (ps : List ℤ) → or_else (first (key_rows o.key)) (or_else (bid_number o ms ps) (cond (not (is_free old)) 10 0)) ≡ first (plan_rows old (Open o) ms ps)
open-table old o ms ps =
    let free = row 10 (not (is_free old)) ∷ [] in sym (bid-above o ms ps free ∙ ap (λ (n : ℕ). or_else (first (key_rows o.key)) (or_else (bid_number o ms ps) n)) (last_row 10 (not (is_free old))))

pub revise-table : (old : Record) (o : Opening) (ms : List ℕ) (ps : List ℤ) → or_else (first (key_rows o.key)) (or_else (bid_number o ms ps) (first (stage_rows old (eqb old.stage bid_stage)))) ≡ first (plan_rows old (Revise o) ms ps)
revise-table old o ms ps = sym (bid-above o ms ps (stage_rows old (eqb old.stage bid_stage)))

-- ---- four curves (02, order 3)
abbrev pub curves_number : Curves → List ℕ → List ℤ → ℕ
curves_number c ms ps = refusal_of (curves_verdict c.key.kind c.counts ms ps)

curves-above : (c : Curves) (ms : List ℕ) (ps : List ℤ) (rest : List Row) → first (key_rows c.key ++ (curves_rows c.key.kind c.counts ms ps ++ rest)) ≡ or_else (first (key_rows c.key)) (or_else (curves_number c ms ps) (first rest))
curves-above c ms ps rest =
    let rows = curves_rows c.key.kind c.counts ms ps in
    key_above c.key (rows ++ rest)
    ∙ ap (or_else (first (key_rows c.key))) (first-append rows rest (curves-rows-numbered c.key.kind c.counts ms ps))
    ∙ sym (kind-once c.key rows (first rest))
    ∙ ap (λ (n : ℕ). or_else (first (key_rows c.key)) (or_else n (first rest))) (sym (curves-refusal-is c.key.kind c.counts ms ps))

pub open-curves-table : (old : Record) (c : Curves) (ms : List ℕ) (ps : List ℤ) → or_else (first (key_rows c.key)) (or_else (curves_number c ms ps) (cond (not (is_free old)) 10 0)) ≡ first (plan_rows old (OpenCurves c) ms ps)
open-curves-table old c ms ps =
    let free = row 10 (not (is_free old)) ∷ [] in sym (curves-above c ms ps free ∙ ap (λ (n : ℕ). or_else (first (key_rows c.key)) (or_else (curves_number c ms ps) n)) (last_row 10 (not (is_free old))))

pub revise-curves-table : (old : Record) (c : Curves) (ms : List ℕ) (ps : List ℤ) → or_else (first (key_rows c.key)) (or_else (curves_number c ms ps) (first (stage_rows old (eqb old.stage bid_stage)))) ≡ first (plan_rows old (ReviseCurves c) ms ps)
revise-curves-table old c ms ps = sym (curves-above c ms ps (stage_rows old (eqb old.stage bid_stage)))

-- ---- two sides (02, order 6)
abbrev pub sides_number : Sides → ℕ
sides_number s = refusal_of (sides_verdict s.load s.supply)

sides-above : (s : Sides) (rest : List Row) → first (key_rows (zone_key s.zone s.hour) ++ (side_rows s.load s.supply ++ rest)) ≡ or_else (first (key_rows (zone_key s.zone s.hour))) (or_else (sides_number s) (first rest))
sides-above s rest =
    let key = zone_key s.zone s.hour in
    let rows = side_rows s.load s.supply in
    key_above key (rows ++ rest)
    ∙ ap (or_else (first (key_rows key))) (first-append rows rest (side-rows-numbered s.load s.supply))
    ∙ ap (λ (n : ℕ). or_else (first (key_rows key)) (or_else n (first rest))) (sym (bid-number s.load s.supply))

pub open-sides-table : (old : Record) (s : Sides) (ms : List ℕ) (ps : List ℤ) → or_else (first (key_rows (zone_key s.zone s.hour))) (or_else (sides_number s) (cond (not (is_free old)) 10 0)) ≡ first (plan_rows old (OpenSides s) ms ps)
open-sides-table old s ms ps =
    let free = row 10 (not (is_free old)) ∷ [] in
    sym (sides-above s free ∙ ap (λ (n : ℕ). or_else (first (key_rows (zone_key s.zone s.hour))) (or_else (sides_number s) n)) (last_row 10 (not (is_free old))))

pub revise-sides-table : (old : Record) (s : Sides) (ms : List ℕ) (ps : List ℤ) → or_else (first (key_rows (zone_key s.zone s.hour))) (or_else (sides_number s) (first (stage_rows old (eqb old.stage bid_stage)))) ≡ first (plan_rows old (ReviseSides s) ms ps)
revise-sides-table old s ms ps = sym (sides-above s (stage_rows old (eqb old.stage bid_stage)))

pub mwh-above : (load supply : ℕ) (rest : List Row) → first (mwh_rows load supply ++ rest) ≡ or_else (first (mwh_rows load supply)) (first rest)
mwh-above load supply rest = first-append (mwh_rows load supply) rest (mwh-rows-numbered load supply)

-- ---- one table above another, as the code asks them
module _ (above rest : List Row) (x : Deed) (h : numbered above ≡ true) where
  -- n is the number that the upper gives up with
  pub above_refused : (n : ℕ) → refuse n ≡ judge above (tt {0}) → refuse n ≡ judge (above ++ rest) x
  above_refused n e = stopped above rest n (tt {0}) x h e

  -- and once it is passed
  pub above_passed : accept (tt {0}) ≡ judge above (tt {0}) → judge rest x ≡ judge (above ++ rest) x
  above_passed e = sym (passed above rest (tt {0}) (tt {0}) x h e)

-- ---- the key's rows and a bid's, above what is asked of the record under the key
keyed-numbered : (k : Key) (bid : List Row) → numbered bid ≡ true → numbered (key_rows k ++ bid) ≡ true
keyed-numbered k bid h = numbered-append (key_rows k) bid (key-rows-numbered k) h

module _ {U X : Type 0} (k : Key) (bid below : List Row) (h : numbered bid ≡ true) where
  pub keyed_refused : (n : ℕ) (u : U) (x : X) → ◌≡◌ {A = Verdict U} (refuse n) (judge (key_rows k ++ bid) u) → ◌≡◌ {A = Verdict X} (refuse n) (judge (key_rows k ++ (bid ++ below)) x)
  keyed_refused n u x e = stopped (key_rows k ++ bid) below n u x (keyed-numbered k bid h) e ∙ ap (λ (rs : List Row). judge rs x) (append_assoc (key_rows k) bid below)

  -- f is what is done with the record that was made
  pub keyed_passed : (u v : U) (f : U → X) → ◌≡◌ {A = Verdict U} (accept v) (judge (key_rows k ++ bid) u) → judge below (f v) ≡ judge (key_rows k ++ (bid ++ below)) (f u)
  keyed_passed u v f e =
      ap (λ (r : U). judge below (f r)) (sym (judge-accept (key_rows k ++ bid) u v (keyed-numbered k bid h) (sym e)).1)
      ∙ sym (passed (key_rows k ++ bid) below u v (f u) (keyed-numbered k bid h) e)
      ∙ ap (λ (rs : List Row). judge rs (f u)) (append_assoc (key_rows k) bid below)
