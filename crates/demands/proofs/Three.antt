-- Demand 3: dealt books stay dealt over a run (DealtRuns.antt), and three fresh books are dealt (Fresh.antt).
-- Assumes nothing.
use mathlib.Core.Path.{◌≡◌, refl, sym, ap, ◌∙◌, subst, fun_ext}
use mathlib.Core.Bool.{Bool, true, false, cond, ◌&&◌, beq}
use mathlib.Core.List.{List, [], ◌∷◌, ◌++◌}
use mathlib.Core.Logic.{◌⊎◌, inl, inr, ⊎_elim}
use mathlib.Core.Option.{Option, none}
use Prim.Native.Nat.{ℕ}
use lib.IntN.{ℤ, pos}
use Rattle.refusals.proofs.Laws.{never}
use Rattle.kinds.specs.Kinds.{quarter_hour}
use Rattle.keys.specs.declared.Key.{Key}
use Rattle.keys.specs.Keys.{same_key}
use Rattle.records.specs.declared.types.Record.{Record}
use Rattle.records.specs.Records.{blank}
use Rattle.keys.proofs.Laws.{same_key-eq}
use Rattle.messages.specs.declared.types.Closing.{Closing}
use Rattle.messages.specs.declared.types.Message.{Message}
use Rattle.messages.specs.declared.types.Message.TheVariants.{Open, Revise, Withdraw, Post, Finish, Bill, Pay, Support, OpenCurves, ReviseCurves, Close, OpenSides, ReviseSides, PostSides}
use Rattle.messages.specs.Plan.{key_of, opens, zone_key}
use Rattle.credit.specs.Credit.{owes}
use Rattle.book.specs.declared.types.Book.{Book}
use Rattle.book.specs.Places.{or_else_blank}
use Rattle.book.specs.Books.{lookup, held, owed}
use Rattle.book.specs.Step.{fresh}
use Rattle.demands.specs.Runs.{Sent, sent_to}
use Rattle.demands.specs.Three.{Accepted, Unremoved, Dealt, whole, keyed, owner, owners, Follows, Fair, top_support, whole_book, DemandThree}
use Rattle.demands.proofs.Deal.{under}
use Rattle.demands.proofs.DealtRuns.{ends}
use Rattle.demands.proofs.Fresh.{fresh-deal}

or-blank : (b : Bool) (x : Option Record) → or_else_blank blank (cond b x none) ≡ cond b (or_else_blank blank x) blank
unfolding or_else_blank
or-blank true x = refl
or-blank false x = refl

owes-blank : owes blank ≡ pos 0
unfolding owes
owes-blank = refl

-- any support, any run that the fresh book of that support accepts in full with no batch removed, any fair dealing of its transactions
pub demand-three : (o : Key → Bool) (h : ℕ → Bool) (z : ℤ) (xs : List Dealt) → Fair o h xs → Accepted (fresh z).book (whole xs) → Unremoved (fresh z).book (whole xs) → DemandThree o z xs
unfolding fresh lookup held owed
demand-three o h z xs f a u =
    let e = ends xs o h (fresh z).book (λ s. (fresh (pos top_support)).book) (fresh-deal o h z) f a u in
    record {
      begun = refl;
      taken = e.taken;
      unremoved = e.unremoved;
      answers = e.answers;
      records = λ s k. ap (or_else_blank blank) (e.last.finds s k) ∙ or-blank (beq s (owners o xs k)) (under k (whole_book z xs));
      holds = e.last.sums (λ r. r.requirement) refl;
      owes = e.last.sums owes owes-blank;
    }

-- ---- at every moment of a run

fair-first : (o : Key → Bool) (h : ℕ → Bool) (xs ys : List Dealt) → Fair o h (xs ++ ys) → Fair o h xs
unfolding Fair
fair-first o h [] ys f = tt
fair-first o h (x ∷ xs) ys f = (f.0, fair-first (owner o x) h xs ys f.1)

accepted-first : (b : Book) (xs ys : List Dealt) → Accepted b (whole (xs ++ ys)) → Accepted b (whole xs)
unfolding Accepted whole
accepted-first b [] ys a = tt
accepted-first b (x ∷ xs) ys a = (a.0, accepted-first (sent_to b x.sent).book xs ys a.1)

unremoved-first : (b : Book) (xs ys : List Dealt) → Unremoved b (whole (xs ++ ys)) → Unremoved b (whole xs)
unfolding Unremoved whole
unremoved-first b [] ys u = tt
unremoved-first b (x ∷ xs) ys u = (u.0, unremoved-first (sent_to b x.sent).book xs ys u.1)

-- the same after each message of the run
pub demand-three-throughout : (o : Key → Bool) (h : ℕ → Bool) (z : ℤ) (xs ys : List Dealt) → Fair o h (xs ++ ys) → Accepted (fresh z).book (whole (xs ++ ys))
    → Unremoved (fresh z).book (whole (xs ++ ys)) → DemandThree o z xs
demand-three-throughout o h z xs ys f a u =
    demand-three o h z xs (fair-first o h xs ys f) (accepted-first (fresh z).book xs ys a) (unremoved-first (fresh z).book xs ys u)

-- ---- one such dealing: by a function from keys to sides

-- 02, order 3: 'all kind 5 keys of an hour dealt to the same book'
pub record Together (o : Key → Bool) : Type 0 where
  pub hours : (k l : Key) → k.kind ≡ quarter_hour → l.kind ≡ quarter_hour → k.hour ≡ l.hour → o k ≡ o l

-- one of an hour's kind 5 keys
abbrev hour_key : ℕ → Key
hour_key hour = record { kind = quarter_hour; path = 0; hour = hour }

-- the key by which a message is dealt: its own, and a close by its hour's
abbrev goes_by : Message → Key
goes_by (Open m) = m.key
goes_by (Revise m) = m.key
goes_by (Withdraw k) = k
goes_by (Post m) = m.key
goes_by (Finish m) = m.key
goes_by (Bill m) = m.key
goes_by (Pay k) = k
goes_by (Support m) = blank.key
goes_by (OpenCurves m) = m.key
goes_by (ReviseCurves m) = m.key
goes_by (Close c) = hour_key c.hour
goes_by (OpenSides s) = zone_key s.zone s.hour
goes_by (ReviseSides s) = zone_key s.zone s.hour
goes_by (PostSides p) = zone_key p.zone p.hour

unfoldable pub by_key : (Key → Bool) → List Sent → List Dealt
by_key o [] = []
by_key o (x ∷ xs) = record { side = o (goes_by x.message); sent = x } ∷ by_key o xs

own_key : (m : Message) → (goes_by m ≡ key_of m) ⊎ ((c : Closing) × (m ≡ Close c))
own_key (Open m) = inl refl
own_key (Revise m) = inl refl
own_key (Withdraw k) = inl refl
own_key (Post m) = inl refl
own_key (Finish m) = inl refl
own_key (Bill m) = inl refl
own_key (Pay k) = inl refl
own_key (Support m) = inl refl
own_key (OpenCurves m) = inl refl
own_key (ReviseCurves m) = inl refl
own_key (Close c) = inr (c, refl)
own_key (OpenSides s) = inl refl
own_key (ReviseSides s) = inl refl
own_key (PostSides p) = inl refl

keyed-own : (m : Message) → keyed m ≡ true → goes_by m ≡ key_of m
keyed-own m h = ⊎_elim (λ e. e) (λ c. never (sym (ap keyed c.1) ∙ h)) (own_key m)

opens-own : (m : Message) → opens m ≡ true → goes_by m ≡ key_of m
opens-own m h = ⊎_elim (λ e. e) (λ c. never (sym (ap opens c.1) ∙ h)) (own_key m)

still : (o : Key → Bool) (k l : Key) (s b q : Bool) → (b ≡ true → s ≡ o k) → same_key k l ≡ q → o l ≡ cond (b && q) s (o l)
still o k l s true true h e = sym (h refl ∙ ap o (same_key-eq k l e))
still o k l s true false h e = refl
still o k l s false q h e = refl

-- who has a key does not change
owner-by-key : (o : Key → Bool) (x : Sent) → o ≡ owner o (record { side = o (goes_by x.message); sent = x })
unfolding owner
owner-by-key o x =
    let m = x.message in
    fun_ext (λ l. still o (key_of m) l (o (goes_by m)) (opens m) (same_key (key_of m) l) (λ e. ap o (opens-own m e)) refl)

abbrev hourly : (Key → Bool) → ℕ → Bool
hourly o hour = o (hour_key hour)

pub fair-by-key : (o : Key → Bool) → Together o → (xs : List Sent) → Fair o (hourly o) (by_key o xs)
unfolding Fair by_key
fair-by-key o t [] = tt
fair-by-key o t (x ∷ xs) =
    let m = x.message in
    let follows : Follows o (hourly o) (record { side = o (goes_by m); sent = x }) =
    record {
      later = λ h l. ap o (keyed-own m h);
      quarters = λ e five. ap o (opens-own m e) ∙ t.hours (key_of m) (hour_key (key_of m).hour) five refl refl;
      closing = λ c e. ap (λ (n : Message). o (goes_by n)) e;
    } in
    (follows, subst (λ (q : Key → Bool). Fair q (hourly o) (by_key o xs)) (owner-by-key o x) (fair-by-key o t xs))

pub whole-by-key : (o : Key → Bool) (xs : List Sent) → whole (by_key o xs) ≡ xs
unfolding whole by_key
whole-by-key o [] = refl
whole-by-key o (x ∷ xs) = ap (λ (ys : List Sent). x ∷ ys) (whole-by-key o xs)

pub owners-by-key : (o : Key → Bool) (xs : List Sent) → owners o (by_key o xs) ≡ o
unfolding owners by_key
owners-by-key o [] = refl
owners-by-key o (x ∷ xs) = subst (λ (q : Key → Bool). owners q (by_key o xs) ≡ o) (owner-by-key o x) (owners-by-key o xs)

-- demand 3 where each key goes to one side
pub demand-three-by-key : (o : Key → Bool) → Together o → (z : ℤ) (xs : List Sent) → Accepted (fresh z).book xs → Unremoved (fresh z).book xs → DemandThree o z (by_key o xs)
demand-three-by-key o t z xs a u =
    demand-three o (hourly o) z (by_key o xs) (fair-by-key o t xs) (subst (Accepted (fresh z).book) (sym (whole-by-key o xs)) a)
    (subst (Unremoved (fresh z).book) (sym (whole-by-key o xs)) u)
