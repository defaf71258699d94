-- One message of a dealt run: the whole book W and the two books D stay dealt.
-- The weights f and the tests p are any, so held, net owed and the count of open records are instances.
-- Assumes nothing.
use mathlib.Core.Path.{◌≡◌, refl, sym, ap, ◌∙◌, subst, subst₂}
use mathlib.Core.Bool.{Bool, true, false, cond, not, ◌&&◌, beq}
use mathlib.Core.List.{List, [], ◌∷◌}
use mathlib.Core.Option.{Option, none, some}
use Prim.Native.Nat.{ℕ, ◌+◌, ◌≤◌}
use native.Mathlib.Omega.{arith}
use lib.IntN.{ℤ, pos, ◌+ℤ◌, +ℤ_comm}
use lib.ListN.{length}
use Rattle.amounts.specs.Lists.{total}
use Rattle.amounts.proofs.Signed.{signed, tested, sum_of}
use Rattle.refusals.specs.Refusals.{None}
use Rattle.refusals.proofs.Laws.{never, none-join}
use Rattle.kinds.specs.Kinds.{quarter_hour}
use Rattle.keys.specs.declared.Key.{Key}
use Rattle.keys.specs.Keys.{same_key}
use Rattle.records.specs.declared.types.Record.{Record}
use Rattle.records.specs.Records.{blank, at}
use Rattle.keys.proofs.Laws.{same_key-eq, same_key-refl}
use Rattle.records.proofs.Places.{free-blank}
use Rattle.messages.specs.declared.types.Message.{Message}
use Rattle.messages.specs.declared.types.Message.TheVariants.{Open, Revise, Withdraw, Post, Finish, Bill, Pay, Support, OpenCurves, ReviseCurves, Close, OpenSides, ReviseSides, PostSides}
use Rattle.messages.specs.declared.types.Change.{Change}
use Rattle.messages.specs.declared.types.Change.TheVariants.{Add, Rebid, Advance, Remove, AddPending}
use Rattle.messages.specs.declared.types.Deed.{Deed}
use Rattle.messages.specs.declared.types.Deed.TheVariants.{Keyed}
use Rattle.messages.specs.Plan.{key_of, opens, deed_for, plan_rows}
use Rattle.messages.proofs.Fits.{Fits}
use Rattle.credit.specs.Credit.{credit_rows, answered_by}
use Rattle.book.specs.declared.types.Book.{Book}
use Rattle.book.specs.Places.{find, or_else_blank}
use Rattle.book.specs.Books.{lookup, sound, held, owed, full, totals}
use Rattle.refusals.specs.declared.Answer.{Answer}
use Rattle.refusals.specs.declared.Answer.TheVariants.{Accepted}
use Rattle.refusals.specs.Answers.{reply}
use Rattle.book.proofs.Verdicts.{book_rows, table-parts}
use Rattle.book.specs.Step.{deed_of, done, answer_to, step}
use Rattle.book.proofs.Places.{count}
use Rattle.book.proofs.Effect.{Effect, weight, mark}
use Rattle.book.proofs.Kept.{lookup-none, lookup-some, effect, leaves, done-sound}
use Rattle.demands.proofs.Answers.{none-accepted}
use Rattle.demands.proofs.Accepted.{taken, fitting}
use Rattle.demands.specs.Runs.{Sent, sent_to}
use Rattle.demands.specs.Three.{Unremoved, requirement_of, Dealt, keyed, owner, Follows, top_support}
use Rattle.demands.proofs.Top.{weighed-top}
use Rattle.demands.proofs.Room.{is_used, room-kept}

-- what stands open under the key
abbrev pub under : Key → Book → Option Record
under k b = find (at k) b.records

-- o says whose each key's latest transaction is, H whose the quarter-hour bids of each hour
pub record Deal (o : Key → Bool) (H : ℕ → Bool) (W : Book) (D : Bool → Book) : Type 0 where
  pub finds : (s : Bool) (k : Key) → under k (D s) ≡ cond (beq s (o k)) (under k W) none
  pub sums : (f : Record → ℤ) → f blank ≡ pos 0 → total f W.records ≡ total f (D false).records +ℤ total f (D true).records
  pub marks : (p : Record → Bool) → p blank ≡ false → count p W.records ≡ count p (D false).records + count p (D true).records
  pub size : length W.records ≡ 256
  pub sizes : (s : Bool) → length (D s).records ≡ 256
  pub sane : (s : Bool) → sound (D s) ≡ true
  pub top : (s : Bool) → (totals (D s)).support ≡ pos top_support
  -- 02, order 3: 'all kind 5 keys of an hour dealt to the same book'
  pub hours : (k : Key) (r : Record) → under k W ≡ some r → k.kind ≡ quarter_hour → o k ≡ H k.hour

-- the two books with one of them replaced
abbrev pub put : (Bool → Book) → Bool → Book → Bool → Book
put D true b true = b
put D true b false = D false
put D false b true = D true
put D false b false = b

pub put-each : (P : Book → Type 0) (D : Bool → Book) (s : Bool) (b : Book) → P b → ((t : Bool) → P (D t)) → (t : Bool) → P (put D s b t)
put-each P D true b h k true = h
put-each P D true b h k false = k false
put-each P D false b h k true = k true
put-each P D false b h k false = h

-- a sum of two, where the same change meets the sum and one of the two
shift : (w w' a a' c u v : ℤ) → w' +ℤ u ≡ w +ℤ v → a' +ℤ u ≡ a +ℤ v → w ≡ a +ℤ c → w' ≡ a' +ℤ c
shift w w' a a' c u v h k e = omega (arith, signed, sum_of w' u, sum_of w v, sum_of a' u, sum_of a v, sum_of a c, sum_of a' c)

-- ---- where the key's record stands

opens-none : (b : Book) (m : Message) (c : Change) → Fits (lookup b (key_of m)) m (Keyed c) → opens m ≡ true → under (key_of m) b ≡ none
opens-none b m (Add r) f h = lookup-none b (key_of m) f.free
opens-none b m (Rebid was r) f h = never (sym f.later ∙ h)
opens-none b m (Advance r) f h = never (sym f.later ∙ h)
opens-none b m (Remove k) f h = never (sym f.later ∙ h)
opens-none b m (AddPending r) f h = lookup-none b (key_of m) f.added.free

-- what opens nothing finds a record under its key
later-some : (b : Book) (m : Message) (c : Change) → Fits (lookup b (key_of m)) m (Keyed c) → opens m ≡ false → under (key_of m) b ≡ some (lookup b (key_of m))
later-some b m (Add r) f h = never (sym h ∙ f.begins)
later-some b m (Rebid was r) f h = lookup-some b (key_of m) f.used
later-some b m (Advance r) f h = lookup-some b (key_of m) f.used
later-some b m (Remove k) f h = lookup-some b (key_of m) f.used
later-some b m (AddPending r) f h = never (sym h ∙ f.added.begins)

-- only an open needs a free place
opens-room : (b : Book) (m : Message) (c : Change) → Fits (lookup b (key_of m)) m (Keyed c) → None (credit_rows (totals b) (Keyed c)) → opens m ≡ true → full b ≡ false
unfolding None totals
opens-room b m (Add r) f w h = w.1.0
opens-room b m (Rebid was r) f w h = never (sym f.later ∙ h)
opens-room b m (Advance r) f w h = never (sym f.later ∙ h)
opens-room b m (Remove k) f w h = never (sym f.later ∙ h)
opens-room b m (AddPending r) f w h = w.1.0

beq-refl : (s : Bool) → beq s s ≡ true
beq-refl true = refl
beq-refl false = refl

pub beq-not : (s : Bool) → beq (not s) s ≡ false
beq-not true = refl
beq-not false = refl

cond_same : {A : Type 0} (b : Bool) (x : A) → cond b x x ≡ x
cond_same true x = refl
cond_same false x = refl

-- whose the key is afterwards
owner-mine : (b same s t : Bool) → same ≡ true → (b ≡ false → s ≡ t) → cond (b && same) s t ≡ s
owner-mine true true s t e h = refl
owner-mine true false s t e h = never e
owner-mine false same s t e h = sym (h refl)

owner-others : (b same s t : Bool) → same ≡ false → cond (b && same) s t ≡ t
owner-others true true s t e = never (sym e)
owner-others true false s t e = refl
owner-others false same s t e = refl

module _ (o : Key → Bool) (H : ℕ → Bool) (W : Book) (D : Bool → Book) (I : Deal o H W D) where
  module _ (s : Bool) (m : Message) (follows : opens m ≡ false → s ≡ o (key_of m)) (c : Change) (fits : Fits (lookup W (key_of m)) m (Keyed c)) where
    abbrev its : Key
    its = key_of m

    -- an open's key is open in neither book, and any other's is open on its own side
    opened-find : (t : Bool) → opens m ≡ true → under its (D t) ≡ none
    opened-find t e =
        I.finds t its ∙ ap (λ (x : Option Record). cond (beq t (o its)) x none) (opens-none W m c fits e) ∙ cond_same (beq t (o its)) none

    own-find : under its (D s) ≡ under its W
    own-find =
        tested (opens m) (λ e. opened-find s e ∙ sym (opens-none W m c fits e))
        (λ e. I.finds s its ∙ ap (λ (b : Bool). cond b (under its W) none) (ap (beq s) (sym (follows e)) ∙ beq-refl s))

    other-find : under its (D (not s)) ≡ none
    other-find =
        tested (opens m) (opened-find (not s))
        (λ e. I.finds (not s) its ∙ ap (λ (b : Bool). cond b (under its W) none) (ap (beq (not s)) (sym (follows e)) ∙ beq-not s))

  -- the two books have no more records than the whole one
  fewer : (s : Bool) → count is_used (D s).records ≤ count is_used W.records
  fewer true = omega (arith, I.marks is_used (ap not free-blank))
  fewer false = omega (arith, I.marks is_used (ap not free-blank))

  side-room : (s : Bool) → full W ≡ false → full (D s) ≡ false
  side-room s h = room-kept W (D s) (I.sizes s ∙ sym I.size) (fewer s) h

  -- ---- the changed books

  module _ (o' : Key → Bool) (s : Bool) (k : Key) (ms : List ℕ) (ps : List ℤ) (c : Change)
      (mine : o' k ≡ s) (others : (l : Key) → same_key k l ≡ false → o' l ≡ o l)
      (own : under k (D s) ≡ under k W) (other : under k (D (not s)) ≡ none)
      (EW : Effect k W.records (done W ms ps (Keyed c)).records (leaves c)) (ES : Effect k (D s).records (done (D s) ms ps (Keyed c)).records (leaves c))
      (sane : sound (done (D s) ms ps (Keyed c)) ≡ true) (funds : (totals (done (D s) ms ps (Keyed c))).support ≡ (totals (D s)).support)
      (quarters : k.kind ≡ quarter_hour → s ≡ H k.hour) where
    abbrev W' : Book
    W' = done W ms ps (Keyed c)

    abbrev A : Book
    A = done (D s) ms ps (Keyed c)

    at_key : (s t : Bool) (D : Bool → Book) (A : Book) (n : Option Record) → under k A ≡ n → under k (D (not s)) ≡ none → under k (put D s A t) ≡ cond (beq t s) n none
    at_key true true D A n h e = h
    at_key true false D A n h e = e
    at_key false true D A n h e = e
    at_key false false D A n h e = h

    off-key : (l : Key) (s t : Bool) (D : Bool → Book) (A : Book) → under l A ≡ under l (D s) → under l (put D s A t) ≡ under l (D t)
    off-key l true true D A h = h
    off-key l true false D A h = refl
    off-key l false true D A h = refl
    off-key l false false D A h = h

    here : (t : Bool) → under k (put D s A t) ≡ cond (beq t (o' k)) (under k W') none
    here t =
        at_key s t D A (leaves c) ES.here other ∙ ap (λ (x : Option Record). cond (beq t s) x none) (sym EW.here)
        ∙ ap (λ (b : Bool). cond (beq t b) (under k W') none) (sym mine)

    there : (t : Bool) (l : Key) → same_key k l ≡ false → under l (put D s A t) ≡ cond (beq t (o' l)) (under l W') none
    there t l e =
        off-key l s t D A (ES.there l e) ∙ I.finds t l ∙ ap (λ (x : Option Record). cond (beq t (o l)) x none) (sym (EW.there l e))
        ∙ ap (λ (b : Bool). cond (beq t b) (under l W') none) (sym (others l e))

    finds' : (t : Bool) (l : Key) → under l (put D s A t) ≡ cond (beq t (o' l)) (under l W') none
    finds' t l =
        tested (same_key k l) (λ e. subst (λ (l : Key). under l (put D s A t) ≡ cond (beq t (o' l)) (under l W') none) (same_key-eq k l e) (here t)) (there t l)

    sums' : (s : Bool) (A : Book) (f : Record → ℤ) (u v : ℤ) → total f W'.records +ℤ u ≡ total f W.records +ℤ v
        → total f A.records +ℤ u ≡ total f (D s).records +ℤ v → f blank ≡ pos 0 → total f W'.records ≡ total f (put D s A false).records +ℤ total f (put D s A true).records
    sums' false A f u v h e z =
        shift (total f W.records) (total f W'.records) (total f (D false).records) (total f A.records) (total f (D true).records) u v h e (I.sums f z)
    sums' true A f u v h e z =
        shift (total f W.records) (total f W'.records) (total f (D true).records) (total f A.records) (total f (D false).records) u v h e
        (I.sums f z ∙ +ℤ_comm (total f (D false).records) (total f (D true).records)) ∙ +ℤ_comm (total f A.records) (total f (D false).records)

    marks' : (s : Bool) (A : Book) (p : Record → Bool) (u v : ℕ) → count p W'.records + u ≡ count p W.records + v
        → count p A.records + u ≡ count p (D s).records + v → p blank ≡ false → count p W'.records ≡ count p (put D s A false).records + count p (put D s A true).records
    marks' false A p u v h e z = omega (arith, I.marks p z)
    marks' true A p u v h e z = omega (arith, I.marks p z)

    hours' : (l : Key) (r : Record) → under l W' ≡ some r → l.kind ≡ quarter_hour → o' l ≡ H l.hour
    hours' l r e five =
        tested (same_key k l) (λ q. subst (λ (l : Key). l.kind ≡ quarter_hour → o' l ≡ H l.hour) (same_key-eq k l q) (λ f. mine ∙ quarters f) five)
        (λ q. others l q ∙ I.hours l r (sym (EW.there l q) ∙ e) five)

    pub changed : Deal o' H W' (put D s A)
    changed =
        record {
          finds = finds';
          sums = λ f z. sums' s A f (weight f (under k W)) (weight f (leaves c)) (EW.sums f z)
              (ap (λ (x : Option Record). total f A.records +ℤ weight f x) (sym own) ∙ ES.sums f z) z;
          marks = λ p z. marks' s A p (mark p (under k W)) (mark p (leaves c)) (EW.marks p z)
              (ap (λ (x : Option Record). count p A.records + mark p x) (sym own) ∙ ES.marks p z) z;
          size = EW.size ∙ I.size;
          sizes = put-each (λ b. length b.records ≡ 256) D s A (ES.size ∙ I.sizes s) I.sizes;
          sane = put-each (λ b. sound b ≡ true) D s A sane I.sane;
          top = put-each (λ b. (totals b).support ≡ pos top_support) D s A (funds ∙ I.top s) I.top;
          hours = hours';
        }

-- ---- one message

-- a keyed message asks for a change of the places
keyed-asks : (old : Record) (m : Message) (ms : List ℕ) (ps : List ℤ) → keyed m ≡ true → (c : Change) × (deed_for old m ms ps ≡ Keyed c)
keyed-asks old (Open o) ms ps h = (_, refl)
keyed-asks old (Revise o) ms ps h = (_, refl)
keyed-asks old (Withdraw k) ms ps h = (_, refl)
keyed-asks old (Post p) ms ps h = (_, refl)
keyed-asks old (Finish f) ms ps h = (_, refl)
keyed-asks old (Bill b) ms ps h = (_, refl)
keyed-asks old (Pay k) ms ps h = (_, refl)
keyed-asks old (Support s) ms ps h = never h
keyed-asks old (OpenCurves c) ms ps h = (_, refl)
keyed-asks old (ReviseCurves c) ms ps h = (_, refl)
keyed-asks old (Close c) ms ps h = never h
keyed-asks old (OpenSides s) ms ps h = (_, refl)
keyed-asks old (ReviseSides s) ms ps h = (_, refl)
keyed-asks old (PostSides p) ms ps h = (_, refl)

-- accepted, from the parts of the table
pub takes : (b : Book) (m : Message) (ms : List ℕ) (ps : List ℤ) → sound b ≡ true → None (plan_rows (lookup b (key_of m)) m ms ps) → None (book_rows b ms (deed_of b m ms ps))
    → (reply (step b m ms ps).answer).number ≡ 0
unfolding None
takes b m ms ps h p w =
    none-accepted b m ms ps
    (subst None (sym (table-parts b m ms ps)) (ap not h, none-join (plan_rows (lookup b (key_of m)) m ms ps) (book_rows b ms (deed_of b m ms ps)) p w))

-- a change answers its own requirement, whatever the book
answered-as : (b : Book) (ms : List ℕ) (ps : List ℤ) (c : Change) (d : Deed) (h o : ℤ) (a : Answer) → a ≡ answer_to b ms ps d h o → d ≡ Keyed c → a ≡ Accepted (answered_by c) h o
unfolding answer_to
answered-as b ms ps c d h o a e q = e ∙ ap (λ (x : Deed). answer_to b ms ps x h o) q

-- an acceptance removes no batch
pub accepted-unremoved : (b : Book) (y : Sent) (z h o : ℤ) → (sent_to b y).answer ≡ Accepted z h o → Unremoved b (y ∷ [])
unfolding Unremoved
accepted-unremoved b y z h o e = rw e (refl, tt)

pub record Went (o : Key → Bool) (H : ℕ → Bool) (W : Book) (D : Bool → Book) (x : Dealt) : Type 0 where
  pub taken : (reply (sent_to (D x.side) x.sent).answer).number ≡ 0
  pub unremoved : Unremoved (D x.side) (x.sent ∷ [])
  pub answered : requirement_of (D x.side) x.sent ≡ requirement_of W x.sent
  pub now : Deal (owner o x) H (sent_to W x.sent).book (put D x.side (sent_to (D x.side) x.sent).book)

pub deal-step : (o : Key → Bool) (H : ℕ → Bool) (W : Book) (D : Bool → Book) → Deal o H W D → (x : Dealt) → keyed x.sent.message ≡ true → Follows o H x
    → (reply (sent_to W x.sent).answer).number ≡ 0 → Went o H W D x
unfolding owner deed_of lookup done totals
deal-step o H W D I x keys fair accepted =
    let s = x.side in
    let m = x.sent.message in
    let ms = x.sent.mwhs in
    let ps = x.sent.prices in
    let k = key_of m in
    let follows : opens m ≡ false → s ≡ o k = fair.later keys in
    let asks = keyed-asks (lookup W k) m ms ps keys in
    let c : Change = asks.0 in
    let whole = taken W m ms ps accepted in
    let fits : Fits (lookup W k) m (Keyed c) = subst (Fits (lookup W k) m) asks.1 (fitting W m ms ps whole) in
    let weighed : None (credit_rows (totals W) (Keyed c)) = subst (λ (d : Deed). None (book_rows W ms d)) asks.1 whole.weighed in
    let own : under k (D s) ≡ under k W = own-find o H W D I s m follows c fits in
    let same : lookup (D s) k ≡ lookup W k = ap (or_else_blank blank) own in
    let asks' : deed_for (lookup (D s) k) m ms ps ≡ Keyed c = ap (λ (r : Record). deed_for r m ms ps) same ∙ asks.1 in
    let fits' : Fits (lookup (D s) k) m (Keyed c) = subst (λ (r : Record). Fits r m (Keyed c)) (sym same) fits in
    let room : opens m ≡ true → full (D s) ≡ false = λ e. side-room o H W D I s (opens-room W m c fits weighed e) in
    let weighed' : None (credit_rows (totals (D s)) (Keyed c)) = weighed-top (D s) m (I.sane s) (I.sizes s) (I.top s) (Keyed c) fits' room in
    let accepted' : (reply (step (D s) m ms ps).answer).number ≡ 0 =
    takes (D s) m ms ps (I.sane s) (subst (λ (r : Record). None (plan_rows r m ms ps)) (sym same) whole.planned)
    (subst (λ (d : Deed). None (book_rows (D s) ms d)) (sym asks') weighed') in
    let side = taken (D s) m ms ps accepted' in
    let answers : (b : Book) → deed_of b m ms ps ≡ Keyed c → (step b m ms ps).answer ≡ answer_to b ms ps (deed_of b m ms ps) (held (step b m ms ps).book) (owed (step b m ms ps).book)
    → (step b m ms ps).answer ≡ Accepted (answered_by c) (held (step b m ms ps).book) (owed (step b m ms ps).book) =
    λ b q e. answered-as b ms ps c (deed_of b m ms ps) (held (step b m ms ps).book) (owed (step b m ms ps).book) (step b m ms ps).answer e q in
    record {
      taken = accepted';
      unremoved = accepted-unremoved (D s) x.sent (answered_by c) _ _ (answers (D s) asks' side.answer);
      answered = ap (λ (a : Answer). (reply a).requirement) (answers (D s) asks' side.answer) ∙ sym (ap (λ (a : Answer). (reply a).requirement) (answers W asks.1 whole.answer));
      now =
          subst₂ (λ A B. Deal (owner o x) H A (put D s B)) (sym (whole.next ∙ ap (done W ms ps) asks.1)) (sym (side.next ∙ ap (done (D s) ms ps) asks'))
          (changed o H W D I (owner o x) s k ms ps c (owner-mine (opens m) (same_key k k) s (o k) (same_key-refl k) follows) (λ l e. owner-others (opens m) (same_key k l) s (o l) e) own
          (other-find o H W D I s m follows c fits)
          (effect W m c whole.sane fits weighed)
          (effect (D s) m c (I.sane s) fits' weighed')
          (done-sound (D s) m ms ps (Keyed c) (I.sane s) fits' weighed')
          refl
          (λ five. tested (opens m) (λ e. fair.quarters e five) (λ e. follows e ∙ I.hours k (lookup W k) (later-some W m c fits e) five)));
    }
