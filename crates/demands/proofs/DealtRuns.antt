-- Dealt books over a whole run, by induction on the run.
-- Assumes nothing.
use mathlib.Core.Path.{◌≡◌, refl, sym, ap, ap₂, ◌∙◌, subst, fun_ext}
use mathlib.Core.Bool.{Bool, true, false, cond, ◌&&◌, beq}
use mathlib.Core.List.{List, [], ◌∷◌}
use Prim.Native.Nat.{ℕ}
use lib.IntN.{ℤ}
use Rattle.amounts.proofs.Signed.{tested}
use Rattle.refusals.proofs.Laws.{never}
use Rattle.keys.specs.declared.Key.{Key}
use Rattle.keys.specs.Keys.{same_key}
use Rattle.messages.specs.declared.types.Funding.{Funding}
use Rattle.messages.specs.declared.types.Closing.{Closing}
use Rattle.messages.specs.declared.types.Message.{Message}
use Rattle.messages.specs.declared.types.Message.TheVariants.{Open, Revise, Withdraw, Post, Finish, Bill, Pay, Support, OpenCurves, ReviseCurves, Close, OpenSides, ReviseSides, PostSides}
use Rattle.messages.specs.declared.types.Deed.TheVariants.{SetSupport}
use Rattle.messages.specs.Plan.{key_of, opens}
use Rattle.book.specs.declared.types.Book.{Book}
use Rattle.refusals.specs.Answers.{reply}
use Rattle.book.specs.Step.{done, step}
use Rattle.demands.specs.Runs.{Sent, sent_to, after}
use Rattle.demands.proofs.Requirements.{support-sets}
use Rattle.demands.specs.Three.{Accepted, Unremoved, requirement_of, requirements, Dealt, whole, keyed, is_dealt, part, owner, owners, Fair, requirements_to}
use Rattle.demands.proofs.Deal.{Deal, put, Went, deal-step}
use Rattle.demands.proofs.CloseStep.{close-step}

pub record Ends (o : Key → Bool) (H : ℕ → Bool) (W : Book) (D : Bool → Book) (xs : List Dealt) : Type 0 where
  pub taken : (s : Bool) → Accepted (D s) (part s xs)
  pub unremoved : (s : Bool) → Unremoved (D s) (part s xs)
  pub answers : (s : Bool) → requirements (D s) (part s xs) ≡ requirements_to s W xs
  pub last : Deal (owners o xs) H (after W (whole xs)) (λ s. after (D s) (part s xs))

-- ---- one message more

module _ (x : Dealt) (xs : List Dealt) (s b : Bool) (e : is_dealt x.sent.message ≡ b) where
  part-is : part s (x ∷ xs) ≡ cond (b && beq s x.side) (x.sent ∷ part s xs) (part s xs)
  unfolding part
  part-is = ap (λ (q : Bool). cond (q && beq s x.side) (x.sent ∷ part s xs) (part s xs)) e

  answers-are : (W : Book) → requirements_to s W (x ∷ xs)
      ≡ cond (b && beq s x.side) (requirement_of W x.sent ∷ requirements_to s (sent_to W x.sent).book xs) (requirements_to s (sent_to W x.sent).book xs)
  unfolding requirements_to
  answers-are W =
      ap (λ (q : Bool). cond (q && beq s x.side) (requirement_of W x.sent ∷ requirements_to s (sent_to W x.sent).book xs) (requirements_to s (sent_to W x.sent).book xs)) e

-- the side s is sent y, and the side t then has what it had, or is the one that has y first
module _ (D : Bool → Book) (y : Sent) (ys : List Sent) where
  one-taken : (s t : Bool) → (reply (sent_to (D s) y).answer).number ≡ 0 → Accepted (put D s (sent_to (D s) y).book t) ys → Accepted (D t) (cond (beq t s) (y ∷ ys) ys)
  unfolding Accepted
  one-taken true true h a = (h, a)
  one-taken true false h a = a
  one-taken false true h a = a
  one-taken false false h a = (h, a)

  one-unremoved : (s t : Bool) → Unremoved (D s) (y ∷ []) → Unremoved (put D s (sent_to (D s) y).book t) ys → Unremoved (D t) (cond (beq t s) (y ∷ ys) ys)
  unfolding Unremoved
  one-unremoved true true h a = (h.0, a)
  one-unremoved true false h a = a
  one-unremoved false true h a = a
  one-unremoved false false h a = (h.0, a)

  one-answered : (s t : Bool) (z : ℤ) (zs : List ℤ) → requirement_of (D s) y ≡ z → requirements (put D s (sent_to (D s) y).book t) ys ≡ zs
      → requirements (D t) (cond (beq t s) (y ∷ ys) ys) ≡ cond (beq t s) (z ∷ zs) zs
  unfolding requirements
  one-answered true true z zs h a = ap₂ (λ u v. u ∷ v) h a
  one-answered true false z zs h a = a
  one-answered false true z zs h a = a
  one-answered false false z zs h a = ap₂ (λ u v. u ∷ v) h a

  one-after : (s t : Bool) → after (put D s (sent_to (D s) y).book t) ys ≡ after (D t) (cond (beq t s) (y ∷ ys) ys)
  unfolding after
  one-after true true = refl
  one-after true false = refl
  one-after false true = refl
  one-after false false = refl

-- ---- a support change: the whole book alone has it, and it changes no record

undealt : (m : Message) → is_dealt m ≡ false → (f : Funding) × (m ≡ Support f)
undealt (Open o) h = never (sym h)
undealt (Revise o) h = never (sym h)
undealt (Withdraw k) h = never (sym h)
undealt (Post p) h = never (sym h)
undealt (Finish f) h = never (sym h)
undealt (Bill b) h = never (sym h)
undealt (Pay k) h = never (sym h)
undealt (Support f) h = (f, refl)
undealt (OpenCurves c) h = never (sym h)
undealt (ReviseCurves c) h = never (sym h)
undealt (Close c) h = never (sym h)
undealt (OpenSides s) h = never (sym h)
undealt (ReviseSides s) h = never (sym h)
undealt (PostSides p) h = never (sym h)

module _ (o : Key → Bool) (H : ℕ → Bool) (W : Book) (D : Bool → Book) (I : Deal o H W D) where
  supported : (ms : List ℕ) (ps : List ℤ) (z : ℤ) → Deal o H (done W ms ps (SetSupport z)) D
  unfolding done
  supported ms ps z =
      record { finds = I.finds; sums = I.sums; marks = I.marks; size = I.size; sizes = I.sizes; sane = I.sane; top = I.top; hours = I.hours }

  deal-support : (x : Dealt) → is_dealt x.sent.message ≡ false → (reply (sent_to W x.sent).answer).number ≡ 0 → Deal (owner o x) H (sent_to W x.sent).book D
  unfolding owner
  deal-support x e h =
      let is = undealt x.sent.message e in
      let ms = x.sent.mwhs in
      let ps = x.sent.prices in
      let next : (sent_to W x.sent).book ≡ done W ms ps (SetSupport is.0.cents) =
      ap (λ (m : Message). (step W m ms ps).book) is.1 ∙ support-sets W ms ps is.0 (subst (λ (m : Message). (reply (step W m ms ps).answer).number ≡ 0) is.1 h) in
      let still : (k : Key) → o k ≡ owner o x k = λ k. ap (λ (m : Message). cond (opens m && same_key (key_of x.sent.message) k) x.side (o k)) (sym is.1) in
      subst (λ (A : Book). Deal (owner o x) H A D) (sym next)
      (subst (λ (q : Key → Bool). Deal q H (done W ms ps (SetSupport is.0.cents)) D) (fun_ext still) (supported ms ps is.0.cents))

module _ (o : Key → Bool) (H : ℕ → Bool) (W : Book) (D : Bool → Book) (x : Dealt) (xs : List Dealt) where
  abbrev W' : Book
  W' = (sent_to W x.sent).book

  goes-dealt : is_dealt x.sent.message ≡ true → Went o H W D x → Ends (owner o x) H W' (put D x.side (sent_to (D x.side) x.sent).book) xs → Ends o H W D (x ∷ xs)
  unfolding owners after whole
  goes-dealt e w n =
      record {
        taken = λ t. subst (Accepted (D t)) (sym (part-is x xs t true e)) (one-taken D x.sent (part t xs) x.side t w.taken (n.taken t));
        unremoved = λ t. subst (Unremoved (D t)) (sym (part-is x xs t true e)) (one-unremoved D x.sent (part t xs) x.side t w.unremoved (n.unremoved t));
        answers = λ t. ap (requirements (D t)) (part-is x xs t true e)
            ∙ one-answered D x.sent (part t xs) x.side t (requirement_of W x.sent) (requirements_to t W' xs) w.answered (n.answers t) ∙ sym (answers-are x xs t true e W);
        last =
            subst (λ (E : Bool → Book). Deal (owners (owner o x) xs) H (after W' (whole xs)) E)
            (fun_ext (λ t. one-after D x.sent (part t xs) x.side t ∙ ap (after (D t)) (sym (part-is x xs t true e))))
            n.last;
      }

  goes-support : is_dealt x.sent.message ≡ false → Ends (owner o x) H W' D xs → Ends o H W D (x ∷ xs)
  unfolding owners after whole
  goes-support e n =
      record {
        taken = λ t. subst (Accepted (D t)) (sym (part-is x xs t false e)) (n.taken t);
        unremoved = λ t. subst (Unremoved (D t)) (sym (part-is x xs t false e)) (n.unremoved t);
        answers = λ t. ap (requirements (D t)) (part-is x xs t false e) ∙ n.answers t ∙ sym (answers-are x xs t false e W);
        last =
            subst (λ (E : Bool → Book). Deal (owners (owner o x) xs) H (after W' (whole xs)) E)
            (fun_ext (λ t. ap (after (D t)) (sym (part-is x xs t false e))))
            n.last;
      }

ends-none : (o : Key → Bool) (H : ℕ → Bool) (W : Book) (D : Bool → Book) → Deal o H W D → Ends o H W D []
unfolding Accepted Unremoved part owners after whole requirements requirements_to
ends-none o H W D I = record { taken = λ s. tt; unremoved = λ s. tt; answers = λ s. refl; last = I }

-- ---- a message that is dealt: keyed, or a close

closes : (m : Message) → is_dealt m ≡ true → keyed m ≡ false → (c : Closing) × (m ≡ Close c)
closes (Open o) d h = never (sym h)
closes (Revise o) d h = never (sym h)
closes (Withdraw k) d h = never (sym h)
closes (Post p) d h = never (sym h)
closes (Finish f) d h = never (sym h)
closes (Bill b) d h = never (sym h)
closes (Pay k) d h = never (sym h)
closes (Support f) d h = never d
closes (OpenCurves c) d h = never (sym h)
closes (ReviseCurves c) d h = never (sym h)
closes (Close c) d h = (c, refl)
closes (OpenSides s) d h = never (sym h)
closes (ReviseSides s) d h = never (sym h)
closes (PostSides p) d h = never (sym h)

pub ends : (xs : List Dealt) (o : Key → Bool) (H : ℕ → Bool) (W : Book) (D : Bool → Book) → Deal o H W D → Fair o H xs → Accepted W (whole xs) → Unremoved W (whole xs) → Ends o H W D xs
unfolding Fair Accepted Unremoved whole
ends [] o H W D I f a u = ends-none o H W D I
ends (x ∷ xs) o H W D I f a u =
    let m = x.sent.message in
    let rest : (E : Bool → Book) → Deal (owner o x) H (sent_to W x.sent).book E → Ends (owner o x) H (sent_to W x.sent).book E xs =
    λ E J. ends xs (owner o x) H (sent_to W x.sent).book E J f.1 a.1 u.1 in
    let went : is_dealt m ≡ true → Went o H W D x → Ends o H W D (x ∷ xs) =
    λ e w. goes-dealt o H W D x xs e w (rest (put D x.side (sent_to (D x.side) x.sent).book) w.now) in
    tested (is_dealt m)
    (λ d. tested (keyed m) (λ e. went d (deal-step o H W D I x e f.0 a.0))
    (λ e. let c = closes m d e in went d (close-step o H W D I x c.0 c.1 (f.0.closing c.0 c.1) a.0 u.0)))
    (λ d. goes-support o H W D x xs d (rest D (deal-support o H W D I x d a.0)))
