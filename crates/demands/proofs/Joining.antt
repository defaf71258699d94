-- Demand 3's joining clause, for the book: an accepted open sets the bid requirement of its points, and these join as the formulas say.
-- Assumes nothing.
use mathlib.Core.Path.{◌≡◌, refl, sym, ap, ◌∙◌, subst}
use mathlib.Core.Bool.{true, false, not}
use mathlib.Core.List.{List, [], ◌∷◌, ◌++◌}
use Prim.Native.Nat.{ℕ, ◌+◌, ◌≤◌}
use lib.IntN.{ℤ, pos}
use lib.ListN.{length}
use Rattle.refusals.specs.Refusals.{row, None}
use Rattle.refusals.proofs.Laws.{judge-none, none-split, none-join}
use Rattle.bids.specs.Points.{curve}
use Rattle.bids.specs.Rows.{bid_rows}
use Rattle.bids.specs.Bids.{bid_requirement}
use Rattle.bids.specs.Joining.{is_export, Joined}
use Rattle.bids.proofs.Joining.{joining}
use Rattle.keys.specs.Keys.{key_rows}
use Rattle.records.specs.declared.types.Record.{Record}
use Rattle.records.specs.Records.{blank, is_free}
use Rattle.records.proofs.Places.{free-blank}
use Rattle.messages.specs.declared.types.Opening.{Opening}
use Rattle.messages.specs.declared.types.Message.TheVariants.{Open}
use Rattle.messages.specs.Plan.{plan_rows, plan}
use Rattle.messages.proofs.Fits.{fits}
use Rattle.book.specs.declared.types.Book.{Book}
use Rattle.book.specs.Places.{find, missing, or_else_blank}
use Rattle.book.specs.Books.{lookup, full, totals, no_records, empty}
use Rattle.refusals.specs.Answers.{reply}
use Rattle.book.specs.Step.{deed_of, fresh, step}
use Rattle.book.proofs.Kept.{lookup-under}
use Rattle.demands.proofs.Accepted.{taken}
use Rattle.demands.proofs.Requirements.{sets}
use Rattle.demands.proofs.Soundness.{empty-sound}
use Rattle.demands.specs.Three.{top_support}
use Rattle.demands.specs.Joining.{Opens, Joins}
use Rattle.demands.proofs.Deal.{takes}
use Rattle.demands.proofs.Top.{weighed-top}
use Rattle.demands.proofs.Fresh.{empty-find, empty-places, fresh-top}

-- the bid requirement of an opening with these points
abbrev pub bid_with : Opening → List ℕ → List ℤ → ℤ
bid_with o ms ps = bid_requirement o.key.kind (curve ms ps) o.differential o.exempt

rows : (b : Book) (o : Opening) (ms : List ℕ) (ps : List ℤ) → (reply (step b (Open o) ms ps).answer).number ≡ 0
    → None (key_rows o.key) × None (bid_rows o.key.kind ms ps o.differential)
rows b o ms ps h =
    let bid = bid_rows o.key.kind ms ps o.differential in
    let free = row 10 (not (is_free (lookup b o.key))) ∷ [] in
    let a = none-split (key_rows o.key) (bid ++ free) (taken b (Open o) ms ps h).planned in
    (a.0, (none-split bid free a.1).0)

module _ (o : Opening) (m₁ m₂ : List ℕ) (p₁ p₂ : List ℤ) (export : is_export o.key.kind ≡ true) (few : length m₁ + length m₂ ≤ 64)
    {b₁ b₂ : Book} {r₁ r₂ : ℤ} (first : Opens b₁ o m₁ p₁ r₁) (second : Opens b₂ o m₂ p₂ r₂) where
  joined : Joined o.key.kind m₁ m₂ p₁ p₂ o.differential o.exempt
  joined =
      joining o.key.kind m₁ m₂ p₁ p₂ o.differential o.exempt export (rows b₁ o m₁ p₁ first.accepted).1 (rows b₂ o m₂ p₂ second.accepted).1 few

  set : {b : Book} {ms : List ℕ} {ps : List ℤ} {r : ℤ} → Opens b o ms ps r → r ≡ bid_with o ms ps
  set {b} {ms} {ps} {r} h = sym h.sets ∙ ap (λ (x : Record). x.requirement) (sets b ms ps (Open o) h.accepted)

  -- in whatever books the four are opened
  pub joining-open : {b c : Book} {r s : ℤ} → Opens b o (m₁ ++ m₂) (p₁ ++ p₂) r → Opens c o (m₂ ++ m₁) (p₂ ++ p₁) s → Joins r₁ r₂ r s
  joining-open h k =
      record {
        commutes = set h ∙ joined.commutes ∙ sym (set k);
        left = rw (set first, set h) joined.left;
        right = rw (set second, set h) joined.right;
        together = rw (set first, set second, set h) joined.together;
      }

  -- and there is a book that the joined points can be opened in

  abbrev top : Book
  top = empty (pos top_support)

  not-open : lookup top o.key ≡ blank
  unfolding lookup or_else_blank
  not-open = ap (or_else_blank blank) (empty-find (pos top_support) o.key)

  passed : None (plan_rows (lookup top o.key) (Open o) (m₁ ++ m₂) (p₁ ++ p₂))
  unfolding None
  passed =
      let bid = bid_rows o.key.kind (m₁ ++ m₂) (p₁ ++ p₂) o.differential in
      let free = row 10 (not (is_free (lookup top o.key))) ∷ [] in
      none-join (key_rows o.key) (bid ++ free) (rows b₁ o m₁ p₁ first.accepted).0
      (none-join bid free joined.accepted (ap not (ap is_free not-open ∙ free-blank), tt))

  room : full top ≡ false
  unfolding full no_records find missing is_free
  room = refl

  top-takes : (reply (step top (Open o) (m₁ ++ m₂) (p₁ ++ p₂)).answer).number ≡ 0
  unfolding plan deed_of totals
  top-takes =
      let d = deed_of top (Open o) (m₁ ++ m₂) (p₁ ++ p₂) in
      let sane = empty-sound (pos top_support) refl in
      let fit = fits (lookup top o.key) (Open o) (m₁ ++ m₂) (p₁ ++ p₂) d (lookup-under top o.key sane) (judge-none (plan_rows (lookup top o.key) (Open o) (m₁ ++ m₂) (p₁ ++ p₂)) d passed) in
      takes top (Open o) (m₁ ++ m₂) (p₁ ++ p₂) sane passed (weighed-top top (Open o) sane empty-places refl d fit (λ e. room))

  pub joined-opens : Opens (fresh (pos top_support)).book o (m₁ ++ m₂) (p₁ ++ p₂) (bid_with o (m₁ ++ m₂) (p₁ ++ p₂))
  joined-opens =
      subst (λ (b : Book). Opens b o (m₁ ++ m₂) (p₁ ++ p₂) (bid_with o (m₁ ++ m₂) (p₁ ++ p₂))) (sym fresh-top)
      (record { accepted = top-takes; sets = ap (λ (x : Record). x.requirement) (sets top (m₁ ++ m₂) (p₁ ++ p₂) (Open o) top-takes) })
