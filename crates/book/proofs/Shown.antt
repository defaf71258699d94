-- Whether a book is sound is what a message that is always refused answers: a support below 0.
-- Assumes nothing.
use mathlib.Core.Path.{◌≡◌, refl, ap, ◌∙◌}
use mathlib.Core.Bool.{Bool, true, false, not, cond}
use mathlib.Core.List.{[]}
use lib.Dec.{eqb}
use lib.IntN.{negsuc}
use Rattle.refusals.specs.Refusals.{first, Verdict, refuse, judge, answered}
use Rattle.messages.specs.declared.types.Deed.{Deed}
use Rattle.messages.specs.declared.types.Message.{Message}
use Rattle.messages.specs.declared.types.Message.TheVariants.{Support}
use Rattle.messages.specs.Plan.{key_of, plan}
use Rattle.book.specs.Books.{Book, lookup, sound, held_answered, owed_answered}
use Rattle.refusals.specs.declared.Answer.TheVariants.{Refused}
use Rattle.book.specs.Step.{outcome, step}
use Rattle.book.proofs.Verdicts.{admitted, concluded, verdict-is}

abbrev pub question : Message
question = Support (record { cents = negsuc 0 })

module _ (b : Book) where
  refused_as : (t : Bool) → sound b ≡ t → (outcome b [] [] (cond t (admitted b [] (refuse 9)) (refuse 1))).answer ≡ Refused (cond t 9 1) (held_answered b) (owed_answered b)
  unfolding outcome admitted
  refused_as true h = refl
  refused_as false h = refl

  turned : plan (lookup b (key_of question)) question [] [] ≡ refuse 9
  unfolding plan judge first answered
  turned = refl

  pub always-refused : (step b question [] []).answer ≡ Refused (cond (sound b) 9 1) (held_answered b) (owed_answered b)
  unfolding step concluded
  always-refused =
      ap (λ (v : Verdict Deed). (outcome b [] [] v).answer) (verdict-is b question [] [] ∙ ap (concluded b []) turned) ∙ refused_as (sound b) refl

  shown-sound : (t : Bool) → not (eqb (cond t 9 1) 1) ≡ t
  shown-sound true = refl
  shown-sound false = refl

  pub sound-shown : not (eqb (cond (sound b) 9 1) 1) ≡ sound b
  sound-shown = shown-sound (sound b)
