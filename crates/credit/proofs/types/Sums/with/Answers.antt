-- `Sums::with`: each sum and one record's part in it fit.
use Rattle.std.proofs.Common.{◌≡◌, true, w64, to_z, of_z, ◌+ℤ◌}
use mathlib.Core.Path.{ap}
use Rattle.amounts.proofs.Steps.{Known, known, read, fits, kept, ◌plus◌}
use Rattle.records.specs.declared.types.Record.{Record}
use Rattle.records.specs.Records.{ok_place}
use Rattle.credit.specs.Credit.{owes}
use Rattle.credit.specs.Sums.{Sums, parts_of, unbilled_of}
use Rattle.credit.specs.NoOverflow.{SumsWithin}
use Rattle.credit.proofs.Parts.{owes-within, unbilled-within}
use Rattle.credit.proofs.types.Sums.with.Goals as goal

-- the record's parts, as they were answered
module _ (s : Sums) (r : Record) (h : SumsWithin 400000000000000 s) (fine : ok_place r ≡ true) (x : Sums) (e : x ≡ parts_of r) where
  unbilled-more : Known (to_z w64 (of_z w64 s.unbilled) +ℤ to_z w64 (of_z w64 x.unbilled)) (s.unbilled +ℤ unbilled_of r) 401300000000000 401300000000000
  unbilled-more = read h.unbilled tt plus kept (known (ap (λ (y : Sums). y.unbilled) e) (unbilled-within r fine)) tt

  owed-more : Known (to_z w64 (of_z w64 s.owed) +ℤ to_z w64 (of_z w64 x.owed)) (s.owed +ℤ owes r) 401300000000000 401300000000000
  owed-more = read h.owed tt plus kept (known (ap (λ (y : Sums). y.owed) e) (owes-within r fine)) tt

pub overflow_add-result : goal.overflow_add-result
overflow_add-result c = fits (unbilled-more c.args.self c.args.r c.requires.sums_within c.requires.r_value c.of-part.result c.of-part.ensures) tt

pub overflow_add-result-2 : goal.overflow_add-result-2
overflow_add-result-2 c = fits (owed-more c.args.self c.args.r c.requires.sums_within c.requires.r_value c.of-part.result c.of-part.ensures) tt

pub returns : goal.returns
returns c =
    λ i. record {
      unbilled = (kept (unbilled-more c.args.self c.args.r c.requires.sums_within c.requires.r_value c.of-part.result c.of-part.ensures) tt).is i;
      owed = (kept (owed-more c.args.self c.args.r c.requires.sums_within c.requires.r_value c.of-part.result c.of-part.ensures) tt).is i;
    }
