-- `Sums::without`: each sum less one record's part in it fits.
use Rattle.std.proofs.Common.{◌≡◌, true, w64, to_z, of_z, ◌-ℤ◌}
use mathlib.Core.Path.{ap}
use Rattle.amounts.proofs.Steps.{Known, known, read, fits, kept, ◌minus◌}
use Rattle.records.specs.declared.types.Record.{Record}
use Rattle.records.specs.Records.{ok_place}
use Rattle.credit.specs.Credit.{owes}
use Rattle.credit.specs.Sums.{Sums, parts_of, unbilled_of}
use Rattle.credit.specs.NoOverflow.{SumsWithin}
use Rattle.credit.proofs.Parts.{owes-within, unbilled-within}
use Rattle.credit.proofs.types.Sums.without.Goals as goal

-- the record's parts, as they were answered
module _ (s : Sums) (r : Record) (h : SumsWithin 400000000000000 s) (fine : ok_place r ≡ true) (x : Sums) (e : x ≡ parts_of r) where
  unbilled-less : Known (to_z w64 (of_z w64 s.unbilled) -ℤ to_z w64 (of_z w64 x.unbilled)) (s.unbilled -ℤ unbilled_of r) 401300000000000 401300000000000
  unbilled-less = read h.unbilled tt minus kept (known (ap (λ (y : Sums). y.unbilled) e) (unbilled-within r fine)) tt

  owed-less : Known (to_z w64 (of_z w64 s.owed) -ℤ to_z w64 (of_z w64 x.owed)) (s.owed -ℤ owes r) 401300000000000 401300000000000
  owed-less = read h.owed tt minus kept (known (ap (λ (y : Sums). y.owed) e) (owes-within r fine)) tt

pub overflow_sub-result : goal.overflow_sub-result
overflow_sub-result c = fits (unbilled-less c.args.self c.args.r c.requires.sums_within c.requires.r_value c.of-part.result c.of-part.ensures) tt

pub overflow_sub-result-2 : goal.overflow_sub-result-2
overflow_sub-result-2 c = fits (owed-less c.args.self c.args.r c.requires.sums_within c.requires.r_value c.of-part.result c.of-part.ensures) tt

pub returns : goal.returns
returns c =
    λ i. record {
      unbilled = (kept (unbilled-less c.args.self c.args.r c.requires.sums_within c.requires.r_value c.of-part.result c.of-part.ensures) tt).is i;
      owed = (kept (owed-less c.args.self c.args.r c.requires.sums_within c.requires.r_value c.of-part.result c.of-part.ensures) tt).is i;
    }
