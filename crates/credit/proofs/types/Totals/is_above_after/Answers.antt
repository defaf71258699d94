-- `Totals::is_above_after`: held less one requirement and one more fit; the two tests are the row's.
use Rattle.std.proofs.Common.{rules, w64, FitsSigned}
use mathlib.Core.Bool.{◌&&◌}
use lib.Signed.{lt_z}
use mir.Facts.{to_z-of_z}
use Rattle.amounts.proofs.Steps.{read, param, kept, ◌plus◌, ◌minus◌}
use Rattle.credit.proofs.types.Totals.is_above_after.Goals as goal

pub returns : goal.returns
returns c =
    let h : FitsSigned w64 c.args.self.support = search rules in
    let less = read c.requires.totals_bounded.held tt minus param c.ranges.was c.requires.within in
    let after = kept (kept less tt plus param c.ranges.requirement c.requires.within_2) tt in
    λ i. lt_z (to_z-of_z {w = w64} c.ranges.was i) (to_z-of_z {w = w64} c.ranges.requirement i) && lt_z (to_z-of_z {w = w64} h i) (after.is i)
