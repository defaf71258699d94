-- `records::Record::keeps` is the tests of the definition, clause by clause.
use Rattle.amounts.proofs.Steps.{back}
use Rattle.records.specs.Records.{keeps}
use Rattle.records.proofs.types.Record.keeps.Goals as goal

pub returns : goal.returns
unfolding keeps
returns c =
    rw (
      c.has_stage.ensures,
      c.bid_mwh_fits.ensures,
      c.schedule_fits.ensures,
      c.differential_fits.ensures,
      c.day_ahead_fits.ensures,
      c.exempt_fits.ensures,
      c.requirement_fits.ensures,
      c.quarters_fit.ensures,
      c.sides_fit.ensures,
      back c.args.self.requirement (search),
    )
