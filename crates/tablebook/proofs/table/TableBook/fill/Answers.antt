use Rattle.std.proofs.Common.{subst}
use mathlib.Core.Bool.{false≢true}
use Rattle.std.proofs.lemmas.Result.{err_from_is_err_and}
use Rattle.tablebook.specs.Sheets.{Kept, FillCall, filled, fills, misfit, lawless, short}
use Rattle.tablebook.specs.Tables.{given}
use Rattle.tablebook.specs.Held.{held}
use Rattle.tablebook.proofs.Copied.{copied}
use Rattle.tablebook.proofs.table.TableBook.fill.Goals as goal

pub returns-then-not-fits : goal.returns-then-not-fits
returns-then-not-fits c = misfit (λ fits. false≢true (c.if-not-fits.ensures.1 fits))

pub returns-then-not-is_lawful : goal.returns-then-not-is_lawful
returns-then-not-is_lawful c =
    let fits = c.fits.ensures.0 c.if-not-fits.false in
    lawless fits (λ laws. false≢true ((c.if-not-is_lawful.ensures fits).1 laws))

pub returns-in_err-tables : goal.returns-in_err-tables
returns-in_err-tables c =
    let fits = c.fits.ensures.0 c.if-not-fits.false in
    let p = err_from_is_err_and c.from_residual.result c.from_residual.ensures.1 in
    rw (p.1, p.2) (short fits ((c.is_lawful.ensures fits).0 c.if-not-is_lawful.false))

pub returns-in_err-checks : goal.returns-in_err-checks
returns-in_err-checks c =
    let fits = c.fits.ensures.0 c.if-not-fits.false in
    let p = err_from_is_err_and c.from_residual-in_err-checks.result c.from_residual-in_err-checks.ensures.1 in
    rw (p.1, p.2) (short fits ((c.is_lawful.ensures fits).0 c.if-not-is_lawful.false))

pub invariant_of-drop : goal.invariant_of-drop
invariant_of-drop c =
    let fits = c.fits.ensures.0 c.if-not-fits.false in
    record { kept = subst Kept (copied c.args.sheet _ _ c.in_ok-tables.ensures.items c.in_ok-checks.ensures.items) (record { fits = fits; lawful = (c.is_lawful.ensures fits).0 c.if-not-is_lawful.false }) }

pub returns : goal.returns
returns c =
    let fits = c.fits.ensures.0 c.if-not-fits.false in
    subst (FillCall (held c.args.self.now) (given c.args.sheet) filled) (copied c.args.sheet _ _ c.in_ok-tables.ensures.items c.in_ok-checks.ensures.items) (fills fits ((c.is_lawful.ensures fits).0 c.if-not-is_lawful.false))
