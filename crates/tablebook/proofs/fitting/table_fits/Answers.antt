use Rattle.std.proofs.Common.{◌↔◌, vec_items, IsTrue, rules}
use Rattle.std.specs.List.{All}
use Rattle.tablebook.specs.Sheets.{RowFits}
use Rattle.tablebook.proofs.Within.{table_from, rows_of_fit}
use Rattle.tablebook.proofs.fitting.table_fits.Goals as goal

pub returns-then-rows-domains : goal.returns-then-rows-domains
returns-then-rows-domains c =
    let each : IsTrue c.all.result ↔ All (λ row. RowFits c.args.domains (vec_items row)) c.args.rows.now = search rules in
    ((λ e. table_from c.args.domains c.args.rows.now c.if-rows-domains.true (each.0 e)), (λ t. each.1 (rows_of_fit c.args.domains c.args.rows.now t)))
