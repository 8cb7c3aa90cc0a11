use Rattle.std.proofs.Common.{◌<◌, map, vec_items, sym, subst}
use Rattle.period.specs.Periods.{fraction}
use Rattle.tablebook.specs.Sheets.{check_of}
use Rattle.tablebook.specs.Tables.{rows_of, entry_of}
use Rattle.tablebook.proofs.Readings.{check_at, table_there, row_there, column_there, figure_read, none_stands, whole_as_long}
use Rattle.tablebook.proofs.table.kind.TableBookBook.need.Goals as goal

pub returns-in_err-check : goal.returns-in_err-check
returns-in_err-check c = rw c.from_residual.ensures (λ x stands a b. none_stands _ x (check_at (map rows_of (vec_items c.args.self.now.tables)) (vec_items c.args.self.now.checks) c.args.place _ c.in_err-check.ensures) stands)

pub index-requires : goal.index-requires
index-requires c = subst (λ n. c.in_ok-check.check.table < n) (sym c.args.self.now.tables.ok.0) (table_there c.args.self.now c.args.place _ c.in_ok-check.ensures)

pub index-requires-2 : goal.index-requires-2
index-requires-2 c =
    let t = table_there c.args.self.now c.args.place _ c.in_ok-check.ensures in
    subst (λ n. c.args.start_domain < n) (sym c.index.result.now.ok.0) (row_there c.args.self.now c.in_ok-check.check.table c.args.start_domain _ t c.index.ensures c.if-start_domain-self.false)

pub index-requires-3 : goal.index-requires-3
index-requires-3 c =
    let t = table_there c.args.self.now c.args.place _ c.in_ok-check.ensures in
    subst (λ n. c.args.end_domain < n) (sym c.index-2.result.now.ok.0) (column_there c.args.self.now c.in_ok-check.check.table c.args.start_domain c.args.end_domain _ _ t c.index.ensures c.if-start_domain-self.false c.index-2.ensures c.if-end_domain-self.false)

pub returns : goal.returns
returns c =
    let t = table_there c.args.self.now c.args.place _ c.in_ok-check.ensures in (
      c.if-start_domain-self.false,
      c.if-end_domain-self.false,
      check_of (map rows_of (vec_items c.args.self.now.tables)) (entry_of c.in_ok-check.check),
      check_at (map rows_of (vec_items c.args.self.now.tables)) (vec_items c.args.self.now.checks) c.args.place _ c.in_ok-check.ensures,
      whole_as_long (fraction c.from.result) _ _ c.from.ensures (figure_read c.args.self.now c.in_ok-check.check.table c.args.start_domain c.args.end_domain _ _ _ t c.index.ensures c.if-start_domain-self.false c.index-2.ensures c.if-end_domain-self.false c.index-3.ensures),
    )
