use Rattle.std.proofs.Common.{map, vec_items, sym, ap, ◌∙◌}
use Rattle.std.specs.Option.{option_map}
use Rattle.books.specs.Answers.{ends_of}
use Rattle.tablebook.specs.Tables.{rows_of}
use Rattle.tablebook.proofs.Readings.{check_at}
use Rattle.tablebook.proofs.table.kind.TableBookBook.ends.Goals as goal

pub returns-in_err-check : goal.returns-in_err-check
returns-in_err-check c = c.from_residual.ensures ∙ sym (ap (option_map ends_of) (check_at (map rows_of (vec_items c.args.self.now.tables)) (vec_items c.args.self.now.checks) c.args.place _ c.in_err-check.ensures))

pub returns : goal.returns
returns c = sym (ap (option_map ends_of) (check_at (map rows_of (vec_items c.args.self.now.tables)) (vec_items c.args.self.now.checks) c.args.place _ c.in_ok-check.ensures))
