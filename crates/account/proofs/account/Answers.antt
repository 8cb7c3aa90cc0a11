use Rattle.std.proofs.Common.{string_bytes}
use Rattle.std.proofs.lemmas.Result.{IfOk-weaker}
use Rattle.dumps.specs.Verdict.{accepted}
use Rattle.netlist.specs.Circuits.{circuit}
use Rattle.account.proofs.Told.{told_long, told, told_error}
use Rattle.account.proofs.account.Goals as goal

pub returns-then-text-gt-MOST_BYTES : goal.returns-then-text-gt-MOST_BYTES
returns-then-text-gt-MOST_BYTES c =
    IfOk-weaker c.from_str.result _ _ (λ s h. told_long c.args.text.now (string_bytes s) c.if-text-gt-MOST_BYTES.true h) c.from_str.ensures.ok

pub returns-in-Ok : goal.returns-in-Ok
returns-in-Ok c =
    IfOk-weaker c.of_block.result _ _
    (λ s h. told c.args.text.now (string_bytes s) (accepted (circuit c.load.new.block)) c.if-text-gt-MOST_BYTES.false c.in-Ok.ensures h)
    c.of_block.ensures

pub returns : goal.returns
returns c =
    IfOk-weaker c.of_error.result _ _
    (λ s h. told_error c.args.text.now (string_bytes s) c.in-Err.error (circuit c.load.new.block) c.if-text-gt-MOST_BYTES.false c.in-Err.ensures h)
    c.of_error.ensures
