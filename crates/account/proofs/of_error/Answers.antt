use Rattle.std.proofs.Common.{ap, ◌∙◌}
use Rattle.std.proofs.lemmas.Result.{IfOk-weaker}
use Rattle.dumps.specs.Ground.{number_of, reason}
use Rattle.account.specs.Account.{refusal_line}
use Rattle.account.proofs.of_error.Goals as goal

pub returns-in-Refused : goal.returns-in-Refused
returns-in-Refused c =
    let words = reason (number_of c.in-Refused.ground) in
    IfOk-weaker c.format.result _ _
    (λ s h. rw c.in-Refused.is (h ∙ ap (λ n. refusal_line n c.in-Refused.line words) c.number-number.ensures))
    c.format.ensures.ok
