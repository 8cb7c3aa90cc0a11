-- An account, at bytes that equal it.
use Rattle.std.proofs.Common.{◌≡◌, ℕ, ◌<◌, ◌≤◌, List, length, Err, codes, sym, subst}
use Rattle.circuit.specs.Circuit.{Circuit}
use Rattle.dumps.specs.Ground.{number_of}
use Rattle.dumps.specs.Verdict.{Verdict, refused, Judged}
use Rattle.loader.specs.declared.text.LoadError.{LoadError}
use Rattle.loader.specs.declared.text.LoadError.TheVariants.{Refused, Memory}
use Rattle.loader.specs.Load.{load_answer, LoadCall}
use Rattle.account.specs.Account.{most_bytes, shown, Tells, Account, too_long, judged_so}

pub told_long : (text bytes : List ℕ) → most_bytes < length text → bytes ≡ codes "refused 20: more than 65536 bytes\n" → Account text bytes
told_long text bytes l e = subst (Account text) (sym e) (too_long l)

pub told : (text bytes : List ℕ) (v : Verdict) → length text ≤ most_bytes → Judged text v → bytes ≡ shown v → Account text bytes
told text bytes v l h e = subst (Account text) (sym e) (judged_so l v h)

pub told_error : (text bytes : List ℕ) (e : LoadError) (after : Circuit) → length text ≤ most_bytes → LoadCall text (load_answer {X = Unit {0}} (Err e)) after → Tells e bytes → Account text bytes
told_error text bytes (Refused ground line) after l h t = told text bytes (refused (number_of ground) line) l h.0 t
told_error text bytes Memory after l h t = absurd t
