-- The account of a text: what it holds, or why it is refused.
use Rattle.std.specs.Prelude.{◌≡◌, ℕ, ◌<◌, ◌≤◌, List, ◌++◌, length, codes, decimal}
use Rattle.std.specs.List.{flat_map}
use Rattle.dumps.specs.Ground.{number_of, reason}
use Rattle.loader.specs.declared.text.LoadError.{LoadError}
use Rattle.loader.specs.declared.text.LoadError.TheVariants.{Refused, Memory}
use Rattle.dumps.specs.Verdict.{Verdict, accepted, refused, Judged}

-- a longer text is not looked at
abbrev pub most_bytes : ℕ
most_bytes = 65536

-- each skew after a blank
abbrev pub skew_words : List ℕ → List ℕ
skew_words skews = flat_map (λ v. codes " " ++ decimal v) skews

-- the lines for a block of so many parts, with these words for its skews, and so many flip-flops, gates and wires
abbrev pub block_lines : ℕ → List ℕ → ℕ → ℕ → ℕ → List ℕ
block_lines parts skews flops gates wires =
    codes "accepted\nQ " ++ (decimal parts ++ (codes " skews" ++ (skews
    ++ (codes "\nflip-flops " ++ (decimal flops
    ++ (codes "\ngates " ++ (decimal gates
    ++ (codes "\nwires " ++ (decimal wires ++ codes "\n")))))))))

abbrev pub refusal_line : ℕ → ℕ → List ℕ → List ℕ
refusal_line number line words =
    codes "refused " ++ (decimal number ++ (codes " at line " ++ (decimal line ++ (codes ": " ++ (words ++ codes "\n")))))

abbrev pub shown : Verdict → List ℕ
shown (accepted c) = block_lines c.parts (skew_words c.skews) (length c.flops) (length c.gates) (length c.wires)
shown (refused number line) = refusal_line number line (reason number)

-- the bytes tell this refusal; want of memory is told by no bytes
abbrev pub Tells : LoadError → List ℕ → Type 0
Tells (Refused why line) bytes = bytes ≡ shown (refused (number_of why) line)
Tells Memory bytes = ⊥

pub data Account (text : List ℕ) : List ℕ → Type 0 where
  too_long : most_bytes < length text → Account text (codes "refused 20: more than 65536 bytes\n")
  judged_so : length text ≤ most_bytes → (v : Verdict) → Judged text v → Account text (shown v)
