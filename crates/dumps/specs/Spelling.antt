-- How bytes are spelled, and what the lines of a text are.
use Rattle.std.specs.Prelude.{◌≡◌, ℕ, ◌+◌, ◌/◌, ◌%◌, ◌<◌, cond, List, [], ◌∷◌, ◌++◌, length, ◌==◌, nat_lt}
use Rattle.std.specs.List.{AllByRecursion}

-- the character of a hexadecimal digit: 0 to 9, then a to f
abbrev pub digit : ℕ → ℕ
digit n = cond (nat_lt n 10) (48 + n) (87 + n)

-- two digits a byte, the high one first
abbrev pub spelled : List ℕ → List ℕ
spelled [] = []
spelled (b ∷ bytes) = digit (b / 16) ∷ (digit (b % 16) ∷ spelled bytes)

abbrev pub line_feed : ℕ
line_feed = 10

-- a line holds one or more bytes, spelled, and ends with a line feed
pub record Holds (line bytes : List ℕ) : Type 0 where
  pub some_byte : 0 < length bytes
  pub in_range : AllByRecursion (λ b. b < 256) bytes
  pub spelt : line ≡ spelled bytes ++ (line_feed ∷ [])

abbrev pub before_lines : ℕ → List (List ℕ) → List (List ℕ)
before_lines b [] = (b ∷ []) ∷ []
before_lines b (line ∷ more) = (b ∷ line) ∷ more

-- the lines of a text, each with the line feed that ends it; bytes after the last line feed are a line without one
abbrev pub lines : List ℕ → List (List ℕ)
lines [] = []
lines (b ∷ text) = cond (b == line_feed) ((b ∷ []) ∷ lines text) (before_lines b (lines text))
