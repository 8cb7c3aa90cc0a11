-- The number of each ground on which a line is refused, and its words.
use Rattle.std.specs.Prelude.{ℕ, List, [], ◌∷◌, codes, slice_index_or}
use Rattle.dumps.specs.declared.ground.Ground.{Ground}
use Rattle.dumps.specs.declared.ground.Ground.TheVariants.{Spelling, Shape, Order, Domains, Surplus, Delays, Absent, Backward, Open}

abbrev pub number_of : Ground → ℕ
number_of Spelling = 1
number_of Shape = 2
number_of Order = 3
number_of Domains = 4
number_of Surplus = 5
number_of Delays = 6
number_of Absent = 7
number_of Backward = 8
number_of Open = 9

-- what is wrong with a line, in words, by number
abbrev pub reasons : List (List ℕ)
reasons =
    []
    ∷ (codes "foreign character, odd digit count, empty line or no line feed"
    ∷ (codes "unknown kind or wrong length"
    ∷ (codes "frame out of its order or no end"
    ∷ (codes "domain set outside its limits"
    ∷ (codes "one flip-flop, gate or wire too many"
    ∷ (codes "smaller delay above the larger"
    ∷ (codes "wire names a class or number that is not there"
    ∷ (codes "wire between gates does not start at the smaller number"
    ∷ (codes "gate with no wire in or no wire out" ∷ [])))))))))

abbrev pub reason : ℕ → List ℕ
reason number = slice_index_or reasons number []
