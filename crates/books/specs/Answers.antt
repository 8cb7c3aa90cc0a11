-- What a book answers by its meaning.
use Rattle.std.specs.Prelude.{◌≡◌, ℕ, ◌<◌, Some, None, Option, refl}
use Rattle.std.specs.List.{slice_get}
use Rattle.std.specs.Option.{option_map}
use Rattle.fractions.specs.Fraction.{AsLong}
use Rattle.checks.specs.Model.{Check, Model, Stands}
use Rattle.period.specs.declared.period.Period.{Period}
use Rattle.period.specs.Periods.{fraction}
use Rattle.books.specs.declared.book.Ends.{Ends}

-- the start and the end of the check at a place, absent beyond the last check
abbrev pub start_at : Model → ℕ → Option ℕ
start_at book place = option_map (λ c. c.start) (slice_get book.checks place)

abbrev pub end_at : Model → ℕ → Option ℕ
end_at book place = option_map (λ c. c.end) (slice_get book.checks place)

abbrev pub ends_of : Check → Ends
ends_of c = record { start = c.start; end = c.end }

-- both ends of the check at a place
abbrev pub ends_at : Model → ℕ → Option Ends
ends_at book place = option_map ends_of (slice_get book.checks place)

-- the start and the end by themselves
starts : (o : Option Check) → option_map (λ (e : Ends). e.start) (option_map ends_of o) ≡ option_map (λ c. c.start) o
starts None = refl
starts (Some c) = refl

stops : (o : Option Check) → option_map (λ (e : Ends). e.end) (option_map ends_of o) ≡ option_map (λ c. c.end) o
stops None = refl
stops (Some c) = refl

pub start_of_ends : (book : Model) (place : ℕ) → option_map (λ (e : Ends). e.start) (ends_at book place) ≡ start_at book place
start_of_ends book place = starts (slice_get book.checks place)

pub end_of_ends : (book : Model) (place : ℕ) → option_map (λ (e : Ends). e.end) (ends_at book place) ≡ end_at book place
end_of_ends book place = stops (slice_get book.checks place)

-- the need of the check at a place for a domain of its start and one of its end, absent exactly where the book has no such check or domain
abbrev pub Needs : Model → ℕ → ℕ → ℕ → Option Period → Type 0
Needs book place m n (Some need) = (m < book.domains) × (n < book.domains) × (c : Check) × Stands book place c × AsLong (fraction need) (c.need m n)
Needs book place m n None = (c : Check) → Stands book place c → m < book.domains → n < book.domains → ⊥
