-- What a fault of the digit layer says.
use Rattle.std.specs.Prelude.{◌≡◌, None, Option}
use Rattle.dumps.specs.declared.ground.Ground.TheVariants.{Spelling}
use Rattle.loader.specs.declared.faults.LineFault.{LineFault}
use Rattle.loader.specs.declared.faults.LineFault.TheVariants.{Refused, Memory}

-- the spelling is refused, and there is nothing to read
abbrev pub Misspelled : {X : Type 0} → LineFault → Option X → Type 0
Misspelled fault found = (fault ≡ Refused Spelling) × (found ≡ None)

-- a refusal is of the spelling, and says that there is nothing to read; want of memory says nothing
abbrev pub Unread : {X : Type 0} → LineFault → Option X → Type 0
Unread (Refused g) found = (g ≡ Spelling) × (found ≡ None)
Unread Memory found = Unit {0}
