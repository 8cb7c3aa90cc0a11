-- What a domain set means: the list of its skews.
use Rattle.std.specs.Prelude.{ℕ, List}
use Rattle.netlist.specs.declared.domains.DomainSet.{DomainSet}

abbrev pub skews_of : DomainSet → List ℕ
skews_of d = d.skews.items
