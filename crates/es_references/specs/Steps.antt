-- What the functions inside the crate promise each other.
use Rattle.es_references.specs.References as spec
use Rattle.es_references.specs.declared.reference.Reference.{Reference}

-- what the code found
abbrev pub reference_of_parts : Reference → spec.Reference
reference_of_parts r = record { kind = r.kind; value = r.value.now; from = r.from.now; behind = r.behind.now }
