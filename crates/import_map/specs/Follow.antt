-- What the functions that follow a match promise each other.
use Rattle.std.specs.Prelude.{◌≡◌, ◌⊎◌, ℕ, List}
use Rattle.specifier_resolver.specs.declared.resolver.ResolveFault.{ResolveFault}
use Rattle.specifier_resolver.specs.declared.resolver.ResolveFault.TheVariants.{Refused, OutOfMemory}

-- a refusal for this reason, unless memory ran out
abbrev pub IsRefusal : List ℕ → ResolveFault → Type 0
IsRefusal why fault = (fault ≡ Refused why) ⊎ (fault ≡ OutOfMemory)
