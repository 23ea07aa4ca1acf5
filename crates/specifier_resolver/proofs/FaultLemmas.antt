-- Resolvers' faults.
use Rattle.std.proofs.Common.{◌≡◌, ◌⊎◌, inl, inr, ap, Err}
use Rattle.file_url.specs.declared.errors.SpecifierError.{SpecifierError}
use Rattle.file_url.specs.declared.errors.SpecifierError.TheVariants as specifier
use Rattle.file_url.specs.Imports as imports
use Rattle.specifier_resolver.specs.declared.resolver.ResolveFault.TheVariants.{Specifier}
use Rattle.specifier_resolver.specs.Resolver.{as_fault, IsFaultOf}

-- a refusal of an import is a fault of the default resolver's meaning
pub default_fault : (expected : imports.Resolved) (e : SpecifierError)
    → (expected ≡ Err e) ⊎ (e ≡ specifier.OutOfMemory) → IsFaultOf (as_fault expected) (Specifier e)
default_fault expected (specifier.ImportPrefixMissing text) (inl same) = ap as_fault same
default_fault expected (specifier.ImportPrefixMissing text) (inr room) = absurd cc
default_fault expected (specifier.InvalidUrl e) (inl same) = inl (ap as_fault same)
default_fault expected (specifier.InvalidUrl e) (inr room) = absurd cc
default_fault expected specifier.OutOfMemory either = tt
