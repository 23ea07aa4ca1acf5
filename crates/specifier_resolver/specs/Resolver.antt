-- What a resolver means: where a text leads from a referrer, before what the referrer may lead to is asked.
use Rattle.std.specs.Prelude.{◌≡◌, ◌⊎◌, ℕ, List, Option, None, Some, Result, Ok, Err}
use Rattle.url.specs.Parts.{Parts}
use Rattle.url.specs.Parser.{IsOutOfRoom}
use Rattle.file_url.specs.declared.errors.SpecifierError.TheVariants as specifier
use Rattle.file_url.specs.Imports as imports
use Rattle.specifier_resolver.specs.declared.resolver.ResolveFault.{ResolveFault}
use Rattle.specifier_resolver.specs.declared.resolver.ResolveFault.TheVariants.{Specifier, Refused, OutOfMemory}

-- a target, or why there is none
abbrev pub Resolving : Type 0
Resolving = Result Parts ResolveFault

-- a refusal of an import is a fault of its specifier
abbrev pub as_fault : imports.Resolved → Resolving
as_fault (Ok url) = Ok url
as_fault (Err e) = Err (Specifier e)

-- what an import leads to (HTML, "resolve a module specifier", without an import map)
abbrev pub default_resolving : List ℕ → Parts → Resolving
default_resolving text referrer = as_fault (imports.import_of (Ok referrer) text)

-- the fault is that of the meaning, unless it is that memory ran out
abbrev pub IsFaultOf : Resolving → ResolveFault → Type 0
IsFaultOf means (Specifier (specifier.ImportPrefixMissing text)) =
    means ≡ Err (Specifier (specifier.ImportPrefixMissing text))
IsFaultOf means (Specifier (specifier.InvalidUrl e)) =
    (means ≡ Err (Specifier (specifier.InvalidUrl e))) ⊎ IsOutOfRoom e
IsFaultOf means (Specifier specifier.OutOfMemory) = Unit {0}
IsFaultOf means (Refused text) = means ≡ Err (Refused text)
IsFaultOf means OutOfMemory = Unit {0}

-- the answer is the meaning, or that memory ran out
abbrev pub IsResolved : Resolving → Result Parts ResolveFault → Type 0
IsResolved means (Ok url) = means ≡ Ok url
IsResolved means (Err fault) = IsFaultOf means fault

-- that of a resolver, or of the default one where there is none
abbrev pub resolving_or : {R : Type 0} → (R → List ℕ → Parts → Resolving) → Option R → List ℕ → Parts → Resolving
resolving_or resolving None = default_resolving
resolving_or resolving (Some r) = resolving r
