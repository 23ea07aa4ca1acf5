-- What a specifier in a source leads to: what a resolver answers, where the referrer is read again from its text, unless the
-- referrer's scheme may not lead to the target's.
use Rattle.std.specs.Prelude.{ℕ, Bool, ◌&&◌, ◌||◌, List, codes, bytes_eq, None, Result, Ok, Err, if◌then◌else◌}
use Rattle.url.specs.declared.error.ParseError.TheVariants as url
use Rattle.url.specs.Parts.{Parts}
use Rattle.url.specs.Parser.{Parsed, parse_url, IsOutOfRoom}
use Rattle.file_url.specs.declared.errors.SpecifierError.TheVariants as specifier
use Rattle.file_url.specs.Imports as imports
use Rattle.specifier_resolver.specs.declared.resolver.ResolveFault.TheVariants as fault
use Rattle.specifier_resolver.specs.Resolver.{Resolving, default_resolving}
use Rattle.es_site.specs.declared.site.DependencyKind.{DependencyKind}
use Rattle.graph_entry.specs.declared.resolution.ResolutionError.{ResolutionError}
use Rattle.graph_entry.specs.declared.resolution.ResolutionError.TheVariants.{ImportPrefixMissing, InvalidUrl, InvalidDowngrade, InvalidLocalImport, InvalidTypeAssertion, InvalidSourcePhase, Refused}

-- a target, or why there is none
abbrev pub Resolved : Type 0
Resolved = Result Parts ResolutionError

-- what an edge keeps of the answer of an import; that is never that memory ran out (`resolve-kept`, proofs/RoomLemmas.antt)
abbrev pub kept_of : imports.Resolved → Resolved
kept_of (Ok url) = Ok url
kept_of (Err (specifier.ImportPrefixMissing text)) = Err (ImportPrefixMissing text)
kept_of (Err (specifier.InvalidUrl e)) = Err (InvalidUrl e)
kept_of (Err specifier.OutOfMemory) = Err (InvalidUrl url.OutOfMemory)

-- what it keeps of the answer of a resolver
abbrev pub kept_resolving : Resolving → Resolved
kept_resolving (Ok url) = Ok url
kept_resolving (Err (fault.Specifier e)) = kept_of (Err e)
kept_resolving (Err (fault.Refused text)) = Err (Refused text)
kept_resolving (Err fault.OutOfMemory) = Err (InvalidUrl url.OutOfMemory)

-- where a text leads from a referrer that was read again; a resolver is asked where it is a URL
abbrev pub target_by : (List ℕ → Parts → Resolving) → Parsed Parts → List ℕ → Resolved
target_by resolving (Ok referrer) text = kept_resolving (resolving text referrer)
target_by resolving (Err e) text = kept_of (imports.import_of (Err e) text)

-- the URL has this scheme
abbrev pub has_scheme : List ℕ → Parts → Bool
has_scheme scheme url = bytes_eq url.scheme scheme

-- from https to http (this project's profile)
abbrev pub is_downgrade : Parts → Parts → Bool
is_downgrade referrer target = has_scheme (codes "https") referrer && has_scheme (codes "http") target

-- from the net to a file (this project's profile)
abbrev pub is_local_import : Parts → Parts → Bool
is_local_import referrer target = (has_scheme (codes "http") referrer || has_scheme (codes "https") referrer) && has_scheme (codes "file") target

-- the target, or why the referrer may not lead to it
abbrev pub allowed : Parts → Parts → Resolved
allowed referrer target =
    if is_downgrade referrer target then Err InvalidDowngrade
    else if is_local_import referrer target then Err InvalidLocalImport
    else Ok target

-- what a referrer that was read again leads to
abbrev pub allowed_from : Parsed Parts → Resolved → Resolved
allowed_from (Ok referrer) (Ok target) = allowed referrer target
allowed_from (Ok referrer) (Err e) = Err e
allowed_from (Err e) resolved = resolved

-- what the text leads to from a referrer that was read again
abbrev pub resolved_by : (List ℕ → Parts → Resolving) → Parsed Parts → List ℕ → Resolved
resolved_by resolving base text = allowed_from base (target_by resolving base text)

-- what a text leads to from the module at a specifier's text
abbrev pub Resolves : Type 0
Resolves = List ℕ → List ℕ → Resolved

unfoldable pub resolve_by : (List ℕ → Parts → Resolving) → Resolves
resolve_by resolving referrer text = resolved_by resolving (parse_url None referrer) text

-- by the URL Standard
abbrev pub resolve : Resolves
resolve = resolve_by default_resolving

-- what a resolver means that hears the kind of an edge
abbrev pub KindResolving : Type 0
KindResolving = DependencyKind → List ℕ → Parts → Resolving

-- what a text leads to for an edge of a kind
abbrev pub KindResolves : Type 0
KindResolves = DependencyKind → Resolves

abbrev pub resolve_by_kind : KindResolving → KindResolves
resolve_by_kind resolving kind = resolve_by (resolving kind)

-- the same for each kind
abbrev pub of_any_kind : Resolves → KindResolves
of_any_kind resolves kind = resolves

-- the reason that an edge keeps, if it keeps one, is not that room ran out
abbrev pub KeepsReason : Resolved → Type 0
KeepsReason (Ok url) = Unit {0}
KeepsReason (Err (ImportPrefixMissing text)) = Unit {0}
KeepsReason (Err (InvalidUrl e)) = ¬ IsOutOfRoom e
KeepsReason (Err InvalidDowngrade) = Unit {0}
KeepsReason (Err InvalidLocalImport) = Unit {0}
KeepsReason (Err InvalidTypeAssertion) = Unit {0}
KeepsReason (Err InvalidSourcePhase) = Unit {0}
KeepsReason (Err (Refused text)) = Unit {0}

-- the name of a refusal, as reports write it
abbrev pub name_of_error : ResolutionError → List ℕ
name_of_error (ImportPrefixMissing text) = codes "ImportPrefixMissing"
name_of_error (InvalidUrl e) = codes "InvalidUrl"
name_of_error InvalidDowngrade = codes "InvalidDowngrade"
name_of_error InvalidLocalImport = codes "InvalidLocalImport"
name_of_error InvalidTypeAssertion = codes "InvalidTypeAssertion"
name_of_error InvalidSourcePhase = codes "InvalidSourcePhase"
name_of_error (Refused text) = codes "Refused"
