-- What a specifier in a source leads to (HTML, "resolve a module specifier", without an import map).
-- Reading and joining are those of URLs (URL Standard, "URL parsing").
use Rattle.std.specs.Prelude.{◌≡◌, ◌⊎◌, ℕ, List, None, Some, Result, Ok, Err, if◌then◌else◌}
use Rattle.url.specs.declared.error.ParseError.{ParseError}
use Rattle.url.specs.declared.error.ParseError.TheVariants.{RelativeUrlWithoutBase}
use Rattle.url.specs.declared.error.ParseError.TheVariants as url
use Rattle.url.specs.Parts.{Parts}
use Rattle.url.specs.Parser.{Parsed, and_then, parse_url, IsOutOfRoom}
use Rattle.lexical_path.specs.Specifiers.{has_relative_prefix}
use Rattle.file_url.specs.declared.errors.SpecifierError.{SpecifierError}
use Rattle.file_url.specs.declared.errors.SpecifierError.TheVariants.{ImportPrefixMissing, InvalidUrl, OutOfMemory}

-- a URL, or why there is none
abbrev pub Resolved : Type 0
Resolved = Result Parts SpecifierError

-- what a refusal of reading or joining becomes: a URL near 4 GB counts as out of memory
abbrev pub refusal : ParseError → SpecifierError
refusal url.OutOfMemory = OutOfMemory
refusal url.Overflow = OutOfMemory
refusal e = InvalidUrl e

-- a URL is the target, and a refusal is the reason that there is none
abbrev pub resolved_as : Parsed Parts → Resolved
resolved_as (Ok url) = Ok url
resolved_as (Err e) = Err (refusal e)

-- a text that is no URL: joined to its referrer if it begins with `/`, `./` or `../`
abbrev pub relative_import : Parsed Parts → List ℕ → Resolved
relative_import referrer text =
    if has_relative_prefix text
    then resolved_as (and_then referrer (λ base. parse_url (Some base) text))
    else Err (ImportPrefixMissing text)

-- by what reading the text gave: a URL stands for itself
abbrev pub import_read : Parsed Parts → Parsed Parts → List ℕ → Resolved
import_read (Ok url) referrer text = Ok url
import_read (Err RelativeUrlWithoutBase) referrer text = relative_import referrer text
import_read (Err e) referrer text = Err (refusal e)

-- what the text leads to from a referrer, whose own reading may have been refused
unfoldable pub import_of : Parsed Parts → List ℕ → Resolved
import_of referrer text = import_read (parse_url None text) referrer text

-- the reason never stands for being out of memory
abbrev pub KeepsReason : SpecifierError → Type 0
KeepsReason (InvalidUrl e) = ¬ IsOutOfRoom e
KeepsReason (ImportPrefixMissing text) = Unit {0}
KeepsReason OutOfMemory = Unit {0}

-- the specifier is kept, unless memory runs out
abbrev pub IsPrefixMissing : List ℕ → SpecifierError → Type 0
IsPrefixMissing text e = (e ≡ ImportPrefixMissing text) ⊎ (e ≡ OutOfMemory)
