-- The URL of a path, and the path of a URL.
use Rattle.std.specs.Prelude.{◌≢◌, ℕ, nat_lt, Bool, false, not, ◌||◌, ◌==◌, List, [], ◌∷◌, ◌++◌, length, filter, codes, bytes_eq, None, Result, Ok, Err, if◌then◌else◌}
use Rattle.std.specs.List.{flat_map, list_any}
use Rattle.percent_encoding.specs.Percent.{percent_encode_byte}
use Rattle.url.specs.Parts.{Parts}
use Rattle.url.specs.declared.error.ParseError.{ParseError}
use Rattle.url.specs.declared.error.ParseError.TheVariants as url
use Rattle.url.specs.Parser.{Parsed, parse_url, IsOutOfRoom}
use Rattle.lexical_path.specs.Paths.{parts, is_absolute, normal_path, joined_path}
use Rattle.lexical_path.specs.Specifiers.{has_uri_scheme}
use Rattle.file_url.specs.declared.errors.PathToUrlError.{PathToUrlError}
use Rattle.file_url.specs.declared.errors.PathToUrlError.TheVariants.{Path, OutOfMemory}
use Rattle.file_url.specs.declared.errors.ResolveUrlOrPathError.{ResolveUrlOrPathError}
use Rattle.file_url.specs.declared.errors.ResolveUrlOrPathError.TheVariants as resolve

-- the parts of a path that are neither empty nor `.`: the components of a path that has no component `.`
abbrev pub is_plain : List ℕ → Bool
is_plain part = not (length part == 0 || bytes_eq part (codes "."))

abbrev pub plain_parts : List ℕ → List (List ℕ)
plain_parts path = filter is_plain (parts path)

-- the marks of ASCII that a name escapes (this project's profile)
abbrev pub marks : List ℕ
marks = codes " \"#%<>?`{}|\\/"

-- the byte of a name is escaped: a control, one of these marks, or past ASCII
abbrev pub is_escaped : ℕ → Bool
is_escaped b = nat_lt b 32 || nat_lt 126 b || list_any (λ mark. mark == b) marks

-- a byte of a name, as it is or as `%` and two upper-case hexadecimal digits
abbrev pub escaped_byte : ℕ → List ℕ
escaped_byte b = if is_escaped b then percent_encode_byte b else b ∷ []

-- `/` and the name with its bytes escaped
abbrev pub escaped : List ℕ → List ℕ
escaped name = codes "/" ++ flat_map escaped_byte name

-- the escaped names, and a `/` behind them in a folder's path and where there is none
unfoldable pub escaped_path : Bool → List (List ℕ) → List ℕ
escaped_path folder names = flat_map escaped names ++ (if length names == 0 || folder then codes "/" else [])

-- the text of a file URL
abbrev pub file_text : List ℕ → Bool → List (List ℕ) → List ℕ
file_text host folder names = codes "file://" ++ (host ++ escaped_path folder names)

-- a URL; its text is never refused (`file_text_is_read`, proofs/Theorems.antt), and where it were, memory would do
abbrev pub read_or_memory : Parsed Parts → Result Parts PathToUrlError
read_or_memory (Ok url) = Ok url
read_or_memory (Err e) = Err OutOfMemory

-- the URL that is read from such a text
abbrev pub file_url : List ℕ → Bool → List (List ℕ) → Result Parts PathToUrlError
file_url host folder names = read_or_memory (parse_url None (file_text host folder names))

-- the URL of a file's or a folder's path
abbrev pub url_of_normal : Bool → List ℕ → Result Parts PathToUrlError
url_of_normal folder path = if is_absolute path then file_url [] folder (plain_parts path) else Err (Path path)

abbrev pub url_of_path : Bool → List ℕ → Result Parts PathToUrlError
url_of_path folder path = url_of_normal folder (normal_path path)

-- ---- a URL or a path

-- what a refusal of reading becomes: a URL near 4 GB counts as out of memory
abbrev pub url_refusal : ParseError → ResolveUrlOrPathError
url_refusal url.OutOfMemory = resolve.OutOfMemory
url_refusal url.Overflow = resolve.OutOfMemory
url_refusal e = resolve.UrlParse e

-- what a refusal of a path becomes
abbrev pub path_refusal : PathToUrlError → ResolveUrlOrPathError
path_refusal OutOfMemory = resolve.OutOfMemory
path_refusal (Path path) = resolve.PathToUrl (Path path)

-- what reading a specifier with a scheme gives
abbrev pub url_read : Parsed Parts → Result Parts ResolveUrlOrPathError
url_read (Ok url) = Ok url
url_read (Err e) = Err (url_refusal e)

-- what the URL of a path gives
abbrev pub path_read : Result Parts PathToUrlError → Result Parts ResolveUrlOrPathError
path_read (Ok url) = Ok url
path_read (Err e) = Err (path_refusal e)

-- the URL of a specifier with a scheme, and else that of a path as seen from the current folder
abbrev pub url_or_path : List ℕ → List ℕ → Result Parts ResolveUrlOrPathError
url_or_path specifier folder =
    if has_uri_scheme specifier then url_read (parse_url None specifier)
    else path_read (url_of_path false (joined_path folder specifier))

-- the reason never stands for being out of memory
abbrev pub KeepsReason : ResolveUrlOrPathError → Type 0
KeepsReason (resolve.UrlParse e) = ¬ IsOutOfRoom e
KeepsReason (resolve.PathToUrl e) = e ≢ OutOfMemory
KeepsReason resolve.OutOfMemory = Unit {0}
