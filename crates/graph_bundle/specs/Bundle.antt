-- Bundles: what a JSON value says of roots, options, modules and their arrival, or the first thing for which it says nothing,
-- in this order (this project's profile; JSON is that of RFC 8259).
use Rattle.std.specs.Prelude.{◌≡◌, ℕ, ◌+◌, ◌==◌, ◌&&◌, ◌||◌, nat_lt, Bool, true, false, not, List, [], ◌∷◌, ◌++◌, map, codes, decimal, bytes_eq, Option, Some, None, is_some, option_map, option_and_then, Result, Ok, Err, if◌then◌else◌, IsUtf8}
use Rattle.serde_json.specs.Data.{Data, Items, Members, no_members, member}
use Rattle.serde_json.specs.Read.{read}
use Rattle.serde_json.specs.Find.{get, as_null, as_number, as_u64, as_array, as_bool}
use Rattle.base64.specs.GeneralPurpose.{decode_of}
use Rattle.base64.specs.Engines.{standard}
use Rattle.url.specs.Parts.{Parts}
use Rattle.import_map.specs.json_reading.Reading.{Reading, and_then, said, or_here, pointer, escaped, under, url_of, bool_of, object_of, items_list, before, each_of, there, required, or_default, optional, only}
use Rattle.import_map.specs.json_reading.Reading as reading
use Rattle.graph_entry.specs.Specifier.{text_of}
use Rattle.graph_entry.specs.Headers.{HeaderList, with_header}
use Rattle.graph_entry.specs.declared.kind.GraphKind.{GraphKind}
use Rattle.graph_entry.specs.declared.kind.GraphKind.TheVariants.{All, CodeOnly, TypesOnly}
use Rattle.graph_entry.specs.declared.referrer.ReferrerImports.{ReferrerImports}
use Rattle.graph_entry.specs.declared.answer.LoadAnswer.{LoadAnswer}
use Rattle.graph_entry.specs.declared.answer.LoadAnswer.TheVariants.{Content, Redirect, External, Failed}
use Rattle.graph_builder.specs.declared.memory_loader.Arrival.{Arrival}
use Rattle.graph_builder.specs.declared.memory_loader.Arrival.TheVariants.{Answer, Pending}
use Rattle.graph_builder.specs.declared.options.BuildOptions.{BuildOptions}
use Rattle.graph_builder.specs.Reach.{Specifier, has}
use Rattle.import_map.specs.ImportMap.{MapData, map_of}
use Rattle.graph_bundle.specs.declared.bundle.Bundle.{Bundle}
use Rattle.graph_bundle.specs.declared.chosen.ChosenBundle.{ChosenBundle}

-- the bytes are a JSON text of this value
abbrev pub IsJson : List ℕ → Data → Type 0
IsJson bytes value = IsUtf8 bytes × (read bytes ≡ Some value)

-- ---- options

-- the kind of graph that a word names
abbrev pub kind_named : List ℕ → Option GraphKind
kind_named word =
    if bytes_eq word (codes "all") then Some All
    else (if bytes_eq word (codes "code") then Some CodeOnly
    else (if bytes_eq word (codes "types") then Some TypesOnly else None))

abbrev pub kind_of : Data → Reading GraphKind
kind_of value = and_then (λ word. said (kind_named word)) (reading.text_of value)

-- how many specifiers the graph may have, if the bundle doesn't say; and the most that it can say
abbrev pub default_limit : ℕ
default_limit = 10000

abbrev pub highest_limit : ℕ
highest_limit = 1000000

-- a number within the bounds
abbrev pub within_bounds : ℕ → Option ℕ
within_bounds n = if nat_lt n 1 || nat_lt highest_limit n then None else Some n

-- a whole number, written without point and exponent
abbrev pub limit_in : Data → Option ℕ
limit_in value = option_and_then within_bounds (option_and_then as_u64 (as_number value))

abbrev pub limit_of : Data → Reading ℕ
limit_of value = said (limit_in value)

abbrev pub limit_at : Data → Reading ℕ
limit_at value = optional limit_of default_limit (codes "limit") value

-- the keys of a place outside that imports
abbrev pub knows_place : List ℕ → Bool
knows_place key = bytes_eq key (codes "referrer") || bytes_eq key (codes "imports")

-- what an object with these members says that a place outside imports
abbrev pub place_from : Data → Members → Reading ReferrerImports
place_from value members =
    and_then (λ place. and_then (λ texts. and_then (λ done. Ok (record { referrer = place; imports = texts }))
    (only knows_place members))
    (required (each_of reading.text_of) (codes "imports") value))
    (required url_of (codes "referrer") value)

abbrev pub place_of : Data → Reading ReferrerImports
place_of value = and_then (place_from value) (object_of value)

-- what to build: the kind, the limit, whether dynamic imports are skipped, and what places outside import
abbrev pub options_of : Data → Reading BuildOptions
options_of value =
    and_then (λ wanted. and_then (λ most. and_then (λ skips. and_then (λ places.
    Ok (record { kind = wanted; limit = most; skip_dynamic_deps = skips; imports = places }))
    (optional (each_of place_of) [] (codes "imports") value))
    (optional bool_of false (codes "skipDynamicDeps") value))
    (limit_at value))
    (optional kind_of All (codes "kind") value)

-- ---- the headers of a module

abbrev pub header_in : List ℕ → Data → Reading (List ℕ)
header_in name value = under (escaped name) (reading.text_of value)

-- The headers with those of the members behind them, if each is a text. Members stand in the order of their names, so
-- of two names that become one the greater as written counts.
abbrev pub headers_onto : HeaderList → Members → Reading HeaderList
headers_onto headers no_members = Ok headers
headers_onto headers (member name value rest) =
    and_then (λ text. headers_onto (with_header headers name text) rest) (header_in name value)

abbrev pub headers_of : Data → Reading HeaderList
headers_of value = and_then (headers_onto []) (object_of value)

-- ---- the answer of a module

-- the content that a text is
abbrev pub text_answer : HeaderList → Data → Reading LoadAnswer
text_answer headers value = and_then (λ text. Ok (Content headers text)) (reading.text_of value)

-- the content that a text encodes, if it is an encoding (RFC 4648, "Base 64 Encoding", with its padding and no bits left over)
abbrev pub decoded : HeaderList → List ℕ → Reading LoadAnswer
decoded headers code = and_then (λ bytes. Ok (Content headers bytes)) (or_here (decode_of standard code))

abbrev pub code_answer : HeaderList → Data → Reading LoadAnswer
code_answer headers value = and_then (decoded headers) (reading.text_of value)

-- a redirect
abbrev pub redirect_answer : Data → Reading LoadAnswer
redirect_answer value = and_then (λ target. Ok (Redirect target)) (url_of value)

-- an answer that `true` stands for
abbrev pub if_true : LoadAnswer → Option Bool → Reading LoadAnswer
if_true answer (Some true) = Ok answer
if_true answer (Some false) = Err []
if_true answer None = Err []

abbrev pub answer_if : LoadAnswer → Data → Reading LoadAnswer
answer_if answer value = if_true answer (as_bool value)

-- what stands at a key, or else the other one
abbrev pub at_or_else : List ℕ → (Data → Reading LoadAnswer) → Option Data → Reading LoadAnswer → Reading LoadAnswer
at_or_else key says (Some value) other = under key (says value)
at_or_else key says None other = other

abbrev pub at_or : List ℕ → (Data → Reading LoadAnswer) → Data → Reading LoadAnswer → Reading LoadAnswer
at_or key says value other = at_or_else key says (get key value) other

abbrev pub external_or_fail : Data → Reading LoadAnswer
external_or_fail value =
    at_or (codes "external") (answer_if External) value (required (answer_if Failed) (codes "fail") value)

abbrev pub redirect_or_other : Data → Reading LoadAnswer
redirect_or_other value = at_or (codes "redirect") redirect_answer value (external_or_fail value)

abbrev pub code_or_other : HeaderList → Data → Reading LoadAnswer
code_or_other headers value = at_or (codes "base64") (code_answer headers) value (redirect_or_other value)

abbrev pub text_or_other : HeaderList → Data → Reading LoadAnswer
text_or_other headers value = at_or (codes "text") (text_answer headers) value (code_or_other headers value)

-- how many of the five answers a module has
abbrev pub count_there : Option Data → ℕ
count_there (Some value) = 1
count_there None = 0

abbrev pub count_at : List ℕ → Data → ℕ
count_at key value = count_there (get key value)

abbrev pub count_answers : Data → ℕ
count_answers value =
    count_at (codes "text") value + count_at (codes "base64") value + count_at (codes "redirect") value
    + count_at (codes "external") value + count_at (codes "fail") value

-- the one answer that a module has; where it has none or several, the module is at fault
abbrev pub answer_of : HeaderList → Data → Reading LoadAnswer
answer_of headers value = if count_answers value == 1 then text_or_other headers value else Err []

-- ---- modules

-- the keys of a module
abbrev pub knows_module : List ℕ → Bool
knows_module key =
    bytes_eq key (codes "specifier") || bytes_eq key (codes "headers") || bytes_eq key (codes "text")
    || bytes_eq key (codes "base64") || bytes_eq key (codes "redirect") || bytes_eq key (codes "external")
    || bytes_eq key (codes "fail")

-- the specifier of a module, which none of these earlier ones may be
abbrev pub new_specifier : List Specifier → Data → Reading Parts
new_specifier earlier value =
    and_then (λ url. if has earlier (text_of url) then Err (pointer (codes "specifier") []) else Ok url)
    (required url_of (codes "specifier") value)

-- the module at a specifier, of an object with these members
abbrev pub module_from : Parts → Data → Members → Reading (Parts × LoadAnswer)
module_from url value members =
    and_then (λ headers. and_then (λ answer. and_then (λ done. Ok (url, answer)) (only knows_module members))
    (answer_of headers value))
    (optional headers_of [] (codes "headers") value)

-- a module behind others with these specifiers
abbrev pub module_after : List Specifier → Data → Reading (Parts × LoadAnswer)
module_after earlier value =
    and_then (λ members. and_then (λ url. module_from url value members) (new_specifier earlier value)) (object_of value)

-- the modules that the values say, behind others with these specifiers, the first value standing at this place
abbrev pub modules_from : List Specifier → ℕ → List Data → Reading (List (Parts × LoadAnswer))
modules_from earlier place [] = Ok []
modules_from earlier place (value ∷ values) =
    and_then (λ m. before m (modules_from (earlier ++ text_of m.0 ∷ []) (place + 1) values))
    (under (decimal place) (module_after earlier value))

abbrev pub modules_of : Data → Reading (List (Parts × LoadAnswer))
modules_of value = and_then (λ items. modules_from [] 0 (items_list items)) (said (as_array value))

-- the modules' specifiers
abbrev pub specifiers : List (Parts × LoadAnswer) → List Specifier
specifiers modules = map (λ m. text_of m.0) modules

-- ---- arrival

-- `null` is that nothing has come, and a URL the answer for it
abbrev pub arrival_of : Data → Reading Arrival
arrival_of value = if is_some (as_null value) then Ok Pending else and_then (λ url. Ok (Answer url)) (url_of value)

-- ---- import maps

-- the keys of an import map with its base
abbrev pub knows_import_map : List ℕ → Bool
knows_import_map key = bytes_eq key (codes "base") || bytes_eq key (codes "map")

-- the import map that an object with these members says: a map whose relative URLs are read at its base
abbrev pub import_map_from : Data → Members → Reading MapData
import_map_from value members =
    and_then (λ base. and_then (λ mapped. and_then (λ done. Ok mapped) (only knows_import_map members))
    (required (map_of base) (codes "map") value))
    (required url_of (codes "base") value)

abbrev pub import_map_of : Data → Reading MapData
import_map_of value = and_then (import_map_from value) (object_of value)

abbrev pub some_import_map : Data → Reading (Option MapData)
some_import_map value = and_then (λ mapped. Ok (Some mapped)) (import_map_of value)

-- ---- bundles

-- the keys of a bundle
abbrev pub knows_bundle : List ℕ → Bool
knows_bundle key =
    bytes_eq key (codes "roots") || bytes_eq key (codes "kind") || bytes_eq key (codes "limit")
    || bytes_eq key (codes "skipDynamicDeps") || bytes_eq key (codes "imports") || bytes_eq key (codes "modules")
    || bytes_eq key (codes "arrival") || bytes_eq key (codes "importMap")

-- the bundle that an object with these members says, of whose keys these are known
abbrev pub bundle_from_by : (List ℕ → Bool) → Data → Members → Reading Bundle
bundle_from_by knows value members =
    and_then (λ given. and_then (λ wanted. and_then (λ told. and_then (λ order. and_then (λ mapped. and_then (λ done.
    Ok (record { roots = given; options = wanted; modules = told; arrival = order; import_map = mapped }))
    (only knows members))
    (optional some_import_map None (codes "importMap") value))
    (optional (each_of arrival_of) [] (codes "arrival") value))
    (required modules_of (codes "modules") value))
    (options_of value))
    (required (each_of url_of) (codes "roots") value)

abbrev pub bundle_from : Data → Members → Reading Bundle
bundle_from value members = bundle_from_by knows_bundle value members

-- the bundle that a JSON value says: its roots, its options, its modules, of which no two have one specifier, the order in which
-- they come, and its import map
unfoldable pub bundle_of : Data → Reading Bundle
bundle_of value = and_then (bundle_from value) (object_of value)

-- ---- bundles with choices

-- the keys of a bundle, and one more
abbrev pub knows_chosen : List ℕ → Bool
knows_chosen key = knows_bundle key || bytes_eq key (codes "jsonWithoutAttribute")

-- the bundle that an object with these members says, of whose keys these are known, and whether an import without an attribute
-- may be of JSON
abbrev pub chosen_from_by : (List ℕ → Bool) → Data → Members → Reading ChosenBundle
chosen_from_by knows value members =
    and_then (λ allowed. and_then (λ bundle. Ok (record { bundle = bundle; json_without_attribute = allowed }))
    (bundle_from_by knows value members))
    (optional bool_of false (codes "jsonWithoutAttribute") value)

abbrev pub chosen_from : Data → Members → Reading ChosenBundle
chosen_from value members = chosen_from_by knows_chosen value members

-- the bundle with choices that a JSON value says
unfoldable pub chosen_of : Data → Reading ChosenBundle
chosen_of value = and_then (chosen_from value) (object_of value)
