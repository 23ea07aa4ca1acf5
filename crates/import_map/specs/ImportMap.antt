-- Import maps (HTML, "Import maps"), in this project's profile: what a JSON value says, and where a specifier leads by
-- it.
use Rattle.std.specs.Prelude.{ℕ, ◌-◌, ◌==◌, nat_lt, Bool, true, not, ◌&&◌, ◌||◌, List, [], ◌∷◌, length, drop, slice_index, codes, bytes_eq, Option, Some, None, is_some, option_and_then, Ok, Err, if◌then◌else◌}
use Rattle.std.specs.Result.{result_ok}
use Rattle.std.specs.BTreeMap.{insert_entry}
use Rattle.std.specs.Ordering.{nat_cmp}
use Rattle.std.specs.Cmp.Lexicographic.{slice_cmp}
use Rattle.serde_json.specs.Data.{Data, Members, no_members, member}
use Rattle.serde_json.specs.Find.{as_str}
use Rattle.url.specs.Scheme.{is_special}
use Rattle.url.specs.Parts.{Parts, serialize, kind_of}
use Rattle.url.specs.Parser.{Parsed, parse_url}
use Rattle.lexical_path.specs.Specifiers.{begins, has_relative_prefix}
use Rattle.import_map.specs.json_reading.Reading.{Reading, and_then, under, escaped, object_of, optional}
use Rattle.specifier_resolver.specs.declared.resolver.ResolveFault.TheVariants.{Refused}
use Rattle.specifier_resolver.specs.Resolver.{Resolving, default_resolving}

-- ---- tables

-- keys, each with what stands there
abbrev pub Table : Type 0 → Type 0
Table V = List (List ℕ × V)

-- keys of specifiers with their addresses, of which `None` is the null address
abbrev pub Addresses : Type 0
Addresses = Table (Option Parts)

-- what contracts see of an import map; its tables are in the order of the keys' bytes, with no key twice
pub record MapData : Type 0 where
  pub imports : Addresses
  pub scopes : Table Addresses

-- the table with this at the key
abbrev pub with_key : {V : Type 0} → Table V → List ℕ → V → Table V
with_key table key value = insert_entry (slice_cmp nat_cmp) table key value

-- ---- what a value says

-- a text read URL-like at a base: joined to it where it begins with `/`, `./` or `../` (HTML, "resolve a URL-like
-- module specifier")
abbrev pub url_like : Parts → List ℕ → Option Parts
url_like base text =
    if has_relative_prefix text then result_ok (parse_url (Some base) text) else result_ok (parse_url None text)

-- the text of what was read, or the text itself
abbrev pub text_or : Option Parts → List ℕ → List ℕ
text_or (Some url) text = serialize url
text_or None text = text

abbrev pub ends_with_slash : List ℕ → Bool
ends_with_slash text = slice_index text (length text - 1) == 47

-- the address that a URL is for a key as written: one that ends with `/` asks for one that does
abbrev pub fitting : List ℕ → Option Parts → Option Parts
fitting key None = None
fitting key (Some url) = if ends_with_slash key && not (ends_with_slash (serialize url)) then None else Some url

-- the address that a value says (HTML, "sort and normalize a module specifier map")
abbrev pub address_of : Parts → List ℕ → Data → Option Parts
address_of base key value = fitting key (option_and_then (url_like base) (as_str value))

-- the addresses with those of a member; an empty key says nothing (HTML, "normalize a specifier key")
abbrev pub with_import : Parts → Addresses → List ℕ → Data → Addresses
with_import base table key value =
    if length key == 0 then table
    else with_key table (text_or (url_like base key) key) (address_of base key value)

-- Those of all members. They stand in the order of their keys, so of two keys that become one the greater as written
-- counts.
abbrev pub addresses_onto : Parts → Addresses → Members → Addresses
addresses_onto base table no_members = table
addresses_onto base table (member key value rest) = addresses_onto base (with_import base table key value) rest

abbrev pub addresses_of : Parts → Data → Reading Addresses
addresses_of base value = and_then (λ members. Ok (addresses_onto base [] members)) (object_of value)

-- the scopes with this one, if its key is a URL at the base (HTML, "sort and normalize scopes")
abbrev pub with_scope : Parsed Parts → Table Addresses → Addresses → Table Addresses
with_scope (Ok url) scopes table = with_key scopes (serialize url) table
with_scope (Err e) scopes table = scopes

abbrev pub scopes_onto : Parts → Table Addresses → Members → Reading (Table Addresses)
scopes_onto base scopes no_members = Ok scopes
scopes_onto base scopes (member key value rest) =
    and_then (λ table. scopes_onto base (with_scope (parse_url (Some base) key) scopes table) rest)
    (under (escaped key) (addresses_of base value))

abbrev pub scopes_of : Parts → Data → Reading (Table Addresses)
scopes_of base value = and_then (scopes_onto base []) (object_of value)

-- the import map that an object says
abbrev pub map_from : Parts → Data → Reading MapData
map_from base value =
    and_then (λ table. and_then (λ scoped. Ok (record { imports = table; scopes = scoped }))
    (optional (scopes_of base) [] (codes "scopes") value))
    (optional (addresses_of base) [] (codes "imports") value)

-- the import map that a value says, or the pointer to the first thing that is no object: the value, its `imports`, its
-- `scopes`, a scope (HTML, "parse an import map string"); other keys are passed over
unfoldable pub map_of : Parts → Data → Reading MapData
map_of base value = and_then (λ members. map_from base value) (object_of value)

-- ---- where a specifier leads

-- of two, the one with the longer key
abbrev pub longer : {V : Type 0} → Option (List ℕ × V) → Option (List ℕ × V) → Option (List ℕ × V)
longer None other = other
longer (Some e) None = Some e
longer (Some e) (Some f) = if nat_lt (length e.0) (length f.0) then Some f else Some e

-- the longest key that passes, with what stands there
abbrev pub longest : {V : Type 0} → (List ℕ × V → Bool) → Table V → Option (List ℕ × V)
longest passes [] = None
longest passes (e ∷ rest) = longer (if passes e then Some e else None) (longest passes rest)

-- a key matches a text: it is the text, or, where fronts count, it ends with `/` and the text begins with it
abbrev pub is_match : Bool → List ℕ → List ℕ → Bool
is_match fronts text key = bytes_eq text key || (fronts && (ends_with_slash key && begins text key))

-- fronts count unless the text is read as a URL of a scheme that isn't special (URL Standard, "special scheme")
abbrev pub has_fronts : Option Parts → Bool
has_fronts None = true
has_fronts (Some url) = is_special (kind_of url)

-- a table's match for a text
abbrev pub match_in : Bool → List ℕ → Addresses → Option (List ℕ × Option Parts)
match_in fronts text table = longest (λ e. is_match fronts text e.0) table

-- the match in the scope that decides: the longest that is the referrer's and has one
abbrev pub scoped_match : Bool → List ℕ → List ℕ → Table Addresses → Option (List ℕ × Option Parts)
scoped_match fronts text referrer scopes =
    option_and_then (λ e. match_in fronts text e.1)
    (longest (λ e. is_match true referrer e.0 && is_some (match_in fronts text e.1)) scopes)

-- the first of two that there is
abbrev pub or_else : {A : Type 0} → Option A → Option A → Option A
or_else (Some x) other = Some x
or_else None other = other

-- the match that decides: a scope's before that of `imports` (HTML, "resolve a module specifier")
abbrev pub match_of : MapData → Bool → List ℕ → List ℕ → Option (List ℕ × Option Parts)
match_of m fronts text referrer = or_else (scoped_match fronts text referrer m.scopes) (match_in fronts text m.imports)

-- where an address leads that the rest of a text was joined to: never out of it
abbrev pub led_on : Parts → Parsed Parts → Resolving
led_on address (Ok url) =
    if begins (serialize url) (serialize address) then Ok url else Err (Refused (codes "import map: backtracks"))
led_on address (Err e) = Err (Refused (codes "import map: bad address"))

-- where a match leads (HTML, "resolve an imports match")
abbrev pub led_by : List ℕ → List ℕ → Option Parts → Resolving
led_by text key None = Err (Refused (codes "import map: null"))
led_by text key (Some address) =
    if bytes_eq text key then Ok address else led_on address (parse_url (Some address) (drop (length key) text))

-- where the match leads, or the specifier without one
abbrev pub decided : List ℕ → Resolving → Option (List ℕ × Option Parts) → Resolving
decided text without (Some e) = led_by text e.0 e.1
decided text without None = without

-- by what the specifier is read as
abbrev pub resolve_read : MapData → Option Parts → List ℕ → Parts → Resolving
resolve_read m url specifier referrer =
    decided (text_or url specifier) (default_resolving specifier referrer)
    (match_of m (has_fronts url) (text_or url specifier) (serialize referrer))

-- where a specifier leads from a referrer
unfoldable pub map_resolve : MapData → List ℕ → Parts → Resolving
map_resolve m specifier referrer = resolve_read m (url_like referrer specifier) specifier referrer
