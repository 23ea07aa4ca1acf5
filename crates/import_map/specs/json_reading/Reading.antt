-- What a JSON value (RFC 8259) says, or where the first thing stands that keeps it from saying it (RFC 6901, "JSON
-- Pointer").
use Rattle.std.specs.Prelude.{ℕ, ◌+◌, ◌==◌, Bool, List, [], ◌∷◌, ◌++◌, codes, chars, encode_utf8_all, decimal, flat_map, Option, Some, None, Result, Ok, Err, if◌then◌else◌}
use Rattle.serde_json.specs.Data.{Data, Items, no_items, item, Members, no_members, member}
use Rattle.serde_json.specs.Find.{get, as_object, as_array, as_str, as_bool}
use Rattle.url.specs.Parts.{Parts}
use Rattle.url.specs.Parser.{parse_url}

-- what a value says, or the pointer from it to what is at fault
abbrev pub Reading : Type 0 → Type 0
Reading A = Result A (List ℕ)

-- what follows of what a value says
abbrev pub and_then : {A B : Type 0} → (A → Reading B) → Reading A → Reading B
and_then f (Ok x) = f x
and_then f (Err at) = Err at

-- what is there, or the value itself is at fault
abbrev pub said : {A : Type 0} → Option A → Reading A
said (Some x) = Ok x
said None = Err []

-- what a refusable result gives, or the value itself is at fault
abbrev pub or_here : {A E : Type 0} → Result A E → Reading A
or_here (Ok x) = Ok x
or_here (Err e) = Err []

-- ---- pointers

-- the pointer that goes on behind a part
abbrev pub pointer : List ℕ → List ℕ → List ℕ
pointer part rest = codes "/" ++ part ++ rest

-- a key as a part: `~` is written `~0`, and `/` is written `~1` (RFC 6901, section 3)
unfoldable pub escaped_char : ℕ → List ℕ
escaped_char c = if c == 126 then 126 ∷ 48 ∷ [] else (if c == 47 then 126 ∷ 49 ∷ [] else c ∷ [])

abbrev pub escaped : List ℕ → List ℕ
escaped key = encode_utf8_all (flat_map escaped_char (chars key))

-- what stands at a part
abbrev pub under : {A : Type 0} → List ℕ → Reading A → Reading A
under part (Ok x) = Ok x
under part (Err rest) = Err (pointer part rest)

-- ---- values

abbrev pub bool_of : Data → Reading Bool
bool_of value = said (as_bool value)

abbrev pub text_of : Data → Reading (List ℕ)
text_of value = said (as_str value)

-- a URL by its text (URL Standard, "URL parsing", without a base)
abbrev pub url_of : Data → Reading Parts
url_of value = and_then (λ text. or_here (parse_url None text)) (text_of value)

-- the members of an object
abbrev pub object_of : Data → Reading Members
object_of value = said (as_object value)

-- ---- lists

-- the items, as a list
abbrev pub items_list : Items → List Data
items_list no_items = []
items_list (item value rest) = value ∷ items_list rest

-- one more in front
abbrev pub before : {A : Type 0} → A → Reading (List A) → Reading (List A)
before x (Ok xs) = Ok (x ∷ xs)
before x (Err at) = Err at

-- what the values say, each at its number, the first of them being this one (RFC 6901, section 4)
abbrev pub each_from : {A : Type 0} → (Data → Reading A) → ℕ → List Data → Reading (List A)
each_from says place [] = Ok []
each_from says place (value ∷ values) =
    and_then (λ x. before x (each_from says (place + 1) values)) (under (decimal place) (says value))

-- what the items of an array say
abbrev pub each_of : {A : Type 0} → (Data → Reading A) → Data → Reading (List A)
each_of says value = and_then (λ items. each_from says 0 (items_list items)) (said (as_array value))

-- ---- objects

-- the value that must stand somewhere
abbrev pub there : {A : Type 0} → (Data → Reading A) → Option Data → Reading A
there says (Some value) = says value
there says None = Err []

-- what must stand at a key
abbrev pub required : {A : Type 0} → (Data → Reading A) → List ℕ → Data → Reading A
required says key value = under key (there says (get key value))

-- what stands somewhere, or the default
abbrev pub or_default : {A : Type 0} → (Data → Reading A) → A → Option Data → Reading A
or_default says default (Some value) = says value
or_default says default None = Ok default

-- what may stand at a key
abbrev pub optional : {A : Type 0} → (Data → Reading A) → A → List ℕ → Data → Reading A
optional says default key value = under key (or_default says default (get key value))

-- the members have no other keys than these; the first other one is at fault
abbrev pub only : (List ℕ → Bool) → Members → Reading (Unit {0})
only knows no_members = Ok tt
only knows (member key value rest) = if knows key then only knows rest else Err (pointer (escaped key) [])
