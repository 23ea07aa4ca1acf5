-- Reference comments of TypeScript, as sites (TypeScript Handbook, "Triple-Slash Directives"; this project's profile).
use Rattle.std.specs.Prelude.{ℕ, ◌+◌, ◌-◌, nat_eq, nat_lt, nat_le, Bool, true, false, not, ◌==◌, ◌||◌, List, [], ◌∷◌, length, take, drop, codes, Option, Some, None, option_to_list, if◌then◌else◌}
use Rattle.std.specs.List.{starts_with, prefix_len, position, list_any, flat_map, find}
use Rattle.std.specs.Option.{option_and_then, option_map}
use Rattle.es_token.specs.declared.token.Token.{Token}
use Rattle.es_token.specs.declared.token.TokenKind.{TokenKind}
use Rattle.es_token.specs.declared.token.TokenKind.TheVariants.{Shebang}
use Rattle.es_token.specs.declared.token.Comment.{Comment}
use Rattle.es_token.specs.declared.token.CommentKind.{CommentKind}
use Rattle.es_token.specs.declared.token.CommentKind.TheVariants.{Line, Block}
use Rattle.es_site.specs.declared.site.Site.{Site}
use Rattle.es_site.specs.declared.site.DependencyKind.{DependencyKind}
use Rattle.es_site.specs.declared.site.DependencyKind.TheVariants.{ReferencePath, ReferenceTypes}
use Rattle.es_site.specs.declared.site.Attribute.TheVariants.{Unknown}

-- ---- parts of the text

abbrev pub is_blank : ℕ → Bool
is_blank b = b == 32 || b == 9

-- the text behind the blanks and tabs at its front
abbrev pub behind_blanks : List ℕ → List ℕ
behind_blanks text = drop (prefix_len is_blank text) text

-- the same where there is one at least
abbrev pub behind_gap : List ℕ → Option (List ℕ)
behind_gap text = if nat_lt 0 (prefix_len is_blank text) then Some (behind_blanks text) else None

-- the text behind this front, where it begins with it
abbrev pub behind : List ℕ → List ℕ → Option (List ℕ)
behind front text = if starts_with nat_eq text front then Some (drop (length front) text) else None

-- the text holds `/>`
abbrev pub has_end : List ℕ → Bool
has_end [] = false
has_end (b ∷ rest) = starts_with nat_eq (b ∷ rest) (codes "/>") || has_end rest

-- ---- a reference: `/ <reference path = "a" />`, its blanks as many as are wanted, but one behind `<reference`

-- what stands behind `/ <reference `
abbrev pub behind_opening : List ℕ → Option (List ℕ)
behind_opening text =
    option_and_then (λ inner. option_and_then behind_gap (behind (codes "<reference") (behind_blanks inner)))
    (behind (codes "/") text)

-- what it refers to, and what stands behind the word that says so
abbrev pub Named : Type 0
Named = DependencyKind × List ℕ

abbrev pub named : List ℕ → Option Named
named text =
    if starts_with nat_eq text (codes "path") then Some (ReferencePath, drop 4 text)
    else (if starts_with nat_eq text (codes "types") then Some (ReferenceTypes, drop 5 text) else None)

-- what stands behind the `=`
abbrev pub behind_equals : List ℕ → Option (List ℕ)
behind_equals text = option_map behind_blanks (behind (codes "=") (behind_blanks text))

-- a value, and what stands behind its closing quote
abbrev pub Quoted : Type 0
Quoted = List ℕ × List ℕ

-- a value without this byte
abbrev pub without : ℕ → List ℕ → List ℕ → Option Quoted
without other value behind = if list_any (λ b. b == other) value then None else Some (value, behind)

-- the text is cut at the place of the closing quote
abbrev pub closed_at : ℕ → List ℕ → Option ℕ → Option Quoted
closed_at other text (Some at) = without other (take at text) (drop (at + 1) text)
closed_at other text None = None

-- up to the first of these quotes, where none of the others stands before it
abbrev pub closed_by : ℕ → ℕ → List ℕ → Option Quoted
closed_by quote other text = closed_at other text (position (λ b. b == quote) text)

abbrev pub quoted : List ℕ → Option Quoted
quoted [] = None
quoted (b ∷ text) = if b == 34 then closed_by 34 39 text else (if b == 39 then closed_by 39 34 text else None)

-- what a comment refers to: its kind, its value, and what stands from the value's quote on and behind its closing quote
pub record Reference : Type 0 where
  pub kind : DependencyKind
  pub value : List ℕ
  pub from : List ℕ
  pub behind : List ℕ

-- a reference ends with `/>`, anywhere behind the value
abbrev pub ended : DependencyKind → List ℕ → Quoted → Option Reference
ended kind from q =
    if has_end q.1 then Some (record { kind = kind; value = q.0; from = from; behind = q.1 }) else None

abbrev pub reference_from : DependencyKind → List ℕ → Option Reference
reference_from kind from = option_and_then (ended kind from) (quoted from)

abbrev pub reference_named : Named → Option Reference
reference_named n = option_and_then (reference_from n.0) (behind_equals n.1)

-- the text of a line comment refers to this
unfoldable pub reference_in : List ℕ → Option Reference
reference_in text = option_and_then reference_named (option_and_then named (behind_opening text))

-- ---- sites

-- the site of a reference in a comment that ends at this place: it is cut with its quotes
abbrev pub site_of : ℕ → Reference → Site
site_of end r = record {
  kind = r.kind;
  type_only = true;
  range = record { start = end - length r.from; end = end - length r.behind };
  value = r.value;
  attribute = Unknown;
}

-- line comments alone refer
abbrev pub reference_of : CommentKind → ℕ → List ℕ → Option Site
reference_of Line end text = option_map (site_of end) (reference_in text)
reference_of Block end text = None

abbrev pub is_shebang : TokenKind → Bool
is_shebang Shebang = true
is_shebang _ = false

-- the first token, or that behind the shebang
abbrev pub first_token : List Token → Option Token
first_token tokens = find (λ t. not (is_shebang t.kind)) tokens

abbrev pub is_before : Comment → Option Token → Bool
is_before comment None = true
is_before comment (Some first) = nat_le comment.range.end first.range.start

-- the site of a comment that refers and stands before the first token
abbrev pub sites_before : Option Token → Comment → List Site
sites_before first comment =
    if is_before comment first then option_to_list (reference_of comment.kind comment.range.end comment.text) else []

-- the sites of the reference comments of a text with these tokens and comments
unfoldable pub references_of : List Token → List Comment → List Site
references_of tokens comments = flat_map (sites_before (first_token tokens)) comments
